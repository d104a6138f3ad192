use Rattle.core_tests.proofs.tests.stores.make.Goals as goal

pub returns-in-Put : goal.returns-in-Put
returns-in-Put g c = c.put.ensures.tries.areas.sound c.requires
