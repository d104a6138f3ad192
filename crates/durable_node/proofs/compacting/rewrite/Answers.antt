use Rattle.durable_node.proofs.compacting.rewrite.Goals as goal

pub returns-in-Ok-clause-images : goal.returns-in-Ok-clause-images
returns-in-Ok-clause-images g c = λ honest. (c.compact.ensures.images honest c.requires.over.ready.whole).each
