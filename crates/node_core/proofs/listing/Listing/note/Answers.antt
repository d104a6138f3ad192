use Rattle.node_core.proofs.Listings.{noted}
use Rattle.node_core.proofs.listing.Listing.note.Goals as goal

pub returns-in-Ok-true : goal.returns-in-Ok-true
returns-in-Ok-true c = λ jobs work lists whole.
    noted jobs (record { origin = c.args.origin; id = c.args.id; work = work }) c.number.result c.in-Ok-true.field-0
    c.args.self.now.keys.keys c.insert.new.self.keys c.number.ensures.value
    c.in-Ok-true.ensures.updates.0 c.in-Ok-true.ensures.added c.in-Ok-true.field-0-test (lists whole)
