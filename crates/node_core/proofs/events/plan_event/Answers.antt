use Rattle.std.proofs.Common.{◌≡◌}
use Rattle.std.specs.Prelude.{Result, Ok, Err, IfOk, MatchResult}
use Rattle.std.specs.Result.{is_ok}
use Rattle.node_core.proofs.events.plan_event.Goals as goal

-- what holds of a plan holds of it where the refusal is named otherwise
renamed : {T E F : Type 0} (P : T → Type 0) (Q : E → Type 0) (r : Result T E) (out : Result T F) → MatchResult r (λ x. out ≡ Ok x) Q
    → is_ok out ≡ is_ok r
    → IfOk r P → IfOk out P
renamed P Q (Ok x) out is same holds = rw is holds
renamed P Q (Err e) (Ok y) is same holds = cc
renamed P Q (Err e) (Err f) is same holds = tt

pub returns-else-not-is-clause-plan : goal.returns-else-not-is-clause-plan
returns-else-not-is-clause-plan c =
    rw c.in-Submit.is (renamed _ _ c.submit.result c.map_err-in-Submit.result c.map_err-in-Submit.ensures.cases
    c.map_err-in-Submit.ensures.variant (c.submit.ensures.row c.args.table.now.pending))
