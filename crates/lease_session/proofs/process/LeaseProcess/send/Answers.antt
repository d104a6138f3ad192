use Rattle.std.proofs.Common.{refl, subst, sym, ◌∙◌, ap, List, ℕ, ◌++◌, Option}
use Rattle.lease_session.specs.Rows.{send, row_text}
use Rattle.lease_session.specs.Turns.{Carries}
use Rattle.lease_session.proofs.Turns.{fell, written}
use Rattle.lease_session.proofs.process.LeaseProcess.send.Goals as goal

pub returns-in-Ok-push_send-clause-turn : goal.returns-in-Ok-push_send-clause-turn
returns-in-Ok-push_send-clause-turn c = λ now.
    written (send c.args.to c.args.message.now c.in-Ok.bytes.items)
    (record { machine = refl; terms = refl; start = refl; key = c.bytes_of.ensures.key }) (λ out. out) (λ none. none)
    (c.in-Ok-push_send.ensures c.args.message.now
    ∙ ap (λ (b : List ℕ). c.args.self.now.text.items ++ row_text (send c.args.to c.args.message.now b)) c.deref.ensures.value)
    refl refl (λ terms at m clock is. record { by_step = λ x i. i; goes_to = c.requires; carried = c.in-Ok.ensures.bytes })

pub returns-in-Ok-push_send-clause-writes : goal.returns-in-Ok-push_send-clause-writes
returns-in-Ok-push_send-clause-writes c = λ none. (
  c.in-Ok.bytes.items,
  subst (λ (key : Option (List ℕ)). Carries key c.in-Ok.bytes.items c.args.message.now) (sym c.bytes_of.ensures.key) c.in-Ok.ensures.bytes,
  c.in-Ok-push_send.ensures c.args.message.now
      ∙ ap (λ (b : List ℕ). c.args.self.now.text.items ++ row_text (send c.args.to c.args.message.now b)) c.deref.ensures.value,
)

pub returns-in-Ok-clause-turn : goal.returns-in-Ok-clause-turn
returns-in-Ok-clause-turn c = λ now. fell refl refl refl c.bytes_of.ensures.key c.run_out.ensures
