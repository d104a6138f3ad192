use Rattle.std.proofs.Common.{◌≡◌, ◌++◌, ◌∙◌, List, [], All, length, subst, sym, ap, rules}
use Rattle.std.proofs.lemmas.List.{append-nil}
use Rattle.std.proofs.lemmas.List.Elements.{All-tail}
use Rattle.job_model.specs.declared.job_list.PackedJob.{PackedJob}
use Rattle.job_model.specs.JobLists.{HasPayload}
use Rattle.job_model.proofs.job_list.KeptIterIterator.next.Goals.{then-is_empty, else-is_empty}
use Rattle.job_model.proofs.Gapped.{no_items}
use Rattle.job_model.proofs.job_list.KeptIterIterator.next.Goals as goal

pub invariant_of-self-2 : goal.invariant_of-self-2
invariant_of-self-2 c =
    let was = c.self.inside in
    let is = c.if-is_empty.self-inside in
    let P = HasPayload (length is.payloads.now) in
    let all : All P (is.rows.now ++ is.behind.now) = (elim c.if-is_empty.branch [
      | then-is_empty w ↦
          let none : was.rows.now ≡ [] = no_items was.rows.now (search (rules, w.if-is_empty.ensures)) in
          subst (λ a. All (HasPayload (length a.payloads.now)) (a.rows.now ++ a.behind.now)) (sym w.self-inside-is)
          (subst (λ rows. All (HasPayload (length was.payloads.now)) rows)
          (ap (λ (rows : List PackedJob). rows ++ was.behind.now) none ∙ sym (append-nil was.behind.now)) c.self.invariant)
      | else-is_empty w ↦
          subst (λ a. All (HasPayload (length a.payloads.now)) (a.rows.now ++ a.behind.now)) (sym w.self-inside-is) c.self.invariant
    ]) in
    All-tail P c.in_ok-row.row.now (c.in_ok-row.rest.now ++ is.behind.now)
    (subst (λ (rows : List PackedJob). All P (rows ++ is.behind.now)) c.in_ok-row.ensures.cases.0 all)
