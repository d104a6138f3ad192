use Rattle.std.proofs.Common.{◌≤◌, ◌==◌, ◌&&◌, not, Bool, List, All, length, filter, map, ◌∙◌, ap, sym, subst, arith}
use Rattle.std.proofs.lemmas.List.Elements.{All-filter}
use Rattle.job_model.specs.Gaps.{beside, IsWithin}
use Rattle.job_model.specs.JobLists.{JobRoom, HasPayload, kept_in}
use Rattle.job_model.specs.declared.job_list.PackedJob.{PackedJob}
use Rattle.job_model.specs.declared.kept_job.KeptJob.{KeptJob}
use Rattle.job_model.proofs.Packing.{filtered}
use Rattle.job_model.proofs.job_list.JobList.remove_all.Goals as goal

pub invariant_of-self : goal.invariant_of-self
invariant_of-self c =
    let was = c.self.inside in
    let test : PackedJob → Bool = λ row. not (row.origin == c.args.origin && row.id == c.args.id) in
    let P = HasPayload (length was.payloads.items) in
    record {
      within = subst (λ gap. IsWithin gap (length c.remove_rows.new.rows.items)) (sym c.close.ensures.gap)
          (record { order = omega arith; behind = omega arith });
      read = subst (λ gap. All P (beside gap c.remove_rows.new.rows.items)) (sym c.close.ensures.gap)
          (subst (λ (rows : List PackedJob). All P rows) (sym (c.remove_rows.ensures.rows
          ∙ ap (λ rows. filter test rows) c.close.ensures.items))
          (All-filter test P (beside was.gap was.rows.items) c.self.invariant.read));
      few = subst (λ gap. length (beside gap c.remove_rows.new.rows.items) ≤ was.room) (sym c.close.ensures.gap) (omega (
        arith,
        c.self.invariant.few,
        c.remove_rows.ensures.few,
        ap (λ (rows : List PackedJob). length rows) c.close.ensures.items,
      ));
      rows = omega (arith, c.self.invariant.rows, c.remove_rows.ensures.capacity, c.close.ensures.capacity);
      bytes = c.self.invariant.bytes;
      spare = c.self.invariant.spare;
    }

pub returns : goal.returns
returns c =
    let was = c.self.inside in
    let test : KeptJob → Bool = λ kept. not (kept.origin == c.args.origin && kept.job.id == c.args.id) in
    ap (λ gap. record { jobs = map (kept_in was.payloads.items) (beside gap c.remove_rows.new.rows.items); room = was.room })
    c.close.ensures.gap
    ∙ ap (λ (rows : List PackedJob). record { jobs = map (kept_in was.payloads.items) rows; room = was.room })
    (c.remove_rows.ensures.rows ∙ ap (λ rows. filter (λ row. test (kept_in was.payloads.items row)) rows) c.close.ensures.items)
    ∙ ap (λ (jobs : List KeptJob). record { jobs = jobs; room = was.room })
    (filtered was.payloads.items test (beside was.gap was.rows.items))
    ∙ ap (λ (list : JobRoom). record list { jobs = filter test list.jobs }) c.self.view_is
