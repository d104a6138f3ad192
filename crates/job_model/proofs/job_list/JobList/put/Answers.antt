use Rattle.std.proofs.Common.{ℕ, List, length, map, ◌≡◌, ◌<◌, ◌++◌, ◌∷◌, [], refl, ◌∙◌, ap, sym, arith}
use Rattle.std.proofs.lemmas.List.{length-map, length-append}
use Rattle.job_model.specs.Gaps.{beside}
use Rattle.job_model.specs.JobLists.{JobRoom, kept_in}
use Rattle.job_model.specs.declared.kept_job.KeptJob.{KeptJob}
use Rattle.job_model.proofs.Packing.{pushed, pushed_read, pushed_within, pushed_count, chosen}
use Rattle.job_model.proofs.job_list.JobList.put.Goals as goal

pub invariant_of-self : goal.invariant_of-self
invariant_of-self c =
    let was = c.self.inside in
    let placed = c.make_place.new in
    let bytes = c.args.payload.now in
    let within = c.make_place.ensures.within in
    let more = c.push_reserved.ensures.items in
    let ok = c.extend_from_slice.ensures.succeeds (omega (arith, c.make_place.ensures.left, c.requires.fits)) in
    let all = chosen _ _ _ _ c.extend_from_slice.ensures.items ok in
    let same : length (beside placed.gap placed.rows.items) ≡ length (beside was.gap was.rows.items) =
    sym (length-map (beside placed.gap placed.rows.items) (kept_in placed.payloads.items))
    ∙ ap (λ (ks : List KeptJob). length ks) c.make_place.ensures.jobs
    ∙ length-map (beside was.gap was.rows.items) (kept_in was.payloads.items) in
    let long : length (map (kept_in was.payloads.items) (beside was.gap was.rows.items)) ≡ length (beside was.gap was.rows.items) =
    length-map (beside was.gap was.rows.items) (kept_in was.payloads.items) in
    let few : length (beside was.gap was.rows.items) < was.room = omega (
      arith,
      c.requires.room,
      long,
      ap (λ (list : JobRoom). length list.jobs) c.self.view_is,
      ap (λ (list : JobRoom). list.room) c.self.view_is,
    ) in
    record {
      within = pushed_within placed.rows.items c.push_reserved.new.self.items _ placed.gap within more;
      read = pushed_read placed.payloads.items bytes c.extend_from_slice.new.self.items placed.rows.items c.push_reserved.new.self.items _
          placed.gap c.make_place.ensures.read within more all (omega (arith, c.len.ensures, placed.payloads.ok)) refl c.requires.fits;
      few = omega (arith, few, same, pushed_count placed.rows.items c.push_reserved.new.self.items _ placed.gap within more);
      rows = omega (arith, c.self.invariant.rows, c.make_place.ensures.capacity);
      bytes = omega (arith, c.self.invariant.bytes, c.make_place.ensures.capacity);
      spare = omega (
        arith,
        c.make_place.ensures.left,
        c.requires.fits,
        ap (λ (xs : List ℕ). length xs) all,
        length-append placed.payloads.items bytes,
        placed.payloads.ok,
        c.extend_from_slice.new.self.ok,
        c.extend_from_slice.ensures.capacity,
      );
    }

pub returns : goal.returns
returns c =
    let was = c.self.inside in
    let placed = c.make_place.new in
    let bytes = c.args.payload.now in
    let ok = c.extend_from_slice.ensures.succeeds (omega (arith, c.make_place.ensures.left, c.requires.fits)) in
    let jobs = pushed placed.payloads.items bytes c.extend_from_slice.new.self.items placed.rows.items c.push_reserved.new.self.items _
    placed.gap c.make_place.ensures.read c.make_place.ensures.within
    c.push_reserved.ensures.items (chosen _ _ _ _ c.extend_from_slice.ensures.items ok)
    (omega (arith, c.len.ensures, placed.payloads.ok)) refl in
    let job : List ℕ → KeptJob = λ xs. record {
      origin = c.args.origin;
      job =
          record { id = c.args.id; work = record { queue = c.args.queue; priority = c.args.priority; payload = xs } };
    } in
    ap (λ (ks : List KeptJob). record { jobs = ks; room = was.room })
    (jobs ∙ ap (λ (ks : List KeptJob). ks ++ job bytes ∷ []) c.make_place.ensures.jobs)
    ∙ ap (λ (list : JobRoom). record list { jobs = list.jobs ++ job bytes ∷ [] }) c.self.view_is
