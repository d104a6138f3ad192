use Rattle.std.proofs.Common.{◌≡◌, ◌∙◌, ltb, sym, ap, arith, rules}
use Rattle.std.proofs.lemmas.List.Sorted.{IsPartitionPoint-from_clause, IsPartitionedBy-ltb}
use Rattle.job_model.specs.declared.job_list.PackedJob.{PackedJob}
use Rattle.job_model.proofs.Rows.{IsEnd, rows_rise, found, missing}
use Rattle.job_model.proofs.job_list.place_of.Goals.{else-place-rows-via-then-place-rows+else-rows-place}
use Rattle.job_model.proofs.job_list.place_of.Goals.{else-place-rows-via-else-place-rows}
use Rattle.job_model.proofs.job_list.place_of.Goals as goal

pub returns-then-rows-place-clause-place : goal.returns-then-rows-place-clause-place
returns-then-rows-place-clause-place c payloads next r =
    let row = c.index-rows-place.result in
    let same : row.id ≡ c.args.id = search rules in
    found payloads c.args.rows.now c.args.id c.partition_point-place.result next row r (omega (arith, c.if-place-rows.true))
    (ap (λ (x : PackedJob). x.id) (sym c.index-rows-place.is) ∙ same)

pub returns-else-place-rows-clause-place : goal.returns-else-place-rows-clause-place
returns-else-place-rows-clause-place c payloads next r =
    let rows = c.args.rows.now in
    let id = c.args.id in
    let at = c.partition_point-place.result in
    let parted = IsPartitionedBy-ltb (λ (row : PackedJob). row.id) rows id (rows_rise payloads rows next r) in
    let point : IsEnd rows id at = IsPartitionPoint-from_clause (λ (row : PackedJob). ltb row.id id) rows at
    c.partition_point-place.ensures.partitioned parted (λ a r q k. search rules) in
    missing payloads rows id at next r c.partition_point-place.ensures.bound point
    (elim c.else-place-rows.branch [
      | else-place-rows-via-then-place-rows+else-rows-place w ↦
          λ on. (
            w.index-rows-place.result,
            λ is. omega (
              arith,
              w.if-rows-place.false,
              ap (λ (x : PackedJob). x.id) w.index-rows-place.is,
              is,
            ),
          )
      | else-place-rows-via-else-place-rows w ↦ λ on. absurd (omega (arith, on, w.if-place-rows.false))
    ])
