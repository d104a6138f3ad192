use Rattle.std.proofs.Common.{◌≡◌, ◌≤◌, ◌+◌, ◌-◌, ◌∙◌, ap, sym, inl, inr, refl, take, drop, None, arith, rules, get_or}
use Rattle.job_model.specs.declared.queue.TheConstants.{QUEUES}
use Rattle.disk_layout.specs.Blank.{is_blank}
use Rattle.job_model.proofs.RecordBytes.{job_at-read, job_at-none}
use Rattle.job_model.proofs.record.job_at.Goals as goal
use Rattle.job_model.proofs.record.job_at.Goals.{then-len-gt-PAYLOAD_CAPACITY-via-then-len-gt-PAYLOAD_CAPACITY}
use Rattle.job_model.proofs.record.job_at.Goals.{then-len-gt-PAYLOAD_CAPACITY-via-else-len-gt-PAYLOAD_CAPACITY+then-not-is_blank}

pub returns-in_err-queue : goal.returns-in_err-queue
returns-in_err-queue c =
    let none : c.from_residual.result ≡ None = search rules in
    none ∙ sym (job_at-none c.args.at c.args.priority c.args.sector.now (inl (c.in_err-queue.ensures.none.0 refl)))

pub returns-then-len-gt-PAYLOAD_CAPACITY : goal.returns-then-len-gt-PAYLOAD_CAPACITY
returns-then-len-gt-PAYLOAD_CAPACITY c =
    let body = c.args.sector.now in
    let at = c.args.at in
    let size = c.length_in-len.ensures in
    elim c.then-len-gt-PAYLOAD_CAPACITY.branch [
      | then-len-gt-PAYLOAD_CAPACITY-via-then-len-gt-PAYLOAD_CAPACITY w ↦
          sym (job_at-none at c.args.priority body (inr (inl (omega (arith, w.if-len-gt-PAYLOAD_CAPACITY.true, size)))))
      | then-len-gt-PAYLOAD_CAPACITY-via-else-len-gt-PAYLOAD_CAPACITY+then-not-is_blank w ↦
          sym (job_at-none at c.args.priority body (inr (inr (ap (λ k. is_blank (drop (at + 2 + k) body)) (sym size)
          ∙ sym w.is_blank.ensures ∙ w.if-not-is_blank.true))))
    ]

pub returns : goal.returns
returns c =
    let body = c.args.sector.now in
    let at = c.args.at in
    let high : QUEUES ≤ get_or body 9 0 → ⊥ = λ h. (let e = c.in_ok-queue.ensures.none.1 h in cc) in
    let len = c.length_in-len.result in
    let size : (at + 2 + len) - (at + 2) ≡ len = omega arith in
    let payload : c.in_ok-payload.payload ≡ take len (drop (at + 2) body) = c.in_ok-payload.ensures.value
    ∙ ap (λ k. take k (drop (at + 2) body)) size in
    sym (job_at-read at c.args.priority body len
    (record {
      id = c.id_in.result;
      work = record {
        queue = c.in_ok-queue.queue;
        priority = c.args.priority;
        payload =
            c.in_ok-payload.payload;
      };
    })
    c.told-sector c.requires c.length_in-len.ensures c.id_in.ensures c.in_ok-queue.ensures.value refl payload high
    c.if-len-gt-PAYLOAD_CAPACITY.false
    (sym c.is_blank.ensures ∙ c.if-not-is_blank.false))
