use Rattle.std.proofs.Common.{◌≤◌, vec_capacity}
use Rattle.job_model.proofs.Packing.{IsRepacking}
use Rattle.job_model.proofs.job_list.repack.Given as goal

abbrev pub invariant-loop-row : goal.invariant-loop-row
invariant-loop-row l =
    record {
      packed : IsRepacking l.fn.payloads.items l.payloads.items l.initial.row-items l.row-items l.row-index;
      capacity : vec_capacity l.fn.payloads ≤ vec_capacity l.payloads;
    }
