use Rattle.std.proofs.Common.{◌≡◌, ◌+◌, ◌≤◌, ◌++◌, length, vec_len, vec_capacity}
use Rattle.wire_msg.proofs.writing.put_members.Given as goal

abbrev pub invariant-loop-id : goal.invariant-loop-id
invariant-loop-id l = record {
  written : l.out.items ++ l.id-iterator ≡ l.fn.out.items ++ l.fn.members;
  room : vec_len l.out + length l.id-iterator ≤ vec_capacity l.out;
}
