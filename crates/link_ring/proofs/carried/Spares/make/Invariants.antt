use Rattle.std.proofs.Common.{◌≤◌, vec_len}
use Rattle.link_ring.proofs.carried.Spares.make.Given as goal

-- a box for each number below
abbrev pub invariant-loop-spare : goal.invariant-loop-spare
invariant-loop-spare l = (l._spare ≤ vec_len l.self.boxes) × (vec_len l.fn.self.boxes ≤ vec_len l.self.boxes)
