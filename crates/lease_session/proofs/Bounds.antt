-- Up to which epoch a process grants, behind the calls of it.
use Rattle.std.proofs.Common.{◌≡◌, ℕ, ◌≤◌, Option, Some, sym, ◌∙◌, ap, arith}
use Rattle.std.specs.Prelude.{max}
use Rattle.lease_machine.specs.declared.state.LeaseMachine.{LeaseMachine}
use Rattle.lease_session.specs.declared.process.LeaseProcess.{LeaseProcess}
use Rattle.lease_session.specs.declared.process.Start.{Start}
use Rattle.lease_session.specs.Own.{IsWithin, bound_by}
use Rattle.lease_session.specs.Turns.{AllowsNoMore, AllowsUpTo, IsQuiet}

pub bound_kept : {a b : LeaseProcess} {x y : LeaseMachine} → b.start ≡ a.start → a.machine ≡ Some x → b.machine ≡ Some y → y.bound ≡ x.bound
    → AllowsNoMore a b
bound_kept {a = a} {b = b} start was is same = record {
  its_start = start;
  its_bound = ap (λ (o : Option LeaseMachine). bound_by b.start o) is
      ∙ (same ∙ sym (ap (λ (o : Option LeaseMachine). bound_by a.start o) was));
}

pub bound_quiet : {a b : LeaseProcess} → IsQuiet a b → AllowsNoMore a b
bound_quiet {a = a} {b = b} s = record {
  its_start = s.start;
  its_bound = ap (λ (o : Option LeaseMachine). bound_by b.start o) s.machine ∙ ap (λ (x : Start). bound_by x a.machine) s.start;
}

pub bound_then : {a b c : LeaseProcess} → AllowsNoMore a b → AllowsNoMore b c → AllowsNoMore a c
bound_then u v = record { its_start = v.its_start ∙ u.its_start; its_bound = v.its_bound ∙ u.its_bound }

-- ---- what the store reserved

pub within_still : (reserved : ℕ) {a b : LeaseProcess} → AllowsNoMore a b → IsWithin reserved a.start a.machine
    → IsWithin reserved b.start b.machine
within_still reserved s within = (let floor = ap (λ (x : Start). x.floor) s.its_start in let bound = s.its_bound in
    omega (arith, within, floor, bound))

pub within_quiet : (reserved : ℕ) {a b : LeaseProcess} → IsQuiet a b → IsWithin reserved a.start a.machine
    → IsWithin reserved b.start b.machine
within_quiet reserved s within = within_still reserved (bound_quiet s) within

pub within_up_to : (bound before reserved : ℕ) {a b : LeaseProcess} → AllowsUpTo bound a b → before ≤ reserved
    → bound ≤ max reserved a.start.floor
    → IsWithin before a.start a.machine → IsWithin reserved b.start b.machine
within_up_to bound before reserved s rises fits within =
    (let floor = ap (λ (x : Start). x.floor) s.its_start in let bound = s.its_bound in omega (arith, within, floor, bound, rises, fits))
