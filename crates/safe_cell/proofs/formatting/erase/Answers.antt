use Rattle.std.proofs.Common.{rules, ap, arith, inl, inr, is_ok}
use Rattle.sector_disk.proofs.PublicLaws.{run_widen}
use Rattle.slot_gate.proofs.PublicLaws.{slot_same, writes_on}
use Rattle.safe_cell.specs.Formatted.{IsGate}
use Rattle.safe_cell.proofs.formatting.erase.Goals as goal

pub returns-in_err-unseal-clause-writes : goal.returns-in_err-unseal-clause-writes
returns-in_err-unseal-clause-writes g c = record { answers = grind arith; counts = grind arith; run = λ honest. search (rules, run_widen) }

pub returns-clause-writes : goal.returns-clause-writes
returns-clause-writes g c = writes_on (IsGate c.args.at) (λ k is. inl is) (λ k is. inr is)
    (ap is_ok c.in_ok-unseal.was) c.unseal.ensures.writes c.unseal-2.ensures.writes

pub returns-clause-first : goal.returns-clause-first
returns-clause-first g c = λ honest ok. grind (arith, slot_same)
