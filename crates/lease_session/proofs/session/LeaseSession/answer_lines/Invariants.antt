use Rattle.std.proofs.Common.{◌≡◌, ◌++◌, List, ℕ, length}
use Rattle.line_words.specs.Lines.{lines_of}
use Rattle.lease_session.specs.Feeding.{AreAnswered, at}
use Rattle.lease_session.proofs.session.LeaseSession.answer_lines.Given as goal

abbrev pub invariant-loop-line : goal.invariant-loop-line
invariant-loop-line g l = record {
  unread : l.self.unread ≡ l.fn.self.unread;
  so : (before : List (List ℕ)) × (lines_of l.fn.whole ≡ before ++ lines_of l.left)
      × AreAnswered before (at l.fn.self.participant.process l.fn.self.participant.told l.fn.self.stopped
      (g.S.EpochStore.bound l.fn.self.participant.store))
      (at l.self.participant.process l.self.participant.told l.self.stopped (g.S.EpochStore.bound l.self.participant.store));
}

abbrev pub decreases-loop-line : goal.decreases-loop-line
decreases-loop-line g l = length l.left
