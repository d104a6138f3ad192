use Rattle.runs.proofs.Effects.{refused_changes_nothing, done_has_its_effect, down_refuses_compaction}
use Rattle.runs.proofs.ExactRuns.{none_is_spent}
use Rattle.runs.proofs.laws.acts_do_as_answered.Goals as goal

pub returns : goal.returns
returns c = record {
  refused = refused_changes_nothing;
  done = done_has_its_effect;
  down = down_refuses_compaction;
  unspent = none_is_spent;
}
