-- When a node asked others, and so how long ago what an answer answers was asked.
use Rattle.std.specs.Prelude.{ℕ, if◌then◌else◌, Option, Some, None}
use Rattle.group_task.specs.Group.{Group, same_group}
use Rattle.node_timers.specs.declared.wait.Wait.{Wait}
use Rattle.node_timers.specs.declared.wait.Wait.TheVariants.{Merge, Answer}
use Rattle.node_timers.specs.declared.questions.Question.{Question}
use Rattle.node_timers.specs.declared.questions.Questions.{Questions}

abbrev pub none_asked : Questions
none_asked = record { last = None; here = None; left = None }

-- when this was asked, where it was the coordinator of that group
abbrev pub asked_of : Group → Option Question → Option ℕ
asked_of group None = None
asked_of group (Some q) = if same_group q.group group then Some q.asked else None

abbrev pub first_of : Option ℕ → Option ℕ → Option ℕ
first_of None second = second
first_of (Some asked) second = Some asked

-- when the coordinator of this group was asked last: the node's own, or that of the group in which it asked before
abbrev pub asked_in : Group → Questions → Option ℕ
asked_in group q = first_of (asked_of group q.here) (asked_of group q.left)

-- once a node asks in another group, the last question of the one before is kept
abbrev pub kept_of : Group → Option Question → Option Question → Option Question
kept_of group None left = left
kept_of group (Some q) left = if same_group q.group group then left else Some q

abbrev pub there_asked : Group → Option ℕ → Questions → Questions
there_asked group None q = record q { last = None }
there_asked group (Some asked) q = record {
  last = Some asked;
  here = Some (record { group = group; asked = asked });
  left =
      kept_of group q.here q.left;
}

-- once the deadline of this wait is set, in a group and where it is so late
abbrev pub asks_at : Wait → Group → Option ℕ → Questions → Questions
asks_at Merge group told q = record q { last = told }
asks_at Answer group told q = there_asked group told q
asks_at wait group told q = q

-- what the node asks from now on wasn't asked at a time that was told
abbrev pub forgotten : Questions → Questions
forgotten q = record q { last = None; here = None }
