-- What a message says to the policy of timers of who is sent it.
use Rattle.std.specs.Prelude.{Bool, true, false, if◌then◌else◌}
use Rattle.wire_msg.specs.Envelope.{Envelope}
use Rattle.wire_msg.specs.declared.body.Body.{Body}
use Rattle.wire_msg.specs.declared.body.Body.TheVariants as says
use Rattle.node_timers.specs.Retransmission.{is_check}
use Rattle.node_timers.specs.Policy.{Policy, answer_came, asked_by, heard_from, here_came, invited_by}

-- who looks for other coordinators, or says whether it is one, may be a member of any group
abbrev pub is_of_any_group : Body → Bool
is_of_any_group says.AreYouCoordinator = true
is_of_any_group (says.Coordinator agreed) = true
is_of_any_group body = false

-- a node says whether the receiver is its member, or whether it leads a group: it was asked for that. Or it invites the receiver
abbrev pub answer_by : Body → Policy → Policy
answer_by (says.Here group agreed) p = here_came group p
answer_by (says.Coordinator agreed) p = answer_came p
answer_by (says.Invitation group) p = invited_by group.creator p
answer_by body p = p

abbrev pub heard_by : Envelope → Policy → Policy
heard_by m p = if is_check m.body then asked_by m.sender p else (if is_of_any_group m.body then p else heard_from m.sender p)

abbrev pub told_by : Envelope → Policy → Policy
told_by m p = heard_by m (answer_by m.body p)
