-- What each kind of message is: its number, the group that it names, and its short form. A Ready and a Work have no short form.
use Rattle.std.specs.Prelude.{◌≡◌, ℕ, ◌≤◌, ◌==◌, Bool, true, false, if◌then◌else◌, Option, Some, None, is_some, MatchBool, ⊤}
use Rattle.job_model.specs.declared.work.Work.{Work as JobWork}
use Rattle.group_task.specs.Group.{Group}
use Rattle.group_task.specs.Assignment.{Assignment}
use Rattle.wire_msg.specs.declared.body.Body.{Body}
use Rattle.wire_msg.specs.declared.body.Body.TheVariants as says
use Rattle.wire_msg.specs.declared.body.Form.{Form}
use Rattle.wire_msg.specs.declared.body.Form.TheVariants as form
use Rattle.wire_msg.specs.declared.body.LentWork.{LentWork}
use Rattle.wire_msg.specs.declared.short.Kind.{Kind}
use Rattle.wire_msg.specs.declared.short.Kind.TheVariants as kind
use Rattle.wire_msg.specs.declared.short.Short.{Short}

-- the second byte of a spelling: a Work has kind 9 just where its priority is 0
abbrev pub kind_of : Body → ℕ
kind_of says.AreYouCoordinator = 1
kind_of (says.Coordinator answer) = 2
kind_of (says.AreYouThere g) = 3
kind_of (says.Here g answer) = 4
kind_of (says.Invitation g) = 5
kind_of (says.Accept g) = 6
kind_of (says.Ready t) = 7
kind_of (says.ReadyAck g) = 8
kind_of (says.Work g id w) = if w.priority == 0 then 9 else 11
kind_of (says.Done id) = 10

-- the group that a message names
abbrev pub group_in : Body → Option Group
group_in (says.AreYouThere group) = Some group
group_in (says.Here group agreed) = Some group
group_in (says.Invitation group) = Some group
group_in (says.Accept group) = Some group
group_in (says.Ready task) = Some task.group
group_in (says.ReadyAck group) = Some group
group_in (says.Work group id work) = Some group
group_in body = None

-- ---- shapes

-- a body has a short form, or it tells a task, or it gives a job
pub data Shape : Type 0 where
  Brief : (short : Short) → Shape
  Tells : (task : Assignment) → Shape
  Gives : (group : Group) (id : ℕ) (work : JobWork) → Shape

-- in place of a group that isn't named
abbrev pub no_group : Group
no_group = record { creator = 0; count = 0 }

-- a short form of this kind, with this group, or with the id of a job in place of its count, and with this answer
abbrev pub short_by : Kind → Group → Bool → Short
short_by k g answer = record { kind = k; answer = answer; creator = g.creator; number = g.count }

-- how each kind is kept
abbrev pub shape_of : Body → Shape
shape_of says.AreYouCoordinator = Brief (short_by kind.AreYouCoordinator no_group false)
shape_of (says.Coordinator answer) = Brief (short_by kind.Coordinator no_group answer)
shape_of (says.AreYouThere g) = Brief (short_by kind.AreYouThere g false)
shape_of (says.Here g answer) = Brief (short_by kind.Here g answer)
shape_of (says.Invitation g) = Brief (short_by kind.Invitation g false)
shape_of (says.Accept g) = Brief (short_by kind.Accept g false)
shape_of (says.Ready t) = Tells t
shape_of (says.ReadyAck g) = Brief (short_by kind.ReadyAck g false)
shape_of (says.Work g id w) = Gives g id w
shape_of (says.Done id) = Brief (short_by kind.Done (record { creator = 0; count = id }) false)

-- the body of this kind, with this group and this answer
abbrev pub said_by : Kind → Group → Bool → Body
said_by kind.AreYouCoordinator g answer = says.AreYouCoordinator
said_by kind.Coordinator g answer = says.Coordinator answer
said_by kind.AreYouThere g answer = says.AreYouThere g
said_by kind.Here g answer = says.Here g answer
said_by kind.Invitation g answer = says.Invitation g
said_by kind.Accept g answer = says.Accept g
said_by kind.ReadyAck g answer = says.ReadyAck g
said_by kind.Done g answer = says.Done g.count

-- the group of a short form, or the id in place of its count
abbrev pub group_of : Short → Group
group_of s = record { creator = s.creator; count = s.number }

-- the body that a short form says
abbrev pub said : Short → Body
said s = said_by s.kind (group_of s) s.answer

-- the Work whose payload is lent
abbrev pub given : LentWork → Body
given w = says.Work w.group w.id (record { queue = w.queue; priority = w.priority; payload = w.payload.now })

-- the body of this shape
abbrev pub body_of : Shape → Body
body_of (Brief s) = said s
body_of (Tells t) = says.Ready t
body_of (Gives g id w) = says.Work g id w

-- the short form of a body, where it has one
abbrev pub short_in : Shape → Option Short
short_in (Brief s) = Some s
short_in shape = None

abbrev pub short_of : Body → Option Short
short_of body = short_in (shape_of body)

-- whether a body of the kind names a group
abbrev pub names_group : Kind → Bool
names_group k = is_some (group_in (said_by k no_group false))

-- a group that it names has a count
abbrev pub IsCounted : Short → Type 0
IsCounted s = MatchBool (names_group s.kind) (1 ≤ s.number) ⊤

-- it is the short form of the body that it says
pub record IsShort (s : Short) : Type 0 where
  pub counted : IsCounted s
  pub again : shape_of (said s) ≡ Brief s

-- the shape as code has it
abbrev pub IsForm : Form → Shape → Type 0
IsForm (form.Short s) shape = (shape ≡ Brief s) × IsShort s
IsForm (form.Ready task) shape = shape ≡ Tells task.now
IsForm (form.Work g id work) shape = shape ≡ Gives g id work.now

-- ---- what short forms of a kind have

-- the number of the kind
abbrev pub number_of : Kind → ℕ
number_of k = kind_of (said_by k no_group false)

-- the kind of this number
abbrev pub kind_numbered : ℕ → Option Kind
kind_numbered n =
    if n == 1 then Some kind.AreYouCoordinator else
    if n == 2 then Some kind.Coordinator else
    if n == 3 then Some kind.AreYouThere else
    if n == 4 then Some kind.Here else
    if n == 5 then Some kind.Invitation else
    if n == 6 then Some kind.Accept else
    if n == 8 then Some kind.ReadyAck else
    if n == 10 then Some kind.Done else None

-- whether a body of the kind has an answer
abbrev pub has_answer : Kind → Bool
has_answer kind.Coordinator = true
has_answer kind.Here = true
has_answer k = false

-- whether it has the id of a job
abbrev pub has_id : Kind → Bool
has_id kind.Done = true
has_id k = false
