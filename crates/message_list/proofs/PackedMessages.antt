-- What was kept of a message is that message again, and stays so whatever is kept after it.
use Rattle.std.proofs.Common.{◌≡◌, Bool, ℕ, ◌+◌, ◌<◌, ◌≤◌, List, [], ◌∷◌, ◌++◌, length, take, drop, map, All, refl, sym, ap, ◌∙◌, arith}
use Rattle.std.proofs.lemmas.List.{map-append, length-append, take-append-le, drop-append-le, length-drop, get_or_append_left}
use Rattle.std.proofs.Math.Seq.{drop-append_seam, get_or-append_seam}
use Rattle.std.proofs.lemmas.List.Elements.{All-head, All-tail, All-nil, All-cons, All-append, All-push, All-weaker, All-get_or}
use Rattle.job_model.specs.declared.payload.TheConstants.{PAYLOAD_CAPACITY}
use Rattle.group_task.specs.Assignment.{Assignment}
use Rattle.wire_msg.specs.Envelope.{Envelope}
use Rattle.wire_msg.specs.declared.body.Body.{Body}
use Rattle.wire_msg.specs.Kinds.{Shape, Brief, Tells, Gives, shape_of, body_of, no_group}
use Rattle.wire_msg.proofs.PublicLaws.{shaped}
use Rattle.message_list.specs.declared.packed_message.PackedKind.{PackedKind}
use Rattle.message_list.specs.declared.packed_message.PackedKind.TheVariants as kind
use Rattle.message_list.specs.declared.opened.Opened.{Opened}
use Rattle.message_list.specs.declared.packed_message.PackedMessage.{PackedMessage}
use Rattle.message_list.specs.declared.packed_message.PackedWork.{PackedWork}
use Rattle.message_list.specs.PackedMessages.{letter_by, letter_of, task_kept, work_kept, payload_kept, work_at, payload_of, work_said}
use Rattle.message_list.specs.PackedMessages.{shape_by, shape_kept, message_of, HasBody, CanBeRead, HasPayload, AreRead}
use Rattle.message_list.specs.Lent.{shape_opened, message_opened, IsOpened}
use Rattle.std.specs.Prelude.{IsTrue, ◌↔◌}

-- ---- more is kept, and a packed message says what it said

payload_same : (p more : List ℕ) (w : PackedWork) → HasPayload (length p) w → payload_of (p ++ more) w ≡ payload_of p w
payload_same p more w h =
    ap (λ (xs : List ℕ). take w.len xs) (drop-append-le w.start p more (omega (arith, h.within)))
    ∙ take-append-le w.len (drop w.start p) more (omega (arith, h.within, length-drop w.start p))

work_same : (w more : List PackedWork) (p bytes : List ℕ) (n : ℕ) → n < length w → All (HasPayload (length p)) w →
    work_said (p ++ bytes) (work_at (w ++ more) n) ≡ work_said p (work_at w n)
work_same w more p bytes n lt h =
    let d : PackedWork = record { group = no_group; id = 0; queue = 0; priority = 0; start = 0; len = 0 } in
    let x = work_at w n in
    ap (λ (y : PackedWork). work_said (p ++ bytes) y) (get_or_append_left w more d n lt)
    ∙ ap (λ (xs : List ℕ). Gives x.group x.id (record { queue = x.queue; priority = x.priority; payload = xs }))
    (payload_same p bytes (work_at w n) (All-get_or (HasPayload (length p)) w n d lt h))

shape_same : (t tasks : List Assignment) (w works : List PackedWork) (p bytes : List ℕ) (k : PackedKind) (l : PackedMessage) →
    HasBody (length t) (length w) k l → All (HasPayload (length p)) w →
    shape_by (t ++ tasks) (w ++ works) (p ++ bytes) k l ≡ shape_by t w p k l
shape_same t tasks w works p bytes (kind.Short k) l has h = refl
shape_same t tasks w works p bytes kind.Ready l has h = ap Tells
    (get_or_append_left t tasks (record { group = no_group; members = [] }) l.number has)
shape_same t tasks w works p bytes kind.Work l has h = work_same w works p bytes l.number has h

-- the message of a packed message that says this
abbrev said_between : PackedMessage → Shape → Envelope
said_between l shape = record { sender = l.sender; receiver = l.receiver; body = body_of shape }

letter_same : (t tasks : List Assignment) (w works : List PackedWork) (p bytes : List ℕ) (l : PackedMessage) →
    CanBeRead (length t) (length w) l → All (HasPayload (length p)) w
    → message_of (t ++ tasks) (w ++ works) (p ++ bytes) l ≡ message_of t w p l
letter_same t tasks w works p bytes l can h = ap (said_between l) (shape_same t tasks w works p bytes l.kind l can.body h)

letters_same : (t tasks : List Assignment) (w works : List PackedWork) (p bytes : List ℕ) (ls : List PackedMessage) →
    All (CanBeRead (length t) (length w)) ls → All (HasPayload (length p)) w →
    map (message_of (t ++ tasks) (w ++ works) (p ++ bytes)) ls ≡ map (message_of t w p) ls
letters_same t tasks w works p bytes [] can h = refl
letters_same t tasks w works p bytes (l ∷ ls) can h =
    ap (λ (m : Envelope). m ∷ map (message_of (t ++ tasks) (w ++ works) (p ++ bytes)) ls)
    (letter_same t tasks w works p bytes l (All-head (CanBeRead (length t) (length w)) l ls can) h)
    ∙ ap (λ (ms : List Envelope). message_of t w p l ∷ ms) (letters_same t tasks w works p bytes ls
    (All-tail (CanBeRead (length t) (length w)) l ls can) h)

-- ---- a message that was kept last is read back

payload_again : (p payload : List ℕ) → take (length payload) (drop (length p) (p ++ payload)) ≡ payload
payload_again p payload =
    ap (λ (xs : List ℕ). take (length payload) xs) (drop-append_seam p payload) ∙ take_whole payload
  where
    take_whole : (xs : List ℕ) → take (length xs) xs ≡ xs
    take_whole [] = refl
    take_whole (x ∷ xs) = ap (λ ys. x ∷ ys) (take_whole xs)

work_again : (w : List PackedWork) (p payload : List ℕ) (x : PackedWork) → x.start ≡ length p → x.len ≡ length payload →
    work_said (p ++ payload) (work_at (w ++ x ∷ []) (length w))
    ≡ Gives x.group x.id (record { queue = x.queue; priority = x.priority; payload = payload })
work_again w p payload x start len =
    ap (λ (y : PackedWork). work_said (p ++ payload) y) (get_or-append_seam w x [] (record {
      group = no_group;
      id = 0;
      queue = 0;
      priority =
          0;
      start = 0;
      len = 0;
    }))
    ∙ ap (λ (xs : List ℕ). Gives x.group x.id (record { queue = x.queue; priority = x.priority; payload = xs }))
    (rw (start, len) (payload_again p payload))

shape_again : (t : List Assignment) (w : List PackedWork) (p : List ℕ) (sender receiver : ℕ) (shape : Shape) →
    shape_kept (t ++ task_kept shape) (w ++ work_kept (length p) shape) (p ++ payload_kept shape)
    (letter_by (length t) (length w) sender receiver shape) ≡ shape
shape_again t w p sender receiver (Brief s) = refl
shape_again t w p sender receiver (Tells x) = ap Tells (get_or-append_seam t x [] (record { group = no_group; members = [] }))
shape_again t w p sender receiver (Gives g id x) = work_again w p x.payload (record {
  group = g;
  id = id;
  queue = x.queue;
  priority =
      x.priority;
  start = length p;
  len = length x.payload;
}) refl refl

-- what of a shape is kept: its packed message, and in the lists beside
abbrev pub shape_in : Envelope → Shape
shape_in m = shape_of m.body

-- an end of each packed message is that of its message
ends_by : (t w s r : ℕ) (shape : Shape) → ((letter_by t w s r shape).sender ≡ s) × ((letter_by t w s r shape).receiver ≡ r)
ends_by t w s r (Brief x) = (refl, refl)
ends_by t w s r (Tells x) = (refl, refl)
ends_by t w s r (Gives g id x) = (refl, refl)

pub message_again : (t : List Assignment) (w : List PackedWork) (p : List ℕ) (m : Envelope) →
    message_of (t ++ task_kept (shape_in m)) (w ++ work_kept (length p) (shape_in m)) (p ++ payload_kept (shape_in m))
    (letter_of (length t) (length w) m) ≡ m
message_again t w p m =
    let ends = ends_by (length t) (length w) m.sender m.receiver (shape_in m) in
    let shape = shape_again t w p m.sender m.receiver (shape_in m) in
    λ i. record { sender = ends.0 i; receiver = ends.1 i; body = (ap body_of shape ∙ shaped m.body) i }

-- the messages, with one more
pub messages_more : (ls : List PackedMessage) (t : List Assignment) (w : List PackedWork) (p : List ℕ) (m : Envelope) → AreRead ls t w p →
    map (message_of (t ++ task_kept (shape_in m)) (w ++ work_kept (length p) (shape_in m)) (p ++ payload_kept (shape_in m)))
    (ls ++ letter_of (length t) (length w) m ∷ [])
    ≡ map (message_of t w p) ls ++ m ∷ []
messages_more ls t w p m r =
    let f = message_of (t ++ task_kept (shape_in m)) (w ++ work_kept (length p) (shape_in m)) (p ++ payload_kept (shape_in m)) in
    map-append f ls (letter_of (length t) (length w) m ∷ [])
    ∙ ap (λ (ms : List Envelope). ms ++ f (letter_of (length t) (length w) m) ∷ [])
    (letters_same t (task_kept (shape_in m)) w (work_kept (length p) (shape_in m)) p (payload_kept (shape_in m)) ls r.each_letter
    r.each_work)
    ∙ ap (λ (x : Envelope). map (message_of t w p) ls ++ x ∷ []) (message_again t w p m)

-- ---- what is kept can be read

body_more : (tasks works more others : ℕ) (k : PackedKind) (l : PackedMessage) → HasBody tasks works k l
    → HasBody (tasks + more) (works + others) k l
body_more tasks works more others (kind.Short k) l h = h
body_more tasks works more others kind.Ready l h = omega (arith, h)
body_more tasks works more others kind.Work l h = omega (arith, h)

-- a new packed message has its body among what is kept with it
own_body : (t : List Assignment) (w : List PackedWork) (start sender receiver : ℕ) (shape : Shape) →
    CanBeRead (length t + 1) (length w + 1) (letter_by (length t) (length w) sender receiver shape) →
    CanBeRead (length (t ++ task_kept shape)) (length (w ++ work_kept start shape)) (letter_by (length t) (length w) sender receiver shape)
own_body t w start sender receiver (Brief s) h = record { differ = h.differ; body = h.body }
own_body t w start sender receiver (Tells x) h = record { differ = h.differ; body = omega (arith, length-append t (x ∷ [])) }
own_body t w start sender receiver (Gives g id x) h =
    record {
      differ = h.differ;
      body = omega (
        arith,
        length-append w (record {
          group = g;
          id = id;
          queue = x.queue;
          priority = x.priority;
          start = start;
          len =
              length x.payload;
        } ∷ []),
      );
    }

new_work : (p : List ℕ) (shape : Shape) → length (payload_kept shape) ≤ PAYLOAD_CAPACITY
    → All (HasPayload (length (p ++ payload_kept shape))) (work_kept (length p) shape)
new_work p (Brief s) few = All-nil (HasPayload (length (p ++ [])))
new_work p (Tells x) few = All-nil (HasPayload (length (p ++ [])))
new_work p (Gives g id x) few =
    let P = HasPayload (length (p ++ x.payload)) in
    All-cons P (record { group = g; id = id; queue = x.queue; priority = x.priority; start = length p; len = length x.payload }) []
    (record { within = omega (arith, length-append p x.payload); fits = few }) (All-nil P)

pub all_read_more : (ls : List PackedMessage) (t : List Assignment) (w : List PackedWork) (p : List ℕ) (m : Envelope) → AreRead ls t w p →
    CanBeRead (length t + 1) (length w + 1) (letter_of (length t) (length w) m) → length (payload_kept (shape_in m)) ≤ PAYLOAD_CAPACITY →
    AreRead (ls ++ letter_of (length t) (length w) m ∷ []) (t ++ task_kept (shape_in m)) (w ++ work_kept (length p) (shape_in m))
    (p ++ payload_kept (shape_in m))
all_read_more ls t w p m r can few =
    let tasks = task_kept (shape_in m) in
    let works = work_kept (length p) (shape_in m) in
    let bytes = payload_kept (shape_in m) in
    let more : (l : PackedMessage) → CanBeRead (length t) (length w) l → CanBeRead (length (t ++ tasks)) (length (w ++ works)) l =
    λ l h. record {
      differ = h.differ;
      body = rw (
        length-append t tasks,
        length-append w works,
      ) (body_more (length t) (length w) (length tasks) (length works) l.kind l h.body);
    } in
    let longer : (x : PackedWork) → HasPayload (length p) x → HasPayload (length (p ++ bytes)) x =
    λ x h. record { within = omega (arith, h.within, length-append p bytes); fits = h.fits } in
    record {
      each_letter = All-push (CanBeRead (length (t ++ tasks)) (length (w ++ works))) ls (letter_of (length t) (length w) m)
          (All-weaker (CanBeRead (length t) (length w)) (CanBeRead (length (t ++ tasks)) (length (w ++ works))) more ls r.each_letter)
          (own_body t w (length p) m.sender m.receiver (shape_in m) can);
      each_work = All-append (HasPayload (length (p ++ bytes))) w works
          (All-weaker (HasPayload (length p)) (HasPayload (length (p ++ bytes))) longer w r.each_work)
          (new_work p (shape_in m) few);
    }

-- ---- what a packed message says is what its body has

shape_back : (t : List Assignment) (w : List PackedWork) (p : List ℕ) (k : PackedKind) (l : PackedMessage)
    → HasBody (length t) (length w) k l → shape_of (body_of (shape_by t w p k l)) ≡ shape_by t w p k l
shape_back t w p (kind.Short k) l h = h.again
shape_back t w p kind.Ready l h = refl
shape_back t w p kind.Work l h = refl

-- one shape is one body
pub body_if : (t : List Assignment) (w : List PackedWork) (p : List ℕ) (l : PackedMessage) (b : Body) (same : Bool)
    → HasBody (length t) (length w) l.kind l
    → IsTrue same ↔ (shape_kept t w p l ≡ shape_of b) → IsTrue same ↔ (body_of (shape_kept t w p l) ≡ b)
body_if t w p l b same h is = (
  λ yes. ap body_of (is.0 yes) ∙ shaped b,
  λ one. is.1 (sym (shape_back t w p l.kind l h) ∙ ap shape_of one),
)

pub bodies_if : (one other : Opened) (same : Bool) → IsOpened one → IsOpened other
    → IsTrue same ↔ (shape_opened one ≡ shape_opened other) → IsTrue same ↔ (body_of (shape_opened one) ≡ body_of (shape_opened other))
bodies_if one other same h k is =
    let a = one.packed_message.now in
    let b = other.packed_message.now in (
      λ yes. ap body_of (is.0 yes),
      λ equal. is.1 (sym (shape_back one.tasks.now one.works.now one.payloads.now a.kind a h.body) ∙ ap shape_of equal
          ∙ shape_back other.tasks.now other.works.now other.payloads.now b.kind b k.body),
    )

-- the message of a packed message that can be read has the shape that is kept
pub lent_shape : (o : Opened) → IsOpened o → (m : Envelope) → m ≡ message_opened o → shape_opened o ≡ shape_in m
lent_shape o h m is =
    let l = o.packed_message.now in
    sym (shape_back o.tasks.now o.works.now o.payloads.now l.kind l h.body) ∙ ap (λ (e : Envelope). shape_in e) (sym is)

-- ---- a message that is added

-- Where each part was added as it was made for lists of these lengths, all can be read, and this message stands last.
pub added : (ls ls' : List PackedMessage) (t t' : List Assignment) (w w' : List PackedWork) (p p' : List ℕ) (m : Envelope)
    (made : PackedMessage) (shape : Shape)
    (tasks works begins : ℕ) → tasks ≡ length t → works ≡ length w → begins ≡ length p → shape ≡ shape_in m → made ≡ letter_of tasks works m
    → ls' ≡ ls ++ made ∷ [] → t' ≡ t ++ task_kept shape → w' ≡ w ++ work_kept begins shape → p' ≡ p ++ payload_kept shape
    → CanBeRead (tasks + 1) (works + 1) made → length (payload_kept shape) ≤ PAYLOAD_CAPACITY → AreRead ls t w p
    → AreRead ls' t' w' p' × (map (message_of t' w' p') ls' ≡ map (message_of t w p) ls ++ m ∷ [])
added ls ls' t t' w w' p p' m made shape tasks works begins so_many so_many_works from is made_so letters task work payload can few read =
    let made_here : made ≡ letter_of (length t) (length w) m = rw (← so_many, ← so_many_works) made_so in
    let can_here : CanBeRead (length t + 1) (length w + 1) (letter_of (length t) (length w) m) =
    rw (← made_here, ← so_many, ← so_many_works) can in
    let few_here : length (payload_kept (shape_in m)) ≤ PAYLOAD_CAPACITY = rw (← is) few in
    let letters_are : ls' ≡ ls ++ letter_of (length t) (length w) m ∷ [] = rw (letters, made_here) refl in
    let tasks_are : t' ≡ t ++ task_kept (shape_in m) = rw (task, is) refl in
    let works_are : w' ≡ w ++ work_kept (length p) (shape_in m) = rw (work, from, is) refl in
    let payloads_are : p' ≡ p ++ payload_kept (shape_in m) = rw (payload, is) refl in
    rw (letters_are, tasks_are, works_are, payloads_are) (all_read_more ls t w p m read can_here few_here, messages_more ls t w p m read)
