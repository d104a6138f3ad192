-- Votes and grants, as turns.
use Rattle.std.proofs.Common.{◌≡◌, ℕ, List, [], ◌∷◌, sym, ◌∙◌, ap, subst, inl, inr}
use Rattle.lease_runs.specs.Lists.{IsAmong}
use Rattle.lease_runs.specs.declared.client_id.ClientId.{ClientId}
use Rattle.lease_runs.specs.Voter.{Client}
use Rattle.lease_runs.specs.Code.{client_of}
use Rattle.lease_network.specs.Network.{Name, Message, request, grant}
use Rattle.lease_message.specs.declared.message.LeaseBody.{LeaseBody}
use Rattle.lease_message.specs.declared.message.LeaseBody.TheVariants as body
use Rattle.lease_message.specs.declared.message.LeaseMessage.{LeaseMessage}
use Rattle.lease_machine.specs.declared.terms.LeaseTerms.{LeaseTerms}
use Rattle.lease_machine.specs.declared.voting.Vote.{Vote}
use Rattle.lease_machine.specs.declared.voting.Vote.TheVariants as vote
use Rattle.lease_session.specs.declared.process.LeaseProcess.{LeaseProcess}
use Rattle.lease_session.specs.declared.asked.Came.{Came}
use Rattle.lease_session.specs.declared.refusing.Refusal.TheVariants as why
use Rattle.lease_session.specs.Lines.{brought_by}
use Rattle.lease_session.specs.Replies.{Asks, AsksFor, AsksOrEnds, IsFreeIn, Releases}
use Rattle.lease_session.specs.Rows.{asker, said, said_by}
use Rattle.lease_session.specs.Turns.{Requested, Turn, Voted, sent_in, who}
use Rattle.lease_session.proofs.Turns.{follow_more, nothing_had, sends_still, sent_both, sent_more, stay, then, then_had}

one_of : {message : Message} (sent : List Message) → IsAmong message sent → (x : Message) → IsAmong x (message ∷ []) → IsAmong x sent
one_of sent h x (inl e) = subst (λ (y : Message). IsAmong y sent) (sym e) h
one_of sent h x (inr i) = absurd i

-- what is brought may as well have been sent before
abbrev pub as_sent : {messages : List Message} {now : ℕ} {a b : LeaseProcess} → Turn [] messages now a b → Turn messages [] now a b
as_sent {messages = messages} {a = a} t = record {
  marks = t.marks;
  terms = t.terms;
  start = t.start;
  key = t.key;
  halts = t.halts;
  goes_on = t.goes_on;
  holders = t.holders;
  text = t.text;
  told = t.told;
  careful = t.careful;
  goes = λ terms at m clock is. let h = t.goes terms at m clock is in
      (follow_more terms (who a) at messages [] [] messages m t.marks (λ x i. inr i) (λ x i. absurd i) h.0, h.1);
}

abbrev pub as_brought : {messages : List Message} {now : ℕ} {a b : LeaseProcess} → Turn [] [] now a b → Turn [] messages now a b
as_brought {messages = messages} {a = a} t = record {
  marks = t.marks;
  terms = t.terms;
  start = t.start;
  key = t.key;
  halts = t.halts;
  goes_on = t.goes_on;
  holders = t.holders;
  text = t.text;
  told = t.told;
  careful = t.careful;
  goes = λ terms at m clock is. let h = t.goes terms at m clock is in
      (follow_more terms (who a) at [] [] messages [] m t.marks (λ x i. absurd i) (λ x i. i) h.0, h.1);
}

pub voted_behind : {r s : Vote} {name : Name} {client : Client} {number epoch now : ℕ} {a b c : LeaseProcess} → r ≡ s → Turn [] [] now a b
    → Voted r name client number epoch now b c
    → Voted s name client number epoch now a c
voted_behind {name = name} {client = client} {number = number} {a = a} same t v = record {
  turn = then_had (as_brought t) v.turn (λ x i. absurd i) (λ x i. inl i);
  grants = λ now_granted. subst (λ (l : List Message). IsAmong (grant name client number a.terms.machine) l)
      (sym (sent_both [] t.marks v.turn.marks))
      (sent_more [] (sent_in [] t.marks) v.turn.marks (λ x i. absurd i) (grant name client number a.terms.machine)
      (subst (λ (n : ℕ). IsAmong (grant name client number n) (sent_in [] v.turn.marks)) (ap (λ (x : LeaseTerms). x.machine) t.terms)
      (v.grants (same ∙ now_granted))));
}

pub voted_nothing : {r : Vote} {name : Name} {client : Client} {number epoch now : ℕ} {a b c : LeaseProcess} → Turn [] [] now a b
    → Voted r name client number epoch now b c
    → Voted vote.Refused name client number epoch now a c
voted_nothing t v = record { turn = then_had (as_brought t) v.turn (λ x i. absurd i) (λ x i. inl i); grants = λ refused. absurd cc }

pub then_voted : {name : Name} {asks : ClientId} {number epoch now : ℕ} {a b c : LeaseProcess} → Requested name asks number epoch now a b
    → Turn (request name (client_of asks) number epoch ∷ []) [] now b c → Turn [] [] now a c
then_voted r t = then_had r.turn t (one_of (sent_in [] r.turn.marks) r.sends) (nothing_had [] (sent_in [] r.turn.marks))

pub own_granted : {r : Vote} {name : Name} {client : Client} {number epoch now : ℕ} {a b c : LeaseProcess} (voter : ℕ)
    → voter ≡ a.terms.machine → r ≡ vote.Granted
    → Voted r name client number epoch now a b → Turn [] (grant name client number voter ∷ []) now b c
    → Turn (request name client number epoch ∷ []) [] now a c
own_granted {name = name} {client = client} {number = number} {epoch = epoch} {a = a} voter own granted v t =
    let sent = request name client number epoch ∷ [] in
    then_had (as_sent v.turn) t (λ x i. absurd i)
    (λ x i. inr (one_of (sent_in sent v.turn.marks) (sent_more [] sent v.turn.marks (λ y j. absurd j) (grant name client number voter)
    (subst (λ (n : ℕ). IsAmong (grant name client number n) (sent_in [] v.turn.marks)) (sym own) (v.grants granted))) x i))

pub own_refused : {r : Vote} {name : Name} {client : Client} {number epoch now : ℕ} {a b c : LeaseProcess}
    → Voted r name client number epoch now a b → Turn [] [] now b c
    → Turn (request name client number epoch ∷ []) [] now a c
own_refused v t = then (as_sent v.turn) t

-- ---- what a message brought

pub said_is : {a b : LeaseProcess} {now : ℕ} {messages : List Message} (m : LeaseMessage) → said m ≡ messages → Turn [] messages now a b
    → Turn [] (said m) now a b
said_is {a = a} {b = b} {now = now} m same t = subst (λ (l : List Message). Turn [] l now a b) (sym same) t

pub grant_said : (m : LeaseMessage) (number : ℕ) → m.body ≡ body.Grant number → (client : Client) → client ≡ asker m.client
    → said m ≡ grant m.name client number m.voter ∷ []
grant_said m number is client same = ap (λ (b : LeaseBody). said_by m b) is
    ∙ ap (λ (c : Client). grant m.name c number m.voter ∷ []) (sym same)

pub request_said : (m : LeaseMessage) (number keeps list : ℕ) → m.body ≡ body.Request number keeps list → (client : Client)
    → client ≡ asker m.client
    → said m ≡ request m.name client number m.epoch ∷ []
request_said m number keeps list is client same = ap (λ (b : LeaseBody). said_by m b) is
    ∙ ap (λ (c : Client). request m.name c number m.epoch ∷ []) (sym same)

-- a grant that is answered
pub answered : {r : Vote} {number now : ℕ} {a b c : LeaseProcess} (m : LeaseMessage) (client : Client) → client ≡ asker m.client
    → m.voter ≡ a.terms.machine → r ≡ vote.Granted
    → Voted r m.name client number m.epoch now a b → Turn (grant m.name (asker m.client) number m.voter ∷ []) [] now b c
    → Turn [] (request m.name client number m.epoch ∷ []) now a c
answered {number = number} {a = a} m client same voter granted v t =
    let is : grant m.name client number a.terms.machine ≡ grant m.name (asker m.client) number m.voter =
    ap (λ (c : Client). grant m.name c number a.terms.machine) same ∙ ap (λ (n : ℕ). grant m.name (asker m.client) number n) (sym voter) in
    then_had v.turn t (one_of (sent_in [] v.turn.marks) (subst (λ (x : Message). IsAmong x (sent_in [] v.turn.marks)) is
    (v.grants granted)))
    (nothing_had (request m.name client number m.epoch ∷ []) (sent_in [] v.turn.marks))

pub brought_is : {a b : LeaseProcess} {now : ℕ} (x : Came) {y : Came} → x ≡ y → Turn [] (brought_by y) now a b
    → Turn [] (brought_by x) now a b
brought_is {a = a} {b = b} {now = now} x same t = subst (λ (c : Came). Turn [] (brought_by c) now a b) (sym same) t

-- ---- who asks

-- a request, and what follows it
pub asked_voted : {name : Name} {asks : ClientId} {number epoch now : ℕ} {a b c : LeaseProcess} → Requested name asks number epoch now a b
    → Turn (request name (client_of asks) number epoch ∷ []) [] now b c → AsksFor name now a c
asked_voted {name = name} {asks = asks} {number = number} {epoch = epoch} r t = record {
  turn = then_had r.turn t (one_of (sent_in [] r.turn.marks) r.sends) (nothing_had [] (sent_in [] r.turn.marks));
  client = client_of asks;
  number = number;
  epoch = epoch;
  sends = sends_still (request name (client_of asks) number epoch) [] r.turn.marks t.marks r.sends;
}

pub asked_behind : {name : Name} {now : ℕ} {a b c : LeaseProcess} → Turn [] [] now a b → AsksFor name now b c → AsksFor name now a c
asked_behind {name = name} t q = record {
  turn = then_had t q.turn (λ x i. absurd i) (nothing_had [] (sent_in [] t.marks));
  client = q.client;
  number = q.number;
  epoch = q.epoch;
  sends = subst (λ (l : List Message). IsAmong (request name q.client q.number q.epoch) l) (sym (sent_both [] t.marks q.turn.marks))
      (sent_more [] (sent_in [] t.marks) q.turn.marks (λ x i. absurd i) (request name q.client q.number q.epoch) q.sends);
}

pub asks_behind : {name : Name} {user now : ℕ} {a b c : LeaseProcess} → Turn [] [] now a b → Asks name user now b c → Asks name user now a c
asks_behind t (inl q) = inl (record { kept = q.kept; by_then = then t q.by_then; free = q.free; asks = asked_behind t q.asks })
asks_behind t (inr q) = inr (record { kept = q.kept; by_then = then t q.by_then; reason = q.reason; right = q.right; told = q.told })

pub releases_behind : {name : Name} {user now : ℕ} {a b c : LeaseProcess} → Turn [] [] now a b → Releases name user now b c
    → Releases name user now a c
releases_behind t q = record { kept = q.kept; by_then = then t q.by_then; done = q.done }

-- who asks is free to, and asks, or finds no number or epoch left
pub asked_free : {name other : Name} {user also now : ℕ} {a b c : LeaseProcess} → other ≡ name → also ≡ user → IsFreeIn a.machine now name
    → Turn [] [] now a b
    → AsksOrEnds other also now b c → Asks name user now a c
asked_free {name = name} {user = user} {also = also} {now = now} {a = a} {b = b} {c = c} named used free t q =
    by (subst (λ (u : ℕ). AsksOrEnds name u now b c) used (subst (λ (n : Name). AsksOrEnds n also now b c) named q))
  where
    by : AsksOrEnds name user now b c → Asks name user now a c
    by (inl asks) = inl (record { kept = a; by_then = stay a; free = free; asks = asked_behind t asks })
    by (inr told) = inr (record { kept = a; by_then = stay a; reason = why.Exhausted; right = tt; told = told })
