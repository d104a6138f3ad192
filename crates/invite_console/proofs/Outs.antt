-- The lines of a run, printed one after another.
use Rattle.std.proofs.Common.{◌≡◌, ℕ, ◌+◌, ◌<◌, ◌≤◌, Bool, List, ◌++◌, length, Option, Some, refl, subst, add-one, zero-le, get_or}
use Rattle.std.specs.Prelude.{codes, slice_get}
use Rattle.std.proofs.lemmas.Option.{slice_get_read}
use Rattle.wire_msg.specs.Envelope.{Envelope}
use Rattle.console_text.specs.Pages.{Hands}
use Rattle.console_text.proofs.PublicLaws.{hands_more, page_grows, page_stays}
use Rattle.invite_console.specs.declared.running.ActEnd.{ActEnd}
use Rattle.invite_console.specs.Acts.{sent_text}
use Rattle.invite_console.specs.Kept.{AreKept, between, lines, run_text, sent_at, written_at}

there_is : (xs : List ActEnd) (i : ℕ) (x : ActEnd) → i < length xs → x ≡ get_or xs i x → slice_get xs i ≡ Some x
there_is xs i x within read = slice_get_read xs (length xs) i x refl within read

lines_more : (names : Bool) (kept : List ActEnd) (text : List ℕ) (messages : List Envelope) (n sent written : ℕ) (k : ActEnd)
    → slice_get kept n ≡ Some k → sent ≡ sent_at kept n → written ≡ written_at kept n
    → lines names kept text messages n ++ (between written k.written text
    ++ (sent_text names sent (between sent k.sent messages) ++ codes "\n")) ≡ lines names kept text messages (n + 1)
lines_more names kept text messages n sent written k is_kept is_sent is_written = rw (add-one n, is_kept, is_sent, is_written) refl

-- the lines so far, and what is written behind them
pub record Goes (x y : Option (List ℕ)) (p q : List ℕ) (names : Bool) (kept : List ActEnd) (text : List ℕ) (messages : List Envelope)
    (n sent written : ℕ) : Type 0 where
  pub sent_is : sent ≡ sent_at kept n
  pub written_is : written ≡ written_at kept n
  pub within : written ≤ length text
  pub handed : Hands x p y q (lines names kept text messages n)

pub act_more : (names : Bool) (kept : List ActEnd) (text : List ℕ) (messages sent_so : List Envelope) (n sent written : ℕ) (k : ActEnd)
    (x y z u : Option (List ℕ)) (p q r s e part : List ℕ)
    → AreKept kept (length messages) (length text) → n < length kept → k ≡ get_or kept n k → sent_so ≡ messages
    → Goes x y p q names kept text messages n sent written
    → part ≡ between written k.written text → Hands y q z r part → Hands z r u s (sent_text names sent (between sent k.sent sent_so))
    → e ≡ s ++ codes "\n"
    → Goes x u p e names kept text messages (n + 1) k.sent k.written
act_more names kept text messages sent_so n sent written k x y z u p q r s e part are on read same so is_part front messages_out ended =
    let there = there_is kept n k on read in
    let here = between written k.written text in
    let said = sent_text names sent (between sent k.sent messages) in
    let first : Hands y q z r here = subst (λ (t : List ℕ). Hands y q z r t) is_part front in
    let rest : Hands z r u e (said ++ codes "\n") =
    hands_more z u u r s e said (codes "\n") (subst (λ (m : List Envelope). Hands z r u s (sent_text names sent (between sent k.sent m)))
    same messages_out) (page_grows u s e (codes "\n") ended) in
    record {
      sent_is = rw (add-one n, there) refl;
      written_is = rw (add-one n, there) refl;
      within = (are n k there).written_within;
      handed = subst (λ (t : List ℕ). Hands x p u e t) (lines_more names kept text messages n sent written k there so.sent_is so.written_is)
          (hands_more x y u p q e (lines names kept text messages n) (here
          ++ (said ++ codes "\n")) so.handed (hands_more y z u q r e here (said ++ codes "\n") first rest));
    }

-- behind the last act
pub rest_out : (names : Bool) (kept : List ActEnd) (text : List ℕ) (messages : List Envelope) (n sent written : ℕ) (x y z : Option (List ℕ))
    (p q r part : List ℕ)
    → n ≡ length kept → Goes x y p q names kept text messages n sent written → part ≡ between written (length text) text
    → Hands y q z r part
    → Hands x p z r (run_text names kept text messages)
rest_out names kept text messages n sent written x y z p q r part all so is_part table =
    let rest = between written (length text) text in
    let whole : lines names kept text messages n ++ rest ≡ run_text names kept text messages = rw (so.written_is, all) refl in
    subst (λ (t : List ℕ). Hands x p z r t) whole
    (hands_more x y z p q r (lines names kept text messages n) rest so.handed (subst (λ (t : List ℕ). Hands y q z r t) is_part table))

-- in front of the first act
pub nothing_out : (names : Bool) (kept : List ActEnd) (text : List ℕ) (messages : List Envelope) (x : Option (List ℕ)) (p : List ℕ)
    → Goes x x p p names kept text messages 0 0 0
nothing_out names kept text messages x p = record { sent_is = refl; written_is = refl; within = zero-le; handed = page_stays x p }
