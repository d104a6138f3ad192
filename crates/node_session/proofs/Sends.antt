-- The `send` lines of an answer are those of the messages that the step hands out.
use Rattle.std.proofs.Common.{◌≡◌, ℕ, suc, ◌+◌, ◌/◌, ◌%◌, ◌==◌, ◌&&◌, Bool, true, false, List, [], ◌∷◌, ◌++◌, filter, length, refl, sym, ap}
use Rattle.std.proofs.Common.{◌∙◌, arith, append_assoc, Option, Some, None, Ok}
use Rattle.std.specs.Prelude.{All, ◌<◌, ◌^◌, nat_lt, bytes_eq, codes, decimal, if◌then◌else◌, slice_index}
use Rattle.std.proofs.lemmas.Bool.{lt-ltb}
use Rattle.std.specs.Result.{result_ok}
use Rattle.std.proofs.lemmas.Bool.Decides.{nat_tests}
use Rattle.std.proofs.lemmas.List.Elements.{All-head, All-tail}
use Rattle.hex.specs.Hex.{decode_of, encode_lower, encode_with, lower_digits}
use Rattle.hex.proofs.HexLemmas.{decode_of-encode_lower}
use Rattle.line_words.specs.Lines.{bytes_of, lines_of}
use Rattle.line_words.specs.Words.{first_word, number_of, words_of}
use Rattle.schedule.specs.Fields.{kept_if}
use Rattle.group_task.specs.declared.node.TheConstants.{NODES}
use Rattle.wire_msg.specs.Envelope.{Envelope}
use Rattle.wire_msg.specs.Spelling.{spelling, IsMessage}
use Rattle.wire_msg.proofs.PublicLaws.{IsBytes-spelling}
use Rattle.sealed_msg.specs.Sealing.{sealed, stamped}
use Rattle.sealed_msg.specs.Stamps.{stamp_bytes}
use Rattle.sealed_msg.specs.Hmac.{hmac_by}
use Rattle.sealed_msg.specs.declared.stamp.Stamp.{Stamp}
use Rattle.node_session.specs.Seals.{SealKeys, key_of_line, key_to, line_by, message_by, message_in, number_by, numbered, receiver_in}
use Rattle.node_session.specs.Seals.{seal_of, sealed_lines, sent_word}
use Rattle.node_session.specs.Sending.{is_send, plain_sends, sealed_sends, send_of, sends_in, stamp_behind}
use Rattle.node_session.proofs.Rows.{both_lines, cut_first, hex_line, hex_word, number_line, number_word, one_line, word_alone, word_first}
use Rattle.node_session.proofs.Sealings.{numbered_more, sealed_more, some_line}

-- ---- a text of lines

-- a line that hands out nothing, without its line feed, or a message that is handed out
pub data Piece : Type 0 where
  Quiet : (line : List ℕ) → Piece
  Sends : (m : Envelope) → Piece

abbrev pub line_text : Piece → List ℕ
line_text (Quiet line) = line
line_text (Sends m) = send_of m (spelling m)

abbrev pub text_of : List Piece → List ℕ
text_of [] = []
text_of (p ∷ ps) = (line_text p ++ codes "\n") ++ text_of ps

abbrev pub messages_of : List Piece → List Envelope
messages_of [] = []
messages_of (Quiet line ∷ ps) = messages_of ps
messages_of (Sends m ∷ ps) = m ∷ messages_of ps

abbrev pub AreQuiet : List Piece → Type 0
AreQuiet [] = Unit {0}
AreQuiet (Quiet line ∷ ps) = one_line line × (is_send line ≡ false) × AreQuiet ps
AreQuiet (Sends m ∷ ps) = AreQuiet ps

-- ---- the line of a message

-- a number is read from its digits
abbrev pub Reads : Type 0
Reads = (n : ℕ) → n < 2 ^ 64 → number_of (decimal n) ≡ Some n

pub sent_line : (m : Envelope) (bytes : List ℕ) → one_line (send_of m bytes)
sent_line m bytes = both_lines (decimal m.receiver ++ codes " ") (encode_lower bytes)
    (both_lines (decimal m.receiver) (codes " ") (number_line m.receiver) refl) (hex_line bytes)

sent_words : (m : Envelope) (bytes : List ℕ) → words_of (send_of m bytes) ≡ codes "send" ∷ decimal m.receiver ∷ encode_lower bytes ∷ []
sent_words m bytes =
    word_first (codes "send") (decimal m.receiver ++ codes " " ++ encode_lower bytes) refl
    ∙ ap (λ (ws : List (List ℕ)). codes "send" ∷ ws) (ap words_of (append_assoc (decimal m.receiver) (codes " ") (encode_lower bytes))
    ∙ word_first (decimal m.receiver) (encode_lower bytes) (number_word m.receiver)
    ∙ ap (λ (ws : List (List ℕ)). decimal m.receiver ∷ ws) (word_alone (encode_lower bytes) (hex_word bytes)))

is_sent : (m : Envelope) (bytes : List ℕ) → is_send (send_of m bytes) ≡ true
is_sent m bytes = ap (λ (ws : List (List ℕ)). bytes_eq (first_word ws) (codes "send")) (sent_words m bytes)

-- more than one byte, so no dash
read_back : (a b : ℕ) (bytes : List ℕ) → decode_of (encode_lower (a ∷ b ∷ bytes)) ≡ Ok (a ∷ b ∷ bytes)
    → bytes_of (encode_lower (a ∷ b ∷ bytes)) ≡ Some (a ∷ b ∷ bytes)
unfolding encode_with
read_back a b bytes read =
    let whole = result_ok (decode_of (encode_with lower_digits (a ∷ b ∷ bytes))) in
    let dash = slice_index lower_digits (a / 16) == 45 in
    ap (λ (t : Bool). if dash && t then Some [] else whole) (no_zero (suc (suc (length (encode_with lower_digits bytes)))))
    ∙ (by_test dash whole ∙ ap result_ok read)
  where
    no_zero : (k : ℕ) → (suc k == 0) ≡ false
    no_zero k = grind (arith, nat_tests)

    by_test : (t : Bool) (whole : Option (List ℕ)) → (if t && false then Some [] else whole) ≡ whole
    by_test true whole = refl
    by_test false whole = refl

carries : (m : Envelope) → IsMessage m → message_in (send_of m (spelling m)) ≡ Some (spelling m)
carries m is =
    ap (λ (ws : List (List ℕ)). message_by (sent_word ws)) (sent_words m (spelling m))
    ∙ read_back _ _ _ (decode_of-encode_lower (spelling m) (IsBytes-spelling m is))

-- a line that doesn't begin with `send` hands out nothing
carries_no : (line : List ℕ) → is_send line ≡ false → message_in line ≡ None
carries_no line other = by_words (words_of line) other
  where
    by_words : (ws : List (List ℕ)) → bytes_eq (first_word ws) (codes "send") ≡ false → message_by (sent_word ws) ≡ None
    by_words [] other = refl
    by_words (name ∷ []) other = refl
    by_words (name ∷ to ∷ []) other = refl
    by_words (name ∷ to ∷ a ∷ []) other = ap (λ (b : Bool). message_by (if b then Some a else None)) other
    by_words (name ∷ to ∷ a ∷ b ∷ ws) other = refl

hex_both : (x y : List ℕ) → encode_lower (x ++ y) ≡ encode_lower x ++ encode_lower y
unfolding encode_with
hex_both [] y = refl
hex_both (b ∷ x) y = ap (λ (t : List ℕ). slice_index lower_digits (b / 16) ∷ slice_index lower_digits (b % 16) ∷ t) (hex_both x y)

-- the node that it hands it out to
sent_to : Reads → (keys : SealKeys) (m : Envelope) → IsMessage m → key_of_line keys (send_of m (spelling m)) ≡ key_to keys (Some m.receiver)
sent_to reads keys m is =
    let read = reads m.receiver (omega (arith, is.receiver)) in
    ap (λ (ws : List (List ℕ)). key_to keys (receiver_in ws)) (sent_words m (spelling m))
    ∙ (ap (λ (o : Option ℕ). key_to keys (kept_if (λ (n : ℕ). nat_lt n NODES) o)) read
    ∙ ap (λ (b : Bool). key_to keys (if b then Some m.receiver else None)) (lt-ltb m.receiver NODES is.receiver))

-- a line with the seal behind it is the line of the sealed message
sealed_line : Reads → (keys : SealKeys) (life n : ℕ) (m : Envelope) → IsMessage m
    → line_by keys (Some life) n (send_of m (spelling m)) (Some (spelling m))
    ≡ send_of m (sealed (key_to keys (Some m.receiver)) (spelling m) (stamp_behind life n)) ++ codes "\n"
sealed_line reads keys life n m is =
    let bytes = spelling m in
    let key = key_to keys (Some m.receiver) in
    let stamp : Stamp = stamp_behind life n in
    let seal = seal_of key bytes stamp in
    let whole : encode_lower (sealed key bytes stamp) ≡ encode_lower bytes ++ encode_lower seal =
    ap encode_lower (append_assoc bytes (stamp_bytes stamp) (hmac_by key (stamped bytes stamp))) ∙ hex_both bytes seal in
    let front = codes "send " ++ decimal m.receiver ++ codes " " in
    ap (λ (k : List ℕ). send_of m bytes ++ encode_lower (seal_of k bytes stamp) ++ codes "\n") (sent_to reads keys m is)
    ∙ ap (λ (x : List ℕ). x ++ codes "\n") (append_assoc front (encode_lower bytes) (encode_lower seal)
    ∙ ap (λ (x : List ℕ). front ++ x) (sym whole))

-- ---- the lines of a text

filter_first : (line : List ℕ) (ls : List (List ℕ)) (b : Bool) → is_send line ≡ b
    → filter is_send (line ∷ ls) ≡ (if b then line ∷ filter is_send ls else filter is_send ls)
filter_first line ls b is = ap (λ (t : Bool). if t then line ∷ filter is_send ls else filter is_send ls) is

sends_first : (line rest : List ℕ) → one_line line → is_send line ≡ true → sends_in ((line ++ codes "\n") ++ rest) ≡ line ∷ sends_in rest
sends_first line rest one is = ap (filter is_send) (cut_first line rest one) ∙ filter_first line (lines_of rest) true is

sends_later : (line rest : List ℕ) → one_line line → is_send line ≡ false → sends_in ((line ++ codes "\n") ++ rest) ≡ sends_in rest
sends_later line rest one other = ap (filter is_send) (cut_first line rest one) ∙ filter_first line (lines_of rest) false other

pub plain_so : (ps : List Piece) → AreQuiet ps → sends_in (text_of ps) ≡ plain_sends (messages_of ps)
plain_so [] quiet = refl
plain_so (Quiet line ∷ ps) quiet = sends_later line (text_of ps) quiet.0 quiet.1 ∙ plain_so ps quiet.2
plain_so (Sends m ∷ ps) quiet =
    sends_first (send_of m (spelling m)) (text_of ps) (sent_line m (spelling m)) (is_sent m (spelling m))
    ∙ ap (λ (ls : List (List ℕ)). send_of m (spelling m) ∷ ls) (plain_so ps quiet)

-- the first line sealed, and then the others
sealed_first : (keys : SealKeys) (life : Option ℕ) (n : ℕ) (line rest : List ℕ) (o : Option (List ℕ)) → one_line line → message_in line ≡ o
    → sealed_lines keys life n (lines_of ((line ++ codes "\n") ++ rest))
    ≡ line_by keys life n line o ++ sealed_lines keys life (number_by life n o) (lines_of rest)
sealed_first keys life n line rest o one is =
    ap (sealed_lines keys life n) (cut_first line rest one)
    ∙ (sealed_more keys life n line (lines_of rest) (some_line rest)
    ∙ ap (λ (m : Option (List ℕ)). line_by keys life n line m ++ sealed_lines keys life (number_by life n m) (lines_of rest)) is)

numbered_first : (life : Option ℕ) (n : ℕ) (line rest : List ℕ) (o : Option (List ℕ)) → one_line line → message_in line ≡ o
    → numbered life n (lines_of ((line ++ codes "\n") ++ rest)) ≡ numbered life (number_by life n o) (lines_of rest)
numbered_first life n line rest o one is =
    ap (numbered life n) (cut_first line rest one)
    ∙ (numbered_more life n line (lines_of rest) (some_line rest)
    ∙ ap (λ (m : Option (List ℕ)). numbered life (number_by life n m) (lines_of rest)) is)

pub sealed_so : Reads → (keys : SealKeys) (life n : ℕ) (ps : List Piece) → AreQuiet ps → All IsMessage (messages_of ps)
    → sends_in (sealed_lines keys (Some life) n (lines_of (text_of ps))) ≡ sealed_sends keys (Some life) n (messages_of ps)
sealed_so reads keys life n [] quiet all = refl
sealed_so reads keys life n (Quiet line ∷ ps) quiet all =
    ap sends_in (sealed_first keys (Some life) n line (text_of ps) None quiet.0 (carries_no line quiet.1))
    ∙ (sends_later line (sealed_lines keys (Some life) n (lines_of (text_of ps))) quiet.0 quiet.1
    ∙ sealed_so reads keys life n ps quiet.2 all)
sealed_so reads keys life n (Sends m ∷ ps) quiet all =
    let line = send_of m (spelling m) in
    let goes = send_of m (sealed (key_to keys (Some m.receiver)) (spelling m) (stamp_behind life n)) in
    let rest = sealed_lines keys (Some life) (n + 1) (lines_of (text_of ps)) in
    ap sends_in (sealed_first keys (Some life) n line (text_of ps) (Some (spelling m)) (sent_line m (spelling m))
    (carries m (All-head IsMessage m (messages_of ps) all))
    ∙ ap (λ (x : List ℕ). x ++ rest) (sealed_line reads keys life n m (All-head IsMessage m (messages_of ps) all)))
    ∙ (sends_first goes rest (sent_line m (sealed (key_to keys (Some m.receiver)) (spelling m) (stamp_behind life n)))
    (is_sent m (sealed (key_to keys (Some m.receiver)) (spelling m) (stamp_behind life n)))
    ∙ ap (λ (ls : List (List ℕ)). goes ∷ ls) (sealed_so reads keys life (n + 1) ps quiet (All-tail IsMessage m (messages_of ps) all)))

pub numbered_so : (life n : ℕ) (ps : List Piece) → AreQuiet ps → All IsMessage (messages_of ps)
    → numbered (Some life) n (lines_of (text_of ps)) ≡ n + length (messages_of ps)
numbered_so life n [] quiet all = omega arith
numbered_so life n (Quiet line ∷ ps) quiet all = numbered_first (Some life) n line (text_of ps) None quiet.0 (carries_no line quiet.1)
    ∙ numbered_so life n ps quiet.2 all
numbered_so life n (Sends m ∷ ps) quiet all =
    let later = numbered_so life (n + 1) ps quiet (All-tail IsMessage m (messages_of ps) all) in
    numbered_first (Some life) n (send_of m (spelling m)) (text_of ps) (Some (spelling m)) (sent_line m (spelling m))
    (carries m (All-head IsMessage m (messages_of ps) all)) ∙ omega (arith, later)

-- without a life none goes
pub none_so : (keys : SealKeys) (n : ℕ) (ps : List Piece) → AreQuiet ps → All IsMessage (messages_of ps)
    → (sends_in (sealed_lines keys None n (lines_of (text_of ps))) ≡ []) × (numbered None n (lines_of (text_of ps)) ≡ n)
none_so keys n [] quiet all = (refl, refl)
none_so keys n (Quiet line ∷ ps) quiet all =
    let later = none_so keys n ps quiet.2 all in (
      ap sends_in (sealed_first keys None n line (text_of ps) None quiet.0 (carries_no line quiet.1))
          ∙ (sends_later line (sealed_lines keys None n (lines_of (text_of ps))) quiet.0 quiet.1 ∙ later.0),
      numbered_first None n line (text_of ps) None quiet.0 (carries_no line quiet.1) ∙ later.1,
    )
none_so keys n (Sends m ∷ ps) quiet all =
    let later = none_so keys n ps quiet (All-tail IsMessage m (messages_of ps) all) in
    let line = send_of m (spelling m) in
    let is = carries m (All-head IsMessage m (messages_of ps) all) in (
      ap sends_in (sealed_first keys None n line (text_of ps) (Some (spelling m)) (sent_line m (spelling m)) is) ∙ later.0,
      numbered_first None n line (text_of ps) (Some (spelling m)) (sent_line m (spelling m)) is ∙ later.1,
    )
