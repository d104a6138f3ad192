-- Requests that are answered one after the other.
use Rattle.std.proofs.Common.{◌≡◌, ℕ, List, [], ◌∷◌, ◌++◌, None, Bool, false, length, arith, refl, subst, append_assoc, append-nil}
use Rattle.store_console.specs.declared.request.RequestLine.{RequestLine}
use Rattle.store_console.specs.declared.reply.Reply.{Reply}
use Rattle.store_console.specs.Explained.{Explains}
use Rattle.store_console.specs.Replies.{Mounted, RepliesOver, fails_after, reply_text}
use Rattle.store_console.specs.Session.{Answers, GoesOn}

pub one_more : (lines left : List RequestLine) (failed : Bool) (old new : Mounted) (line : RequestLine) (answered : Reply)
    (text more why said : List ℕ)
    → GoesOn lines failed old (line ∷ left) text why → RepliesOver failed old line.request answered new
    → more ≡ text ++ reply_text new answered
    → Explains why line.number answered said → GoesOn lines (fails_after failed line.request answered) new left more said
one_more lines left failed old new line answered text more why said so_far replied added explained rest after later =
    rw added (rw (append_assoc text (reply_text new answered) rest) (so_far (reply_text new answered ++ rest) after (
      answered,
      new,
      rest,
      said,
      replied,
      explained,
      later,
      refl,
    )))

pub no_more : (lines left : List RequestLine) (failed : Bool) (mounted : Mounted) (text why : List ℕ)
    → GoesOn lines failed mounted left text why
    → length left ≡ 0 → Answers false None lines [] text why
no_more lines [] failed mounted text why so_far none = subst (λ t. Answers false None lines [] t why) (append-nil text)
    (so_far [] why (refl, refl))
no_more lines (line ∷ left) failed mounted text why so_far none = absurd (omega arith)
