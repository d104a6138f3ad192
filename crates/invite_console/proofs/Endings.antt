-- How a command ends that prints its printout.
use Rattle.std.proofs.Common.{ℕ, Bool, true, false, List, Option, Some, refl}
use Rattle.console_text.specs.declared.ends.ExitKind.{ExitKind}
use Rattle.console_text.specs.declared.ends.ExitKind.TheVariants.{Done, Refused, NoMemory, Unread, Unwritten}
use Rattle.console_text.specs.Ends.{Printout, Prints, PrintsText, ending_of}

-- the printout for an input was printed
pub prints_explained : (Is : List ℕ → Printout → Type 0) (input text : List ℕ) (good : Bool) (old new : Option (List ℕ)) (ending : ExitKind)
    → Is input (record { text = text; good = good })
    → PrintsText text old new (ending_of good) ending → Prints Is (Some input) old new ending
prints_explained Is input text good old new Done is it = (input, record { text = text; good = good }, refl, is, it.0, it.1)
prints_explained Is input text good old new Refused is it = (input, record { text = text; good = good }, refl, is, it.0, it.1)
prints_explained Is input text true old new NoMemory is it = absurd cc
prints_explained Is input text false old new NoMemory is it = absurd cc
prints_explained Is input text true old new Unread is it = absurd cc
prints_explained Is input text false old new Unread is it = absurd cc
prints_explained Is input text good old new Unwritten is it = tt
