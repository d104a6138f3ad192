-- What is salvaged of a disk that is large enough, and of one that isn't.
use Rattle.std.proofs.Common.{◌≡◌, ◌<◌, ◌≤◌, ℕ, List, [], length, nat_lt, true, false, Result, Ok, Err, IfOk, sym, subst, arith}
use Rattle.std.proofs.lemmas.Bool.Decides.{nat_tests}
use Rattle.std.specs.declared.alloc.AllocError.{AllocError}
use Rattle.sector_disk.specs.Disk.{Image}
use Rattle.node_store.specs.Store.{slots_for}
use Rattle.console_text.specs.Ends.{Printout, printout_of}
use Rattle.console_text.specs.declared.ends.CommandError.{CommandError}
use Rattle.store_console.specs.Held.{IsHeldBy}
use Rattle.store_console.specs.Printed.{too_small}
use Rattle.store_console.specs.Salvaged.{IsSalvage, IsSalvaged, IsSalvagedOr}

pub salvage_small : (bytes : List ℕ) (image : Image) (printout : Printout) (why : List ℕ) → IsHeldBy bytes image → length image < 24
    → printout ≡ too_small (length image) → why ≡ [] → IsSalvage bytes printout why
salvage_small bytes image printout why held few is none =
    let small : nat_lt (length image) 24 ≡ true = grind (arith, nat_tests, few) in
    record { image = image; held = held; salvaged = subst (λ b. IsSalvagedOr b image printout why) (sym small) (is, none) }

pub salvage_held : (bytes : List ℕ) (image : Image) (result : Result CommandError AllocError) → IsHeldBy bytes image → 24 ≤ length image
    → IfOk result (λ explained. IsSalvaged (slots_for (length image)) image (printout_of explained.printout) explained.why.items)
    → IfOk result (λ explained. IsSalvage bytes (printout_of explained.printout) explained.why.items)
salvage_held bytes image (Err e) held large is = tt
salvage_held bytes image (Ok explained) held large is =
    let enough : nat_lt (length image) 24 ≡ false = grind (arith, nat_tests, large) in
    record {
      image = image;
      held = held;
      salvaged = subst (λ b. IsSalvagedOr b image (printout_of explained.printout) explained.why.items)
          (sym enough) is;
    }
