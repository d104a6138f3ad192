-- What is drawn as jitter, and the length of a wait that has it.
use Rattle.std.proofs.Common.{◌≡◌, ◌≤◌, ◌+◌, ℕ, Bool, Option, None, arith, sym, subst}
use Rattle.rand_pcg.specs.Lcg.{Lcg}
use Rattle.node_timers.specs.declared.timer_settings.TimerSettings.{TimerSettings}
use Rattle.node_timers.specs.Jitter.{drawn}
use Rattle.node_timers.specs.Timers.{least_at}

pub drawn_fits : (most : ℕ) (g : Lcg) → drawn most g ≤ most
unfolding drawn
drawn_fits most g = grind arith

-- what doesn't come soon lasts as long as its parts
pub length_so : (soon : Option Bool) (s : TimerSettings) (least jitter more a b c : ℕ) → soon ≡ None → a ≡ least → b ≡ jitter → c ≡ more
    → a + b + c ≡ least_at soon s (least + jitter) + more
length_so soon s least jitter more a b c none first second third =
    subst (λ (o : Option Bool). a + b + c ≡ least_at o s (least + jitter) + more) (sym none) (omega (arith, first, second, third))
