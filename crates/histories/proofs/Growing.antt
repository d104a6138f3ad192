-- Histories grow at their end.
use Rattle.std.proofs.Common.{[], ◌∷◌, refl}
use Rattle.histories.specs.After.{after}
use Rattle.histories.specs.History.{HistoryGoesOn, SlotsGoOn}

pub history_goes_on : HistoryGoesOn
history_goes_on self nodes s [] e follows may sent = ((may, sent, tt), refl)
history_goes_on self nodes s (x ∷ es) e follows may sent =
    let rest = history_goes_on self nodes (after self nodes s x.what) es e follows.2 may sent in
    ((follows.0, follows.1, rest.0), rest.1)

pub slots_go_on : SlotsGoOn
slots_go_on slots self nodes s [] e fits may = (may, tt)
slots_go_on slots self nodes s (x ∷ es) e fits may = (fits.0, slots_go_on slots self nodes (after self nodes s x.what) es e fits.1 may)
