-- Pieces that are fed, one after another.
use Rattle.std.proofs.Common.{◌≡◌, ℕ, List, [], ◌∷◌, ◌++◌, refl, sym, ap, ◌∙◌, append_assoc, subst}
use Rattle.sector_disk.specs.Disk.{DiskState}
use Rattle.line_words.specs.Lines.{lines_of}
use Rattle.histories.specs.NodeState.{NodeState}
use Rattle.node_core.specs.State.{State}
use Rattle.node_session.specs.Timing.{Timers, AreSpent, AreTimedIn, Nothing, OwnTime, Spends}
use Rattle.node_session.specs.Lines.{At, after_line, after_lines}
use Rattle.node_session.specs.Chains.{LineOutcome}
use Rattle.node_session.specs.Serving.{Progress, Serves, Fed, FedAtOnce, at_of}
use Rattle.node_session.proofs.Lines.{timed_so}
use Rattle.node_session.proofs.Servings.{serves_none, serves_then}
use Rattle.node_session.proofs.Cutting.{lines_further}

-- one line more
pub line_more : (whole left behind : List ℕ) (before : List (List ℕ)) (line : List ℕ) → lines_of whole ≡ before ++ lines_of left
    → lines_of left ≡ line ∷ lines_of behind
    → lines_of whole ≡ (before ++ line ∷ []) ++ lines_of behind
line_more whole left behind before line so cut = so ∙ (ap (λ (ls : List (List ℕ)). before ++ ls) cut
    ∙ sym (append_assoc before (line ∷ []) (lines_of behind)))

-- the times that commands took, one behind another
spent_both : (self : ℕ) (s : State) (ms ns : List ℕ) (x y z : Timers) → AreSpent self s ms x y → AreSpent self s ns y z
    → AreSpent self s (ms ++ ns) x z
spent_both self s [] ns x y z first second = subst (λ (t : Timers). AreSpent self s ns t z) first second
spent_both self s (m ∷ ms) ns x y z first second = (first.0, first.1, spent_both self s ms ns first.0 y z first.2 second)

own_time_then : (self : ℕ) (s : NodeState) (x y z : Timers) → OwnTime self s x y → OwnTime self s y z → OwnTime self s x z
own_time_then self s x y z first second = (first.0 ++ second.0, spent_both self s.state first.0 second.0 x y z first.1 second.1)

pub any_cutting_so : {Disk : Type 0} (disks : Disk → DiskState) (old mid new : Progress Disk) (first second : List ℕ)
    → Fed disks old first mid → Fed disks mid second new → Fed disks old (first ++ second) new
any_cutting_so disks old mid new first second a b = record {
  lines = a.lines ++ b.lines;
  cut = ap lines_of (sym (append_assoc old.rest first second))
      ∙ (lines_further (old.rest ++ first) second a.lines mid.rest a.cut
      ∙ (ap (λ (ls : List (List ℕ)). a.lines ++ ls) b.cut ∙ sym (append_assoc a.lines b.lines (new.rest ∷ []))));
  serves = serves_then disks OwnTime own_time_then old mid new a.lines b.lines a.serves b.serves;
}

-- what was answered before stands in front
behind_text : {Disk : Type 0} (disks : Disk → DiskState) (mid new : Progress Disk) (piece : List ℕ)
    → Fed disks (record mid { text = [] }) piece new
    → Fed disks mid piece (record new { text = mid.text ++ new.text })
behind_text disks mid new piece a = record {
  lines = a.lines;
  cut = a.cut;
  serves = record {
    node = a.serves.node;
    served = λ was s is stands. (let x = a.serves.served was s is stands in
        record {
          all = x.all;
          came = x.came;
          exact = x.exact;
          timed = x.timed;
          messages = x.messages;
          honest = x.honest;
          state =
              x.state;
          stands = x.stands;
          left = x.left;
          text = ap (λ (t : List ℕ). mid.text ++ t) x.text;
        });
  };
}

pub any_clearing_so : {Disk : Type 0} (disks : Disk → DiskState) (old mid new : Progress Disk) (first second : List ℕ)
    → Fed disks old first mid → Fed disks (record mid { text = [] }) second new
    → Fed disks old (first ++ second) (record new { text = mid.text ++ new.text })
any_clearing_so disks old mid new first second a b =
    any_cutting_so disks old mid (record new { text = mid.text ++ new.text }) first second a (behind_text disks mid new second b)

-- what is kept of the input doesn't count
serves_rest : {Disk : Type 0} (disks : Disk → DiskState) (old new : Progress Disk) (lines : List (List ℕ)) (was now : List ℕ)
    → Serves disks Nothing (record old { rest = was }) new lines
    → Serves disks Nothing old (record new { rest = now }) lines
serves_rest disks old new lines was now a = record {
  node = a.node;
  served = λ was s is stands. (let x = a.served was s is stands in
      record {
        all = x.all;
        came = x.came;
        exact = x.exact;
        timed = x.timed;
        messages = x.messages;
        honest = x.honest;
        state =
            x.state;
        stands = x.stands;
        left = x.left;
        text = x.text;
      });
}

-- lines that are answered in one go
at_once_serves : {Disk : Type 0} (disks : Disk → DiskState) (old new : Progress Disk) (lines : List (List ℕ))
    → Serves disks Nothing old new lines → Serves disks OwnTime old new lines
at_once_serves disks old new lines a = record {
  node = a.node;
  served = λ was s is stands. (let x = a.served was s is stands in
      record {
        all = x.all;
        came = x.came;
        exact = x.exact;
        timed = timed_so Nothing OwnTime (λ self s x y same. (
          [],
          same,
        )) old.node.id old.node.nodes (at_of old s) lines x.all old.timers new.timers x.timed;
        messages = x.messages;
        honest = x.honest;
        state = x.state;
        stands = x.stands;
        left = x.left;
        text = x.text;
      });
}

pub at_once_so : {Disk : Type 0} (disks : Disk → DiskState) (old new : Progress Disk) (piece : List ℕ) → FedAtOnce disks old piece new
    → Fed disks old piece new
at_once_so disks old new piece fed = record { lines = fed.lines; cut = fed.cut; serves = at_once_serves disks old new fed.lines fed.serves }

-- a time that is told behind lines
taken_behind : (self nodes ms : ℕ) (a : At) (ls : List (List ℕ)) (cs : List LineOutcome) (old mid new : Timers)
    → AreTimedIn OwnTime self nodes a ls cs old mid → Spends self ms (after_lines self nodes a ls cs).state.state mid new
    → AreTimedIn OwnTime self nodes a ls cs old new
taken_behind self nodes ms a [] cs old mid new timed spends = own_time_then self a.state old mid new timed (ms ∷ [], (new, spends, refl))
taken_behind self nodes ms a (l ∷ ls) [] old mid new timed spends =
    own_time_then self a.state old mid new timed (ms ∷ [], (new, spends, refl))
taken_behind self nodes ms a (l ∷ ls) (c ∷ cs) old mid new timed spends =
    (timed.0, timed.1, timed.2, timed.3, taken_behind self nodes ms (after_line self nodes a l c) ls cs timed.1 mid new timed.4 spends)

pub any_taking_so : {Disk : Type 0} (disks : Disk → DiskState) (old new : Progress Disk) (piece : List ℕ) (ms : ℕ) (timers : Timers)
    → Fed disks old piece new
    → Spends new.node.id ms new.node.state new.timers timers → Fed disks old piece (record new { timers = timers })
any_taking_so disks old new piece ms timers fed spends = record {
  lines = fed.lines;
  cut = fed.cut;
  serves = record {
    node = fed.serves.node;
    served = λ was s is stands. (let x = fed.serves.served was s is stands in
        let id : Spends old.node.id ms new.node.state new.timers timers =
        subst (λ (n : ℕ). Spends n ms new.node.state new.timers timers) fed.serves.node.id spends in
        let state : new.node.state ≡ (after_lines old.node.id old.node.nodes (at_of old s) fed.lines x.all).state.state = x.stands.state
        ∙ ap (λ (a : At). a.state.state) x.left in
        record {
          all = x.all;
          came = x.came;
          exact = x.exact;
          timed = taken_behind old.node.id old.node.nodes ms (at_of old s) fed.lines x.all old.timers new.timers timers x.timed
              (subst (λ (v : State). Spends old.node.id ms v new.timers timers) state id);
          messages = x.messages;
          honest = x.honest;
          state = x.state;
          stands = x.stands;
          left = x.left;
          text = x.text;
        });
  };
}

-- a piece, as the code takes it
pub fed_so : {Disk : Type 0} (disks : Disk → DiskState) (old before end here : Progress Disk) (dest whole piece left rest : List ℕ)
    (lines : List (List ℕ)) → before ≡ old → dest ≡ [] → whole ≡ before.rest ++ piece
    → lines_of whole ≡ lines ++ left ∷ [] → Serves disks Nothing (record before { rest = dest }) end lines → end.rest ≡ dest → here ≡ end
    → rest ≡ here.rest ++ left
    → FedAtOnce disks old piece (record here { rest = rest })
fed_so disks old before end here dest whole piece left rest lines was none all cut serves kept is behind =
    let empty : here.rest ≡ [] = ap (λ p. p.rest) is ∙ (kept ∙ none) in
    let last : rest ≡ left = behind ∙ ap (λ (r : List ℕ). r ++ left) empty in
    subst (λ p. FedAtOnce disks p piece (record here { rest = rest })) was (record {
      lines = lines;
      cut = ap lines_of (sym all) ∙ (cut ∙ ap (λ (r : List ℕ). lines ++ r ∷ []) (sym last));
      serves = serves_rest disks before here lines dest rest (subst (λ p. Serves disks Nothing (record before { rest = dest }) p lines)
          (sym is) serves);
    })

-- a piece that ends no line
pub fed_more : {Disk : Type 0} (disks : Disk → DiskState) (old here : Progress Disk) (piece rest : List ℕ) → here ≡ old
    → rest ≡ here.rest ++ piece → lines_of rest ≡ rest ∷ []
    → FedAtOnce disks old piece (record here { rest = rest })
fed_more disks old here piece rest was is one = subst (λ p. FedAtOnce disks p piece (record here { rest = rest })) was (record {
  lines = [];
  cut = ap lines_of (sym is) ∙ one;
  serves = serves_rest disks here here [] here.rest rest (serves_none disks here);
})

-- a piece behind what was kept, which is taken together with it
pub fed_behind : {Disk : Type 0} (disks : Disk → DiskState) (old before new : Progress Disk) (dest whole piece : List ℕ) → before ≡ old
    → dest ≡ [] → whole ≡ before.rest ++ piece
    → FedAtOnce disks (record before { rest = dest }) whole new → FedAtOnce disks old piece new
fed_behind disks old before new dest whole piece was none all fed = subst (λ p. FedAtOnce disks p piece new) was (record {
  lines = fed.lines;
  cut = ap lines_of (sym all) ∙ (ap (λ (r : List ℕ). lines_of (r ++ whole)) (sym none) ∙ fed.cut);
  serves = serves_rest disks before new fed.lines dest new.rest fed.serves;
})
