-- What is fed and written, piece by piece.
use Rattle.std.proofs.Common.{◌≡◌, ℕ, List, [], ◌++◌, Option, None, refl, sym, ap, ◌∙◌, append_assoc, append-nil, subst, true, inl, inr}
use Rattle.std.specs.Io.KnownBytes.{Appends, Consumes, Keeps}
use Rattle.std.specs.declared.io.Error.{Error}
use Rattle.sector_disk.specs.Disk.{DiskState}
use Rattle.node_session.specs.Serving.{Progress, Fed, AnyClearing, AnyCutting}
use Rattle.node_server.specs.declared.serving.ServingEnd.TheVariants as end
use Rattle.node_server.proofs.Bytes.{appends_more, appends_none, consumes_keeps, consumes_more, consumes_none, keeps_more, keeps_on}
use Rattle.node_server.proofs.Bytes.{keeps_same}
use Rattle.node_server.specs.Served.{AppendsFront, IsAnswered, IsAnsweredUpTo, IsBroken, IsBrokenOff, IsLineBroken, IsLineEnd, IsLost}
use Rattle.node_server.specs.Served.{IsServed}

-- The front of a piece was fed, and this was written of the answers. What is fed further is fed behind it.
pub record GoesOn {Disk : Type 0} (disks : Disk → DiskState) (old now : Progress Disk) (piece left : List ℕ)
    (before here : Option (List ℕ)) : Type 0 where
  pub text : List ℕ
  pub front : List ℕ
  pub cut : piece ≡ front ++ left
  pub printed : Appends before here text
  pub on : (more : List ℕ) (new : Progress Disk) → Fed disks now more new
      → Fed disks old (front ++ more) (record new { text = text ++ new.text })
  pub so : IsAnsweredUpTo disks old now front before here

pub begins : {Disk : Type 0} (disks : Disk → DiskState) (s : Progress Disk) (piece : List ℕ) (a : Option (List ℕ))
    → GoesOn disks s s piece piece a a
begins disks s piece a = record {
  text = [];
  front = [];
  cut = refl;
  printed = appends_none a;
  on = λ more new fed. fed;
  so =
      inr (refl, refl, keeps_same a);
}

-- a line was fed
line_fed : {Disk : Type 0} (disks : Disk → DiskState) → AnyCutting disks
    → (old now mid : Progress Disk) (piece line rest : List ℕ) (before here next : Option (List ℕ))
    → GoesOn disks old now piece (line ++ rest) before here → Fed disks now line mid → Keeps here next
    → GoesOn disks old mid piece rest before next
line_fed {Disk} disks cutting old now mid piece line rest before here next goes fed keeps = record {
  text = goes.text;
  front = goes.front ++ line;
  cut = goes.cut ∙ sym (append_assoc goes.front line rest);
  printed = keeps_on before here next goes.text goes.printed keeps;
  on = λ more new further. subst (λ (l : List ℕ). Fed disks old l (record new { text = goes.text ++ new.text }))
      (sym (append_assoc goes.front line more))
      (goes.on (line ++ more) new (cutting now mid new line more fed further));
  so = inl (record { text = goes.text; fed = goes.on line mid fed; printed = keeps_on before here next goes.text goes.printed keeps });
}

-- and its answer written
line_out : {Disk : Type 0} (disks : Disk → DiskState) → AnyClearing disks
    → (old now mid : Progress Disk) (piece line rest : List ℕ) (before here next : Option (List ℕ))
    → GoesOn disks old now piece (line ++ rest) before here → Fed disks now line mid → Appends here next mid.text
    → GoesOn disks old (record mid { text = [] }) piece rest before next
line_out {Disk} disks clearing old now mid piece line rest before here next goes fed out = record {
  text = goes.text ++ mid.text;
  front = goes.front ++ line;
  cut = goes.cut ∙ sym (append_assoc goes.front line rest);
  printed = appends_more before here next goes.text mid.text goes.printed out;
  on = λ more new further. subst (λ (l : List ℕ). Fed disks old l (record new { text = (goes.text ++ mid.text) ++ new.text }))
      (sym (append_assoc goes.front line more))
      (subst (λ (t : List ℕ). Fed disks old (goes.front ++ (line ++ more)) (record new { text = t }))
      (sym (append_assoc goes.text mid.text new.text))
      (goes.on (line ++ more) (record new { text = mid.text ++ new.text }) (clearing now mid new line more fed further)));
  so = inl (record {
    text = goes.text ++ mid.text;
    fed = subst (λ (t : List ℕ). Fed disks old (goes.front ++ line) (record mid { text = t })) (sym (append-nil (goes.text ++ mid.text)))
        (goes.on line mid fed);
    printed = appends_more before here next goes.text mid.text goes.printed out;
  });
}

pub line_on : {Disk : Type 0} (disks : Disk → DiskState) → AnyCutting disks → AnyClearing disks
    → (old now new : Progress Disk) (piece line rest : List ℕ) (before here next : Option (List ℕ))
    → GoesOn disks old now piece (line ++ rest) before here → IsLineEnd disks now new line here next None
    → GoesOn disks old new piece rest before next
line_on disks cutting clearing old now new piece line rest before here next goes (inl fed) =
    line_fed disks cutting old now new piece line rest before here next goes fed.0 fed.1
line_on {Disk} disks cutting clearing old now new piece line rest before here next goes (inr out) =
    subst (λ (s : Progress Disk). GoesOn disks old s piece rest before next) (sym out.2)
    (line_out disks clearing old now out.0 piece line rest before here next goes out.1 out.3)

-- what was left was fed, and all answers are written
pub all_out : {Disk : Type 0} (disks : Disk → DiskState) (old now mid : Progress Disk) (piece left : List ℕ)
    (before here next : Option (List ℕ))
    → GoesOn disks old now piece left before here → Fed disks now left mid → Appends here next mid.text
    → IsAnswered disks old (record mid { text = [] }) piece before next
all_out {Disk} disks old now mid piece left before here next goes fed out = record {
  text = goes.text ++ mid.text;
  fed = subst (λ (l : List ℕ). Fed disks old l (record mid { text = (goes.text ++ mid.text) ++ [] })) (sym goes.cut)
      (subst (λ (t : List ℕ). Fed disks old (goes.front ++ left) (record mid { text = t })) (sym (append-nil (goes.text ++ mid.text)))
      (goes.on left mid fed));
  printed = appends_more before here next goes.text mid.text goes.printed out;
}

up_to_keeps : {Disk : Type 0} (disks : Disk → DiskState) (old now : Progress Disk) (front : List ℕ) (before here next : Option (List ℕ))
    → IsAnsweredUpTo disks old now front before here → Keeps here next → IsAnsweredUpTo disks old now front before next
up_to_keeps disks old now front before here next (inl a) keeps =
    inl (record { text = a.text; fed = a.fed; printed = keeps_on before here next a.text a.printed keeps })
up_to_keeps disks old now front before here next (inr a) keeps = inr (a.0, a.1, keeps_more before here next a.2 keeps)

-- the disk was lost behind a line
pub lost_behind : {Disk : Type 0} (disks : Disk → DiskState) (old now new : Progress Disk) (piece left line rest : List ℕ)
    (before here next : Option (List ℕ))
    → GoesOn disks old now piece left before here → left ≡ line ++ rest → Fed disks now line new → Keeps here next
    → IsLost disks old new piece before next
lost_behind disks old now new piece left line rest before here next goes cut fed keeps = record {
  mid = now;
  front = goes.front;
  line = line;
  rest = rest;
  cut = goes.cut ∙ ap (λ (l : List ℕ). goes.front ++ l) cut;
  answered = up_to_keeps disks old now goes.front before here next goes.so keeps;
  fed = fed;
}

-- it was broken off, and nothing more was written
pub broken_before : {Disk : Type 0} (disks : Disk → DiskState) (old now : Progress Disk) (piece left : List ℕ)
    (before here next : Option (List ℕ))
    → GoesOn disks old now piece left before here → Keeps here next → IsBroken disks old piece before next
broken_before disks old now piece left before here next goes keeps =
    record {
      mid = now;
      front = goes.front;
      rest = left;
      cut = goes.cut;
      answered =
          up_to_keeps disks old now goes.front before here next goes.so keeps;
    }

-- or a front of the answers behind a line
pub broken_in : {Disk : Type 0} (disks : Disk → DiskState) (old now mid : Progress Disk) (piece left line rest : List ℕ)
    (before here next : Option (List ℕ))
    → GoesOn disks old now piece left before here → left ≡ line ++ rest → Fed disks now line mid → AppendsFront mid.text here next
    → IsBroken disks old piece before next
broken_in {Disk} disks old now mid piece left line rest before here next goes cut fed out = record {
  mid = record mid { text = out.rest };
  front = goes.front ++ line;
  rest = rest;
  cut = goes.cut ∙ (ap (λ (l : List ℕ). goes.front ++ l) cut ∙ sym (append_assoc goes.front line rest));
  answered = inl (record {
    text = goes.text ++ out.front;
    fed = subst (λ (t : List ℕ). Fed disks old (goes.front ++ line) (record mid { text = t }))
        (ap (λ (t : List ℕ). goes.text ++ t) out.cut ∙ sym (append_assoc goes.text out.front out.rest)) (goes.on line mid fed);
    printed = appends_more before here next goes.text out.front goes.printed out.printed;
  });
}

pub broken_on : {Disk : Type 0} (disks : Disk → DiskState) (old now : Progress Disk) (piece left line rest : List ℕ)
    (before here next : Option (List ℕ))
    → GoesOn disks old now piece left before here → left ≡ line ++ rest → IsLineBroken disks now line here next
    → IsBroken disks old piece before next
broken_on disks old now piece left line rest before here next goes cut (inl keeps) =
    broken_before disks old now piece left before here next goes keeps
broken_on disks old now piece left line rest before here next goes cut (inr out) =
    broken_in disks old now out.0 piece left line rest before here next goes cut out.1 out.2

-- ---- the whole input

pub record IsSoFar {Disk : Type 0} (disks : Disk → DiskState) (old now : Progress Disk) (input here before shown : Option (List ℕ)) :
    Type 0 where
  pub bytes : List ℕ
  pub read : Consumes input here bytes
  pub answered : IsAnswered disks old now bytes before shown

-- nothing was fed yet
nothing_fed : {Disk : Type 0} (disks : Disk → DiskState) (s : Progress Disk) → s.rest ≡ [] → Fed disks s [] s
nothing_fed disks s none = record {
  lines = [];
  cut = rw none refl;
  serves = record {
    node = record { id = refl; nodes = refl; disk = λ was is. record { now = was; is = is; sectors = refl; honest = refl } };
    served = λ was state is stands. record {
      all = [];
      came = tt;
      exact = refl;
      timed = ([], refl);
      messages = tt;
      honest = λ honest. tt;
      state = state;
      stands = stands;
      left = refl;
      text = sym (append-nil s.text);
    };
  };
}

pub so_far_none : {Disk : Type 0} (disks : Disk → DiskState) (s : Progress Disk) (input before : Option (List ℕ)) → s.rest ≡ []
    → IsSoFar disks s s input input before before
so_far_none disks s input before none = record {
  bytes = [];
  read = consumes_none input;
  answered = record { text = []; fed = nothing_fed disks s none; printed = appends_none before };
}

texts : (a b c d : List ℕ) → b ≡ [] → (a ++ b) ++ (c ++ d) ≡ (a ++ c) ++ d
texts a b c d none = rw (none, append-nil a) (sym (append_assoc a c d))

answered_more : {Disk : Type 0} (disks : Disk → DiskState) → AnyClearing disks
    → (old now new : Progress Disk) (bytes piece : List ℕ) (before shown behind : Option (List ℕ))
    → IsAnswered disks old now bytes before shown → now.text ≡ [] → IsAnswered disks now new piece shown behind
    → IsAnswered disks old new (bytes ++ piece) before behind
answered_more {Disk} disks clearing old now new bytes piece before shown behind first clear second = record {
  text = first.text ++ second.text;
  fed = subst (λ (t : List ℕ). Fed disks old (bytes ++ piece) (record new { text = t }))
      (texts first.text now.text second.text new.text clear)
      (clearing old (record now { text = first.text ++ now.text }) (record new { text = second.text ++ new.text }) bytes piece first.fed
      (subst (λ (t : List ℕ). Fed disks (record now { text = t }) piece (record new { text = second.text ++ new.text })) clear second.fed));
  printed = appends_more before shown behind first.text second.text first.printed second.printed;
}

-- one piece more
pub so_far_more : {Disk : Type 0} (disks : Disk → DiskState) → AnyClearing disks
    → (old now new : Progress Disk) (piece : List ℕ) (input here rest before shown behind : Option (List ℕ))
    → IsSoFar disks old now input here before shown → now.text ≡ [] → Consumes here rest piece → IsAnswered disks now new piece shown behind
    → IsSoFar disks old new input rest before behind
so_far_more disks clearing old now new piece input here rest before shown behind so clear read answered = record {
  bytes = so.bytes ++ piece;
  read = consumes_more input here rest so.bytes piece so.read read;
  answered = answered_more disks clearing old now new so.bytes piece before shown behind so.answered clear answered;
}

-- the device failed
pub ends_with_device : {Disk : Type 0} (disks : Disk → DiskState) (old now : Progress Disk) (input here before shown : Option (List ℕ))
    → IsSoFar disks old now input here before shown → now.text ≡ [] → now.stopped ≡ true
    → IsServed disks old now input here before shown end.Device
ends_with_device disks old now input here before shown so clear stopped = record {
  bytes = so.bytes;
  unfed = [];
  read = subst (λ (l : List ℕ). Consumes input here l) (sym (append-nil so.bytes)) so.read;
  new = now;
  answered = so.answered;
  ends = (refl, clear, stopped, refl);
}

-- the disk was lost
ends_lost : {Disk : Type 0} (disks : Disk → DiskState) → AnyClearing disks
    → (old now new : Progress Disk) (piece : List ℕ) (input here rest before shown behind : Option (List ℕ)) (error : Error)
    → IsSoFar disks old now input here before shown → now.text ≡ [] → Consumes here rest piece
    → (lost : IsLost disks now new piece shown behind) → IsAnsweredUpTo disks now lost.mid lost.front shown behind
    → IsServed disks old new input rest before behind (end.Lost error)
ends_lost disks clearing old now new piece input here rest before shown behind error so clear read lost (inl a) = record {
  bytes = so.bytes ++ lost.front;
  unfed = lost.line ++ lost.rest;
  read = subst (λ (l : List ℕ). Consumes input rest l) (ap (λ (l : List ℕ). so.bytes ++ l) lost.cut
      ∙ sym (append_assoc so.bytes lost.front (lost.line ++ lost.rest)))
      (consumes_more input here rest so.bytes piece so.read read);
  new = lost.mid;
  answered = answered_more disks clearing old now lost.mid so.bytes lost.front before shown behind so.answered clear a;
  ends = (lost.line, lost.rest, refl, lost.fed);
}
ends_lost {Disk} disks clearing old now new piece input here rest before shown behind error so clear read lost (inr a) = record {
  bytes = so.bytes;
  unfed = lost.line ++ lost.rest;
  read = subst (λ (l : List ℕ). Consumes input rest (so.bytes ++ l)) (lost.cut ∙ ap (λ (l : List ℕ). l ++ (lost.line ++ lost.rest)) a.1)
      (consumes_more input here rest so.bytes piece so.read read);
  new = now;
  answered = record {
    text = so.answered.text;
    fed = so.answered.fed;
    printed =
        keeps_on before shown behind so.answered.text so.answered.printed a.2;
  };
  ends = (lost.line, lost.rest, refl, subst (λ (s : Progress Disk). Fed disks s lost.line new) a.0 lost.fed);
}

pub ends_with_loss : {Disk : Type 0} (disks : Disk → DiskState) → AnyClearing disks
    → (old now new : Progress Disk) (piece : List ℕ) (input here rest before shown behind : Option (List ℕ)) (error : Error)
    → IsSoFar disks old now input here before shown → now.text ≡ [] → Consumes here rest piece → IsLost disks now new piece shown behind
    → IsServed disks old new input rest before behind (end.Lost error)
ends_with_loss disks clearing old now new piece input here rest before shown behind error so clear read lost =
    ends_lost disks clearing old now new piece input here rest before shown behind error so clear read lost lost.answered

-- broken off between two pieces
pub off_between : {Disk : Type 0} (disks : Disk → DiskState) (old now : Progress Disk) (input here rest before shown : Option (List ℕ))
    → IsSoFar disks old now input here before shown → Keeps here rest → IsBrokenOff disks old input rest before shown
off_between disks old now input here rest before shown so keeps = record {
  bytes = so.bytes;
  read = consumes_keeps input here rest so.bytes so.read keeps;
  broken = record { mid = now; front = so.bytes; rest = []; cut = sym (append-nil so.bytes); answered = inl so.answered };
}

off_in : {Disk : Type 0} (disks : Disk → DiskState) → AnyClearing disks
    → (old now : Progress Disk) (piece : List ℕ) (input here rest before shown behind : Option (List ℕ))
    → IsSoFar disks old now input here before shown → now.text ≡ [] → Consumes here rest piece
    → (broken : IsBroken disks now piece shown behind) → IsAnsweredUpTo disks now broken.mid broken.front shown behind
    → IsBrokenOff disks old input rest before behind
off_in disks clearing old now piece input here rest before shown behind so clear read broken (inl a) = record {
  bytes = so.bytes ++ piece;
  read = consumes_more input here rest so.bytes piece so.read read;
  broken = record {
    mid = broken.mid;
    front = so.bytes ++ broken.front;
    rest = broken.rest;
    cut = ap (λ (l : List ℕ). so.bytes ++ l) broken.cut ∙ sym (append_assoc so.bytes broken.front broken.rest);
    answered = inl (answered_more disks clearing old now broken.mid so.bytes broken.front before shown behind so.answered clear a);
  };
}
off_in disks clearing old now piece input here rest before shown behind so clear read broken (inr a) = record {
  bytes = so.bytes ++ piece;
  read = consumes_more input here rest so.bytes piece so.read read;
  broken = record {
    mid = now;
    front = so.bytes;
    rest = piece;
    cut = refl;
    answered = inl (record {
      text = so.answered.text;
      fed = so.answered.fed;
      printed =
          keeps_on before shown behind so.answered.text so.answered.printed a.2;
    });
  };
}

-- or within one
pub off_within : {Disk : Type 0} (disks : Disk → DiskState) → AnyClearing disks
    → (old now : Progress Disk) (piece : List ℕ) (input here rest before shown behind : Option (List ℕ))
    → IsSoFar disks old now input here before shown → now.text ≡ [] → Consumes here rest piece → IsBroken disks now piece shown behind
    → IsBrokenOff disks old input rest before behind
off_within disks clearing old now piece input here rest before shown behind so clear read broken =
    off_in disks clearing old now piece input here rest before shown behind so clear read broken broken.answered
