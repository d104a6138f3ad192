use Rattle.std.proofs.Common.{◌≡◌, List, length, refl, sym, ap, ◌∙◌, inl, inr, arith}
use Rattle.lease_machine.specs.declared.name_entry.NameEntry.{NameEntry}
use Rattle.lease_machine.specs.Names.{entry_of, dead_from}
use Rattle.lease_machine.specs.Machine.{unknown}
use Rattle.lease_machine.proofs.Names.{apart_from, at_get, push_new, push_other, set_new, unlike, none_dead, not_in_use}
use Rattle.lease_machine.proofs.Keeping.{dead_found, entry_at, kept_pushed, kept_set, same_left, replaced_left}
use Rattle.lease_machine.proofs.state.LeaseMachine.add.Goals as goal

pub invariant_of-self : goal.invariant_of-self
invariant_of-self c =
    let m = c.args.self.now in
    record {
      kept = kept_pushed m.kept _ c.args.entry c.requires.fits c.requires.new (omega (arith, c.len.ensures, c.if-len-lt-NAMES.true))
          c.push_reserved.ensures.items;
      room = omega (arith, c.push_reserved.ensures.capacity, m.room);
    }

pub returns-then-len-lt-NAMES-clause-added : goal.returns-then-len-lt-NAMES-clause-added
returns-then-len-lt-NAMES-clause-added c = λ _. ap (entry_of c.args.entry.name) c.push_reserved.ensures.items
    ∙ push_new c.args.entry c.args.self.now.names.items c.requires.new

pub returns-then-len-lt-NAMES-clause-others : goal.returns-then-len-lt-NAMES-clause-others
returns-then-len-lt-NAMES-clause-others c = λ _ other differ.
    let m = c.args.self.now in
    same_left c.args.now (unknown m) (unknown m) (entry_of other m.names.items) _ (inl refl)
    (ap (entry_of other) c.push_reserved.ensures.items ∙ push_other c.args.entry other m.names.items
    (unlike c.args.entry.name other (λ s. differ (sym s))))

pub returns-then-len-lt-NAMES-clause-room : goal.returns-then-len-lt-NAMES-clause-room
returns-then-len-lt-NAMES-clause-room c = λ _ full. absurd (omega (arith, c.len.ensures, c.if-len-lt-NAMES.true, full.0))

pub returns-in_default-clause-full : goal.returns-in_default-clause-full
returns-in_default-clause-full c = λ _.
    let m = c.args.self.now in (
      refl,
      (
        omega (arith, c.len.ensures, c.if-len-lt-NAMES.false, m.kept.few),
        none_dead 0 c.args.now m.names.items (ap (dead_from 0 c.args.now) (sym c.deref.ensures.value) ∙ sym c.dead_place.ensures
            ∙ c.in_default.is),
      ),
    )

pub index-requires : goal.index-requires
index-requires c = omega (
  arith,
  (dead_found c.args.now c.deref.ensures.value c.dead_place.ensures c.in-Some.is).within,
  c.deref.ensures.len,
  ap (λ (es : List NameEntry). length es) c.deref.ensures.value,
)

pub index_mut-requires : goal.index_mut-requires
index_mut-requires c = omega (
  arith,
  (dead_found c.args.now c.deref.ensures.value c.dead_place.ensures c.in-Some.is).within,
  c.deref.ensures.len,
  ap (λ (es : List NameEntry). length es) c.deref.ensures.value,
)

pub invariant_of-self-2 : goal.invariant_of-self-2
invariant_of-self-2 c =
    let m = c.args.self.now in
    let p = dead_found c.args.now c.deref.ensures.value c.dead_place.ensures c.in-Some.is in
    let of = entry_at m.kept c.in-Some.place p.d p.at in
    let last : c.last.result ≡ p.d.voter.last = c.last.ensures
    ∙ ap (λ (e : NameEntry). e.voter.last) (c.index.ensures ∙ (at_get c.in-Some.place p.d m.names.items c.index.result.now p.at).1) in
    record {
      kept = kept_set m.kept _ c.in-Some.place p.d c.args.entry p.at c.requires.fits (inr c.requires.new)
          (omega (arith, m.kept.floor_allowed, of.last, last, c.max-self.ensures));
      room = m.room;
    }

pub returns-clause-added : goal.returns-clause-added
returns-clause-added c = λ _.
    let p = dead_found c.args.now c.deref.ensures.value c.dead_place.ensures c.in-Some.is in
    set_new c.in-Some.place p.d c.args.entry c.args.self.now.names.items p.at c.requires.new

pub returns-clause-room : goal.returns-clause-room
returns-clause-room c = λ _ full.
    let p = dead_found c.args.now c.deref.ensures.value c.dead_place.ensures c.in-Some.is in
    not_in_use c.args.now c.in-Some.place p.d c.args.self.now.names.items p.at p.passes full.1

pub returns-clause-others : goal.returns-clause-others
returns-clause-others c = λ _ other differ.
    let m = c.args.self.now in
    let p = dead_found c.args.now c.deref.ensures.value c.dead_place.ensures c.in-Some.is in
    let of = entry_at m.kept c.in-Some.place p.d p.at in
    let last : c.last.result ≡ p.d.voter.last = c.last.ensures
    ∙ ap (λ (e : NameEntry). e.voter.last) (c.index.ensures ∙ (at_get c.in-Some.place p.d m.names.items c.index.result.now p.at).1) in
    replaced_left c.args.now (unknown m) (record (unknown m) { last = c.max-self.result }) m.names.items c.in-Some.place p.d c.args.entry
    other p.at (apart_from m.names.items m.kept.apart) c.requires.new p.passes differ
    (inr (record { over = refl; keeps = refl; bound = refl; began = refl; last = omega (arith, c.max-self.ensures); free = refl }))
    (λ over. record {
      over = over;
      keeps = sym of.keeps;
      bound = sym of.allowed;
      began = sym of.since;
      last = omega (arith, last, c.max-self.ensures);
      free = refl;
    })
