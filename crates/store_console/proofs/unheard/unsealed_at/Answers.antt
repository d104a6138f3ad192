use Rattle.std.proofs.Common.{◌∙◌, ap, refl}
use Rattle.sector_disk.specs.Disk.{sector_at}
use Rattle.store_console.proofs.ReadOn.{read_by, read_on, read_once, sealed_none, unsealed_value}
use Rattle.store_console.proofs.unheard.unsealed_at.Goals as goal

pub returns-in_err-look-clause-read : goal.returns-in_err-look-clause-read
returns-in_err-look-clause-read g c = read_by c.look.ensures.counts c.look.ensures.run

pub returns-then-is_some-clause-found : goal.returns-then-is_some-clause-found
returns-then-is_some-clause-found g c = λ h. sealed_none _ _ _ (c.in_ok-look.ensures.content h) (cc (c.if-is_some.true, c.is_some.ensures))

pub returns-then-is_some-clause-read : goal.returns-then-is_some-clause-read
returns-then-is_some-clause-read g c = read_by c.look.ensures.counts c.look.ensures.run

pub returns-in_err-read-clause-read : goal.returns-in_err-read-clause-read
returns-in_err-read-clause-read g c =
    read_on (read_by c.look.ensures.counts c.look.ensures.run) (read_once c.read.ensures.counts (λ h. (c.read.ensures.touches h).contents))

pub returns-clause-found : goal.returns-clause-found
returns-clause-found g c = λ h.
    let looked = read_by c.look.ensures.counts c.look.ensures.run in
    let body = c.in_ok-read.ensures.gives (looked.honest ∙ h) refl ∙ ap (λ d. sector_at d c.args.slot) (looked.contents h) in
    c.number_in.ensures ∙ unsealed_value _ _ _ _ (c.in_ok-look.ensures.content h) (cc (c.if-is_some.false, c.is_some.ensures)) body

pub returns-clause-read : goal.returns-clause-read
returns-clause-read g c =
    read_on (read_by c.look.ensures.counts c.look.ensures.run) (read_once c.read.ensures.counts (λ h. (c.read.ensures.touches h).contents))
