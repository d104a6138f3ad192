use Rattle.console_text.proofs.words.pair_in.Goals as goal

pub returns : goal.returns
returns c = rw c.from-place.ensures (c.requires.at c.args.byte c.ranges.byte.fits)
