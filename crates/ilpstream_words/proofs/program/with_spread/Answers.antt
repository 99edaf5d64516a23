use Rattle.ilpstream_words.proofs.program.with_spread.Goals as goal

pub returns : goal.returns
returns c = c.with_default.ensures _ c.ranged-patience.ensures.rule
