use Rattle.ilpstream_words.proofs.program.with_money.Goals as goal

pub returns : goal.returns
returns c = c.with_default.ensures _ c.number.ensures.rule
