use Rattle.ilpstream_words.proofs.program.with_sources.Goals as goal

pub returns : goal.returns
returns c = λ s h. c.with_default.ensures _ c.option-least.ensures.rule _ (c.with_default-command.ensures _ c.option-random.ensures.rule s h)
