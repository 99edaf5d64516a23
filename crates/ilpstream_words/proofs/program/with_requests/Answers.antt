use Rattle.ilpstream_words.proofs.program.with_requests.Goals as goal

pub returns : goal.returns
returns c = λ s h. c.with.ensures _ c.flag.ensures.rule _ (c.with-command.ensures _ c.number.ensures.rule s h)
