use Rattle.ilpstream_words.proofs.program.local.Goals as goal

pub returns : goal.returns
returns c =
    let hops = c.with_default-command.ensures _ c.number-hops.ensures.rule _ c.named-command.ensures.shape in
    let lose = c.with_default-command-2.ensures _ c.number-lose.ensures.rule _ hops in
    c.with_totals.ensures _ (c.with_default-command-3.ensures _ c.number-streams.ensures.rule _ lose)
