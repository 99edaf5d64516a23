use Rattle.ilpstream_words.proofs.program.send.Goals as goal

pub returns : goal.returns
returns c =
    let peers = c.with_peers-command.ensures _ (c.with_usage-command.ensures.shape _ c.named.ensures.shape) in
    let tries = c.with_tries-command.ensures _ (c.with_money-command.ensures _ peers) in
    c.with_log.ensures _ (c.with_totals-command.ensures _ (c.with_sources-command.ensures _ tries))
