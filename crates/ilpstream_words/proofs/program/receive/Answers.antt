use Rattle.ilpstream_words.proofs.program.receive.Goals as goal

pub returns : goal.returns
returns c =
    let ends = c.with_ends-command.ensures _ (c.with_listen-command.ensures _ (c.with_usage-command.ensures.shape _ c.named.ensures.shape)) in
    let waiting = c.with_waiting-command.ensures _ (c.with_money-command.ensures _ ends) in
    c.with_running.ensures _ (c.with_reports-command.ensures _ waiting)
