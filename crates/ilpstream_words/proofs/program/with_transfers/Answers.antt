use Rattle.ilpstream_words.proofs.program.with_transfers.Goals as goal

pub returns : goal.returns
returns c = λ a h.
    let sends = c.with_command-program.ensures _ _ h c.send.ensures in
    c.with_command.ensures _ _ (c.with_command-program-2.ensures _ _ sends c.receive.ensures) c.connector.ensures
