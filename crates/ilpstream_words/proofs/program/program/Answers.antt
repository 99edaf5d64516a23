use Rattle.ilpstream_words.proofs.program.program.Goals as goal

pub returns : goal.returns
returns c =
    let frames = c.with_command-program.ensures _ _ c.alone.ensures.app c.frames.ensures.shape in
    let local = c.with_command-program-2.ensures _ _ frames c.local.ensures in
    let ledger = c.with_command-program-3.ensures _ _ (c.with_transfers-program.ensures _ local) c.ledger.ensures in
    c.with_command.ensures _ _ ledger c.explain.ensures
