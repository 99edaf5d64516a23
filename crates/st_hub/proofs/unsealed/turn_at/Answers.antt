use Rattle.st_hub.proofs.unsealed.turn_at.Goals as goal

pub invariant_of-result : goal.invariant_of-result
invariant_of-result g c = (_, c.requires, c.after.ensures)
