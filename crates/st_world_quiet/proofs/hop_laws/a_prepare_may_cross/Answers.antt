use Rattle.st_world_quiet.proofs.hop_laws.a_prepare_may_cross.Goals as goal
use Rattle.st_world_quiet.proofs.Witness.{may_cross}

pub returns : goal.returns
returns g = λ c limit lawful address may room. may_cross c limit lawful address may room
