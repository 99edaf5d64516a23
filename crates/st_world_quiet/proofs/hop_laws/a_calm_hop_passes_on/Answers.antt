use Rattle.st_world_quiet.proofs.hop_laws.a_calm_hop_passes_on.Goals as goal
use Rattle.st_world_quiet.specs.Calm.{ticket_of}
use Rattle.st_hop.specs.Hop.{holding}
use Rattle.st_world_quiet.proofs.Hops.{calm_still, goes_back, goes_on}

pub returns-clause-goes : goal.returns-clause-goes
returns-clause-goes g = λ destination sent most left after h p now calm is room late. goes_on destination sent most left after h p now calm is room late

pub returns-clause-back : goal.returns-clause-back
returns-clause-back g = λ h p bytes text payload now reads fitting early. goes_back (holding h (ticket_of h p)) (ticket_of h p) bytes text payload now reads fitting early

pub returns-clause-calm : goal.returns-clause-calm
returns-clause-calm g = λ destination sent most left after h p calm room. calm_still destination sent most left after h p calm room.spends
