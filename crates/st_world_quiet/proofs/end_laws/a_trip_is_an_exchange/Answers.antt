use Rattle.st_world_quiet.proofs.end_laws.a_trip_is_an_exchange.Goals as goal
use Rattle.st_world_quiet.proofs.Trips.{trip_exchange}

pub returns : goal.returns
returns g = λ n e f g h quiet abreast joined tellable trip. trip_exchange n e f g h quiet abreast joined tellable trip
