use Rattle.st_world_quiet.proofs.end_laws.a_write_is_taken_where_it_fits.Goals as goal
use Rattle.st_world_quiet.proofs.Writing.{write_fits, write_full}

pub returns-clause-fits : goal.returns-clause-fits
returns-clause-fits g = λ s k count x e row still few fits. write_fits s k count x e row still few fits

pub returns-clause-full : goal.returns-clause-full
returns-clause-full g = λ s k count x e row still past. write_full s k count x e row still past
