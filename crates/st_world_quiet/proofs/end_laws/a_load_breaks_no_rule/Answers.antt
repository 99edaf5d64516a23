use Rattle.st_world_quiet.proofs.end_laws.a_load_breaks_no_rule.Goals as goal
use Rattle.st_world_quiet.proofs.Receiving.{parts_are_shares}
use Rattle.st_world_quiet.proofs.Taken.{load_taken}
use Rattle.st_world_quiet.proofs.Leaving.{effect_reads}
use Rattle.st_world_quiet.proofs.Credited.{money_fine}

pub returns-clause-fine : goal.returns-clause-fine
returns-clause-fine g = λ n s limits p r quiet sends fills abreast. load_taken n s limits p r quiet sends fills abreast

pub returns-clause-reads : goal.returns-clause-reads
returns-clause-reads g = λ s limits r amount fs k due. effect_reads s limits r amount fs k due

pub returns-clause-split : goal.returns-clause-split
returns-clause-split g = λ ms some. parts_are_shares ms some

pub returns-clause-money : goal.returns-clause-money
returns-clause-money g = λ r amount fs is few h. money_fine r amount fs is few h
