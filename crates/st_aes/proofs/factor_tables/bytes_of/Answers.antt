use Rattle.std.proofs.Common.{◌/◌, ◌%◌, ◌^◌, refl, arith}
use Rattle.st_aes.proofs.Fours.{byte_of_halves}
use Rattle.st_aes.proofs.factor_tables.bytes_of.Goals as goal

pub returns : goal.returns
returns c b lt = byte_of_halves c.args.v (c.args.v % 2 ^ 64) (c.args.v / 2 ^ 64) b refl refl (omega arith) lt
