use Rattle.st_oer.proofs.BothWays.{length_reads, octets_reads, var_uint_reads}
use Rattle.st_oer.proofs.Fields.{byte_reads, fixed_reads, limit_reads, u64_reads}
use Rattle.st_oer.proofs.laws.fields_are_read_as_spelled.Goals as goal

pub returns : goal.returns
returns c = record { byte = byte_reads; u64 = u64_reads; fixed = fixed_reads; length = length_reads; octets = octets_reads; var_uint = var_uint_reads; limit = limit_reads }
