use Rattle.st_oer.proofs.BothWays.{length_reads, octets_reads, var_uint_reads}
use Rattle.st_oer.proofs.Fields.{byte_reads, u64_reads, none_begins, no_limit_begins}
use Rattle.st_oer.proofs.laws.no_spelling_begins_another.Goals as goal

pub returns : goal.returns
returns c = record {
  byte = none_begins byte_reads;
  u64 = none_begins u64_reads;
  length = none_begins length_reads;
  octets = none_begins octets_reads;
  var_uint = none_begins var_uint_reads;
  limit = no_limit_begins;
}
