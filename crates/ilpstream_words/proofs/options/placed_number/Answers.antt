use Rattle.std.proofs.Common.{arith}
use Rattle.std.proofs.lemmas.Grind.{common_steps}
use Rattle.ilpstream_words.proofs.options.placed_number.Goals as goal

pub overflow_cast-most : goal.overflow_cast-most
overflow_cast-most c = grind (arith, common_steps)

pub range-requires-clause-bounds : goal.range-requires-clause-bounds
range-requires-clause-bounds c = grind (arith, common_steps)

pub range-requires-clause-integer : goal.range-requires-clause-integer
range-requires-clause-integer c = grind (arith, common_steps)

pub value_parser-requires-2 : goal.value_parser-requires-2
value_parser-requires-2 c κs = grind (arith, common_steps)

pub returns-clause-rule : goal.returns-clause-rule
returns-clause-rule c = grind (arith, common_steps)

pub returns-clause-own : goal.returns-clause-own
returns-clause-own c = grind (arith, common_steps)
