use Rattle.std.proofs.Common.{◌≡◌, length, arith, rules}
use Rattle.st_ilp.specs.Seen.{prepare_seen}
use Rattle.st_end.proofs.Plain.{length_parts, length_middle}
use Rattle.st_end.proofs.unsealed.places.Goals as goal

pub overflow_sub-result : goal.overflow_sub-result
overflow_sub-result c =
    let q = prepare_seen c.args.prepare.now in
    omega (arith, c.requires, length_parts q, length_middle q, c.length_size.ensures.value, c.length_size-2.ensures.value)

pub overflow_sub-result-2 : goal.overflow_sub-result-2
overflow_sub-result-2 c =
    let q = prepare_seen c.args.prepare.now in
    let long : length q.condition ≡ 32 = search rules in
    omega (arith, long, c.requires, length_parts q, length_middle q, c.length_size.ensures.value, c.length_size-2.ensures.value)

pub returns : goal.returns
returns c =
    let q = prepare_seen c.args.prepare.now in
    let long : length q.condition ≡ 32 = search rules in (
      omega (arith, long, c.requires, length_parts q, length_middle q, c.length_size.ensures.value, c.length_size-2.ensures.value),
      omega (arith, long, c.requires, length_parts q, length_middle q, c.length_size.ensures.value, c.length_size-2.ensures.value),
    )
