use Rattle.std.proofs.Common.{arith}
use Rattle.std.proofs.lemmas.Grind.{common_steps}
use Rattle.st_http.proofs.bearer.place_of.Goals as goal

pub returns-then-not-is_bearer : goal.returns-then-not-is_bearer
returns-then-not-is_bearer c = grind (arith, common_steps)

pub slice_bounds-without_spaces-count : goal.slice_bounds-without_spaces-count
slice_bounds-without_spaces-count c = grind (arith, common_steps)

pub slice_bounds-without_spaces-start : goal.slice_bounds-without_spaces-start
slice_bounds-without_spaces-start c = grind (arith, common_steps)

pub slice_bounds-without_spaces-end : goal.slice_bounds-without_spaces-end
slice_bounds-without_spaces-end c = grind (arith, common_steps)

pub loop-rest-init : goal.loop-rest-init
loop-rest-init c = grind (arith, common_steps)

pub slice_bounds-more-count : goal.slice_bounds-more-count
slice_bounds-more-count c = grind (arith, common_steps)

pub bounds-rest-0 : goal.bounds-rest-0
bounds-rest-0 c = grind (arith, common_steps)

pub slice_bounds-more-start : goal.slice_bounds-more-start
slice_bounds-more-start c = grind (arith, common_steps)

pub slice_bounds-more-end : goal.slice_bounds-more-end
slice_bounds-more-end c = grind (arith, common_steps)

pub slice_bounds-as_bytes-end : goal.slice_bounds-as_bytes-end
slice_bounds-as_bytes-end c = grind (arith, common_steps)

pub as_bytes-requires-text-self : goal.as_bytes-requires-text-self
as_bytes-requires-text-self c κs = grind (arith, common_steps)

pub returns-then-eq : goal.returns-then-eq
returns-then-eq c = grind (arith, common_steps)

pub overflow_add-place : goal.overflow_add-place
overflow_add-place c = grind (arith, common_steps)

pub loop-rest-smaller : goal.loop-rest-smaller
loop-rest-smaller c = grind (arith, common_steps)

pub loop-rest-preserved : goal.loop-rest-preserved
loop-rest-preserved c = grind (arith, common_steps)

pub returns : goal.returns
returns c = grind (arith, common_steps)
