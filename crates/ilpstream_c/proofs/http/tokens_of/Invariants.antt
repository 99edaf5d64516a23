use Rattle.std.proofs.Common.{◌≡◌, ◌++◌, length}
use Rattle.std.specs.Prelude.{map, string_bytes}
use Rattle.ilpstream_c.specs.Http.{tokens_of, are_tokens}
use Rattle.ilpstream_c.proofs.http.tokens_of.Given as goal

-- what is left of the text and of the lengths is as lawful as all of them, and the tokens so far and those to come are all
abbrev pub invariant-loop-left : goal.invariant-loop-left
invariant-loop-left l = (are_tokens l.rest l.left ≡ are_tokens l.fn.text l.fn.lengths) × (map string_bytes l.kept.items ++ tokens_of l.rest l.left ≡ tokens_of l.fn.text l.fn.lengths)

abbrev pub decreases-loop-left : goal.decreases-loop-left
decreases-loop-left l = length l.left
