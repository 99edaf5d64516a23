use Rattle.std.proofs.Common.{◌*◌, ◌/◌, List, ℕ, Option, None, sym, ap, ◌∙◌, arith, get_or}
use Rattle.std.specs.Prelude.{option_map}
use Rattle.std.proofs.Math.ListN.{get_or-map}
use Rattle.std.proofs.lemmas.List.FromFn.{get_or-map-range_with_len}
use Rattle.ilpstream_output.specs.Explaining as specs
use Rattle.ilpstream_output.proofs.Above.{none_above}
use Rattle.ilpstream_output.proofs.numbers.explanation.Goals as goal

pub returns-in_err-texts : goal.returns-in_err-texts
returns-in_err-texts c = rw c.from_residual.ensures (sym (none_above c.args.number c.in_err-texts.ensures))

pub returns : goal.returns
returns c =
    sym (get_or-map (option_map (λ t. t.now)) c.in_ok-texts.texts.now c.from.result None)
    ∙ ap (λ (all : List (Option (List ℕ))). get_or all c.from.result None) c.in_ok-texts.ensures
    ∙ get_or-map-range_with_len specs.explanation (10 * (c.args.number / 10)) 10 c.from.result c.args.number None (omega (arith, c.from.ensures)) (omega (arith, c.from.ensures))
