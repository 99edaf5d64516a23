use Rattle.std.proofs.Common.{◌%◌, ◌++◌, get_or, ◌∙◌, arith}
use Rattle.std.proofs.lemmas.List.FromFn.{get_or-map-range_with_len}
use Rattle.std.proofs.lemmas.List.{get_or_append_left}
use Rattle.st_aes.proofs.rows.front_twice.Goals as goal

pub returns : goal.returns
returns c l lt =
    let a = c.args.a in
    get_or-map-range_with_len (λ j. get_or (a ++ a) (j % 16) 0) 0 32 l l 0 lt (omega arith) ∙ get_or_append_left a a 0 (l % 16) (omega (arith, c.fits-a.0))
