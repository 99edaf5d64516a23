use Rattle.std.proofs.Common.{ℕ, ◌%◌, ◌++◌, get_or, ◌∙◌, arith}
use Rattle.std.specs.Simd.Lanes.{chunk}
use Rattle.std.proofs.lemmas.Simd.{length-chunk, get_or-chunk}
use Rattle.std.proofs.lemmas.List.{get_or_append_left}
use Rattle.std.proofs.lemmas.List.FromFn.{get_or-map-range_with_len}
use Rattle.st_aes.proofs.wide_pass.load_twice.Goals as goal

pub returns : goal.returns
returns c l lt =
    let bytes = c.args.bytes.now in
    let at = c.args.at in
    let piece = chunk at 16 bytes in
    get_or-map-range_with_len (λ (j : ℕ). get_or (piece ++ piece) (j % 16) 0) 0 32 l l 0 lt (omega arith)
    ∙ get_or_append_left piece piece 0 (l % 16) (omega (arith, length-chunk at 16 bytes (omega arith))) ∙ get_or-chunk at 16 bytes (l % 16) 0 (omega arith)
