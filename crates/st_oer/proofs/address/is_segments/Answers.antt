use Rattle.std.proofs.Common.{sym, ◌∙◌}
use Rattle.std.proofs.lemmas.Bool.{ne_eqb}
use Rattle.st_oer.proofs.Addresses.{goes_no_further}
use Rattle.st_oer.proofs.address.is_segments.Goals as goal

pub returns-else-is_segment_character : goal.returns-else-is_segment_character
returns-else-is_segment_character c =
    let other = ne_eqb _ _ c.if-byte-eq46.false in
    sym (c.loop-byte.invariant ∙ goes_no_further c.loop-byte.filled c.args.text.now c.loop-byte.byte-index c.loop-byte-test.true other (sym c.is_segment_character.ensures ∙ c.if-is_segment_character.false))
