use Rattle.std.proofs.Common.{◌≡◌, true, slice_index, take, arith}
use Rattle.std.proofs.lemmas.List.{take_more}
use Rattle.std.proofs.lemmas.List.Elements.{All-push}
use Rattle.hex.specs.Hex.{is_hex_digit}
use Rattle.ilpstream_frames.proofs.HexDigits.{small_is_digit}
use Rattle.ilpstream_frames.proofs.digits.digits_before.Goals as goal

pub loop-count-preserved : goal.loop-count-preserved
loop-count-preserved c =
    let digit = small_is_digit (slice_index c.args.text.now c.loop-count.count) (omega (arith, c.value_of.ensures, c.if-value_of-lt16.true)) in
    record {
      within = omega (arith, c.loop-count-test.true);
      digits = rw (take_more c.args.text.now c.loop-count.count 0 c.loop-count-test.true)
          (All-push (λ x. is_hex_digit x ≡ true) (take c.loop-count.count c.args.text.now) (slice_index c.args.text.now c.loop-count.count) c.loop-count.invariant.digits digit);
    }
