use Rattle.std.proofs.Common.{◌≡◌, ◌<◌, ◌+◌, ◌*◌, ◌⊎◌, inl, inr, ℕ, Ok, Err, slice_index, arith}
use Rattle.hex.proofs.Pairs.{decode_done, decode_err, decode_start, decode_step}
use Rattle.hex.specs.Hex.{pair_value}
use Rattle.hex.specs.declared.error.FromHexError.{FromHexError}
use Rattle.ilpstream_frames.specs.Digits.{digit_code}
use Rattle.ilpstream_frames.proofs.HexDigits.{pair_fails, pair_reads}
use Rattle.ilpstream_frames.proofs.digits.decode_into.Goals as goal

pub loop-i-init : goal.loop-i-init
loop-i-init c = decode_start c.args.text.now c.args.bytes.now

pub returns-then-high-gt15-clause-other : goal.returns-then-high-gt15-clause-other
returns-then-high-gt15-clause-other c =
    let a : ℕ = slice_index c.args.text.now (2 * c.loop-i.i) in
    let b : ℕ = slice_index c.args.text.now (2 * c.loop-i.i + 1) in
    let other : (15 < digit_code a) ⊎ (15 < digit_code b) = elim c.then-high-gt15.either [
      | inl high ↦ inl (omega (arith, high, c.value_of-high.ensures))
      | inr low ↦ inr (omega (arith, low, c.value_of-low.ensures))
    ] in
    let bad : (e : FromHexError) × (pair_value a b (2 * c.loop-i.i) ≡ Err e) = pair_fails a b (2 * c.loop-i.i) other in
    (bad.0, decode_err c.args.text.now c.loop-i.bytes c.loop-i.i bad.0 (omega (arith, c.requires, c.loop-i-test.true)) bad.1 c.loop-i.invariant)

pub loop-i-preserved : goal.loop-i-preserved
loop-i-preserved c =
    let a : ℕ = slice_index c.args.text.now (2 * c.loop-i.i) in
    let b : ℕ = slice_index c.args.text.now (2 * c.loop-i.i + 1) in
    let high : digit_code a < 16 = omega (arith, c.if-high-gt15.false, c.value_of-high.ensures) in
    let low : digit_code b < 16 = omega (arith, c.if-low-gt15.false, c.value_of-low.ensures) in
    let ok : pair_value a b (2 * c.loop-i.i) ≡ Ok (c.value_of-high.result * 16 + c.value_of-low.result) = rw (c.value_of-high.ensures, c.value_of-low.ensures) (pair_reads a b (2 * c.loop-i.i) high low) in
    decode_step c.args.text.now c.loop-i.bytes c.loop-i.i (c.value_of-high.result * 16 + c.value_of-low.result) (omega (arith, c.requires, c.loop-i-test.true)) (omega arith) ok c.loop-i.invariant

pub returns-clause-digits : goal.returns-clause-digits
returns-clause-digits c = decode_done c.args.text.now c.loop-i.bytes c.loop-i.i (omega arith) (omega arith) c.loop-i.invariant
