use Rattle.std.proofs.Common.{◌≡◌, ◌+◌, ◌++◌, [], ◌∷◌, List, ℕ, take, get_or, ap, sym, ◌∙◌, append_assoc, arith}
use Rattle.std.proofs.lemmas.List.{take_more}
use Rattle.ilpstream_frames.proofs.line.LineSoFar.push_each.Goals as goal

pub loop-byte-preserved : goal.loop-byte-preserved
loop-byte-preserved g c = record {
  stands = λ line stands.
      let byte : ℕ = get_or c.args.bytes.now c.loop-byte.byte-index 0 in
      let more : line ++ take (c.loop-byte.byte-index + 1) c.args.bytes.now ≡ (line ++ take c.loop-byte.byte-index c.args.bytes.now) ++ byte ∷ [] =
      ap (λ (l : List ℕ). line ++ l) (take_more c.args.bytes.now c.loop-byte.byte-index 0 c.loop-byte-test.true) ∙ sym (append_assoc line (take c.loop-byte.byte-index c.args.bytes.now) (byte ∷ [])) in
      rw more (c.in_ok-push.ensures.line (line ++ take c.loop-byte.byte-index c.args.bytes.now) (c.loop-byte.invariant.stands line stands));
  count = omega (arith, c.in_ok-push.ensures.count, c.loop-byte.invariant.count);
}
