use Rattle.std.proofs.Common.{◌≡◌, ◌%◌, ℕ, List, ap, ◌∙◌, sym, subst, arith}
use Rattle.std.specs.Prelude.{Ok}
use Rattle.hex.specs.Hex.{decode_of}
use Rattle.ilpstream_frames.specs.Digits.{DoesNotDecode}
use Rattle.ilpstream_frames.specs.LineSoFar.{LineState}
use Rattle.ilpstream_frames.proofs.LinesSoFar.{odd_is_no_packet, long_is_no_packet, kept_is_text, undecoded_is_no_packet}
use Rattle.ilpstream_frames.proofs.line.LineSoFar.decoded.Goals as goal

pub returns-then-self-eq1 : goal.returns-then-self-eq1
returns-then-self-eq1 g c = λ text digits. odd_is_no_packet c.args.self.now text (ap (λ (s : LineState). s.count % 2) (sym c.self.view_is) ∙ c.if-self-eq1.true) digits

pub returns-then-self : goal.returns-then-self
returns-then-self g c =
    let count : c.self.inside.count ≡ c.args.self.now.count = ap (λ (s : LineState). s.count) c.self.view_is in
    λ text digits. long_is_no_packet c.args.self.now text (λ odd. c.if-self-eq1.false (ap (λ (n : ℕ). n % 2) count ∙ odd)) (omega (arith, c.if-self.true, count)) digits

pub returns-in-Some : goal.returns-in-Some
returns-in-Some g c =
    let count : c.self.inside.count ≡ c.args.self.now.count = ap (λ (s : LineState). s.count) c.self.view_is in
    let kept : c.self.inside.digits.items ≡ c.args.self.now.digits = ap (λ (s : LineState). s.digits) c.self.view_is in
    λ text digits.
    let same : c.args.self.now.digits ≡ text = kept_is_text c.args.self.now text (omega (arith, c.if-self.false, count)) digits in
    let is : decode_of c.as_slice.result.now ≡ Ok c.in-Some.bytes.items = rw c.in-Some.is at c.in_ok-bytes.ensures in
    ap decode_of (sym (c.as_slice.ensures.value ∙ kept ∙ same)) ∙ is

pub returns-in-None : goal.returns-in-None
returns-in-None g c =
    let count : c.self.inside.count ≡ c.args.self.now.count = ap (λ (s : LineState). s.count) c.self.view_is in
    let kept : c.self.inside.digits.items ≡ c.args.self.now.digits = ap (λ (s : LineState). s.digits) c.self.view_is in
    λ text digits.
    let same : c.args.self.now.digits ≡ text = kept_is_text c.args.self.now text (omega (arith, c.if-self.false, count)) digits in
    let none : DoesNotDecode (decode_of c.as_slice.result.now) = rw c.in-None.is at c.in_ok-bytes.ensures in
    undecoded_is_no_packet text (subst (λ (l : List ℕ). DoesNotDecode (decode_of l)) (c.as_slice.ensures.value ∙ kept ∙ same) none)
