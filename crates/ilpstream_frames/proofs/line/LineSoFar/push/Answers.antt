use Rattle.std.proofs.Common.{◌≡◌, ◌≢◌, ap, ◌∙◌, sym, inl, inr, arith}
use Rattle.ilpstream_frames.specs.declared.line.Shape.TheVariants.{Digits, DigitsAndReturn, NotHex}
use Rattle.ilpstream_frames.specs.LineSoFar.{LineState}
use Rattle.ilpstream_frames.proofs.LinesSoFar.{stands_spoiled}
use Rattle.ilpstream_frames.proofs.line.LineSoFar.push.Goals as goal

pub returns-in-DigitsAndReturn : goal.returns-in-DigitsAndReturn
returns-in-DigitsAndReturn g c =
    let shape : c.self.inside.shape ≡ c.args.self.now.shape = ap (λ (s : LineState). s.shape) c.self.view_is in
    let count : c.self.inside.count ≡ c.args.self.now.count = ap (λ (s : LineState). s.count) c.self.view_is in
    let other : c.args.self.now.shape ≢ Digits = λ e. elim c.in-DigitsAndReturn.is [
      | inl return ↦ let wrong : Digits ≡ DigitsAndReturn = sym e ∙ (sym shape ∙ return) in absurd (cc)
      | inr not ↦ let wrong : Digits ≡ NotHex = sym e ∙ (sym shape ∙ not) in absurd (cc)
    ] in
    record {
      line = λ line stands. stands_spoiled c.args.self.now _ line c.args.byte other (ap (λ (s : LineState). record s { shape = NotHex }) c.self.view_is) c.requires.byte stands;
      count = omega (arith, count);
    }
