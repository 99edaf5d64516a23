use Rattle.std.proofs.Common.{ap, sym}
use Rattle.ilpstream_frames.specs.declared.line.Shape.TheVariants.{DigitsAndReturn, NotHex}
use Rattle.ilpstream_frames.specs.LineSoFar.{LineState}
use Rattle.ilpstream_frames.proofs.LinesSoFar.{stands_with_digit, stands_with_other, stands_with_return}
use Rattle.ilpstream_frames.proofs.line.LineSoFar.push_after_digits.Goals as goal

pub returns-then-is_ascii_hexdigit-clause-line : goal.returns-then-is_ascii_hexdigit-clause-line
returns-then-is_ascii_hexdigit-clause-line g c = λ line stands.
    rw c.in_ok-push_digit.ensures (stands_with_digit c.args.self.now line c.args.byte c.requires.shape (sym c.if-is_ascii_hexdigit.ensures.value) c.requires.byte stands)

pub returns-then-byte-eq13-clause-line : goal.returns-then-byte-eq13-clause-line
returns-then-byte-eq13-clause-line g c = λ line stands.
    rw c.if-byte-eq13.true (stands_with_return c.args.self.now _ line c.requires.shape (ap (λ (s : LineState). record s { shape = DigitsAndReturn }) c.self.view_is) stands)

pub returns-clause-line : goal.returns-clause-line
returns-clause-line g c = λ line stands.
    stands_with_other c.args.self.now _ line c.args.byte c.requires.shape (ap (λ (s : LineState). record s { shape = NotHex }) c.self.view_is) (sym c.if-is_ascii_hexdigit.ensures.value)
    c.if-byte-eq13.false c.requires.byte stands
