use Rattle.std.proofs.Common.{◌≡◌, ◌==◌, false, ◌++◌, ◌-◌, List, ℕ, length, take, drop, ap, subst, ◌∙◌, append_assoc}
use Rattle.std.proofs.lemmas.List.{take-append-drop}
use Rattle.std.proofs.lemmas.List.Elements.{All-take}
use Rattle.ilpstream_frames.specs.LineSoFar.{StandsFor}
use Rattle.ilpstream_frames.proofs.LinesSoFar.{rest_is, stands_with_digits}
use Rattle.ilpstream_frames.proofs.line.LineSoFar.extend_digits.Goals as goal

pub returns-clause-line : goal.returns-clause-line
returns-clause-line g c = λ line stands.
    let front : List ℕ = take c.digits_before-count.result c.args.bytes.now in
    let rest : List ℕ = take (length c.args.bytes.now - c.digits_before-count.result) (drop c.digits_before-count.result c.args.bytes.now) in
    let one_line = All-take (λ b. (b == 10) ≡ false) c.digits_before-count.result c.args.bytes.now c.requires.bytes in
    let after_front : StandsFor c.push_digits.new.self (line ++ front) =
    rw c.in_ok-push_digits.ensures (stands_with_digits c.args.self.now line front c.requires.shape c.digits_before-count.ensures.digits one_line stands) in
    let whole : (line ++ front) ++ rest ≡ line ++ c.args.bytes.now = append_assoc line front rest
    ∙ ap (λ (l : List ℕ). line ++ l) (ap (λ (l : List ℕ). front ++ l) (rest_is c.digits_before-count.result c.args.bytes.now) ∙ take-append-drop c.digits_before-count.result c.args.bytes.now) in
    subst (λ (l : List ℕ). StandsFor c.push_each.new.self l) whole (c.in_ok-push_each.ensures.line (line ++ front) after_front)
