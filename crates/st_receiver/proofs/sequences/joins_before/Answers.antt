use Rattle.std.proofs.Common.{◌≡◌, ◌<◌, ◌+◌, ◌-◌, ◌∙◌, length, nat_eq, sym, ap, arith}
use Rattle.st_receiver.specs.Sequences.{last_at}
use Rattle.st_receiver.proofs.Seating.{run_at, one_apart}
use Rattle.st_receiver.proofs.sequences.joins_before.Goals as goal

pub returns : goal.returns
returns g c =
    let some : 0 < c.args.place = omega (arith, c.if-place-eq0.false) in
    let within : c.args.place - 1 < length c.args.runs.now.items = omega (arith, c.requires.place.within, some) in
    let ends : c.index.result.now.last ≡ last_at c.args.runs.now.items (c.args.place - 1) = (run_at c.args.runs.now.items (c.args.place - 1) c.index.result.now within c.index.ensures).1 in
    let apart = one_apart c.index.result.now.last c.args.sequence in
    let far = ap (λ n. nat_eq n 1) c.saturating_sub.ensures in
    (λ e. (some, ap (λ n. n + 1) (sym ends) ∙ apart.0 (sym far ∙ e)), λ w. far ∙ apart.1 (ap (λ n. n + 1) ends ∙ w.1))
