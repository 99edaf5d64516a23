use Rattle.std.proofs.Common.{◌≡◌, ◌<◌, ◌∙◌, length, nat_eq, sym, ap, arith}
use Rattle.st_receiver.specs.Sequences.{first_at}
use Rattle.st_receiver.proofs.Seating.{run_at, one_apart}
use Rattle.st_receiver.proofs.sequences.joins_behind.Goals as goal

pub returns : goal.returns
returns g c =
    let within : c.args.place < length c.args.runs.now.items = omega (arith, c.if-place-len.false, c.len.ensures, c.args.runs.now.ok) in
    let begins : c.index.result.now.first ≡ first_at c.args.runs.now.items c.args.place = (run_at c.args.runs.now.items c.args.place c.index.result.now within c.index.ensures).0 in
    let apart = one_apart c.args.sequence c.index.result.now.first in
    let far = ap (λ n. nat_eq n 1) c.saturating_sub.ensures in
    (λ e. (within, apart.0 (sym far ∙ e) ∙ begins), λ w. far ∙ apart.1 (w.1 ∙ sym begins))
