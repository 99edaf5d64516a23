use Rattle.std.proofs.Common.{◌<◌, ◌∙◌, length, nat_le, sym, ap, arith}
use Rattle.st_receiver.proofs.Seating.{run_at, among_here, among_past}
use Rattle.st_receiver.proofs.sequences.has.Goals as goal

pub returns-then-place-len : goal.returns-then-place-len
returns-then-place-len g c = sym (among_past c.args.runs.now.items c.args.place c.args.sequence c.requires.place (omega (arith, c.if-place-len.true, c.len.ensures, c.args.runs.now.ok)))

pub returns : goal.returns
returns g c =
    let within : c.args.place < length c.args.runs.now.items = omega (arith, c.if-place-len.false, c.len.ensures, c.args.runs.now.ok) in
    ap (λ n. nat_le n c.args.sequence) (run_at c.args.runs.now.items c.args.place c.index.result.now within c.index.ensures).0 ∙ sym (among_here c.args.runs.now.items c.args.place c.args.sequence c.requires.place within)
