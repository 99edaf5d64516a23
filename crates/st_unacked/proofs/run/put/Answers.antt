use Rattle.std.proofs.Common.{◌≡◌, ◌-◌, ◌<◌, ◌≤◌, ◌∙◌, suc, ap, sym, length, arith}
use Rattle.std.proofs.lemmas.Grind.{common_steps}
use Rattle.st_unacked.specs.declared.run.Run.{Run}
use Rattle.st_unacked.proofs.Neighbours.{not_alike, put_same, put_more}
use Rattle.st_unacked.proofs.run.put.Goals as goal

pub returns-then-eq-clause-more : goal.returns-then-eq-clause-more
returns-then-eq-clause-more g c first parted further =
    let some : c.args.count ≡ suc (c.args.count - 1) = omega (arith, c.if-count-eq0.false) in
    let same : c.index.result.now.status ≡ c.args.run.status = grind (arith, common_steps, c.eq.ensures, c.if-eq.true) in
    put_same first c.args.runs.now.items c.args.count (c.args.count - 1) c.index.result.now c.args.run some (omega (arith, c.requires)) parted further (ap (λ (r : Run). r.status) (sym c.index.ensures) ∙ same)

pub returns-clause-more : goal.returns-clause-more
returns-clause-more g c first parted further =
    let some : c.args.count ≡ suc (c.args.count - 1) = omega (arith, c.if-count-eq0.false) in
    let other = not_alike c.index.result.now.status c.args.run.status c.if-eq.ensures in
    put_more first c.args.runs.now.items c.args.count (c.args.count - 1) c.index.result.now c.args.run some (omega (arith, c.requires)) parted further c.requires (λ e. other (ap (λ (r : Run). r.status) c.index.ensures ∙ e))
