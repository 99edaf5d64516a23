use Rattle.std.proofs.Common.{◌≡◌, ◌+◌, ◌*◌, ◌≤◌, length, subst, ap, sym, arith, ◌∙◌}
use Rattle.std.specs.FinMap.{empty, len}
use Rattle.st_unacked.specs.Sent.{Sent, rows}
use Rattle.st_unacked.specs.Chunks.{byte_in}
use Rattle.st_unacked.proofs.Blocks.{kept_few, no_rows}
use Rattle.st_unacked.proofs.unacked.Unacked.room.Goals as goal

pub returns-clause-bound : goal.returns-clause-bound
returns-clause-bound g c =
    let few : 4096 * length c.self.inside.chunks.items ≤ len c.args.self.now.unacked + 8192 * rows c.args.self.now = subst (λ (s : Sent). 4096 * length c.self.inside.chunks.items ≤ len s.unacked + 8192 * rows s) c.self.view_is
    (kept_few c.self.inside.runs.items (byte_in c.self.inside.chunks.items) c.self.inside.accepted c.self.invariant.tiled c.self.inside.accepted c.self.inside.chunks.items c.self.invariant.laid c.self.invariant.held) in
    omega (arith, few, c.len.ensures, c.saturating_mul.ensures)

pub returns-clause-none : goal.returns-clause-none
returns-clause-none g c none =
    let bound = returns-clause-bound g c in
    let no : len c.args.self.now.unacked + 8192 * rows c.args.self.now ≡ 0 = subst (λ (s : Sent). s.unacked ≡ empty → len s.unacked + 8192 * rows s ≡ 0) c.self.view_is
    (no_rows c.self.inside.runs.items (byte_in c.self.inside.chunks.items) c.self.inside.accepted c.self.invariant.tiled) none in
    omega (arith, bound, no)
