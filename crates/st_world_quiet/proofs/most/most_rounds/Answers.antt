use Rattle.std.proofs.Common.{arith}
use Rattle.std.proofs.lemmas.List.{length-map}
use Rattle.st_world_quiet.specs.Playing.{bytes_of}
use Rattle.st_world_quiet.proofs.Bounds.{needed_below}
use Rattle.st_world_quiet.proofs.most.most_rounds.Goals as goal

pub returns : goal.returns
returns c =
    let long = length-map c.args.input.now (λ x. x.now) in
    λ limit. needed_below (bytes_of c.args.input.now) c.args.money.now c.frames_of.result c.total.result c.max-filled.result c.saturating_add.result limit (omega (arith, long, c.requires))
    c.frames_of.ensures c.total.ensures (omega (arith, c.max-filled.ensures)) (λ small. omega (arith, small, long, c.saturating_add.ensures))
