use Rattle.std.proofs.Common.{◌∙◌, ◌<◌, ◌+◌, ◌*◌, length, ap, sym, arith}
use Rattle.st_hub.specs.Flow.{no_inlet, is_writing}
use Rattle.st_hub.specs.Inside.{inlet_of}
use Rattle.st_hub.proofs.Lists.{found_at, at_map}
use Rattle.st_hub.proofs.Tries.{busy_is}
use Rattle.st_hub.proofs.pumping.is_other_busy.Goals as goal

pub is_busy-requires : goal.is_busy-requires
is_busy-requires g c =
    let xs = c.args.writes.now.items in
    let r = 8 * c.args.place + c.args.other in
    let room : r < length xs = omega (arith, c.requires.0.0, c.requires.1, c.requires.2) in
    (c.requires.0.1 r c.index-lane.result.now (found_at xs r _ room c.index-lane.ensures)).over

pub returns : goal.returns
returns g c =
    let xs = c.args.writes.now.items in
    let r = 8 * c.args.place + c.args.other in
    let room : r < length xs = omega (arith, c.requires.0.0, c.requires.1, c.requires.2) in
    let at = at_map inlet_of xs r c.index-lane.result.now no_inlet (found_at xs r _ room c.index-lane.ensures) in
    c.is_busy.ensures ∙ ap is_writing (sym at) ∙ busy_is _ c.args.other c.args.writer c.if-other-writer.false
