use Rattle.std.proofs.Common.{◌≡◌, ◌<◌, length, rules, refl}
use Rattle.std.proofs.lemmas.Option.{slice_get_read}
use Rattle.test_wire.proofs.memory.first_read.Goals as goal

pub returns : goal.returns
returns g c =
    let lanes = c.args.lanes.items in
    let lane = c.swap_remove.result in
    let within : 0 < length lanes = search rules in
    (c.requires 0 lane (slice_get_read lanes (length lanes) 0 lane refl within c.swap_remove.ensures.value)).1
