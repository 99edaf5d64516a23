use Rattle.std.proofs.Common.{◌≡◌, ◌<◌, length, rules, refl}
use Rattle.std.proofs.lemmas.Option.{slice_get_read}
use Rattle.test_wire.proofs.rings.write_lane.Goals as goal

pub returns : goal.returns
returns g c =
    let lanes = c.args.lanes.items in
    let lane = c.swap_remove.result in
    let within : c.args.ring < length lanes = search rules in
    c.requires c.args.ring lane (slice_get_read lanes (length lanes) c.args.ring lane refl within c.swap_remove.ensures.value)
