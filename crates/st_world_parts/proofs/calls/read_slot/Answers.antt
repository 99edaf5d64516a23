use Rattle.std.proofs.Common.{◌≡◌, ◌≤◌, length, arith}
use Rattle.std.proofs.lemmas.Grind.{common_steps}
use Rattle.st_world_parts.proofs.Slots.{read_short}
use Rattle.st_world_parts.proofs.calls.read_slot.Goals as goal

pub unwrap-requires : goal.unwrap-requires
unwrap-requires g c =
    let short : length c.in-Ok-Bytes.bytes.items ≤ c.args.max = read_short _ _ _ _ _ (rw c.in-Ok-Bytes.field-0-is at c.in-Ok-Bytes.ensures.answers) in
    let few : length c.in-Ok-Bytes.bytes.items ≤ 65536 = rw c.in-Ok-Bytes.field-0-is at c.in-Ok-Bytes.ensures.few in
    let asked = c.min-room.ensures in
    let room = c.in_ok-reserve.ensures.ok in
    grind (arith, common_steps, short, few, asked, room)
