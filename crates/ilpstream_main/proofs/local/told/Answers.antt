use Rattle.std.proofs.Common.{◌≡◌}
use Rattle.st_devices.specs.Tallies.{device_of}
use Rattle.ilpstream_main.proofs.Locals.{ends_by, ends_over}
use Rattle.ilpstream_main.proofs.local.told.Goals as goal

pub returns-in-Ok : goal.returns-in-Ok
returns-in-Ok g c =
    let r = c.play_local.new.reader in
    let v = c.play_local.new.writer in
    ends_over c.args.settings.now (g.R.Read.remaining (device_of c.args.reader.now)) (g.W.Write.contents (device_of c.args.writer.now)) (g.W.Write.contents (device_of v)) ((r ≡ c.args.reader.now) × (v ≡ c.args.writer.now)) (v ≡ c.args.writer.now)
    c.play_local.ensures.part c.play_local.new.sends c.tell_sends.result c.ended_within.result c.ended_within.ensures c.in-Ok.ensures.whole c.in-Ok.ensures.over

pub returns-in-Err : goal.returns-in-Err
returns-in-Err g c =
    let r = c.play_local.new.reader in
    let v = c.play_local.new.writer in
    ends_by c.args.settings.now (g.R.Read.remaining (device_of c.args.reader.now)) (g.W.Write.contents (device_of c.args.writer.now)) (g.W.Write.contents (device_of v)) ((r ≡ c.args.reader.now) × (v ≡ c.args.writer.now)) (v ≡ c.args.writer.now)
    c.play_local.ensures.part c.in-Err.fault c.in-Err.ensures.why c.in-Err.ensures.untouched
