use Rattle.std.proofs.Common.{◌≡◌, refl}
use Rattle.st_devices.specs.Tallies.{device_of}
use Rattle.ilpstream_main.proofs.Locals.{ends_unopened}
use Rattle.ilpstream_main.proofs.local.placed.Goals as goal

pub returns-in-Err : goal.returns-in-Err
returns-in-Err g c =
    ends_unopened c.args.request.now.settings (g.R.Read.remaining (device_of c.args.reader.now)) (g.W.Write.contents (device_of c.args.writer.now)) ((c.args.reader.now ≡ c.args.reader.now) × (c.args.writer.now ≡ c.args.writer.now)) (c.args.writer.now ≡ c.args.writer.now)
    c.in-Err.error (refl, refl) c.in-Err.ensures.refused
