use Rattle.std.proofs.Common.{arith}
use Rattle.st_world_parts.specs.Seen.{told_seen}
use Rattle.st_world.specs.Seen.{event_seen}
use Rattle.ilpstream_local.proofs.Asides.{aside_kept}
use Rattle.ilpstream_local.proofs.play.Play.pass.Goals as goal

pub returns-clause-kept : goal.returns-clause-kept
returns-clause-kept g c = record {
  asked = c.in_ok-told.ensures.tells.asked;
  events = omega (arith, c.in_ok-told.ensures.tells.one);
  written = aside_kept c.args.self.now.world (event_seen c.args.event.now) (told_seen c.in_ok-told.told) c.take.new.self.world c.requires.aside c.in_ok-told.ensures.happens;
}
