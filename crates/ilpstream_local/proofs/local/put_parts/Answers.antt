use Rattle.std.proofs.Common.{◌≡◌, ◌∙◌, List, ℕ, ap, subst, arith}
use Rattle.std.specs.Io.KnownBytes.{Appends}
use Rattle.st_devices.specs.Tallies.{device_of}
use Rattle.ilpstream_local.specs.Parts.{stream_at}
use Rattle.ilpstream_local.specs.Playing.{read_on}
use Rattle.ilpstream_output.specs.Endings.{WritesPart}
use Rattle.ilpstream_local.proofs.Joined.{part_of_whole, writes_next, writes_part}
use Rattle.ilpstream_local.proofs.local.put_parts.Goals as goal

pub returns-in_err-put-clause-part : goal.returns-in_err-put-clause-part
returns-in_err-put-clause-part g c =
    let text : c.read_on.result.now ≡ read_on c.args.play.now.world (stream_at c.loop-place.place) = c.read_on.ensures ∙ ap (read_on c.args.play.now.world) c.stream_at.ensures in
    writes_part (λ place. read_on c.args.play.now.world (stream_at place)) c.loop-place.place c.args.streams (g.W.Write.contents (device_of c.args.writer.now)) (g.W.Write.contents (device_of c.loop-place.writer))
    (g.W.Write.contents (device_of c.put.new.writer)) c.loop-place-test.true c.loop-place.invariant.written
    (subst (λ (xs : List ℕ). WritesPart xs (g.W.Write.contents (device_of c.loop-place.writer)) (g.W.Write.contents (device_of c.put.new.writer))) text c.put.ensures.part)

pub loop-place-preserved : goal.loop-place-preserved
loop-place-preserved g c =
    let text : c.read_on.result.now ≡ read_on c.args.play.now.world (stream_at c.loop-place.place) = c.read_on.ensures ∙ ap (read_on c.args.play.now.world) c.stream_at.ensures in
    record {
      written =
          writes_next (λ place. read_on c.args.play.now.world (stream_at place)) c.loop-place.place (g.W.Write.contents (device_of c.args.writer.now)) (g.W.Write.contents (device_of c.loop-place.writer))
          (g.W.Write.contents (device_of c.put.new.writer)) c.loop-place.invariant.written
          (subst (λ (xs : List ℕ). Appends (g.W.Write.contents (device_of c.loop-place.writer)) (g.W.Write.contents (device_of c.put.new.writer)) xs) text c.in_ok-put.ensures.whole);
      faults = c.in_ok-put.ensures.faults ∙ c.loop-place.invariant.faults;
      flushed = λ h. c.in_ok-put.ensures.flushed (c.loop-place.invariant.flushed h);
      turns = record {
        fewer = omega (arith, c.put.ensures.turns.fewer, c.loop-place.invariant.turns.fewer);
        calls = omega (arith, c.put.ensures.turns.calls, c.put.ensures.turns.fewer, c.loop-place.invariant.turns.calls, c.loop-place.invariant.turns.fewer);
      };
    }

pub returns-clause-part : goal.returns-clause-part
returns-clause-part g c =
    part_of_whole (λ place. read_on c.args.play.now.world (stream_at place)) c.loop-place.place c.args.streams (g.W.Write.contents (device_of c.args.writer.now)) (g.W.Write.contents (device_of c.loop-place.writer))
    (omega (arith, c.loop-place-test.false, c.loop-place.auto.place-end)) c.loop-place.invariant.written
