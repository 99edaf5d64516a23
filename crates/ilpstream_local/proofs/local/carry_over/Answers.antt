use Rattle.std.proofs.Common.{◌≡◌, ◌<◌, ◌∙◌, List, ℕ, Some, sym, subst, length}
use Rattle.std.specs.Io.KnownBytes.{Appends}
use Rattle.st_devices.specs.Tallies.{device_of}
use Rattle.ilpstream_local.specs.Parts.{joined, part_at, part_size, stream_at}
use Rattle.ilpstream_local.specs.Playing.{read_on}
use Rattle.ilpstream_settings.specs.declared.settings.LocalSettings.{LocalSettings}
use Rattle.ilpstream_output.specs.Endings.{WritesPart}
use Rattle.ilpstream_local.specs.Sends.{AreOf}
use Rattle.ilpstream_local.proofs.Cuts.{parts_whole}
use Rattle.ilpstream_local.proofs.Joined.{joined_same}
use Rattle.ilpstream_local.proofs.Stops.{goes_over, on_ok, play_stops, stops_write, writes_late}
use Rattle.ilpstream_local.proofs.local.carry_over.Goals as goal

pub returns-in-Ok-clause-whole : goal.returns-in-Ok-clause-whole
returns-in-Ok-clause-whole g c =
    let input = c.args.input.now in
    let streams = c.streams-streams.result in
    let read : ℕ → List ℕ = λ place. read_on c.send_parts.new.play.world (stream_at place) in
    let all : joined read streams ≡ input = joined_same read (part_at (part_size (length input) streams) input) streams c.in-Ok.ensures.delivered ∙ parts_whole input streams (subst (λ (n : ℕ). 0 < n) (sym c.streams-streams.ensures) c.requires.some) in
    on_ok c.put_parts.result _ _ (λ done. subst (Appends (g.W.Write.contents (device_of c.args.writer.now)) (g.W.Write.contents (device_of c.put_parts.new.writer))) all done) c.put_parts.ensures.whole

pub returns-in-Ok-clause-part : goal.returns-in-Ok-clause-part
returns-in-Ok-clause-part g c =
    let input = c.args.input.now in
    let streams = c.streams-streams.result in
    let read : ℕ → List ℕ = λ place. read_on c.send_parts.new.play.world (stream_at place) in
    let all : joined read streams ≡ input = joined_same read (part_at (part_size (length input) streams) input) streams c.in-Ok.ensures.delivered ∙ parts_whole input streams (subst (λ (n : ℕ). 0 < n) (sym c.streams-streams.ensures) c.requires.some) in
    subst (λ (xs : List ℕ). WritesPart xs (g.W.Write.contents (device_of c.args.writer.now)) (g.W.Write.contents (device_of c.put_parts.new.writer))) all c.put_parts.ensures.part

pub returns-in-Ok-clause-over : goal.returns-in-Ok-clause-over
returns-in-Ok-clause-over g c =
    on_ok c.put_parts.result _ _
    (λ done. goes_over c.args.play.now.asked c.streams-streams.result c.args.input.now c.in-Ok.counts.sent c.in-Ok.counts.returned c.sends_of.result c.args.play.now c.send_parts.new.play
    (subst (λ (a : LocalSettings). AreOf a (length c.args.input.now) c.in-Ok.counts.sent c.in-Ok.counts.returned c.sends_of.result) c.send_parts.ensures.asked c.sends_of.ensures) c.requires.start c.send_parts.ensures.asked c.streams-streams.ensures c.in-Ok.ensures.run c.send_parts.ensures.sent
    c.in-Ok.ensures.scheduled c.in-Ok.ensures.delivered)
    c.put_parts.ensures.whole

pub returns-in-Ok-clause-why : goal.returns-in-Ok-clause-why
returns-in-Ok-clause-why g c = stops_write c.put_parts.result c.args.play.now.asked (Some c.args.input.now) c.put_parts.new.turns c.put_parts.ensures.why

pub returns-in-Err-clause-why : goal.returns-in-Err-clause-why
returns-in-Err-clause-why g c =
    play_stops c.args.play.now.asked c.streams-streams.result c.args.input.now c.args.turns.now c.args.play.now c.send_parts.new.play c.in-Err.fault c.requires.start c.send_parts.ensures.asked c.streams-streams.ensures c.send_parts.ensures.sent
    c.in-Err.ensures.why

pub returns-in-Ok-clause-untouched : goal.returns-in-Ok-clause-untouched
returns-in-Ok-clause-untouched g c = writes_late c.put_parts.result c.put_parts.new.turns (c.put_parts.new.writer ≡ c.args.writer.now) c.put_parts.ensures.why
