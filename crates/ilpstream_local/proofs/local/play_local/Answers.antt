use Rattle.std.proofs.Common.{◌∙◌, Some}
use Rattle.st_devices.specs.Tallies.{device_of, tally_of}
use Rattle.ilpstream_local.proofs.Stops.{delivers, delivers_part, explains_carry, input_known, on_ok, over_carry, reads_and_writes, reads_carry, turns_carry}
use Rattle.ilpstream_local.proofs.local.play_local.Goals as goal

pub returns-clause-whole : goal.returns-clause-whole
returns-clause-whole g c =
    on_ok c.carry.result _ _
    (λ done. delivers (g.R.Read.remaining (device_of c.args.reader.now)) (g.W.Write.contents (device_of c.args.writer.now)) (g.W.Write.contents (device_of c.carry.new.writer)) c.in_ok-input.input.items c.deref.result.now
    c.in_ok-input.ensures.read c.in_ok-input.ensures.short c.deref.ensures.value done) c.carry.ensures.whole

pub returns-clause-part : goal.returns-clause-part
returns-clause-part g c =
    delivers_part (g.R.Read.remaining (device_of c.args.reader.now)) (g.W.Write.contents (device_of c.args.writer.now)) (g.W.Write.contents (device_of c.carry.new.writer)) c.in_ok-input.input.items c.deref.result.now
    c.in_ok-input.ensures.read c.deref.ensures.value c.carry.ensures.part

pub returns-clause-over : goal.returns-clause-over
returns-clause-over g c =
    over_carry c.carry.result c.args.settings.now (g.R.Read.remaining (device_of c.args.reader.now)) c.deref.result.now c.carry.new.sends
    (input_known (g.R.Read.remaining (device_of c.args.reader.now)) c.in_ok-input.input.items c.deref.result.now c.in_ok-input.ensures.read c.deref.ensures.value) c.carry.ensures.over

pub returns-clause-why : goal.returns-clause-why
returns-clause-why g c =
    explains_carry c.carry.result c.args.settings.now (g.R.Read.remaining (device_of c.args.reader.now)) c.deref.result.now c.carry.new.turns
    (input_known (g.R.Read.remaining (device_of c.args.reader.now)) c.in_ok-input.input.items c.deref.result.now c.in_ok-input.ensures.read c.deref.ensures.value) c.carry.ensures.why

pub returns-clause-reader_faults : goal.returns-clause-reader_faults
returns-clause-reader_faults g c =
    c.in_ok-input.ensures.faults ∙ reads_carry c.carry.result c.args.settings.now (Some c.deref.result.now) c.carry.new.turns (tally_of c.args.reader.now).faults c.carry.ensures.why

pub returns-clause-out_of_turns : goal.returns-clause-out_of_turns
returns-clause-out_of_turns g c = turns_carry c.carry.result c.args.settings.now (Some c.deref.result.now) c.carry.new.turns c.carry.ensures.why

pub returns-clause-turns : goal.returns-clause-turns
returns-clause-turns g c =
    reads_and_writes (tally_of c.args.reader.now) (tally_of c.read_input.new.reader) (tally_of c.args.writer.now) (tally_of c.carry.new.writer) c.args.turns.now c.read_input.new.turns c.carry.new.turns c.read_input.ensures.turns c.carry.ensures.turns
