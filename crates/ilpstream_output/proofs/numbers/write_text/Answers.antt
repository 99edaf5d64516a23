use Rattle.std.proofs.Common.{ap, refl, inl, inr}
use Rattle.std.specs.Prelude.{Err}
use Rattle.ilpstream_output.specs.declared.error.Fault.{Fault}
use Rattle.ilpstream_output.specs.Endings.{most_turns}
use Rattle.ilpstream_output.proofs.Spending.{ended_by, ended_well, not_the_reader, spends_nothing, spends_writes}
use Rattle.st_devices.specs.Tallies.{tally_of}
use Rattle.ilpstream_output.proofs.numbers.write_text.Goals as goal

pub returns-in-Ok-clause-written : goal.returns-in-Ok-clause-written
returns-in-Ok-clause-written g c = λ r.
    let w = tally_of c.args.writer.now in
    let v = tally_of c.put.new.writer in
    let turns = spends_writes r r w w v most_turns most_turns c.put.new.turns (spends_nothing r w most_turns) c.put.ensures.turns in
    inl (refl, rw c.as_bytes.ensures.value at c.in-Ok.ensures.whole, ended_well r r w v c.put.new.turns refl c.in-Ok.ensures.faults turns c.in-Ok.ensures.flushed, refl)

pub returns-in-Err-clause-written : goal.returns-in-Err-clause-written
returns-in-Err-clause-written g c = λ r.
    let w = tally_of c.args.writer.now in
    let v = tally_of c.put.new.writer in
    let turns = spends_writes r r w w v most_turns most_turns c.put.new.turns (spends_nothing r w most_turns) c.put.ensures.turns in
    let same = not_the_reader c.in-Err.fault r.faults (λ is. c.in-Err.ensures.no_input (ap (λ (x : Fault). Err x) is)) in
    inr (c.in-Err.fault, rw c.as_bytes.ensures.value at c.put.ensures.part, ended_by r r w v c.in-Err.fault c.put.new.turns same c.in-Err.ensures.faults turns c.in-Err.ensures.out_of_turns, c.tell_fault.ensures)
