use Rattle.st_devices.specs.Tallies.{device_of, tally_of}
use Rattle.st_http.proofs.Spent.{takes_more}
use Rattle.st_http.proofs.Wholes.{at_ok}
use Rattle.st_http.proofs.server.serve_one.Goals as goal

pub returns-in-Ok-clause-served : goal.returns-in-Ok-clause-served
returns-in-Ok-clause-served g c =
    at_ok c.write_message.result (λ written. (device_of c.response_to_next.new.stream, c.in-Ok.text.items, c.in-Ok.ensures.due, rw c.deref.ensures.value at written)) c.write_message.ensures.whole

pub returns-in-Ok-clause-turns : goal.returns-in-Ok-clause-turns
returns-in-Ok-clause-turns g c = (
  c.write_message.new.turns,
  takes_more (tally_of c.args.stream.now) (tally_of c.response_to_next.new.stream) (tally_of c.write_message.new.stream) c.args.turns c.response_to_next.new.turns c.write_message.new.turns
      c.in-Ok.ensures.turns c.write_message.ensures.turns,
  c.write_message.ensures.out_of_turns,
)
