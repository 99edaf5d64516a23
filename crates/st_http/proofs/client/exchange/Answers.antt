use Rattle.std.proofs.Common.{rules, ◌∙◌, ap, inr, subst}
use Rattle.st_devices.specs.Tallies.{device_of, tally_of}
use Rattle.st_http.specs.Verdict.{response}
use Rattle.st_http.specs.Progress.{Progress}
use Rattle.st_http.specs.Reads.{Reads, ExplainsRead}
use Rattle.st_http.proofs.Spent.{takes_more}
use Rattle.st_http.proofs.Wholes.{begins, response_read}
use Rattle.st_http.proofs.client.exchange.Goals as goal

pub read_message-requires-clause-begun : goal.read_message-requires-clause-begun
read_message-requires-clause-begun g c = rw c.response-reading.ensures (begins response)

pub returns-in-Err-read_message-clause-why : goal.returns-in-Err-read_message-clause-why
returns-in-Err-read_message-clause-why g c =
    let r : Reads = record { before = g.S.Read.remaining (device_of c.write_message.new.stream); after = g.S.Read.remaining (device_of c.read_message.new.stream) } in
    inr (inr (
      device_of c.write_message.new.stream,
      rw (c.deref.ensures.value, c.in_ok-request.ensures) at c.in_default.ensures.whole,
      subst (λ x. ExplainsRead x r c.in-Err-read_message.error) (ap (λ (p : Progress). p.expected) c.response-reading.ensures) c.in-Err-read_message.ensures.why,
    ))

pub returns-in-Err-read_message-clause-turns : goal.returns-in-Err-read_message-clause-turns
returns-in-Err-read_message-clause-turns g c = (
  c.read_message.new.turns,
  takes_more (tally_of c.args.stream.now) (tally_of c.write_message.new.stream) (tally_of c.read_message.new.stream) c.args.turns c.write_message.new.turns c.read_message.new.turns
      c.in_default.ensures.turns c.in-Err-read_message.ensures.turns,
  c.in-Err-read_message.ensures.out_of_turns,
)

pub returns-clause-answer : goal.returns-clause-answer
returns-clause-answer g c =
    let r : Reads = record { before = g.S.Read.remaining (device_of c.write_message.new.stream); after = g.S.Read.remaining (device_of c.read_message.new.stream) } in (
      device_of c.write_message.new.stream,
      rw (c.deref.ensures.value, c.in_ok-request.ensures) at c.in_default.ensures.whole,
      response_read r c.read_message.new.reading c.unwrap.result.items
          (c.in_default-read_message.ensures.expected ∙ ap (λ (p : Progress). p.expected) c.response-reading.ensures)
          c.in_default-read_message.ensures.read c.in_default-read_message.ensures.says (search rules),
    )

pub returns-clause-turns : goal.returns-clause-turns
returns-clause-turns g c = (
  c.read_message.new.turns,
  takes_more (tally_of c.args.stream.now) (tally_of c.write_message.new.stream) (tally_of c.read_message.new.stream) c.args.turns c.write_message.new.turns c.read_message.new.turns
      c.in_default.ensures.turns c.in_default-read_message.ensures.turns,
  tt,
)
