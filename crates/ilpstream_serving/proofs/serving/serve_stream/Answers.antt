use Rattle.std.proofs.Common.{map}
use Rattle.st_devices.specs.Tallies.{device_of}
use Rattle.st_http.specs.Exchanges.{known}
use Rattle.ilpstream_serving.proofs.Unanswered.{asked_why}
use Rattle.ilpstream_serving.proofs.serving.serve_stream.Goals as goal

pub returns-in-Err : goal.returns-in-Err
returns-in-Err g c =
    asked_why (known g.S.Write.contents g.S.Read.remaining) g.T.Answerer.gives (map (λ t. t.now) c.args.tokens.now) (device_of c.args.stream.now) (device_of c.serve_one.new.stream)
    c.args.answerer.now c.serve_one.new.answerer c.in-Err.field-0 c.in-Err.ensures.why
