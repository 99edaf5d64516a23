use Rattle.std.proofs.Common.{◌≡◌, ◌∙◌, ap, sym, rules}
use Rattle.st_http.specs.Verdict.{request}
use Rattle.host_objects.specs.Messages.{IsNewMessage}
use Rattle.ilpstream_c.specs.Http.{tokens_of}
use Rattle.ilpstream_c.proofs.Made.{request_made}
use Rattle.ilpstream_c.proofs.http.ilp_request_new.Goals as goal

pub returns-in-Ok : goal.returns-in-Ok
returns-in-Ok c =
    let made : IsNewMessage (request (tokens_of c.args.tokens.now c.args.lengths.now)) c.new-message.result = record {
      expects = c.new-message.ensures.expects ∙ ap request c.in-Ok.ensures.1;
      nothing_is_given = c.new-message.ensures.nothing_is_given;
      nothing_is_out = c.new-message.ensures.nothing_is_out;
    } in
    request_made c.args.tokens.now c.args.lengths.now c.args.handle.now.state c.put_new.new.handle.state c.put_new.result c.new-message.result (search rules) c.in-Ok.ensures.0 made (search rules)
