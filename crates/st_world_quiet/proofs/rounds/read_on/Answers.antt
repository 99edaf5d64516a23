use Rattle.std.proofs.Common.{◌≡◌, ◌∙◌, false, arith, rules}
use Rattle.std.proofs.lemmas.Grind.{common_steps}
use Rattle.st_world_quiet.specs.Playing.{read_limit}
use Rattle.st_world_quiet.proofs.Unopened.{unread}
use Rattle.st_world_quiet.proofs.rounds.read_on.Goals as goal

pub returns-then-not-has_stream-clause-met : goal.returns-then-not-has_stream-clause-met
returns-then-not-has_stream-clause-met g c =
    let shut : c.has_stream.result ≡ false = first_of (search rules, grind (arith, common_steps)) in
    unread c.args.world.now c.args.stream (c.has_stream.ensures.reads read_limit ∙ shut)
