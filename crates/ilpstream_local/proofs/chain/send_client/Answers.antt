use Rattle.std.proofs.Common.{◌≡◌, ◌+◌, ℕ, true, sym, subst, inr, arith, rules}
use Rattle.std.proofs.lemmas.Grind.{common_steps}
use Rattle.st_world_parts.specs.Sides.{Client}
use Rattle.ilpstream_local.specs.Schedule.{Goes, IsSent}
use Rattle.ilpstream_local.proofs.Stops.{on_err, on_ok}
use Rattle.ilpstream_local.proofs.chain.send_client.Goals as goal

pub returns-clause-turn : goal.returns-clause-turn
returns-clause-turn g c =
    let yes : c.in_ok-send.field-0 ≡ true = first_of (search rules, grind (arith, common_steps)) in
    let sent : IsSent Client c.args.play.now c.send.new.self = rw yes at c.in_ok-send.ensures.sent in
    on_ok c.follow.result _ _ (λ goes. inr (c.follow.ensures.sent, (c.send.new.self, sent, subst (λ (n : ℕ). Goes Client n c.send.new.self c.follow.new.play) (sym c.follow.ensures.sent) goes))) c.follow.ensures.goes

pub returns-clause-begun : goal.returns-clause-begun
returns-clause-begun g c =
    let yes : c.in_ok-send.field-0 ≡ true = first_of (search rules, grind (arith, common_steps)) in
    let sent : IsSent Client c.args.play.now c.send.new.self = rw yes at c.in_ok-send.ensures.sent in
    on_err c.follow.result _ _ (λ begun. inr (c.send.new.self, sent, begun)) c.follow.ensures.begun
