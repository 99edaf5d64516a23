use Rattle.std.proofs.Common.{◌≡◌, ◌+◌, ℕ, true, refl, subst, inr, arith, rules}
use Rattle.std.proofs.lemmas.Grind.{common_steps}
use Rattle.st_world_parts.specs.Sides.{Server}
use Rattle.ilpstream_local.specs.Schedule.{BeginsCrossing, IsSent}
use Rattle.ilpstream_local.proofs.Rounds.{arrived_all, begins_on, goes_on}
use Rattle.ilpstream_local.proofs.Stops.{on_err, on_ok}
use Rattle.ilpstream_local.proofs.chain.send_server.Goals as goal

pub returns-clause-turn : goal.returns-clause-turn
returns-clause-turn g c =
    let m = c.send.new.self in
    let k = c.saturating_add-counts.result in
    let yes : c.in_ok-send.field-0 ≡ true = first_of (search rules, grind (arith, common_steps)) in
    let sent : IsSent Server c.args.play.now c.send.new.self = rw yes at c.in_ok-send.ensures.sent in
    let next : k ≡ c.args.counts.now.returned + 1 = omega (arith, c.saturating_add-counts.ensures, c.requires.counted.returned, c.in_ok-send.ensures.room) in
    on_ok c.cross.result _ _ (λ crosses. inr (next, (m, sent, goes_on Server k k m c.cross.new.play refl (arrived_all m.asked.lose k) crosses))) c.cross.ensures.crosses

pub returns-clause-begun : goal.returns-clause-begun
returns-clause-begun g c =
    let m = c.send.new.self in
    let k = c.saturating_add-counts.result in
    let after = c.args.counts.now.returned + 1 in
    let yes : c.in_ok-send.field-0 ≡ true = first_of (search rules, grind (arith, common_steps)) in
    let sent : IsSent Server c.args.play.now c.send.new.self = rw yes at c.in_ok-send.ensures.sent in
    let next : k ≡ after = omega (arith, c.saturating_add-counts.ensures, c.requires.counted.returned, c.in_ok-send.ensures.room) in
    on_err c.cross.result _ _ (λ begun. inr (m, sent, begins_on Server after after m c.cross.new.play refl (arrived_all m.asked.lose after) (subst (λ (n : ℕ). BeginsCrossing Server n n m c.cross.new.play) next begun))) c.cross.ensures.begun
