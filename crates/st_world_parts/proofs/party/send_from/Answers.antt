use Rattle.std.proofs.Common.{◌≡◌, ◌++◌, ◌∷◌, [], arith}
use Rattle.std.proofs.lemmas.Grind.{common_steps}
use Rattle.st_end.specs.Sending.{Goes}
use Rattle.st_world_parts.specs.Ends.{prepare_of_flight}
use Rattle.st_world_parts.proofs.Flights.{sent_kept, sent}
use Rattle.st_world_parts.proofs.party.send_from.Goals as goal

pub invariant_of-party-in-Ok-Some : goal.invariant_of-party-in-Ok-Some
invariant_of-party-in-Ok-Some g c =
    let goes : Goes c.party.inside.state c.args.iv c.args.now c.in-Ok-Some.flight c.in-Ok-Some.bytes.items c.send.new.self = grind (arith, common_steps) in
    let kept : c.push.new.self.items ≡ c.party.inside.kept.items ++ c.in-Ok-Some.flight ∷ [] = grind (arith, common_steps) in
    sent_kept _ _ _ _ _ _ _ _ goes kept c.party.invariant

pub returns-in-Ok-Some-clause-sent : goal.returns-in-Ok-Some-clause-sent
returns-in-Ok-Some-clause-sent g c =
    let goes : Goes c.party.inside.state c.args.iv c.args.now c.in-Ok-Some.flight c.in-Ok-Some.bytes.items c.send.new.self = grind (arith, common_steps) in
    let prepares : c.push-in-Ok-Some.new.self.items ≡ c.lane.inside.prepares.items ++ prepare_of_flight c.in-Ok-Some.flight c.in-Ok-Some.bytes.items ∷ [] = grind (arith, common_steps) in
    sent _ _ _ _ _ _ _ _ _ _ _ _ c.party.view_is c.lane.view_is goes prepares

pub invariant_of-party : goal.invariant_of-party
invariant_of-party g c = grind (arith, common_steps)

pub returns-in_err-reserve-clause-sent : goal.returns-in_err-reserve-clause-sent
returns-in_err-reserve-clause-sent g c = grind (arith, common_steps)

pub returns-in_err-reserve-clause-same_party : goal.returns-in_err-reserve-clause-same_party
returns-in_err-reserve-clause-same_party g c = grind (arith, common_steps)

pub returns-in_err-reserve-clause-same_lane : goal.returns-in_err-reserve-clause-same_lane
returns-in_err-reserve-clause-same_lane g c = grind (arith, common_steps)

pub invariant_of-party-in_err-reserve-2 : goal.invariant_of-party-in_err-reserve-2
invariant_of-party-in_err-reserve-2 g c = grind (arith, common_steps)

pub returns-in_err-reserve-2-clause-sent : goal.returns-in_err-reserve-2-clause-sent
returns-in_err-reserve-2-clause-sent g c = grind (arith, common_steps)

pub returns-in_err-reserve-2-clause-same_party : goal.returns-in_err-reserve-2-clause-same_party
returns-in_err-reserve-2-clause-same_party g c = grind (arith, common_steps)

pub returns-in_err-reserve-2-clause-same_lane : goal.returns-in_err-reserve-2-clause-same_lane
returns-in_err-reserve-2-clause-same_lane g c = grind (arith, common_steps)

pub unwrap-requires : goal.unwrap-requires
unwrap-requires g c = grind (arith, common_steps)

pub unwrap-requires-in-Ok-Some : goal.unwrap-requires-in-Ok-Some
unwrap-requires-in-Ok-Some g c = grind (arith, common_steps)

pub invariant_of-party-in-Err : goal.invariant_of-party-in-Err
invariant_of-party-in-Err g c = grind (arith, common_steps)

pub returns-in-Ok-None-clause-sent : goal.returns-in-Ok-None-clause-sent
returns-in-Ok-None-clause-sent g c = grind (arith, common_steps)

pub returns-in-Err-clause-sent : goal.returns-in-Err-clause-sent
returns-in-Err-clause-sent g c = grind (arith, common_steps)
