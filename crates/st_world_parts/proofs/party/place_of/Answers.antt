use Rattle.std.proofs.Common.{◌≡◌, ◌≢◌, arith}
use Rattle.std.proofs.lemmas.Grind.{common_steps}
use Rattle.st_world_parts.proofs.Flights.{found_here, not_here, not_yet, nowhere, same_flight, other_flight}
use Rattle.st_world_parts.proofs.party.place_of.Goals as goal

pub returns-then-is-clause-found : goal.returns-then-is-clause-found
returns-then-is-clause-found c =
    found_here c.args.kept.now c.loop-i.i c.index-kept-i.result c.args.wanted (omega arith) c.index-kept-i.is
    (same_flight c.index-kept-i.result c.args.wanted (grind (arith, common_steps)))

pub loop-i-preserved : goal.loop-i-preserved
loop-i-preserved c =
    not_yet c.args.kept.now c.loop-i.i c.args.wanted c.loop-i.invariant
    (not_here c.args.kept.now c.loop-i.i c.index-kept-i.result c.args.wanted (omega arith) c.index-kept-i.is
    (other_flight c.index-kept-i.result c.args.wanted (grind (arith, common_steps))))

pub returns-clause-absent : goal.returns-clause-absent
returns-clause-absent c = λ _. nowhere c.args.kept.now c.loop-i.i c.args.wanted (omega arith) c.loop-i.invariant
