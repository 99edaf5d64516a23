use Rattle.std.proofs.lemmas.Grind.{common_steps}
use Rattle.std.proofs.Common.{arith, ◌<◌, length}
use Rattle.st_world_parts.specs.Seen.{told_seen}
use Rattle.st_world_parts.specs.Sides.{Client}
use Rattle.st_world.proofs.OverLinks.{backs_up, two_same}
use Rattle.st_world.proofs.links.back_to_hop_up.Goals as goal

pub returns-clause-back : goal.returns-clause-back
returns-clause-back g c =
    let more : 0 < length c.split_at_mut-front.result.1.now = omega (arith, c.requires, c.split_at_mut-front.ensures.back_len) in
    backs_up c.args.links.now _ _ c.args.link _ _ _ _ Client c.split_at_mut-front.ensures.value c.split_at_mut-front.ensures.front_len more c.back.view_is c.over.view_is c.settle_at.result told_seen c.args.put.now c.args.which _ c.args.now c.args.node.now c.settle_at.new.node c.settle_at.new.back c.settle_at.new.from c.settle_at.ensures.settled

pub returns-clause-same_links : goal.returns-clause-same_links
returns-clause-same_links g c =
    let more : 0 < length c.split_at_mut-front.result.1.now = omega (arith, c.requires, c.split_at_mut-front.ensures.back_len) in
    two_same c.args.links.now _ _ c.args.link _ _ _ _ Client c.split_at_mut-front.ensures.value c.split_at_mut-front.ensures.front_len more c.back.view_is c.over.view_is c.settle_at.result c.settle_at.new.back c.settle_at.new.from c.settle_at.ensures.same_back c.settle_at.ensures.same_from

pub bounds-front-link : goal.bounds-front-link
bounds-front-link g c = omega (arith, c.split_at_mut-front.ensures.front_len)

pub bounds-rest-0 : goal.bounds-rest-0
bounds-rest-0 g c = omega (arith, c.requires, c.split_at_mut-front.ensures.back_len)

pub overflow_add-link : goal.overflow_add-link
overflow_add-link g c = grind (arith, common_steps)

pub split_at_mut-front-requires : goal.split_at_mut-front-requires
split_at_mut-front-requires g c = grind (arith, common_steps)

pub offset_bounds-front-link : goal.offset_bounds-front-link
offset_bounds-front-link g c = grind (arith, common_steps)

pub offset_bounds-0 : goal.offset_bounds-0
offset_bounds-0 g c = grind (arith, common_steps)

pub both_followed-links : goal.both_followed-links
both_followed-links g c = grind (arith, common_steps)

pub slice_back_joined-links : goal.slice_back_joined-links
slice_back_joined-links g c = grind (arith, common_steps)
