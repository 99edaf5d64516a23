use Rattle.std.proofs.Common.{ℕ, ap, ◌∙◌}
use Rattle.st_world_parts.specs.Events as events
use Rattle.st_world_parts.specs.Seen.{way_seen}
use Rattle.ilpstream_local.specs.Schedule.{arrival, link_of}
use Rattle.ilpstream_local.proofs.Rounds.{arrival_is, takes_as}
use Rattle.ilpstream_local.proofs.chain.arrive.Goals as goal

pub returns-clause-taken : goal.returns-clause-taken
returns-clause-taken g c =
    let way = way_seen c.args.way in
    let hops = c.args.play.now.asked.hops in
    takes_as (events.Arrive c.link_on-link.result way c.number_at-which.result c.now.result) (arrival way hops c.args.first c.args.number c.args.before) c.args.play.now c.pass.new.self
    (arrival_is way hops c.args.first c.args.number c.args.before c.link_on-link.result c.number_at-which.result c.now.result
    (c.link_on-link.ensures ∙ ap (λ (h : ℕ). link_of way h c.args.before) c.hops.ensures.count) c.number_at-which.ensures c.now.ensures) c.in_ok-_told.ensures.taken
