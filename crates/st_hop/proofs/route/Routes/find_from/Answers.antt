use Rattle.std.proofs.Common.{◌≡◌, List, Some, length, vec_len, String, refl, sym, ap, ◌∙◌, arith, rules}
use Rattle.std.proofs.lemmas.Grind.{common_steps}
use Rattle.st_hop.specs.declared.route.NextHop.{NextHop}
use Rattle.st_hop.specs.Hop.{Way}
use Rattle.st_hop.specs.Routing.{route_to}
use Rattle.st_hop.specs.Ways.{next_of}
use Rattle.st_hop.proofs.LongestLookup.{hit, hit_next, miss, miss_all}
use Rattle.st_hop.proofs.Places.{place_found, none_found}
use Rattle.st_hop.proofs.route.Routes.find_from.Goals as goal

pub index-requires : goal.index-requires
index-requires g c =
    let found = rw c.in-Some.is at c.get.ensures.value in
    let place = place_found c.loop-place.prefix.now c.self.inside.ways.items c.in-Some.place.now (sym (c.self.invariant.1 c.loop-place.prefix.now) ∙ sym found) in
    let within = place.0 in
    let len : vec_len c.self.inside.ways ≡ length c.self.inside.ways.items = first_of (search rules, grind (arith, common_steps)) in
    omega (arith, within, len)

pub returns-in-Some : goal.returns-in-Some
returns-in-Some g c =
    let found = rw c.in-Some.is at c.get.ensures.value in
    let place = place_found c.loop-place.prefix.now c.self.inside.ways.items c.in-Some.place.now (sym (c.self.invariant.1 c.loop-place.prefix.now) ∙ sym found) in
    let next = place.1 _ ∙ ap (λ (w : String _ × NextHop). Some w.1) (sym c.index.ensures) in
    sym (hit_next c.loop-place.prefix.now c.index.result.now.1 _ (hit c.loop-place.prefix.now c.self.inside.ways.items c.index.result.now.1 next))
    ∙ c.loop-place.invariant.1
    ∙ ap (λ (ways : List Way). next_of (route_to ways c.args.address.now)) c.self.view_is

pub returns-in_err-prefix : goal.returns-in_err-prefix
returns-in_err-prefix g c =
    let none = rw c.in_default.is at c.get.ensures.value in
    let nowhere = none_found c.loop-place.prefix.now c.self.inside.ways.items (sym (c.self.invariant.1 c.loop-place.prefix.now) ∙ sym none) in
    c.from_residual.ensures
    ∙ sym (ap next_of (miss_all c.loop-place.prefix.now (c.in_err-prefix.ensures.alone refl) c.self.inside.ways.items nowhere))
    ∙ c.loop-place.invariant.1
    ∙ ap (λ (ways : List Way). next_of (route_to ways c.args.address.now)) c.self.view_is

pub loop-place-preserved : goal.loop-place-preserved
loop-place-preserved g c =
    let none = rw c.in_default.is at c.get.ensures.value in
    let nowhere = none_found c.loop-place.prefix.now c.self.inside.ways.items (sym (c.self.invariant.1 c.loop-place.prefix.now) ∙ sym none) in
    (search rules, ap next_of (sym (miss c.loop-place.prefix.now c.in_ok-prefix.prefix.now c.in_ok-prefix.ensures.within c.self.inside.ways.items nowhere)) ∙ c.loop-place.invariant.1)
