use Rattle.std.proofs.Common.{◌≡◌, ◌∙◌, sym, ap, refl, arith}
use Rattle.st_end.specs.State.{EndState}
use Rattle.st_hub.specs.Flow.{inlet_at, outlet_at}
use Rattle.st_hub.specs.Trying.{Beside, known_at, room_at}
use Rattle.st_end.specs.Totals.{totals}
use Rattle.st_hub.proofs.FreshRings.{shown_new, all_fresh_inlets, all_fresh_outlets, all_fresh_known, all_fresh_room}
use Rattle.st_hub.proofs.hub.HubState.new.Goals as goal

pub invariant_of-hub : goal.invariant_of-hub
invariant_of-hub g c =
    let core : c.new.result.flow.core ≡ c.args.core = ap (λ (f : Beside _). f.flow.core) c.new.ensures in
    let name = c.requires.name in (
      c.named-writes.ensures.seats.0 ∙ sym (shown_new c.args.core c.requires.fresh) ∙ ap totals (sym core),
      c.open-credit.ensures.total ∙ sym (ap (λ (e : EndState). e.receiving.credit) core ∙ c.requires.fresh.credit),
      omega (arith, c.open-credit.ensures.parts, name.1, name.2),
      omega arith,
      sym name.1 ∙ name.2,
    )

pub returns-clause-hub : goal.returns-clause-hub
returns-clause-hub g c = record {
  core = ap (λ (f : Beside _). f.flow.core) c.new.ensures;
  inlets = λ r. ap (λ (f : Beside _). inlet_at f.flow.inlets r) c.new.ensures ∙ all_fresh_inlets g.N.HubName.write_ring _ c.named-writes.ensures.writes.1 r;
  outlets = λ s. ap (λ (f : Beside _). outlet_at f.flow.outlets s) c.new.ensures ∙ all_fresh_outlets g.N.HubName.read_ring _ c.named-writes.ensures.reads.1 s;
  known = λ r. ap (λ (f : Beside _). known_at f.known r) c.new.ensures ∙ all_fresh_known g.N.HubName.write_ring _ c.named-writes.ensures.writes.1 r;
  room = λ s less. ap (λ (f : Beside _). room_at f.room s) c.new.ensures ∙ all_fresh_room g.N.HubName.read_ring _ (let wide = c.named-writes.ensures.reads.0 in omega (arith, wide, c.named-writes.result.reads.ok.0)) c.named-writes.ensures.reads.1 s less;
  shares = (refl, c.open-credit.ensures.amount);
}
