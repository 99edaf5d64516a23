use Rattle.std.proofs.Common.{◌≡◌, ◌<◌, ◌∙◌, subst, sym}
use Rattle.st_hub.specs.Trying.{Beside, AllTried}
use Rattle.st_hub.specs.Inside.{flow_of}
use Rattle.st_hub.specs.Steps.{Flows, Continues}
use Rattle.st_hub.specs.Keeping.{Rises}
use Rattle.st_hub.proofs.StepTies.{steps_kept, kept_tied, kept_paired}
use Rattle.st_hub.proofs.streams.Streams.pump.Goals as goal

pub invariant_of-self : goal.invariant_of-self
invariant_of-self g c =
    let v = c.self.invariant in
    let p = c.pump.ensures in
    let k = steps_kept p.flows.0 _ _ v.tied.inlets v.tied.outlets p.flows.1 in
    record { lanes = p.lanes.0; read_lanes = p.lanes.1; tied = kept_tied _ _ k v.tied; paired = kept_paired _ _ k v.paired; parity = subst (λ n. n < 2) (sym k.rises.parity) v.parity; width = k.rises.sent_width ∙ v.width }

pub returns : goal.returns
returns g c =
    let v = c.self.invariant in
    let p = c.pump.ensures in
    let k = steps_kept p.flows.0 _ _ v.tied.inlets v.tied.outlets p.flows.1 in
    let b = flow_of c.pump.new.core c.pump.new.writes.items c.pump.new.reads.items in
    record {
      flows = subst (λ (a : Beside _). Flows a.flow b) c.self.view_is p.flows;
      rises = subst (λ (a : Beside _). Rises a.flow.core b.core) c.self.view_is k.rises;
      money = subst (λ (a : Beside _). b.core.receiving.credit ≡ a.flow.core.receiving.credit) c.self.view_is k.credit;
      continues = subst (λ (a : Beside _). Continues a.flow b) c.self.view_is k.continues;
      tried = λ had. subst (λ (a : Beside _). AllTried a.flow a.known a.room b) c.self.view_is (p.tried had);
    }
