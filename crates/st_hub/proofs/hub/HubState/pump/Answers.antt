use Rattle.std.proofs.Common.{subst, sym, arith, Result, Ok, Err}
use Rattle.std.specs.Prelude.{OnOk}
use Rattle.st_queues.specs.Watching.{IsUpTo}
use Rattle.st_hub.specs.Hub.{Hub}
use Rattle.st_end.specs.Totals.{totals}
use Rattle.st_hub.specs.Trying.{HadMemory, AllTried}
use Rattle.st_hub.proofs.Totals.{totals_rise}
use Rattle.st_hub.proofs.hub.HubState.pump.Goals as goal

pub publish-requires : goal.publish-requires
publish-requires g c = subst (λ t. IsUpTo t (totals c.pump-pumped.new.self.flow.core)) (sym c.self.invariant.0) (totals_rise _ _ c.pump-pumped.ensures.rises)

pub invariant_of-self : goal.invariant_of-self
invariant_of-self g c =
    let v = c.self.invariant in
    let k = c.pump-pumped.ensures.money in
    (c.publish.ensures, omega (arith, v.1, k), v.2, v.3, v.4)

where_ok : {X E : Type 0} (r : Result X E) (P Q : Type 0) → (P → Q) → OnOk r P → OnOk r Q
where_ok (Ok x) P Q f h = f h
where_ok (Err e) P Q f h = tt

pub returns-clause-tried : goal.returns-clause-tried
returns-clause-tried g c =
    let b = c.pump-pumped.new.self.flow in
    where_ok c.told.result (HadMemory c.pump-pumped.result) _ (λ had. subst (λ (h : Hub _). AllTried h.flow h.known h.room b) c.self.view_is (c.pump-pumped.ensures.tried had)) c.told.ensures.ok
