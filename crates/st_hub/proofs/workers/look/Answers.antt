use Rattle.std.proofs.Common.{refl, sym, ◌∙◌}
use Rattle.st_hub.proofs.Pumps.{on_ok}
use Rattle.st_hub.proofs.workers.look.Goals as goal

-- memory was refused to the pump
pub returns-then-is_err : goal.returns-then-is_err
returns-then-is_err g c = record {
  pumped = c.pump-pumped.new.self;
  moves = record { flows = c.pump-pumped.ensures.flows; shares = c.pump-pumped.ensures.rest };
  tried = λ h. absurd h;
  finds = (record {}, refl, refl);
  rest = refl;
}

pub returns : goal.returns
returns g c = record {
  pumped = c.pump-pumped.new.self;
  moves = record { flows = c.pump-pumped.ensures.flows; shares = c.pump-pumped.ensures.rest };
  tried = λ _. on_ok c.pump-pumped.result (sym c.is_err.ensures.value ∙ c.if-is_err.false) c.pump-pumped.ensures.tried;
  finds = c.find.ensures.finds;
  rest = c.find.ensures.rest;
}
