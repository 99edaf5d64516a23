use Rattle.std.proofs.Common.{Some, ap, subst}
use Rattle.std.specs.Prelude.{IfErr, OnOk}
use Rattle.ilpstream_settings.specs.declared.settings.LocalSettings.{LocalSettings}
use Rattle.ilpstream_local.specs.Playing.{Played}
use Rattle.ilpstream_local.specs.Endings.{GoesOver, StopsCarry}
use Rattle.ilpstream_local.proofs.local.carry.Goals as goal

pub returns-clause-over : goal.returns-clause-over
returns-clause-over g c = subst (λ (a : LocalSettings). OnOk c.carry_over.result (GoesOver a (Some c.args.input.now) c.carry_over.new.sends)) (ap (λ (p : Played). p.asked) c.in-Ok.ensures.start) c.carry_over.ensures.over

pub returns-clause-why : goal.returns-clause-why
returns-clause-why g c = subst (λ (a : LocalSettings). IfErr c.carry_over.result (StopsCarry a (Some c.args.input.now) c.carry_over.new.turns)) (ap (λ (p : Played). p.asked) c.in-Ok.ensures.start) c.carry_over.ensures.why
