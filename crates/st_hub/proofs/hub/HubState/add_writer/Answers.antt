use Rattle.std.proofs.Common.{◌≡◌, ap, Result, Ok, Err}
use Rattle.std.specs.Prelude.{IfErr}
use Rattle.st_hub.specs.Trying.{Beside}
use Rattle.st_hub.specs.Handing.{RefusesWriter}
use Rattle.st_hub.specs.declared.error.HubError.{HubError}
use Rattle.st_hub.proofs.hub.HubState.add_writer.Goals as goal

pub returns-clause-added : goal.returns-clause-added
returns-clause-added g c = rw (← c.self.view_is) c.add_writer.ensures.added

if_err : {X E : Type 0} (r : Result X E) (P Q : E → Type 0) → ((e : E) → P e → Q e) → IfErr r P → IfErr r Q
if_err (Ok x) P Q f h = tt
if_err (Err e) P Q f h = f e h

pub returns-clause-refused : goal.returns-clause-refused
returns-clause-refused g c =
    let a = c.self.inside.streams in
    let b = c.add_writer.new.self in
    let all : HubError → Type 0 = λ e. (b ≡ a) × RefusesWriter a.flow c.args.stream e in
    let flow : HubError → Type 0 = λ e. (b.flow ≡ a.flow) × RefusesWriter a.flow c.args.stream e in
    rw (← c.self.view_is) (if_err c.add_writer.result all flow (λ e h. (ap (λ (f : Beside _). f.flow) h.0, h.1)) c.add_writer.ensures.refused)
