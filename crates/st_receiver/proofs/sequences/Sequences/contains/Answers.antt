use Rattle.std.proofs.Common.{◌∙◌, ap, sym}
use Rattle.std.specs.FinSet.{contains}
use Rattle.st_receiver.specs.Standing.{Seated}
use Rattle.st_receiver.proofs.Seating.{contains_runs}
use Rattle.st_receiver.proofs.sequences.Sequences.contains.Goals as goal

pub returns : goal.returns
returns g c =
    c.has.ensures ∙ sym (contains_runs c.self.inside.runs.items c.args.sequence c.self.invariant) ∙ ap (λ (s : Seated). contains s.set c.args.sequence) c.self.view_is
