use Rattle.std.proofs.Common.{◌∙◌, ap, sym}
use Rattle.std.specs.FinSet.{insert}
use Rattle.st_receiver.specs.Standing.{Seated}
use Rattle.st_receiver.proofs.Seating.{set_of_more, set_of_same}
use Rattle.st_receiver.proofs.sequences.Sequences.insert.Goals as goal

pub returns-then-not-has : goal.returns-then-not-has
returns-then-not-has g c =
    set_of_more c.self.inside.runs.items c.join.new.runs.items c.args.sequence c.runs_before-place.ensures.rise c.join.ensures.rise c.join.ensures.among ∙ ap (λ (s : Seated). insert s.set c.args.sequence) c.self.view_is

pub returns-else-not-has : goal.returns-else-not-has
returns-else-not-has g c =
    ap (λ (s : Seated). s.set) (sym c.self.view_is) ∙ set_of_same c.self.inside.runs.items c.args.sequence c.runs_before-place.ensures.rise (sym c.has.ensures ∙ c.if-not-has.false) ∙ ap (λ (s : Seated). insert s.set c.args.sequence) c.self.view_is
