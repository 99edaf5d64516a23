use Rattle.std.proofs.Common.{ℕ, sym, ap, List, ◌∙◌, max, slice_index}
use Rattle.st_sender.specs.declared.load.SentFrame as code
use Rattle.st_sender.specs.Sending.{Flight}
use Rattle.st_sender.specs.Flights.{highest_end}
use Rattle.st_sender.specs.Shown.{kept}
use Rattle.st_sender.proofs.Money.{no_end}
use Rattle.st_sender.proofs.load.Flight.raise.Goals as goal

pub returns-clause-raised : goal.returns-clause-raised
returns-clause-raised g c = λ k h.
    let ends = ap (λ (fs : List code.SentFrame). highest_end k (kept fs)) c.deref.ensures.value ∙ sym (no_end k (kept c.self.inside.frames.items) c.self.inside.payments.items) ∙ ap (λ (p : Flight). highest_end k p.frames) c.self.view_is in
    ◌∙◌ {b = max (slice_index c.args.ends.now k) (highest_end k (kept c.deref.result.now))} (c.raise_all.ensures.raised k h) (ap (λ (n : ℕ). max (slice_index c.args.ends.now k) n) ends)
