use Rattle.std.proofs.Common.{◌≡◌, ℕ, ap, sym}
use Rattle.std.specs.Prelude.{nat_lt}
use Rattle.st_unacked.specs.Runs.{status_at, is_kept}
use Rattle.st_unacked.proofs.Counts.{first-counts, counted-none}
use Rattle.st_unacked.proofs.run.is_kept_in.Goals as goal

pub returns-in-Some : goal.returns-in-Some
returns-in-Some g c = first-counts (λ q. is_kept (status_at c.args.runs.now.items q)) c.args.at c.args.count c.in-Some.from c.in-Some.ensures.0 c.in-Some.ensures.1 c.in-Some.ensures.2

pub returns-in-None : goal.returns-in-None
returns-in-None g c = sym (ap (nat_lt 0) (counted-none (λ q. is_kept (status_at c.args.runs.now.items q)) c.args.at c.args.count (λ q l m. c.in-None.ensures q l)))
