use Rattle.std.proofs.Common.{List, ℕ, Option, ap₂}
use Rattle.ilpstream_settings.specs.Ledger.{LedgerTexts}
use Rattle.ilpstream_words.proofs.request.ledger.Goals as goal

pub returns : goal.returns
returns c = ap₂ (λ (file : List ℕ) (payment : Option (List (List ℕ))). record { file = file; payment = payment }) c.value.ensures c.payment.ensures
