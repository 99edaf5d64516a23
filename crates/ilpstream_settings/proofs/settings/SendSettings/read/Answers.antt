use Rattle.std.proofs.Common.{ℕ, List, Bor, ap, refl}
use Rattle.ilpstream_settings.proofs.settings.SendSettings.read.Goals as goal

abbrev read : Bor (List ℕ) → List ℕ
read text = text.now

pub returns-in_err-read_rate : goal.returns-in_err-read_rate
returns-in_err-read_rate c = rw c.from_residual-in_err-read_rate.ensures (λ s has. c.in_err-read_rate.ensures s.least has.least)

pub returns : goal.returns
returns c = record {
  to = (ap read c.in_ok-host_port.ensures.0, c.in_ok-host_port.ensures.1);
  token = c.in_ok-token_of.ensures;
  secret = c.in_ok-secret_of.ensures;
  address = (ap read c.in_ok-address.ensures.0, c.in_ok-address.ensures.1);
  peer = (ap read c.in_ok-address-2.ensures.0, c.in_ok-address-2.ensures.1);
  money = c.in_ok-number.ensures;
  workers = c.in_ok-number-2.ensures;
  patience = rw c.from.ensures at c.in_ok-number-3.ensures;
  random = refl;
  least = c.in_ok-read_rate.ensures;
  totals = refl;
  log = refl;
}
