use Rattle.std.proofs.Common.{ℕ, List, Bor, ap, refl}
use Rattle.ilpstream_settings.proofs.settings.ReceiveSettings.read.Goals as goal

abbrev read : Bor (List ℕ) → List ℕ
read text = text.now

pub returns : goal.returns
returns c = record {
  listen = (ap read c.in_ok-host_port.ensures.0, c.in_ok-host_port.ensures.1);
  token = c.in_ok-token_of.ensures;
  secret = c.in_ok-secret_of.ensures;
  address = (ap read c.in_ok-address.ensures.0, c.in_ok-address.ensures.1);
  peer = (ap read c.in_ok-address-2.ensures.0, c.in_ok-address-2.ensures.1);
  receive_max = c.in_ok-number.ensures;
  workers = c.in_ok-number-2.ensures;
  patience = c.in_ok-chosen.ensures;
  totals = refl;
  log = refl;
  verbose = refl;
  control = refl;
}
