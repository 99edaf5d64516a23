use Rattle.std.proofs.Common.{ℕ, List, Bor, ap, refl}
use Rattle.ilpstream_settings.proofs.settings.ConnectorSettings.read.Goals as goal

abbrev read : Bor (List ℕ) → List ℕ
read text = text.now

pub returns : goal.returns
returns c = record {
  listen = (ap read c.in_ok-host_port.ensures.0, c.in_ok-host_port.ensures.1);
  own = (ap read c.in_ok-address.ensures.0, c.in_ok-address.ensures.1);
  requests = c.in_ok-chosen.ensures;
  workers = c.in_ok-number.ensures;
  totals = refl;
  log = refl;
  ledger = refl;
  keep_fulfillments = refl;
  verbose = refl;
  control = refl;
  table = refl;
}
