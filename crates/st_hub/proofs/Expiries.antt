-- When a Prepare expires that an end sends.
use Rattle.std.proofs.Common.{ℕ, ℤ, pos, ◌+ℤ◌, List, refl}
use Rattle.st_end.specs.declared.flight.Open.{Open}
use Rattle.st_end.specs.State.{EndState}
use Rattle.st_end.specs.Sending.{prepare_for, Goes}
use Rattle.st_hub.specs.Turns.{ExpiresAt}

pub goes_expires : (e : EndState) (iv : List ℕ) (now : ℤ) (flight : Open) (bytes : List ℕ) (after : EndState) → Goes e iv now flight bytes after → ExpiresAt bytes (now +ℤ pos 30000)
goes_expires e iv now flight bytes after goes = record {
  prepare = prepare_for e now goes.load.amount goes.payload;
  lawful = goes.lawful;
  spelled = goes.bytes_are;
  expiry = refl;
}
