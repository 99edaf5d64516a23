-- Of two accounts, the one that it did not come from.
use Rattle.std.proofs.Common.{◌≡◌, ◌≢◌, ℕ, zero, suc, ◌<◌, refl, subst, arith}
use Rattle.st_hop.proofs.Crossings.{arrived_crosses}
use Rattle.st_world_parts.specs.Sides.{Side, Client, Server}
use Rattle.st_world_parts.specs.State.{account_from, account_to}
use Rattle.st_world.proofs.laws.prepares_go_across.Goals as goal

other_one : (way : Side) (outgoing : ℕ) → outgoing < 2 → outgoing ≢ account_from way → outgoing ≡ account_to way
other_one Client zero l n = absurd (n refl)
other_one Client (suc zero) l n = refl
other_one Server zero l n = refl
other_one Server (suc zero) l n = absurd (n refl)
other_one Client (suc (suc k)) l n = absurd (omega arith)
other_one Server (suc (suc k)) l n = absurd (omega arith)

pub returns : goal.returns
returns c = λ h way bytes now lawful two t outgoing text e.
    let x = arrived_crosses h (account_from way) bytes now lawful t outgoing text e in
    other_one way outgoing (subst (λ n. outgoing < n) two x.0) x.1
