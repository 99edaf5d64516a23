-- A new hop of a chain is calm.
use Rattle.std.proofs.Common.{ℕ, ◌^◌, ◌<◌, ◌≤◌, List, [], ◌∷◌, refl, arith}
use Rattle.st_hop.specs.declared.account.Account.{Account}
use Rattle.st_hop.specs.Hop.{Way}
use Rattle.st_hop.specs.Table.{new_hop}
use Rattle.st_world_quiet.specs.Calm.{IsCalm, LeadsOn}

pub new_calm : (destination : List ℕ) (sent : ℕ) (own : List ℕ) (client server : Account) (routes : List Way) (most left : ℕ) → LeadsOn (new_hop own (client ∷ server ∷ []) routes) destination → most ≤ client.max_packet → left ≤ client.limit → left < 2 ^ 63
    → IsCalm destination sent most left (new_hop own (client ∷ server ∷ []) routes)
new_calm destination sent own client server routes most left leads small within few = record {
  alone = refl;
  leads = leads;
  claims_kept = refl;
  dues_kept = refl;
  numbers = omega arith;
  max_packet = small;
  limit = omega (arith, within);
  claimed = omega (arith, few);
  due = omega (arith, few);
}
