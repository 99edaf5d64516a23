-- The chain of a world: the two ends `test.a` and `test.b`, and between them the hops `test.h1`, `test.h2`, .., each with the
-- same terms towards both its neighbours, and a rate at which amounts are forwarded to the server.
use Rattle.std.specs.Prelude.{ℕ, ◌+◌, ◌-◌, ◌^◌, List, [], ◌∷◌, ◌++◌, replicate}
use Rattle.st_oer.specs.Ratios.{Ratio, ratio}
use Rattle.st_hop.specs.declared.account.Account.{Account}
use Rattle.st_hop.specs.Hop.{Way}
use Rattle.st_sender.specs.Sending.{Config}
use Rattle.st_world.specs.Runs.{Table, Chain}

-- "test."
abbrev pub test : List ℕ
test = 116 ∷ 101 ∷ 115 ∷ 116 ∷ 46 ∷ []

abbrev pub client_name : List ℕ
client_name = test ++ 97 ∷ []

abbrev pub server_name : List ℕ
server_name = test ++ 98 ∷ []

-- of the n-th hop, from 1
abbrev pub hop_name : ℕ → List ℕ
hop_name n = test ++ 104 ∷ (48 + n) ∷ []

-- the other way
abbrev pub turned_over : Ratio → Ratio
turned_over r = ratio r.den r.num

abbrev pub both_ways : Ratio → List Way
both_ways r = record { prefix = client_name; account = 0; rate = turned_over r } ∷ record { prefix = server_name; account = 1; rate = r } ∷ []

abbrev pub Terms : Type 0
Terms = Account × Ratio

abbrev pub table_of : ℕ → Terms → Table
table_of n t = record { own = hop_name n; client = t.0; server = t.0; routes = both_ways t.1 }

-- the first of these is the n-th
abbrev pub tables_from : ℕ → List Terms → List Table
tables_from n [] = []
tables_from n (t ∷ more) = table_of n t ∷ tables_from (n + 1) more

abbrev pub chain_of : List Terms → Config → Chain
chain_of terms config = record {
  secret = replicate 32 0;
  client = client_name;
  server = server_name;
  hops = tables_from 1 terms;
  config = config;
}

-- amounts are forwarded as they are
abbrev pub one_to_one : Account → Terms
one_to_one a = (a, ratio 1 1)

-- no limit that is reached
abbrev pub free_account : Account
free_account = record { limit = 2 ^ 63 - 1; max_packet = 2 ^ 63 - 1 }
