-- The hops of a chain lead on to its server, and have the room that its accounts have.
use Rattle.std.proofs.Common.{◌≡◌, ℕ, suc, ◌+◌, ◌*◌, ◌^◌, ◌<◌, ◌≤◌, List, [], ◌∷◌, length, map, sum, Some, refl, ap, arith}
use Rattle.std.specs.List.{AllByRecursion}
use Rattle.st_oer.specs.Address.{is_within}
use Rattle.st_oer.specs.Ratios.{ratio}
use Rattle.st_hop.specs.declared.account.Account.{Account}
use Rattle.st_hop.specs.Hop.{Way}
use Rattle.st_hop.specs.Routing.{route_to}
use Rattle.st_sender.specs.Sending.{Config}
use Rattle.st_world.specs.Runs.{new_node}
use Rattle.st_world_quiet.specs.Calls.{MaySend}
use Rattle.st_world_quiet.specs.Calm.{LeadsOn}
use Rattle.st_world_quiet.specs.HopRounds.{HasRoomFor}
use Rattle.st_world_quiet.specs.Plays.{MayPlay, sends_needed}
use Rattle.st_world_quiet.specs.Losses.{Fate, lost_answers}
use Rattle.st_world_quiet.specs.LostWorlds.{MayPlayLossy}
use Rattle.st_world_quiet.specs.Fates.{HasRoomToLose}
use Rattle.st_world.specs.Chains.{both_ways, chain_of, one_to_one, server_name, table_of, tables_from}

-- by the names, which are numbers
to_server : Way
to_server = record { prefix = server_name; account = 1; rate = ratio 1 1 }

leads_there : route_to (both_ways (ratio 1 1)) server_name ≡ Some to_server
unfolding is_within to_server
leads_there = refl

leads_on : (n : ℕ) (a : Account) → LeadsOn (new_node (table_of n (one_to_one a))).state server_name
unfolding to_server
leads_on n a = record { way = to_server; route = leads_there; account = refl; rate = refl }

long : (n : ℕ) (accounts : List Account) → length (tables_from n (map one_to_one accounts)) ≡ length accounts
long n [] = refl
long n (a ∷ more) = ap suc (long (n + 1) more)

-- an account that accepts a Prepare of `most`, and has room for `left`
abbrev pub Suffices : (most left : ℕ) → Account → Type 0
Suffices most left a = (most ≤ a.max_packet) × (left ≤ a.limit)

have_room : (most left n : ℕ) (accounts : List Account) → AllByRecursion (Suffices most left) accounts → AllByRecursion (HasRoomFor server_name most left) (tables_from n (map one_to_one accounts))
have_room most left n [] all = tt
have_room most left n (a ∷ more) all = (record { leads = leads_on n a; max_packet = all.0.0; limit = all.0.1 }, have_room most left (n + 1) more all.1)

pub may_play : (accounts : List Account) (config : Config) (xs : List (List ℕ)) (ms : List ℕ) → MaySend config → sum (map length xs) < 2 ^ 63 → sum ms < 2 ^ 63 → length accounts ≤ 8 → AllByRecursion (Suffices config.packet_limit (sum ms)) accounts
    → sends_needed config.packet_limit xs ms < config.packets → MayPlay (chain_of (map one_to_one accounts) config) xs ms
may_play accounts config xs ms may_send bytes money few all packets = record {
  may_send = may_send;
  input_fits = bytes;
  money_fits = money;
  few_hops = (let same = long 1 accounts in omega (arith, same, few));
  room = have_room config.packet_limit (sum ms) 1 accounts all;
  packets = packets;
}

pub may_lose : (accounts : List Account) (config : Config) (xs : List (List ℕ)) (ms rs : List ℕ) (fates : List Fate) → HasRoomToLose accounts config xs ms rs fates → MayPlayLossy (chain_of (map one_to_one accounts) config) xs ms rs fates
may_lose accounts config xs ms rs fates h = record {
  may_send = h.may_send;
  input_fits = h.input_fits;
  short = h.short;
  most_fits = h.most_fits;
  each = h.each;
  all = h.all;
  few = h.few;
  few_hops = (let same = long 1 accounts in let few = h.few_hops in omega (arith, same, few));
  room = have_room config.packet_limit (sum ms + lost_answers fates * config.packet_limit) 1 accounts h.room;
  packets = h.packets;
  numbers = h.numbers;
}
