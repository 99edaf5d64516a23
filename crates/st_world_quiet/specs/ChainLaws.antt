-- The laws of chains that forward amounts unchanged, as sentences.
use Rattle.std.specs.Prelude.{ℕ, ◌≤◌, ◌<◌, ◌^◌, List, length, map, sum}
use Rattle.std.specs.List.{AllByRecursion}
use Rattle.st_hop.specs.declared.account.Account.{Account}
use Rattle.st_sender.specs.Sending.{Config}
use Rattle.st_world.specs.Chains.{chain_of, one_to_one}
use Rattle.st_world_quiet.specs.Calls.{MaySend}
use Rattle.st_world_quiet.specs.Plays.{MayPlay, sends_needed}
use Rattle.st_world_quiet.specs.Losses.{Fate}
use Rattle.st_world_quiet.specs.LostWorlds.{MayPlayLossy}
use Rattle.st_world_quiet.specs.Fates.{HasRoomToLose}

-- the hop's account accepts a Prepare of the packet limit, and all amounts
abbrev pub HasRoomFor : Config → (ms : List ℕ) → Account → Type 0
HasRoomFor config ms a = (config.packet_limit ≤ a.max_packet) × (sum ms ≤ a.limit)

-- a chain of at most eight hops with room may play a lossless run, if the connection has Prepares enough
abbrev pub ChainWithRoomMayPlay : Type 0
ChainWithRoomMayPlay =
    (accounts : List Account) (config : Config) (xs : List (List ℕ)) (ms : List ℕ)
    → MaySend config
    → sum (map length xs) < 2 ^ 63
    → sum ms < 2 ^ 63
    → length accounts ≤ 8
    → AllByRecursion (λ (a : Account). HasRoomFor config ms a) accounts
    → sends_needed config.packet_limit xs ms < config.packets
    → MayPlay (chain_of (map one_to_one accounts) config) xs ms

-- and one with room for what lost answers carry too may play a lossy one
abbrev pub ChainWithRoomMayLose : Type 0
ChainWithRoomMayLose =
    (accounts : List Account) (config : Config) (xs : List (List ℕ)) (ms rs : List ℕ) (fates : List Fate)
    → HasRoomToLose accounts config xs ms rs fates
    → MayPlayLossy (chain_of (map one_to_one accounts) config) xs ms rs fates
