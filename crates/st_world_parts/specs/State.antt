-- Two ends, a chain of hops between them, and all that was ever put or given on a link (RFC 0027: Prepares, and the
-- Fulfills and Rejects that answer them).
use Rattle.std.specs.Prelude.{ℕ, zero, suc, ◌+◌, ◌-◌, Bool, List, [], ◌∷◌, ◌++◌, length, get_or, set, slice_get, nat_eq, if◌then◌else◌}
use Rattle.std.specs.declared.option.Option.{Option}
use Rattle.std.specs.declared.option.Option.TheVariants.{None}
use Rattle.std.specs.Ordering.{nat_cmp}
use Rattle.std.specs.FinMap as fmap
use Rattle.st_hop.specs.Hop.{Hop}
use Rattle.st_end.specs.State.{EndState}
use Rattle.st_world_parts.specs.StreamLogs.{StreamLog, ledger_or}
use Rattle.st_world_parts.specs.Sides.{Side, Client, Server, other, Both, at, put}

-- an answered Prepare at an end, and at a hop: one that was rejected on arrival was not forwarded
pub record AnsweredAtEnd : Type 0 where
  pub amount : ℕ
  pub sequence : Option ℕ  -- if it opened
  pub fulfilled : Bool

pub record AnsweredAtHop : Type 0 where
  pub incoming : ℕ
  pub outgoing : Option ℕ
  pub amount_in : ℕ
  pub amount_out : ℕ
  pub fulfilled : Bool

-- an end and a hop, each with the answered of the Prepares that it answered
pub record Party : Type 0 where
  pub state : EndState
  pub answered : List AnsweredAtEnd

abbrev pub new_party : EndState → Party
new_party e = record { state = e; answered = [] }

pub record Node : Type 0 where
  pub state : Hop
  pub answered : List AnsweredAtHop

-- a Prepare that was put on a link: its flight at the end or ticket at the hop that put it, by sequence or number and
-- condition; and for a hop, which Prepare of the link before it was forwarded so
pub record SentPrepare : Type 0 where
  pub bytes : List ℕ
  pub name : ℕ
  pub condition : List ℕ
  pub cause : ℕ

-- an answer that was given on a link, and whether the one who put its Prepare booked it as a Fulfill
pub record SentAnswer : Type 0 where
  pub which : ℕ  -- the Prepare, from 1
  pub bytes : List ℕ
  pub taken : Bool

-- one way of a link
pub record Direction : Type 0 where
  pub prepares : List SentPrepare
  pub given : List SentAnswer

-- link 0 is the client's
pub record World : Type 0 where
  pub ends : Both Party
  pub nodes : List Node
  pub links : List (Both Direction)  -- by the end that the way leads from
  pub ledgers : Both (fmap.FinMap nat_cmp StreamLog)  -- by the end that writes
  pub refused : Bool  -- some core call found no memory

-- ---- places

abbrev pub empty_direction : Direction
empty_direction = record { prepares = []; given = [] }

abbrev pub empty_link : Both Direction
empty_link = record { client = empty_direction; server = empty_direction }

abbrev pub direction_at : World → ℕ → Side → Direction
direction_at w link way = at (get_or w.links link empty_link) way

abbrev pub with_lane : World → ℕ → Side → Direction → World
with_lane w link way lane = record w { links = set w.links link (put (get_or w.links link empty_link) way lane) }

abbrev pub with_prepare : World → ℕ → Side → SentPrepare → World
with_prepare w link way p = with_lane w link way (record { prepares = (direction_at w link way).prepares ++ p ∷ []; given = (direction_at w link way).given })

abbrev pub with_answer : World → ℕ → Side → SentAnswer → World
with_answer w link way g = with_lane w link way (record { prepares = (direction_at w link way).prepares; given = (direction_at w link way).given ++ g ∷ [] })

abbrev pub end_at : World → Side → EndState
end_at w side = (at w.ends side).state

abbrev pub with_end : World → Side → EndState → World
with_end w side e = record w { ends = put w.ends side (record { state = e; answered = (at w.ends side).answered }) }

abbrev pub with_entry : World → Side → AnsweredAtEnd → World
with_entry w side x = record w { ends = put w.ends side (record { state = end_at w side; answered = (at w.ends side).answered ++ x ∷ [] }) }

abbrev pub log_at : World → Side → ℕ → StreamLog
log_at w side k = ledger_or (fmap.get (at w.ledgers side) k)

abbrev pub with_ledger : World → Side → ℕ → StreamLog → World
with_ledger w side k x = record w { ledgers = put w.ledgers side (fmap.insert (at w.ledgers side) k x) }

-- the k-th, from 1
abbrev pub nth : {A : Type 0} → List A → ℕ → Option A
nth xs zero = None
nth xs (suc k) = slice_get xs k

abbrev pub with_node : World → ℕ → Node → World
with_node w i n = record w { nodes = set w.nodes i n }

abbrev pub with_hop_entry : World → ℕ → Node → Hop → AnsweredAtHop → World
with_hop_entry w i n h x = with_node w i (record { state = h; answered = n.answered ++ x ∷ [] })

-- who is at the far end of a link on a way: an end, or the hop of this place
pub data Place : Type 0 where
  AtEnd : (side : Side) → Place
  AtHop : (index : ℕ) → Place

abbrev pub far : World → ℕ → Side → Place
far w link Client = if nat_eq link (length w.nodes) then AtEnd Server else AtHop link
far w zero Server = AtEnd Client
far w (suc link) Server = AtHop link

abbrev pub near : World → ℕ → Side → Place
near w link way = far w link (other way)

abbrev pub next_link : ℕ → Side → ℕ
next_link link Client = link + 1
next_link link Server = link - 1

abbrev pub prev_link : ℕ → Side → ℕ
prev_link link way = next_link link (other way)

abbrev pub first_link : World → Side → ℕ
first_link w Client = 0
first_link w Server = length w.nodes

-- a hop's account towards the end from which a way leads, and towards the other
abbrev pub account_from : Side → ℕ
account_from Client = 0
account_from Server = 1

abbrev pub account_to : Side → ℕ
account_to way = account_from (other way)
