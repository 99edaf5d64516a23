-- A hub as its contracts see it.
use Rattle.std.specs.Prelude.{◌≡◌, ℕ, ◌<◌, List, []}
use Rattle.st_streams.specs.Slots.{no_slots}
use Rattle.st_queues.specs.declared.items.Item.{Item}
use Rattle.st_end.specs.State.{EndState}
use Rattle.st_hub.specs.Flow.{Flow, inlet_at, outlet_at, no_inlet, no_outlet}
use Rattle.st_hub.specs.Trying.{known_at, room_at}

-- no stream is open, nothing is in flight, and nothing was credited or paid
pub record IsNew (e : EndState) : Type 0 where
  pub sent : e.sending.streams ≡ no_slots
  pub flights : e.sending.flights ≡ []
  pub paid : e.sending.paid ≡ 0
  pub received : e.receiving.streams ≡ no_slots
  pub credit : e.receiving.credit ≡ 0
  pub parity : e.receiving.parity < 2

pub record Hub (A : Type 0) : Type 0 where
  pub flow : Flow A
  pub known : List (List (Item A))  -- by ring number: what is known to be in a writer's ring, oldest first
  pub room : List ℕ  -- by place: for how many items a reader's ring is known to have room
  pub out : ℕ  -- how many shares are out
  pub kept : ℕ  -- what the returned shares were credited

-- a hub over this end, of which no ring was used
pub record IsNewHub {A : Type 0} (e : EndState) (h : Hub A) : Type 0 where
  pub core : h.flow.core ≡ e
  pub inlets : (r : ℕ) → inlet_at h.flow.inlets r ≡ no_inlet
  pub outlets : (s : ℕ) → outlet_at h.flow.outlets s ≡ no_outlet
  pub known : (r : ℕ) → known_at h.known r ≡ []
  pub room : (s : ℕ) → s < 64 → room_at h.room s ≡ 64
  pub shares : (h.out ≡ 0) × (h.kept ≡ 0)

module _ {A : Type 0} where
  -- the hub with another end
  abbrev pub with_core : Hub A → EndState → Hub A
  with_core h e = record h { flow = record h.flow { core = e } }
