-- Hops between two rounds of a lossless run.
use Rattle.std.specs.Prelude.{◌≡◌, ℕ, ◌+◌, ◌^◌, ◌<◌, ◌≤◌, ◌-ℤ◌, List, [], length, slice_index, sum}
use Rattle.std.specs.List.{AllByRecursion}
use Rattle.std.specs.declared.option.Option.TheVariants.{Some}
use Rattle.st_oer.specs.Ratios.{ratio}
use Rattle.st_ilp.specs.Packets.{PreparePacket}
use Rattle.st_hop.specs.declared.ticket.Open.{Open}
use Rattle.st_hop.specs.Hop.{Hop, Way, account_at, booked, holding}
use Rattle.st_hop.specs.Routing.{route_to}
use Rattle.st_hop.specs.Arriving.{hop_time, ticket_for}
use Rattle.st_sender.specs.Sending.{Sending}
use Rattle.st_world_quiet.specs.Left.{all_money_left}

-- the route to an address leads to account 1, and amounts are forwarded as they arrive
pub record LeadsOn (h : Hop) (destination : List ℕ) : Type 0 where
  pub way : Way
  pub route : route_to h.routes destination ≡ Some way
  pub account : way.account ≡ 1
  pub rate : way.rate ≡ ratio 1 1

-- a hop with no open ticket, over which up to `left` may still arrive from account 0, in Prepares of at most `most`: no
-- limit refuses it. No more Prepares arrived than were sent
pub record IsCalm (destination : List ℕ) (sent most left : ℕ) (h : Hop) : Type 0 where
  pub alone : h.tickets ≡ []
  pub leads : LeadsOn h destination
  pub claims_kept : length h.claims ≡ 2
  pub dues_kept : length h.dues ≡ 2
  pub numbers : h.next ≤ sent
  pub max_packet : most ≤ (account_at h 0).max_packet
  pub limit : slice_index h.claims 0 + left ≤ (account_at h 0).limit + slice_index h.dues 0
  pub claimed : sum h.claims + left < 2 ^ 63
  pub due : sum h.dues + left < 2 ^ 63

-- for all that a sender has left
abbrev pub AreCalm : (destination : List ℕ) → Sending → List Hop → Type 0
AreCalm destination s hops = AllByRecursion (IsCalm destination s.last s.packet_limit (all_money_left s)) hops

-- ---- the Prepares that cross it

-- a Prepare that leaves `after` of what was left
pub record HasRoom (destination : List ℕ) (sent most left after : ℕ) (p : PreparePacket) : Type 0 where
  pub there : p.destination ≡ destination
  pub small : p.amount ≤ most
  pub spends : after + p.amount ≡ left
  pub numbers : sent + 1 < 2 ^ 64

-- as it is forwarded if an amount stays as it is
abbrev pub earlier : PreparePacket → PreparePacket
earlier p = record p { expiry = p.expiry -ℤ hop_time }

abbrev pub ticket_of : Hop → PreparePacket → Open
ticket_of h p = ticket_for h.next 0 1 p (earlier p)

-- the hop once it forwarded the Prepare, and that was fulfilled
abbrev pub after_one : Hop → PreparePacket → Hop
after_one h p = booked (holding h (ticket_of h p)) (ticket_of h p)
