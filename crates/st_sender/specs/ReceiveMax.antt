-- How much money may be sent below a receive max that the peer advertised: own rules of this profile.
use Rattle.std.specs.Prelude.{◌≡◌, ℕ, ◌+◌, ◌-◌, ◌*◌, ◌<◌, ◌≤◌, List, [], ◌∷◌, length}
use Rattle.std.specs.List.{sum_by}
use Rattle.std.specs.declared.option.Option.TheVariants.{Some}
use Rattle.st_oer.specs.Ratios.{Ratio, IsRatio, exchanged}
use Rattle.st_frames.specs.Told.{money_in}
use Rattle.st_sender.specs.Sending.{Outgoing, Load, Sending, outgoing_at}
use Rattle.st_sender.specs.Flights.{flying_least}
use Rattle.st_sender.specs.Loads.{Fits}
use Rattle.st_sender.specs.Fairness.{Sent}

-- what is left of a receive max without what counts in flight
abbrev pub left_of : Sending → (k receive_max received : ℕ) → ℕ
left_of s k receive_max received = receive_max - received - flying_least s k

-- once nothing is left no money is sent. What is sent beyond what is left is less than one unit of the receiver's
pub record KeepsTo (r : Ratio) (left amount : ℕ) : Type 0 where
  pub stops : left ≡ 0 → amount ≡ 0
  pub beyond : amount * r.num < (left + 1) * r.den

abbrev pub EachKeepsTo : Type 0
EachKeepsTo = (s : Sending) (room k : ℕ) (x : Outgoing) (p : Load) (receive_max received : ℕ) → IsRatio s.config.least → Fits s room p → outgoing_at s k ≡ Some x → x.advertised_money ≡ Some (receive_max, received)
    → KeepsTo s.config.least (left_of s k receive_max received) (money_in k p.frames)

-- a packet that was sent under an advertised receive max of at most `most`, when what counts of the packets before it
-- had been reported as received, or was in flight
pub record WentTo (r : Ratio) (most k counted : ℕ) (a : Sent) : Type 0 where
  pub rate : a.before.config.least ≡ r
  pub room : ℕ
  pub fits : Fits a.before room a.load
  pub stream : Outgoing
  pub is_open : outgoing_at a.before k ≡ Some stream
  pub receive_max : ℕ
  pub received : ℕ
  pub told : stream.advertised_money ≡ Some (receive_max, received)
  pub within : receive_max ≤ most
  pub known : counted ≤ received + flying_least a.before k

-- a packet's money on a stream, and what of it counts: what should arrive at least
abbrev pub money_to : ℕ → Sent → ℕ
money_to k a = money_in k a.load.frames

abbrev pub counted_to : Ratio → ℕ → Sent → ℕ
counted_to r k a = exchanged r (money_to k a)

-- packets of this kind one after the other, and other packets between them
abbrev pub AllWentTo : (r : Ratio) (most k counted : ℕ) → List Sent → Type 0
AllWentTo r most k counted [] = Unit {0}
AllWentTo r most k counted (a ∷ more) = WentTo r most k counted a × AllWentTo r most k (counted + counted_to r k a) more

-- what counts of them all is at most the receive max. What is paid beyond that is less than one unit of the receiver's for each
pub record AllKeepTo (r : Ratio) (most k : ℕ) (loads : List Sent) : Type 0 where
  pub counted : sum_by (counted_to r k) loads ≤ most
  pub paid : sum_by (money_to k) loads * r.num + length loads ≤ (most + length loads) * r.den

pub record MoneyStopsAtTheReceiveMax : Type 0 where
  pub each : EachKeepsTo
  pub all : (r : Ratio) (most k : ℕ) (loads : List Sent) → IsRatio r → AllWentTo r most k 0 loads → AllKeepTo r most k loads
