-- The split of an amount over the streams of a packet, and what it credits. RFC 0029, section 5.3 gives each stream its
-- shares' part; how the parts are rounded is this profile's own.
use Rattle.std.specs.Prelude.{ℕ, ◌+◌, ◌-◌, ◌*◌, ◌/◌, ◌^◌, Bool, false, ◌&&◌, ◌||◌, List, ◌∷◌, map, sum, nat_lt, nat_le, nat_eq, if◌then◌else◌}
use Rattle.std.specs.declared.option.Option.{Option}
use Rattle.std.specs.declared.option.Option.TheVariants.{None, Some}
use Rattle.st_frames.specs.Frames.{Known}
use Rattle.st_frames.specs.Told.{shares}
use Rattle.st_streams.specs.Slots.{Slots}
use Rattle.st_receiver.specs.declared.reason.Reason.{Reason}
use Rattle.st_receiver.specs.declared.reason.Reason.TheVariants.{NoShares, OverReceiveMax}
use Rattle.st_receiver.specs.Streams.{Incoming, Receiving}

-- floor(amount x shares / all shares) for each stream
abbrev pub rounded : (amount all : ℕ) → List ℕ → List ℕ
rounded amount all ms = map (λ m. amount * m / all) ms

-- the remainder goes to the lowest-numbered stream that has shares, whatever its receive max
abbrev pub with_rest : ℕ → (shares rounded : List ℕ) → List ℕ
with_rest rest (m ∷ ms) (p ∷ ps) = if nat_eq m 0 then p ∷ with_rest rest ms ps else (p + rest) ∷ ps
with_rest rest ms ps = ps

-- the parts of an amount, by the streams' shares
unfoldable pub parts : ℕ → List ℕ → List ℕ
parts amount ms = let ps = rounded amount (sum ms) ms in with_rest (amount - sum ps) ms ps

abbrev pub with_credit : Option Incoming → ℕ → Option Incoming
with_credit None n = None
with_credit (Some x) n = Some (record x { credited = x.credited + n })

-- each stream's credit with its part
abbrev pub with_credits : Slots Incoming → List ℕ → Slots Incoming
with_credits (x ∷ xs) (p ∷ ps) = with_credit x p ∷ with_credits xs ps
with_credits xs ps = xs

-- a part past what its stream may receive
abbrev pub is_over_max : Option Incoming → ℕ → Bool
is_over_max None p = nat_lt 0 p
is_over_max (Some x) p = nat_lt x.receive_max (x.credited + p)

abbrev pub any_over_max : Slots Incoming → List ℕ → Bool
any_over_max (x ∷ xs) (p ∷ ps) = is_over_max x p || any_over_max xs ps
any_over_max xs ps = false

-- money without a stream to go to, or past what a stream or the connection may receive
abbrev pub money_fault : Receiving → (amount : ℕ) → List Known → Option Reason
money_fault r amount fs =
    if nat_le (2 ^ 64) (sum (shares fs)) || (nat_lt 0 amount && nat_eq (sum (shares fs)) 0) then Some NoShares
    else (if nat_lt 0 amount && (any_over_max r.streams (parts amount (shares fs)) || nat_le (2 ^ 63) (r.credit + amount)) then Some OverReceiveMax
    else None)

abbrev pub credited_streams : ℕ → Slots Incoming → List ℕ → Slots Incoming
credited_streams amount xs ms = if nat_lt 0 amount then with_credits xs (parts amount ms) else xs

abbrev pub after_money : Receiving → (amount : ℕ) → List Known → Receiving
after_money r amount fs = record r { streams = credited_streams amount r.streams (shares fs); credit = r.credit + amount }
