-- A Prepare that crosses hops to an end (RFC 0027), and its answer that returns over them, one step after the other.
use Rattle.std.specs.Prelude.{ℕ, ℤ, ◌-ℤ◌, List, [], ◌∷◌}
use Rattle.std.specs.declared.option.Option.TheVariants.{Some}
use Rattle.st_hop.specs.declared.ticket.Open.{Open}
use Rattle.st_hop.specs.Hop.{Hop}
use Rattle.st_hop.specs.Arriving.{Arrival, Answers, Forwards, arrived, hop_time}
use Rattle.st_hop.specs.Settling.{settled}
use Rattle.st_end.specs.State.{EndState}
use Rattle.st_end.specs.Receiving.{Received, received}

pub record Crossed : Type 0 where
  pub answer : List ℕ  -- that was returned
  pub hops : List Hop  -- once it had
  pub end : EndState

abbrev pub taken_at_end : Received × EndState → Crossed
taken_at_end r = record { answer = r.0.bytes; hops = []; end = r.1 }

-- a hop settles what it forwarded by the answer that it received
abbrev pub back_over : Hop → Open → (now : ℤ) → Crossed → Crossed
back_over h t now c = let s = settled h t (Some c.answer) now in record { answer = s.0; hops = s.1 ∷ c.hops; end = c.end }

-- a hop answers by itself, or what it forwards crosses the others
abbrev pub over_one : (onward : List ℕ → Crossed) → (others : List Hop) → EndState → (now : ℤ) → Arrival × Hop → Crossed
over_one onward others f now (Answers bytes, h) = record { answer = bytes; hops = h ∷ others; end = f }
over_one onward others f now (Forwards t account bytes, h) = back_over h t now (onward bytes)

-- each step at this moment; a Prepare arrives at a hop's account 0
unfoldable pub crossed : List Hop → EndState → (bytes : List ℕ) → (now : ℤ) → Crossed
crossed [] f bytes now = taken_at_end (received f bytes now)
crossed (h ∷ others) f bytes now = over_one (λ text. crossed others f text now) others f now (arrived h 0 bytes now)

-- what hops leave of an expiry
abbrev pub less_time : List Hop → (expiry : ℤ) → ℤ
less_time [] expiry = expiry
less_time (h ∷ others) expiry = less_time others (expiry -ℤ hop_time)
