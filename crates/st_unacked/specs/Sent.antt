-- The bytes of one outgoing stream: which are accepted and not acknowledged yet, and which of them are in flight.
use Rattle.std.specs.Prelude.{◌≡◌, ℕ, ◌+◌, ◌-◌, ◌<◌, ◌≤◌, IsSome, Bool, true, false, not, nat_eq, List, length, Option, Some, None, is_some, is_none, if◌then◌else◌}
use Rattle.std.specs.Ordering.{nat_cmp}
use Rattle.std.specs.FinMap.{FinMap, empty, get, len, retain_keys}
use Rattle.st_streams.specs.Table.{put_bytes, put_same}

-- the byte at each offset that is accepted and neither acknowledged nor dropped; the sequence by which an offset is in flight; how many bytes were accepted
pub record Sent : Type 0 where
  pub unacked : FinMap nat_cmp ℕ
  pub flying : FinMap nat_cmp ℕ
  pub accepted : ℕ

-- nothing was accepted yet
abbrev pub nothing_sent : Sent
nothing_sent = record { unacked = empty; flying = empty; accepted = 0 }

-- the byte that is due at an offset
abbrev pub due_at : Sent → ℕ → Option ℕ
due_at s q = if is_some (get s.flying q) then None else get s.unacked q

-- s after more bytes were accepted, which are due
abbrev pub after_accept : List ℕ → Sent → Sent
after_accept xs s = record s { unacked = put_bytes s.unacked s.accepted xs; accepted = s.accepted + length xs }

-- s once n bytes from an offset on are in flight by a sequence
abbrev pub after_claim : ℕ → ℕ → ℕ → Sent → Sent
after_claim sequence offset n s = record s { flying = put_same s.flying offset n sequence }

-- whether an offset is in flight by this sequence
abbrev pub is_by : ℕ → Option ℕ → Bool
is_by sequence None = false
is_by sequence (Some n) = nat_eq n sequence

-- a map without what is in flight by a sequence
abbrev pub without_flight : ℕ → Sent → FinMap nat_cmp ℕ → FinMap nat_cmp ℕ
without_flight sequence s m = retain_keys m (λ q. not (is_by sequence (get s.flying q)))

-- s once a sequence was fulfilled: what it carried is acknowledged
abbrev pub after_acknowledged : ℕ → Sent → Sent
after_acknowledged sequence s = record s { unacked = without_flight sequence s s.unacked; flying = without_flight sequence s s.flying }

-- s once a sequence failed: what it carried is due again
abbrev pub after_failed : ℕ → Sent → Sent
after_failed sequence s = record s { flying = without_flight sequence s s.flying }

-- s once its bytes were dropped: what is in flight still is
abbrev pub after_drop : Sent → Sent
after_drop s = record s { unacked = empty }

-- the unacknowledged bytes that a sequence carries
abbrev pub carried : ℕ → Sent → FinMap nat_cmp ℕ
carried sequence s = retain_keys s.unacked (λ q. is_by sequence (get s.flying q))

-- end is past each offset that is in flight by a sequence, also those whose bytes were dropped
abbrev pub IsPastFlight : ℕ → Sent → ℕ → Type 0
IsPastFlight sequence s end = (q : ℕ) → is_by sequence (get s.flying q) ≡ true → q < end

-- end is the least such offset: 0 if nothing is in flight by the sequence
pub record IsFlightEnd (sequence : ℕ) (s : Sent) (end : ℕ) : Type 0 where
  pub past : IsPastFlight sequence s end
  pub least : (f : ℕ) → IsPastFlight sequence s f → end ≤ f

-- from and to are the ends of the lowest row of queued bytes
pub record IsLowestDue (s : Sent) (from to : ℕ) : Type 0 where
  pub some : from < to
  pub due : (q : ℕ) → from ≤ q → q < to → IsSome (due_at s q)
  pub none_below : (q : ℕ) → q < from → due_at s q ≡ None
  pub ends : due_at s to ≡ None

-- end is past the highest queued byte: 0 if none is queued
pub record IsPastDue (s : Sent) (end : ℕ) : Type 0 where
  pub past : (q : ℕ) → IsSome (due_at s q) → q < end
  pub last : 0 < end → IsSome (due_at s (end - 1))

-- the number of rows of the unacknowledged bytes: that of the bytes whose next byte is not unacknowledged
abbrev pub rows : Sent → ℕ
rows s = len (retain_keys s.unacked (λ q. is_none (get s.unacked (q + 1))))
