-- Runs of offsets, each up to its end, and the status of the bytes there.
use Rattle.std.specs.Prelude.{◌≡◌, ◌≢◌, ℕ, zero, suc, ◌+◌, ◌-◌, ◌*◌, ◌^◌, ◌<◌, ◌≤◌, Bool, false, ◌&&◌, nat_lt, is_none, List, [], ◌∷◌, length, drop, Option, Some, None, IsSome, slice_index, if◌then◌else◌, true, MatchOption}
use Rattle.std.specs.Option.{option_or}
use Rattle.st_unacked.specs.declared.run.Run.{Run}
use Rattle.st_unacked.specs.declared.run.Status.{Status}
use Rattle.st_streams.specs.Table.{is_between, table}
use Rattle.st_unacked.specs.Sent.{Sent, is_by}

-- the status of the byte at an offset: that of the first run that ends past it
abbrev pub status_at : List Run → ℕ → Option Status
status_at [] q = None
status_at (r ∷ rs) q = if nat_lt q r.end then Some r.status else status_at rs q

-- the sequence by which it is in flight
abbrev pub flight_of : Option Status → Option ℕ
flight_of None = None
flight_of (Some s) = s.flight

-- whether it is neither acknowledged nor dropped
abbrev pub is_kept : Option Status → Bool
is_kept None = false
is_kept (Some s) = s.kept

-- whether it is due
abbrev pub is_due : Option Status → Bool
is_due None = false
is_due (Some s) = s.kept && is_none s.flight

-- the byte at an offset, if it is kept
abbrev pub byte_at : List Run → (ℕ → ℕ) → ℕ → Option ℕ
byte_at runs byte q = if is_kept (status_at runs q) then Some (byte q) else None

abbrev pub flight_at : List Run → ℕ → Option ℕ
flight_at runs q = flight_of (status_at runs q)

-- the model's value for the runs and the bytes of n offsets from `first` on
abbrev pub shown_by : List Run → (ℕ → ℕ) → ℕ → ℕ → Sent
shown_by runs byte first n = record {
  unacked = table (byte_at runs byte) first n;
  flying = table (flight_at runs) first n;
  accepted = first + n;
}

-- the runs cover each byte that is there and no other
pub record IsTiled (runs : List Run) (first n : ℕ) : Type 0 where
  pub inside : (q : ℕ) → first ≤ q → q < first + n → IsSome (status_at runs q)
  pub outside : (q : ℕ) → first + n ≤ q → status_at runs q ≡ None
  pub fits : first + n < 2 ^ 64

-- a status differs from that of the run after it
abbrev pub Differs : Status → List Run → Type 0
Differs s [] = Unit {0}
Differs s (r ∷ rs) = s ≢ r.status

-- no run is empty, and neighbours differ in status: so there are as few runs as can be
abbrev pub Parted : ℕ → List Run → Type 0
Parted first [] = Unit {0}
Parted first (r ∷ rs) = (first < r.end) × Differs r.status rs × Parted r.end rs

-- no run is empty
abbrev pub Rise : ℕ → List Run → Type 0
Rise first [] = Unit {0}
Rise first (r ∷ rs) = (first < r.end) × Rise r.end rs

-- the end of the last run
abbrev pub end_of : ℕ → List Run → ℕ
end_of first [] = first
end_of first (r ∷ rs) = end_of r.end rs

-- runs that say the same, and are as few as can be
pub record IsJoined (first : ℕ) (rs ts : List Run) : Type 0 where
  pub parted : Parted first ts
  pub same : (q : ℕ) → status_at ts q ≡ status_at rs q

-- runs with one more, which is joined with the last if both have the same status
pub record HasMore (first : ℕ) (rs : List Run) (r : Run) (ts : List Run) : Type 0 where
  pub parted : Parted first ts
  pub ends : end_of first ts ≡ r.end
  pub status : (q : ℕ) → status_at ts q ≡ option_or (status_at rs q) (if nat_lt q r.end then Some r.status else None)

-- a status with another flight
abbrev pub flown : ℕ → Option Status → Option Status
flown sequence None = None
flown sequence (Some s) = Some (record { flight = Some sequence; kept = s.kept })

-- the status of an offset once those from `from` on and below `to` are in flight by a sequence
abbrev pub claimed : ℕ → ℕ → ℕ → ℕ → Option Status → Option Status
claimed sequence from to q s = if is_between from to q then flown sequence s else s

-- a run once a sequence was fulfilled, once it failed, and once its bytes were dropped
abbrev pub acknowledged_run : ℕ → Run → Run
acknowledged_run sequence r = if is_by sequence r.status.flight then record r { status = record { flight = None; kept = false } } else r

abbrev pub failed_run : ℕ → Run → Run
failed_run sequence r = if is_by sequence r.status.flight then record r { status = record { flight = None; kept = r.status.kept } } else r

abbrev pub dropped_run : Run → Run
dropped_run r = record r { status = record { flight = r.status.flight; kept = false } }

-- how many of the n offsets from first on pass a test
unfoldable pub counted : (ℕ → Bool) → ℕ → ℕ → ℕ
counted passes first zero = 0
counted passes first (suc n) = counted passes first n + (if passes (first + n) then 1 else 0)

-- how many of them are kept
abbrev pub kept_in : List Run → ℕ → ℕ → ℕ
kept_in runs first n = counted (λ q. is_kept (status_at runs q)) first n

-- the least q from `first` on for which `is` holds, if there is one
abbrev pub IsFirst : ℕ → (ℕ → Bool) → Option ℕ → Type 0
IsFirst first is found = MatchOption found ((q : ℕ) → first ≤ q → is q ≡ false) (λ from. (first ≤ from) × (is from ≡ true) × ((q : ℕ) → first ≤ q → q < from → is q ≡ false))

-- the runs end at `end` or later, and the bytes before it that had no run have this status
abbrev pub AreAppended : (first end : ℕ) → Status → (old new : List Run) → Type 0
AreAppended first end status old new = (q : ℕ) → first ≤ q → status_at new q ≡ option_or (status_at old q) (if nat_lt q end then Some status else None)

-- a run that ends past those of `old` was put after them
abbrev pub IsPut : Run → (old new : List Run) → Type 0
IsPut run old new = (first : ℕ) → Parted first old → end_of first old < run.end → HasMore first old run new
