-- The board of bookings that wait for a commit, as the list of its places.
use Rattle.std.specs.Prelude.{◌≡◌, ◌≢◌, ℕ, ◌+◌, ◌≤◌, Bool, true, false, List, [], ◌∷◌, ◌++◌, Option, Some, None, fold, length, map, slice_get, slice_set}
use Rattle.st_links.specs.declared.booking.Booking.{Booking}
use Rattle.st_hop_desk.specs.declared.board.Batch.{Batch}
use Rattle.st_hop_desk.specs.declared.board.Slot.{Slot}
use Rattle.st_hop_desk.specs.declared.board.Slot.TheVariants.{Empty, Waits, Away, Told}
use Rattle.st_hop_desk.specs.declared.board.Turn.{Turn}
use Rattle.st_hop_desk.specs.declared.board.Turn.TheVariants as turn
use Rattle.st_hop_desk.specs.declared.stored.Fate.TheVariants.{Refused, Unknown}
use Rattle.st_hop_desk.specs.Stored.{fate_by}

-- rising numbers from the first one on, below the last
abbrev pub AreRising : (first : ℕ) → List ℕ → (last : ℕ) → Type 0
AreRising first [] last = first ≤ last
AreRising first (p ∷ ps) last = (first ≤ p) × AreRising (p + 1) ps last

-- a commit has the bookings at these places
abbrev pub with_away : List Slot → List ℕ → List Slot
with_away = fold (λ slots p. slice_set slots p Away)

-- what a batch has
pub record Lists : Type 0 where
  pub places : List ℕ
  pub bookings : List Booking
  pub tokens : List (Option Booking)

abbrev pub lists : {A : Type 0} → Batch A → Lists
lists batch = record { places = batch.places.items; bookings = batch.bookings.items; tokens = batch.tokens.items }

-- a batch has what it had
abbrev pub IsSameBatch : {A : Type 0} → (old new : Batch A) → Type 0
IsSameBatch old new = (new.places.items ≡ old.places.items) × (new.bookings.items ≡ old.bookings.items) × (new.tokens.items ≡ old.tokens.items)

-- a booking was put at a place that was free, where it waits
abbrev pub IsPutAt : (place : ℕ) → Booking → (old new : List Slot) → Type 0
IsPutAt place booking old new = (slice_get old place ≡ Some Empty) × (new ≡ slice_set old place (Waits booking))

-- a booking more, and the token that it does not have yet
abbrev pub with_booking : Lists → (place : ℕ) → Booking → Lists
with_booking l place b = record { places = l.places ++ place ∷ []; bookings = l.bookings ++ b ∷ []; tokens = l.tokens ++ None ∷ [] }

-- the booking that waited at a place is in the batch, and a commit has it from now on
pub record TakesAt (place : ℕ) (old : List Slot) (before : Lists) (new : List Slot) (after : Lists) : Type 0 where
  pub booking : Booking
  pub waited : slice_get old place ≡ Some (Waits booking)
  pub taken : after ≡ with_booking before place booking
  pub away : new ≡ slice_set old place Away

-- a batch: bookings that waited, each at its own place, which a commit has from now on
pub record IsBatch (old : List Slot) (l : Lists) (new : List Slot) (last : ℕ) : Type 0 where
  pub rising : AreRising 0 l.places last
  pub waited : map (slice_get old) l.places ≡ map (λ b. Some (Waits b)) l.bookings
  pub untold : l.tokens ≡ map (λ b. None) l.bookings
  pub away : new ≡ with_away old l.places

-- at each place the fate by the token with the same index
abbrev pub with_told : List Slot → List ℕ → (tokens : List (Option Booking)) → (is_known : Bool) → List Slot
with_told slots [] tokens is_known = slots
with_told slots (p ∷ ps) [] is_known = slice_set (with_told slots ps [] is_known) p (Told (fate_by None is_known))
with_told slots (p ∷ ps) (t ∷ ts) is_known = slice_set (with_told slots ps ts is_known) p (Told (fate_by t is_known))

-- whether the thread of a place waits, while a commit is under way or none is
abbrev pub waits_at : Option Slot → (is_busy : Bool) → Bool
waits_at None is_busy = false
waits_at (Some (Told fate)) is_busy = false
waits_at (Some Empty) is_busy = is_busy
waits_at (Some (Waits b)) is_busy = is_busy
waits_at (Some Away) is_busy = is_busy

-- ---- what a thread that waited does next

-- a thread that leads commits all that waits for which there is memory; if there is none, its own booking is refused
abbrev pub IsLed : {A : Type 0} → List Slot → (place : ℕ) → (busy : Bool) → Turn A → List Slot → Bool → Type 0
IsLed old place busy (turn.Leads batch) new is_busy = IsBatch old (lists batch) new (length old) × ((lists batch).bookings ≢ []) × (is_busy ≡ true)
IsLed old place busy (turn.Told fate) new is_busy = (fate ≡ Refused) × (new ≡ slice_set old place Empty) × (is_busy ≡ busy)

-- of a place without a booking nothing is known
abbrev pub IsUnknown : {A : Type 0} → List Slot → Bool → Turn A → List Slot → Bool → Type 0
IsUnknown old busy result new is_busy = (result ≡ turn.Told Unknown) × (new ≡ old) × (is_busy ≡ busy)

-- a thread whose fate is known gives up its place; one whose booking waits leads
abbrev pub IsTurn : {A : Type 0} → List Slot → (place : ℕ) → (busy : Bool) → Option Slot → Turn A → List Slot → Bool → Type 0
IsTurn old place busy None result new is_busy = IsUnknown old busy result new is_busy
IsTurn old place busy (Some (Told fate)) result new is_busy = (result ≡ turn.Told fate) × (new ≡ slice_set old place Empty) × (is_busy ≡ busy)
IsTurn old place busy (Some (Waits b)) result new is_busy = IsLed old place busy result new is_busy
IsTurn old place busy (Some Empty) result new is_busy = IsUnknown old busy result new is_busy
IsTurn old place busy (Some Away) result new is_busy = IsUnknown old busy result new is_busy
