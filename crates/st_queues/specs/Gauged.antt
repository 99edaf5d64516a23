-- The gauge's words: the first is the stop word, the others are the totals accepted, delivered, credited and paid. Each step on them keeps this rule.
use Rattle.std.specs.Prelude.{◌≡◌, ℕ, ◌<◌, ◌≤◌, List, [], ◌∷◌, length, slice_index, slice_set, true, false}
use mathlib.Core.Option.{some}
use lib.ListN.{get_elem?}
use Rattle.atomic_table.specs.Table.{State, Me, Step}
use Rattle.st_queues.specs.declared.table.View.{View}
use Rattle.atomic_table.specs.Seated.{TableId}
use Rattle.atomic_table.specs.declared.shared.Seat.{Seat}

-- what a seat has seen of the words is not above them; if it asked to stop, the stop word is 1; and the one seat that publishes has
-- seen the totals as they are
pub record Sees (words : List ℕ) (id : ℕ) (v : View) : Type 0 where
  pub size : length v.seen ≡ 5
  pub most : (i : ℕ) → i < 5 → slice_index v.seen i ≤ slice_index words i
  pub asked : v.asked ≡ true → slice_index words 0 ≡ 1
  pub published : v.publishes ≡ true → (id ≡ 0) × ((i : ℕ) → 0 < i → i < 5 → slice_index v.seen i ≡ slice_index words i)

-- some seat asked to stop
abbrev pub SomeAsked : List View → Type 0
SomeAsked views = (id : ℕ) × (v : View) × (get_elem? views id ≡ some v) × (v.asked ≡ true)

-- the stop word is 0 or 1, and 1 only if some seat asked
pub record Gauged (s : State ℕ View) : Type 0 where
  pub size : length s.words ≡ 5
  pub stop : slice_index s.words 0 ≤ 1
  pub why : slice_index s.words 0 ≡ 1 → SomeAsked s.views
  pub seats : (id : ℕ) (v : View) → get_elem? s.views id ≡ some v → Sees s.words id v

abbrev pub zeros : List ℕ
zeros = 0 ∷ 0 ∷ 0 ∷ 0 ∷ 0 ∷ []

-- the hub's seat as it is made
abbrev pub publisher : View
publisher = record { publishes = true; asked = false; seen = zeros }

-- a seat that is split from this one has seen as much; it does not publish, and did not ask
abbrev pub watcher : View → View
watcher v = record { publishes = false; asked = false; seen = v.seen }

-- the word of the step, which was found or stored, is not below what the seat had seen of it, and is what it has now seen of it
abbrev pub Rises : Step ℕ → Me ℕ View → ℕ → Me ℕ View → Type 0
Rises s v found w = (w.1 ≡ v.1) × (w.0 ≡ record v.0 { seen = slice_set v.0.seen s.word found }) × (slice_index v.0.seen s.word ≤ found)

-- the stop word is 1 from now on, and the seat asked for it
abbrev pub Asks : Step ℕ → Me ℕ View → ℕ → Me ℕ View → Type 0
Asks s v found w = (w.1 ≡ v.1) × (w.0 ≡ record v.0 { asked = true; seen = slice_set v.0.seen 0 1 })

-- a seat of the same table, which has seen this number in a word, and it is not below what it had seen there
abbrev pub HasSeen : ℕ → ℕ → (old new : Seat ℕ View) → Type 0
HasSeen word found old new = (new.table_id ≡ old.table_id) × (new.me.0 ≡ record old.me.0 { seen = slice_set old.me.0.seen word found }) × (slice_index old.me.0.seen word ≤ found)

-- a seat of this table of five words publishes, and the number is not below the total that it published last in this word
abbrev pub MayPublish : TableId → ℕ → ℕ → Seat ℕ View → Type 0
MayPublish table word new seat = (seat.table_id ≡ table) × (table.words ≡ 5) × (0 < word) × (word < 5) × (seat.me.0.publishes ≡ true) × (slice_index seat.me.0.seen word ≤ new)

-- a seat stays as it is, and another one of the same table is split from it
abbrev pub IsSplit : (old new other : Seat ℕ View) → Type 0
IsSplit old new other = (new.table_id ≡ old.table_id) × (new.me ≡ old.me) × (other.table_id ≡ old.table_id) × (other.me.0 ≡ watcher old.me.0)
