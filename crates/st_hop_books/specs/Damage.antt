-- Damage in the log, told apart from what a crash leaves of it. SQLite's file format, section 4, is the log's.
use Rattle.std.specs.Prelude.{◌≡◌, ◌≢◌, ◌⊎◌, ℕ, ◌+◌, ◌<◌, ◌≤◌, List, length, slice_index, Bool, true, false, not, IsTrue}
use Rattle.sqlite_wal.specs.Format.{be32, commit_size, IsSigned}
use Rattle.sqlite_wal.specs.Recovery.{Image, frame_at, frame, header, Passes, IsBegun}
use Rattle.sqlite.specs.Files.{IsNothing}
use Rattle.st_hop_books.specs.declared.damage.Fit.{Fit}
use Rattle.st_hop_books.specs.declared.damage.Fit.TheVariants.{Absent, Broken, Inner, Last}

-- ---- frames

-- frame i is the last of a commit
abbrev pub Ends : ℕ → List ℕ → ℕ → Type 0
Ends page_size log i = Passes page_size log i × (commit_size (frame page_size log i) ≢ 0)

-- Each commit is synced before the next one is written. So what a crash leaves after the last whole commit is part of one commit,
-- whose last frame alone ends a commit, and no frame fits after it. Here a frame does not fit, after it a commit ends, and after
-- that another frame fits.
pub record IsBroken (page_size : ℕ) (log : List ℕ) : Type 0 where
  pub bad : ℕ
  pub last : ℕ
  pub later : ℕ
  pub broken : ¬ Passes page_size log bad
  pub behind : bad < last
  pub ends : Ends page_size log last
  pub after : last < later
  pub goes_on : Passes page_size log later

-- The first byte of a header is 0 until the others are on the disk.
abbrev pub HasBadHeader : List ℕ → Type 0
HasBadHeader log = (slice_index log 0 ≢ 0) × (¬ ((32 ≤ length log) × IsSigned (header log)))

abbrev pub IsDamaged : List ℕ → Type 0
IsDamaged log = HasBadHeader log ⊎ (IsSigned (header log) × IsBroken (be32 (header log) 8) log)

-- ---- the steps of a look at it

abbrev pub IsPast : ℕ → List ℕ → ℕ → Type 0
IsPast page_size log i = length log < frame_at page_size i + (24 + page_size)

abbrev pub IsFit : ℕ → List ℕ → ℕ → Fit → Type 0
IsFit page_size log i Absent = IsPast page_size log i
IsFit page_size log i Broken = ¬ Passes page_size log i
IsFit page_size log i Inner = Passes page_size log i × (commit_size (frame page_size log i) ≡ 0)
IsFit page_size log i Last = Ends page_size log i

-- a frame that fits and, if that is asked for, ends a commit
abbrev pub IsWanted : (ends : Bool) → ℕ → List ℕ → ℕ → Type 0
IsWanted ends page_size log i = Passes page_size log i × (IsTrue ends → commit_size (frame page_size log i) ≢ 0)

-- the same, of how a frame fits
abbrev pub wants : Fit → (ends : Bool) → Bool
wants Absent ends = false
wants Broken ends = false
wants Inner ends = not ends
wants Last ends = true

-- it is the first one of them from a place on
pub record IsNext (ends : Bool) (page_size : ℕ) (log : List ℕ) (from n : ℕ) : Type 0 where
  pub behind : from ≤ n
  pub wanted : IsWanted ends page_size log n
  pub first : (i : ℕ) → from ≤ i → i < n → ¬ IsWanted ends page_size log i

abbrev pub HasNoNext : (ends : Bool) → ℕ → List ℕ → ℕ → Type 0
HasNoNext ends page_size log from = (i : ℕ) → from ≤ i → ¬ IsWanted ends page_size log i

-- all frames before this one fit, and it does not
pub record IsFirstBroken (page_size : ℕ) (log : List ℕ) (n : ℕ) : Type 0 where
  pub whole : (i : ℕ) → i < n → Passes page_size log i
  pub broken : ¬ Passes page_size log n

-- ---- new books

-- there is no log, or its header is not finished
abbrev pub IsUnwritten : List ℕ → Type 0
IsUnwritten log = (length log ≤ 41) × (slice_index log 0 ≡ 0)

-- What the files are before books are made, and what a crash leaves while they are made: an empty database file, or one of a single
-- byte with a log that was begun; or a log of which no database was written yet, since its header is one that no later call writes.
abbrev pub IsUnmade : Image → Type 0
IsUnmade image =
    (((length image.db ≡ 0) ⊎ ((length image.db ≡ 1) × (0 < length image.log))) × IsUnwritten image.log)
    ⊎ (IsBegun 4096 image.log × ((¬ IsNothing image) ⊎ (length image.log ≤ 41)))
