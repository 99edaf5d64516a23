-- Whether a log continues its database file. Each commit of books writes the first page, whose schema cookie counts the commits.
use Rattle.std.specs.Prelude.{◌≡◌, ◌≢◌, ◌⊎◌, ℕ, ◌+◌, ◌-◌, ◌*◌, ◌/◌, ◌%◌, ◌^◌, ◌<◌, ◌≤◌, List, length, slice_index, take, false}
use Rattle.sqlite_wal.specs.Format.{part, be32, le32, checksum}
use Rattle.sqlite_wal.specs.Recovery.{Image, frame_at, AreFramesOf, IsBegun}

-- ---- the first page

-- Its last 8 bytes are the sum of the others. A page that a fold left unfinished does not fit it.
abbrev pub IsWhole : List ℕ → Type 0
IsWhole page = checksum false (0, 0) (take 4088 page) ≡ (le32 page 4088, le32 page 4092)

-- the schema cookie: how many commits there were
abbrev pub commits_in : List ℕ → ℕ
commits_in page = be32 page 40

-- the start of the list of objects, which grows towards the front
abbrev pub list_at : List ℕ → ℕ
list_at page = slice_index page 105 * 0x100 + slice_index page 106

abbrev pub list_in : (at : ℕ) → List ℕ → List ℕ
list_in at page = part page at (4088 - at)

-- The log's first commit is the next one of the file, or a fold has written the page of the last one.
abbrev pub CountsOn : (file first last : List ℕ) → Type 0
CountsOn file first last = (commits_in first ≡ (commits_in file + 1) % 2 ^ 32) ⊎ (commits_in file ≡ commits_in last)

abbrev pub count_before : ℕ → ℕ
count_before count = (count + (2 ^ 32 - 1)) % 2 ^ 32

-- one of the four bytes of a number, by its unit
abbrev pub byte_of : (unit n : ℕ) → ℕ
byte_of unit n = n / unit % 0x100

abbrev pub IsEither : (unit there before after : ℕ) → Type 0
IsEither unit there before after = (byte_of unit there ≡ byte_of unit before) ⊎ (byte_of unit there ≡ byte_of unit after)

-- each byte is that of one number or of the other
pub record IsMixed (there before after : ℕ) : Type 0 where
  pub first : IsEither 0x100_0000 there before after
  pub second : IsEither 0x1_0000 there before after
  pub third : IsEither 0x100 there before after
  pub fourth : IsEither 1 there before after

-- The file's first page, by the one that a log's first commit wrote and that of its last commit. What the file lists the log lists
-- too.
pub record ContinuesWhole (file first last : List ℕ) : Type 0 where
  pub counts : CountsOn file first last
  pub lists : list_in (list_at file) file ≡ list_in (list_at file) last

-- A page that is not whole is one that a fold left unfinished: each byte is as it was, or as it is in the log's last page. The list is
-- the same in both, since no later commit than that of the making changes it.
pub record ContinuesTorn (file first last : List ℕ) : Type 0 where
  pub counts : IsMixed (commits_in file) (count_before (commits_in first)) (commits_in last)
  pub lists : list_in (list_at last) file ≡ list_in (list_at last) last

pub record Continues (file first last : List ℕ) : Type 0 where
  pub is : (IsWhole file × ContinuesWhole file first last) ⊎ ((¬ IsWhole file) × ContinuesTorn file first last)

-- ---- the pages of a log

-- the page in frame i
abbrev pub page_in : List ℕ → ℕ → List ℕ
page_in log i = part log (frame_at 4096 i + 24) 4096

abbrev pub LacksFirstPage : List ℕ → Type 0
LacksFirstPage numbers = (i : ℕ) → i < length numbers → slice_index numbers i ≢ 1

-- the first of the frames that have page 1
pub record IsFirst (numbers : List ℕ) (n : ℕ) : Type 0 where
  pub low : n < length numbers
  pub here : slice_index numbers n ≡ 1
  pub before : (i : ℕ) → i < n → slice_index numbers i ≢ 1

-- and the last one
pub record IsLast (numbers : List ℕ) (n : ℕ) : Type 0 where
  pub low : n < length numbers
  pub here : slice_index numbers n ≡ 1
  pub behind : (i : ℕ) → n < i → i < length numbers → slice_index numbers i ≢ 1

-- the log continues a file that begins with this page, or does not say
pub record LogContinues (page log : List ℕ) : Type 0 where
  pub numbers : List ℕ
  pub frames : AreFramesOf 4096 log numbers
  pub follows : LacksFirstPage numbers
      ⊎ ((first : ℕ) × (last : ℕ) × IsFirst numbers first × IsLast numbers last × Continues page (page_in log first) (page_in log last))

-- no commit of the log has a first page
pub record LogSaysNothing (log : List ℕ) : Type 0 where
  pub numbers : List ℕ
  pub frames : AreFramesOf 4096 log numbers
  pub lacks : LacksFirstPage numbers

-- ---- the two files

-- A making was cut short: the log has the header with which a new database begins, and the file no whole first page.
abbrev pub IsMaking : Image → Type 0
IsMaking image = IsBegun 4096 image.log × ((length image.db < 4096) ⊎ (¬ IsWhole (part image.db 0 4096)))

-- else the log continues the file; one that is too short for a first page has none in its log either
abbrev pub IsContinued : Image → Type 0
IsContinued image =
    IsMaking image
    ⊎ (((4096 ≤ length image.db) × LogContinues (part image.db 0 4096) image.log)
    ⊎ ((length image.db < 4096) × LogSaysNothing image.log))
