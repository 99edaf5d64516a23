-- Spelling and reading are two sides of one relation, and no spelling begins another of its kind.
use Rattle.std.specs.Prelude.{◌≡◌, ◌≢◌, ℕ, ◌<◌, ◌≤◌, ◌^◌, List, [], ◌++◌, length, slice_index, Result, Ok, IfErr}
use Rattle.st_oer.specs.declared.error.OerError.{OerError}
use Rattle.st_oer.specs.declared.error.OerError.TheVariants.{NoMemory}
use Rattle.st_oer.specs.Spelling.{number, digits, uint8, uint64, length_bytes, octets, var_uint}
use Rattle.st_oer.specs.Limit.{IsLimit}
use Rattle.st_oer.specs.Reading.{fixed_at, byte_at, u64_at, length_at, octets_at, var_uint_at, limit_at}

-- every item is a byte
abbrev pub IsBytes : List ℕ → Type 0
IsBytes bytes = (i : ℕ) → slice_index bytes i < 256

-- the values that have a spelling of each kind
abbrev pub IsByte : ℕ → Type 0
IsByte n = n < 256

abbrev pub IsU64 : ℕ → Type 0
IsU64 n = n < 2 ^ 64

abbrev pub HasLength : List ℕ → Type 0
HasLength bytes = length bytes < 2 ^ 64

abbrev pub HasCount : ℕ → List ℕ → Type 0
HasCount n bytes = length bytes ≡ n

-- what is spelled so is read, whatever follows; and what is read is spelled so
pub record IsReading (X : Type 0) (read : List ℕ → Result (X × List ℕ) OerError) (spelling : X → List ℕ) (Fits : X → Type 0) : Type 0 where
  pub only : (x : X) (rest : List ℕ) → Fits x → read (spelling x ++ rest) ≡ Ok (x, rest)
  pub found : (bytes rest : List ℕ) (x : X) → IsBytes bytes → read bytes ≡ Ok (x, rest) → (bytes ≡ spelling x ++ rest) × Fits x

abbrev pub ByteReads : Type 0
ByteReads = IsReading ℕ byte_at uint8 IsByte

abbrev pub U64Reads : Type 0
U64Reads = IsReading ℕ u64_at uint64 IsU64

-- n bytes are spelled as they are
abbrev pub FixedReads : Type 0
FixedReads = (n : ℕ) → IsReading (List ℕ) (fixed_at n) (λ bytes. bytes) (HasCount n)

abbrev pub LengthReads : Type 0
LengthReads = IsReading ℕ length_at length_bytes IsU64

abbrev pub OctetsRead : Type 0
OctetsRead = IsReading (List ℕ) octets_at octets HasLength

abbrev pub VarUintReads : Type 0
VarUintReads = IsReading ℕ var_uint_at var_uint IsU64

-- the same of a limit, which has more than one spelling
pub record LimitReads : Type 0 where
  pub only : (n : ℕ) (text rest : List ℕ) → IsLimit n text → limit_at (text ++ rest) ≡ Ok (n, rest)
  pub found : (bytes rest : List ℕ) (n : ℕ) → IsBytes bytes → limit_at bytes ≡ Ok (n, rest) → (text : List ℕ) × IsLimit n text × (bytes ≡ text ++ rest)

-- the text spells a value of its kind
abbrev pub IsSpelled : {X : Type 0} → (X → List ℕ) → (X → Type 0) → X → List ℕ → Type 0
IsSpelled spelling Fits x text = Fits x × (text ≡ spelling x)

-- a spelling with more bytes after it is not a spelling of the same kind
abbrev pub NoneBeginsAnother : {X : Type 0} → (X → List ℕ → Type 0) → Type 0
NoneBeginsAnother {X} Is = (x y : X) (text more : List ℕ) → Is x text → Is y (text ++ more) → (x ≡ y) × (more ≡ [])

-- the digits give the number, and no fewer bytes do
pub record AreFewest (n : ℕ) : Type 0 where
  pub same : number (digits n) ≡ n
  pub some : 0 < length (digits n)
  pub fewest : (bytes : List ℕ) → IsBytes bytes → 0 < length bytes → number bytes ≡ n → length (digits n) ≤ length bytes

-- no bytes are refused with this
abbrev pub Never : {X E : Type 0} → E → (List ℕ → Result X E) → Type 0
Never refusal read = (bytes : List ℕ) → IfErr (read bytes) (λ e. e ≢ refusal)

-- reading needs no memory
pub record ReadsWithoutMemory : Type 0 where
  pub byte : Never NoMemory byte_at
  pub u64 : Never NoMemory u64_at
  pub fixed : (n : ℕ) → Never NoMemory (fixed_at n)
  pub length : Never NoMemory length_at
  pub octets : Never NoMemory octets_at
  pub var_uint : Never NoMemory var_uint_at
  pub limit : Never NoMemory limit_at
