-- Packets and their bytes as pairs (RFC 0029, sections 5.2 and 5.3): what a reader may meet.
use Rattle.std.specs.Prelude.{◌≡◌, ◌<◌, ◌^◌, ◌+◌, ℕ, true, List, [], ◌∷◌, ◌++◌, length, Some, None}
use Rattle.st_oer.specs.Spelling.{octets, var_uint}
use Rattle.st_oer.specs.Limit.{IsLimit}
use Rattle.st_oer.specs.Text.{is_utf8}
use Rattle.st_frames.specs.Frames.{Known, Packet}
use Rattle.st_frames.specs.Table.{Field, Byte, Number, Limit, Octets, Text, Address, Item, Code, Num, Bytes, is_address_text, Row, row_of}
use Rattle.st_frames.specs.Reading.{Raw}

-- a field, what it holds, and its spelling
pub data IsField : Field → Item → List ℕ → Type 0 where
  is_byte : (n : ℕ) → n < 256 → IsField Byte (Code n) (n ∷ [])
  is_number : (n : ℕ) → n < 2 ^ 64 → IsField Number (Num n) (var_uint n)
  is_limit : (n : ℕ) (text : List ℕ) → IsLimit n text → IsField Limit (Num n) text
  is_octets : (bytes : List ℕ) → length bytes < 2 ^ 64 → IsField Octets (Bytes bytes) (octets bytes)
  is_text : (bytes : List ℕ) → length bytes < 2 ^ 64 → is_utf8 bytes ≡ true → IsField Text (Bytes bytes) (octets bytes)
  is_address : (bytes : List ℕ) → length bytes < 2 ^ 64 → is_utf8 bytes ≡ true → is_address_text bytes ≡ true → IsField Address (Bytes bytes) (octets bytes)

-- fields one after another
pub data IsFields : List Field → List Item → List ℕ → Type 0 where
  no_field : IsFields [] [] []
  next_field : (f : Field) (fs : List Field) (x : Item) (xs : List Item) (a b : List ℕ) → IsField f x a → IsFields fs xs b → IsFields (f ∷ fs) (x ∷ xs) (a ++ b)

-- frames as they are in the bytes
pub data AreFrames : List Raw → List ℕ → Type 0 where
  no_frame : AreFrames [] []
  next_frame : (r : Raw) (rs : List Raw) (text : List ℕ) → r.type < 256 → length r.contents < 2 ^ 64 → AreFrames rs text
      → AreFrames (r ∷ rs) (r.type ∷ (octets r.contents ++ text))

-- the known ones among frames that are counted from i on: a type that is not known is skipped, and bytes that are left
-- inside the contents of a known frame are ignored
pub data AreKnown : ℕ → List Raw → List (ℕ × Known) → Type 0 where
  no_more : (i : ℕ) → AreKnown i [] []
  skipped : (i : ℕ) (r : Raw) (rs : List Raw) (others : List (ℕ × Known)) → row_of r.type ≡ None → AreKnown (i + 1) rs others → AreKnown i (r ∷ rs) others
  known : (i : ℕ) (r : Raw) (rs : List Raw) (others : List (ℕ × Known)) (row : Row) (xs : List Item) (text left : List ℕ) → row_of r.type ≡ Some row
      → IsFields row.fields xs text → r.contents ≡ text ++ left → AreKnown (i + 1) rs others → AreKnown i (r ∷ rs) ((i, row.make xs) ∷ others)

-- a packet and bytes that spell it, whatever follows the last frame
pub record IsPacket (bytes : List ℕ) (p : Packet) : Type 0 where
  pub frames : List Raw
  pub text : List ℕ
  pub after : List ℕ
  pub sequence_fits : p.sequence < 2 ^ 64
  pub amount_fits : p.amount < 2 ^ 64
  pub count_fits : length frames < 2 ^ 64
  pub frames_are : AreFrames frames text
  pub known_are : AreKnown 0 frames p.frames
  pub parts : bytes ≡ 1 ∷ p.kind ∷ (var_uint p.sequence ++ (var_uint p.amount ++ (var_uint (length frames) ++ (text ++ after))))
