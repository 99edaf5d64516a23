-- Reading the contents of a known frame from left to right (RFC 0029, section 5.3). A fault in them is reported without its cause.
use Rattle.std.specs.Prelude.{ℕ, List, [], ◌∷◌, Option, Some, None, Result, Ok, Err, Bool, ◌&&◌, if◌then◌else◌}
use Rattle.st_oer.specs.declared.error.OerError.{OerError}
use Rattle.st_oer.specs.Reading.{byte_at, octets_at, var_uint_at, limit_at}
use Rattle.st_oer.specs.Text.{is_utf8}
use Rattle.st_frames.specs.Frames.{Known}
use Rattle.st_frames.specs.Table.{Field, Byte, Number, Limit, Octets, Text, Address, Item, Code, Num, Bytes, is_address_text, Row, row_of}

infixl 10 ◌>>=◌
abbrev pub ◌>>=◌ : {A B E : Type 0} → Result A E → (A → Result B E) → Result B E
(Ok x) >>= f = f x
(Err e) >>= f = Err e

-- a result whose only refusal is this one
abbrev pub refusing : {A D E : Type 0} → E → Result A D → Result A E
refusing e (Ok x) = Ok x
refusing e (Err d) = Err e

-- contents, or a fault in them
abbrev pub Contents : Type 0 → Type 0
Contents A = Result A (Unit {0})

abbrev pub contents : {A : Type 0} → Result A OerError → Contents A
contents r = refusing tt r

-- bytes that pass a test, and what follows them
abbrev pub tested : Bool → List ℕ × List ℕ → Contents (Item × List ℕ)
tested passes x = if passes then Ok (Bytes x.0, x.1) else Err tt

-- one field, and the bytes after it
abbrev pub field_at : Field → List ℕ → Contents (Item × List ℕ)
field_at Byte bytes = contents (byte_at bytes) >>= λ x. Ok (Code x.0, x.1)
field_at Number bytes = contents (var_uint_at bytes) >>= λ x. Ok (Num x.0, x.1)
field_at Limit bytes = contents (limit_at bytes) >>= λ x. Ok (Num x.0, x.1)
field_at Octets bytes = contents (octets_at bytes) >>= λ x. Ok (Bytes x.0, x.1)
field_at Text bytes = contents (octets_at bytes) >>= λ x. tested (is_utf8 x.0) x
field_at Address bytes = contents (octets_at bytes) >>= λ x. tested (is_utf8 x.0 && is_address_text x.0) x

-- fields one after another, and the bytes after them
abbrev pub fields_at : List Field → List ℕ → Contents (List Item × List ℕ)
fields_at [] bytes = Ok ([], bytes)
fields_at (f ∷ fs) bytes = do
  x ← field_at f bytes
  xs ← fields_at fs x.1
  Ok (x.0 ∷ xs.0, xs.1)

-- the frame of a row; bytes that are left are ignored
abbrev pub row_at : Option Row → List ℕ → Contents (Option Known)
row_at None bytes = Ok None
row_at (Some row) bytes = do
  items ← fields_at row.fields bytes
  Ok (Some (row.make items.0))

-- the frame of this type whose contents these are, or None for a type that is not known
unfoldable pub contents_at : ℕ → List ℕ → Contents (Option Known)
contents_at type bytes = row_at (row_of type) bytes
