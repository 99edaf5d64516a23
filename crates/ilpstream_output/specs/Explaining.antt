-- What `explain` prints for a number, by the rows of the table.
use Rattle.std.specs.Prelude.{ℕ, Bool, true, false, not, nat_eq, List, [], ◌∷◌, ◌++◌, filter, codes, decimal, Option, Some, None}
use Rattle.std.specs.List.{flat_map}
use Rattle.ilpstream_output.specs.Row.{Row, Text}
use Rattle.ilpstream_output.specs.Rows.{rows}

-- names with commas between: `send, receive`
abbrev pub listed : List Text → Text
listed [] = []
listed (name ∷ names) = name ++ flat_map (λ (n : Text). codes ", " ++ n) names

-- which commands of the program give it: `, in send, receive`, or nothing if none does
abbrev pub places_text : List Text → Text
places_text [] = []
places_text (place ∷ places) = codes ", in " ++ listed (place ∷ places)

-- a line, four columns in
abbrev pub line_text : Text → Text
line_text line = codes "    " ++ line ++ 10 ∷ []

-- `58  ilpstream_serving TransferError::Failed, in send`, and below it the cause and what to do
abbrev pub row_text : Row → Text
row_text r =
    decimal r.number ++ codes "  " ++ r.home ++ codes " " ++ r.variant ++ places_text r.places ++ 10
    ∷ flat_map line_text r.cause ++ flat_map line_text r.advice

-- a user of the program meets it
abbrev pub is_met : Row → Bool
is_met r = has_some r.places
  where
    has_some : List Text → Bool
    has_some [] = false
    has_some (place ∷ places) = true

-- the rows with this number
abbrev pub rows_of : ℕ → List Row
rows_of n = filter (λ r. nat_eq r.number n) rows

-- rows of the library alone, under a heading
abbrev pub library_text : List Row → Text
library_text [] = []
library_text (r ∷ rs) = codes "Numbers of the library:\n" ++ flat_map row_text (r ∷ rs)

-- the rows that a user of the program meets, and then the others
abbrev pub rows_text : List Row → Text
rows_text rs = flat_map row_text (filter is_met rs) ++ library_text (filter (λ r. not (is_met r)) rs)

abbrev pub text_of : List Row → Option Text
text_of [] = None
text_of (r ∷ rs) = Some (rows_text (r ∷ rs))

-- what `explain n` prints: nothing if no row has this number
unfoldable pub explanation : ℕ → Option Text
explanation n = text_of (rows_of n)
