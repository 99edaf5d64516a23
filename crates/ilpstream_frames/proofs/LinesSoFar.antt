-- What the kept state says of the line so far.
use Rattle.std.proofs.Common.{◌≡◌, ◌≢◌, ◌↔◌, ◌<◌, ◌≤◌, ℕ, zero, suc, nat_eq, ◌+◌, ◌-◌, ◌*◌, ◌%◌, ◌==◌, nat_lt, true, false, if◌then◌else◌, List, [], ◌∷◌, ◌++◌, length, take, drop, slice_index, Result, Ok, Err, refl, sym, ap, subst, ◌∙◌, inl, inr, arith, append-nil}
use Rattle.std.specs.List.{All, AllPass}
use Rattle.std.specs.Bool.{IsTrue}
use Rattle.std.specs.Char.{is_ascii_hexdigit}
use Rattle.std.specs.Str.Lines.{strip_carriage_return}
use Rattle.std.proofs.lemmas.Bool.{cases_lt, cases_eq}
use Rattle.std.proofs.lemmas.Bool.Decides.{nat_tests}
use Rattle.std.proofs.lemmas.List.{take_all, take-append-le, length-append, length-drop, length-take, get_or_append_left, get_or-take}
use Rattle.std.proofs.lemmas.List.Elements.{All-append, All-push}
use Rattle.std.proofs.Math.Seq.{get_or-append_seam, take-append-add}
use Rattle.std.proofs.lemmas.Grind.{common_steps}
use Rattle.hex.specs.Hex.{decode_of, is_hex_digit}
use Rattle.hex.specs.declared.error.FromHexError.{FromHexError}
use Rattle.hex.proofs.HexLemmas.{decode_of-digits, decode_of-odd, decode_of-ok}
use Rattle.st_frames.specs.declared.error.FrameError.TheVariants as frame
use Rattle.st_frames.specs.Reading.{packet_at}
use Rattle.ilpstream_frames.specs.declared.error.LineError.TheVariants.{NotHex, Packet}
use Rattle.ilpstream_frames.specs.declared.line.Shape.{Shape}
use Rattle.ilpstream_frames.specs.declared.line.Shape.TheVariants as shape
use Rattle.ilpstream_frames.specs.declared.line.LineEnd.{LineEnd}
use Rattle.ilpstream_frames.specs.declared.line.LineEnd.TheVariants.{Newline, InputEnd}
use Rattle.ilpstream_frames.specs.Answers.{packet_of_line, packet_of_bytes}
use Rattle.ilpstream_frames.specs.Digits.{DoesNotDecode}
use Rattle.ilpstream_frames.specs.LineSoFar.{LineState, AreDigits, HasOther, IsSpoiled, HasShape, StandsFor, most_digits, no_line, text_of_line, with_digit, with_digits}

same_digit : (b : ℕ) → is_ascii_hexdigit b ≡ is_hex_digit b
same_digit b = grind (arith, common_steps)

-- the shape is that of the state
pub in_shape : (s : LineState) (line : List ℕ) (x : Shape) → s.shape ≡ x → StandsFor s line → HasShape x s line
in_shape s line x e h = subst (λ (y : Shape). HasShape y s line) e h.shape

below-true : (a b : ℕ) → a < b → nat_lt a b ≡ true
below-true a b h = grind (arith, nat_tests)

below-false : (a b : ℕ) → b ≤ a → nat_lt a b ≡ false
below-false a b h = grind (arith, nat_tests)

-- the first m of a text, and one byte more
kept_more : (m : ℕ) (ds text : List ℕ) (b : ℕ) → ds ≡ take m text → (if nat_lt (length ds) m then ds ++ b ∷ [] else ds) ≡ take m (text ++ b ∷ [])
kept_more m ds text b e = elim (cases_lt (length text) m) [
  | inl below ↦
      let whole : ds ≡ text = e ∙ take_all m text (omega arith) in
      let short : length ds < m = rw whole below in
      rw (below-true (length ds) m short, whole) (sym (take_all m (text ++ b ∷ []) (omega (arith, length-append text (b ∷ [])))))
  | inr above ↦
      let full : length ds ≡ m = ap length e ∙ (length-take m text ∙ omega arith) in
      rw (below-false (length ds) m (omega (arith, full)), take-append-le m text (b ∷ []) above) e
]

pub digits_more : (s : LineState) (text : List ℕ) (b : ℕ) → is_ascii_hexdigit b ≡ true → AreDigits s text → AreDigits (with_digit b s) (text ++ b ∷ [])
digits_more s text b hex h = record {
  hex = All-push (λ x. is_hex_digit x ≡ true) text b h.hex (sym (same_digit b) ∙ hex);
  count = rw (length-append, h.count) refl;
  kept = kept_more most_digits s.digits text b h.kept;
}

one_more : (line : List ℕ) (b : ℕ) → b ≢ 10 → All (λ x. (x == 10) ≡ false) line → All (λ x. (x == 10) ≡ false) (line ++ b ∷ [])
one_more line b ne h = All-push (λ x. (x == 10) ≡ false) line b h (grind (arith, ne))

pub stands_with_digit : (s : LineState) (line : List ℕ) (b : ℕ) → s.shape ≡ shape.Digits → is_ascii_hexdigit b ≡ true → b ≢ 10 → StandsFor s line → StandsFor (with_digit b s) (line ++ b ∷ [])
stands_with_digit s line b e hex ne h =
    let more = digits_more s line b hex (in_shape s line shape.Digits e h) in
    let is : HasShape s.shape (with_digit b s) (line ++ b ∷ []) = subst (λ (y : Shape). HasShape y (with_digit b s) (line ++ b ∷ [])) (sym e) more in
    record { one_line = one_more line b ne h.one_line; shape = is }

take-zero : (xs : List ℕ) → take 0 xs ≡ []
take-zero [] = refl
take-zero (x ∷ xs) = refl

-- all that is left
pub rest_is : (n : ℕ) (xs : List ℕ) → take (length xs - n) (drop n xs) ≡ drop n xs
rest_is n xs = take_all (length xs - n) (drop n xs) (omega (arith, length-drop n xs))

-- the first m of a text, and more bytes
kept_many : (m : ℕ) (ds text bs : List ℕ) → ds ≡ take m text → ds ++ take (m - length ds) bs ≡ take m (text ++ bs)
kept_many m ds text bs e = elim (cases_lt (length text) m) [
  | inl below ↦
      let whole : ds ≡ text = e ∙ take_all m text (omega arith) in
      let room : m ≡ length text + (m - length text) = omega (arith, below) in
      let first : take m (text ++ bs) ≡ text ++ take (m - length text) bs = ap (λ (k : ℕ). take k (text ++ bs)) room ∙ take-append-add text bs (m - length text) in
      rw whole (sym first)
  | inr above ↦
      let full : length ds ≡ m = ap length e ∙ (length-take m text ∙ omega arith) in
      let room : m - length ds ≡ 0 = omega (arith, full) in
      let none : take (m - length ds) bs ≡ [] = ap (λ (k : ℕ). take k bs) room ∙ take-zero bs in
      ap (λ (l : List ℕ). ds ++ l) none ∙ (append-nil ds ∙ (e ∙ sym (take-append-le m text bs above)))
]

digits_many : (s : LineState) (text bs : List ℕ) → AllPass is_hex_digit bs → AreDigits s text → AreDigits (with_digits bs s) (text ++ bs)
digits_many s text bs hex h = record {
  hex = All-append (λ x. is_hex_digit x ≡ true) text bs h.hex hex;
  count = rw (length-append, h.count) refl;
  kept = kept_many most_digits s.digits text bs h.kept;
}

pub stands_with_digits : (s : LineState) (line bs : List ℕ) → s.shape ≡ shape.Digits → AllPass is_hex_digit bs → All (λ x. (x == 10) ≡ false) bs → StandsFor s line
    → StandsFor (with_digits bs s) (line ++ bs)
stands_with_digits s line bs e hex ne h =
    let more = digits_many s line bs hex (in_shape s line shape.Digits e h) in
    let is : HasShape s.shape (with_digits bs s) (line ++ bs) = subst (λ (y : Shape). HasShape y (with_digits bs s) (line ++ bs)) (sym e) more in
    record { one_line = All-append (λ x. (x == 10) ≡ false) line bs h.one_line ne; shape = is }

spoiled_more : (line : List ℕ) (b : ℕ) → IsSpoiled line → IsSpoiled (line ++ b ∷ [])
spoiled_more line b h =
    let same : slice_index (line ++ b ∷ []) h.place ≡ slice_index line h.place = get_or_append_left line (b ∷ []) 0 h.place h.within in
    record {
      place = h.place;
      within = omega (arith, length-append line (b ∷ []), h.within);
      no_digit = rw same h.no_digit;
      no_end = inr (omega (arith, length-append line (b ∷ []), h.within));
    }

spoiled_by : (line : List ℕ) (b : ℕ) → is_hex_digit b ≡ false → b ≢ 13 → IsSpoiled (line ++ b ∷ [])
spoiled_by line b hex ne =
    let at : slice_index (line ++ b ∷ []) (length line) ≡ b = get_or-append_seam line b [] 0 in
    record {
      place = length line;
      within = omega (arith, length-append line (b ∷ []));
      no_digit = rw at hex;
      no_end = inl (rw at ne);
    }

-- a carriage return, and a byte after it
spoiled_after : (text : List ℕ) (b : ℕ) → IsSpoiled ((text ++ 13 ∷ []) ++ b ∷ [])
spoiled_after text b =
    let n : length (text ++ 13 ∷ []) ≡ length text + 1 = length-append text (13 ∷ []) in
    let all : length ((text ++ 13 ∷ []) ++ b ∷ []) ≡ length text + 1 + 1 = length-append (text ++ 13 ∷ []) (b ∷ []) ∙ ap (λ k. k + 1) n in
    let at : slice_index ((text ++ 13 ∷ []) ++ b ∷ []) (length text) ≡ 13 =
    get_or_append_left (text ++ 13 ∷ []) (b ∷ []) 0 (length text) (omega (arith, n)) ∙ get_or-append_seam text 13 [] 0 in
    record {
      place = length text;
      within = omega (arith, all);
      no_digit = rw at refl;
      no_end = inr (omega (arith, all));
    }

-- a byte that is not a digit, after digits
pub stands_with_other : (s t : LineState) (line : List ℕ) (b : ℕ) → s.shape ≡ shape.Digits → t ≡ record s { shape = shape.NotHex } → is_ascii_hexdigit b ≡ false → b ≢ 13 → b ≢ 10
    → StandsFor s line → StandsFor t (line ++ b ∷ [])
stands_with_other s t line b e made hex return ne h =
    rw made (record { one_line = one_more line b ne h.one_line; shape = spoiled_by line b (sym (same_digit b) ∙ hex) return })

pub stands_with_return : (s t : LineState) (line : List ℕ) → s.shape ≡ shape.Digits → t ≡ record s { shape = shape.DigitsAndReturn } → StandsFor s line → StandsFor t (line ++ 13 ∷ [])
stands_with_return s t line e made h =
    let digits = in_shape s line shape.Digits e h in
    rw made (record { one_line = one_more line 13 (λ x. absurd (omega arith)) h.one_line; shape = (line, refl, record { hex = digits.hex; count = digits.count; kept = digits.kept }) })

-- any byte, after something else
pub stands_spoiled : (s t : LineState) (line : List ℕ) (b : ℕ) → s.shape ≢ shape.Digits → t ≡ record s { shape = shape.NotHex } → b ≢ 10 → StandsFor s line → StandsFor t (line ++ b ∷ [])
stands_spoiled s t line b other made ne h = rw made (record { one_line = one_more line b ne h.one_line; shape = spoiled s.shape other h.shape })
  where
    spoiled : (x : Shape) → x ≢ shape.Digits → HasShape x s line → IsSpoiled (line ++ b ∷ [])
    spoiled shape.Digits differs had = absurd (differs refl)
    spoiled shape.DigitsAndReturn differs had = subst (λ (l : List ℕ). IsSpoiled (l ++ b ∷ [])) (sym had.1) (spoiled_after had.0 b)
    spoiled shape.NotHex differs had = spoiled_more line b had

pub stands_empty : (s : LineState) → s ≡ no_line → StandsFor s []
stands_empty s e = rw e (record { one_line = λ k d lt. absurd (omega arith); shape = record { hex = λ k d lt. absurd (omega arith); count = refl; kept = refl } })

-- the last character of digits is not a carriage return
strip-digits : (text : List ℕ) → AllPass is_hex_digit text → strip_carriage_return text ≡ text
strip-digits [] h = refl
strip-digits (b ∷ text) h = elim (cases_eq (slice_index (b ∷ text) (length (b ∷ text) - 1)) 13) [
  | inl return ↦
      let digit : is_hex_digit (slice_index (b ∷ text) (length (b ∷ text) - 1)) ≡ true = h (length (b ∷ text) - 1) 0 (omega arith) in
      let wrong : false ≡ true = rw return at digit in
      absurd (cc)
  | inr other ↦ grind (arith, common_steps, other)
]

pub digits_of_text : (s : LineState) (line : List ℕ) (end : LineEnd) → s.shape ≡ shape.Digits → StandsFor s line → AreDigits s (text_of_line end line)
digits_of_text s line Newline e h = let digits = in_shape s line shape.Digits e h in rw (strip-digits line digits.hex) digits
digits_of_text s line InputEnd e h = in_shape s line shape.Digits e h

pub other_at_end : (s : LineState) (line : List ℕ) → s.shape ≡ shape.DigitsAndReturn → StandsFor s line → HasOther line
other_at_end s line e h =
    let had = in_shape s line shape.DigitsAndReturn e h in
    let at : slice_index (had.0 ++ 13 ∷ []) (length had.0) ≡ 13 = get_or-append_seam had.0 13 [] 0 in
    rw had.1 (record { place = length had.0; within = omega (arith, length-append had.0 (13 ∷ [])); no_digit = rw at refl })

-- a line that is spoiled has another character in its text too
other_in_text : (line : List ℕ) (end : LineEnd) → IsSpoiled line → HasOther (text_of_line end line)
other_in_text line InputEnd h = record { place = h.place; within = h.within; no_digit = h.no_digit }
other_in_text line Newline h = elim (cases_eq (slice_index line (length line - 1)) 13) [
  | inl return ↦
      let before : h.place < length line - 1 = elim h.no_end [
        | inl ne ↦ elim (cases_eq h.place (length line - 1)) [
          | inl last ↦ absurd (ne (ap (slice_index line) last ∙ return))
          | inr below ↦ omega (arith, h.within, below)
        ]
        | inr more ↦ omega (arith, more)
      ] in
      let all : length (take (length line - 1) line) ≡ length line - 1 = length-take (length line - 1) line ∙ omega arith in
      let same : slice_index (take (length line - 1) line) h.place ≡ slice_index line h.place = get_or-take (length line - 1) line h.place 0 before in
      rw return (record { place = h.place; within = rw all before; no_digit = rw same h.no_digit })
  | inr other ↦
      let kept : strip_carriage_return line ≡ line = grind (arith, common_steps, other) in
      rw kept (record { place = h.place; within = h.within; no_digit = h.no_digit })
]

pub other_of_text : (s : LineState) (line : List ℕ) (end : LineEnd) → s.shape ≡ shape.NotHex → StandsFor s line → HasOther (text_of_line end line)
other_of_text s line end e h = other_in_text line end (in_shape s line shape.NotHex e h)

-- text with another character is not a packet
pub no_packet : (text : List ℕ) → HasOther text → packet_of_line text ≡ Err NotHex
unfolding packet_of_line
no_packet text h = by_answer (decode_of text) refl
  where
    by_answer : (r : Result (List ℕ) FromHexError) → decode_of text ≡ r → packet_of_bytes r ≡ Err NotHex
    by_answer (Ok bytes) e =
        let digit : is_hex_digit (slice_index text h.place) ≡ true = (decode_of-ok text bytes e).1 h.place 0 h.within in
        let wrong : false ≡ true = rw h.no_digit at digit in
        absurd (cc)
    by_answer (Err error) e = refl

pub undecoded_is_no_packet : (text : List ℕ) → DoesNotDecode (decode_of text) → packet_of_line text ≡ Err NotHex
unfolding packet_of_line
undecoded_is_no_packet text h = rw h.1 refl

pub odd_is_no_packet : (s : LineState) (text : List ℕ) → s.count % 2 ≡ 1 → AreDigits s text → packet_of_line text ≡ Err NotHex
unfolding packet_of_line
odd_is_no_packet s text odd h =
    let e : decode_of text ≡ _ = decode_of-odd text (ap (λ n. n % 2) (sym h.count) ∙ odd) in
    rw e refl

pub long_is_no_packet : (s : LineState) (text : List ℕ) → s.count % 2 ≢ 1 → most_digits < s.count → AreDigits s text → packet_of_line text ≡ Err (Packet frame.TooLong)
unfolding packet_of_line packet_at
long_is_no_packet s text even long h =
    let n : s.count ≡ length text = h.count in
    let decoded = decode_of-digits text (omega (arith, n, even)) h.hex in
    let size : length text ≡ 2 * length decoded.0 = (decode_of-ok text decoded.0 decoded.1).2 in
    rw (decoded.1, below-true 32739 (length decoded.0) (omega (arith, size, n, long))) refl

pub kept_is_text : (s : LineState) (text : List ℕ) → s.count ≤ most_digits → AreDigits s text → s.digits ≡ text
kept_is_text s text short h = h.kept ∙ take_all most_digits text (omega (arith, h.count, short))

-- a text with something other than digits has a character
pub never_empty : (text : List ℕ) → HasOther text → IsTrue false ↔ (length text ≡ 0)
never_empty text other = grind (arith, nat_tests, other.within)

zero_tells : (n : ℕ) → IsTrue (nat_eq n 0) ↔ (n ≡ 0)
zero_tells zero = grind (arith, nat_tests)
zero_tells (suc n) = grind (arith, nat_tests)

-- a text of digits has as many characters as were counted
pub counted : (s : LineState) (n : ℕ) (text : List ℕ) → n ≡ s.count → AreDigits s text → IsTrue (nat_eq n 0) ↔ (length text ≡ 0)
counted s n text same digits = subst (λ m. IsTrue (nat_eq n 0) ↔ (m ≡ 0)) (same ∙ digits.count) (zero_tells n)
