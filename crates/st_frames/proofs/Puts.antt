-- What the writers append.
use Rattle.std.proofs.Common.{◌≡◌, ℕ, ◌+◌, ◌<◌, ◌≤◌, Bool, true, false, cond, ltb, List, [], ◌∷◌, ◌++◌, length, map, drop, get_or, zero, suc, inl, inr, ap, add-one, ◌^◌, Option, Some, None, Result, Ok, Err, refl, sym, ◌∙◌, arith, append_assoc, append-nil}
use Rattle.std.proofs.Math.Seq.{drop-cons}
use Rattle.std.specs.List.{position, position_or_len}
use Rattle.std.proofs.lemmas.Bool.{cases_lt, lt-ltb, le-ltb, ltb-false}
use Rattle.std.proofs.lemmas.List.{length-append, length-map}
use Rattle.std.proofs.lemmas.Str.{IsUtf8-from_is_utf8, is_utf8-from_IsUtf8}
use Rattle.st_oer.specs.Spelling.{length_bytes}
use Rattle.st_frames.specs.declared.error.FrameError.TheVariants.{FrameFormat, TooLong}
use Rattle.st_frames.specs.Frames.{Known}
use Rattle.st_frames.specs.declared.field.Field.{Field}
use Rattle.st_frames.specs.declared.frame.Frame.{Frame}
use Rattle.st_frames.specs.Seen.{seen}
use Rattle.st_frames.specs.Inside.{field_text, fields_text}
use Rattle.st_frames.specs.Written.{is_unwritable, packet_text, packet_length, judged, size_of, contents_text, frame_text, frames_text, KnownFits, AllFit}

pub length-packet_text : (kind s a : ℕ) (ks : List Known) → length (packet_text kind s a ks) ≡ packet_length s a ks
unfolding packet_text
length-packet_text kind s a ks = simp length-append (omega arith)

-- ---- the first frame that can't be written

position_or_len-map : {X Y : Type 0} (f : X → Y) (p : Y → Bool) (xs : List X) → position_or_len p (map f xs) ≡ position_or_len (λ x. p (f x)) xs
position_or_len-map f p [] = refl
position_or_len-map f p (x ∷ xs) = let more = position_or_len-map f p xs in grind (arith, more)

position-map : {X Y : Type 0} (f : X → Y) (p : Y → Bool) (xs : List X) → position p (map f xs) ≡ position (λ x. p (f x)) xs
position-map f p xs = rw (position_or_len-map f p xs, length-map xs f) refl

pub judged_bad : (fs : List Frame) (i : ℕ) (text : List ℕ) → position (λ f. is_unwritable (seen f)) fs ≡ Some i → judged (position is_unwritable (map seen fs)) text ≡ Err (FrameFormat i)
judged_bad fs i text h = rw (position-map seen is_unwritable fs, h) refl

pub judged_long : (fs : List Frame) (kind s a : ℕ) → position (λ f. is_unwritable (seen f)) fs ≡ None → 32739 < packet_length s a (map seen fs)
    → judged (position is_unwritable (map seen fs)) (packet_text kind s a (map seen fs)) ≡ Err TooLong
judged_long fs kind s a h long =
    rw (position-map seen is_unwritable fs, h, lt-ltb 32739 (length (packet_text kind s a (map seen fs))) (omega (arith, length-packet_text kind s a (map seen fs)))) refl

pub judged_fits : (fs : List Frame) (kind s a : ℕ) → position (λ f. is_unwritable (seen f)) fs ≡ None → packet_length s a (map seen fs) ≤ 32739
    → judged (position is_unwritable (map seen fs)) (packet_text kind s a (map seen fs)) ≡ Ok (packet_text kind s a (map seen fs))
judged_fits fs kind s a h short =
    rw (position-map seen is_unwritable fs, h, le-ltb 32739 (length (packet_text kind s a (map seen fs))) (omega (arith, length-packet_text kind s a (map seen fs)))) refl

pub ruleset judging = (judged_bad, judged_long, judged_fits, length-packet_text)

-- what the size of a text says of it
record IsSized (o : Option ℕ) (text : List ℕ) (n : ℕ) : Type 0 where
  writable : o ≡ None
  is : length text ≡ n
  short : n ≤ 32739

sized_none : (b : Bool) (text : List ℕ) (n : ℕ) → ltb 32739 (length text) ≡ b → size_of (cond b (Err TooLong) (Ok text)) ≡ Ok n → IsSized None text n
sized_none true text n is h = absurd cc
sized_none false text n is h =
    let same : length text ≡ n = cc in
    record { writable = refl; is = same; short = omega (arith, same, ltb-false _ _ is) }

sized_as : (o : Option ℕ) (text : List ℕ) (n : ℕ) → size_of (judged o text) ≡ Ok n → IsSized o text n
sized_as (Some i) text n h = absurd cc
sized_as None text n h = sized_none (ltb 32739 (length text)) text n refl h

pub sized_writable : (fs : List Frame) (kind s a n : ℕ) → size_of (judged (position is_unwritable (map seen fs)) (packet_text kind s a (map seen fs))) ≡ Ok n
    → position (λ f. is_unwritable (seen f)) fs ≡ None
sized_writable fs kind s a n h = sym (position-map seen is_unwritable fs) ∙ (sized_as (position is_unwritable (map seen fs)) (packet_text kind s a (map seen fs)) n h).writable

pub sized_length : (fs : List Frame) (kind s a n : ℕ) → size_of (judged (position is_unwritable (map seen fs)) (packet_text kind s a (map seen fs))) ≡ Ok n
    → packet_length s a (map seen fs) ≡ n
sized_length fs kind s a n h = sym (length-packet_text kind s a (map seen fs)) ∙ (sized_as (position is_unwritable (map seen fs)) (packet_text kind s a (map seen fs)) n h).is

pub sized_short : (fs : List Frame) (kind s a n : ℕ) → size_of (judged (position is_unwritable (map seen fs)) (packet_text kind s a (map seen fs))) ≡ Ok n → n ≤ 32739
sized_short fs kind s a n h = (sized_as (position is_unwritable (map seen fs)) (packet_text kind s a (map seen fs)) n h).short

pub ruleset sized = (sized_writable, sized_length, sized_short, judged_fits)

-- if there is no first, none passes
past_all : (o n : ℕ) → (let none : Option ℕ = None in cond (ltb o n) (Some o) None ≡ none) → n ≤ o
past_all o n h =
    elim (cases_lt o n) [
      | inl lt ↦ absurd (let t = lt-ltb o n lt in cc)
      | inr le ↦ le
    ]

first_passes_not : {X : Type 0} (p : X → Bool) (x : X) (xs : List X) → suc (length xs) ≤ position_or_len p (x ∷ xs) → (p x ≡ false) × (length xs ≤ position_or_len p xs)
first_passes_not p x xs h = grind arith

passes_not : {X : Type 0} (p : X → Bool) (xs : List X) (i : ℕ) (d : X) → i < length xs → length xs ≤ position_or_len p xs → p (get_or xs i d) ≡ false
passes_not p [] i d lt h = absurd (omega arith)
passes_not p (x ∷ xs) zero d lt h = (first_passes_not p x xs h).0
passes_not p (x ∷ xs) (suc i) d lt h = passes_not p xs i d (omega arith) (first_passes_not p x xs h).1

pub writable_at : (fs : List Frame) (i : ℕ) (d : Frame) → i < length fs → position (λ f. is_unwritable (seen f)) fs ≡ None → is_unwritable (seen (get_or fs i d)) ≡ false
writable_at fs i d lt h =
    let p : Frame → Bool = λ f. is_unwritable (seen f) in
    passes_not p fs i d lt (past_all (position_or_len p fs) (length fs) h)

-- ---- the frames from the i-th on

pub frames_text-next : (fs : List Frame) (i : ℕ) (d : Frame) → i < length fs → frames_text (map seen (drop i fs)) ≡ frame_text (seen (get_or fs i d)) ++ frames_text (map seen (drop (i + 1) fs))
frames_text-next fs i d lt = rw (drop-cons fs i d lt, add-one) refl

pub fits-next : (fs : List Frame) (i : ℕ) (d : Frame) → i < length fs → KnownFits (seen (get_or fs i d)) → AllFit (map seen (drop (i + 1) fs)) → AllFit (map seen (drop i fs))
fits-next fs i d lt fits others = rw (drop-cons fs i d lt) (fits, rw add-one at others)

frames_text-drop : (fs : List Frame) (i : ℕ) → length (frames_text (map seen (drop i fs))) ≤ length (frames_text (map seen fs))
frames_text-drop fs zero = omega arith
frames_text-drop [] (suc i) = omega arith
frames_text-drop (f ∷ fs) (suc i) = omega (arith, frames_text-drop fs i, length-append (frame_text (seen f)) (frames_text (map seen fs)))

pub contents_below : (k : Known) → length (contents_text k) ≤ length (frame_text k)
unfolding frame_text
contents_below k = omega (arith, length-append (length_bytes (length (contents_text k))) (contents_text k))

pub contents_short : (fs : List Frame) (i : ℕ) (d : Frame) → i < length fs → length (frames_text (map seen fs)) < 2 ^ 64 → length (contents_text (seen (get_or fs i d))) < 2 ^ 64
contents_short fs i d lt short =
    let k : Known = seen (get_or fs i d) in
    omega (arith, contents_below k, frames_text-drop fs i, ap length (frames_text-next fs i d lt), length-append (frame_text k) (frames_text (map seen (drop (i + 1) fs))))

-- room for the frames from the i-th on is room for that one, and then for the others
pub room_next : (fs : List Frame) (i : ℕ) (d : Frame) (used room : ℕ) → i < length fs → used + length (frames_text (map seen (drop i fs))) ≤ room
    → used + length (frame_text (seen (get_or fs i d))) ≤ room
room_next fs i d used room lt h =
    omega (arith, h, ap length (frames_text-next fs i d lt), length-append (frame_text (seen (get_or fs i d))) (frames_text (map seen (drop (i + 1) fs))))

pub room_left : (fs : List Frame) (i : ℕ) (d : Frame) (old new : List ℕ) (room more : ℕ) → i < length fs → length old + length (frames_text (map seen (drop i fs))) ≤ room
    → new ≡ old ++ frame_text (seen (get_or fs i d)) → room ≤ more → length new + length (frames_text (map seen (drop (i + 1) fs))) ≤ more
room_left fs i d old new room more lt h e le =
    let k : List ℕ = frame_text (seen (get_or fs i d)) in
    omega (arith, h, le, ap length e, length-append old k, ap length (frames_text-next fs i d lt), length-append k (frames_text (map seen (drop (i + 1) fs))))

-- three fields that are appended one after another
pub put_three : (fs : List Field) (d : Field) (o p q r : List ℕ) → length fs ≡ 3 → p ≡ o ++ field_text (get_or fs 0 d) → q ≡ p ++ field_text (get_or fs 1 d)
    → r ≡ q ++ field_text (get_or fs 2 d) → r ≡ o ++ fields_text fs
put_three (x ∷ y ∷ z ∷ []) d o p q r three first second third = rw (third, second, first) (simp (append_assoc, append-nil))
put_three fs d o p q r three first second third = absurd (omega (arith, three))

-- how long three fields are
pub three_lengths : (fs : List Field) (d : Field) → length fs ≡ 3
    → length (fields_text fs) ≡ length (field_text (get_or fs 0 d)) + (length (field_text (get_or fs 1 d)) + length (field_text (get_or fs 2 d)))
three_lengths (x ∷ y ∷ z ∷ []) d three = simp (append-nil, length-append) refl
three_lengths fs d three = absurd (omega (arith, three))

pub ruleset lengths = (length-append)

pub ruleset puts = (append_assoc, append-nil)

pub ruleset texts = (IsUtf8-from_is_utf8, is_utf8-from_IsUtf8)
