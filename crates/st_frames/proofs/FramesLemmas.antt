-- Frames one after another, from the first on.
use Rattle.std.proofs.Common.{◌≡◌, ℕ, zero, suc, ◌+◌, ◌-◌, ◌<◌, List, [], ◌∷◌, Option, Some, None, Result, Ok, Err, refl, ◌∙◌, subst, arith}
use Rattle.std.specs.Prelude.{IsOk}
use Rattle.st_oer.specs.declared.error.OerError.{OerError}
use Rattle.st_frames.specs.declared.error.FrameError.{FrameError}
use Rattle.st_frames.specs.declared.error.FrameError.TheVariants.{FrameFormat}
use Rattle.st_frames.specs.Frames.{Known}
use Rattle.st_frames.specs.Contents.{◌>>=◌, refusing, Contents, contents_at}
use Rattle.st_frames.specs.Reading.{Raw, raw_at, raws_at, with_known, known_at, outer, frames_at, frame_at, all_of}
use Rattle.st_frames.proofs.Results.{bind_ok, refusing_ok, outer_ok, ok_is, found}

-- what the whole reads as, against what is left of it
pub record Follows {X Y E : Type 0} (whole : Result X E) (part : Result Y E) : Type 0 where
  pub faults : (e : E) → part ≡ Err e → whole ≡ Err e
  pub reads : IsOk part → IsOk whole

-- ---- the skeleton

abbrev with_raw : Raw → Result (List Raw) OerError → Result (List Raw) OerError
with_raw first others = others >>= λ xs. Ok (first ∷ xs)

raws_next : (n : ℕ) (bytes rest : List ℕ) (first : Raw) → 0 < n → raw_at bytes ≡ Ok (first, rest) → raws_at n bytes ≡ with_raw first (raws_at (n - 1) rest)
unfolding raws_at
raws_next zero bytes rest first some h = absurd (omega arith)
raws_next (suc n) bytes rest first some h =
    let e : suc n - 1 ≡ n = omega arith in
    rw (h, e) refl

pub raws_fault : (n : ℕ) (bytes : List ℕ) (e : OerError) → 0 < n → raw_at bytes ≡ Err e → raws_at n bytes ≡ Err e
unfolding raws_at
raws_fault zero bytes e some h = absurd (omega arith)
raws_fault (suc n) bytes e some h = rw h refl

pub raws_none : (n : ℕ) (bytes : List ℕ) → n ≡ 0 → raws_at n bytes ≡ Ok []
unfolding raws_at
raws_none zero bytes h = refl
raws_none (suc n) bytes h = absurd (omega arith)

with_raw-err : (first : Raw) (others : Result (List Raw) OerError) (e : OerError) → others ≡ Err e → with_raw first others ≡ Err e
with_raw-err first others e h = rw h refl

with_raw-ok : (first : Raw) (others : Result (List Raw) OerError) → IsOk others → IsOk (with_raw first others)
with_raw-ok first (Ok xs) h = refl
with_raw-ok first (Err e) h = absurd cc

ok-with_raw : (first : Raw) (others : Result (List Raw) OerError) → IsOk (with_raw first others) → IsOk others
ok-with_raw first (Ok xs) h = refl
ok-with_raw first (Err e) h = absurd cc

pub raws_more : (whole : Result (List Raw) OerError) (n : ℕ) (bytes rest : List ℕ) (first : Raw) → 0 < n → raw_at bytes ≡ Ok (first, rest)
    → Follows whole (raws_at n bytes) → Follows whole (raws_at (n - 1) rest)
raws_more whole n bytes rest first some h so_far =
    let e = raws_next n bytes rest first some h in
    record {
      faults = λ d f. so_far.faults d (e ∙ with_raw-err first (raws_at (n - 1) rest) d f);
      reads = λ ok. so_far.reads (rw e (with_raw-ok first (raws_at (n - 1) rest) ok));
    }

-- if the skeleton has no fault, none is left after the first frame
raws_left : (n : ℕ) (bytes rest : List ℕ) (first : Raw) → 0 < n → raw_at bytes ≡ Ok (first, rest) → IsOk (raws_at n bytes) → IsOk (raws_at (n - 1) rest)
raws_left n bytes rest first some h ok = ok-with_raw first (raws_at (n - 1) rest) (rw (raws_next n bytes rest first some h) at ok)

-- and the first frame has none
first_of : (n : ℕ) (bytes : List ℕ) → 0 < n → IsOk (raws_at n bytes) → (x : Raw × List ℕ) × (raw_at bytes ≡ Ok x)
first_of n bytes some ok =
    let go : (r : Result (Raw × List ℕ) OerError) → raw_at bytes ≡ r → (x : Raw × List ℕ) × (raw_at bytes ≡ Ok x) = λ r. elim r as (λ s. raw_at bytes ≡ s → (x : Raw × List ℕ) × (raw_at bytes ≡ Ok x)) [
      | Ok x ↦ λ h. (x, h)
      | Err e ↦ λ h. absurd (let all = found (raws_at n bytes) ok in let none = raws_fault n bytes e some h in cc)
    ] in
    go (raw_at bytes) refl

-- ---- the frames

-- frame i in front of the others
abbrev pub with_first : ℕ → Option Known → Result (List (ℕ × Known)) FrameError → Result (List (ℕ × Known)) FrameError
with_first i first others = others >>= λ xs. Ok (with_known i first xs)

with_first-err : (i : ℕ) (first : Option Known) (others : Result (List (ℕ × Known)) FrameError) (e : FrameError) → others ≡ Err e → with_first i first others ≡ Err e
with_first-err i first others e h = rw h refl

with_first-ok : (i : ℕ) (first : Option Known) (others : Result (List (ℕ × Known)) FrameError) → IsOk others → IsOk (with_first i first others)
with_first-ok i first (Ok xs) h = refl
with_first-ok i first (Err e) h = absurd cc

abbrev before : List ℕ → Option Known → Result (Option Known × List ℕ) FrameError
before rest known = Ok (known, rest)

abbrev after_raw : ℕ → Raw × List ℕ → Result (Option Known × List ℕ) FrameError
after_raw i raw = refusing (FrameFormat i) (contents_at raw.0.type raw.0.contents) >>= before raw.1

record IsFrame (i : ℕ) (bytes rest : List ℕ) (first : Option Known) : Type 0 where
  raw : Raw
  raw_is : raw_at bytes ≡ Ok (raw, rest)
  known_is : contents_at raw.type raw.contents ≡ Ok first

frame_is : (i : ℕ) (bytes rest : List ℕ) (first : Option Known) → frame_at i bytes ≡ Ok (first, rest) → IsFrame i bytes rest first
unfolding frame_at
frame_is i bytes rest first h =
    let b = bind_ok (outer (raw_at bytes)) (after_raw i) (first, rest) h in
    let k = bind_ok (refusing (FrameFormat i) (contents_at b.0.0.type b.0.0.contents)) (before b.0.1) (first, rest) b.2 in
    subst (λ (x : Option Known × List ℕ). IsFrame i bytes x.1 x.0) (ok_is {E = FrameError} (k.0, b.0.1) (first, rest) k.2)
    (record { raw = b.0.0; raw_is = outer_ok (raw_at bytes) b.0 b.1; known_is = refusing_ok (FrameFormat i) (contents_at b.0.0.type b.0.0.contents) k.0 k.1 })

known_more : (i : ℕ) (raw : Raw) (first : Option Known) (others : Result (List Raw) OerError) → contents_at raw.type raw.contents ≡ Ok first
    → (outer (with_raw raw others) >>= known_at i) ≡ with_first i first (outer others >>= known_at (i + 1))
unfolding known_at
known_more i raw first (Ok xs) h = rw h refl
known_more i raw first (Err e) h = refl

-- one frame read
pub frames_next : (n i : ℕ) (bytes rest : List ℕ) (first : Option Known) → 0 < n → frame_at i bytes ≡ Ok (first, rest)
    → frames_at n i bytes ≡ with_first i first (frames_at (n - 1) (i + 1) rest)
frames_next n i bytes rest first some h =
    let f = frame_is i bytes rest first h in
    rw (raws_next n bytes rest f.raw some f.raw_is) (known_more i f.raw first (raws_at (n - 1) rest) f.known_is)

known_fault : (i : ℕ) (raw : Raw) (e : FrameError) (others : Result (List Raw) OerError) → IsOk others → refusing (FrameFormat i) (contents_at raw.type raw.contents) ≡ Err e
    → (outer (with_raw raw others) >>= known_at i) ≡ Err e
unfolding known_at
known_fault i raw e (Ok xs) ok h = rw h refl
known_fault i raw e (Err d) ok h = absurd cc

contents_fault : (i : ℕ) (rest : List ℕ) (r : Contents (Option Known)) (e : FrameError) → (refusing (FrameFormat i) r >>= before rest) ≡ Err e → refusing (FrameFormat i) r ≡ Err e
contents_fault i rest (Ok k) e h = absurd cc
contents_fault i rest (Err u) e h = let same : FrameFormat i ≡ e = cc in rw same refl

-- one frame at fault, if the skeleton has no fault
pub frames_fault : (n i : ℕ) (bytes : List ℕ) (e : FrameError) → 0 < n → IsOk (raws_at n bytes) → frame_at i bytes ≡ Err e → frames_at n i bytes ≡ Err e
unfolding frame_at
frames_fault n i bytes e some ok h =
    let f = first_of n bytes some ok in
    let after : after_raw i f.0 ≡ Err e = rw f.1 at h in
    rw (raws_next n bytes f.0.1 f.0.0 some f.1)
    (known_fault i f.0.0 e (raws_at (n - 1) f.0.1) (raws_left n bytes f.0.1 f.0.0 some f.1 ok) (contents_fault i f.0.1 (contents_at f.0.0.type f.0.0.contents) e after))

pub frames_none : (n i : ℕ) (bytes : List ℕ) → n ≡ 0 → frames_at n i bytes ≡ Ok []
unfolding known_at
frames_none n i bytes h = rw (raws_none n bytes h) refl

-- what is to be kept from frame to frame
pub record Checked (whole : Result (List (ℕ × Known)) FrameError) (n i : ℕ) (bytes : List ℕ) : Type 0 where
  pub skeleton : IsOk (raws_at n bytes)
  pub contents : Follows whole (frames_at n i bytes)

pub checked_next : (whole : Result (List (ℕ × Known)) FrameError) (n i : ℕ) (bytes rest : List ℕ) (first : Option Known) → 0 < n → frame_at i bytes ≡ Ok (first, rest)
    → Checked whole n i bytes → Checked whole (n - 1) (i + 1) rest
checked_next whole n i bytes rest first some h so_far =
    let f = frame_is i bytes rest first h in
    let e = frames_next n i bytes rest first some h in
    record {
      skeleton = raws_left n bytes rest f.raw some f.raw_is so_far.skeleton;
      contents = record {
        faults = λ d g. so_far.contents.faults d (e ∙ with_first-err i first (frames_at (n - 1) (i + 1) rest) d g);
        reads = λ ok. so_far.contents.reads (rw e (with_first-ok i first (frames_at (n - 1) (i + 1) rest) ok));
      };
    }

-- ---- the iterator

skeleton_ok : (n i : ℕ) (bytes : List ℕ) (xs : List (ℕ × Known)) → frames_at n i bytes ≡ Ok xs → IsOk (raws_at n bytes)
skeleton_ok n i bytes xs h =
    let b = bind_ok (outer (raws_at n bytes)) (known_at i) xs h in
    rw (outer_ok (raws_at n bytes) b.0 b.1) refl

-- frames that can be read have no fault in front
pub no_fault : (n i : ℕ) (bytes : List ℕ) (xs : List (ℕ × Known)) (e : FrameError) → 0 < n → frames_at n i bytes ≡ Ok xs → frame_at i bytes ≡ Err e → ⊥
no_fault n i bytes xs e some h fault =
    let f = frames_fault n i bytes e some (skeleton_ok n i bytes xs h) fault in
    cc

pub with_first_some : (i : ℕ) (x : Known) (others : Result (List (ℕ × Known)) FrameError) (xs : List (ℕ × Known)) → with_first i (Some x) others ≡ Ok xs
    → IsOk others × (xs ≡ (i, x) ∷ all_of others)
with_first_some i x (Ok ys) xs h = (refl, cc)
with_first_some i x (Err e) xs h = absurd cc

pub with_first_none : (i : ℕ) (others : Result (List (ℕ × Known)) FrameError) → with_first i None others ≡ others
with_first_none i (Ok ys) = refl
with_first_none i (Err e) = refl
