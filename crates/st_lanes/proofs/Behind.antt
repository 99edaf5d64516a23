-- Places in lists, and digests from hash values.
use Rattle.std.proofs.Common.{◌≡◌, ℕ, zero, suc, ◌+◌, ◌*◌, ◌/◌, ◌<◌, ◌≤◌, bit_xor, List, [], ◌++◌, length, map, take, drop, slice_index, slice_index_or, slice_set, inl, inr, refl, sym, ap, ◌∙◌, arith, length-append}
use Rattle.std.proofs.lemmas.List.{append_assoc, drop-drop, drop_at, ext_get_or, get_or-map, get_or-set_other, get_or-set_same, length-map, take_at}
use Rattle.std.proofs.lemmas.List.FromFn.{fill_by_all}
use Rattle.std.proofs.lemmas.Bool.{cases_lt}
use Rattle.sha2.specs.Sha256.{compress, digest_bytes, hash_after, initial_hash_256, padded_message, padding, sha256}
use Rattle.std.specs.List.{range_with_len}
use Rattle.st_lanes.specs.Lanes.{text}
use Rattle.st_lanes.specs.Mac.{hmac_under, with_pad}
use Rattle.st_lanes.specs.Padded.{block_behind, count_behind, digest_behind, padded_behind}
use Rattle.st_lanes.proofs.Ends.{length-padded}

-- a list whose elements are those of another under f
pub mapped : (f : List ℕ → List ℕ) (xs ys : List (List ℕ)) → length ys ≡ length xs
    → ((l : ℕ) → l < length xs → slice_index_or ys l [] ≡ f (slice_index_or xs l [])) → ys ≡ map f xs
mapped f xs ys long each =
    ext_get_or [] ys (map f xs) (omega (arith, length-map xs f)) (λ i few.
    let inside : i < length xs = omega arith in
    each i inside ∙ sym (get_or-map f xs i [] [] inside))

-- text k of several
pub text_at : {X : Type 0} (xs : List X) (f : X → List ℕ) (k : ℕ) (d : X) → k < length xs → text (map f xs) k ≡ f (slice_index_or xs k d)
text_at xs f k d inside = get_or-map f xs k d [] inside

-- what is known of a text under another name
pub block_at : (before i : ℕ) (t u x : List ℕ) → t ≡ u → (i < count_behind before u → x ≡ block_behind before u i) → i < count_behind before t → x ≡ block_behind before t i
block_at before i t u x e known = rw e known

pub count_at : (n r m : ℕ) (t u : List ℕ) → t ≡ u → r ≡ count_behind n u → r ≤ m → count_behind n t ≤ m
count_at n r m t u e er le = rw e (omega arith)

pub ended_at : (n done : ℕ) (t u x digest was old : List ℕ) → t ≡ u → (count_behind n u ≡ done → x ≡ digest) → (¬ (count_behind n u ≡ done) → x ≡ was) → was ≡ old
    → (count_behind n t ≡ done → x ≡ digest) × (¬ (count_behind n t ≡ done) → x ≡ old)
ended_at n done t u x digest was old e ended other same =
    let counts : count_behind n t ≡ count_behind n u = ap (λ (y : List ℕ). count_behind n y) e in
    (λ at. ended (sym counts ∙ at), λ no. other (λ at. no (counts ∙ at)) ∙ same)

-- the words of a hash value, one by one
pub eight_words : (h : List ℕ) → length h ≡ 8 → h ≡ map (λ i. slice_index h i) (range_with_len 0 8)
eight_words h long = fill_by_all (λ i. slice_index h i) h 8 0 long (λ k few. refl)

-- a place that is written, and those before it
pub placed : (P : ℕ → List ℕ → Type 0) (xs : List (List ℕ)) (at k : ℕ) (x : List ℕ) → at < length xs → k < at + 1
    → ((j : ℕ) → j < at → P j (slice_index_or xs j [])) → P at x → P k (slice_index_or (slice_set xs at x) k [])
placed P xs at k x inside lt before here = elim (cases_lt k at) [
  | inl a ↦ rw (get_or-set_other xs at k x [] (omega arith)) (before k a)
  | inr b ↦
      let e : at ≡ k = omega arith in
      rw (← e) (rw (get_or-set_same xs at x [] inside) here)
]

-- a text after no bytes
pub digest_alone : (m : List ℕ) → digest_behind initial_hash_256 0 m ≡ sha256 m
unfolding digest_behind sha256
digest_alone m =
    let none : 0 + length m ≡ length m = omega arith in
    ap (λ (x : ℕ). digest_bytes (hash_after initial_hash_256 (m ++ padding x) (length (m ++ padding x) / 64)) 8) none

-- blocks after one block
hash_behind : (h block p : List ℕ) (n : ℕ) → length block ≡ 64 → hash_after h (block ++ p) (suc n) ≡ hash_after (compress h block) p n
unfolding hash_after
hash_behind h block p zero long = ap (λ (x : List ℕ). compress h x) (take_at block p 64 long)
hash_behind h block p (suc n) long =
    let at : 64 + n * 64 ≡ suc n * 64 = omega arith in
    let rest : drop (suc n * 64) (block ++ p) ≡ drop (n * 64) p =
    sym (ap (λ (x : ℕ). drop x (block ++ p)) at) ∙ sym (drop-drop (n * 64) 64 (block ++ p)) ∙ ap (λ (x : List ℕ). drop (n * 64) x) (drop_at block p 64 long) in
    λ i. compress (hash_behind h block p n long i) (take 64 (rest i))

-- a text after one block is a message
pub digest_behind_block : (block m : List ℕ) → length block ≡ 64 → digest_behind (compress initial_hash_256 block) 64 m ≡ sha256 (block ++ m)
unfolding digest_behind sha256
digest_behind_block block m long =
    let p : List ℕ = padded_behind 64 m in
    let whole : length (block ++ m) ≡ 64 + length m = length-append block m ∙ ap (λ (x : ℕ). x + length m) long in
    let same : padded_message (block ++ m) ≡ block ++ p = append_assoc block m (padding (length (block ++ m))) ∙ ap (λ (x : ℕ). block ++ (m ++ padding x)) whole in
    let count : length (block ++ p) / 64 ≡ suc (length p / 64) = omega (arith, length-append block p) in
    sym (ap (λ (x : List ℕ). digest_bytes (hash_after initial_hash_256 x (length x / 64)) 8) same
    ∙ ap (λ (x : ℕ). digest_bytes (hash_after initial_hash_256 (block ++ p) x) 8) count
    ∙ ap (λ (x : List ℕ). digest_bytes x 8) (hash_behind initial_hash_256 block p (length p / 64) long))

-- one more block of a text: its digest is there once it has no more
pub turned : (start : List ℕ) (before i : ℕ) (t state x was : List ℕ) → count_behind before t ≤ i + 1
    → (count_behind before t ≤ i → was ≡ digest_behind start before t)
    → (i + 1 ≤ count_behind before t → state ≡ hash_after start (padded_behind before t) (i + 1))
    → (count_behind before t ≡ i + 1 → x ≡ digest_bytes state 8) → (¬ (count_behind before t ≡ i + 1) → x ≡ was)
    → x ≡ digest_behind start before t
unfolding digest_behind
turned start before i t state x was le old now ended other = elim (cases_lt (count_behind before t) (i + 1)) [
  | inl a ↦ other (λ e. omega arith) ∙ old (omega arith)
  | inr b ↦
      let e : count_behind before t ≡ i + 1 = omega arith in
      ended e ∙ ap (λ (h : List ℕ). digest_bytes h 8) (now (omega arith) ∙ ap (λ (n : ℕ). hash_after start (padded_behind before t) n) (sym e))
]

-- a digest after one block fills one block
pub one_block : (start d b s : List ℕ) → length d ≡ 32 → b ≡ block_behind 64 d 0 → s ≡ compress start b → digest_bytes s 8 ≡ digest_behind start 64 d
unfolding digest_behind hash_after
one_block start d b s long eb es =
    let count : count_behind 64 d ≡ 1 = omega (arith, length-padded 64 d) in
    ap (λ (h : List ℕ). digest_bytes h 8) (es ∙ ap (λ (x : List ℕ). compress start x) eb)
    ∙ ap (λ (n : ℕ). digest_bytes (hash_after start (padded_behind 64 d) n) 8) (sym count)

-- the two hashes of HMAC
pub inner_hash : (key m inner d : List ℕ) → length key ≡ 64 → inner ≡ compress initial_hash_256 (with_pad 0x36 key) → d ≡ digest_behind inner 64 m
    → d ≡ sha256 (with_pad 0x36 key ++ m)
inner_hash key m inner d long ei ed =
    ed ∙ ap (λ (h : List ℕ). digest_behind h 64 m) ei ∙ digest_behind_block (with_pad 0x36 key) m (length-map key (λ x. bit_xor x 0x36) ∙ long)

pub outer_hash : (key m outer d r : List ℕ) → length key ≡ 64 → outer ≡ compress initial_hash_256 (with_pad 0x5c key)
    → d ≡ sha256 (with_pad 0x36 key ++ m) → r ≡ digest_behind outer 64 d → r ≡ hmac_under key m
unfolding hmac_under
outer_hash key m outer d r long eo ed er =
    er ∙ (λ i. digest_behind (eo i) 64 (ed i))
    ∙ digest_behind_block (with_pad 0x5c key) (sha256 (with_pad 0x36 key ++ m)) (length-map key (λ x. bit_xor x 0x5c) ∙ long)
