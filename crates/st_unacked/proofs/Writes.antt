-- Bytes that are put into blocks.
use Rattle.std.proofs.Common.{◌≡◌, ℕ, zero, suc, ◌+◌, ◌-◌, ◌<◌, ◌≤◌, Bool, true, false, List, [], ◌∷◌, ◌++◌, length, take, drop, replicate, min, set, get_or, refl, ap, ◌∙◌, sym, subst, arith, inl, inr, length-append, append_assoc, append-nil}
use Rattle.std.specs.Prelude.{if◌then◌else◌, not, nat_lt, slice_index}
use Rattle.std.proofs.lemmas.Bool.{cases_lt}
use Rattle.std.proofs.lemmas.List.{get_or_append_left, get_or-append_right, get_or-drop, length-drop, length-take, length-replicate, get_or-take, take_all, drop-drop, take-append-drop}
use Rattle.std.proofs.lemmas.List.Edits.{get_or-between}
use Rattle.std.specs.List.{slice_range}
use Rattle.std.proofs.Math.Seq.{drop-cons}
use Rattle.st_unacked.specs.Chunks.{Block, ends_past, byte_in, covers, Laid, EachHas, room_behind, written, last_written, padded, IsCut, HasBytes}
use Rattle.st_unacked.proofs.Counts.{counted-some}
use Rattle.st_unacked.proofs.Blocks.{test_true, test_false, true_test, laid_from, not_before, before_not}

-- ---- some bytes written over others

pub length-written : (p : ℕ) (xs b : List ℕ) → length xs ≤ length b - p → length (written p xs b) ≡ length b
length-written p xs b l =
    length-append (take p b ++ xs) (drop (p + length xs) b)
    ∙ (let t : length (take p b) ≡ min p (length b) = length-take p b in let d : length (drop (p + length xs) b) ≡ length b - (p + length xs) = length-drop (p + length xs) b in
    let r : length (take p b ++ xs) ≡ length (take p b) + length xs = length-append (take p b) xs in
    let e : length (take p b ++ xs) + length (drop (p + length xs) b) ≡ length b = omega (arith, t, d, r, l) in e)

pub written_before : (p : ℕ) (xs b : List ℕ) (k : ℕ) → k < p → k < length b → slice_index (written p xs b) k ≡ slice_index b k
written_before p xs b k l m =
    let t : length (take p b) ≡ min p (length b) = length-take p b in let r : length (take p b ++ xs) ≡ length (take p b) + length xs = length-append (take p b) xs in
    get_or_append_left (take p b ++ xs) (drop (p + length xs) b) 0 k (omega (arith, t, r, l, m))
    ∙ get_or_append_left (take p b) xs 0 k (omega (arith, t, l, m))
    ∙ get_or-take p b k 0 l

pub written_at : (p : ℕ) (xs b : List ℕ) (k : ℕ) → p ≤ length b → p ≤ k → k < p + length xs → slice_index (written p xs b) k ≡ slice_index xs (k - p)
written_at p xs b k w l m =
    let t : length (take p b) ≡ min p (length b) = length-take p b in let r : length (take p b ++ xs) ≡ length (take p b) + length xs = length-append (take p b) xs in
    get_or_append_left (take p b ++ xs) (drop (p + length xs) b) 0 k (omega (arith, t, r, w, m))
    ∙ get_or-append_right (take p b) xs p k 0 (omega (arith, t, w)) l

pub length-padded : (xs : List ℕ) → length xs ≤ 4096 → length (padded xs) ≡ 4096
length-padded xs l = let z : length {A = ℕ} (replicate 4096 0) ≡ 4096 = length-replicate {A = ℕ} 4096 0 in length-written 0 xs (replicate 4096 0) (omega (arith, z)) ∙ z

pub padded_at : (xs : List ℕ) (k : ℕ) → k < length xs → slice_index (padded xs) k ≡ slice_index xs k
padded_at xs k l = written_at 0 xs (replicate 4096 0) k (let z : length {A = ℕ} (replicate 4096 0) ≡ 4096 = length-replicate {A = ℕ} 4096 0 in omega (arith, z)) (omega arith) (omega (arith, l)) ∙ ap (slice_index xs) (let e : k - 0 ≡ k = omega arith in e)

-- ---- one block in front

pub at_block : (c : Block) (cs : List Block) (q : ℕ) → ends_past q c ≡ true → c.at ≤ q → (covers (c ∷ cs) q ≡ true) × (byte_in (c ∷ cs) q ≡ slice_index c.bytes (q - c.at))
at_block c cs q e l = (ap (λ b. if b then not (nat_lt q c.at) else covers cs q) e ∙ before_not q c.at l, ap (λ b. if b then slice_index c.bytes (q - c.at) else byte_in cs q) e)

pub past_block : (c : Block) (cs : List Block) (q : ℕ) → ends_past q c ≡ false → (covers (c ∷ cs) q ≡ covers cs q) × (byte_in (c ∷ cs) q ≡ byte_in cs q)
past_block c cs q e = (ap (λ b. if b then not (nat_lt q c.at) else covers cs q) e, ap (λ b. if b then slice_index c.bytes (q - c.at) else byte_in cs q) e)

pub block_has : (c : Block) (cs : List Block) (q : ℕ) → ends_past q c ≡ true → covers (c ∷ cs) q ≡ true → c.at ≤ q
block_has c cs q e h = not_before q c.at (sym (ap (λ b. if b then not (nat_lt q c.at) else covers cs q) e) ∙ h)

-- ---- bytes cut into blocks

pub cut_laid : (at end : ℕ) (xs : List ℕ) (ext : List Block) → (0 < length xs → at + length xs ≡ end) → IsCut at xs ext → Laid at end ext
cut_laid at end xs [] e h = tt
cut_laid at end xs (c ∷ cs) e h =
    let all : at + length xs ≡ end = e h.1 in
    let d : length (drop 4096 xs) ≡ length xs - 4096 = length-drop 4096 xs in
    let t : length (take 4096 xs) ≡ min 4096 (length xs) = length-take 4096 xs in (
      omega (arith, h.0),
      omega (arith, h.0, h.1, all),
      ap length h.2 ∙ length-padded (take 4096 xs) (omega (arith, t)),
      subst (λ a. Laid (a + 4096) end cs) (sym h.0) (cut_laid (at + 4096) end (drop 4096 xs) cs (λ s. omega (arith, s, d, all)) h.3),
    )

pub cut_bytes : (at : ℕ) (xs : List ℕ) (ext : List Block) → IsCut at xs ext → (q : ℕ) → at ≤ q → q < at + length xs → (covers ext q ≡ true) × (byte_in ext q ≡ slice_index xs (q - at))
cut_bytes at xs [] h q l m = absurd (let none : length xs ≡ 0 = ap length h in omega (arith, none, l, m))
cut_bytes at xs (c ∷ cs) h q l m = elim (cases_lt (q - at) 4096) [
  | inl k ↦ (let w = at_block c cs q (test_true (q - c.at) 4096 (omega (arith, k, h.0))) (omega (arith, l, h.0)) in
      let t : length (take 4096 xs) ≡ min 4096 (length xs) = length-take 4096 xs in (
        w.0,
        w.1 ∙ ap (λ bs. slice_index bs (q - c.at)) h.2 ∙ ap (λ a. slice_index (padded (take 4096 xs)) (q - a)) h.0
            ∙ padded_at (take 4096 xs) (q - at) (omega (arith, t, k, l, m)) ∙ get_or-take 4096 xs (q - at) 0 k,
      ))
  | inr k ↦ (let w = past_block c cs q (test_false (q - c.at) 4096 (omega (arith, k, h.0))) in
      let d : length (drop 4096 xs) ≡ length xs - 4096 = length-drop 4096 xs in
      let r = cut_bytes (at + 4096) (drop 4096 xs) cs h.3 q (omega (arith, k)) (omega (arith, d, m, k)) in
      (w.0 ∙ r.0, w.1 ∙ r.1 ∙ get_or-drop 4096 xs (q - (at + 4096)) 0 ∙ ap (slice_index xs) (let e : 4096 + (q - (at + 4096)) ≡ q - at = omega (arith, k) in e)))
]

pub cut_held : (passes : ℕ → Bool) (at : ℕ) (xs : List ℕ) (ext : List Block) → IsCut at xs ext → ((q : ℕ) → at ≤ q → q < at + length xs → passes q ≡ true) → EachHas passes ext
cut_held passes at xs [] h all = tt
cut_held passes at xs (c ∷ cs) h all =
    let d : length (drop 4096 xs) ≡ length xs - 4096 = length-drop 4096 xs in (
      counted-some passes c.at 4096 at (omega (arith, h.0)) (omega (arith, h.0)) (all at (omega arith) (omega (arith, h.1))),
      cut_held passes (at + 4096) (drop 4096 xs) cs h.3 (λ q l m. all q (omega (arith, l)) (omega (arith, m, d, l))),
    )

pub cut_none : (at : ℕ) (xs : List ℕ) (ext : List Block) → length xs ≡ 0 → IsCut at xs ext → ext ≡ []
cut_none at xs [] e h = refl
cut_none at xs (c ∷ cs) e h = absurd (omega (arith, e, h.1))

-- ---- the last block with more bytes, and blocks after it

module _ (at end : ℕ) (xs : List ℕ) (ext : List Block) where
  abbrev more_of : List Block → List Block
  more_of old = last_written at xs old ++ ext

  pub more_laid : (from : ℕ) (c : Block) (cs : List Block) → at ≤ end → length xs ≤ room_behind at (c ∷ cs) → Laid (at + room_behind at (c ∷ cs)) end ext → Laid from at (c ∷ cs) → Laid from end (more_of (c ∷ cs))
  more_laid from c [] e r t h =
      (h.0, omega (arith, h.1, e), length-written (at - c.at) xs c.bytes (omega (arith, r, h.2)) ∙ h.2, laid_from (c.at + 4096) (at + (4096 - (at - c.at))) end ext (omega (arith, h.1)) t)
  more_laid from c (d ∷ cs) e r t h = (h.0, omega (arith, h.1, e), h.2, more_laid (c.at + 4096) d cs e r t h.3)

  pub more_before : (from : ℕ) (old : List Block) → Laid from at old → (q : ℕ) → q < at → covers old q ≡ true → (covers (more_of old) q ≡ true) × (byte_in (more_of old) q ≡ byte_in old q)
  more_before from [] h q l m = absurd cc
  more_before from (c ∷ []) h q l m = by_test (ends_past q c) refl
    where
      by_test : (b : Bool) → ends_past q c ≡ b → (covers (more_of (c ∷ [])) q ≡ true) × (byte_in (more_of (c ∷ [])) q ≡ byte_in (c ∷ []) q)
      by_test true e =
          let low : c.at ≤ q = block_has c [] q e m in
          let w = at_block (record { at = c.at; bytes = written (at - c.at) xs c.bytes }) ext q e low in
          let old = at_block c [] q e low in
          (w.0, w.1 ∙ written_before (at - c.at) xs c.bytes (q - c.at) (omega (arith, l, low)) (omega (arith, true_test (q - c.at) 4096 e, h.2)) ∙ sym old.1)
      by_test false e = absurd (let none : covers (c ∷ []) q ≡ false = (past_block c [] q e).0 in cc)
  more_before from (c ∷ d ∷ cs) h q l m = by_test (ends_past q c) refl (more_before (c.at + 4096) (d ∷ cs) h.3 q l)
    where
      by_test : (b : Bool) → ends_past q c ≡ b → (covers (d ∷ cs) q ≡ true → (covers (more_of (d ∷ cs)) q ≡ true) × (byte_in (more_of (d ∷ cs)) q ≡ byte_in (d ∷ cs) q))
          → (covers (more_of (c ∷ d ∷ cs)) q ≡ true) × (byte_in (more_of (c ∷ d ∷ cs)) q ≡ byte_in (c ∷ d ∷ cs) q)
      by_test true e rest =
          let low : c.at ≤ q = block_has c (d ∷ cs) q e m in
          let w = at_block c (more_of (d ∷ cs)) q e low in let old = at_block c (d ∷ cs) q e low in (w.0, w.1 ∙ sym old.1)
      by_test false e rest =
          let w = past_block c (more_of (d ∷ cs)) q e in let old = past_block c (d ∷ cs) q e in
          let r = rest (sym old.0 ∙ m) in (w.0 ∙ r.0, w.1 ∙ r.1 ∙ sym old.1)

  -- what lies in the last block
  pub more_here : (from : ℕ) (old : List Block) → length xs ≤ room_behind at old → Laid from at old → (q : ℕ) → at ≤ q → q < at + length xs → (covers (more_of old) q ≡ true) × (byte_in (more_of old) q ≡ slice_index xs (q - at))
  more_here from [] r h q l m = absurd (omega (arith, r, l, m))
  more_here from (c ∷ []) r h q l m =
      let w = at_block (record { at = c.at; bytes = written (at - c.at) xs c.bytes }) ext q (test_true (q - c.at) 4096 (omega (arith, r, l, m, h.1))) (omega (arith, l, h.1)) in
      (w.0, w.1 ∙ written_at (at - c.at) xs c.bytes (q - c.at) (omega (arith, r, l, m, h.2)) (omega (arith, l)) (omega (arith, l, m, h.1)) ∙ ap (slice_index xs) (let e : q - c.at - (at - c.at) ≡ q - at = omega (arith, l, h.1) in e))
  more_here from (c ∷ d ∷ cs) r h q l m =
      let w = past_block c (more_of (d ∷ cs)) q (test_false (q - c.at) 4096 (omega (arith, l, h.3.0, h.3.1))) in
      let rest = more_here (c.at + 4096) (d ∷ cs) r h.3 q l m in (w.0 ∙ rest.0, w.1 ∙ rest.1)

  -- what lies after it
  pub more_behind : (from : ℕ) (old : List Block) → Laid from at old → (q : ℕ) → at ≤ q → at + room_behind at old ≤ q → (covers (more_of old) q ≡ covers ext q) × (byte_in (more_of old) q ≡ byte_in ext q)
  more_behind from [] h q l m = (refl, refl)
  more_behind from (c ∷ []) h q l m = past_block (record { at = c.at; bytes = written (at - c.at) xs c.bytes }) ext q (test_false (q - c.at) 4096 (omega (arith, l, m, h.1)))
  more_behind from (c ∷ d ∷ cs) h q l m =
      let w = past_block c (more_of (d ∷ cs)) q (test_false (q - c.at) 4096 (omega (arith, l, h.3.0, h.3.1))) in
      let rest = more_behind (c.at + 4096) (d ∷ cs) h.3 q l m in (w.0 ∙ rest.0, w.1 ∙ rest.1)

  pub more_held : (passes : ℕ → Bool) (old : List Block) → EachHas passes old → EachHas passes ext → EachHas passes (more_of old)
  more_held passes [] h e = e
  more_held passes (c ∷ []) h e = (h.0, e)
  more_held passes (c ∷ d ∷ cs) h e = (h.0, more_held passes (d ∷ cs) h.1 e)

-- ---- all of it

pub adds : (at head : ℕ) (more : List ℕ) (old ext new : List Block) → head ≡ min (room_behind at old) (length more) → Laid 0 at old → IsCut (at + head) (drop head more) ext → new ≡ last_written at (take head more) old ++ ext → HasBytes at more old new
adds at head more old ext new first laid cut is = subst (HasBytes at more old) (sym is) (record {
  laid = whole old laid few behind;
  before = λ q l h. more_before at (at + length more) (take head more) ext 0 old laid q l h;
  behind = λ q l m. elim (cases_lt q (at + head)) [
    | inl k ↦ (let w = more_here at (at + length more) (take head more) ext 0 old few laid q l (omega (arith, k, len)) in (w.0, w.1 ∙ get_or-take head more (q - at) 0 (omega (arith, k, l))))
    | inr k ↦ (let w = more_behind at (at + length more) (take head more) ext 0 old laid q l (omega (arith, k, m, first)) in
        let r = cut_bytes (at + head) (drop head more) ext cut q k (omega (arith, k, m, left)) in
        (w.0 ∙ r.0, w.1 ∙ r.1 ∙ get_or-drop head more (q - (at + head)) 0 ∙ ap (slice_index more) (let e : head + (q - (at + head)) ≡ q - at = omega (arith, k) in e)))
  ];
  held = λ passes h all. more_held at (at + length more) (take head more) ext passes old h (cut_held passes (at + head) (drop head more) ext cut (λ q l m. all q (omega (arith, l)) (omega (arith, l, m, left))));
})
  where
    len : length (take head more) ≡ head
    len = length-take head more ∙ (let e : min head (length more) ≡ head = omega (arith, first) in e)

    left : length (drop head more) ≡ length more - head
    left = length-drop head more

    few : length (take head more) ≤ room_behind at old
    few = omega (arith, len, first)

    behind : Laid (at + room_behind at old) (at + length more) ext
    behind = elim (cases_lt head (room_behind at old)) [
      | inl l ↦ subst (Laid (at + room_behind at old) (at + length more)) (sym (cut_none (at + head) (drop head more) ext (omega (arith, l, first, left)) cut)) tt
      | inr l ↦ subst (λ h. Laid (at + h) (at + length more) ext) (let e : head ≡ room_behind at old = omega (arith, l, first) in e) (cut_laid (at + head) (at + length more) (drop head more) ext (λ s. omega (arith, s, left)) cut)
    ]

    whole : (old : List Block) → Laid 0 at old → length (take head more) ≤ room_behind at old → Laid (at + room_behind at old) (at + length more) ext → Laid 0 (at + length more) (last_written at (take head more) old ++ ext)
    whole [] h f b = laid_from 0 (at + 0) (at + length more) ext (omega arith) b
    whole (c ∷ cs) h f b = more_laid at (at + length more) (take head more) ext 0 c cs (omega arith) f b h

-- ---- bytes that are read

-- a part of the block in front
pub part_byte : (c : Block) (cs : List Block) (from to k : ℕ) (xs : List ℕ) → c.at ≤ from → xs ≡ slice_range c.bytes (from - c.at) (min 4096 (to - c.at)) → length xs ≡ min 4096 (to - c.at) - (from - c.at) → k < length xs → slice_index xs k ≡ byte_in (c ∷ cs) (from + k)
part_byte c cs from to k xs l e n m =
    ap (λ ys. slice_index ys k) e ∙ get_or-between c.bytes (from - c.at) (min 4096 (to - c.at)) k 0 (omega (arith, n, m))
    ∙ ap (slice_index c.bytes) (let f : from - c.at + k ≡ from + k - c.at = omega (arith, l) in f)
    ∙ sym (at_block c cs (from + k) (test_true (from + k - c.at) 4096 (omega (arith, n, m, l))) (omega (arith, l))).1

-- ---- bytes that are cut, one block after another

-- a list that is cut short at its end is the list
take_most : (n m : ℕ) (xs : List ℕ) → n ≡ min (length xs) m → take n xs ≡ take m xs
take_most n m xs e = elim (cases_lt m (length xs)) [
  | inl l ↦ ap (λ k. take k xs) (let f : n ≡ m = omega (arith, e, l) in f)
  | inr l ↦ take_all n xs (omega (arith, e, l)) ∙ sym (take_all m xs l)
]

no_block : (at : ℕ) (xs : List ℕ) (tail : List Block) → length xs ≡ 0 → IsCut at xs tail → (b : ℕ) (ys : List ℕ) → length ys ≡ 0 → IsCut b ys tail
no_block at xs [] e h b [] f = refl
no_block at xs [] e h b (y ∷ ys) f = absurd (omega (arith, f))
no_block at xs (c ∷ cs) e h b ys f = absurd (omega (arith, e, h.1))

pub cut_more : (at done next : ℕ) (bytes piece : List ℕ) (all new : List Block) (c : Block) → done < length bytes → next ≡ done + min (length bytes - done) 4096 → piece ≡ slice_range bytes done next → c ≡ record { at = at + done; bytes = padded piece } → new ≡ all ++ c ∷ []
    → ((tail : List Block) → IsCut (at + done) (drop done bytes) tail → IsCut at bytes (all ++ tail)) → (tail : List Block) → IsCut (at + next) (drop next bytes) tail → IsCut at bytes (new ++ tail)
cut_more at done next bytes piece all new c some step cut is added goes tail h =
    subst (IsCut at bytes) (sym (ap (λ cs. cs ++ tail) added ∙ append_assoc all (c ∷ []) tail)) (goes (c ∷ tail)
    (ap (λ (x : Block). x.at) is, omega (arith, d, some), ap (λ (x : Block). x.bytes) is ∙ ap padded (cut ∙ same), rest))
  where
    d : length (drop done bytes) ≡ length bytes - done
    d = length-drop done bytes

    same : slice_range bytes done next ≡ take 4096 (drop done bytes)
    same = ap (λ n. take n (drop done bytes)) (let e : next - done ≡ min (length bytes - done) 4096 = omega (arith, step) in e) ∙ take_most (min (length bytes - done) 4096) 4096 (drop done bytes) (ap (λ n. min n 4096) (sym d))

    rest : IsCut (at + done + 4096) (drop 4096 (drop done bytes)) tail
    rest = elim (cases_lt (length bytes - done) 4096) [
      | inl l ↦ no_block (at + next) (drop next bytes) tail (let e : length (drop next bytes) ≡ length bytes - next = length-drop next bytes in omega (arith, e, step, l)) h (at + done + 4096) (drop 4096 (drop done bytes))
          (let e : length (drop 4096 (drop done bytes)) ≡ length (drop done bytes) - 4096 = length-drop 4096 (drop done bytes) in omega (arith, e, d, l))
      | inr l ↦ (let n : next ≡ done + 4096 = omega (arith, step, l) in
          subst (λ ys. IsCut (at + done + 4096) ys tail) (sym (drop-drop 4096 done bytes)) (subst (λ m. IsCut m (drop (done + 4096) bytes) tail) (let e : at + (done + 4096) ≡ at + done + 4096 = omega arith in e) (subst (λ m. IsCut (at + m) (drop m bytes) tail) n h)))
    ]

-- ---- the last block, by its place

none_more : (cs : List Block) → length cs ≤ 0 → cs ≡ []
none_more [] l = refl
none_more (c ∷ cs) l = absurd (omega arith)

pub room_last : (at : ℕ) (cs : List Block) (n : ℕ) (x : Block) → length cs ≡ suc n → x ≡ get_or cs n x → 4096 - (at - x.at) ≡ room_behind at cs
room_last at [] n x l e = absurd cc
room_last at (c ∷ []) zero x l e = ap (λ (y : Block). 4096 - (at - y.at)) e
room_last at (c ∷ []) (suc n) x l e = absurd (omega arith)
room_last at (c ∷ d ∷ cs) zero x l e = absurd (omega arith)
room_last at (c ∷ d ∷ cs) (suc n) x l e = room_last at (d ∷ cs) n x (omega arith) e

pub set_last : (at : ℕ) (xs : List ℕ) (cs : List Block) (n : ℕ) (x y : Block) → length cs ≡ suc n → x ≡ get_or cs n x → y ≡ record { at = x.at; bytes = written (at - x.at) xs x.bytes } → set cs n y ≡ last_written at xs cs
set_last at xs [] n x y l e f = absurd cc
set_last at xs (c ∷ []) zero x y l e f = ap (λ z. z ∷ []) (f ∙ ap (λ (z : Block). record { at = z.at; bytes = written (at - z.at) xs z.bytes }) e)
set_last at xs (c ∷ []) (suc n) x y l e f = absurd (omega arith)
set_last at xs (c ∷ d ∷ cs) zero x y l e f = absurd (omega arith)
set_last at xs (c ∷ d ∷ cs) (suc n) x y l e f = ap (λ zs. c ∷ zs) (set_last at xs (d ∷ cs) n x y (omega arith) e f)

written_none : (p : ℕ) (b : List ℕ) → b ≡ written p [] b
written_none p b =
    sym (take-append-drop p b) ∙ ap (λ ys. ys ++ drop p b) (sym (append-nil (take p b)))
    ∙ ap (λ k. take p b ++ [] ++ drop k b) (let e : p ≡ p + 0 = omega arith in e)

pub last_none : (at : ℕ) (xs : List ℕ) (cs : List Block) → length xs ≡ 0 → cs ≡ last_written at xs cs
last_none at (x ∷ xs) cs l = absurd (omega arith)
last_none at [] [] l = refl
last_none at [] (c ∷ []) l = λ i. record { at = c.at; bytes = written_none (at - c.at) c.bytes i } ∷ []
last_none at [] (c ∷ d ∷ cs) l = ap (λ zs. c ∷ zs) (last_none at [] (d ∷ cs) l)

-- the blocks from a place on are the block at that place, and then those from the next place on
pub in_front : (items ds : List Block) → ds ≡ items → (i : ℕ) (x : Block) → i < length ds → x ≡ get_or ds i x → drop i items ≡ x ∷ drop (suc i) items
in_front items ds same i x l at = ap (drop i) (sym same) ∙ drop-cons ds i x l ∙ ap (λ y. y ∷ drop (suc i) ds) (sym at) ∙ ap (λ ys. x ∷ drop (suc i) ys) same
