-- Drafts laid over the current inboxes.
use Rattle.std.proofs.Common.{◌≡◌, ◌<◌, ◌≤◌, ℕ, zero, suc, ◌+◌, List, [], ◌∷◌, length, replicate, get_or, set, Option, Some, None, inl, inr, refl, sym, ap, ◌∙◌, arith}
use Rattle.std.specs.Prelude.{true, Result, Ok, Err, ◌-◌}
use Rattle.std.specs.Option.{option_or, unwrap_or}
use Rattle.std.proofs.lemmas.List.{set-set, get_or-replicate, length-replicate, get_or-set_same, get_or-set_other}
use Rattle.std.proofs.lemmas.Bool.{cases_lt}
use Rattle.st_reassembly.specs.Held.{Held, nothing_held}
use Rattle.st_reassembly.specs.Inserting.{inserted}
use Rattle.st_reassembly.specs.declared.error.InboxError.{InboxError}
use Rattle.ilpstream_frames.specs.Inboxes.{Inboxes, opening, is_stream, after_piece, with_answer}
use Rattle.ilpstream_frames.specs.declared.error.LineError.TheVariants.{Inbox}
use Rattle.ilpstream_frames.specs.Drafts.{over}

pub get-over : (ds ss : Inboxes) (i : ℕ) → length ds ≡ length ss → get_or (over ds ss) i None ≡ option_or (get_or ds i None) (get_or ss i None)
get-over [] [] i h = refl
get-over [] (s ∷ ss) i h = absurd (omega arith)
get-over (d ∷ ds) [] i h = absurd (omega arith)
get-over (d ∷ ds) (s ∷ ss) zero h = refl
get-over (d ∷ ds) (s ∷ ss) (suc i) h = get-over ds ss i (omega arith)

-- a draft takes the place of the inbox below it
pub over-set : (ds ss : Inboxes) (i : ℕ) (x : Held) → length ds ≡ length ss → over (set ds i (Some x)) ss ≡ set (over ds ss) i (Some x)
over-set [] [] i x h = refl
over-set [] (s ∷ ss) i x h = absurd (omega arith)
over-set (d ∷ ds) [] i x h = absurd (omega arith)
over-set (d ∷ ds) (s ∷ ss) zero x h = refl
over-set (d ∷ ds) (s ∷ ss) (suc i) x h = ap (λ (l : Inboxes). option_or d s ∷ l) (over-set ds ss i x (omega arith))

-- moving a draft to its place leaves the whole as it was
pub over-adopt : (ds ss : Inboxes) (i : ℕ) (draft : Option Held) → length ds ≡ length ss → i < length ds → draft ≡ get_or ds i draft
    → over (set ds i None) (set ss i (option_or draft (get_or ss i None))) ≡ over ds ss
over-adopt [] ss i draft h lt e = absurd (omega arith)
over-adopt (d ∷ ds) [] i draft h lt e = absurd (omega arith)
over-adopt (d ∷ ds) (s ∷ ss) zero draft h lt e = ap (λ (o : Option Held). option_or o s ∷ over ds ss) e
over-adopt (d ∷ ds) (s ∷ ss) (suc i) draft h lt e = ap (λ (l : Inboxes). option_or d s ∷ l) (over-adopt ds ss i draft (omega arith) (omega arith) e)

-- without a draft there are the current inboxes
pub over-none : (ds ss : Inboxes) → length ds ≡ length ss → ((k : ℕ) → k < length ds → get_or ds k None ≡ None) → over ds ss ≡ ss
over-none [] [] h none = refl
over-none [] (s ∷ ss) h none = absurd (omega arith)
over-none (d ∷ ds) [] h none = absurd (omega arith)
over-none (d ∷ ds) (s ∷ ss) h none =
    let first : d ≡ None = none 0 (omega arith) in
    rw first (ap (λ (l : Inboxes). s ∷ l) (over-none ds ss (omega arith) (λ k lt. none (suc k) (omega arith))))

pub over-opening : (ss : Inboxes) → length ss ≡ 64 → over opening ss ≡ ss
over-opening ss h =
    let n : length opening ≡ 64 = length-replicate {A = Option Held} 64 None in
    over-none opening ss (n ∙ sym h) (λ k lt. get_or-replicate {A = Option Held} 64 k None None (omega (arith, n)))

-- what a draft's inbox answers to a chunk
answered : (ds ss : Inboxes) (stream place offset : ℕ) (bytes : List ℕ) (held : Held) (answer : Result Held InboxError) → length ds ≡ 64 → length ss ≡ 64
    → is_stream stream ≡ true → place ≡ stream - 1 → held ≡ unwrap_or (option_or (get_or ds place None) (get_or ss place None)) nothing_held
    → inserted offset bytes held ≡ answer → after_piece (over ds ss) stream offset bytes ≡ with_answer (over ds ss) stream answer
answered ds ss stream place offset bytes held answer dn sn known at is e =
    let there : get_or (over ds ss) place None ≡ option_or (get_or ds place None) (get_or ss place None) = get-over ds ss place (dn ∙ sym sn) in
    rw (known, ← at, there, ← is, e) refl

pub piece_put : (ds ss : Inboxes) (stream place offset : ℕ) (bytes : List ℕ) (held next : Held) → length ds ≡ 64 → length ss ≡ 64
    → is_stream stream ≡ true → place ≡ stream - 1 → held ≡ unwrap_or (option_or (get_or ds place None) (get_or ss place None)) nothing_held
    → inserted offset bytes held ≡ Ok next → after_piece (over ds ss) stream offset bytes ≡ Ok (over (set (set ds place None) place (Some next)) ss)
piece_put ds ss stream place offset bytes held next dn sn known at is e =
    answered ds ss stream place offset bytes held (Ok next) dn sn known at is e
    ∙ rw (set-set ds place None (Some next), over-set ds ss place next (dn ∙ sym sn), at) refl

pub piece_refused : (ds ss : Inboxes) (stream place offset : ℕ) (bytes : List ℕ) (held : Held) (error : InboxError) → length ds ≡ 64 → length ss ≡ 64
    → is_stream stream ≡ true → place ≡ stream - 1 → held ≡ unwrap_or (option_or (get_or ds place None) (get_or ss place None)) nothing_held
    → inserted offset bytes held ≡ Err error → after_piece (over ds ss) stream offset bytes ≡ Err (Inbox error)
piece_refused ds ss stream place offset bytes held error dn sn known at is e = answered ds ss stream place offset bytes held (Err error) dn sn known at is e

-- the last draft moved
pub over-moved : (n : ℕ) (ds ss : Inboxes) → length ds ≡ 64 → length ss ≡ 64 → n ≡ 64 → ((k : ℕ) → k < n → get_or ds k None ≡ None) → over ds ss ≡ ss
over-moved n ds ss dn sn e moved = over-none ds ss (dn ∙ sym sn) (λ k lt. moved k (omega arith))

-- one more draft moved
pub moved_more : (ds : Inboxes) (i : ℕ) → i < length ds → ((k : ℕ) → k < i → get_or ds k None ≡ None) → (k : ℕ) → k < i + 1 → get_or (set ds i None) k None ≡ None
moved_more ds i lt moved k h = elim (cases_lt k i) [
  | inl below ↦ get_or-set_other ds i k None None (λ e. absurd (omega arith)) ∙ moved k below
  | inr top ↦
      let e : k ≡ i = omega arith in
      rw e (get_or-set_same ds i None None lt)
]

-- with fresh drafts there are the current inboxes
pub over-fresh : (ds xs ss : Inboxes) → ds ≡ opening → xs ≡ ss → length xs ≡ 64 → over ds ss ≡ ss
over-fresh ds xs ss fresh same n = rw (fresh, ← same) (over-opening xs n)

pub length-opening : length opening ≡ 64
length-opening = length-replicate {A = Option Held} 64 None

-- if no stream up to n was named, and n is 64, none was
pub counted_none : (xs : Inboxes) (n : ℕ) → 64 ≤ n → n ≤ 64 → xs ≡ replicate n None → xs ≡ opening
counted_none xs n l m e = e ∙ ap (λ k. replicate {A = Option Held} k None) (let all : n ≡ 64 = omega arith in all)
