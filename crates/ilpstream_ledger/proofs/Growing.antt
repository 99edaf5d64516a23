-- Books to which names are added, and the places of names in them.
use Rattle.std.proofs.Common.{◌≡◌, ℕ, zero, suc, ◌-◌, ◌++◌, List, [], ◌∷◌, length, map, replicate, slice_get, Some, Option, refl, sym, ap, subst, ◌∙◌, append_assoc, Result, Ok, Err, IfErr, IsErrAnd, OnOk, OnErr, inl, inr}
use Rattle.std.proofs.lemmas.List.{append-nil, length-append, map-append, replicate-append-replicate}
use Rattle.std.proofs.lemmas.Option.{none-some}
use Rattle.sqlite_trees.specs.declared.store.Store.{Ghosts}
use Rattle.st_hop_books.specs.declared.balance.Amounts.{Amounts}
use Rattle.st_hop_books.specs.declared.error.BooksError.{BooksError}
use Rattle.st_hop_books.specs.Sums.{nothing}
use Rattle.st_hop_books.specs.Standing.{Kept, Tells, sums_of}
use Rattle.st_hop_books.specs.Commits.{Makes, Refuses, after_name}
use Rattle.ilpstream_ledger.specs.declared.error.LedgerError.{LedgerError}
use Rattle.ilpstream_ledger.specs.Names.{Names}
use Rattle.ilpstream_ledger.specs.Placed.{ArePlaces}
use Rattle.ilpstream_ledger.specs.Placing.{Grows, IsByTable, IsLate}

pub grows_same : {S : Type 0} (g : Ghosts S) (old new : Kept S) → Tells new (sums_of g old) → Grows old new
grows_same g old new same = record { more = []; names = same.1 ∙ sym (append-nil old.names); amounts = same.2 ∙ sym (append-nil old.amounts) }

pub grows_by_name : {S : Type 0} (g : Ghosts S) (old new : Kept S) (name : List ℕ) → Tells new (after_name g old name) → Grows old new
grows_by_name g old new name made = record { more = name ∷ []; names = made.1; amounts = made.2 }

pub grows_then : {S : Type 0} (a b c : Kept S) → Grows a b → Grows b c → Grows a c
grows_then a b c p q = record {
  more = p.more ++ q.more;
  names = q.names ∙ ap (λ (l : Names). l ++ q.more) p.names ∙ append_assoc a.names p.more q.more;
  amounts =
      let tail : replicate (length p.more) nothing ++ replicate (length q.more) nothing ≡ replicate (length (p.more ++ q.more)) nothing =
      replicate-append-replicate (length p.more) (length q.more) nothing ∙ ap (λ (n : ℕ). replicate n nothing) (sym (length-append p.more q.more)) in
      q.amounts ∙ ap (λ (l : List Amounts). l ++ replicate (length q.more) nothing) p.amounts ∙ append_assoc a.amounts (replicate (length p.more) nothing) (replicate (length q.more) nothing)
      ∙ ap (λ (l : List Amounts). a.amounts ++ l) tail;
}

module _ {S T : Type 0} (g : Ghosts S) (old new : Kept S) (name : List ℕ) where
  -- a name was added, or nothing was changed
  pub added_grows : (r : Result T BooksError) → OnOk r (Makes g old (after_name g old name) new) → OnErr r (Refuses g old (after_name g old name) new) → Grows old new
  added_grows (Ok x) makes refuses = grows_by_name g old new name makes.made
  added_grows (Err e) makes refuses = grows_same g old new refuses.same

  pub added_starts : (r : Result T BooksError) → OnOk r (Makes g old (after_name g old name) new) → OnErr r (Refuses g old (after_name g old name) new) → new.starts ≡ old.starts
  added_starts (Ok x) makes refuses = makes.made.0
  added_starts (Err e) makes refuses = refuses.same.0

-- the last of a list
pub last_of : {X : Type 0} (xs : List X) (x : X) → slice_get (xs ++ x ∷ []) (length xs) ≡ Some x
last_of [] x = refl
last_of (y ∷ xs) x = last_of xs x

-- what is at a place stays there
still_here : {X : Type 0} (xs more : List X) (i : ℕ) (x : X) → slice_get xs i ≡ Some x → slice_get (xs ++ more) i ≡ Some x
still_here [] more i x here = absurd (none-some x here)
still_here (y ∷ xs) more zero x here = here
still_here (y ∷ xs) more (suc i) x here = still_here xs more i x here

still_all : (names more table : Names) (places : List ℕ) → ArePlaces names table places → ArePlaces (names ++ more) table places
still_all names more [] [] are = refl
still_all names more (n ∷ table) [] are = absurd (cc)
still_all names more [] (p ∷ places) are = absurd (cc)
still_all names more (n ∷ table) (p ∷ places) are =
    let here : slice_get names p ≡ Some n = cc in
    let rest : ArePlaces names table places = cc in
    let first = still_here names more p n here in
    let others = still_all names more table places rest in
    ap (λ (o : Option (List ℕ)). o ∷ map (slice_get (names ++ more)) places) first ∙ ap (λ (l : List (Option (List ℕ))). Some n ∷ l) others

-- the places of a table's names, and of one more, for which the books grew
pub one_placed : {S : Type 0} (a b : Kept S) (table : Names) (name : List ℕ) (places : List ℕ) (at : ℕ) → ArePlaces a.names table places → Grows a b → slice_get b.names at ≡ Some name
    → ArePlaces b.names (table ++ name ∷ []) (places ++ at ∷ [])
one_placed a b table name places at are grown here =
    let before : ArePlaces b.names table places = subst (λ (l : Names). ArePlaces l table places) (sym grown.names) (still_all a.names grown.more table places are) in
    map-append (slice_get b.names) places (at ∷ []) ∙ ap (λ (l : List (Option (List ℕ))). l ++ slice_get b.names at ∷ []) before
    ∙ ap (λ (o : Option (List ℕ)). map Some table ++ o ∷ []) here ∙ sym (map-append Some table (name ∷ []))

-- ---- why a step was refused

-- ---- what is refused before anything is written

not_by_table : (e : LedgerError) → IsLate e → ¬ (IsByTable e)
not_by_table e late (inl is) = subst IsLate is late
not_by_table e late (inr is) = subst IsLate is late

pub late_untouched : {T : Type 0} (P : Type 0) (r : Result T LedgerError) (e : LedgerError) → IsErrAnd r (λ d. d ≡ e) → IsLate e → IfErr r (λ d. IsByTable d → P)
late_untouched P (Ok x) e is late = tt
late_untouched P (Err d) e is late = λ by. absurd (not_by_table e late (subst IsByTable is by))
