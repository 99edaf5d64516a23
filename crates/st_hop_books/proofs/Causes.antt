-- Why a call of several steps refuses.
use Rattle.std.proofs.Common.{Result, Ok, Err, IfErr, IsErrAnd, IsOk, OnOk, ◌≡◌, ◌⊎◌, inl, inr, ℕ, zero, suc, ◌+◌, ◌^◌, ◌<◌, ◌≤◌, List, [], ◌∷◌, length, take, get_or, slice_get, Some, IsTrue, refl, sym, ap, subst, ◌∙◌, arith}
use Rattle.std.proofs.lemmas.Option.{same_Some}
use Rattle.sqlite_disk.specs.Disk.{MoreFaults}
use Rattle.sqlite_value.specs.Order.{Row}
use Rattle.sqlite_trees.specs.View.{View, HasCause, IsStorableRow}
use Rattle.sqlite_trees.specs.declared.error.StoreError.{StoreError}
use Rattle.sqlite_trees.specs.declared.error.StoreError.TheVariants as stored
use Rattle.st_hop_books.specs.declared.error.BooksError.{BooksError}
use Rattle.st_hop_books.specs.declared.error.BooksError.TheVariants.{NoBooks, Taken, Device, Full, Damaged, Shut, NoAccount, TooMuch, NameTaken, BadName, NoMemory, TooLittle}
use Rattle.st_hop_books.specs.Errors.{told}
use Rattle.st_links.specs.declared.booking.Booking.{Booking}
use Rattle.st_hop_books.specs.declared.balance.Amounts.{Amounts}
use Rattle.st_hop_books.specs.Sums.{booked, IsOfNoAccount, Overflows}
use Rattle.st_hop_books.specs.declared.balance.Payment.{Payment}
use Rattle.st_links.specs.declared.booking.Proof.{Proof}
use Rattle.st_hop_books.specs.Fulfillments.{proof_line, proof_row, proof_tree}
use Rattle.st_hop_books.specs.Payments.{payment_line, name_at, IsUncountable}
use Rattle.st_hop_books.specs.Table.{line, payment_tree}
use Rattle.st_hop_books.specs.Reasons.{Excuses, excuses, Because, HasBadName, HasBadProof, no_excuse}
use Rattle.st_hop_books.specs.Commits.{booking_excuses, payment_excuses}
use Rattle.st_hop_books.proofs.Steps.{at_ok}

pub fault_since : (a b c : ℕ) → a ≤ b → MoreFaults b c → MoreFaults a c
fault_since a b c early fault = omega arith

pub fault_until : (a b c : ℕ) → b ≤ c → MoreFaults a b → MoreFaults a c
fault_until a b c late fault = omega arith

-- a refusal of the store
pub because_stored : (old : View) (fault odd : Type 0) (x : Excuses) (e : StoreError) → (odd → x.bad_name) → HasCause old fault odd e → Because old fault x (told e)
because_stored old fault odd x stored.OutOfMemory bad h = tt
because_stored old fault odd x stored.Io bad h = h
because_stored old fault odd x stored.Corrupt bad h = h
because_stored old fault odd x stored.Full bad h = h
because_stored old fault odd x stored.Broken bad h = h
because_stored old fault odd x stored.Unstorable bad h = bad h

pub record Widens (x y : Excuses) : Type 0 where
  pub no_account : x.no_account → y.no_account
  pub too_much : x.too_much → y.too_much
  pub too_little : x.too_little → y.too_little
  pub taken : x.taken → y.taken
  pub bad_name : x.bad_name → y.bad_name

-- a refusal of a later step
pub because_later : (old mid : View) (fault since : Type 0) (x y : Excuses) (e : BooksError) → (IsTrue mid.is_broken → IsTrue old.is_broken) → (fault → since) → Widens x y → Because mid fault x e → Because old since y e
because_later old mid fault since x y NoMemory broken wide w h = tt
because_later old mid fault since x y Device broken wide w h = wide h
because_later old mid fault since x y Full broken wide w h = wide h
because_later old mid fault since x y Damaged broken wide w h = wide h
because_later old mid fault since x y Shut broken wide w h = broken h
because_later old mid fault since x y NoAccount broken wide w h = w.no_account h
because_later old mid fault since x y TooMuch broken wide w h = w.too_much h
because_later old mid fault since x y TooLittle broken wide w h = w.too_little h
because_later old mid fault since x y NameTaken broken wide w h = w.taken h
because_later old mid fault since x y BadName broken wide w h = w.bad_name h
because_later old mid fault since x y NoBooks broken wide w h = h
because_later old mid fault since x y Taken broken wide w h = h

pub same_excuses : (x : Excuses) → Widens x x
same_excuses x = record { no_account = λ h. h; too_much = λ h. h; too_little = λ h. h; taken = λ h. h; bad_name = λ h. h }

-- a refusal that was passed on
pub err_told : {T E : Type 0} (P : E → Type 0) (r : Result T E) (e : E) → IsErrAnd r (λ d. d ≡ e) → P e → IfErr r P
err_told P (Ok x) e is h = tt
err_told P (Err d) e is h = subst P (sym is) h

pub err_then : {T E : Type 0} (r : Result T E) (P Q : E → Type 0) → ((e : E) → P e → Q e) → IfErr r P → IfErr r Q
err_then (Ok x) P Q more h = tt
err_then (Err e) P Q more h = more e h

pub get_at : {X : Type 0} (xs : List X) (i : ℕ) (d : X) → i < length xs → slice_get xs i ≡ Some (get_or xs i d)
get_at [] i d low = absurd (omega arith)
get_at (x ∷ xs) zero d low = refl
get_at (x ∷ xs) (suc i) d low = get_at xs i d (omega arith)

-- the name of an account that is there
pub name_here : (names : List (List ℕ)) (at : ℕ) (name : List ℕ) → at < length names → name ≡ get_or names at name → name_at names at ≡ name
name_here names at name low is = same_Some _ _ (sym (get_at names at [] low) ∙ get_at names at name low) ∙ sym is

-- the line of a payment was refused
pub because_unpaid : (was mid : View) (a b c : ℕ) (names : List (List ℕ)) (all : List Amounts) (p : Payment) (text : List ℕ) (id moment : ℕ) (name : List ℕ) (e : BooksError) → a ≤ b → mid.is_broken ≡ was.is_broken → mid.reals ≡ was.reals
    → name_at names p.account ≡ name
    → Because mid (MoreFaults b c) (excuses ⊥ (IsUncountable p) ⊥ (¬ IsStorableRow (mid.reals payment_tree) (payment_line id name text p.amount moment))) e → Because was (MoreFaults a c) (payment_excuses was names all p text) e
because_unpaid was mid a b c names all p text id moment name e early sound reals is h =
    because_later was mid (MoreFaults b c) (MoreFaults a c) (excuses ⊥ (IsUncountable p) ⊥ (¬ IsStorableRow (mid.reals payment_tree) (payment_line id name text p.amount moment))) (payment_excuses was names all p text) e
    (λ broken. sym sound ∙ broken) (fault_since a b c early) (record {
      no_account = λ x. absurd x;
      too_much = λ x. inr x;
      too_little = λ x. absurd x;
      taken = λ x. absurd x;
      bad_name = λ bad. inr (
        id,
        moment,
        subst (λ n. ¬ IsStorableRow (was.reals payment_tree) (payment_line id n text p.amount moment)) (sym is)
            (subst (λ r. ¬ IsStorableRow (r payment_tree) (payment_line id name text p.amount moment)) reals bad),
      );
    }) h

-- the columns of the table are the same
pub bad_name_since : (old new : View) (names : List (List ℕ)) → new.reals ≡ old.reals → HasBadName new names → HasBadName old names
bad_name_since old new names same bad = (bad.0, bad.1, bad.2, bad.3, subst (λ reals. ¬ IsStorableRow (reals 0) (line (bad.0 + 1) bad.1 bad.2)) same bad.4)

-- SQLite refused the line of a name
pub bad_line : (old : View) (names : List (List ℕ)) (at : ℕ) (name : List ℕ) (a : Amounts) (row : Row) → at < length names → name ≡ get_or names at name → row ≡ line (at + 1) name a
    → ¬ IsStorableRow (old.reals 0) row → HasBadName old names
bad_line old names at name a row low is written bad =
    (at, name, a, get_at names at name low ∙ ap Some (sym is), subst (λ r. ¬ IsStorableRow (old.reals 0) r) written bad)

pub bad_proof_since : (old new : View) (names : List (List ℕ)) (b : Booking) → new.reals ≡ old.reals → HasBadProof new names b → HasBadProof old names b
bad_proof_since old new names b same bad = (bad.0, bad.1, bad.2, subst (λ reals. ¬ IsStorableRow (reals proof_tree) (proof_row bad.0 names b bad.1)) same bad.3)

-- the proof of a booking's claim was refused, after the lines of its accounts were written
pub because_unfiled : (was mid : View) (a b c : ℕ) (names : List (List ℕ)) (draft : List Amounts) (booking : Booking) (p : Proof) (id : ℕ) (name : List ℕ) (e : BooksError) → a ≤ b → mid.is_broken ≡ was.is_broken → mid.reals ≡ was.reals
    → booking.proof ≡ Some p → name_at names booking.payer ≡ name → (2 ^ 63 ≤ booking.claim → Overflows draft booking)
    → Because mid (MoreFaults b c) (excuses ⊥ (2 ^ 63 ≤ booking.claim) ⊥ (¬ IsStorableRow (mid.reals proof_tree) (proof_line id name p.condition p.fulfillment booking.claim p.moment))) e
    → Because was (MoreFaults a c) (excuses (IsOfNoAccount draft booking) (Overflows draft booking) ⊥ (HasBadName was names ⊎ HasBadProof was names booking)) e
because_unfiled was mid a b c names draft booking p id name e early sound reals proven is above h =
    because_later was mid (MoreFaults b c) (MoreFaults a c) (excuses ⊥ (2 ^ 63 ≤ booking.claim) ⊥ (¬ IsStorableRow (mid.reals proof_tree) (proof_line id name p.condition p.fulfillment booking.claim p.moment)))
    (excuses (IsOfNoAccount draft booking) (Overflows draft booking) ⊥ (HasBadName was names ⊎ HasBadProof was names booking)) e (λ broken. sym sound ∙ broken) (fault_since a b c early) (record {
      no_account = λ x. absurd x;
      too_much = above;
      too_little = λ x. absurd x;
      taken = λ x. absurd x;
      bad_name = λ bad. inr (
        id,
        p,
        proven,
        subst (λ n. ¬ IsStorableRow (was.reals proof_tree) (proof_line id n p.condition p.fulfillment booking.claim p.moment)) (sym is)
            (subst (λ r. ¬ IsStorableRow (r proof_tree) (proof_line id name p.condition p.fulfillment booking.claim p.moment)) reals bad),
      );
    }) h

-- a booking was refused after those before it
pub because_entered : (was mid : View) (a b c : ℕ) (names : List (List ℕ)) (all draft : List Amounts) (bookings : List Booking) (i : ℕ) (booking : Booking) (e : BooksError) → a ≤ b → mid.is_broken ≡ was.is_broken
    → mid.reals ≡ was.reals → draft ≡ booked all (take i bookings) → slice_get bookings i ≡ Some booking
    → Because mid (MoreFaults b c) (excuses (IsOfNoAccount draft booking) (Overflows draft booking) ⊥ (HasBadName mid names ⊎ HasBadProof mid names booking)) e → Because was (MoreFaults a c) (booking_excuses was names all bookings) e
because_entered was mid a b c names all draft bookings i booking e early sound reals is here h =
    because_later was mid (MoreFaults b c) (MoreFaults a c) (excuses (IsOfNoAccount draft booking) (Overflows draft booking) ⊥ (HasBadName mid names ⊎ HasBadProof mid names booking)) (booking_excuses was names all bookings) e
    (λ broken. sym sound ∙ broken) (fault_since a b c early) (record {
      no_account = λ x. (i, booking, here, subst (λ d. IsOfNoAccount d booking) is x);
      too_much = λ x. (i, booking, here, subst (λ d. Overflows d booking) is x);
      too_little = λ x. x;
      taken = λ x. x;
      bad_name = λ bad. elim bad [
        | inl name ↦ inl (bad_name_since was mid names reals name)
        | inr proof ↦ inr (i, booking, here, bad_proof_since was mid names booking reals proof)
      ];
    }) h

pub none_excused : (x : Excuses) → Widens no_excuse x
none_excused x = record { no_account = λ h. absurd h; too_much = λ h. absurd h; too_little = λ h. absurd h; taken = λ h. absurd h; bad_name = λ h. absurd h }

-- the end of a transaction passes on why the entering was refused, or why the commit was
pub because_ended : {T : Type 0} (was mid : View) (a b c : ℕ) (x y : Excuses) (entered : Result T BooksError) (r : Result T BooksError) → a ≤ b → b ≤ c → Widens x y → OnOk entered (mid.is_broken ≡ was.is_broken)
    → IfErr entered (Because was (MoreFaults a b) x) → IfErr r (λ e. (entered ≡ Err e) ⊎ (IsOk entered × Because mid (MoreFaults b c) no_excuse e)) → IfErr r (Because was (MoreFaults a c) y)
because_ended was mid a b c x y entered (Ok t) ab bc w same first h = tt
because_ended was mid a b c x y entered (Err e) ab bc w same first (inl is) =
    because_later was was (MoreFaults a b) (MoreFaults a c) x y e (λ h. h) (fault_until a b c bc) w (subst (λ r. IfErr r (Because was (MoreFaults a b) x)) is first)
because_ended was mid a b c x y entered (Err e) ab bc w same first (inr (ok, h)) =
    because_later was mid (MoreFaults b c) (MoreFaults a c) no_excuse y e (λ broken. sym (at_ok entered ok same) ∙ broken) (fault_since a b c ab) (none_excused y) h
