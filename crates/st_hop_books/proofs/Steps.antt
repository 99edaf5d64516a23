-- Steps of a store one after another.
use Rattle.std.proofs.Common.{Result, Ok, Err, IfOk, OnOk, OnErr, IsOk, ◌≡◌, ◌≢◌, ◌⊎◌, inl, inr, ℕ, ◌+◌, true, false, List, length, length-append, max, ◌++◌, ◌∷◌, IsTrue, [], if◌then◌else◌, refl, sym, ap, subst, ◌∙◌, arith, ne_eqb, eq-eqb}
use Rattle.std.proofs.lemmas.Bool.{cases_Bool}
use Rattle.sqlite_trees.specs.Tree.{Trees, with_tree, put_row}
use Rattle.sqlite_trees.specs.Objects.{catalog_tree, version_tree, version_rows}
use Rattle.sqlite_trees.specs.Sound.{is_sound_list}
use Rattle.sqlite_value.specs.Order.{Row}
use Rattle.sqlite_trees.specs.declared.store.Shape.{Shape}
use Rattle.sqlite_trees.specs.declared.store.Shape.TheVariants.{Table, Absent}
use Rattle.sqlite_trees.specs.View.{View, KeepsSchema, KeepsCommitted, OnlyWrites, IsClean, IsRolledBack, IsShaped, SetsTree, Commits}
use Rattle.sqlite_trees.proofs.Doubt.{no_doubt}
use Rattle.st_hop_books.specs.declared.balance.Amounts.{Amounts}
use Rattle.st_hop_books.specs.Sums.{nothing}
use Rattle.st_hop_books.specs.declared.balance.Tally.{Tally}
use Rattle.st_hop_books.specs.Payments.{payment_line, name_at, ArePayments, IsEntryText, payment_row}
use Rattle.st_hop_books.specs.Fulfillments.{proof_tree, AreProofs}
use Rattle.st_hop_books.specs.Trail.{Trail, tally_of, with_entry}
use Rattle.st_hop_books.specs.declared.balance.Payment.{Payment}
use Rattle.st_hop_books.specs.Table.{AreBooks, ListsTables, line, lines, payment_tree}
use Rattle.st_hop_books.proofs.LineLemmas.{put_end}
use Rattle.st_hop_books.proofs.PaymentLemmas.{put_payment, payments_push}
use Rattle.st_hop_books.specs.Standing.{Draws, Keeps, Holds, IsReady, ReadsOnly, trail_in, trail_of}

pub only_writes_then : (a b c : View) → OnlyWrites a b → OnlyWrites b c → OnlyWrites a c
only_writes_then a b c p q = q ∙ ap (λ (v : View). record v { trees = c.trees; cursors = c.cursors }) p

pub draws_then : (a b c : View) (names : List (List ℕ)) (x y z : List Amounts) → Draws a b names x y → Draws b c names y z → Draws a c names x z
draws_then a b c names x y z p q = record { frame = only_writes_then a b c p.frame q.frame; books = λ starts trail h. q.books starts trail (p.books starts trail h) }

schema_then : (a b c : View) → KeepsSchema a b → KeepsSchema b c → KeepsSchema a c
schema_then a b c p q = record {
  shape = q.shape ∙ p.shape;
  reals = q.reals ∙ p.reals;
  committed_shape = q.committed_shape ∙ p.committed_shape;
  committed_reals = q.committed_reals ∙ p.committed_reals;
  numbered = q.numbered ∙ p.numbered;
}

pub keeps_then : (a b c : View) → Keeps a b → Keeps b c → Keeps a c
keeps_then a b c p q = record {
  schema = schema_then a b c p.schema q.schema;
  was_open = λ h. p.was_open (q.was_open h);
  committed = λ h. q.committed h ∙ p.committed (q.was_open h);
}

-- one write
pub keeps_written : (old new : View) → KeepsSchema old new → (IsClean new → OnlyWrites old new) → (IsTrue new.is_open → IsClean new) → Keeps old new
keeps_written old new schema frame clean = record {
  schema = schema;
  was_open = λ h. sym (ap (λ (v : View). v.is_open) (frame (clean h))) ∙ h;
  committed = λ h. ap (λ (v : View). v.committed) (frame (clean h));
}

pub keeps_framed : (old new : View) → OnlyWrites old new → Keeps old new
keeps_framed old new frame = record {
  schema = record {
    shape = ap (λ (v : View). v.shape) frame;
    reals = ap (λ (v : View). v.reals) frame;
    committed_shape = ap (λ (v : View). v.committed_shape) frame;
    committed_reals = ap (λ (v : View). v.committed_reals) frame;
    numbered = ap (λ (v : View). v.is_numbered) frame;
  };
  was_open = λ h. sym (ap (λ (v : View). v.is_open) frame) ∙ h;
  committed = λ _. ap (λ (v : View). v.committed) frame;
}

pub keeps_failed : (old new : View) → KeepsCommitted old new → Keeps old new
keeps_failed old new kept = record {
  schema = record { shape = kept.shape; reals = kept.reals; committed_shape = kept.committed_shape; committed_reals = kept.committed_reals; numbered = kept.numbered };
  was_open = kept.was_open;
  committed = kept.committed;
}

-- ---- how a transaction ends

-- clean if it is open
pub clean_open : (v : View) → (v.is_clean ≡ false → v.is_open ≡ false) → IsTrue v.is_open → IsClean v
clean_open v shut is_open = elim (cases_Bool v.is_clean) [
  | inl clean ↦ no_doubt v.is_clean clean
  | inr dirty ↦ absurd (let e = sym is_open ∙ shut dirty in cc)
]

-- open if it is sound
pub open_sound : (v : View) → (v.is_open ≡ false → IsTrue v.is_broken) → v.is_broken ≡ false → IsTrue v.is_open
open_sound v broken sound = elim (cases_Bool v.is_open) [
  | inl is_open ↦ is_open
  | inr shut ↦ absurd (let e = sym (broken shut) ∙ sound in cc)
]

-- what holds before a transaction holds after its rollback
pub held_undone : (was mid new : View) (starts : ℕ) (names : List (List ℕ)) (all : List Amounts) (trail : Trail) (count : Tally) → Holds was starts names all trail count → (IsClean mid → Keeps was mid) → (IsClean new → IsRolledBack mid new) → (IsClean new → IsClean mid) → (IsClean mid → IsClean was)
    → (IsTrue new.is_open → IsClean new) → Holds new starts names all trail count
held_undone was mid new starts names all trail count held kept back_to late early clean = (
  λ now.
      let undone = back_to now in
      let keeps = kept (late now) in
      let laid = held.0 (early (late now)) in
      let level : mid.shape ≡ mid.committed_shape = keeps.schema.shape ∙ (laid.kept ∙ sym keeps.schema.committed_shape) in
      let shape : new.shape ≡ was.shape = undone.shape level ∙ keeps.schema.shape in
      record {
        table = ap (λ s. s 0) shape ∙ laid.table;
        audit = ap (λ s. s payment_tree) shape ∙ laid.audit;
        filed = ap (λ s. s proof_tree) shape ∙ laid.filed;
        kept = undone.shape level ∙ (level ∙ sym undone.committed_shape);
        numbered = undone.numbered ∙ (keeps.schema.numbered ∙ laid.numbered);
      },
  λ is_open.
      let undone = back_to (clean is_open) in
      let keeps = kept (late (clean is_open)) in
      let back = undone.kept (clean is_open) in
      let mid_open = back.was_open is_open in
      let stood = held.1 (keeps.was_open mid_open) in
      let commit : new.committed ≡ was.committed = back.committed is_open ∙ keeps.committed mid_open in (
        record {
          sound = (undone.undone is_open).1;
          settled = (undone.undone is_open).0 ∙ sym (back.committed is_open);
          books = subst (λ db. AreBooks db starts names all trail) (sym commit) stood.0.books;
        },
        stood.1,
      ),
)

-- what was drawn holds after the commit
pub held_committed : (was mid new : View) (starts later : ℕ) (names longer : List (List ℕ)) (before after : List Amounts) (trail more : Trail) (count grown : Tally) → Holds was starts names before trail count → IsClean was → OnlyWrites was mid
    → (tally_of trail ≡ count → AreBooks was.trees starts names before trail → AreBooks mid.trees later longer after more) → (tally_of trail ≡ count → tally_of more ≡ grown) → Commits mid new → IsTrue was.is_open
    → Holds new later longer after more grown
held_committed was mid new starts later names longer before after trail more count grown held clean frame drawn counted commits is_open =
    let laid = held.0 clean in
    let stood = held.1 is_open in
    let books : AreBooks mid.trees later longer after more = drawn stood.1 (subst (λ db. AreBooks db starts names before trail) (sym stood.0.settled) stood.0.books) in
    let shape : mid.shape ≡ was.shape = ap (λ (v : View). v.shape) frame in
    let now = commits.is in (
      λ _. record {
        table = ap (λ (v : View). v.shape 0) now ∙ (ap (λ s. s 0) shape ∙ laid.table);
        audit = ap (λ (v : View). v.shape payment_tree) now ∙ (ap (λ s. s payment_tree) shape ∙ laid.audit);
        filed = ap (λ (v : View). v.shape proof_tree) now ∙ (ap (λ s. s proof_tree) shape ∙ laid.filed);
        kept = ap (λ (v : View). v.shape) now ∙ sym (ap (λ (v : View). v.committed_shape) now);
        numbered = ap (λ (v : View). v.is_numbered) now ∙ (ap (λ (v : View). v.is_numbered) frame ∙ laid.numbered);
      },
      λ _. (
        record {
          sound = ap (λ (v : View). v.is_broken) now ∙ commits.sound;
          settled = ap (λ (v : View). v.trees) now ∙ sym (ap (λ (v : View). v.committed) now);
          books = subst (λ db. AreBooks db later longer after more) (sym (ap (λ (v : View). v.committed) now)) books;
        },
        counted stood.1,
      ),
    )

-- ---- by the results of the calls

pub ok_then : {T E : Type 0} (r : Result T E) (P Q : T → Type 0) → ((x : T) → P x → Q x) → IfOk r P → IfOk r Q
ok_then (Ok x) P Q more p = more x p
ok_then (Err e) P Q more p = tt

pub ok_both : {T E : Type 0} (r : Result T E) (P Q R : T → Type 0) → ((x : T) → P x → Q x → R x) → IfOk r P → IfOk r Q → IfOk r R
ok_both (Ok x) P Q R both p q = both x p q
ok_both (Err e) P Q R both p q = tt

pub ok_three : {T E : Type 0} (r : Result T E) (P Q R Z : T → Type 0) → ((x : T) → P x → Q x → R x → Z x) → IfOk r P → IfOk r Q → IfOk r R → IfOk r Z
ok_three (Ok x) P Q R Z all p q s = all x p q s
ok_three (Err e) P Q R Z all p q s = tt

pub ok_four : {T E : Type 0} (r : Result T E) (P Q R S Z : T → Type 0) → ((x : T) → P x → Q x → R x → S x → Z x) → IfOk r P → IfOk r Q → IfOk r R → IfOk r S → IfOk r Z
ok_four (Ok x) P Q R S Z all p q s u = all x p q s u
ok_four (Err e) P Q R S Z all p q s u = tt

pub on_err : {T E P : Type 0} (r : Result T E) → P → OnErr r P
on_err (Ok x) h = tt
on_err (Err e) h = h

pub on_ok_both : {T E P Q R : Type 0} (r : Result T E) → (P → Q → R) → OnOk r P → OnOk r Q → OnOk r R
on_ok_both (Ok x) both p q = both p q
on_ok_both (Err e) both p q = tt

pub at_ok : {T E P : Type 0} (r : Result T E) → IsOk r → OnOk r P → P
at_ok (Ok x) is h = h
at_ok (Err e) is h = absurd (let k = is in cc)

module _ {E : Type 0} (was mid new : View) (starts later : ℕ) (names longer : List (List ℕ)) (before after : List Amounts) (trail more : Trail) (count grown : Tally) (held : Holds was starts names before trail count) (late : IsClean new → IsClean mid) (early : IsClean mid → IsClean was)
    (wide : was.is_open ≡ false → IsTrue was.is_broken) (entered : Result (Unit {0}) E) (frame : OnOk entered (IsClean mid → OnlyWrites was mid))
    (drawn : OnOk entered (IsClean mid → tally_of trail ≡ count → AreBooks was.trees starts names before trail → AreBooks mid.trees later longer after more)) (counted : tally_of trail ≡ count → tally_of more ≡ grown) where
  -- the store was open, if what was entered may be committed
  was_open : IsClean mid → IsOk entered → mid.is_broken ≡ false → IsTrue was.is_open
  was_open clean is sound = open_sound was wide (sym (ap (λ (v : View). v.is_broken) (at_ok entered is frame clean)) ∙ sound)

  pub told_holds : (clean : IsTrue new.is_open → IsClean new) (told : Result (Unit {0}) E) → OnOk told (IsOk entered) → OnOk told (IsClean new → Commits mid new) → OnOk told (Holds new later longer after more grown)
  told_holds clean (Err e) is commits = tt
  told_holds clean (Ok x) is commits =
      let all = λ (now : IsClean new). held_committed was mid new starts later names longer before after trail more count grown held (early (late now)) (at_ok entered is frame (late now)) (at_ok entered is drawn (late now)) counted (commits now)
      (was_open (late now) is (commits now).sound) in
      (λ now. (all now).0 now, λ is_open. (all (clean is_open)).1 is_open)

  -- and open
  pub told_open : (told : Result (Unit {0}) E) → OnOk told (IsOk entered) → OnOk told (IsClean new → Commits mid new) → OnOk told (IsClean new → IsTrue new.is_open)
  told_open (Err e) is commits = tt
  told_open (Ok x) is commits = λ now. ap (λ (v : View). v.is_open) (commits now).is
      ∙ (ap (λ (v : View). v.is_open) (at_ok entered is frame (late now)) ∙ was_open (late now) is (commits now).sound)

  -- what a crash may leave
  pub told_crash : {Was Mid : Trees → Type 0} → ((db : Trees) → Mid db → Was db) → (db : Trees) → IsClean new → (IsOk entered × (mid.is_broken ≡ false) × (db ≡ mid.trees)) ⊎ Mid db → Was db ⊎ AreBooks db later longer after more
  told_crash outcomes db now (inr stays) = inl (outcomes db stays)
  told_crash outcomes db now (inl (is, sound, same)) =
      let stood = held.1 (was_open (late now) is sound) in
      inr (subst (λ t. AreBooks t later longer after more) (sym same) (at_ok entered is drawn (late now) stood.1 (subst (λ t. AreBooks t starts names before trail) (sym stood.0.settled) stood.0.books)))

-- ---- a connection's store

-- what a rollback leaves of an open store
pub undone_ready : (old new : View) → IsRolledBack old new → IsClean new → IsTrue new.is_open → IsTrue new.is_numbered → is_sound_list (new.committed catalog_tree) ≡ true → new.shape 0 ≡ Table → new.shape payment_tree ≡ Table → new.shape proof_tree ≡ Table → IsReady new
undone_ready old new undone clean is_open numbered loads table audit filed =
    let back = undone.kept clean in
    let at : (if new.is_open then old.committed_shape else old.shape) ≡ old.committed_shape = rw is_open refl in
    record {
      sound = (undone.undone is_open).1;
      laid = record { table = table; audit = audit; filed = filed; kept = back.shape ∙ (at ∙ sym undone.committed_shape); numbered = numbered };
      settled = (undone.undone is_open).0 ∙ sym (back.committed is_open);
      loads = loads;
    }

pub ready_holds : (v : View) (starts : ℕ) (names : List (List ℕ)) (all : List Amounts) (count : Tally) → (IsClean v → IsReady v) → (IsTrue v.is_open → IsClean v) → (IsClean v → AreBooks v.trees starts names all (trail_of v.trees))
    → (IsClean v → tally_of (trail_of v.trees) ≡ count) → Holds v starts names all (trail_in v) count
ready_holds v starts names all count ready clean books counted = (
  λ now. (ready now).laid,
  λ is_open.
      let now = clean is_open in
      let r = ready now in (
        record { sound = r.sound; settled = r.settled; books = subst (λ (db : Trees). AreBooks db starts names all (trail_of db)) r.settled (books now) },
        sym (ap (λ (db : Trees). tally_of (trail_of db)) r.settled) ∙ counted now,
      ),
)

-- the payments are those of the store
pub holds_own : (v : View) (starts : ℕ) (names : List (List ℕ)) (all : List Amounts) (trail : Trail) (count : Tally) → Holds v starts names all trail count → Holds v starts names all (trail_in v) count
holds_own v starts names all trail count held = (
  held.0,
  λ is_open.
      let stood = held.1 is_open in
      let b = stood.0.books in
      let same : trail ≡ trail_in v = λ i. record { paid = sym b.audit i; proofs = sym b.filed i } in (
        record { sound = stood.0.sound; settled = stood.0.settled; books = subst (λ p. AreBooks v.committed starts names all p) same stood.0.books },
        sym (ap tally_of same) ∙ stood.1,
      ),
)

-- only reads were made in between
pub read_ready : (old new : View) → ReadsOnly old new → IsReady old → IsReady new
read_ready old new reads r = rw reads (record { sound = r.sound; laid = record { table = r.laid.table; audit = r.laid.audit; filed = r.laid.filed; kept = r.laid.kept; numbered = r.laid.numbered }; settled = r.settled; loads = r.loads })

-- a tree that is not there has no rows
pub absent_empty : (s : Shape) (rows : List Row) → s ≡ Absent → IsShaped s rows → rows ≡ []
absent_empty s rows none h = let P : Shape → Type 0 = λ t. IsShaped t rows in subst P none h

-- ---- one tree is written

-- another tree stays
pub other_tree : (db : Trees) (tree : ℕ) (rows : List Row) (t : ℕ) → t ≢ tree → with_tree db tree rows t ≡ db t
other_tree db tree rows t other = rw (ne_eqb t tree other)

pub same_tree : (db : Trees) (tree : ℕ) (rows : List Row) → with_tree db tree rows tree ≡ rows
same_tree db tree rows = rw (eq-eqb tree tree refl)

-- the lines are these now
pub lines_written : (db : Trees) (rows : List Row) (starts : ℕ) (names longer : List (List ℕ)) (before after : List Amounts) (trail : Trail) → AreBooks db starts names before trail → rows ≡ lines longer after → length longer ≡ length after
    → AreBooks (with_tree db 0 rows) starts longer after trail
lines_written db rows starts names longer before after trail h is named = record {
  rows = same_tree db 0 rows ∙ is;
  named = named;
  audit = other_tree db 0 rows payment_tree (omega arith) ∙ h.audit;
  payments = h.payments;
  filed = other_tree db 0 rows proof_tree (omega arith) ∙ h.filed;
  proofs = h.proofs;
  counted = other_tree db 0 rows version_tree (omega arith) ∙ h.counted;
  objects = subst ListsTables (sym (other_tree db 0 rows catalog_tree (omega arith))) h.objects;
}

-- the starts are counted now
pub starts_written : (db : Trees) (starts later : ℕ) (names : List (List ℕ)) (all : List Amounts) (trail : Trail) → AreBooks db starts names all trail → AreBooks (with_tree db version_tree (version_rows later)) later names all trail
starts_written db starts later names all trail h = record {
  rows = other_tree db version_tree (version_rows later) 0 (omega arith) ∙ h.rows;
  named = h.named;
  audit = other_tree db version_tree (version_rows later) payment_tree (omega arith) ∙ h.audit;
  payments = h.payments;
  filed = other_tree db version_tree (version_rows later) proof_tree (omega arith) ∙ h.filed;
  proofs = h.proofs;
  counted = same_tree db version_tree (version_rows later);
  objects = subst ListsTables (sym (other_tree db version_tree (version_rows later) catalog_tree (omega arith))) h.objects;
}

-- a payment is written at the end of the second table
pub payment_written : (db : Trees) (rows : List Row) (starts : ℕ) (names : List (List ℕ)) (all : List Amounts) (trail more : Trail) → AreBooks db starts names all trail → rows ≡ more.paid → ArePayments more.paid → more.proofs ≡ trail.proofs
    → AreBooks (with_tree db payment_tree rows) starts names all more
payment_written db rows starts names all trail more h is lawful same = record {
  rows = other_tree db payment_tree rows 0 (omega arith) ∙ h.rows;
  named = h.named;
  audit = same_tree db payment_tree rows ∙ is;
  payments = lawful;
  filed = other_tree db payment_tree rows proof_tree (omega arith) ∙ (h.filed ∙ sym same);
  proofs = subst AreProofs (sym same) h.proofs;
  counted = other_tree db payment_tree rows version_tree (omega arith) ∙ h.counted;
  objects = subst ListsTables (sym (other_tree db payment_tree rows catalog_tree (omega arith))) h.objects;
}

pub payment_added : (old new : View) (starts : ℕ) (names : List (List ℕ)) (all : List Amounts) (trail : Trail) (p : Payment) (text : List ℕ) → IsEntryText p.kind p.side text → SetsTree old new payment_tree (put_row (payment_row trail.paid names p text))
    → AreBooks old.trees starts names all trail → AreBooks new.trees starts names all (with_entry trail names p text)
payment_added old new starts names all trail p text is sets h =
    subst (λ db. AreBooks db starts names all (with_entry trail names p text)) (sym (ap (λ (v : View). v.trees) sets.is))
    (payment_written old.trees (put_row (payment_row trail.paid names p text) (old.trees payment_tree)) starts names all trail (with_entry trail names p text) h
    (ap (put_row (payment_row trail.paid names p text)) h.audit ∙ put_payment trail.paid names p text h.payments) (payments_push trail.paid names p text is h.payments) refl)

-- its line was written with a name, a number and a moment that are these
pub payment_drawn : (old new : View) (starts : ℕ) (names : List (List ℕ)) (all : List Amounts) (trail : Trail) (p : Payment) (text : List ℕ) (before : Tally) (name : List ℕ) → IsEntryText p.kind p.side text → tally_of trail ≡ before
    → name_at names p.account ≡ name → SetsTree old new payment_tree (put_row (payment_line (before.lines + 1) name text p.amount (max before.latest p.moment))) → AreBooks old.trees starts names all trail
    → AreBooks new.trees starts names all (with_entry trail names p text)
payment_drawn old new starts names all trail p text before name words count is sets h =
    let written : Tally → List ℕ → Type 0 = λ t n. SetsTree old new payment_tree (put_row (payment_line (t.lines + 1) n text p.amount (max t.latest p.moment))) in
    let named : written before (name_at names p.account) = subst (written before) (sym is) sets in
    payment_added old new starts names all trail p text words (subst (λ (t : Tally). written t (name_at names p.account)) (sym count) named) h

pub line_added : (old new : View) (starts : ℕ) (names : List (List ℕ)) (all : List Amounts) (trail : Trail) (name : List ℕ) → SetsTree old new 0 (put_row (line (length names + 1) name nothing)) → AreBooks old.trees starts names all trail
    → AreBooks new.trees starts (names ++ name ∷ []) (all ++ nothing ∷ []) trail
line_added old new starts names all trail name sets h =
    subst (λ db. AreBooks db starts (names ++ name ∷ []) (all ++ nothing ∷ []) trail) (sym (ap (λ (v : View). v.trees) sets.is))
    (lines_written old.trees (put_row (line (length names + 1) name nothing) (old.trees 0)) starts names (names ++ name ∷ []) all (all ++ nothing ∷ []) trail h
    (ap (put_row (line (length names + 1) name nothing)) h.rows ∙ put_end names all name nothing h.named)
    (omega (arith, h.named, length-append names (name ∷ []), length-append all (nothing ∷ []))))

pub starts_counted : (old new : View) (starts later : ℕ) (names : List (List ℕ)) (all : List Amounts) (trail : Trail) → SetsTree old new version_tree (λ _. version_rows later) → AreBooks old.trees starts names all trail
    → AreBooks new.trees later names all trail
starts_counted old new starts later names all trail sets h = subst (λ db. AreBooks db later names all trail) (sym (ap (λ (v : View). v.trees) sets.is)) (starts_written old.trees starts later names all trail h)

-- a write of one tree changes nothing else
pub sets_only : (old new : View) (tree : ℕ) (edit : List Row → List Row) → SetsTree old new tree edit → OnlyWrites old new
sets_only old new tree edit sets = sets.is ∙ ap (λ (v : View). record old { trees = v.trees; cursors = new.cursors }) (sym sets.is)

-- a read writes nothing
pub only_reads : (old new : View) → ReadsOnly old new → OnlyWrites old new
only_reads old new reads = reads ∙ ap (λ (v : View). record old { trees = v.trees; cursors = new.cursors }) (sym reads)

pub reads_then : (a b c : View) → ReadsOnly a b → ReadsOnly b c → ReadsOnly a c
reads_then a b c p q = q ∙ ap (λ (v : View). record v { cursors = c.cursors }) p

-- the books that two reads found
pub found_ready : (was new : View) (starts : ℕ) (names : List (List ℕ)) (all : List Amounts) → ReadsOnly was new → ListsTables (was.trees catalog_tree) → was.trees 0 ≡ lines names all → length names ≡ length all
    → was.trees version_tree ≡ version_rows starts → ArePayments (was.trees payment_tree) → AreProofs (was.trees proof_tree) → AreBooks new.trees starts names all (trail_of new.trees)
found_ready was new starts names all reads lists rows named counted lawful proofs =
    let same : was.trees ≡ new.trees = sym (ap (λ (v : View). v.trees) reads) in
    subst (λ (db : Trees). AreBooks db starts names all (trail_of db)) same (record { rows = rows; named = named; audit = refl; payments = lawful; filed = refl; proofs = proofs; counted = counted; objects = lists })

-- ---- bookings
