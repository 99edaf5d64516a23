-- Books whose log was folded into their file.
use Rattle.std.proofs.Common.{◌≡◌, ℕ, List, length, IsTrue, sym, ap, ap₂, subst, ◌∙◌}
use Rattle.sqlite_disk.specs.declared.Disk.{Ghosts}
use Rattle.sqlite_trees.specs.Tree.{Trees}
use Rattle.sqlite_trees.specs.Objects.{version_rows}
use Rattle.sqlite_trees.specs.View.{View, IsClean}
use Rattle.sqlite_store.specs.declared.store.FileStore.{FileStore}
use Rattle.sqlite_store.specs.FileStore.{view, recovers}
use Rattle.sqlite.specs.Files.{over_files}
use Rattle.st_hop_books.specs.declared.balance.Amounts.{Amounts}
use Rattle.st_hop_books.specs.Table.{lines}
use Rattle.st_hop_books.specs.declared.balance.Tally.{Tally}
use Rattle.st_hop_books.specs.Trail.{tally_of}
use Rattle.st_hop_books.specs.Standing.{Kept, Sums, AreSums, sums_of, Holds, IsLaid, Stands, Takes, trail_in}

pub folded_holds : (old new : View) (starts : ℕ) (names : List (List ℕ)) (all : List Amounts) (count : Tally) → Holds old starts names all (trail_in old) count → (IsClean new → IsTrue new.is_open) → (IsTrue new.is_open → new ≡ old)
    → Holds new starts names all (trail_in new) count
folded_holds old new starts names all count held opened same = (
  λ clean.
      let e = same (opened clean) in
      subst (λ (v : View). IsLaid v) (sym e) (held.0 (subst (λ (v : View). IsClean v) e clean)),
  λ is_open.
      let e = same is_open in
      subst (λ (v : View). Stands v starts names all (trail_in v) × (tally_of (trail_in v) ≡ count)) (sym e) (held.1 (subst (λ (v : View). IsTrue v.is_open) e is_open)),
)

module _ {D : Type 0} {g : Ghosts D} where
  same_sums : (old new : Kept (FileStore D g)) → new.starts ≡ old.starts → new.names ≡ old.names → new.amounts ≡ old.amounts → view new.store ≡ view old.store → sums_of over_files new ≡ sums_of over_files old
  same_sums old new starts names amounts shown =
      let trail = ap trail_in shown in
      λ i. let s : Sums = record { starts = starts i; names = names i; amounts = amounts i; trail = trail i } in s

  pub takes_folded : (db : Trees) (old new : Kept (FileStore D g)) → (new.starts ≡ old.starts) × (new.names ≡ old.names) × (new.amounts ≡ old.amounts) → IsTrue (view new.store).is_open × (view new.store ≡ view old.store)
      → ((left : Trees) → recovers new.store left → recovers old.store left) → Takes over_files db old → Takes over_files db new
  takes_folded db old new sums same crash t = record {
    rows = t.rows ∙ sym (ap₂ lines sums.1 sums.2);
    named = ap length sums.1 ∙ t.named ∙ sym (ap length sums.2);
    audit = t.audit ∙ sym (ap trail_in same.1);
    starts = t.starts ∙ sym (ap version_rows sums.0);
    remains = record {
      is_open = same.0;
      numbered = subst (λ (v : View). IsTrue v.is_numbered) (sym same.1) t.remains.numbered;
      leaves = λ left may. subst (λ (s : Sums). AreSums left s) (sym (same_sums old new sums.0 sums.1 sums.2 same.1)) (t.remains.leaves left (crash left may));
    };
  }
