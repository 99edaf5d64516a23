-- What a call of books leaves, by what its transaction left.
use Rattle.std.proofs.Common.{◌≡◌, inl, IsTrue, refl, sym, subst}
use Rattle.sqlite_trees.specs.Tree.{Trees}
use Rattle.sqlite_trees.specs.View.{View, IsClean}
use Rattle.sqlite_trees.specs.declared.store.Store.{Ghosts}
use Rattle.st_hop_books.specs.declared.balance.Tally.{Tally}
use Rattle.st_hop_books.specs.Fulfillments.{proof_tree}
use Rattle.st_hop_books.specs.Trail.{Trail}
use Rattle.st_hop_books.specs.Table.{payment_tree}
use Rattle.st_hop_books.specs.Standing.{Kept, Sums, AreSums, sums_of, Tells, Holds, Remains, IsReady, trail_in}
use Rattle.st_hop_books.specs.Commits.{BeforeOrAfter, Makes, Refuses, Rereads}

-- the tables of a database are its trail
same_trail : (v : View) (t : Trail) → v.committed payment_tree ≡ t.paid → v.committed proof_tree ≡ t.proofs → trail_in v ≡ t
same_trail v t paid proofs = λ i. record { paid = paid i; proofs = proofs i }

module _ {S : Type 0} (g : Ghosts S) (settled : (s : S) (db : Trees) → IsTrue (g.view s).is_open → g.recovers s db → db ≡ (g.view s).committed) where
  pub open_leaves : (s : S) (a : Sums) (count : Tally) → Holds (g.view s) a.starts a.names a.amounts a.trail count → IsTrue (g.view s).is_open → (db : Trees) → g.recovers s db → AreSums db a
  open_leaves s a count held is_open db may = subst (λ t. AreSums t a) (sym (settled s db is_open may)) (held.1 is_open).0.books

  pub makes : (old new : Kept S) (after : Sums) (count : Tally) → Tells new after → Holds (g.view new.store) after.starts after.names after.amounts after.trail count → (IsClean (g.view new.store) → IsTrue (g.view new.store).is_open)
      → BeforeOrAfter g old after new → Makes g old after new
  makes old new after count made held opened moment = record {
    made = made;
    trail = λ clean. same_trail (g.view new.store) after.trail (held.1 (opened clean)).0.books.audit (held.1 (opened clean)).0.books.filed;
    durable = λ clean. open_leaves new.store after count held (opened clean);
    any_moment = moment;
  }

  pub refuses : (old new : Kept S) (after : Sums) (count : Tally) → Tells new (sums_of g old) → Holds (g.view new.store) old.starts old.names old.amounts (trail_in (g.view old.store)) count → BeforeOrAfter g old after new
      → Refuses g old after new
  refuses old new after count same held moment = record {
    same = same;
    as_before = λ is_open. open_leaves new.store (sums_of g old) count held is_open;
    any_moment = moment;
  }

  -- before anything was asked of the store
  pub refuses_early : (old new : Kept S) (after : Sums) (count : Tally) → new ≡ old → Holds (g.view old.store) old.starts old.names old.amounts (trail_in (g.view old.store)) count → Refuses g old after new
  refuses_early old new after count same held = subst (λ k. Refuses g old after k) (sym same) (refuses old old after count (refl, refl, refl) held (λ clean db may. inl may))

  -- only reads were asked of it, and undone
  pub rereads : (old new : Kept S) (count : Tally) → Tells new (sums_of g old) → Holds (g.view new.store) old.starts old.names old.amounts (trail_in (g.view old.store)) count
      → ((db : Trees) → g.recovers new.store db → g.recovers old.store db) → Rereads g old new
  rereads old new count same held outcomes = record {
    same = same;
    trail = λ is_open. same_trail (g.view new.store) (trail_in (g.view old.store)) (held.1 is_open).0.books.audit (held.1 is_open).0.books.filed;
    as_before = λ is_open. open_leaves new.store (sums_of g old) count held is_open;
    outcomes = outcomes;
  }

  -- or nothing was
  pub rereads_none : (old new : Kept S) (count : Tally) → new ≡ old → Holds (g.view old.store) old.starts old.names old.amounts (trail_in (g.view old.store)) count → Rereads g old new
  rereads_none old new count same held = subst (λ k. Rereads g old k) (sym same) (rereads old old count (refl, refl, refl) held (λ db may. may))

  pub remains : (k : Kept S) (count : Tally) → IsReady (g.view k.store) → Holds (g.view k.store) k.starts k.names k.amounts (trail_in (g.view k.store)) count → IsTrue (g.view k.store).is_open → Remains g k
  remains k count ready held is_open = record { is_open = is_open; numbered = ready.laid.numbered; leaves = open_leaves k.store (sums_of g k) count held is_open }
