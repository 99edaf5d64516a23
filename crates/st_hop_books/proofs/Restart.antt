-- What a crash leaves of books, the next open finds.
use Rattle.std.proofs.Common.{◌≡◌, inl, inr, ℕ, length, sym, ◌∙◌}
use Rattle.std.proofs.Math.Logic.{∥∥₁_map}
use Rattle.sqlite_disk.specs.declared.Disk.{Ghosts}
use Rattle.sqlite_trees.specs.Tree.{Trees}
use Rattle.sqlite_trees.specs.Objects.{version_tree, version_rows}
use Rattle.sqlite_store.specs.FileStore.{recovers}
use Rattle.sqlite.specs.Held.{AreDatabases}
use Rattle.sqlite.specs.Files.{file_state, over_files}
use Rattle.sqlite.proofs.Theorems.{next_run}
use Rattle.st_hop_books.specs.Table.{lines}
use Rattle.st_hop_books.specs.Standing.{Sums, sums_of, AreSums, trail_of}
use Rattle.st_hop_books.specs.Found.{NextFinds}
use Rattle.st_hop_books.proofs.LineLemmas.{lines_apart}
use Rattle.st_hop_books.proofs.Sound.{sound}

same_starts : (m n : ℕ) → version_rows m ≡ version_rows n → m ≡ n
same_starts m n e = cc

-- a database is of one books
only_sums : (db : Trees) (a b : Sums) → AreSums db a → length b.names ≡ length b.amounts → db 0 ≡ lines b.names b.amounts → trail_of db ≡ b.trail → db version_tree ≡ version_rows b.starts → b ≡ a
only_sums db a b is named rows audit starts =
    let both = lines_apart 1 b.names a.names b.amounts a.amounts named is.named (sym rows ∙ is.rows) in
    let first = same_starts b.starts a.starts (sym starts ∙ is.counted) in
    let trail : b.trail ≡ a.trail = sym audit ∙ (λ i. record { paid = is.audit i; proofs = is.filed i }) in
    λ i. record { starts = first i; names = both.0 i; amounts = both.1 i; trail = trail i }

pub next_finds : {D : Type 0} {g : Ghosts D} {E : Type 0} {h : Ghosts E} → NextFinds g h
next_finds it before after numbered only left may again found =
    let databases : AreDatabases (recovers it) = λ db r. elim (only db r) [
      | inl b ↦ (_, sound db before b)
      | inr a ↦ (_, sound db after a)
    ] in
    let db = (file_state found.opened).committed.trees in
    ∥∥₁_map (next_run it numbered databases left may (file_state found.opened) found.found) (λ r. elim (only db r) [
      | inl b ↦ inl (only_sums db before (sums_of over_files again) b found.takes.named found.takes.rows found.takes.audit found.takes.starts)
      | inr a ↦ inr (only_sums db after (sums_of over_files again) a found.takes.named found.takes.rows found.takes.audit found.takes.starts)
    ])
