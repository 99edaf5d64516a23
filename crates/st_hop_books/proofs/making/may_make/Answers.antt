use Rattle.std.proofs.Common.{ℕ, List, ap, subst, sym, ◌∙◌}
use Rattle.std.proofs.lemmas.Bool.{false≢true}
use Rattle.sqlite_wal.specs.Recovery.{Image}
use Rattle.sqlite_wal.specs.Reads.{AreClean}
use Rattle.sqlite_disk.specs.declared.Files.{Files}
use Rattle.sqlite.proofs.FileLemmas.{same_image}
use Rattle.st_hop_books.specs.Damage.{IsUnmade}
use Rattle.st_hop_books.proofs.making.may_make.Goals as goal
use Rattle.st_hop_books.proofs.making.may_make.Goals.{else-not-unmade-via-then-not-unmade+else-branch-lt-LEAST_LEN, else-not-unmade-via-else-not-unmade}

abbrev image : List ℕ → List ℕ → Image
image db log = record { log = log; db = db }

pub returns-clause-unmade : goal.returns-clause-unmade
returns-clause-unmade g c clean yes' =
    let first = ap (image (g.D.Disk.seen c.args.files.now.db)) c.refuse_damage.ensures.same.seen in
    let same = same_image c.holds_nothing.ensures.log c.holds_nothing.ensures.db ∙ first in
    elim c.else-not-unmade.branch [
      | else-not-unmade-via-then-not-unmade+else-branch-lt-LEAST_LEN w ↦ absurd (false≢true (sym w.if-not-unmade.true ∙ yes'))
      | else-not-unmade-via-else-not-unmade w ↦ subst (λ (i : Image). IsUnmade i) same (c.in_ok-unmade.ensures.unmade (subst (λ (f : Files g.row.D.Denot). AreClean g.D.Disk f.log f.db) w.files-is clean) yes')
    ]
