use Rattle.std.proofs.Common.{◌↔◌, true, IsTrue, inl, inr, subst, sym}
use Rattle.std.proofs.lemmas.Bool.{iff_false}
use Rattle.sqlite_wal.proofs.CleanLemmas.{both_clean}
use Rattle.sqlite_wal.specs.Reads.{AreClean}
use Rattle.sqlite.specs.Files.{image_of, IsBlankAs}
use Rattle.sqlite.proofs.FileLemmas.{same_image}
use Rattle.st_hop_books.proofs.Steps.{ok_then}
use Rattle.st_hop_books.proofs.making.holds_nothing.Goals as goal

pub returns-clause-found : goal.returns-clause-found
returns-clause-found g c =
    let first = c.is_blank.ensures in
    let second = c.is_blank-2.ensures in
    ok_then c.is_blank-2.result _ _ (λ b (found : AreClean g.D.Disk c.is_blank-2.new.files.log c.is_blank-2.new.files.db → (IsTrue b ↔ IsBlankAs true (image_of g.D.Disk c.is_blank.new.files))) clean no nothing. elim nothing [
      | inl plain ↦ iff_false (c.in_ok-is_blank.ensures.found (both_clean _ _ _ _ second.log.clean second.db.clean clean)) c.if-branch.false plain
      | inr sums ↦ iff_false (found clean) no (subst (IsBlankAs true) (sym (same_image first.log first.db)) sums)
    ]) second.found
