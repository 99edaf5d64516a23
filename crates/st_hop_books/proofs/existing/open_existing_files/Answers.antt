use Rattle.std.proofs.Common.{ℕ, List, refl, ap, subst, ◌∙◌}
use Rattle.sqlite_wal.specs.Recovery.{Image}
use Rattle.sqlite_wal.proofs.CleanLemmas.{halves, both_clean}
use Rattle.sqlite.specs.Files.{file_state, IsNothing}
use Rattle.sqlite.specs.Start.{FindsIn}
use Rattle.sqlite.proofs.FileLemmas.{same_image}
use Rattle.st_hop_books.specs.Continuing.{IsContinued}
use Rattle.st_hop_books.proofs.Steps.{ok_three}
use Rattle.st_hop_books.proofs.existing.open_existing_files.Goals as goal

abbrev image : List ℕ → List ℕ → Image
image db log = record { log = log; db = db }

pub returns-in-Ok : goal.returns-in-Ok
returns-in-Ok g c =
    let first = ap (image (g.D.Disk.seen c.args.files.db)) c.refuse_damage.ensures.same.seen in
    let read = same_image c.refuse_nothing.ensures.log c.refuse_nothing.ensures.db ∙ first in
    let same = same_image c.refuse_strange_log.ensures.log c.refuse_strange_log.ensures.db ∙ read in
    ok_three c.folded_books.result _ _ _ _ (λ b clean taken listed now.
    let f = c.in-Ok.ensures.found (clean now) in
    let before = both_clean _ _ _ _ c.refuse_strange_log.ensures.log.clean c.refuse_strange_log.ensures.db.clean f.honest in
    record {
      finds = record {
        opened = c.in-Ok.conn;
        found = subst (λ (i : Image). FindsIn i (file_state c.in-Ok.conn)) same (record { holds = f.holds; reads = f.reads });
        takes = taken now;
      };
      whole = c.in_ok-refuse_damage.ensures.whole (c.refuse_nothing.ensures.log.clean (halves g.D.Disk _ _ before).0);
      continued = subst IsContinued read (c.in_ok-refuse_strange_log.ensures.continued f.honest);
      something = subst (λ (i : Image). ¬ IsNothing i) first (c.in_ok-refuse_nothing.ensures.something before);
      listed = listed refl now;
    }) c.folded_books.ensures.clean c.folded_books.ensures.taken c.folded_books.ensures.listed
