use Rattle.std.proofs.Common.{subst, ◌∙◌}
use Rattle.std.proofs.lemmas.Bool.{false_from_ne_true}
use Rattle.sqlite_wal.proofs.CleanLemmas.{both_clean}
use Rattle.sqlite.specs.Files.{file_state}
use Rattle.sqlite.specs.Start.{FindsIn}
use Rattle.sqlite.proofs.FileLemmas.{same_image}
use Rattle.st_hop_books.specs.Continuing.{IsContinued}
use Rattle.st_hop_books.proofs.Steps.{ok_four}
use Rattle.st_hop_books.proofs.opening.open_files.Goals as goal

pub returns-in-Ok : goal.returns-in-Ok
returns-in-Ok g c =
    let first = same_image c.may_make.ensures.log c.may_make.ensures.db in
    let same = same_image c.refuse_strange_log.ensures.log c.refuse_strange_log.ensures.db ∙ first in
    ok_four c.folded_books.result _ _ _ _ _ (λ b clean taken listed own now.
    let f = c.in-Ok.ensures.found (clean now) in
    let before = both_clean _ _ _ _ c.refuse_strange_log.ensures.log.clean c.refuse_strange_log.ensures.db.clean f.honest in
    record {
      finds = record {
        opened = c.in-Ok.conn;
        found = subst (λ i. FindsIn i (file_state c.in-Ok.conn)) same (record { holds = f.holds; reads = f.reads });
        takes = taken now;
      };
      whole = c.in_ok-may_make.ensures.whole before;
      continued = subst IsContinued first (c.in_ok-refuse_strange_log.ensures.continued f.honest);
      nothing_lost = λ made.
          let no' = false_from_ne_true c.in_ok-may_make.may_make (λ yes'. made (c.in_ok-may_make.ensures.unmade before yes')) in
          (c.in_ok-may_make.ensures.nothing before no', listed no' now);
      own = own now;
    }) c.folded_books.ensures.clean c.folded_books.ensures.taken c.folded_books.ensures.listed c.folded_books.ensures.own
