use Rattle.std.proofs.Common.{◌≡◌, ℕ, List, length, ◌<◌, ◌≤◌, rules, arith, sym, subst, inl, inr}
use Rattle.std.proofs.lemmas.Result.{on_ok_weaker}
use Rattle.sqlite_disk.specs.Disk.{Holds}
use Rattle.sqlite_wal.specs.Format.{part}
use Rattle.sqlite_wal.proofs.CleanLemmas.{halves}
use Rattle.sqlite_wal.proofs.PartLemmas.{held_is_part}
use Rattle.st_hop_books.specs.Continuing.{IsWhole, LogContinues, LogSaysNothing}
use Rattle.st_hop_books.proofs.continuing.refuse_strange_log.Goals as goal

pub returns-then-branch-lt-NEW_SIZE-clause-continued : goal.returns-then-branch-lt-NEW_SIZE-clause-continued
returns-then-branch-lt-NEW_SIZE-clause-continued g c = on_ok_weaker c.refuse_pages.result (λ lacking clean.
    let both = halves g.D.Disk _ _ clean in
    let short : length (g.D.Disk.seen c.args.files.now.db) < 4096 = omega (arith, c.if-branch-lt-NEW_SIZE.true, c.in_ok-len.ensures.len both.1) in
    elim (lacking both.0) [
      | inl yes' ↦ inl (c.in_ok-begun.ensures.found (c.refuse_pages.ensures.same.clean both.0) yes', inl short)
      | inr nothing ↦ inr (inr (short, subst LogSaysNothing c.is_begun.ensures.same.seen nothing))
    ]) c.refuse_pages.ensures.lacking

pub returns-clause-continued : goal.returns-clause-continued
returns-clause-continued g c = on_ok_weaker c.refuse_others.result (λ continued clean.
    let db = g.D.Disk.seen c.args.files.now.db in
    let both = halves g.D.Disk _ _ clean in
    let len : length c.read_at.new.buf ≡ 4096 = search rules in
    let holds : Holds db 0 c.read_at.new.buf = subst (λ (l : List ℕ). Holds l 0 c.read_at.new.buf) c.in_ok-len.ensures.seen (c.in_ok-read_at.ensures.read both.1 (omega arith)) in
    let page : c.read_at.new.buf ≡ part db 0 4096 = sym (held_is_part db c.read_at.new.buf 0 4096 holds len) in
    let long : 4096 ≤ length db = omega (arith, c.if-branch-lt-NEW_SIZE.false, c.in_ok-len.ensures.len (c.in_ok-read_at.ensures.clean both.1)) in
    elim (continued both.0) [
      | inl making ↦ inl (c.in_ok-begun.ensures.found (c.refuse_others.ensures.same.clean both.0) making.0, inr (λ whole. making.1 (subst IsWhole (sym page) whole)))
      | inr goes ↦ inr (inl (long, subst (λ (p : List ℕ). LogContinues p (g.D.Disk.seen c.args.files.now.log)) page (subst (LogContinues c.read_at.new.buf) c.is_begun.ensures.same.seen goes)))
    ]) c.refuse_others.ensures.continued
