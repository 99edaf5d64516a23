use Rattle.std.proofs.Common.{refl, ◌≡◌, ℕ, ◌+◌, List, length, arith, rules, sym, ap, subst, ◌∙◌}
use Rattle.std.proofs.lemmas.Bool.{false≢true}
use Rattle.sqlite_disk.specs.Disk.{Holds}
use Rattle.sqlite_wal.specs.Format.{be32}
use Rattle.sqlite_wal.specs.Recovery.{frame}
use Rattle.sqlite_wal.specs.Reads.{IsClean}
use Rattle.st_hop_books.proofs.DamageLemmas.{frames_few, frame_read, passes_read}
use Rattle.st_hop_books.proofs.damage.look_at.Goals as goal

pub overflow_add-at : goal.overflow_add-at
overflow_add-at g c =
    let low = frames_few c.args.page_size c.args.i c.requires.size c.requires.few in
    omega (arith, low, c.frame_offset-at.ensures, c.requires.buf, c.requires.size)

pub returns-then-not-is_frame-clause-fits : goal.returns-then-not-is_frame-clause-fits
returns-then-not-is_frame-clause-fits g c clean p =
    let log = g.D.Disk.seen c.args.log.now in
    let early : IsClean g.D.Disk c.sum_before.new.log = c.in_ok-read_at.ensures.clean clean in
    let same : g.D.Disk.seen c.sum_before.new.log ≡ log = c.in_ok-before.ensures.same.seen in
    let first : IsClean g.D.Disk c.args.log.now = c.in_ok-before.ensures.same.clean early in
    let len : length c.read_at.new.buf ≡ 24 + c.args.page_size = search (rules, c.requires.buf) in
    let holds : Holds log c.frame_offset-at.result c.read_at.new.buf = subst (λ (l : List ℕ). Holds l c.frame_offset-at.result c.read_at.new.buf) same (c.in_ok-read_at.ensures.read clean (omega (arith, c.requires.buf))) in
    let read : frame c.args.page_size log c.args.i ≡ c.read_at.new.buf = frame_read log c.read_at.new.buf c.args.page_size c.args.i c.frame_offset-at.result c.frame_offset-at.ensures holds len in
    let passes = passes_read c.args.page_size log c.args.i c.args.head.now c.in_ok-before.before c.read_at.new.buf (c.requires.head first) (c.in_ok-before.ensures.sum early) read (omega (arith, c.if-at-buf.false, c.frame_offset-at.ensures, c.requires.buf, c.requires.len first)) in
    false≢true (c.if-not-is_frame.ensures.1 (passes.1 p))

pub returns-then-get_be32-eq0-clause-fits : goal.returns-then-get_be32-eq0-clause-fits
returns-then-get_be32-eq0-clause-fits g c clean =
    let log = g.D.Disk.seen c.args.log.now in
    let early : IsClean g.D.Disk c.sum_before.new.log = c.in_ok-read_at.ensures.clean clean in
    let same : g.D.Disk.seen c.sum_before.new.log ≡ log = c.in_ok-before.ensures.same.seen in
    let first : IsClean g.D.Disk c.args.log.now = c.in_ok-before.ensures.same.clean early in
    let len : length c.read_at.new.buf ≡ 24 + c.args.page_size = search (rules, c.requires.buf) in
    let holds : Holds log c.frame_offset-at.result c.read_at.new.buf = subst (λ (l : List ℕ). Holds l c.frame_offset-at.result c.read_at.new.buf) same (c.in_ok-read_at.ensures.read clean (omega (arith, c.requires.buf))) in
    let read : frame c.args.page_size log c.args.i ≡ c.read_at.new.buf = frame_read log c.read_at.new.buf c.args.page_size c.args.i c.frame_offset-at.result c.frame_offset-at.ensures holds len in
    let passes = passes_read c.args.page_size log c.args.i c.args.head.now c.in_ok-before.before c.read_at.new.buf (c.requires.head first) (c.in_ok-before.ensures.sum early) read (omega (arith, c.if-at-buf.false, c.frame_offset-at.ensures, c.requires.buf, c.requires.len first)) in
    (passes.0 (c.if-not-is_frame.ensures.0 refl), ap (λ (b : List ℕ). be32 b 4) read ∙ sym c.get_be32.ensures ∙ c.if-get_be32-eq0.true)

pub returns-else-get_be32-eq0-clause-fits : goal.returns-else-get_be32-eq0-clause-fits
returns-else-get_be32-eq0-clause-fits g c clean =
    let log = g.D.Disk.seen c.args.log.now in
    let early : IsClean g.D.Disk c.sum_before.new.log = c.in_ok-read_at.ensures.clean clean in
    let same : g.D.Disk.seen c.sum_before.new.log ≡ log = c.in_ok-before.ensures.same.seen in
    let first : IsClean g.D.Disk c.args.log.now = c.in_ok-before.ensures.same.clean early in
    let len : length c.read_at.new.buf ≡ 24 + c.args.page_size = search (rules, c.requires.buf) in
    let holds : Holds log c.frame_offset-at.result c.read_at.new.buf = subst (λ (l : List ℕ). Holds l c.frame_offset-at.result c.read_at.new.buf) same (c.in_ok-read_at.ensures.read clean (omega (arith, c.requires.buf))) in
    let read : frame c.args.page_size log c.args.i ≡ c.read_at.new.buf = frame_read log c.read_at.new.buf c.args.page_size c.args.i c.frame_offset-at.result c.frame_offset-at.ensures holds len in
    let passes = passes_read c.args.page_size log c.args.i c.args.head.now c.in_ok-before.before c.read_at.new.buf (c.requires.head first) (c.in_ok-before.ensures.sum early) read (omega (arith, c.if-at-buf.false, c.frame_offset-at.ensures, c.requires.buf, c.requires.len first)) in
    (passes.0 (c.if-not-is_frame.ensures.0 refl), λ none. c.if-get_be32-eq0.false (c.get_be32.ensures ∙ ap (λ (b : List ℕ). be32 b 4) (sym read) ∙ none))
