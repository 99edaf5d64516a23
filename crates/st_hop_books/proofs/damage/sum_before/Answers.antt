use Rattle.std.proofs.Common.{◌≡◌, ℕ, ◌+◌, ◌-◌, List, length, sym, ap, ◌∙◌, arith, rules}
use Rattle.sqlite_wal.specs.Format.{part, stored_sum}
use Rattle.sqlite_wal.specs.Recovery.{frame_at}
use Rattle.sqlite_wal.proofs.PartLemmas.{held_is_part}
use Rattle.st_hop_books.proofs.DamageLemmas.{frames_few, sum_after}
use Rattle.st_hop_books.proofs.damage.sum_before.Goals as goal

pub returns-then-i-eq0-clause-sum : goal.returns-then-i-eq0-clause-sum
returns-then-i-eq0-clause-sum g c clean =
    rw c.if-i-eq0.true (c.get_sum.ensures ∙ ap (λ (b : List ℕ). stored_sum b 24) (c.requires.head clean))

pub returns-clause-sum : goal.returns-clause-sum
returns-clause-sum g c clean =
    let log = g.D.Disk.seen c.args.log.now in
    let len : length c.read_at.new.buf ≡ 8 = search rules in
    let read : part log (frame_at c.args.page_size (c.args.i - 1) + 16) 8 ≡ c.read_at.new.buf =
    ap (λ (at : ℕ). part log (at + 16) 8) (sym c.frame_offset.ensures) ∙ held_is_part log _ _ 8 (c.in_ok-read_at.ensures.read clean (omega arith)) len in
    c.get_sum-2.ensures ∙ ap (λ (b : List ℕ). stored_sum b 0) (sym read) ∙ sum_after c.args.page_size log c.args.i c.if-i-eq0.false

pub overflow_add-frame_offset : goal.overflow_add-frame_offset
overflow_add-frame_offset g c =
    let low = frames_few c.args.page_size (c.args.i - 1) c.requires.size (omega (arith, c.requires.few)) in
    omega (arith, low, c.frame_offset.ensures, c.requires.size)
