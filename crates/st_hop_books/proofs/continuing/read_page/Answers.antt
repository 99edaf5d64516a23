use Rattle.std.proofs.Common.{◌≡◌, ◌+◌, ◌<◌, ℕ, length, arith, sym, ap, ◌∙◌, rules}
use Rattle.std.proofs.lemmas.Result.{on_ok_weaker}
use Rattle.sqlite_disk.specs.Disk.{Holds}
use Rattle.sqlite_wal.specs.Format.{part}
use Rattle.sqlite_wal.specs.Reads.{IsClean}
use Rattle.sqlite_wal.proofs.PartLemmas.{held_is_part}
use Rattle.st_hop_books.proofs.DamageLemmas.{frames_few}
use Rattle.st_hop_books.proofs.continuing.read_page.Goals as goal

pub overflow_add-frame_offset : goal.overflow_add-frame_offset
overflow_add-frame_offset g c =
    let low = frames_few 4096 c.args.i (omega arith) c.requires.few in
    omega (arith, low, c.frame_offset.ensures)

pub returns-clause-read : goal.returns-clause-read
returns-clause-read g c =
    let log = g.D.Disk.seen c.args.log.now in
    let len : length c.read_at.new.buf ≡ 4096 = search (rules, c.requires.page) in
    on_ok_weaker c.read_at.result (λ (read : IsClean g.D.Disk c.read_at.new.self → 0 < length c.args.page.now → Holds log (c.frame_offset.result + 24) c.read_at.new.buf) clean.
    sym (held_is_part log c.read_at.new.buf (c.frame_offset.result + 24) 4096 (read clean (omega (arith, c.requires.page))) len) ∙ ap (λ (at : ℕ). part log (at + 24) 4096) c.frame_offset.ensures) c.read_at.ensures.read
