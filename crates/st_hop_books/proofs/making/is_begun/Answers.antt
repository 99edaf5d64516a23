use Rattle.std.proofs.Common.{refl, ◌≡◌, ℕ, List, length, arith, rules, subst}
use Rattle.sqlite_disk.specs.Disk.{Holds}
use Rattle.sqlite_wal.specs.Reads.{IsClean}
use Rattle.st_hop_books.proofs.HeadLemmas.{header_read, begun_read}
use Rattle.st_hop_books.proofs.making.is_begun.Goals as goal

pub returns-clause-found : goal.returns-clause-found
returns-clause-found g c clean yes' =
    let log = g.D.Disk.seen c.args.log.now in
    let len : length c.read_at.new.buf ≡ 32 = search rules in
    let first : IsClean g.D.Disk c.len.new.self = c.in_ok-read_at.ensures.clean clean in
    let holds : Holds log 0 c.read_at.new.buf = subst (λ (l : List ℕ). Holds l 0 c.read_at.new.buf) c.in_ok-len.ensures.seen (c.in_ok-read_at.ensures.read clean (omega arith)) in
    begun_read log c.read_at.new.buf c.get_be32-version.result c.get_be32-size.result c.get_be32-round.result (omega (arith, c.if-branch-lt-HEADER_LEN.false, c.in_ok-len.ensures.len first)) (header_read log c.read_at.new.buf holds len) (c.if-not-is_signed.ensures.0 refl) c.get_be32-version.ensures c.get_be32-size.ensures c.get_be32-round.ensures yes'
