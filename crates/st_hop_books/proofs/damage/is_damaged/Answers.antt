use Rattle.std.proofs.lemmas.Grind.{common_steps}
use Rattle.std.proofs.Common.{refl, ◌≡◌, ◌↔◌, ℕ, List, length, IsTrue, arith, rules, sym, subst, ◌∙◌}
use Rattle.std.proofs.lemmas.Bool.{false≢true}
use Rattle.sqlite_disk.specs.Disk.{Holds}
use Rattle.sqlite_wal.specs.Reads.{IsClean}
use Rattle.st_hop_books.specs.Damage.{IsBroken}
use Rattle.st_hop_books.proofs.HeadLemmas.{header_read, unsigned_damaged, signed_damaged}
use Rattle.st_hop_books.proofs.Steps.{ok_then}
use Rattle.st_hop_books.proofs.damage.is_damaged.Goals as goal

pub returns-then-not-is_signed-clause-found : goal.returns-then-not-is_signed-clause-found
returns-then-not-is_signed-clause-found g c clean =
    let log = g.D.Disk.seen c.args.log.now in
    let len : length c.read_at.new.buf ≡ 32 = search rules in
    let holds : Holds log 0 c.read_at.new.buf = subst (λ (l : List ℕ). Holds l 0 c.read_at.new.buf) c.in_ok-len.ensures.seen (c.in_ok-read_at.ensures.read clean (omega arith)) in
    unsigned_damaged log c.read_at.new.buf (header_read log c.read_at.new.buf holds len) (λ signed. false≢true (c.if-not-is_signed.ensures.1 signed))

pub is_broken-requires-clause-head : goal.is_broken-requires-clause-head
is_broken-requires-clause-head g c clean =
    let log = g.D.Disk.seen c.read_at.new.self in
    let len : length c.read_at.new.buf ≡ 32 = search rules in
    let holds : Holds log 0 c.read_at.new.buf = subst (λ (l : List ℕ). Holds l 0 c.read_at.new.buf) (sym c.in_ok-read_at.ensures.seen) (c.in_ok-read_at.ensures.read clean (omega arith)) in
    header_read log c.read_at.new.buf holds len

pub returns-clause-found : goal.returns-clause-found
returns-clause-found g c =
    let log = g.D.Disk.seen c.args.log.now in
    let seen : g.D.Disk.seen c.read_at.new.self ≡ log = c.in_ok-read_at.ensures.seen ∙ c.in_ok-len.ensures.seen in
    let len : length c.read_at.new.buf ≡ 32 = search rules in
    ok_then c.is_broken.result _ _ (λ b (found : IsClean g.D.Disk c.is_broken.new.log → (IsTrue b ↔ IsBroken c.get_be32-page_size.result (g.D.Disk.seen c.read_at.new.self))) clean.
    let early : IsClean g.D.Disk c.read_at.new.self = c.is_broken.ensures.same.clean clean in
    let first : IsClean g.D.Disk c.len.new.self = c.in_ok-read_at.ensures.clean early in
    let holds : Holds log 0 c.read_at.new.buf = subst (λ (l : List ℕ). Holds l 0 c.read_at.new.buf) c.in_ok-len.ensures.seen (c.in_ok-read_at.ensures.read early (omega arith)) in
    signed_damaged log c.read_at.new.buf b c.get_be32-page_size.result (omega (arith, c.if-len-lt-HEADER_LEN.false, c.in_ok-len.ensures.len first)) (header_read log c.read_at.new.buf holds len) (c.if-not-is_signed.ensures.0 refl) c.get_be32-page_size.ensures
    (subst (λ (l : List ℕ). IsTrue b ↔ IsBroken c.get_be32-page_size.result l) seen (found clean))) c.is_broken.ensures.found

pub len-requires : goal.len-requires
len-requires g c = grind (arith, common_steps)

pub returns-in_err-len-clause-found : goal.returns-in_err-len-clause-found
returns-in_err-len-clause-found g c = grind (arith, common_steps)

pub returns-in_err-len-clause-same : goal.returns-in_err-len-clause-same
returns-in_err-len-clause-same g c = grind (arith, common_steps)

pub is_begun-requires-clause-usable : goal.is_begun-requires-clause-usable
is_begun-requires-clause-usable g c = grind (arith, common_steps)

pub is_begun-requires-clause-len : goal.is_begun-requires-clause-len
is_begun-requires-clause-len g c = grind (arith, common_steps)

pub is_begun-requires-clause-short : goal.is_begun-requires-clause-short
is_begun-requires-clause-short g c = grind (arith, common_steps)

pub returns-in_err-is_begun-clause-found : goal.returns-in_err-is_begun-clause-found
returns-in_err-is_begun-clause-found g c = grind (arith, common_steps)

pub returns-in_err-is_begun-clause-same : goal.returns-in_err-is_begun-clause-same
returns-in_err-is_begun-clause-same g c = grind (arith, common_steps)

pub returns-then-len-lt-HEADER_LEN-clause-found : goal.returns-then-len-lt-HEADER_LEN-clause-found
returns-then-len-lt-HEADER_LEN-clause-found g c = grind (arith, common_steps)

pub returns-then-len-lt-HEADER_LEN-clause-same : goal.returns-then-len-lt-HEADER_LEN-clause-same
returns-then-len-lt-HEADER_LEN-clause-same g c = grind (arith, common_steps)

pub slice_bounds-read_at-end : goal.slice_bounds-read_at-end
slice_bounds-read_at-end g c = grind (arith, common_steps)

pub read_at-requires : goal.read_at-requires
read_at-requires g c = grind (arith, common_steps)

pub returns-in_err-read_at-clause-found : goal.returns-in_err-read_at-clause-found
returns-in_err-read_at-clause-found g c = grind (arith, common_steps)

pub returns-in_err-read_at-clause-same : goal.returns-in_err-read_at-clause-same
returns-in_err-read_at-clause-same g c = grind (arith, common_steps)

pub bounds-head-0 : goal.bounds-head-0
bounds-head-0 g c = grind (arith, common_steps)

pub returns-then-not-is_signed-clause-same : goal.returns-then-not-is_signed-clause-same
returns-then-not-is_signed-clause-same g c = grind (arith, common_steps)

pub slice_bounds-get_be32-end : goal.slice_bounds-get_be32-end
slice_bounds-get_be32-end g c = grind (arith, common_steps)

pub get_be32-page_size-requires : goal.get_be32-page_size-requires
get_be32-page_size-requires g c = grind (arith, common_steps)

pub overflow_cast-page_size : goal.overflow_cast-page_size
overflow_cast-page_size g c = grind (arith, common_steps)

pub returns-then-page_size-gt65536-clause-same : goal.returns-then-page_size-gt65536-clause-same
returns-then-page_size-gt65536-clause-same g c = grind (arith, common_steps)

pub overflow_add-page_size : goal.overflow_add-page_size
overflow_add-page_size g c = grind (arith, common_steps)

pub returns-in_err-buf-clause-found : goal.returns-in_err-buf-clause-found
returns-in_err-buf-clause-found g c = grind (arith, common_steps)

pub returns-in_err-buf-clause-same : goal.returns-in_err-buf-clause-same
returns-in_err-buf-clause-same g c = grind (arith, common_steps)

pub is_broken-requires-clause-usable : goal.is_broken-requires-clause-usable
is_broken-requires-clause-usable g c = grind (arith, common_steps)

pub is_broken-requires-clause-len : goal.is_broken-requires-clause-len
is_broken-requires-clause-len g c = grind (arith, common_steps)

pub is_broken-requires-clause-size : goal.is_broken-requires-clause-size
is_broken-requires-clause-size g c = grind (arith, common_steps)

pub is_broken-requires-clause-buf : goal.is_broken-requires-clause-buf
is_broken-requires-clause-buf g c = grind (arith, common_steps)

pub returns-clause-same : goal.returns-clause-same
returns-clause-same g c = grind (arith, common_steps)
