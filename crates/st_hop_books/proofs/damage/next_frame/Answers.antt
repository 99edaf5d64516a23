use Rattle.std.proofs.Common.{ℕ, List, arith, sym, subst, ◌∙◌}
use Rattle.sqlite_wal.specs.Reads.{IsClean}
use Rattle.st_hop_books.specs.declared.damage.Fit.{Fit}
use Rattle.st_hop_books.specs.Damage.{IsFit}
use Rattle.st_hop_books.proofs.DamageLemmas.{wanted_fits, other_fits, wanted_not, none_past, reads_on}
use Rattle.st_hop_books.proofs.damage.next_frame.Goals as goal

pub returns-then-is_wanted-clause-next : goal.returns-then-is_wanted-clause-next
returns-then-is_wanted-clause-next g c clean =
    let log = g.D.Disk.seen c.args.log.now in
    let (before, low, reads) = c.loop-i.invariant in
    let early : IsClean g.D.Disk c.loop-i.log = c.in_ok-fit.ensures.same.clean clean in
    let fits : IsFit c.args.page_size log c.loop-i.i c.in_ok-fit.fit = subst (λ (l : List ℕ). IsFit c.args.page_size l c.loop-i.i c.in_ok-fit.fit) reads.seen (c.in_ok-fit.ensures.fits clean) in
    record {
      behind = low;
      wanted = wanted_fits c.args.ends c.args.page_size log c.loop-i.i c.in_ok-fit.fit fits (sym c.is_wanted.ensures ∙ c.if-is_wanted.true);
      first = before early;
    }

pub loop-i-preserved : goal.loop-i-preserved
loop-i-preserved g c =
    let log = g.D.Disk.seen c.args.log.now in
    let (before, low, reads) = c.loop-i.invariant in (
      λ clean.
          let early : IsClean g.D.Disk c.loop-i.log = c.in_ok-fit.ensures.same.clean clean in
          let fits : IsFit c.args.page_size log c.loop-i.i c.in_ok-fit.fit = subst (λ (l : List ℕ). IsFit c.args.page_size l c.loop-i.i c.in_ok-fit.fit) reads.seen (c.in_ok-fit.ensures.fits clean) in
          wanted_not c.args.ends c.args.page_size log c.args.from c.loop-i.i (before early) (other_fits c.args.ends c.args.page_size log c.loop-i.i c.in_ok-fit.fit fits (sym c.is_wanted.ensures ∙ c.if-is_wanted.false)),
      omega (arith, low),
      reads_on reads c.in_ok-fit.ensures.same,
    )

pub returns-in-Absent-clause-next : goal.returns-in-Absent-clause-next
returns-in-Absent-clause-next g c clean =
    let log = g.D.Disk.seen c.args.log.now in
    let (before, low, reads) = c.loop-i.invariant in
    let early : IsClean g.D.Disk c.loop-i.log = c.in_ok-fit.ensures.same.clean clean in
    let fits : IsFit c.args.page_size log c.loop-i.i c.in_ok-fit.fit = subst (λ (l : List ℕ). IsFit c.args.page_size l c.loop-i.i c.in_ok-fit.fit) reads.seen (c.in_ok-fit.ensures.fits clean) in
    none_past c.args.ends c.args.page_size log c.args.from c.loop-i.i (subst (λ (f : Fit). IsFit c.args.page_size log c.loop-i.i f) c.in-Absent.is fits) (before early)
