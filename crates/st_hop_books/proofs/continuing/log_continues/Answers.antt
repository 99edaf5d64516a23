use Rattle.std.proofs.Common.{List, ℕ, ap, subst, ◌∙◌, inr}
use Rattle.st_hop_books.specs.Continuing.{Continues, IsFirst, IsLast, page_in}
use Rattle.st_hop_books.proofs.continuing.log_continues.Goals as goal

pub returns-clause-found : goal.returns-clause-found
returns-clause-found g c = λ clean yes'.
    let log = g.D.Disk.seen c.args.log.now in
    let first = c.in-Some.first in
    let last = c.in-Some-last_one.last in
    let between = c.read_page-2.ensures.same.clean clean in
    let before = c.read_page.ensures.same.clean between in
    let first_is = c.in_ok-read_page.ensures.read between ∙ ap (λ (l : List ℕ). page_in l first) c.frames_of.ensures.same.seen in
    let last_is = c.in_ok-read_page-2.ensures.read clean ∙ ap (λ (l : List ℕ). page_in l last) (c.read_page.ensures.same.seen ∙ c.frames_of.ensures.same.seen) in
    let goes = subst (λ (p : List ℕ). Continues c.args.page.now p (page_in log last)) first_is (subst (λ (p : List ℕ). Continues c.args.page.now c.read_page.new.page p) last_is (c.continues.ensures yes')) in
    record {
      numbers = c.in_ok-numbers.numbers.items;
      frames = c.in_ok-numbers.ensures.found before;
      follows = inr (first, last, subst (λ (ns : List ℕ). IsFirst ns first) c.deref.ensures.value c.in-Some.ensures.found, subst (λ (ns : List ℕ). IsLast ns last) c.deref-2.ensures.value c.in-Some-last_one.ensures.found, goes);
    }
