use Rattle.std.proofs.Common.{◌∷◌, [], None, fold, subst, take, get_or, rules, arith, ap, sym, ◌∙◌}
use Rattle.std.proofs.lemmas.List.Sums.{fold_more}
use Rattle.sqlite_trees.specs.View.{View, IsClean}
use Rattle.st_links.specs.declared.booking.Booking.{Booking}
use Rattle.st_hop_books.specs.Sums.{booked_one}
use Rattle.st_hop_books.specs.Fulfillments.{last_after}
use Rattle.st_hop_books.specs.Standing.{Enters}
use Rattle.st_hop_books.proofs.Steps.{keeps_then}
use Rattle.st_hop_books.proofs.ProofLemmas.{enters_next}
use Rattle.st_hop_books.proofs.Causes.{err_told, get_at, because_entered}
use Rattle.st_hop_books.proofs.table.enter_all.Goals as goal

pub returns-in_err-enter-clause-cause : goal.returns-in_err-enter-clause-cause
returns-in_err-enter-clause-cause g c clean =
    let was = g.S.Store.view c.args.store.now in
    let mid = g.S.Store.view c.loop-booking.store in
    let e = c.in_err-enter.field-0.0 in
    let i = c.loop-booking.booking-index in
    let none : Booking = record { payer = 0; claim = 0; payee = 0; due = 0; proof = None } in
    let bookings = c.args.bookings.now in
    let booking = get_or bookings i none in
    let early : IsClean mid = omega (arith, c.enter.ensures.quiet.clean, clean) in
    err_told _ c.from_residual.result e c.from_residual.ensures.1
    (because_entered was mid (g.S.Store.faults c.args.store.now) (g.S.Store.faults c.loop-booking.store) (g.S.Store.faults c.enter.new.store) c.args.names.now c.args.draft.now c.loop-booking.draft bookings i booking e
    c.loop-booking.invariant.4.counts (ap (λ (v : View). v.is_broken) (c.loop-booking.invariant.2 early).frame) c.loop-booking.invariant.3.schema.reals c.loop-booking.invariant.0
    (get_at bookings i none c.loop-booking-test.true) (c.in_err-enter.ensures.cause clean))

pub loop-booking-preserved : goal.loop-booking-preserved
loop-booking-preserved g c =
    let was = g.S.Store.view c.args.store.now in
    let mid = g.S.Store.view c.loop-booking.store in
    let new = g.S.Store.view c.enter.new.store in
    let i = c.loop-booking.booking-index in
    let none : Booking = record { payer = 0; claim = 0; payee = 0; due = 0; proof = None } in
    let bookings = c.args.bookings.now in (
      c.in_ok-enter.ensures.booked ∙ (ap (λ all. booked_one all (get_or bookings i none)) c.loop-booking.invariant.0 ∙ sym (fold_more booked_one c.args.draft.now bookings i none c.loop-booking-test.true)),
      c.in_ok-enter.ensures.last ∙ (ap (λ n. last_after n (get_or bookings i none)) c.loop-booking.invariant.1 ∙ sym (fold_more last_after c.args.last.now bookings i none c.loop-booking-test.true)),
      (λ clean.
          let early : IsClean mid = omega (arith, c.enter.ensures.quiet.clean, clean) in
          let names = c.args.names.now in
          let one : Enters mid new names c.loop-booking.draft c.enter.new.draft (fold last_after c.args.last.now (take i bookings)) (get_or bookings i none ∷ []) =
          subst (λ n. Enters mid new names c.loop-booking.draft c.enter.new.draft n (get_or bookings i none ∷ [])) c.loop-booking.invariant.1 (c.in_ok-enter.ensures.entered clean) in
          enters_next was mid new names c.args.draft.now c.loop-booking.draft c.enter.new.draft c.args.last.now bookings i none c.loop-booking-test.true (c.loop-booking.invariant.2 early) one),
      keeps_then was mid new c.loop-booking.invariant.3 c.in_ok-enter.ensures.keeps,
      search rules,
    )
