use Rattle.std.proofs.Common.{◌≡◌, None, Some, ap, set, get_or, ◌∙◌, arith}
use Rattle.st_links.specs.declared.booking.Booking.{Booking}
use Rattle.st_links.proofs.HandedOut.{over_more}
use Rattle.st_links.proofs.booked.hand_out.Goals as goal

pub loop-at-preserved : goal.loop-at-preserved
loop-at-preserved c =
    let d : Booking = record { payer = 0; claim = 0; payee = 0; due = 0; proof = None } in
    let bookings = c.args.bookings.now in
    let at = c.loop-at.at in
    ap (λ l. set l at (Some (get_or bookings at d))) c.loop-at.invariant ∙ over_more Some bookings c.args.tokens.now at d c.requires c.loop-at-test.true
