use Rattle.std.proofs.Common.{◌≡◌, drop, sym, subst, arith, Ok, rules}
use Rattle.st_ilp.specs.Packets.{Fulfilled, Rejected}
use Rattle.st_ilp.specs.Reading.{answer_at}
use Rattle.st_end.proofs.Backs.{fulfill_data, reject_data, reject_short}
use Rattle.st_end.proofs.back.read_back.Goals as goal

pub returns-in-Fulfill : goal.returns-in-Fulfill
returns-in-Fulfill c =
    let read : answer_at c.args.bytes.now ≡ Ok (Fulfilled c.in-Fulfill.fulfillment c.in-Fulfill.payload.now) = search rules in (
      omega (arith, c.saturating_sub.ensures),
      subst (λ n. answer_at c.args.bytes.now ≡ Ok (Fulfilled c.in-Fulfill.fulfillment (drop n c.args.bytes.now))) (sym c.saturating_sub.ensures)
          (fulfill_data c.args.bytes.now c.in-Fulfill.fulfillment c.in-Fulfill.payload.now c.answer_law.ensures (λ i. omega (arith, c.type_inv.bytes i)) read),
    )

pub returns-in-Reject : goal.returns-in-Reject
returns-in-Reject c =
    let read : answer_at c.args.bytes.now ≡ Ok (Rejected c.in-Reject.code c.in-Reject.by.now c.in-Reject.message.now c.in-Reject.payload.now) = search rules in (
      omega (arith, c.saturating_sub-in-Reject.ensures),
      reject_short c.args.bytes.now c.in-Reject.code c.in-Reject.by.now c.in-Reject.message.now c.in-Reject.payload.now c.answer_law.ensures (λ i. omega (arith, c.type_inv.bytes i)) read,
      subst (λ n. answer_at c.args.bytes.now ≡ Ok (Rejected c.in-Reject.code c.in-Reject.by.now c.in-Reject.message.now (drop n c.args.bytes.now))) (sym c.saturating_sub-in-Reject.ensures)
          (reject_data c.args.bytes.now c.in-Reject.code c.in-Reject.by.now c.in-Reject.message.now c.in-Reject.payload.now c.answer_law.ensures (λ i. omega (arith, c.type_inv.bytes i)) read),
    )
