use Rattle.std.proofs.Common.{refl, arith}
use Rattle.st_hop_books.proofs.ProofLemmas.{seven}
use Rattle.st_hop_books.proofs.filing.id_in.Goals as goal

pub returns : goal.returns
returns c =
    let id = c.in_ok-id.id in
    let name = c.in_ok-_name._name.now in
    let condition = c.in_ok-_condition._condition.now in
    let fulfillment = c.in_ok-_fulfillment._fulfillment.now in
    let amount = c.in_ok-_amount._amount in
    let moment = c.in_ok-_moment._moment in
    let first = c.in_ok-id.ensures in (
      record {
        id = id;
        name = name;
        condition = condition;
        fulfillment = fulfillment;
        amount = amount;
        moment = moment;
        is = seven c.args.row.now id name condition fulfillment amount moment (omega (arith, c.len.ensures, c.if-len-ne7.false)) first (c.if-not-is_null.ensures refl) c.in_ok-_name.ensures.text c.in_ok-_condition.ensures
            c.in_ok-_fulfillment.ensures c.in_ok-_amount.ensures c.in_ok-_moment.ensures;
      },
      first,
    )
