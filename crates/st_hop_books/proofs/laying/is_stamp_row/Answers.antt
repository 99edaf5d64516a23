use Rattle.st_hop_books.proofs.Steps.{ok_then}
use Rattle.st_hop_books.proofs.laying.is_stamp_row.Goals as goal

pub returns : goal.returns
returns c =
    let named = c.is_named.ensures c.if-not-is_named.false in
    ok_then c.is_stamp.result _ _ (λ b found yes'.
    let it = found yes' in (
      record {
        address = it.0;
        text = c.in-Some.text.now;
        stamps = it.1;
        id = named.0;
        kind = named.1;
        name = named.2;
        owner = named.3;
        text_is = c.in-Some.ensures.text;
      },
      it.2,
    )) c.is_stamp.ensures
