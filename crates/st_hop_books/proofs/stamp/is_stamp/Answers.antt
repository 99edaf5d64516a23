use Rattle.std.proofs.Common.{◌≡◌, Ok, codes, sym, subst, ◌∙◌}
use Rattle.sqlite_resolve.specs.Compile.{view_defined_by}
use Rattle.st_hop_books.proofs.Steps.{ok_then}
use Rattle.st_hop_books.proofs.stamp.is_stamp.Goals as goal

pub returns : goal.returns
returns c =
    let first = c.is_same.ensures c.if-not-is_same.false in
    ok_then c.is_view.result _ _ (λ b named yes'. (
      c.in-Some.address.now,
      record {
        identity = c.in-Some.identity.now;
        is = first ∙ (c.as_str-said.ensures.value ∙ c.in_ok-made.ensures);
        defined = subst (λ t. view_defined_by t ≡ Ok (codes "books")) (sym first) (named yes');
      },
      c.is_asked.ensures c.if-not-is_asked.false,
    )) c.is_view.ensures
