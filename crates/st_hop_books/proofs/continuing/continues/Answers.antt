use Rattle.std.proofs.Common.{refl, inl, inr}
use Rattle.std.proofs.lemmas.Bool.{false≢true}
use Rattle.st_hop_books.proofs.continuing.continues.Goals as goal

pub returns-then-not-is_whole : goal.returns-then-not-is_whole
returns-then-not-is_whole c yes' = record { is = inr ((λ whole. absurd (false≢true (c.if-not-is_whole.ensures.1 whole))), c.continues_torn.ensures yes') }

pub returns : goal.returns
returns c yes' = record { is = inl (c.if-not-is_whole.ensures.0 refl, c.continues_whole.ensures yes') }
