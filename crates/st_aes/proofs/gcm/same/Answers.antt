use Rattle.std.proofs.Common.{ℕ, List, get_or, bit_or, bit_xor, below_more, ap, ◌∙◌, arith, eqb-true, eq-eqb}
use Rattle.std.specs.Int.Bits.{xor_self}
use Rattle.std.proofs.lemmas.List.{ext_get_or}
use Rattle.st_aes.proofs.Masks.{apart_none, or_none}
use Rattle.st_aes.proofs.gcm.same.Goals as goal

pub loop-i-preserved : goal.loop-i-preserved
loop-i-preserved c =
    let l = c.loop-i in
    let a = c.args.a in
    let b = c.args.b in
    record {
      tells = λ e. let h = or_none l.apart (bit_xor (get_or a l.i 0) (get_or b l.i 0)) e in below_more _ _ (l.invariant.tells h.0) (apart_none (get_or a l.i 0) (get_or b l.i 0) h.1);
      clear = λ all.
          ap (λ (n : ℕ). bit_or n (bit_xor (get_or a l.i 0) (get_or b l.i 0))) (l.invariant.clear (λ k lt. all k (omega arith)))
          ∙ ap (λ (n : ℕ). bit_or 0 (bit_xor n (get_or b l.i 0))) (all l.i (omega arith)) ∙ ap (bit_or 0) (xor_self (get_or b l.i 0));
    }

pub returns : goal.returns
returns c =
    let l = c.loop-i in
    let a = c.args.a in
    let b = c.args.b in (
      λ t. ext_get_or 0 a b (omega arith) (λ k lt. l.invariant.tells (eqb-true l.apart 0 t) k (omega arith)),
      λ e. eq-eqb l.apart 0 (l.invariant.clear (λ k lt. ap (λ (v : List ℕ). get_or v k 0) e)),
    )
