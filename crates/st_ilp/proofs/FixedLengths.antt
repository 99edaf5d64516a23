-- What `fixed` gives has the length that was asked for.
use Rattle.std.proofs.Common.{◌≡◌, ℕ, ◌≤◌, ltb, List, length, take, drop, Ok, subst, arith}
use Rattle.std.proofs.lemmas.Bool.{ltb-false}
use Rattle.std.proofs.lemmas.List.{length-take}
use Rattle.st_oer.specs.declared.error.OerError.TheVariants.{Short}
use Rattle.st_oer.specs.Reading.{fixed_at}
use Rattle.st_oer.proofs.BothWays.{guard_ok, ok_is}

pub fixed_length : (n : ℕ) (bytes : List ℕ) (x : List ℕ × List ℕ) → fixed_at n bytes ≡ Ok x → length x.0 ≡ n
fixed_length n bytes x e =
    let g = guard_ok (ltb (length bytes) n) Short (Ok (take n bytes, drop n bytes)) x e in
    let le : n ≤ length bytes = ltb-false _ _ g.0 in
    subst (λ (p : List ℕ × List ℕ). length p.0 ≡ n) (ok_is (take n bytes, drop n bytes) x g.1) (omega (arith, length-take n bytes))
