use Rattle.std.proofs.Common.{◌≡◌, ℕ, ◌+◌, ◌*◌, ◌%◌, [], ◌∷◌, get_or, ap, ◌∙◌, arith}
use Rattle.st_aes.specs.Planes.{plane}
use Rattle.st_aes.proofs.Bits.{below_eight}
use Rattle.st_aes.proofs.Steps.{state_twice}
use Rattle.st_aes.proofs.wide_pass.load_key.Goals as goal

pub returns : goal.returns
returns c g j two few =
    let keys = c.args.keys.now in
    let at = c.args.at in
    let q = c.load_twice.result ∷ c.load_twice-2.result ∷ c.load_twice-3.result ∷ c.load_twice-4.result ∷ c.load_twice-5.result ∷ c.load_twice-6.result ∷ c.load_twice-7.result ∷ c.load_twice-8.result ∷ [] in
    state_twice keys q at g j two few (λ b l less low.
    below_eight (λ b. get_or (plane q b) l 0 ≡ get_or keys (at + 16 * b + l % 16) 0)
    (c.load_twice.ensures l low ∙ ap (λ (k : ℕ). get_or keys k 0) (omega arith))
    (c.load_twice-2.ensures l low ∙ ap (λ (k : ℕ). get_or keys k 0) (omega arith))
    (c.load_twice-3.ensures l low ∙ ap (λ (k : ℕ). get_or keys k 0) (omega arith))
    (c.load_twice-4.ensures l low ∙ ap (λ (k : ℕ). get_or keys k 0) (omega arith))
    (c.load_twice-5.ensures l low ∙ ap (λ (k : ℕ). get_or keys k 0) (omega arith))
    (c.load_twice-6.ensures l low ∙ ap (λ (k : ℕ). get_or keys k 0) (omega arith))
    (c.load_twice-7.ensures l low ∙ ap (λ (k : ℕ). get_or keys k 0) (omega arith))
    (c.load_twice-8.ensures l low ∙ ap (λ (k : ℕ). get_or keys k 0) (omega arith))
    b less)
