use Rattle.std.proofs.Common.{◌≡◌, ℕ, [], ◌∷◌, ◌+◌, ◌*◌, ◌-◌, ◌<◌, get_or, ap, ◌∙◌, arith}
use Rattle.std.specs.Int.{bytes_high_first}
use Rattle.st_aes.specs.BlockField.{block_times_x, block_times_power, four_bits}
use Rattle.st_aes.specs.Planes.{plane}
use Rattle.st_aes.specs.Rows.{cell}
use Rattle.st_aes.proofs.Lookups.{below_sixteen}
use Rattle.st_aes.proofs.Masks.{below_four}
use Rattle.st_aes.proofs.Fours.{byte_linear, four_kept}
use Rattle.st_aes.proofs.factor_tables.first_multiples.Goals as goal

pub returns : goal.returns
returns c b n lt few =
    let y = c.args.y in
    let p = block_times_power y in
    let t = c.turned.result in
    let s = plane t 15 ∷ plane t 14 ∷ plane t 13 ∷ plane t 12 ∷ plane t 11 ∷ plane t 10 ∷ plane t 9 ∷ plane t 8 ∷ plane t 7 ∷ plane t 6 ∷ plane t 5 ∷ plane t 4 ∷ plane t 3 ∷ plane t 2 ∷ plane t 1 ∷ plane t 0 ∷ [] in
    let v = c.bytes_of.result ∷ c.bytes_of-2.result ∷ c.bytes_of-3.result ∷ c.bytes_of-4.result ∷ [] in
    let one = c.block_times_x-p.ensures in
    let two = c.block_times_x-q.ensures ∙ ap block_times_x one in
    let three = c.block_times_x-r.ensures ∙ ap block_times_x two in
    let bytes : (b : ℕ) → b < 16 → cell c.sums_of.result n (15 - b) ≡ get_or (bytes_high_first 16 (four_bits p 0 n)) b 0 = λ b lt.
    let f = λ (m : ℕ). get_or (bytes_high_first 16 m) b 0 in
    let g = λ (j : ℕ). cell v j (15 - b) in
    c.sums_of.ensures n (15 - b) few (omega arith)
    ∙ four_kept f g p 0 0 n (byte_linear b lt) (below_four (λ j. g (4 * 0 + j) ≡ f (p (4 * 0 + j))) (c.bytes_of.ensures b lt) (c.bytes_of-2.ensures b lt ∙ ap f one) (c.bytes_of-3.ensures b lt ∙ ap f two) (c.bytes_of-4.ensures b lt ∙ ap f three)) in
    below_sixteen (λ b. cell s b n ≡ get_or (bytes_high_first 16 (four_bits p 0 n)) b 0)
    (c.turned.ensures 15 n (omega arith) few ∙ bytes 0 (omega arith))
    (c.turned.ensures 14 n (omega arith) few ∙ bytes 1 (omega arith))
    (c.turned.ensures 13 n (omega arith) few ∙ bytes 2 (omega arith))
    (c.turned.ensures 12 n (omega arith) few ∙ bytes 3 (omega arith))
    (c.turned.ensures 11 n (omega arith) few ∙ bytes 4 (omega arith))
    (c.turned.ensures 10 n (omega arith) few ∙ bytes 5 (omega arith))
    (c.turned.ensures 9 n (omega arith) few ∙ bytes 6 (omega arith))
    (c.turned.ensures 8 n (omega arith) few ∙ bytes 7 (omega arith))
    (c.turned.ensures 7 n (omega arith) few ∙ bytes 8 (omega arith))
    (c.turned.ensures 6 n (omega arith) few ∙ bytes 9 (omega arith))
    (c.turned.ensures 5 n (omega arith) few ∙ bytes 10 (omega arith))
    (c.turned.ensures 4 n (omega arith) few ∙ bytes 11 (omega arith))
    (c.turned.ensures 3 n (omega arith) few ∙ bytes 12 (omega arith))
    (c.turned.ensures 2 n (omega arith) few ∙ bytes 13 (omega arith))
    (c.turned.ensures 1 n (omega arith) few ∙ bytes 14 (omega arith))
    (c.turned.ensures 0 n (omega arith) few ∙ bytes 15 (omega arith))
    b lt
