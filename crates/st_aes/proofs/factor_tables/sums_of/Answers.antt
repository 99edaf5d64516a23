use Rattle.std.proofs.Common.{◌≡◌, ℕ, ◌<◌, [], ◌∷◌}
use Rattle.st_aes.specs.BlockField.{four_bits}
use Rattle.st_aes.specs.Rows.{cell}
use Rattle.st_aes.proofs.Lookups.{below_sixteen}
use Rattle.st_aes.proofs.factor_tables.sums_of.Goals as goal

pub returns : goal.returns
returns c n l few lt =
    let r = c.sum_at.result ∷ c.sum_at-2.result ∷ c.sum_at-3.result ∷ c.sum_at-4.result ∷ c.sum_at-5.result ∷ c.sum_at-6.result ∷ c.sum_at-7.result ∷ c.sum_at-8.result ∷ c.sum_at-9.result ∷ c.sum_at-10.result ∷ c.sum_at-11.result ∷ c.sum_at-12.result ∷ c.sum_at-13.result ∷ c.sum_at-14.result ∷ c.sum_at-15.result ∷ c.sum_at-16.result ∷ [] in
    let v = c.args.p ∷ c.args.q ∷ c.args.r ∷ c.args.s ∷ [] in
    below_sixteen (λ n. (l : ℕ) → l < 16 → cell r n l ≡ four_bits (λ j. cell v j l) 0 n) c.sum_at.ensures c.sum_at-2.ensures c.sum_at-3.ensures c.sum_at-4.ensures c.sum_at-5.ensures c.sum_at-6.ensures c.sum_at-7.ensures c.sum_at-8.ensures c.sum_at-9.ensures c.sum_at-10.ensures c.sum_at-11.ensures c.sum_at-12.ensures c.sum_at-13.ensures c.sum_at-14.ensures c.sum_at-15.ensures c.sum_at-16.ensures n few l lt
