use Rattle.std.proofs.Common.{◌≡◌, ◌<◌, [], ◌∷◌, get_or}
use Rattle.st_aes.specs.Planes.{plane}
use Rattle.st_aes.specs.Rows.{added_byte}
use Rattle.st_aes.proofs.Bits.{below_eight}
use Rattle.st_aes.proofs.rows.step.Goals as goal

pub returns-clause-sum : goal.returns-clause-sum
returns-clause-sum c k l few lt =
    let r = c.added.result ∷ c.added-2.result ∷ c.added-3.result ∷ c.added-4.result ∷ c.added-5.result ∷ c.added-6.result ∷ c.added-7.result ∷ c.added-8.result ∷ [] in
    below_eight (λ k. get_or (plane r k) l 0 ≡ added_byte c.args.t.now (get_or c.args.v l 0) c.args.m k l (get_or (plane c.args.acc k) l 0))
    (c.added.ensures.sum l lt) (c.added-2.ensures.sum l lt) (c.added-3.ensures.sum l lt) (c.added-4.ensures.sum l lt) (c.added-5.ensures.sum l lt) (c.added-6.ensures.sum l lt) (c.added-7.ensures.sum l lt) (c.added-8.ensures.sum l lt) k few

pub returns-clause-bytes : goal.returns-clause-bytes
returns-clause-bytes c k l few =
    let r = c.added.result ∷ c.added-2.result ∷ c.added-3.result ∷ c.added-4.result ∷ c.added-5.result ∷ c.added-6.result ∷ c.added-7.result ∷ c.added-8.result ∷ [] in
    below_eight (λ k. get_or (plane r k) l 0 < 256) (c.added.ensures.bytes l) (c.added-2.ensures.bytes l) (c.added-3.ensures.bytes l) (c.added-4.ensures.bytes l) (c.added-5.ensures.bytes l) (c.added-6.ensures.bytes l) (c.added-7.ensures.bytes l) (c.added-8.ensures.bytes l) k few
