use Rattle.std.proofs.Common.{◌≡◌, [], ◌∷◌, ◌+◌, ◌*◌, ◌/◌, ◌%◌}
use Rattle.st_aes.specs.Planes.{plane}
use Rattle.st_aes.specs.Rows.{cell}
use Rattle.st_aes.proofs.Lookups.{below_sixteen, pair_front, pair_back}
use Rattle.st_aes.proofs.factor_tables.paired.Goals as goal

pub returns : goal.returns
returns c b n lt few =
    let s = c.args.s in
    let r = c.pair.result ∷ c.pair-2.result ∷ c.pair-3.result ∷ c.pair-4.result ∷ c.pair-5.result ∷ c.pair-6.result ∷ c.pair-7.result ∷ c.pair-8.result ∷ [] in
    below_sixteen (λ b. cell r (b % 8) (16 * (b / 8) + n) ≡ cell s b n)
    (pair_front c.pair.result (plane s 0) (plane s 8) n few c.pair.ensures.pair)
    (pair_front c.pair-2.result (plane s 1) (plane s 9) n few c.pair-2.ensures.pair)
    (pair_front c.pair-3.result (plane s 2) (plane s 10) n few c.pair-3.ensures.pair)
    (pair_front c.pair-4.result (plane s 3) (plane s 11) n few c.pair-4.ensures.pair)
    (pair_front c.pair-5.result (plane s 4) (plane s 12) n few c.pair-5.ensures.pair)
    (pair_front c.pair-6.result (plane s 5) (plane s 13) n few c.pair-6.ensures.pair)
    (pair_front c.pair-7.result (plane s 6) (plane s 14) n few c.pair-7.ensures.pair)
    (pair_front c.pair-8.result (plane s 7) (plane s 15) n few c.pair-8.ensures.pair)
    (pair_back c.pair.result (plane s 0) (plane s 8) n few c.pair.ensures.pair)
    (pair_back c.pair-2.result (plane s 1) (plane s 9) n few c.pair-2.ensures.pair)
    (pair_back c.pair-3.result (plane s 2) (plane s 10) n few c.pair-3.ensures.pair)
    (pair_back c.pair-4.result (plane s 3) (plane s 11) n few c.pair-4.ensures.pair)
    (pair_back c.pair-5.result (plane s 4) (plane s 12) n few c.pair-5.ensures.pair)
    (pair_back c.pair-6.result (plane s 5) (plane s 13) n few c.pair-6.ensures.pair)
    (pair_back c.pair-7.result (plane s 6) (plane s 14) n few c.pair-7.ensures.pair)
    (pair_back c.pair-8.result (plane s 7) (plane s 15) n few c.pair-8.ensures.pair)
    b lt
