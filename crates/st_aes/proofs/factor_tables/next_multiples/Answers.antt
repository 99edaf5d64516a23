use Rattle.std.proofs.Common.{◌≡◌, ℕ, [], ◌∷◌, get_or, bit_xor, ap, sym, ◌∙◌, arith}
use Rattle.std.specs.Int.{bytes_high_first}
use Rattle.st_aes.specs.BlockField.{block_times_power, four_bits}
use Rattle.st_aes.specs.Rows.{cell}
use Rattle.st_aes.proofs.Lookups.{below_sixteen}
use Rattle.st_aes.proofs.Sixteen.{four_small}
use Rattle.st_aes.proofs.Fours.{first_byte_times, second_byte_times, later_byte_times, four_next}
use Rattle.st_aes.proofs.factor_tables.next_multiples.Goals as goal

pub returns : goal.returns
returns c y i lt h b n low few =
    let v = four_bits (block_times_power y) i n in
    let small = four_small y i n lt in
    let r = c.added.result ∷ c.added-2.result ∷ c.lower-2.result ∷ c.lower-3.result ∷ c.lower-4.result ∷ c.lower-5.result ∷ c.lower-6.result ∷ c.lower-7.result ∷ c.lower-8.result ∷ c.lower-9.result ∷ c.lower-10.result ∷ c.lower-11.result ∷ c.lower-12.result ∷ c.lower-13.result ∷ c.lower-14.result ∷ c.lower-15.result ∷ [] in
    below_sixteen (λ b. cell r b n ≡ get_or (bytes_high_first 16 (block_times_power v 4)) b 0)
    (first_byte_times v _ _ _ small (h 0 n (omega arith) few) (h 15 n (omega arith) few) (c.added.ensures n few ∙ ap (λ (m : ℕ). bit_xor m (get_or c.first_folded.result n 0)) (c.high.ensures n few) ∙ ap (bit_xor _) (c.first_folded.ensures n few)))
    (second_byte_times v _ _ _ _ (h 0 n (omega arith) few) (h 1 n (omega arith) few) (h 15 n (omega arith) few) (c.added-2.ensures n few ∙ ap (λ (m : ℕ). bit_xor m (get_or c.second_folded.result n 0)) (c.lower.ensures n few) ∙ ap (bit_xor _) (c.second_folded.ensures n few)))
    (later_byte_times v 0 _ _ _ (omega arith) (h 1 n (omega arith) few) (h 2 n (omega arith) few) (c.lower-2.ensures n few))
    (later_byte_times v 1 _ _ _ (omega arith) (h 2 n (omega arith) few) (h 3 n (omega arith) few) (c.lower-3.ensures n few))
    (later_byte_times v 2 _ _ _ (omega arith) (h 3 n (omega arith) few) (h 4 n (omega arith) few) (c.lower-4.ensures n few))
    (later_byte_times v 3 _ _ _ (omega arith) (h 4 n (omega arith) few) (h 5 n (omega arith) few) (c.lower-5.ensures n few))
    (later_byte_times v 4 _ _ _ (omega arith) (h 5 n (omega arith) few) (h 6 n (omega arith) few) (c.lower-6.ensures n few))
    (later_byte_times v 5 _ _ _ (omega arith) (h 6 n (omega arith) few) (h 7 n (omega arith) few) (c.lower-7.ensures n few))
    (later_byte_times v 6 _ _ _ (omega arith) (h 7 n (omega arith) few) (h 8 n (omega arith) few) (c.lower-8.ensures n few))
    (later_byte_times v 7 _ _ _ (omega arith) (h 8 n (omega arith) few) (h 9 n (omega arith) few) (c.lower-9.ensures n few))
    (later_byte_times v 8 _ _ _ (omega arith) (h 9 n (omega arith) few) (h 10 n (omega arith) few) (c.lower-10.ensures n few))
    (later_byte_times v 9 _ _ _ (omega arith) (h 10 n (omega arith) few) (h 11 n (omega arith) few) (c.lower-11.ensures n few))
    (later_byte_times v 10 _ _ _ (omega arith) (h 11 n (omega arith) few) (h 12 n (omega arith) few) (c.lower-12.ensures n few))
    (later_byte_times v 11 _ _ _ (omega arith) (h 12 n (omega arith) few) (h 13 n (omega arith) few) (c.lower-13.ensures n few))
    (later_byte_times v 12 _ _ _ (omega arith) (h 13 n (omega arith) few) (h 14 n (omega arith) few) (c.lower-14.ensures n few))
    (later_byte_times v 13 _ _ _ (omega arith) (h 14 n (omega arith) few) (h 15 n (omega arith) few) (c.lower-15.ensures n few))
    b low
    ∙ ap (λ (m : ℕ). get_or (bytes_high_first 16 m) b 0) (sym (four_next y i n))
