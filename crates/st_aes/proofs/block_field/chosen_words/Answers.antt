use Rattle.std.proofs.Common.{◌≡◌, ℕ, ◌+◌, ◌-◌, ◌*◌, ◌<◌, eqb, cond, get_or, bit_xor, bit_and, ap, sym, refl, ◌∙◌, arith}
use Rattle.std.specs.Int.{bit_at}
use Rattle.std.proofs.lemmas.Simd.{get_or-replicate}
use Rattle.st_aes.specs.ByteField.{xor_sum}
use Rattle.st_aes.specs.BlockField.{chosen_words}
use Rattle.st_aes.proofs.Masks.{below_four, lane_more, lower_mask, same_four, four_lanes}
use Rattle.st_aes.proofs.block_field.chosen_words.Goals as goal

pub loop-i-init : goal.loop-i-init
loop-i-init c = record { bits = λ lt. below_four _ refl refl refl refl; highs = below_four _ refl refl refl refl; lows = below_four _ refl refl refl refl }

pub loop-i-preserved : goal.loop-i-preserved
loop-i-preserved c =
    let l = c.loop-i in
    let start = c.args.start in
    let few : l.i < 16 = omega arith in
    record {
      bits = λ more k lt. c.lower-bits.ensures k lt ∙ lower_mask (get_or l.bits k 0) l.i k more lt (l.invariant.bits few k lt);
      highs = λ k lt.
          let words = c.args.high.now in
          let f = λ (i : ℕ). cond (eqb (bit_at c.args.x (63 - i)) 1) (get_or words (start + i) 0) 0 in
          let place : start + 4 * l.i + k ≡ start + (4 * l.i + k) = omega arith in
          let word = c.words_at.ensures k lt ∙ ap (λ (n : ℕ). get_or words n 0) place in
          lane_more f c.args.x (get_or l.bits k 0) (get_or words (start + (4 * l.i + k)) 0) (get_or l.highs k 0) (get_or c.with_chosen-highs.result k 0) l.i k (l.invariant.bits few k lt) refl (l.invariant.highs k lt)
          (c.with_chosen-highs.ensures k lt ∙ ap (λ (n : ℕ). bit_xor (get_or l.highs k 0) (cond (eqb (bit_and n (get_or l.bits k 0)) (get_or l.bits k 0)) (get_or c.words_at.result k 0) 0)) (get_or-replicate 4 k c.args.x 0 lt)
          ∙ ap (λ (w : ℕ). bit_xor (get_or l.highs k 0) (cond (eqb (bit_and c.args.x (get_or l.bits k 0)) (get_or l.bits k 0)) w 0)) word);
      lows = λ k lt.
          let words = c.args.low.now in
          let f = λ (i : ℕ). cond (eqb (bit_at c.args.x (63 - i)) 1) (get_or words (start + i) 0) 0 in
          let place : start + 4 * l.i + k ≡ start + (4 * l.i + k) = omega arith in
          let word = c.words_at-in-loop-i.ensures k lt ∙ ap (λ (n : ℕ). get_or words n 0) place in
          lane_more f c.args.x (get_or l.bits k 0) (get_or words (start + (4 * l.i + k)) 0) (get_or l.lows k 0) (get_or c.with_chosen-lows.result k 0) l.i k (l.invariant.bits few k lt) refl (l.invariant.lows k lt)
          (c.with_chosen-lows.ensures k lt ∙ ap (λ (n : ℕ). bit_xor (get_or l.lows k 0) (cond (eqb (bit_and n (get_or l.bits k 0)) (get_or l.bits k 0)) (get_or c.words_at-in-loop-i.result k 0) 0)) (get_or-replicate 4 k c.args.x 0 lt)
          ∙ ap (λ (w : ℕ). bit_xor (get_or l.lows k 0) (cond (eqb (bit_and c.args.x (get_or l.bits k 0)) (get_or l.bits k 0)) w 0)) word);
    }

pub returns-clause-upper : goal.returns-clause-upper
unfolding chosen_words
returns-clause-upper c =
    let l = c.loop-i in
    let f = λ (i : ℕ). cond (eqb (bit_at c.args.x (63 - i)) 1) (get_or c.args.high.now (c.args.start + i) 0) 0 in
    let done : l.i ≡ 16 = omega arith in
    let e = λ (k : ℕ) (lt : k < 4). l.invariant.highs k lt ∙ ap (xor_sum (λ i. f (4 * i + k))) done in
    same_four _ _ _ _ _ _ _ _ (e 0 (omega arith)) (e 1 (omega arith)) (e 2 (omega arith)) (e 3 (omega arith)) ∙ sym (four_lanes f 16)

pub returns-clause-lower : goal.returns-clause-lower
unfolding chosen_words
returns-clause-lower c =
    let l = c.loop-i in
    let f = λ (i : ℕ). cond (eqb (bit_at c.args.x (63 - i)) 1) (get_or c.args.low.now (c.args.start + i) 0) 0 in
    let done : l.i ≡ 16 = omega arith in
    let e = λ (k : ℕ) (lt : k < 4). l.invariant.lows k lt ∙ ap (xor_sum (λ i. f (4 * i + k))) done in
    same_four _ _ _ _ _ _ _ _ (e 0 (omega arith)) (e 1 (omega arith)) (e 2 (omega arith)) (e 3 (omega arith)) ∙ sym (four_lanes f 16)
