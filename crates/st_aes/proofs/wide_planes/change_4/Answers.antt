use Rattle.std.proofs.Common.{◌≡◌, arith}
use Rattle.st_aes.specs.Planes.{bit, changed_low, changed_high}
use Rattle.st_aes.proofs.Bits.{below_eight, bit_small, kept, none, moved_in, moved_up}
use Rattle.st_aes.proofs.wide_planes.change_4.Goals as goal

pub returns-clause-first : goal.returns-clause-first
returns-clause-first c l j lt few =
    below_eight (λ j. bit c.xor.result l j ≡ changed_low c.args.a c.args.b 4 l j)
    (kept (bit c.xor.result l 0) (bit c.args.a l 0) _ (c.xor.ensures l 0 lt) (c.left_4-back.ensures l 0 lt (omega arith)))
    (kept (bit c.xor.result l 1) (bit c.args.a l 1) _ (c.xor.ensures l 1 lt) (c.left_4-back.ensures l 1 lt (omega arith)))
    (kept (bit c.xor.result l 2) (bit c.args.a l 2) _ (c.xor.ensures l 2 lt) (c.left_4-back.ensures l 2 lt (omega arith)))
    (kept (bit c.xor.result l 3) (bit c.args.a l 3) _ (c.xor.ensures l 3 lt) (c.left_4-back.ensures l 3 lt (omega arith)))
    (moved_in (bit c.xor.result l 4) (bit c.args.a l 4) (bit c.args.b l 0) _ _ _ _ (c.xor.ensures l 4 lt) (c.left_4-back.ensures l 4 lt (omega arith)) (c.and_byte-t.ensures l 0 lt) (c.xor-sum.ensures l 0 lt) (c.right_4-moved.ensures l 0 lt) (bit_small c.args.a l 4) (bit_small c.args.b l 0))
    (moved_in (bit c.xor.result l 5) (bit c.args.a l 5) (bit c.args.b l 1) _ _ _ _ (c.xor.ensures l 5 lt) (c.left_4-back.ensures l 5 lt (omega arith)) (c.and_byte-t.ensures l 1 lt) (c.xor-sum.ensures l 1 lt) (c.right_4-moved.ensures l 1 lt) (bit_small c.args.a l 5) (bit_small c.args.b l 1))
    (moved_in (bit c.xor.result l 6) (bit c.args.a l 6) (bit c.args.b l 2) _ _ _ _ (c.xor.ensures l 6 lt) (c.left_4-back.ensures l 6 lt (omega arith)) (c.and_byte-t.ensures l 2 lt) (c.xor-sum.ensures l 2 lt) (c.right_4-moved.ensures l 2 lt) (bit_small c.args.a l 6) (bit_small c.args.b l 2))
    (moved_in (bit c.xor.result l 7) (bit c.args.a l 7) (bit c.args.b l 3) _ _ _ _ (c.xor.ensures l 7 lt) (c.left_4-back.ensures l 7 lt (omega arith)) (c.and_byte-t.ensures l 3 lt) (c.xor-sum.ensures l 3 lt) (c.right_4-moved.ensures l 3 lt) (bit_small c.args.a l 7) (bit_small c.args.b l 3))
    j few

pub returns-clause-second : goal.returns-clause-second
returns-clause-second c l j lt few =
    below_eight (λ j. bit c.xor-2.result l j ≡ changed_high c.args.a c.args.b 4 l j)
    (moved_up (bit c.xor-2.result l 0) (bit c.args.a l 4) (bit c.args.b l 0) _ _ _ (c.xor-2.ensures l 0 lt) (c.and_byte-t.ensures l 0 lt) (c.xor-sum.ensures l 0 lt) (c.right_4-moved.ensures l 0 lt) (bit_small c.args.a l 4) (bit_small c.args.b l 0))
    (moved_up (bit c.xor-2.result l 1) (bit c.args.a l 5) (bit c.args.b l 1) _ _ _ (c.xor-2.ensures l 1 lt) (c.and_byte-t.ensures l 1 lt) (c.xor-sum.ensures l 1 lt) (c.right_4-moved.ensures l 1 lt) (bit_small c.args.a l 5) (bit_small c.args.b l 1))
    (moved_up (bit c.xor-2.result l 2) (bit c.args.a l 6) (bit c.args.b l 2) _ _ _ (c.xor-2.ensures l 2 lt) (c.and_byte-t.ensures l 2 lt) (c.xor-sum.ensures l 2 lt) (c.right_4-moved.ensures l 2 lt) (bit_small c.args.a l 6) (bit_small c.args.b l 2))
    (moved_up (bit c.xor-2.result l 3) (bit c.args.a l 7) (bit c.args.b l 3) _ _ _ (c.xor-2.ensures l 3 lt) (c.and_byte-t.ensures l 3 lt) (c.xor-sum.ensures l 3 lt) (c.right_4-moved.ensures l 3 lt) (bit_small c.args.a l 7) (bit_small c.args.b l 3))
    (kept (bit c.xor-2.result l 4) (bit c.args.b l 4) _ (c.xor-2.ensures l 4 lt) (none _ _ (c.and_byte-t.ensures l 4 lt)))
    (kept (bit c.xor-2.result l 5) (bit c.args.b l 5) _ (c.xor-2.ensures l 5 lt) (none _ _ (c.and_byte-t.ensures l 5 lt)))
    (kept (bit c.xor-2.result l 6) (bit c.args.b l 6) _ (c.xor-2.ensures l 6 lt) (none _ _ (c.and_byte-t.ensures l 6 lt)))
    (kept (bit c.xor-2.result l 7) (bit c.args.b l 7) _ (c.xor-2.ensures l 7 lt) (none _ _ (c.and_byte-t.ensures l 7 lt)))
    j few
