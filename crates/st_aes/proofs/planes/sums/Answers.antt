use Rattle.std.proofs.Common.{refl}
use Rattle.st_aes.specs.SBox.{sums}
use Rattle.st_aes.proofs.planes.sums.Goals as goal

pub returns : goal.returns
unfolding sums
returns c l j lt few =
    rw (
      c.not.ensures l j lt few,
      c.not-2.ensures l j lt few,
      c.not-3.ensures l j lt few,
      c.not-4.ensures l j lt few,
      c.xor-s2.ensures l j lt,
      c.xor-s1.ensures l j lt,
      c.xor-s5.ensures l j lt,
      c.xor-s4.ensures l j lt,
      c.xor-s3.ensures l j lt,
      c.xor-t67.ensures l j lt,
      c.xor-s7.ensures l j lt,
      c.xor-s6.ensures l j lt,
      c.xor-s0.ensures l j lt,
      c.xor-t66.ensures l j lt,
      c.xor-t65.ensures l j lt,
      c.xor-t64.ensures l j lt,
      c.xor-t63.ensures l j lt,
      c.xor-t62.ensures l j lt,
      c.xor-t61.ensures l j lt,
      c.xor-t60.ensures l j lt,
      c.xor-t59.ensures l j lt,
      c.xor-t58.ensures l j lt,
      c.xor-t57.ensures l j lt,
      c.xor-t56.ensures l j lt,
      c.xor-t55.ensures l j lt,
      c.xor-t54.ensures l j lt,
      c.xor-t53.ensures l j lt,
      c.xor-t52.ensures l j lt,
      c.xor-t51.ensures l j lt,
      c.xor-t50.ensures l j lt,
      c.xor-t49.ensures l j lt,
      c.xor-t48.ensures l j lt,
      c.xor-t47.ensures l j lt,
      c.xor-t46.ensures l j lt,
    ) refl
