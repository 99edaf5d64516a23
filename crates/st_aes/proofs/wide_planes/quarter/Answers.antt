use Rattle.std.proofs.Common.{refl}
use Rattle.st_aes.specs.SBox.{quarter}
use Rattle.st_aes.proofs.wide_planes.quarter.Goals as goal

pub returns : goal.returns
unfolding quarter
returns c l j lt =
    rw (
      c.xor-t24.ensures l j lt,
      c.xor-t23.ensures l j lt,
      c.xor-t22.ensures l j lt,
      c.xor-t21.ensures l j lt,
      c.xor-t20.ensures l j lt,
      c.xor-t19.ensures l j lt,
      c.xor-t18.ensures l j lt,
      c.xor-t17.ensures l j lt,
      c.xor-t16.ensures l j lt,
      c.and-t15.ensures l j lt,
      c.xor-t14.ensures l j lt,
      c.and-t13.ensures l j lt,
      c.and-t12.ensures l j lt,
      c.xor-t11.ensures l j lt,
      c.and-t10.ensures l j lt,
      c.xor-t9.ensures l j lt,
      c.and-t8.ensures l j lt,
      c.and-t7.ensures l j lt,
      c.xor-t6.ensures l j lt,
      c.and-t5.ensures l j lt,
      c.xor-t4.ensures l j lt,
      c.and-t3.ensures l j lt,
      c.and-t2.ensures l j lt,
    ) refl
