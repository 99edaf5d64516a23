use Rattle.std.proofs.Common.{refl}
use Rattle.st_aes.specs.SBox.{quarter_inverse}
use Rattle.st_aes.proofs.wide_planes.quarter_inverse.Goals as goal

pub returns : goal.returns
unfolding quarter_inverse
returns c l j lt =
    rw (
      c.xor-t45.ensures l j lt,
      c.xor-t44.ensures l j lt,
      c.xor-t43.ensures l j lt,
      c.xor-t42.ensures l j lt,
      c.xor-t41.ensures l j lt,
      c.xor-t40.ensures l j lt,
      c.and-t39.ensures l j lt,
      c.xor-t38.ensures l j lt,
      c.xor-t37.ensures l j lt,
      c.and-t36.ensures l j lt,
      c.xor-t35.ensures l j lt,
      c.xor-t34.ensures l j lt,
      c.xor-t33.ensures l j lt,
      c.and-t32.ensures l j lt,
      c.xor-t31.ensures l j lt,
      c.xor-t30.ensures l j lt,
      c.xor-t29.ensures l j lt,
      c.and-t28.ensures l j lt,
      c.xor-t27.ensures l j lt,
      c.and-t26.ensures l j lt,
      c.xor-t25.ensures l j lt,
    ) refl
