use Rattle.std.proofs.Common.{refl}
use Rattle.st_aes.specs.SBox.{factors}
use Rattle.st_aes.proofs.wide_planes.factors.Goals as goal

pub returns : goal.returns
unfolding factors
returns c l j lt =
    rw (
      c.xor-y18.ensures l j lt,
      c.xor-y21.ensures l j lt,
      c.xor-y16.ensures l j lt,
      c.xor-y19.ensures l j lt,
      c.xor-y17.ensures l j lt,
      c.xor-y7.ensures l j lt,
      c.xor-y11.ensures l j lt,
      c.xor-y10.ensures l j lt,
      c.xor-y6.ensures l j lt,
      c.xor-y20.ensures l j lt,
      c.xor-y15.ensures l j lt,
      c.xor-t1.ensures l j lt,
      c.xor-y3.ensures l j lt,
      c.xor-y5.ensures l j lt,
      c.xor-y2.ensures l j lt,
      c.xor-y12.ensures l j lt,
      c.xor-y4.ensures l j lt,
      c.xor-y1.ensures l j lt,
      c.xor-t0.ensures l j lt,
      c.xor-y8.ensures l j lt,
      c.xor-y9.ensures l j lt,
      c.xor-y13.ensures l j lt,
      c.xor-y14.ensures l j lt,
    ) refl
