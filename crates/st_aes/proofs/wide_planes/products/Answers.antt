use Rattle.std.proofs.Common.{refl}
use Rattle.st_aes.specs.SBox.{products}
use Rattle.st_aes.proofs.wide_planes.products.Goals as goal

pub returns : goal.returns
unfolding products
returns c l j lt =
    rw (
      c.and-z17.ensures l j lt,
      c.and-z16.ensures l j lt,
      c.and-z15.ensures l j lt,
      c.and-z14.ensures l j lt,
      c.and-z13.ensures l j lt,
      c.and-z12.ensures l j lt,
      c.and-z11.ensures l j lt,
      c.and-z10.ensures l j lt,
      c.and-z9.ensures l j lt,
      c.and-z8.ensures l j lt,
      c.and-z7.ensures l j lt,
      c.and-z6.ensures l j lt,
      c.and-z5.ensures l j lt,
      c.and-z4.ensures l j lt,
      c.and-z3.ensures l j lt,
      c.and-z2.ensures l j lt,
      c.and-z1.ensures l j lt,
      c.and-z0.ensures l j lt,
    ) refl
