use Rattle.std.proofs.Common.{◌≡◌, ◌<◌, refl, arith}
use Rattle.st_aes.specs.Planes.{column_turned}
use Rattle.st_aes.proofs.Steps.{mixed_is, mix_bits}
use Rattle.st_aes.proofs.wide_planes.mixed.Goals as goal

pub returns : goal.returns
unfolding mix_bits
returns c g j two few =
    mixed_is 32 c.args.q _ g j (omega arith) (λ l lt.
    let m = column_turned 2 l in
    let low : m < 32 = omega arith in
    let three : column_turned 1 m ≡ column_turned 3 l = omega arith in
    rw (
      c.xor.ensures l j lt,
      c.xor-2.ensures l j lt,
      c.xor-3.ensures l j lt,
      c.xor-4.ensures l j lt,
      c.xor-5.ensures l j lt,
      c.xor-6.ensures l j lt,
      c.xor-7.ensures l j lt,
      c.xor-8.ensures l j lt,
      c.xor-v0.ensures l j lt,
      c.xor-v2.ensures l j lt,
      c.xor-v3.ensures l j lt,
      c.xor-u0.ensures l j lt,
      c.xor-u1.ensures l j lt,
      c.xor-u2.ensures l j lt,
      c.xor-u3.ensures l j lt,
      c.xor-u4.ensures l j lt,
      c.xor-u5.ensures l j lt,
      c.xor-u6.ensures l j lt,
      c.xor-u7.ensures l j lt,
      c.two_down-d0.ensures l j lt,
      c.two_down-d1.ensures l j lt,
      c.two_down-d2.ensures l j lt,
      c.two_down-d3.ensures l j lt,
      c.two_down-d4.ensures l j lt,
      c.two_down-d5.ensures l j lt,
      c.two_down-d6.ensures l j lt,
      c.two_down-d7.ensures l j lt,
      c.xor-t0.ensures l j lt,
      c.xor-t1.ensures l j lt,
      c.xor-t2.ensures l j lt,
      c.xor-t3.ensures l j lt,
      c.xor-t4.ensures l j lt,
      c.xor-t5.ensures l j lt,
      c.xor-t6.ensures l j lt,
      c.xor-t7.ensures l j lt,
      c.xor-t0.ensures m j low,
      c.xor-t1.ensures m j low,
      c.xor-t2.ensures m j low,
      c.xor-t3.ensures m j low,
      c.xor-t4.ensures m j low,
      c.xor-t5.ensures m j low,
      c.xor-t6.ensures m j low,
      c.xor-t7.ensures m j low,
      c.one_down-r0.ensures l j lt,
      c.one_down-r1.ensures l j lt,
      c.one_down-r2.ensures l j lt,
      c.one_down-r3.ensures l j lt,
      c.one_down-r4.ensures l j lt,
      c.one_down-r5.ensures l j lt,
      c.one_down-r6.ensures l j lt,
      c.one_down-r7.ensures l j lt,
      c.one_down-r0.ensures m j low,
      c.one_down-r1.ensures m j low,
      c.one_down-r2.ensures m j low,
      c.one_down-r3.ensures m j low,
      c.one_down-r4.ensures m j low,
      c.one_down-r5.ensures m j low,
      c.one_down-r6.ensures m j low,
      c.one_down-r7.ensures m j low,
      three,
    ) refl)
