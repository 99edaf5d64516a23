use Rattle.std.proofs.Common.{arith, ap, ◌≡◌, ℕ, length, take, drop, zero, suc, zero-add, refl, ◌+◌, ◌-◌, List, [], ◌∷◌, ◌++◌, ◌∙◌}
use Rattle.std.proofs.lemmas.Grind.{common_steps}
use Rattle.std.proofs.KnownBytes.{Appends-trans}
use Rattle.st_devices.specs.Tallies.{device_of}
use Rattle.st_devices.proofs.turn.put_all.Goals as goal

take_sum : (i n : ℕ) (s : List ℕ) → take i s ++ take n (drop i s) ≡ take (i + n) s
take_sum zero n s = rw zero-add refl
take_sum (suc i) n [] = grind (arith, common_steps)
take_sum (suc i) n (b ∷ s) = let e : suc i + n ≡ suc (i + n) = omega arith in rw e (ap (λ v. b ∷ v) (take_sum i n s))

whole : (i : ℕ) (s : List ℕ) → take (length s - i) (drop i s) ≡ drop i s
whole i s = grind (arith, common_steps)

pub loop-sent-preserved-in-Moved : goal.loop-sent-preserved-in-Moved
loop-sent-preserved-in-Moved g c =
    let h = rw (whole c.loop-sent.sent c.args.text.now) at c.in-Moved.ensures in
    record {
      within = grind (arith, common_steps, h.0);
      written = rw (← take_sum c.loop-sent.sent c.in-Moved.n c.args.text.now) (Appends-trans (g.T.Write.contents (device_of c.args.writer.now)) (g.T.Write.contents (device_of c.loop-sent.writer)) (g.T.Write.contents (device_of c.write_turn.new.writer)) _ _ c.loop-sent.invariant.written h.1);
      faults = h.2.faults ∙ c.loop-sent.invariant.faults;
      spent = record { fewer = omega (arith, c.loop-sent.invariant.spent.fewer); calls = omega (arith, h.2.calls, c.loop-sent.invariant.spent.calls, c.loop-sent.invariant.spent.fewer, c.if-turns-eq0.false) };
    }
