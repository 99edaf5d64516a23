-- Nothing is left out without being counted, and ten lines a second are the most.
use Rattle.std.proofs.Common.{◌≡◌, ℕ, zero, suc, ◌+◌, ◌^◌, ◌<◌, [], ◌∷◌, refl, sym, ap, ◌∙◌, arith}
use Rattle.std.proofs.lemmas.Bool.{eq-eqb}
use Rattle.st_devices.specs.Faults.{count_after}
use Rattle.ilpstream_log.specs.Laws.{EventsAreCounted, TenASecond}
use Rattle.ilpstream_log.specs.Pacing.{Slot, written_in}
use Rattle.ilpstream_log.specs.declared.pace.Verdict.TheVariants.{Write, LeaveOut}

one_more : (n : ℕ) → n + 1 < 2 ^ 64 → count_after 1 n ≡ n + 1
one_more n h = omega arith

pub counted : EventsAreCounted
counted old new [] [] is h =
    let same : new.left ≡ old.left = ap (λ (s : Slot). s.left) is in
    omega (arith, same)
counted old new (second ∷ seconds) (Write more ∷ verdicts) (mid, (few, told, now), run) h =
    let none : mid.left ≡ 0 = ap (λ (s : Slot). s.left) now in
    let rest = counted mid new seconds verdicts run (omega (arith, none, h)) in
    omega (arith, none, told, rest)
counted old new (second ∷ seconds) (LeaveOut ∷ verdicts) (mid, (many, now), run) h =
    let up : mid.left ≡ old.left + 1 = ap (λ (s : Slot). s.left) now ∙ one_more old.left (omega (arith, h)) in
    let rest = counted mid new seconds verdicts run (omega (arith, up, h)) in
    omega (arith, up, rest)
counted old new [] (v ∷ verdicts) is h = absurd is
counted old new (second ∷ seconds) [] is h = absurd is

same_second : (s : Slot) (second : ℕ) → s.second ≡ second → written_in s second ≡ s.written
same_second s second e = rw (eq-eqb second s.second (sym e)) refl

pub ten : TenASecond
ten old new second zero [] is h = omega (arith, h)
ten old new second (suc count) (Write more ∷ verdicts) (mid, (few, told, now), run) h =
    let at : mid.second ≡ second = ap (λ (s : Slot). s.second) now in
    let many : mid.written ≡ written_in old second + 1 = ap (λ (s : Slot). s.written) now in
    let here : written_in mid second ≡ mid.written = same_second mid second at in
    let rest = ten mid new second count verdicts run (omega (arith, here, many, few)) in
    omega (arith, here, many, rest)
ten old new second (suc count) (LeaveOut ∷ verdicts) (mid, (many, now), run) h =
    let same : written_in mid second ≡ written_in old second = ap (λ (s : Slot). written_in s second) now in
    let rest = ten mid new second count verdicts run (omega (arith, same, h)) in
    omega (arith, same, rest)
ten old new second zero (v ∷ verdicts) is h = absurd is
ten old new second (suc count) [] is h = absurd is
