-- How much money may be sent below a receive max that the peer advertised.
use Rattle.std.proofs.Common.{◌≡◌, ℕ, suc, ◌+◌, ◌*◌, ◌<◌, ◌≤◌, List, [], ◌∷◌, length, subst, sym, arith, Option, Some}
use Rattle.std.specs.List.{sum_by}
use Rattle.std.proofs.lemmas.List.Sums.{sum_by-cons}
use Rattle.std.proofs.lemmas.Nat.{mul-le}
use Rattle.std.proofs.Math.Nat.{lt-div-mul-add}
use Rattle.st_oer.specs.Ratios.{Ratio, IsRatio, exchanged}
use Rattle.st_frames.specs.Told.{money_in}
use Rattle.st_sender.specs.Sending.{Outgoing, Load, Sending, outgoing_at}
use Rattle.st_sender.specs.Flights.{flying_least, room_for}
use Rattle.st_sender.specs.Loads.{Fits, MoneyFits}
use Rattle.st_sender.specs.Fairness.{Sent}
use Rattle.st_sender.specs.ReceiveMax.{left_of, KeepsTo, WentTo, AllWentTo, AllKeepTo, money_to, counted_to, MoneyStopsAtTheReceiveMax}

-- an amount is worth less than what arrives of it and a unit
less_than_next : (r : Ratio) → IsRatio r → (n : ℕ) → n * r.num < exchanged r n * r.den + r.den
less_than_next r is n = lt-div-mul-add {a = n * r.num} {b = r.den} is.1

fits_told : (s : Sending) (room k : ℕ) (x : Outgoing) (p : Load) (receive_max received : ℕ) → Fits s room p → outgoing_at s k ≡ Some x → x.advertised_money ≡ Some (receive_max, received) → room_for s.config.least (money_in k p.frames) ≤ left_of s k receive_max received
fits_told s room k x p receive_max received fits at told = subst (λ (o : Option (ℕ × ℕ)). MoneyFits o (flying_least s k) (room_for s.config.least (money_in k p.frames))) told (fits.money k x at)

keeps : (r : Ratio) → IsRatio r → (left amount : ℕ) → room_for r amount ≤ left → KeepsTo r left amount
keeps r is left amount h = record {
  stops = λ none. omega (arith, h, none);
  beyond = (let q = mul-le (exchanged r amount) r.den left r.den (omega (arith, h)) (omega arith) in omega (arith, q, less_than_next r is amount));
}

-- one packet more
more_paid : (m rest counted others loads num den : ℕ) → m * num + 1 ≤ counted * den + den → rest * num + loads ≤ (others + loads) * den → (m + rest) * num + suc loads ≤ ((counted + others) + suc loads) * den
more_paid m rest counted others loads num den one all = omega (arith, one, all)

paid_for : (r : Ratio) → IsRatio r → (k : ℕ) (loads : List Sent) → sum_by (money_to k) loads * r.num + length loads ≤ (sum_by (counted_to r k) loads + length loads) * r.den
paid_for r is k [] = omega arith
paid_for r is k (a ∷ more) =
    let m = sum_by-cons (money_to k) a more in
    let c = sum_by-cons (counted_to r k) a more in
    let step = more_paid (money_to k a) (sum_by (money_to k) more) (counted_to r k a) (sum_by (counted_to r k) more) (length more) r.num r.den (omega (arith, less_than_next r is (money_to k a))) (paid_for r is k more) in
    subst (λ n. n * r.num + suc (length more) ≤ (sum_by (counted_to r k) (a ∷ more) + suc (length more)) * r.den) (sym m) (subst (λ n. (money_to k a + sum_by (money_to k) more) * r.num + suc (length more) ≤ (n + suc (length more)) * r.den) (sym c) step)

counts_once : (r : Ratio) (most k counted : ℕ) (a : Sent) → counted ≤ most → WentTo r most k counted a → counted + counted_to r k a ≤ most
counts_once r most k counted a h w =
    let fits = subst (λ (q : Ratio). room_for q (money_to k a) ≤ left_of a.before k w.receive_max w.received) w.rate (fits_told a.before w.room k w.stream a.load w.receive_max w.received w.fits w.is_open w.told) in
    omega (arith, h, fits, w.within, w.known)

counts : (r : Ratio) (most k counted : ℕ) (loads : List Sent) → counted ≤ most → AllWentTo r most k counted loads → counted + sum_by (counted_to r k) loads ≤ most
counts r most k counted [] h w = omega (arith, h)
counts r most k counted (a ∷ more) h w =
    omega (arith, sum_by-cons (counted_to r k) a more, counts r most k (counted + counted_to r k a) more (counts_once r most k counted a h w.0) w.1)

keep_to : (r : Ratio) (most k : ℕ) (loads : List Sent) → IsRatio r → AllWentTo r most k 0 loads → AllKeepTo r most k loads
keep_to r most k loads is w =
    let c : sum_by (counted_to r k) loads ≤ most = omega (arith, counts r most k 0 loads (omega arith) w) in
    let q = mul-le (sum_by (counted_to r k) loads + length loads) r.den (most + length loads) r.den (omega (arith, c)) (omega arith) in
    record { counted = c; paid = omega (arith, q, paid_for r is k loads) }

pub stopped_at_max : MoneyStopsAtTheReceiveMax
stopped_at_max = record {
  each = λ s room k x p receive_max received is fits at told. keeps s.config.least is (left_of s k receive_max received) (money_in k p.frames) (fits_told s room k x p receive_max received fits at told);
  all = keep_to;
}
