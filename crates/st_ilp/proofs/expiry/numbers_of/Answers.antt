use Rattle.std.proofs.Common.{◌≡◌, ◌+◌, ◌*◌, pos, arith, refl}
use Rattle.st_ilp.proofs.DateLemmas.{most_days}
use Rattle.st_ilp.proofs.expiry.numbers_of.Goals as goal

pub returns : goal.returns
returns c = λ m h e.
    let a = rw e at c.two_digits.ensures in
    let b = rw e at c.two_digits-2.ensures in
    let year : c.two_digits.result * 100 + c.two_digits-2.result ≡ m.year = omega (arith, a, b, h.year) in
    let month : c.two_digits-3.result ≡ m.month = (let k = rw e at c.two_digits-3.ensures in omega (arith, k, h.month)) in
    let day : c.two_digits-4.result ≡ m.day = (let k = rw e at c.two_digits-4.ensures in omega (arith, k, h.day, most_days (pos m.year) m.month)) in
    let hour : c.two_digits-5.result ≡ m.hour = (let k = rw e at c.two_digits-5.ensures in omega (arith, k, h.hour)) in
    let minute : c.two_digits-6.result ≡ m.minute = (let k = rw e at c.two_digits-6.ensures in omega (arith, k, h.minute)) in
    let second : c.two_digits-7.result ≡ m.second = (let k = rw e at c.two_digits-7.ensures in omega (arith, k, h.second)) in
    let last = rw e at c.saturating_sub.ensures in
    let milli : c.two_digits-8.result * 10 + c.from-ones.result ≡ m.milli = (let k = rw e at c.two_digits-8.ensures in omega (arith, k, last, c.from-ones.ensures, h.milli)) in
    rw (year, month, day, hour, minute, second, milli) refl
