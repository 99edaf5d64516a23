-- Events one after another, and the parts of a schedule by one more at their end.
use Rattle.std.proofs.Common.{◌≡◌, ℕ, zero, suc, ◌+◌, ◌-◌, ◌/◌, ◌%◌, ◌<◌, ◌≤◌, Bool, true, false, List, [], ◌∷◌, ◌++◌, length, take, drop, refl, sym, ap, subst, ◌∙◌, inl, inr, arith, length-append, ℤ, pos, cond}
use Rattle.std.specs.Prelude.{MatchBool, min}
use Rattle.std.specs.List.{AllByRecursion}
use Rattle.std.proofs.lemmas.Bool.{cases_lt}
use Rattle.ilpstream_settings.specs.declared.settings.LocalSettings.{LocalSettings}
use Rattle.st_world_parts.specs.Sides.{Side, Client, Server}
use Rattle.st_world_parts.specs.State.{World}
use Rattle.st_world_parts.specs.Events.{Event, Send, Arrive, Write, Told}
use Rattle.st_world.specs.Steps.{Happens}
use Rattle.st_world.specs.Runs.{Run}
use Rattle.st_world.specs.Left.{lacks}
use Rattle.ilpstream_local.specs.Parts.{stream_at}
use Rattle.ilpstream_local.specs.Playing.{Played, is_lost}
use Rattle.ilpstream_local.specs.Schedule.{AreWhole, Begins, BeginsCrossing, BeginsEach, BeginsToClose, BeginsToGo, Crosses, Goes, GoesOn, IsAt, IsDenied, IsIdle, IsSent, IsWhole, IsWrite, Reach, Reads, ReadsOne, Takes, TakesWrites, Tells, answer, arrival, arrived, closing, each, fault_at, is_sent, iv_of, link_of, next_piece, next_write, number_on, sending}

-- ---- events, one after another

pub takes_same : (p q : Played) → q.asked ≡ p.asked → q.events ≡ p.events → q.world ≡ p.world → Takes [] p q
takes_same p q asked events world = record { asked = asked; count = omega (arith, events); run = world }

pub takes_none : (p : Played) → Takes [] p p
takes_none p = takes_same p p refl refl refl

pub takes_happened : (event : Event) (told : Told) (p q : Played) → q.asked ≡ p.asked → q.events ≡ p.events + 1 → Happens p.world event told q.world → Takes (event ∷ []) p q
takes_happened event told p q asked one h = record { asked = asked; count = omega (arith, one); run = (q.world, told, h, refl) }

pub takes_told : (event : Event) (told : Told) (p q : Played) → Tells event told p q → Takes (event ∷ []) p q
takes_told event told p q t = takes_happened event told p q t.asked t.one (t.lawful, inl t.step)

run_then : (xs ys : List Event) (w m v : World) → Run w xs m → Run m ys v → Run w (xs ++ ys) v
run_then [] ys w m v first second = subst (λ (z : World). Run z ys v) first second
run_then (x ∷ xs) ys w m v first second = (first.0, first.1, first.2, run_then xs ys first.0 m v first.3 second)

pub takes_then : (xs ys : List Event) (p q r : Played) → Takes xs p q → Takes ys q r → Takes (xs ++ ys) p r
takes_then xs ys p q r a b = record {
  asked = b.asked ∙ a.asked;
  count = omega (arith, a.count, b.count, length-append xs ys);
  run = run_then xs ys p.world q.world r.world a.run b.run;
}

pub takes_on : (xs : List Event) (p q r : Played) → Takes xs p q → Takes [] q r → Takes xs p r
takes_on xs p q r a b = record {
  asked = b.asked ∙ a.asked;
  count = omega (arith, a.count, b.count);
  run = subst (λ (w : World). Run p.world xs w) (sym b.run) a.run;
}

pub takes_as : (e f : Event) (p q : Played) → e ≡ f → Takes (e ∷ []) p q → Takes (f ∷ []) p q
takes_as e f p q is t = subst (λ (x : Event). Takes (x ∷ []) p q) is t

pub begins_as : (e f : Event) (p q : Played) → e ≡ f → Begins e p q → Begins f p q
begins_as e f p q is t = subst (λ (x : Event). Begins x p q) is t

pub each_push : (f : ℕ → Event) (n : ℕ) (p q r : Played) → Takes (each f n) p q → Takes (f n ∷ []) q r → Takes (each f (n + 1)) p r
each_push f n p q r a b = subst (λ (k : ℕ). Takes (each f k) p r) (let next : suc n ≡ n + 1 = omega arith in next) (takes_then (each f n) (f n ∷ []) p q r a b)

pub begins_push : (f : ℕ → Event) (n m : ℕ) (p q r : Played) → n < m → Takes (each f n) p q → Begins (f n) q r → BeginsEach f m p r
begins_push f n m p q r l a b = elim b [
  | inl none ↦ (n, omega (arith, l), takes_on (each f n) p q r a none)
  | inr one ↦ (n + 1, omega (arith, l), each_push f n p q r a one)
]

-- what was not out of memory was met
pub tells_met : (event : Event) (told : Told) (p q : Played) → q.asked ≡ p.asked → q.events ≡ p.events + 1 → Happens p.world event told q.world → lacks told ≡ false → Tells event told p q
tells_met event told p q asked one h none = elim h.1 [
  | inl met ↦ record { asked = asked; one = one; lawful = h.0; step = met }
  | inr lack ↦ absurd (let yes : lacks told ≡ true = ap lacks lack.1 in let clash : ◌≡◌ {A = Bool} true false = sym yes ∙ none in cc)
]

-- ---- a Send

pub send_is : (side : Side) (iv : List ℕ) (now : ℤ) (n : ℕ) → iv ≡ iv_of n → now ≡ pos 0 → Send side iv now ≡ sending side n
send_is side iv now n e at = ap (λ (x : List ℕ). Send side x now) e ∙ ap (λ (t : ℤ). Send side (iv_of n) t) at

sent_by : (side : Side) (told : Told) (p q : Played) → Tells (sending side p.events) told p q → MatchBool (is_sent told) (IsSent side p q) (IsIdle side p q)
sent_by side told p q t = elim t.step [
  | inl none ↦ subst (λ (x : Told). MatchBool (is_sent x) (IsSent side p q) (IsIdle side p q)) (sym none.1)
      (record { tells = subst (λ (x : Told). Tells (sending side p.events) x p q) none.1 t; none = none.0 })
  | inr goes ↦ subst (λ (x : Told). MatchBool (is_sent x) (IsSent side p q) (IsIdle side p q)) (sym goes.4)
      (subst (λ (x : Told). Tells (sending side p.events) x p q) goes.4 t)
]

pub send_tells : (side : Side) (iv : List ℕ) (now : ℤ) (told : Told) (sent : Bool) (p q : Played) → iv ≡ iv_of p.events → now ≡ pos 0 → sent ≡ is_sent told
    → Tells (Send side iv now) told p q → MatchBool sent (IsSent side p q) (IsIdle side p q)
send_tells side iv now told sent p q e at is t =
    subst (λ (b : Bool). MatchBool b (IsSent side p q) (IsIdle side p q)) (sym is)
    (sent_by side told p q (subst (λ (x : Event). Tells x told p q) (send_is side iv now p.events e at) t))

-- ---- a Prepare and its answer

pub arrival_is : (side : Side) (hops first number before link which : ℕ) (now : ℤ) → link ≡ link_of side hops before → which ≡ number_on first number before → now ≡ pos 0
    → Arrive link side which now ≡ arrival side hops first number before
arrival_is side hops first number before link which now e f at =
    ap (λ (l : ℕ). Arrive l side which now) e ∙ (ap (λ (k : ℕ). Arrive (link_of side hops before) side k now) f ∙ ap (λ (t : ℤ). Arrive (link_of side hops before) side (number_on first number before) t) at)

pub crosses_then : (side : Side) (first number : ℕ) (p m q : Played) → Takes (each (arrival side p.asked.hops first number) (p.asked.hops + 1)) p m
    → Takes (each (answer side m.asked.hops number) (m.asked.hops + 1)) m q → Crosses side first number p q
crosses_then side first number p m q a b = (m, a, subst (λ (s : LocalSettings). Takes (each (answer side s.hops number) (s.hops + 1)) m q) a.asked b)

pub crossing_then : (side : Side) (first number : ℕ) (p m q : Played) → Takes (each (arrival side p.asked.hops first number) (p.asked.hops + 1)) p m
    → BeginsEach (answer side m.asked.hops number) (m.asked.hops + 1) m q → BeginsCrossing side first number p q
crossing_then side first number p m q a b = inr (m, a, subst (λ (s : LocalSettings). BeginsEach (answer side s.hops number) (s.hops + 1) m q) a.asked b)

pub goes_on : (side : Side) (k number : ℕ) (p q : Played) → is_lost side p.asked.lose k ≡ false → number ≡ arrived side p.asked.lose k → Crosses side k number p q → Goes side k p q
goes_on side k number p q is same h =
    subst (λ (b : Bool). MatchBool b (Takes (fault_at side k ∷ []) p q) (Crosses side k (arrived side p.asked.lose k) p q)) (sym is)
    (subst (λ (n : ℕ). Crosses side k n p q) same h)

pub begins_on : (side : Side) (k number : ℕ) (p q : Played) → is_lost side p.asked.lose k ≡ false → number ≡ arrived side p.asked.lose k → BeginsCrossing side k number p q → BeginsToGo side k p q
begins_on side k number p q is same h =
    subst (λ (b : Bool). MatchBool b (Begins (fault_at side k) p q) (BeginsCrossing side k (arrived side p.asked.lose k) p q)) (sym is)
    (subst (λ (n : ℕ). BeginsCrossing side k n p q) same h)

-- ---- how many are not lost

pub arrived_more : (side : Side) (lose k : ℕ) → is_lost side lose (k + 1) ≡ false → arrived side lose (k + 1) ≡ arrived side lose k + 1
arrived_more side lose k is =
    let next : k + 1 ≡ suc k = omega arith in
    ap (arrived side lose) next
    ∙ (ap (λ (b : Bool). cond b (arrived side lose k) (suc (arrived side lose k))) (subst (λ (n : ℕ). is_lost side lose n ≡ false) next is) ∙ (let last : suc (arrived side lose k) ≡ arrived side lose k + 1 = omega arith in last))

pub arrived_few : (side : Side) (lose k : ℕ) → arrived side lose k ≤ k
arrived_few side lose zero = omega arith
arrived_few side lose (suc k) = by (is_lost side lose (suc k)) (arrived_few side lose k)
  where
    by : (b : Bool) → arrived side lose k ≤ k → cond b (arrived side lose k) (suc (arrived side lose k)) ≤ suc k
    by true few = omega (arith, few)
    by false few = omega (arith, few)

-- none of the server's is lost
pub arrived_all : (lose k : ℕ) → k ≡ arrived Server lose k
arrived_all lose zero = refl
arrived_all lose (suc k) = ap suc (arrived_all lose k)

-- ---- writes, closes and reads

all_append : (xs ys : List Event) → AllByRecursion IsWrite xs → AllByRecursion IsWrite ys → AllByRecursion IsWrite (xs ++ ys)
all_append [] ys a b = b
all_append (x ∷ xs) ys a b = (a.0, all_append xs ys a.1 b)

pub writes_none : (p : Played) → TakesWrites p p
writes_none p = ([], tt, takes_none p)

pub writes_then : (p q r : Played) → TakesWrites p q → TakesWrites q r → TakesWrites p r
writes_then p q r a b = (a.0 ++ b.0, all_append a.0 b.0 a.1 b.1, takes_then a.0 b.0 p q r a.2 b.2)

-- a write, or nothing
pub writes_one : (k : ℕ) (xs : List ℕ) (p q : Played) → Begins (Write Client k xs) p q → TakesWrites p q
writes_one k xs p q b = elim b [
  | inl none ↦ ([], tt, none)
  | inr one ↦ (Write Client k xs ∷ [], (tt, tt), one)
]

-- a write of the next bytes, by the numbers that are at hand
pub denied_next : (size part stream count : ℕ) (input : List ℕ) (sent : ℕ) (p q : Played) → part ≡ size → stream ≡ stream_at (sent / part)
    → count ≡ min (min 16384 (part - sent % part)) (length input - sent) → IsDenied (Write Client stream (take count (drop sent input))) p q → IsDenied (next_write size input sent) p q
denied_next size part stream count input sent p q same at is d =
    subst (λ (z : ℕ). IsDenied (next_write z input sent) p q) same
    (subst (λ (k : ℕ). IsDenied (Write Client k (next_piece part input sent)) p q) at (subst (λ (n : ℕ). IsDenied (Write Client stream (take n (drop sent input))) p q) is d))

-- one place more
pub whole_more : (size bytes sent here count : ℕ) → AreWhole size bytes sent here count → IsWhole size bytes sent count → AreWhole size bytes sent here (count + 1)
whole_more size bytes sent here count had next = λ place from to. elim (cases_lt place count) [
  | inl before ↦ had place from before
  | inr past ↦ let same : place ≡ count = omega (arith, past, to) in subst (λ (i : ℕ). IsWhole size bytes sent i) (sym same) next
]

pub closes_more : (here count : ℕ) (p q r : Played) → here ≤ count → Takes (each (closing here) (count - here)) p q → Takes (closing here (count - here) ∷ []) q r → Takes (each (closing here) (count + 1 - here)) p r
closes_more here count p q r l a b = subst (λ (n : ℕ). Takes (each (closing here) n) p r) (let next : count - here + 1 ≡ count + 1 - here = omega (arith, l) in next) (each_push (closing here) (count - here) p q r a b)

pub closing_more : (size bytes sent here count : ℕ) (p q r : Played) → here ≤ count → AreWhole size bytes sent here count → IsWhole size bytes sent count → Takes (each (closing here) (count - here)) p q
    → Begins (closing here (count - here)) q r → BeginsToClose size bytes sent here p r
closing_more size bytes sent here count p q r l had next a b = (
  count + 1,
  whole_more size bytes sent here count had next,
  begins_push (closing here) (count - here) (count + 1 - here) p q r (omega (arith, l)) a b,
)

pub reads_push : (n : ℕ) (p q r : Played) → Reads n p q → ReadsOne n q r → Reads (n + 1) p r
reads_push n p q r a b = subst (λ (k : ℕ). Reads k p r) (let next : suc n ≡ n + 1 = omega arith in next) (q, a, b)

-- ---- rounds

pub at_more : (size streams : ℕ) (input : List ℕ) (a b : Reach) (p q r : Played) → IsAt size streams input a p q → GoesOn size streams input a b q r → IsAt size streams input b p r
at_more size streams input a b p q r h on = record { opened = h.opened; count = suc h.count; opens_each = h.opens_each; rounds = (a, q, h.rounds, on) }

pub not_both : (b : Bool) → b ≡ true → b ≡ false → ⊥
not_both b is un = absurd (let clash : ◌≡◌ {A = Bool} true false = sym is ∙ un in cc)
