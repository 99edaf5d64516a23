-- Data of the streams in a round.
use Rattle.std.proofs.Common.{◌≡◌, ℕ, ◌+◌, ◌-◌, ◌<◌, Bool, true, false, ◌||◌, ◌&&◌, List, [], ◌∷◌, ◌++◌, length, max, refl, sym, ap, subst, ◌∙◌, arith, Some, ◌⊎◌, inl, inr}
use Rattle.std.specs.Prelude.{nat_eq, nat_lt}
use Rattle.std.specs.List.{AllByRecursion}
use Rattle.std.proofs.lemmas.Bool.{cases_lt}
use Rattle.std.proofs.lemmas.Bool.Decides.{nat_tests}
use Rattle.st_streams.specs.Slots.{Slots, slot}
use Rattle.st_frames.specs.Frames.{Known, StreamData}
use Rattle.st_sender.specs.declared.bounds.Bounds.{Bounds}
use Rattle.st_sender.specs.declared.load.SentFrame as code
use Rattle.st_sender.specs.declared.load.SentFrame.TheVariants as held
use Rattle.st_sender.specs.Sending.{Flight, PeerBlocked}
use Rattle.st_sender.specs.Flights.{flying_end}
use Rattle.st_sender.specs.Lanes.{SendStream}
use Rattle.st_sender.specs.Turns.{comes_before, is_among, AreInOrder}
use Rattle.st_sender.specs.Loads.{same_due}
use Rattle.st_sender.specs.Shown.{framed}
use Rattle.st_sender.specs.Allowed.{end_in, end_at, left_by, left_beside, costs, raises, serves, IsStopped, MayFly, NoneReady, IsReady, IsReadyAt, AreNext, AreDistinct, in_round, start_of, IsPlaced, IsData, AreServed, IsRoundOf}
use Rattle.st_sender.proofs.Turning.{places_order, place_of, not_itself, not_both, all_later, among_append}

-- ---- lists

pub every_with : {X : Type 0} (P : X → Type 0) (xs ys : List X) → AllByRecursion P xs → AllByRecursion P ys → AllByRecursion P (xs ++ ys)
every_with P [] ys a b = b
every_with P (x ∷ xs) ys a b = (a.0, every_with P xs ys a.1 b)

pub every_weaker : {X : Type 0} (P Q : X → Type 0) → ((x : X) → P x → Q x) → (xs : List X) → AllByRecursion P xs → AllByRecursion Q xs
every_weaker P Q h [] a = tt
every_weaker P Q h (x ∷ xs) a = (h x a.0, every_weaker P Q h xs a.1)

pub by_test : {X : Type 0} (t : Bool) → (t ≡ true → X) → (t ≡ false → X) → X
by_test true f g = f refl
by_test false f g = g refl

pub or_left : (a b : Bool) → a ≡ true → (a || b) ≡ true
or_left true b e = refl
or_left false b e = absurd (cc)

pub or_right : (a b : Bool) → b ≡ true → (a || b) ≡ true
or_right true b e = refl
or_right false b e = e

or_both : (a b : Bool) → a ≡ false → b ≡ false → (a || b) ≡ false
or_both true b e f = absurd (cc)
or_both false b e f = f

pub or_false : (a b : Bool) → (a || b) ≡ false → (a ≡ false) × (b ≡ false)
or_false false false e = (refl, refl)
or_false true b e = absurd (cc)
or_false false true e = absurd (cc)

pub turned_test : (k j : ℕ) → nat_eq k j ≡ false → nat_eq j k ≡ false
turned_test k j e = grind (arith, nat_tests)

pub own_test : (k : ℕ) → nat_eq k k ≡ true
own_test k = grind (arith, nat_tests)

-- ---- what frames take of the bounds

pub raises_with : (lanes : Slots SendStream) (flights : List Flight) (fs gs : List code.SentFrame) → raises lanes flights (fs ++ gs) ≡ raises lanes flights fs + raises lanes flights gs
raises_with lanes flights [] gs = omega arith
raises_with lanes flights (f ∷ fs) gs = omega (arith, raises_with lanes flights fs gs)

pub costs_with : (fs gs : List code.SentFrame) → costs (fs ++ gs) ≡ costs fs + costs gs
costs_with [] gs = omega arith
costs_with (f ∷ fs) gs = omega (arith, costs_with fs gs)

pub bounds_same : (b c : Bounds) → b.spare ≡ c.spare → b.sequence ≡ c.sequence → b.room ≡ c.room → ◌≡◌ {A = Bounds} b c
bounds_same b c e f h = λ i. record { spare = e i; sequence = f i; room = h i }

pub left_none : (lanes : Slots SendStream) (flights : List Flight) (b : Bounds) → ◌≡◌ {A = Bounds} (left_beside lanes flights b []) b
left_none lanes flights b = bounds_same (left_beside lanes flights b []) b (omega arith) refl (omega arith)

left_data : (lanes : Slots SendStream) (flights : List Flight) (b : Bounds) (k o c : ℕ) (fs : List code.SentFrame)
    → ◌≡◌ {A = Bounds} (left_beside lanes flights b (held.Data k o c ∷ fs)) (left_beside lanes flights (left_by b (c + 32) (o + c - end_at lanes flights k)) fs)
left_data lanes flights b k o c fs = bounds_same (left_beside lanes flights b (held.Data k o c ∷ fs)) (left_beside lanes flights (left_by b (c + 32) (o + c - end_at lanes flights k)) fs) (omega arith) refl (omega arith)

-- ---- one frame of data more

serves_with : (fs gs : List code.SentFrame) → serves (fs ++ gs) ≡ serves fs ++ serves gs
serves_with [] gs = refl
serves_with (held.Data k o c ∷ fs) gs = ap (λ ks. k ∷ ks) (serves_with fs gs)
serves_with (held.Close k by ∷ fs) gs = serves_with fs gs
serves_with (held.Notice n ∷ fs) gs = serves_with fs gs

-- a stream that has none still has none after another stream's frame
still_apart : (j k o c : ℕ) (fs : List code.SentFrame) → is_among j (serves fs) ≡ false → nat_eq j k ≡ false → is_among j (serves (fs ++ held.Data k o c ∷ [])) ≡ false
still_apart j k o c fs e d =
    ap (is_among j) (serves_with fs (held.Data k o c ∷ [])) ∙ among_append j (serves fs) (k ∷ []) ∙ or_both (is_among j (serves fs)) (is_among j (k ∷ [])) e (or_both (nat_eq j k) false d refl)

pub next_push : (lanes : Slots SendStream) (flights : List Flight) (m : PeerBlocked) (limits : List Known) (b : Bounds) (fs : List code.SentFrame) (k o c : ℕ) → AllByRecursion IsData fs → AreNext lanes flights m limits b fs → IsReadyAt lanes flights (left_beside lanes flights b fs) k o c → is_among k (serves fs) ≡ false
    → AreNext lanes flights m limits b (fs ++ held.Data k o c ∷ [])
next_push lanes flights m limits b [] k o c d a r apart = (subst (λ (x : Bounds). IsReadyAt lanes flights x k o c) (left_none lanes flights b) r, refl, tt)
next_push lanes flights m limits b (held.Data j p n ∷ fs) k o c d a r apart =
    let w = or_false (nat_eq k j) (is_among k (serves fs)) apart in (
      a.0,
      still_apart j k o c fs a.1 (turned_test k j w.0),
      next_push lanes flights m limits (left_by b (n + 32) (p + n - end_at lanes flights j)) fs k o c d.1 a.2 (subst (λ (x : Bounds). IsReadyAt lanes flights x k o c) (left_data lanes flights b j p n fs) r) w.1,
    )
next_push lanes flights m limits b (held.Close j by ∷ fs) k o c d a r apart = absurd d.0
next_push lanes flights m limits b (held.Notice n ∷ fs) k o c d a r apart = absurd d.0

order_push : (t : ℕ) (ks : List ℕ) (k : ℕ) → AreInOrder t ks → AllByRecursion (λ l. comes_before t l k ≡ true) ks → AreInOrder t (ks ++ k ∷ [])
order_push t [] k a b = (tt, tt)
order_push t (x ∷ ks) k a b = (every_with (λ l. comes_before t x l ≡ true) ks (k ∷ []) a.0 (b.0, tt), order_push t ks k a.1 b.1)

-- a stream that no limit lets go is stopped however wide the room is
pub unable_stopped : (flights : List Flight) (b : Bounds) (k : ℕ) (l : SendStream) → ¬ MayFly flights b.spare k l → IsStopped flights b k l
unable_stopped flights b k l cannot o byte due a = cannot (record { offset = o; byte = byte; due = due; stream = a.stream; connection = a.connection })

placed_later : (start n k : ℕ) → IsPlaced start n k → IsPlaced start (n + 1) k
placed_later start n k p = (p.0, omega (arith, p.1), p.2)

pub served_none : (lanes : Slots SendStream) (flights : List Flight) (b : Bounds) (turn : ℕ) → AreServed lanes flights b turn 0 []
served_none lanes flights b turn = record {
  goes = λ m limits. tt;
  each = tt;
  placed = tt;
  order = tt;
  all = λ j l h e. absurd (omega (arith, h));
}

module _ (lanes : Slots SendStream) (flights : List Flight) (b : Bounds) (turn n : ℕ) (fs : List code.SentFrame) (small : n < 65) (a : AreServed lanes flights b turn n fs) where
  abbrev this : ℕ
  this = in_round (start_of turn) n

  all_before : AllByRecursion (λ k. comes_before turn k this ≡ true) (serves fs)
  all_before = every_weaker (IsPlaced (start_of turn) n) (λ k. comes_before turn k this ≡ true) (λ k p. subst (λ i. comes_before turn i this ≡ true) (sym p.2) (places_order turn p.0 n p.1 small)) (serves fs) a.placed

  -- its place is after those of the streams that were served
  pub unserved : is_among this (serves fs) ≡ false
  unserved = by_test (is_among this (serves fs)) (λ e. absurd (not_itself turn this (all_later (λ k. comes_before turn k this ≡ true) (serves fs) this all_before e))) (λ e. e)

  -- it has no data that may go, or was stopped before any did
  pub served_skip : ((l : SendStream) → slot lanes this ≡ Some l → IsStopped flights b this l) → AreServed lanes flights b turn (n + 1) fs
  served_skip here = record {
    goes = a.goes;
    each = a.each;
    placed = every_weaker (IsPlaced (start_of turn) n) (IsPlaced (start_of turn) (n + 1)) (placed_later (start_of turn) n) (serves fs) a.placed;
    order = a.order;
    all = λ j l h e. elim (cases_lt j n) [
      | inl low ↦ a.all j l low e
      | inr high ↦ (let same : n ≡ j = omega arith in
          inr (subst (λ i. IsStopped flights b (in_round (start_of turn) i) l) same (here l (subst (λ i. slot lanes (in_round (start_of turn) i) ≡ Some l) (sym same) e))))
    ];
  }

  pub served_push : (l : SendStream) (o c : ℕ) (gs : List code.SentFrame) → slot lanes this ≡ Some l → this < 65 → IsReady flights (left_beside lanes flights b fs) this l o c → gs ≡ fs ++ held.Data this o c ∷ [] → AreServed lanes flights b turn (n + 1) gs
  served_push l o c gs at own ready is =
      let serves_are : serves (fs ++ held.Data this o c ∷ []) ≡ serves fs ++ this ∷ [] = serves_with fs (held.Data this o c ∷ []) in
      subst (λ (hs : List code.SentFrame). AreServed lanes flights b turn (n + 1) hs) (sym is) (record {
        goes = λ m limits. next_push lanes flights m limits b fs this o c a.each (a.goes m limits) (record { lane = l; is_open = at; is_own = own; ready = ready }) unserved;
        each = every_with IsData fs (held.Data this o c ∷ []) a.each (tt, tt);
        placed = subst (λ ks. AllByRecursion (IsPlaced (start_of turn) (n + 1)) ks) (sym serves_are)
            (every_with (IsPlaced (start_of turn) (n + 1)) (serves fs) (this ∷ []) (every_weaker (IsPlaced (start_of turn) n) (IsPlaced (start_of turn) (n + 1)) (placed_later (start_of turn) n) (serves fs) a.placed) ((n, omega arith, refl), tt));
        order = subst (λ ks. AreInOrder turn ks) (sym serves_are) (order_push turn (serves fs) this a.order all_before);
        all = λ j x h e.
            let among : is_among (in_round (start_of turn) j) (serves (fs ++ held.Data this o c ∷ [])) ≡ (is_among (in_round (start_of turn) j) (serves fs) || is_among (in_round (start_of turn) j) (this ∷ [])) =
            ap (is_among (in_round (start_of turn) j)) serves_are ∙ among_append (in_round (start_of turn) j) (serves fs) (this ∷ []) in
            elim (cases_lt j n) [
              | inl low ↦ elim (a.all j x low e) [
                | inl here ↦ inl (among ∙ or_left (is_among (in_round (start_of turn) j) (serves fs)) (is_among (in_round (start_of turn) j) (this ∷ [])) here)
                | inr stopped ↦ inr stopped
              ]
              | inr high ↦ (let same : n ≡ j = omega arith in
                  inl (among ∙ or_right (is_among (in_round (start_of turn) j) (serves fs)) (is_among (in_round (start_of turn) j) (this ∷ [])) (subst (λ i. is_among (in_round (start_of turn) i) (this ∷ []) ≡ true) same (ap (λ t. t || false) (own_test this)))))
            ];
      })

-- what is left of the bounds after one more frame
pub left_push : (lanes : Slots SendStream) (flights : List Flight) (b at new : Bounds) (k o c end : ℕ) (l : SendStream) (fs gs : List code.SentFrame) → at ≡ left_beside lanes flights b fs → slot lanes k ≡ Some l → end ≡ max l.out.acked_end (flying_end k flights) → new ≡ left_by at (c + 32) (o + c - end) → gs ≡ fs ++ held.Data k o c ∷ []
    → ◌≡◌ {A = Bounds} new (left_beside lanes flights b gs)
left_push lanes flights b at new k o c end l fs gs at_is open_here end_is new_is is =
    let end_same : end ≡ end_at lanes flights k = end_is ∙ sym (ap (λ y. end_in flights k y) open_here) in
    let sum : costs gs ≡ costs fs + (c + 32) = omega (arith, ap costs is, costs_with fs (held.Data k o c ∷ [])) in
    let rise : raises lanes flights gs ≡ raises lanes flights fs + (o + c - end) = omega (arith, ap (raises lanes flights) is, raises_with lanes flights fs (held.Data k o c ∷ []), end_same) in
    new_is ∙ ap (λ (d : Bounds). left_by d (c + 32) (o + c - end)) at_is
    ∙ bounds_same (left_by (left_beside lanes flights b fs) (c + 32) (o + c - end)) (left_beside lanes flights b gs) (omega (arith, rise)) refl (omega (arith, sum))

-- ---- no stream has two frames of them

all_apart : (k o : ℕ) (xs : ℕ → List ℕ) (fs : List code.SentFrame) → AllByRecursion IsData fs → is_among k (serves fs) ≡ false → AllByRecursion (λ g. same_due (StreamData k o (xs k)) g ≡ false) (framed xs fs)
all_apart k o xs [] d e = tt
all_apart k o xs (held.Data j p n ∷ fs) d e = let w = or_false (nat_eq k j) (is_among k (serves fs)) e in
    (ap (λ t. t && nat_lt o (p + length (xs j)) && nat_lt p (o + length (xs k))) w.0, all_apart k o xs fs d.1 w.1)
all_apart k o xs (held.Close j by ∷ fs) d e = absurd d.0
all_apart k o xs (held.Notice n ∷ fs) d e = absurd d.0

pub data_distinct : (lanes : Slots SendStream) (flights : List Flight) (m : PeerBlocked) (limits : List Known) (b : Bounds) (fs : List code.SentFrame) → AllByRecursion IsData fs → AreNext lanes flights m limits b fs → AreDistinct fs
data_distinct lanes flights m limits b [] d a xs = tt
data_distinct lanes flights m limits b (held.Data k o c ∷ fs) d a xs = (all_apart k o xs fs d.1 a.1, data_distinct lanes flights m limits (left_by b (c + 32) (o + c - end_at lanes flights k)) fs d.1 a.2 xs)
data_distinct lanes flights m limits b (held.Close k by ∷ fs) d a xs = absurd d.0
data_distinct lanes flights m limits b (held.Notice n ∷ fs) d a xs = absurd d.0

-- ---- a whole round

-- a stream that is served, or was stopped before any data went
pub all_or_stopped : (lanes : Slots SendStream) (flights : List Flight) (b : Bounds) (turn : ℕ) (fs : List code.SentFrame) → AreServed lanes flights b turn 65 fs → (m : ℕ) (l : SendStream) → m < 65 → slot lanes m ≡ Some l → (is_among m (serves fs) ≡ true) ⊎ IsStopped flights b m l
all_or_stopped lanes flights b turn fs a m l h e =
    let p = place_of turn m h in
    subst (λ i. slot lanes i ≡ Some l → (is_among i (serves fs) ≡ true) ⊎ IsStopped flights b i l) (sym p.2) (λ at. a.all p.0 l p.1 at) e

-- if no data are sent, all streams are stopped
none_among : (m : ℕ) (fs : List code.SentFrame) → fs ≡ [] → is_among m (serves fs) ≡ true → ⊥
none_among m fs none e = absurd (let clash : true ≡ false = sym e ∙ ap (λ (gs : List code.SentFrame). is_among m (serves gs)) none in cc)

pub none_served : (lanes : Slots SendStream) (flights : List Flight) (b : Bounds) (turn : ℕ) (fs : List code.SentFrame) → fs ≡ [] → IsRoundOf lanes flights b turn fs → NoneReady lanes flights b 65
none_served lanes flights b turn fs none r k l h e = elim r.ends [
  | inl all ↦ elim (all_or_stopped lanes flights b turn fs (subst (λ i. AreServed lanes flights b turn i fs) all r.are) k l h e) [
    | inl here ↦ absurd (none_among k fs none here)
    | inr stopped ↦ stopped
  ]
  | inr cut ↦ absurd (cut.1 none)
]

-- one that comes before a stream that is served was served, or stopped
pub before_served : (lanes : Slots SendStream) (flights : List Flight) (b : Bounds) (turn : ℕ) (fs : List code.SentFrame) → IsRoundOf lanes flights b turn fs → (m k : ℕ) (l : SendStream) → m < 65 → slot lanes m ≡ Some l → is_among k (serves fs) ≡ true → comes_before turn m k ≡ true
    → (is_among m (serves fs) ≡ true) ⊎ IsStopped flights b m l
before_served lanes flights b turn fs r m k l h e among first =
    let p = place_of turn m h in
    let q = all_later (IsPlaced (start_of turn) r.count) (serves fs) k r.are.placed among in
    elim (cases_lt p.0 r.count) [
      | inl low ↦ subst (λ i. slot lanes i ≡ Some l → (is_among i (serves fs) ≡ true) ⊎ IsStopped flights b i l) (sym p.2) (λ at. r.are.all p.0 l low at) e
      | inr high ↦ absurd (no_order turn m k (subst (λ i. comes_before turn k i ≡ true) (sym p.2) (subst (λ i. comes_before turn i (in_round (start_of turn) p.0) ≡ true) (sym q.2) (places_order turn q.0 p.0 (omega (arith, q.1, high)) p.1))) first)
    ]
  where
    no_order : (t m k : ℕ) → comes_before t k m ≡ true → comes_before t m k ≡ true → ⊥
    no_order t m k a b = absurd (let f : true ≡ false = sym b ∙ not_both t k m a in cc)
