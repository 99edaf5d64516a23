-- Closes, limits and data in one packet.
use Rattle.std.proofs.Common.{◌≡◌, ℕ, zero, suc, ◌+◌, ◌-◌, ◌*◌, ◌<◌, ◌≤◌, Bool, true, false, ◌&&◌, ◌||◌, List, [], ◌∷◌, ◌++◌, length, map, drop, get_or, refl, sym, ap, subst, ◌∙◌, arith, Option, None, Some, ◌⊎◌, inl, inr}
use Rattle.std.specs.Prelude.{nat_eq}
use Rattle.std.specs.List.{list_any, AllByRecursion, Contains}
use Rattle.std.proofs.lemmas.Bool.{cases_lt}
use Rattle.std.proofs.lemmas.Bool.Decides.{nat_tests}
use Rattle.std.proofs.lemmas.List.{drop_all}
use Rattle.std.proofs.Math.Seq.{drop-cons}
use Rattle.st_streams.specs.Slots.{Slots, slot}
use Rattle.st_frames.specs.Frames.{Known, CloseFrame, StreamClose, StreamData}
use Rattle.st_sender.specs.declared.bounds.Bounds.{Bounds}
use Rattle.st_sender.specs.declared.load.SentFrame as code
use Rattle.st_sender.specs.declared.load.SentFrame.TheVariants as held
use Rattle.st_sender.specs.declared.notice.Notice.{Notice}
use Rattle.st_sender.specs.declared.notice.Notice.TheVariants as said
use Rattle.st_sender.specs.Sending.{Outgoing, Flight, PeerBlocked}
use Rattle.st_sender.specs.Flights.{closes, tells, is_close, same_limit}
use Rattle.st_sender.specs.Due.{IsAbort, IsCleanClose}
use Rattle.st_sender.specs.Loads.{same_due}
use Rattle.st_sender.specs.Lanes.{SendStream}
use Rattle.st_sender.specs.ControlFrames.{is_limit, IsAwaited, NoneAwaited}
use Rattle.st_sender.specs.Allowed.{close_size, IsFinished, NoneReady, IsNone, less, cost, costs, AreNext, IsCloseBelow, IsLimit, IsPrompted, IsData, AreDistinct, has_close, has_limit, AreClosings, AreAwaited, IsRoundOf, AreChosen}
use Rattle.st_sender.specs.Shown.{shown, known_by, telling, framed}
use Rattle.st_sender.proofs.Readiness.{none_more}
use Rattle.st_sender.proofs.Said.{no_limit}
use Rattle.st_sender.proofs.Serving.{every_with, every_weaker, by_test, or_right, or_false, costs_with, none_served}

-- ---- lists

pub each_of : (P : Known → Type 0) (xs : List Known) → ((f : Known) → Contains xs f → P f) → AllByRecursion P xs
each_of P [] h = tt
each_of P (x ∷ xs) h = (h x (0, omega arith, refl), each_of P xs (λ f c. h f (suc c.0, omega (arith, c.1), c.2)))

first_or : (x f : Known) (xs : List Known) → Contains (x ∷ xs) f → (x ≡ f) ⊎ Contains xs f
first_or x f xs (zero, h, e) = inl e
first_or x f xs (suc i, h, e) = inr (i, omega (arith, h), e)

no_more : (f : Known) → Contains [] f → ⊥
no_more f c = absurd (omega (arith, c.1))

pub any_left : {X : Type 0} (t : X → Bool) (xs ys : List X) → list_any t xs ≡ true → list_any t (xs ++ ys) ≡ true
any_left t [] ys e = absurd (cc)
any_left t (x ∷ xs) ys e = by_test (t x) (λ a. ap (λ b. b || list_any t (xs ++ ys)) a) (λ a. ap (λ b. b || list_any t (xs ++ ys)) a ∙ any_left t xs ys (sym (ap (λ b. b || list_any t xs) a) ∙ e))

pub any_right : {X : Type 0} (t : X → Bool) (xs ys : List X) → list_any t ys ≡ true → list_any t (xs ++ ys) ≡ true
any_right t [] ys e = e
any_right t (x ∷ xs) ys e = or_right (t x) (list_any t (xs ++ ys)) (any_right t xs ys e)

not_none : {X : Type 0} (xs : List X) (x : X) → xs ++ x ∷ [] ≡ [] → ⊥
not_none [] x e = absurd (cc)
not_none (y ∷ xs) x e = absurd (cc)

none_left : {X : Type 0} (xs ys : List X) → xs ++ ys ≡ [] → xs ≡ []
none_left [] ys e = refl
none_left (x ∷ xs) ys e = absurd (cc)

none_right : {X : Type 0} (xs ys : List X) → xs ++ ys ≡ [] → ys ≡ []
none_right [] ys e = e
none_right (x ∷ xs) ys e = absurd (cc)

-- ---- what is left of the room

pub less_less : (b : Bounds) (m n : ℕ) → ◌≡◌ {A = Bounds} (less (less b m) n) (less b (m + n))
less_less b m n = let e : b.room - m - n ≡ b.room - (m + n) = omega arith in ap (λ (i : ℕ). record b { room = i }) e

pub less_none : (b : Bounds) (n : ℕ) → n ≡ 0 → ◌≡◌ {A = Bounds} (less b n) b
less_none b n z = let e : b.room - n ≡ b.room = omega (arith, z) in ap (λ (i : ℕ). record b { room = i }) e

pub finished_rises : (flights : List Flight) (b c : Bounds) (k : ℕ) (l : SendStream) (code : ℕ) → b.sequence ≡ c.sequence → b.room ≤ c.room → IsFinished flights b k l code → IsFinished flights c k l code
finished_rises flights b c k l code same h f = record { idle = f.idle; asked = f.asked; room_left = omega (arith, f.room_left, h, ap (λ i. close_size i k) same) }

pub awaited_rises : (m : PeerBlocked) (flights : List Flight) (b : Bounds) (n p : ℕ) (f : Known) → b.room - n ≤ b.room - p → IsAwaited m flights (less b n) f → IsAwaited m flights (less b p) f
awaited_rises m flights b n p f h a = record { marked = a.marked; idle = a.idle; short = omega (arith, a.short, h) }

-- ---- several frames

abbrev Next : Slots SendStream → List Flight → PeerBlocked → List Known → List code.SentFrame → Bounds → Type 0
Next lanes flights m limits fs b = AreNext lanes flights m limits b fs

pub next_with : (lanes : Slots SendStream) (flights : List Flight) (m : PeerBlocked) (limits : List Known) (b : Bounds) (fs gs : List code.SentFrame) → AllByRecursion IsPrompted fs → AreNext lanes flights m limits b fs → AreNext lanes flights m limits (less b (costs fs)) gs → AreNext lanes flights m limits b (fs ++ gs)
next_with lanes flights m limits b [] gs p a n = subst (Next lanes flights m limits gs) (less_none b 0 refl) n
next_with lanes flights m limits b (held.Data k o c ∷ fs) gs p a n = absurd p.0
next_with lanes flights m limits b (held.Close k c ∷ fs) gs p a n = (a.0, next_with lanes flights m limits (less b 20) fs gs p.1 a.1 (subst (Next lanes flights m limits gs) (sym (less_less b 20 (costs fs))) n))
next_with lanes flights m limits b (held.Notice x ∷ fs) gs p a n = (a.0, a.1, next_with lanes flights m limits (less b 36) fs gs p.1 a.2 (subst (Next lanes flights m limits gs) (sym (less_less b 36 (costs fs))) n))

close_prompted : (n : ℕ) (f : code.SentFrame) → IsCloseBelow n f → IsPrompted f
close_prompted n (held.Data k o c) p = absurd p
close_prompted n (held.Close k c) p = tt
close_prompted n (held.Notice x) p = absurd p

close_later : (n : ℕ) (f : code.SentFrame) → IsCloseBelow n f → IsCloseBelow (n + 1) f
close_later n (held.Data k o c) p = absurd p
close_later n (held.Close k c) p = omega (arith, p)
close_later n (held.Notice x) p = absurd p

limit_prompted : (f : code.SentFrame) → IsLimit f → IsPrompted f
limit_prompted (held.Data k o c) p = absurd p
limit_prompted (held.Close k c) p = absurd p
limit_prompted (held.Notice x) p = p

-- ---- nothing is carried twice

all_seen : (Q : code.SentFrame → Type 0) (R : Known → Type 0) (xs : ℕ → List ℕ) → ((g : code.SentFrame) → Q g → R (known_by xs g)) → (gs : List code.SentFrame) → AllByRecursion Q gs → AllByRecursion R (framed xs gs)
all_seen Q R xs h [] q = tt
all_seen Q R xs h (g ∷ gs) q = (h g q.0, all_seen Q R xs h gs q.1)

all_from : (R : Known → Type 0) (xs : ℕ → List ℕ) (fs gs : List code.SentFrame) → AllByRecursion R (framed xs fs) → AllByRecursion R (framed xs gs) → AllByRecursion R (framed xs (fs ++ gs))
all_from R xs [] gs a b = b
all_from R xs (f ∷ fs) gs a b = (a.0, all_from R xs fs gs a.1 b)

apart_with : (P Q : code.SentFrame → Type 0) → ((f g : code.SentFrame) (xs : ℕ → List ℕ) → P f → Q g → same_due (known_by xs f) (known_by xs g) ≡ false) → (fs gs : List code.SentFrame) → AllByRecursion P fs → AllByRecursion Q gs → AreDistinct fs → AreDistinct gs → AreDistinct (fs ++ gs)
apart_with P Q h [] gs p q a b xs = b xs
apart_with P Q h (f ∷ fs) gs p q a b xs =
    (all_from (λ g. same_due (known_by xs f) g ≡ false) xs fs gs (a xs).0 (all_seen Q (λ g. same_due (known_by xs f) g ≡ false) xs (λ g r. h f g xs p.0 r) gs q), apart_with P Q h fs gs p.1 q (λ ys. (a ys).1) b xs)

one_distinct : (f : code.SentFrame) → AreDistinct (f ∷ [])
one_distinct f xs = (tt, tt)

pub no_close : (k c : ℕ) (n : Notice) → is_close k c (telling n) ≡ false
no_close k c (said.ConnectionDataBlocked l) = refl
no_close k c (said.StreamDataBlocked j l) = refl
no_close k c (said.StreamMoneyBlocked j l t) = refl
no_close k c (said.ConnectionMaxData l) = refl
no_close k c (said.StreamMaxData j l) = refl
no_close k c (said.StreamMaxMoney j l t) = refl

no_data : (n : Notice) (k o : ℕ) (xs : List ℕ) → same_due (telling n) (StreamData k o xs) ≡ false
no_data (said.ConnectionDataBlocked l) k o xs = refl
no_data (said.StreamDataBlocked j l) k o xs = refl
no_data (said.StreamMoneyBlocked j l t) k o xs = refl
no_data (said.ConnectionMaxData l) k o xs = refl
no_data (said.StreamMaxData j l) k o xs = refl
no_data (said.StreamMaxMoney j l t) k o xs = refl

close_apart : (n by : ℕ) (f g : code.SentFrame) (xs : ℕ → List ℕ) → IsCloseBelow n f → g ≡ held.Close n by → same_due (known_by xs f) (known_by xs g) ≡ false
close_apart n by (held.Data k o c) g xs p e = absurd p
close_apart n by (held.Notice x) g xs p e = absurd p
close_apart n by (held.Close k c) g xs p e = subst (λ (h : code.SentFrame). same_due (CloseFrame (StreamClose k c [])) (known_by xs h) ≡ false) (sym e) (lower k n c by p)
  where
    lower : (k n c by : ℕ) → k < n → (nat_eq n k && nat_eq by c) ≡ false
    lower k n c by h = grind (arith, nat_tests)

close_limit : (f g : code.SentFrame) (xs : ℕ → List ℕ) → IsCloseBelow 65 f → IsLimit g → same_due (known_by xs f) (known_by xs g) ≡ false
close_limit (held.Data k o c) g xs p q = absurd p
close_limit (held.Notice x) g xs p q = absurd p
close_limit (held.Close k c) (held.Data j o n) xs p q = absurd q
close_limit (held.Close k c) (held.Close j d) xs p q = absurd q
close_limit (held.Close k c) (held.Notice x) xs p q = no_close k c x

data_apart : (f g : code.SentFrame) (xs : ℕ → List ℕ) → IsPrompted f → IsData g → same_due (known_by xs f) (known_by xs g) ≡ false
data_apart (held.Data k o c) g xs p q = absurd p
data_apart (held.Close k c) (held.Data j o n) xs p q = refl
data_apart (held.Close k c) (held.Close j d) xs p q = absurd q
data_apart (held.Close k c) (held.Notice x) xs p q = absurd q
data_apart (held.Notice x) (held.Data j o n) xs p q = no_data x j o (xs j)
data_apart (held.Notice x) (held.Close j d) xs p q = absurd q
data_apart (held.Notice x) (held.Notice y) xs p q = absurd q

other_test : (j k : ℕ) → nat_eq j k ≡ false → nat_eq k j ≡ false
other_test j k e = grind (arith, nat_tests)

-- limits that are not the same
said_apart : (x y : Notice) → is_limit (telling x) ≡ true → same_limit (telling y) (telling x) ≡ false → same_due (telling x) (telling y) ≡ false
said_apart (said.ConnectionDataBlocked l) y e h = absurd (cc)
said_apart (said.StreamDataBlocked j l) y e h = absurd (cc)
said_apart (said.StreamMoneyBlocked j l t) y e h = absurd (cc)
said_apart (said.ConnectionMaxData l) (said.ConnectionMaxData i) e h = absurd (cc)
said_apart (said.ConnectionMaxData l) (said.ConnectionDataBlocked i) e h = refl
said_apart (said.ConnectionMaxData l) (said.StreamDataBlocked k i) e h = refl
said_apart (said.ConnectionMaxData l) (said.StreamMoneyBlocked k i t) e h = refl
said_apart (said.ConnectionMaxData l) (said.StreamMaxData k i) e h = refl
said_apart (said.ConnectionMaxData l) (said.StreamMaxMoney k i t) e h = refl
said_apart (said.StreamMaxData j l) (said.StreamMaxData k i) e h = other_test k j h
said_apart (said.StreamMaxData j l) (said.ConnectionDataBlocked i) e h = refl
said_apart (said.StreamMaxData j l) (said.StreamDataBlocked k i) e h = refl
said_apart (said.StreamMaxData j l) (said.StreamMoneyBlocked k i t) e h = refl
said_apart (said.StreamMaxData j l) (said.ConnectionMaxData i) e h = refl
said_apart (said.StreamMaxData j l) (said.StreamMaxMoney k i t) e h = refl
said_apart (said.StreamMaxMoney j l u) (said.StreamMaxMoney k i t) e h = other_test k j h
said_apart (said.StreamMaxMoney j l u) (said.ConnectionDataBlocked i) e h = refl
said_apart (said.StreamMaxMoney j l u) (said.StreamDataBlocked k i) e h = refl
said_apart (said.StreamMaxMoney j l u) (said.StreamMoneyBlocked k i t) e h = refl
said_apart (said.StreamMaxMoney j l u) (said.ConnectionMaxData i) e h = refl
said_apart (said.StreamMaxMoney j l u) (said.StreamMaxData k i) e h = refl

own_number : (k : ℕ) → nat_eq k k ≡ true
own_number k = grind (arith, nat_tests)

own_limit : (x : Notice) → is_limit (telling x) ≡ true → same_limit (telling x) (telling x) ≡ true
own_limit (said.ConnectionDataBlocked l) e = absurd (cc)
own_limit (said.StreamDataBlocked j l) e = absurd (cc)
own_limit (said.StreamMoneyBlocked j l t) e = absurd (cc)
own_limit (said.ConnectionMaxData l) e = refl
own_limit (said.StreamMaxData j l) e = own_number j
own_limit (said.StreamMaxMoney j l t) e = own_number j

-- ---- closes

pub closings_none : (lanes : Slots SendStream) (flights : List Flight) (b : Bounds) → AreClosings lanes flights b 0 []
closings_none lanes flights b = record {
  goes = λ m limits. tt;
  each = tt;
  apart = λ xs. tt;
  few = omega arith;
  all = λ k by l h e f. absurd (omega (arith, h));
  none = λ e k l h at by f. absurd (omega (arith, h));
}

one_code : (x : Outgoing) (c d : ℕ) → IsAbort x c ⊎ IsCleanClose x c → IsAbort x d ⊎ IsCleanClose x d → c ≡ d
one_code x c d (inl a) (inl b) = let same : ◌≡◌ {A = Option ℕ} (Some c) (Some d) = sym a.asked ∙ b.asked in cc
one_code x c d (inl a) (inr b) = absurd (let same : ◌≡◌ {A = Option ℕ} (Some c) None = sym a.asked ∙ b.alive in cc)
one_code x c d (inr a) (inl b) = absurd (let same : ◌≡◌ {A = Option ℕ} (Some d) None = sym b.asked ∙ a.alive in cc)
one_code x c d (inr a) (inr b) = a.code_is ∙ sym b.code_is

own_close : (n by : ℕ) → has_close n by (held.Close n by ∷ []) ≡ true
own_close n by = grind (arith, nat_tests)

module _ (lanes : Slots SendStream) (flights : List Flight) (b : Bounds) (n : ℕ) (fs : List code.SentFrame) (small : n < 65) (a : AreClosings lanes flights b n fs) where
  -- of this stream none goes
  pub closings_skip : ((l : SendStream) → slot lanes n ≡ Some l → (by : ℕ) → ¬ IsFinished flights (less b (costs fs)) n l by) → AreClosings lanes flights b (n + 1) fs
  closings_skip here = record {
    goes = a.goes;
    each = every_weaker (IsCloseBelow n) (IsCloseBelow (n + 1)) (close_later n) fs a.each;
    apart = a.apart;
    few = omega (arith, a.few);
    all = λ k by l h e f. elim (cases_lt k n) [
      | inl low ↦ a.all k by l low e f
      | inr high ↦ (let same : k ≡ n = omega arith in
          absurd (here l (subst (λ i. slot lanes i ≡ Some l) same e) by (subst (λ i. IsFinished flights (less b (costs fs)) i l by) same (finished_rises flights (less b 1300) (less b (costs fs)) k l by refl (omega (arith, a.few, small)) f))))
    ];
    none = λ e. none_more lanes flights b n (a.none e) (λ l at by f. here l at by (finished_rises flights b (less b (costs fs)) n l by refl (omega (arith, ap costs e)) f));
  }

  -- one goes
  pub closings_push : (l : SendStream) (by : ℕ) (gs : List code.SentFrame) → slot lanes n ≡ Some l → IsFinished flights (less b (costs fs)) n l by → gs ≡ fs ++ held.Close n by ∷ [] → AreClosings lanes flights b (n + 1) gs
  closings_push l by gs at f is = subst (λ (hs : List code.SentFrame). AreClosings lanes flights b (n + 1) hs) (sym is) (record {
    goes = λ m limits. next_with lanes flights m limits b fs (held.Close n by ∷ []) (every_weaker (IsCloseBelow n) IsPrompted (close_prompted n) fs a.each) (a.goes m limits) (record { lane = l; is_open = at; is_own = small; finished = f }, tt);
    each = every_with (IsCloseBelow (n + 1)) fs (held.Close n by ∷ []) (every_weaker (IsCloseBelow n) (IsCloseBelow (n + 1)) (close_later n) fs a.each) (omega arith, tt);
    apart = apart_with (IsCloseBelow n) (λ g. g ≡ held.Close n by) (close_apart n by) fs (held.Close n by ∷ []) a.each (refl, tt) a.apart (one_distinct (held.Close n by));
    few = omega (arith, a.few, costs_with fs (held.Close n by ∷ []));
    all = λ k c j h e g. elim (cases_lt k n) [
      | inl low ↦ any_left (λ x. closes k c (shown x)) fs (held.Close n by ∷ []) (a.all k c j low e g)
      | inr high ↦ (let same : k ≡ n = omega arith in
          let own : ◌≡◌ {A = Option SendStream} (Some j) (Some l) = sym (subst (λ i. slot lanes i ≡ Some j) same e) ∙ at in
          let lane : j ≡ l = cc in
          let asked : IsAbort l.out c ⊎ IsCleanClose l.out c = subst (λ (i : SendStream). IsAbort i.out c ⊎ IsCleanClose i.out c) lane g.asked in
          let named : c ≡ by = one_code l.out c by asked f.asked in
          any_right (λ x. closes k c (shown x)) fs (held.Close n by ∷ []) (ap (λ i. has_close i c (held.Close n by ∷ [])) same ∙ ap (λ i. has_close n i (held.Close n by ∷ [])) named ∙ own_close n by))
    ];
    none = λ e. absurd (not_none fs (held.Close n by) e);
  })

-- ---- limits

limits_cost : (fs : List code.SentFrame) → AllByRecursion IsLimit fs → costs fs ≡ 36 * length fs
limits_cost [] a = omega arith
limits_cost (held.Data k o c ∷ fs) a = absurd a.0
limits_cost (held.Close k c ∷ fs) a = absurd a.0
limits_cost (held.Notice x ∷ fs) a = omega (arith, limits_cost fs a.1)

-- a frame of a limit, but not of this notice's limit
abbrev IsOther : Notice → code.SentFrame → Type 0
IsOther x g = IsLimit g × (tells (telling x) (shown g) ≡ false)

others : (x : Notice) (fs : List code.SentFrame) → AllByRecursion IsLimit fs → has_limit (telling x) fs ≡ false → AllByRecursion (IsOther x) fs
others x [] a h = tt
others x (g ∷ fs) a h = let w = or_false (tells (telling x) (shown g)) (has_limit (telling x) fs) h in ((a.0, w.0), others x fs a.1 w.1)

limit_apart : (x : Notice) (f g : code.SentFrame) (xs : ℕ → List ℕ) → IsOther x f → g ≡ held.Notice x → same_due (known_by xs f) (known_by xs g) ≡ false
limit_apart x (held.Data k o c) g xs p e = absurd p.0
limit_apart x (held.Close k c) g xs p e = absurd p.0
limit_apart x (held.Notice y) g xs p e = subst (λ (h : code.SentFrame). same_due (telling y) (known_by xs h) ≡ false) (sym e) (said_apart y x p.0 p.1)

awaited_limit : (m : PeerBlocked) (flights : List Flight) (b : Bounds) (f : Known) → IsAwaited m flights b f → is_limit f ≡ true
awaited_limit m flights b f a = by_test (is_limit f) (λ e. e) (λ e. absurd (no_limit m flights b f e a))

module _ (m : PeerBlocked) (flights : List Flight) (b : Bounds) (limits : List Known) (n : ℕ) (x : Known) (more : List Known) (fs : List code.SentFrame) (within : n < length limits) (a : AreAwaited m flights b limits n (x ∷ more) fs) where
  abbrev Skips : Type 0
  Skips = (length limits ≤ 129 → IsAwaited m flights (less b 4644) x → has_limit x fs ≡ true) × (fs ≡ [] → ¬ IsAwaited m flights b x)

  -- one that does not go, one that goes already, and one too many
  pub not_awaited : ¬ IsAwaited m flights (less b (costs fs)) x → Skips
  not_awaited h = (
    λ short w. absurd (h (awaited_rises m flights b 4644 (costs fs) x (omega (arith, a.most)) w)),
    λ e w. h (subst (λ (c : Bounds). IsAwaited m flights c x) (sym (less_none b (costs fs) (ap costs e))) w),
  )

  pub goes_already : has_limit x fs ≡ true → Skips
  goes_already h = (λ short w. h, λ e w. absurd (let z : false ≡ true = sym (ap (has_limit x) e) ∙ h in cc))

  pub too_many : 129 ≤ length fs → Skips
  too_many h = (λ short w. absurd (omega (arith, h, short, within, a.few, limits_cost fs a.each)), λ e w. absurd (omega (arith, h, ap length e)))

  pub awaited_skip : Skips → AreAwaited m flights b limits (n + 1) more fs
  awaited_skip skips = record {
    goes = a.goes;
    each = a.each;
    apart = a.apart;
    few = omega (arith, a.few);
    most = a.most;
    all = λ f c. elim (a.all f c) [
      | inl rest ↦ elim (first_or x f more rest) [
        | inl same ↦ inr (λ short w. subst (λ (g : Known). has_limit g fs ≡ true) same (skips.0 short (subst (λ (g : Known). IsAwaited m flights (less b 4644) g) (sym same) w)))
        | inr later ↦ inl later
      ]
      | inr done ↦ inr done
    ];
    none = λ e f c. elim (a.none e f c) [
      | inl rest ↦ elim (first_or x f more rest) [
        | inl same ↦ inr (λ w. skips.1 e (subst (λ (g : Known). IsAwaited m flights b g) (sym same) w))
        | inr later ↦ inl later
      ]
      | inr done ↦ inr done
    ];
  }

  pub awaited_push : (y : Notice) (gs : List code.SentFrame) → Contains limits x → telling y ≡ x → IsAwaited m flights (less b (costs fs)) (telling y) → length fs < 129 → has_limit (telling y) fs ≡ false → gs ≡ fs ++ held.Notice y ∷ [] → AreAwaited m flights b limits (n + 1) more gs
  awaited_push y gs stands named w few new is =
      let own = awaited_limit m flights (less b (costs fs)) (telling y) w in
      subst (λ (hs : List code.SentFrame). AreAwaited m flights b limits (n + 1) more hs) (sym is) (record {
        goes = λ lanes. next_with lanes flights m limits b fs (held.Notice y ∷ []) (every_weaker IsLimit IsPrompted limit_prompted fs a.each) (a.goes lanes) (subst (λ (g : Known). Contains limits g) (sym named) stands, w, tt);
        each = every_with IsLimit fs (held.Notice y ∷ []) a.each (own, tt);
        apart = apart_with (IsOther y) (λ g. g ≡ held.Notice y) (limit_apart y) fs (held.Notice y ∷ []) (others y fs a.each new) (refl, tt) a.apart (one_distinct (held.Notice y));
        few = omega (arith, a.few, costs_with fs (held.Notice y ∷ []));
        most = omega (arith, few, limits_cost fs a.each, costs_with fs (held.Notice y ∷ []));
        all = λ f c. elim (a.all f c) [
          | inl rest ↦ elim (first_or x f more rest) [
            | inl same ↦ inr (λ short v. any_right (λ g. tells f (shown g)) fs (held.Notice y ∷ []) (subst (λ (g : Known). has_limit g (held.Notice y ∷ []) ≡ true) (named ∙ same) (ap (λ t. t || false) (own_limit y own))))
            | inr later ↦ inl later
          ]
          | inr done ↦ inr (λ short v. any_left (λ g. tells f (shown g)) fs (held.Notice y ∷ []) (done short v))
        ];
        none = λ e f c. absurd (not_none fs (held.Notice y) e);
      })

-- ---- all frames other than payments

pub chosen : (lanes : Slots SendStream) (flights : List Flight) (m : PeerBlocked) (limits : List Known) (b : Bounds) (turn : ℕ) (cs ns ds fs : List code.SentFrame) (at : Bounds) (count : ℕ) → AreClosings lanes flights b 65 cs → AreAwaited m flights (less b (costs cs)) limits count [] ns → at ≡ less (less b (costs cs)) (costs ns)
    → IsRoundOf lanes flights at turn ds → AreDistinct ds → fs ≡ (cs ++ ns) ++ ds → AreChosen lanes flights m limits b turn fs
chosen lanes flights m limits b turn cs ns ds fs at count c n at_is round apart_data is =
    let prompt = cs ++ ns in
    let sum : costs cs + costs ns ≡ costs prompt = sym (costs_with cs ns) in
    let end : ◌≡◌ {A = Bounds} at (less b (costs prompt)) = at_is ∙ less_less b (costs cs) (costs ns) ∙ ap (λ (i : ℕ). less b i) sum in
    let here = subst (λ (e : Bounds). IsRoundOf lanes flights e turn ds) end round in
    let each = every_with IsPrompted cs ns (every_weaker (IsCloseBelow 65) IsPrompted (close_prompted 65) cs c.each) (every_weaker IsLimit IsPrompted limit_prompted ns n.each) in
    let next = next_with lanes flights m limits b cs ns (every_weaker (IsCloseBelow 65) IsPrompted (close_prompted 65) cs c.each) (c.goes m limits) (n.goes lanes) in
    let apart = apart_with (IsCloseBelow 65) IsLimit close_limit cs ns c.each n.each c.apart n.apart in
    record {
      prompt = prompt;
      data_frames = ds;
      are = is;
      goes = subst (λ (gs : List code.SentFrame). AreNext lanes flights m limits b gs) (sym is) (next_with lanes flights m limits b prompt ds each next (here.are.goes m limits));
      each = each;
      apart = subst AreDistinct (sym is) (apart_with IsPrompted IsData data_apart prompt ds each here.are.each apart apart_data);
      few = omega (arith, sum, c.few, n.most);
      closings = λ k by l h e f. any_left (λ x. closes k by (shown x)) cs ns (c.all k by l h e f);
      awaited = λ f own short w. elim (n.all f own) [
        | inl rest ↦ absurd (no_more f rest)
        | inr done ↦ any_right (λ g. tells f (shown g)) cs ns (done short (subst (λ (e : Bounds). IsAwaited m flights e f) (sym (less_less b (costs cs) 4644)) (awaited_rises m flights b 5944 (costs cs + 4644) f (omega (arith, c.few)) w)))
      ];
      none = λ e. (
        c.none (none_left cs ns e),
        each_of (λ f. ¬ IsAwaited m flights b f) limits (λ f own. elim (n.none (none_right cs ns e) f own) [
          | inl rest ↦ absurd (no_more f rest)
          | inr done ↦ (λ w. done (subst (λ (d : Bounds). IsAwaited m flights d f) (sym (less_none b (costs cs) (ap costs (none_left cs ns e)))) w))
        ]),
      );
      round = here;
    }

-- nothing was chosen
none_both : (prompt ds : List code.SentFrame) → [] ≡ prompt ++ ds → (prompt ≡ []) × (ds ≡ [])
none_both [] ds e = (refl, sym e)
none_both (f ∷ fs) ds e = absurd (cc)

pub chosen_none : (lanes : Slots SendStream) (flights : List Flight) (m : PeerBlocked) (limits : List Known) (b : Bounds) (turn : ℕ) → AreChosen lanes flights m limits b turn [] → IsNone lanes flights b × NoneAwaited m flights b limits
chosen_none lanes flights m limits b turn c =
    let w = none_both c.prompt c.data_frames c.are in
    let idle = c.none w.0 in
    let same = less_none b (costs c.prompt) (ap costs w.0) in
    let ready = none_served lanes flights (less b (costs c.prompt)) turn c.data_frames w.1 c.round in
    ((subst (λ (e : Bounds). NoneReady lanes flights e 65) same ready, idle.0), idle.1)

-- ---- one frame after the other

pub push_left : (b at new : Bounds) (n : ℕ) (fs gs : List code.SentFrame) (f : code.SentFrame) → at ≡ less b (costs fs) → new ≡ less at n → cost f ≡ n → gs ≡ fs ++ f ∷ [] → ◌≡◌ {A = Bounds} new (less b (costs gs))
push_left b at new n fs gs f at_is new_is n_is is =
    let sum : costs fs + n ≡ costs gs = omega (arith, n_is, ap costs is, costs_with fs (f ∷ [])) in
    new_is ∙ ap (λ (d : Bounds). less d n) at_is ∙ less_less b (costs fs) n ∙ ap (λ (i : ℕ). less b i) sum

pub map_long : {X : Type 0} (see : X → Known) (xs : List X) → length (map see xs) ≡ length xs
map_long see [] = refl
map_long see (x ∷ xs) = omega (arith, map_long see xs)

at_place : {X : Type 0} (see : X → Known) (xs : List X) (i : ℕ) (d : X) → i < length xs → map see (drop i xs) ≡ see (get_or xs i d) ∷ map see (drop (i + 1) xs)
at_place see xs i d lt = let one : suc i ≡ i + 1 = omega arith in ap (map see) (drop-cons xs i d lt) ∙ ap (λ j. see (get_or xs i d) ∷ map see (drop j xs)) one

place_in : {X : Type 0} (see : X → Known) (xs : List X) (i : ℕ) (d : X) → i < length xs → Contains (map see xs) (see (get_or xs i d))
place_in see [] i d h = absurd (omega arith)
place_in see (x ∷ xs) zero d h = (0, omega arith, refl)
place_in see (x ∷ xs) (suc i) d h = let r = place_in see xs i d (omega arith) in (suc r.0, omega (arith, r.1), r.2)

module _ (m : PeerBlocked) (flights : List Flight) (b : Bounds) {X : Type 0} (see : X → Known) (xs : List X) (i : ℕ) (fs : List code.SentFrame) (at : Bounds) (at_is : at ≡ less b (costs fs)) (lt : i < length xs) (a : AreAwaited m flights b (map see xs) i (map see (drop i xs)) fs) (d : X) where
  abbrev After : List code.SentFrame → Type 0
  After gs = AreAwaited m flights b (map see xs) (i + 1) (map see (drop (i + 1) xs)) gs

  here : AreAwaited m flights b (map see xs) i (see (get_or xs i d) ∷ map see (drop (i + 1) xs)) fs
  here = subst (λ (rest : List Known). AreAwaited m flights b (map see xs) i rest fs) (at_place see xs i d lt) a

  inside : i < length (map see xs)
  inside = omega (arith, lt, map_long see xs)

  pub skip_this : ¬ IsAwaited m flights at (see (get_or xs i d)) → After fs
  skip_this h =
      awaited_skip m flights b (map see xs) i (see (get_or xs i d)) (map see (drop (i + 1) xs)) fs inside here
      (not_awaited m flights b (map see xs) i (see (get_or xs i d)) (map see (drop (i + 1) xs)) fs inside here (λ w. h (subst (λ (c : Bounds). IsAwaited m flights c (see (get_or xs i d))) (sym at_is) w)))

  pub told_this : (y : Notice) → telling y ≡ see (get_or xs i d) → has_limit (telling y) fs ≡ true → After fs
  told_this y named h =
      awaited_skip m flights b (map see xs) i (see (get_or xs i d)) (map see (drop (i + 1) xs)) fs inside here
      (goes_already m flights b (map see xs) i (see (get_or xs i d)) (map see (drop (i + 1) xs)) fs inside here (subst (λ (g : Known). has_limit g fs ≡ true) named h))

  pub full_this : 129 ≤ length fs → After fs
  full_this h =
      awaited_skip m flights b (map see xs) i (see (get_or xs i d)) (map see (drop (i + 1) xs)) fs inside here
      (too_many m flights b (map see xs) i (see (get_or xs i d)) (map see (drop (i + 1) xs)) fs inside here h)

  pub push_this : (y : Notice) (gs : List code.SentFrame) → telling y ≡ see (get_or xs i d) → IsAwaited m flights at (telling y) → length fs < 129 → has_limit (telling y) fs ≡ false → gs ≡ fs ++ held.Notice y ∷ [] → After gs
  push_this y gs named w few new is =
      awaited_push m flights b (map see xs) i (see (get_or xs i d)) (map see (drop (i + 1) xs)) fs inside here y gs (place_in see xs i d lt) named (subst (λ (c : Bounds). IsAwaited m flights c (telling y)) at_is w) few new is

-- whatever the place is called
pub full_any : (m : PeerBlocked) (flights : List Flight) (b : Bounds) {X : Type 0} (see : X → Known) (xs : List X) (i : ℕ) (fs : List code.SentFrame) (at : Bounds) → at ≡ less b (costs fs) → i < length xs → AreAwaited m flights b (map see xs) i (map see (drop i xs)) fs → 129 ≤ length fs → AreAwaited m flights b (map see xs) (i + 1) (map see (drop (i + 1) xs)) fs
full_any m flights b see [] i fs at at_is lt a h = absurd (omega (arith, lt))
full_any m flights b see (x ∷ xs) i fs at at_is lt a h = full_this m flights b see (x ∷ xs) i fs at at_is lt a x h

pub done_all : (m : PeerBlocked) (flights : List Flight) (b : Bounds) {X : Type 0} (see : X → Known) (xs : List X) (i : ℕ) (fs : List code.SentFrame) → length xs ≤ i → i ≤ length xs → AreAwaited m flights b (map see xs) i (map see (drop i xs)) fs → AreAwaited m flights b (map see xs) (length xs) [] fs
done_all m flights b see xs i fs past end a =
    let same : i ≡ length xs = omega arith in
    let none : map see (drop i xs) ≡ [] = ap (map see) (drop_all i xs past) in
    subst (λ (n : ℕ). AreAwaited m flights b (map see xs) n [] fs) same (subst (λ (rest : List Known). AreAwaited m flights b (map see xs) i rest fs) none a)
