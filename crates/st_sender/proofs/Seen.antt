-- What the model sees of streams that changed.
use Rattle.std.proofs.Common.{◌≡◌, ℕ, zero, suc, ◌+◌, ◌≤◌, arith, List, [], ◌∷◌, length, map, replicate, set, refl, sym, ap, subst, ◌∙◌, Option, None, Some, inl, inr, Result, Ok, Err, OnOk, OnErr}
use Rattle.std.specs.Ordering.{nat_cmp}
use Rattle.std.specs.FinMap as fmap
use Rattle.st_streams.specs.Slots.{Slots, slot, with_slot}
use Rattle.st_sender.specs.Sending.{Outgoing, Flight, Sending, outgoing_at, changed, changed_at, with_outgoing, new_outgoing}
use Rattle.st_sender.specs.Lanes.{SendStream, on_out, changed_to, changed_lane, out_of, outs, flying_by, flying_in, AreBooked, new_lane}
use Rattle.st_sender.specs.FlightsLeft.{AreTied}
use Rattle.st_sender.specs.Paying.{AreFunded, fulfilled_in, offered_in, flown_money}
use Rattle.st_streams.proofs.SlotLemmas.{slot_cases}

pub on_ok : {T E : Type 0} (r : Result T E) {P Q : Type 0} → (P → Q) → OnOk r P → OnOk r Q
on_ok (Ok x) f p = f p
on_ok (Err e) f p = tt

pub either_way : {T E : Type 0} (r : Result T E) {P Q G : Type 0} → (P → G) → (Q → G) → OnOk r P → OnErr r Q → G
either_way (Ok x) f g p q = f p
either_way (Err e) f g p q = g q

length_set : {A : Type 0} (xs : List A) (i : ℕ) (x : A) → length (set xs i x) ≡ length xs
length_set [] i x = refl
length_set (y ∷ ys) zero x = refl
length_set (y ∷ ys) (suc i) x = ap suc (length_set ys i x)

pub map_set : {A B : Type 0} (f : A → B) (xs : List A) (i : ℕ) (x : A) → map f (set xs i x) ≡ set (map f xs) i (f x)
map_set f [] i x = refl
map_set f (y ∷ ys) zero x = refl
map_set f (y ∷ ys) (suc i) x = ap (λ zs. f y ∷ zs) (map_set f ys i x)

pub out_slot : (lanes : Slots SendStream) (k : ℕ) → slot (outs lanes) k ≡ out_of (slot lanes k)
out_slot [] k = refl
out_slot (x ∷ xs) zero = refl
out_slot (x ∷ xs) (suc k) = out_slot xs k

pub changed_length : (lanes : Slots SendStream) (k : ℕ) (f : SendStream → SendStream) (o : Option SendStream) → length (changed_to lanes k f o) ≡ length lanes
changed_length lanes k f None = refl
changed_length lanes k f (Some l) = length_set lanes k (Some (f l))

-- a change of what the model sees, in a value with these streams
outs_to : (s : Sending) (lanes : Slots SendStream) (k : ℕ) (f : Outgoing → Outgoing) (o : Option SendStream) → s.streams ≡ outs lanes
    → ◌≡◌ {A = Sending} (record s { streams = outs (changed_to lanes k (on_out f) o) }) (changed_at s k f (out_of o))
outs_to s lanes k f None e = ap (λ (xs : Slots Outgoing). record s { streams = xs }) (sym e)
outs_to s lanes k f (Some l) e = ap (λ (xs : Slots Outgoing). record s { streams = xs }) (map_set out_of lanes k (Some (on_out f l)) ∙ ap (λ (xs : Slots Outgoing). with_slot xs k (f l.out)) (sym e))

pub seen_changed : (v s : Sending) (lanes news : Slots SendStream) (k : ℕ) (f : Outgoing → Outgoing) → v ≡ s → v.streams ≡ outs lanes → news ≡ changed_lane lanes k (on_out f)
    → ◌≡◌ {A = Sending} (record v { streams = outs news }) (changed s k f)
seen_changed v s lanes news k f e is n =
    ap (λ (xs : Slots SendStream). record v { streams = outs xs }) n ∙ outs_to v lanes k f (slot lanes k) is ∙ ap (λ y. changed_at v k f y) (sym (ap (λ (xs : Slots Outgoing). slot xs k) is ∙ out_slot lanes k))
    ∙ ap (λ (t : Sending). changed t k f) e

pub booked_to : (lanes : Slots SendStream) (flights : List Flight) (k : ℕ) (f : SendStream → SendStream) (o : Option SendStream) → slot lanes k ≡ o → ((l : SendStream) → (f l).flying ≡ l.flying) → AreBooked lanes flights → AreBooked (changed_to lanes k f o) flights
booked_to lanes flights k f None e same h = λ j q. h j q
booked_to lanes flights k f (Some l) e same h = λ j q. elim (slot_cases lanes k (f l) j) [
  | inl here ↦ ap (λ y. flying_in y q) (ap (λ i. slot (with_slot lanes k (f l)) i) here.0 ∙ here.1) ∙ ap (λ m. fmap.get m q) (same l) ∙ sym (ap (λ y. flying_in y q) e) ∙ h k q ∙ ap (λ i. flying_by i flights q) (sym here.0)
  | inr there ↦ ap (λ y. flying_in y q) there ∙ h j q
]

-- a change that leaves no stream with less money to pay
slot_funded : (flights : List Flight) (j : ℕ) (o n : Option SendStream) → fulfilled_in n ≤ fulfilled_in o → offered_in o ≤ offered_in n → fulfilled_in o + flown_money j flights ≤ offered_in o → fulfilled_in n + flown_money j flights ≤ offered_in n
slot_funded flights j o n f p h = omega (arith, f, p, h)

funded_to : (lanes : Slots SendStream) (flights : List Flight) (k : ℕ) (f : SendStream → SendStream) (o : Option SendStream) → slot lanes k ≡ o → ((l : SendStream) → ((f l).out.fulfilled ≤ l.out.fulfilled) × (l.out.offered ≤ (f l).out.offered)) → AreFunded lanes flights → AreFunded (changed_to lanes k f o) flights
funded_to lanes flights k f None e same h = h
funded_to lanes flights k f (Some l) e same h = λ j. elim (slot_cases lanes k (f l) j) [
  | inl here ↦ slot_funded flights j (slot lanes j) (slot (with_slot lanes k (f l)) j)
      (subst (λ o. fulfilled_in o ≤ fulfilled_in (slot lanes j)) (sym (ap (λ i. slot (with_slot lanes k (f l)) i) here.0 ∙ here.1)) (subst (λ o. (f l).out.fulfilled ≤ fulfilled_in o) (sym (ap (λ i. slot lanes i) here.0 ∙ e)) (same l).0))
      (subst (λ o. offered_in (slot lanes j) ≤ offered_in o) (sym (ap (λ i. slot (with_slot lanes k (f l)) i) here.0 ∙ here.1)) (subst (λ o. offered_in o ≤ (f l).out.offered) (sym (ap (λ i. slot lanes i) here.0 ∙ e)) (same l).1))
      (h j)
  | inr there ↦ subst (λ o. fulfilled_in o + flown_money j flights ≤ offered_in o) (sym there) (h j)
]

pub kept : (lanes news : Slots SendStream) (flights : List Flight) (k : ℕ) (f : SendStream → SendStream) → ((l : SendStream) → (f l).flying ≡ l.flying) → ((l : SendStream) → ((f l).out.fulfilled ≤ l.out.fulfilled) × (l.out.offered ≤ (f l).out.offered)) → length lanes ≡ 65 → AreTied lanes flights
    → news ≡ changed_lane lanes k f → (length news ≡ 65) × AreTied news flights
kept lanes news flights k f same fund len h e = (
  ap length e ∙ changed_length lanes k f (slot lanes k) ∙ len,
  record {
    booked = subst (λ (xs : Slots SendStream). AreBooked xs flights) (sym e) (booked_to lanes flights k f (slot lanes k) refl same h.booked);
    funded = subst (λ (xs : Slots SendStream). AreFunded xs flights) (sym e) (funded_to lanes flights k f (slot lanes k) refl fund h.funded);
  },
)

pub unchanged : (lanes news : Slots SendStream) (flights : List Flight) → length lanes ≡ 65 → AreTied lanes flights → news ≡ lanes → (length news ≡ 65) × AreTied news flights
unchanged lanes news flights len h e = (ap length e ∙ len, subst (λ (xs : Slots SendStream). AreTied xs flights) (sym e) h)

-- a stream that opens
opened_booked : (lanes : Slots SendStream) (flights : List Flight) (k : ℕ) → AreBooked lanes flights → slot lanes k ≡ None → AreBooked (with_slot lanes k new_lane) flights
opened_booked lanes flights k h fresh = λ j q. elim (slot_cases lanes k new_lane j) [
  | inl here ↦ ap (λ y. flying_in y q) (ap (λ i. slot (with_slot lanes k new_lane) i) here.0 ∙ here.1) ∙ fmap.get-empty nat_cmp q ∙ sym (ap (λ y. flying_in y q) fresh) ∙ h k q ∙ ap (λ i. flying_by i flights q) (sym here.0)
  | inr there ↦ ap (λ y. flying_in y q) there ∙ h j q
]

opened_funded : (lanes : Slots SendStream) (flights : List Flight) (k : ℕ) → AreFunded lanes flights → slot lanes k ≡ None → AreFunded (with_slot lanes k new_lane) flights
opened_funded lanes flights k h fresh = λ j. elim (slot_cases lanes k new_lane j) [
  | inl here ↦ (let none : 0 + flown_money j flights ≤ 0 = subst (λ o. fulfilled_in o + flown_money j flights ≤ offered_in o) (ap (λ i. slot lanes i) here.0 ∙ fresh) (h j) in
      subst (λ o. fulfilled_in o + flown_money j flights ≤ offered_in o) (sym (ap (λ i. slot (with_slot lanes k new_lane) i) here.0 ∙ here.1)) none)
  | inr there ↦ subst (λ o. fulfilled_in o + flown_money j flights ≤ offered_in o) (sym there) (h j)
]

pub opened_kept : (lanes news : Slots SendStream) (flights : List Flight) (k : ℕ) → length lanes ≡ 65 → AreTied lanes flights → slot lanes k ≡ None → news ≡ with_slot lanes k new_lane → (length news ≡ 65) × AreTied news flights
opened_kept lanes news flights k len h fresh e = (
  ap length e ∙ length_set lanes k (Some new_lane) ∙ len,
  subst (λ (xs : Slots SendStream). AreTied xs flights) (sym e) (record { booked = opened_booked lanes flights k h.booked fresh; funded = opened_funded lanes flights k h.funded fresh }),
)

pub seen_opened : (v s : Sending) (lanes news : Slots SendStream) (k : ℕ) → v ≡ s → v.streams ≡ outs lanes → news ≡ with_slot lanes k new_lane → ◌≡◌ {A = Sending} (record v { streams = outs news }) (with_outgoing s k new_outgoing)
seen_opened v s lanes news k e is n =
    ap (λ (xs : Slots SendStream). record v { streams = outs xs }) n ∙ ap (λ (xs : Slots Outgoing). record v { streams = xs }) (map_set out_of lanes k (Some new_lane) ∙ ap (λ (xs : Slots Outgoing). with_slot xs k new_outgoing) (sym is))
    ∙ ap (λ (t : Sending). with_outgoing t k new_outgoing) e

pub not_open : (o : Option SendStream) → out_of o ≡ None → o ≡ None
not_open None e = refl
not_open (Some l) e = absurd (cc)

-- no stream
pub empty_slot : {X : Type 0} (n k : ℕ) → slot {A = X} (replicate n None) k ≡ None
empty_slot zero k = refl
empty_slot (suc n) zero = refl
empty_slot (suc n) (suc k) = empty_slot n k

none_booked : (k q : ℕ) (lanes : Slots SendStream) (ps : List Flight) → lanes ≡ replicate 65 None → ps ≡ [] → flying_in (slot lanes k) q ≡ flying_by k ps q
none_booked k q lanes ps e f = ap (λ y. flying_in y q) (ap (λ (xs : Slots SendStream). slot xs k) e ∙ empty_slot 65 k) ∙ ap (λ (xs : List Flight). flying_by k xs q) (sym f)

none_funded : (k : ℕ) (lanes : Slots SendStream) (ps : List Flight) → lanes ≡ replicate 65 None → ps ≡ [] → fulfilled_in (slot lanes k) + flown_money k ps ≤ offered_in (slot lanes k)
none_funded k lanes ps e f =
    let place : slot lanes k ≡ None = ap (λ (xs : Slots SendStream). slot xs k) e ∙ empty_slot 65 k in
    omega (arith, ap fulfilled_in place, ap (λ (xs : List Flight). flown_money k xs) f)

pub none_tied : (lanes : Slots SendStream) (ps : List Flight) → lanes ≡ replicate 65 None → ps ≡ [] → AreTied lanes ps
none_tied lanes ps e f = record { booked = λ k q. none_booked k q lanes ps e f; funded = λ k. none_funded k lanes ps e f }

pub on_err : {T E : Type 0} (r : Result T E) {P Q : Type 0} → (P → Q) → OnErr r P → OnErr r Q
on_err (Ok x) f p = tt
on_err (Err e) f p = f p

-- streams that stay, in a value with these streams
pub seen_same : (v s : Sending) (lanes news : Slots SendStream) → v ≡ s → v.streams ≡ outs lanes → news ≡ lanes → ◌≡◌ {A = Sending} (record v { streams = outs news }) s
seen_same v s lanes news e is n = ap (λ (xs : Slots SendStream). record v { streams = outs xs }) n ∙ ap (λ (xs : Slots Outgoing). record v { streams = xs }) (sym is) ∙ e

-- a stream as the model sees it
pub seen_at : (v s : Sending) (lanes : Slots SendStream) (k : ℕ) → v ≡ s → v.streams ≡ outs lanes → out_of (slot lanes k) ≡ outgoing_at s k
seen_at v s lanes k e is = sym (out_slot lanes k) ∙ ap (λ (xs : Slots Outgoing). slot xs k) (sym is) ∙ ap (λ (t : Sending). outgoing_at t k) e

pub seen_streams : (v s : Sending) (lanes : Slots SendStream) → v ≡ s → v.streams ≡ outs lanes → outs lanes ≡ s.streams
seen_streams v s lanes e is = sym is ∙ ap (λ (t : Sending). t.streams) e

-- a refusal by what the streams hold is one by the model
pub refused_as : (v s : Sending) (lanes : Slots SendStream) (k : ℕ) (P : Option Outgoing → Slots Outgoing → Type 0) → v ≡ s → v.streams ≡ outs lanes → P (out_of (slot lanes k)) (outs lanes) → P (outgoing_at s k) s.streams
refused_as v s lanes k P e is p = subst (λ o. P o s.streams) (seen_at v s lanes k e is) (subst (λ xs. P (out_of (slot lanes k)) xs) (seen_streams v s lanes e is) p)

-- and flights that stay
pub seen_stays : (v s : Sending) (lanes news : Slots SendStream) (fl : List Flight) → v ≡ s → v.streams ≡ outs lanes → news ≡ lanes → fl ≡ v.flights → ◌≡◌ {A = Sending} (record v { streams = outs news; flights = fl }) s
seen_stays v s lanes news fl e is n f = ap (λ (ps : List Flight). record v { streams = outs news; flights = ps }) f ∙ seen_same v s lanes news e is n

pub err_of : {T E : Type 0} (r : Result T E) {P : Type 0} → P → OnErr r P
err_of (Ok x) p = tt
err_of (Err e) p = p
