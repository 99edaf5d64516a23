-- Flights by their sequences, and tickets by their numbers: both rise, so none has two places.
use Rattle.std.proofs.Common.{◌≡◌, ◌≢◌, ℕ, ◌+◌, ◌<◌, ◌≤◌, ◌++◌, List, [], ◌∷◌, refl, sym, ap, ◌∙◌, arith, Option, None, Some, ◌⊎◌, inl, inr}
use Rattle.std.proofs.lemmas.Bool.{cases_eq}
use Rattle.st_hop.specs.declared.ticket.Open.{Open}
use Rattle.st_hop.specs.Tickets.{ticket_at, without}
use Rattle.st_hop.specs.Lawful.{IsNumbered}
use Rattle.st_hop.proofs.Sums.{same_test, other_test}
use Rattle.st_hop.proofs.Numbers.{spent, others_stay}
use Rattle.st_sender.specs.Sending.{Flight}
use Rattle.st_sender.specs.Flights.{flight_at, without_flight}

-- ---- flights

-- rising sequences, from the first one on, and none past the last
abbrev pub IsSequenced : ℕ → List Flight → ℕ → Type 0
IsSequenced first [] last = first ≤ last + 1
IsSequenced first (p ∷ ps) last = (first ≤ p.sequence) × IsSequenced (p.sequence + 1) ps last

flight_here : (p : Flight) (ps : List Flight) (n : ℕ) → p.sequence ≡ n → flight_at (p ∷ ps) n ≡ Some p
flight_here p ps n e = same_test p.sequence n (Some p) (flight_at ps n) e

flight_there : (p : Flight) (ps : List Flight) (n : ℕ) → p.sequence ≢ n → flight_at (p ∷ ps) n ≡ flight_at ps n
flight_there p ps n d = other_test p.sequence n (Some p) (flight_at ps n) d

out_here : (p : Flight) (ps : List Flight) (n : ℕ) → p.sequence ≡ n → without_flight (p ∷ ps) n ≡ ps
out_here p ps n e = same_test p.sequence n ps (p ∷ without_flight ps n) e

out_there : (p : Flight) (ps : List Flight) (n : ℕ) → p.sequence ≢ n → without_flight (p ∷ ps) n ≡ p ∷ without_flight ps n
out_there p ps n d = other_test p.sequence n ps (p ∷ without_flight ps n) d

pub found_sequence : (ps : List Flight) (n : ℕ) (p : Flight) → flight_at ps n ≡ Some p → p.sequence ≡ n
found_sequence [] n p e = absurd (cc)
found_sequence (q ∷ ps) n p e = elim (cases_eq q.sequence n) [
  | inl same ↦ (let here : ◌≡◌ {A = Option Flight} (Some q) (Some p) = sym (flight_here q ps n same) ∙ e in let is : q ≡ p = cc in sym (ap (λ (x : Flight). x.sequence) is) ∙ same)
  | inr apart ↦ found_sequence ps n p (sym (flight_there q ps n apart) ∙ e)
]

sequenced_from : (ps : List Flight) (low high last : ℕ) → IsSequenced high ps last → low ≤ high → IsSequenced low ps last
sequenced_from [] low high last h l = omega arith
sequenced_from (p ∷ ps) low high last h l = (omega (arith, h.0), h.1)

pub sequenced_push : (ps : List Flight) (p : Flight) (low last : ℕ) → IsSequenced low ps last → p.sequence ≡ last + 1 → IsSequenced low (ps ++ p ∷ []) p.sequence
sequenced_push [] p low last h e = (omega (arith, h, e), omega (arith, e))
sequenced_push (q ∷ ps) p low last h e = (h.0, sequenced_push ps p (q.sequence + 1) last h.1 e)

pub sequenced_without : (ps : List Flight) (n low last : ℕ) → IsSequenced low ps last → IsSequenced low (without_flight ps n) last
sequenced_without [] n low last h = h
sequenced_without (p ∷ ps) n low last h = elim (cases_eq p.sequence n) [
  | inl same ↦ rw (out_here p ps n same) (sequenced_from ps low (p.sequence + 1) last h.1 (omega (arith, h.0)))
  | inr apart ↦ rw (out_there p ps n apart) (h.0, sequenced_without ps n (p.sequence + 1) last h.1)
]

below_is_none : (ps : List Flight) (n low last : ℕ) → IsSequenced low ps last → n < low → flight_at ps n ≡ None
below_is_none [] n low last h l = refl
below_is_none (p ∷ ps) n low last h l =
    let apart : p.sequence ≢ n = omega (arith, h.0) in
    flight_there p ps n apart ∙ below_is_none ps n (p.sequence + 1) last h.1 (omega (arith, h.0))

-- a flight that landed is not there any more
pub landed_none : (ps : List Flight) (n low last : ℕ) → IsSequenced low ps last → flight_at (without_flight ps n) n ≡ None
landed_none [] n low last h = refl
landed_none (p ∷ ps) n low last h = elim (cases_eq p.sequence n) [
  | inl same ↦ rw (out_here p ps n same) (below_is_none ps n (p.sequence + 1) last h.1 (omega (arith, same)))
  | inr apart ↦ rw (out_there p ps n apart) (flight_there p (without_flight ps n) n apart ∙ landed_none ps n (p.sequence + 1) last h.1)
]

pub others_fly : (ps : List Flight) (n m : ℕ) → m ≢ n → flight_at (without_flight ps n) m ≡ flight_at ps m
others_fly [] n m d = refl
others_fly (p ∷ ps) n m d = elim (cases_eq p.sequence n) [
  | inl same ↦ rw (out_here p ps n same) (let apart : p.sequence ≢ m = (λ e. d (sym e ∙ same)) in sym (flight_there p ps m apart))
  | inr apart ↦ rw (out_there p ps n apart) (elim (cases_eq p.sequence m) [
    | inl is ↦ flight_here p (without_flight ps n) m is ∙ sym (flight_here p ps m is)
    | inr not_it ↦ flight_there p (without_flight ps n) m not_it ∙ others_fly ps n m d ∙ sym (flight_there p ps m not_it)
  ])
]

-- what flies after a landing flew before
pub flew : (ps : List Flight) (n m low last : ℕ) (q : Flight) → IsSequenced low ps last → flight_at (without_flight ps n) m ≡ Some q → flight_at ps m ≡ Some q
flew ps n m low last q h e =
    elim (cases_eq m n) [
      | inl same ↦ absurd (let none : flight_at (without_flight ps n) m ≡ None = rw same (landed_none ps n low last h) in cc)
      | inr apart ↦ sym (others_fly ps n m apart) ∙ e
    ]

-- what flies after a Send flew before, or is new
pub flies_push : (ps : List Flight) (p : Flight) (n : ℕ) (q : Flight) → flight_at (ps ++ p ∷ []) n ≡ Some q → (flight_at ps n ≡ Some q) ⊎ ((p.sequence ≡ n) × (p ≡ q))
flies_push [] p n q e = elim (cases_eq p.sequence n) [
  | inl same ↦ inr (same, (let here : ◌≡◌ {A = Option Flight} (Some p) (Some q) = sym (flight_here p [] n same) ∙ e in cc))
  | inr apart ↦ absurd (let none : flight_at (p ∷ []) n ≡ None = flight_there p [] n apart in cc)
]
flies_push (r ∷ ps) p n q e = elim (cases_eq r.sequence n) [
  | inl same ↦ inl (flight_here r ps n same ∙ (sym (flight_here r (ps ++ p ∷ []) n same) ∙ e))
  | inr apart ↦ elim (flies_push ps p n q (sym (flight_there r (ps ++ p ∷ []) n apart) ∙ e)) [ inl old ↦ inl (flight_there r ps n apart ∙ old) | inr new ↦ inr new ]
]

no_later : (ps : List Flight) (n low last : ℕ) → IsSequenced low ps last → last < n → flight_at ps n ≡ None
no_later [] n low last h l = refl
no_later (p ∷ ps) n low last h l =
    let top = last_of ps (p.sequence + 1) last h.1 in
    let apart : p.sequence ≢ n = omega (arith, top) in
    flight_there p ps n apart ∙ no_later ps n (p.sequence + 1) last h.1 l
  where
    last_of : (ps : List Flight) (low last : ℕ) → IsSequenced low ps last → low ≤ last + 1
    last_of [] low last h = h
    last_of (p ∷ ps) low last h = let g = last_of ps (p.sequence + 1) last h.1 in omega (arith, g, h.0)

pub pushed_flight : (ps : List Flight) (p q : Flight) (low last : ℕ) → IsSequenced low ps last → p.sequence ≡ last + 1 → flight_at (ps ++ p ∷ []) p.sequence ≡ Some q → p ≡ q
pushed_flight ps p q low last h s e =
    elim (flies_push ps p p.sequence q e) [
      | inl old ↦ absurd (let none : flight_at ps p.sequence ≡ None = no_later ps p.sequence low last h (omega (arith, s)) in cc)
      | inr new ↦ new.1
    ]

-- ---- tickets

at_here : (t : Open) (ts : List Open) (n : ℕ) → t.number ≡ n → ticket_at (t ∷ ts) n ≡ Some t
at_here t ts n e = same_test t.number n (Some t) (ticket_at ts n) e

at_there : (t : Open) (ts : List Open) (n : ℕ) → t.number ≢ n → ticket_at (t ∷ ts) n ≡ ticket_at ts n
at_there t ts n d = other_test t.number n (Some t) (ticket_at ts n) d

pub was_open : (ts : List Open) (n m low next : ℕ) (u : Open) → IsNumbered low ts next → ticket_at (without ts n) m ≡ Some u → ticket_at ts m ≡ Some u
was_open ts n m low next u h e =
    elim (cases_eq m n) [
      | inl same ↦ absurd (let none : ticket_at (without ts n) m ≡ None = rw same (spent ts n low next h) in cc)
      | inr apart ↦ sym (others_stay ts n m apart) ∙ e
    ]

pub opens_push : (ts : List Open) (t : Open) (n : ℕ) (u : Open) → ticket_at (ts ++ t ∷ []) n ≡ Some u → (ticket_at ts n ≡ Some u) ⊎ ((t.number ≡ n) × (t ≡ u))
opens_push [] t n u e = elim (cases_eq t.number n) [
  | inl same ↦ inr (same, (let here : ◌≡◌ {A = Option Open} (Some t) (Some u) = sym (at_here t [] n same) ∙ e in cc))
  | inr apart ↦ absurd (let none : ticket_at (t ∷ []) n ≡ None = at_there t [] n apart in cc)
]
opens_push (r ∷ ts) t n u e = elim (cases_eq r.number n) [
  | inl same ↦ inl (at_here r ts n same ∙ (sym (at_here r (ts ++ t ∷ []) n same) ∙ e))
  | inr apart ↦ elim (opens_push ts t n u (sym (at_there r (ts ++ t ∷ []) n apart) ∙ e)) [ inl old ↦ inl (at_there r ts n apart ∙ old) | inr new ↦ inr new ]
]
