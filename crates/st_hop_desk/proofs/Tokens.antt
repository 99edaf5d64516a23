-- A ticket is booked only with the token of what it books.
use Rattle.std.proofs.Common.{◌≡◌, ℕ, ℤ, Bool, true, false, not, ◌&&◌, List, Option, None, Some, nat_eq, int_eq, bytes_eq, if◌then◌else◌, refl, sym, ap, ◌∙◌, arith}
use Rattle.std.specs.Cmp.{signed_Decides}
use Rattle.std.proofs.lemmas.Slice.Eq.{bytes_eq-Decides}
use Rattle.st_hop.specs.declared.ticket.Open.{Open}
use Rattle.st_hop.specs.Settling.{is_booked}
use Rattle.st_links.specs.declared.booking.Booking.{Booking}
use Rattle.st_links.specs.declared.booking.Proof.{Proof}
use Rattle.st_hop_desk.specs.Stored.{booking_of, is_same, is_same_proof, are_same_proofs, is_stored, counted}

both : (a b : Bool) → (a && b) ≡ true → (a ≡ true) × (b ≡ true)
both true true e = (refl, refl)
both true false e = absurd (cc)
both false b e = absurd (cc)

eq_is : (a b : ℕ) → nat_eq a b ≡ true → a ≡ b
eq_is a b e = grind (arith)

abbrev proven : (condition fulfillment : List ℕ) (moment : ℤ) → Proof
proven c f m = record { condition = c; fulfillment = f; moment = m }

same_proof : (a b : Proof) → is_same_proof a b ≡ true → a ≡ b
same_proof a b e =
    let halves = both (bytes_eq a.condition b.condition && bytes_eq a.fulfillment b.fulfillment) (int_eq a.moment b.moment) e in
    let bytes = both (bytes_eq a.condition b.condition) (bytes_eq a.fulfillment b.fulfillment) halves.0 in
    ap (λ x. proven x a.fulfillment a.moment) ((bytes_eq-Decides a.condition b.condition).0 bytes.0) ∙ ap (λ x. proven b.condition x a.moment) ((bytes_eq-Decides a.fulfillment b.fulfillment).0 bytes.1)
    ∙ ap (λ x. proven b.condition b.fulfillment x) ((signed_Decides a.moment b.moment).0 halves.1)

same_proofs : (a b : Option Proof) → are_same_proofs a b ≡ true → a ≡ b
same_proofs None None e = refl
same_proofs None (Some b) e = absurd (cc)
same_proofs (Some a) None e = absurd (cc)
same_proofs (Some a) (Some b) e = ap Some (same_proof a b e)

abbrev made : (payer claim payee due : ℕ) → Option Proof → Booking
made p c q d w = record { payer = p; claim = c; payee = q; due = d; proof = w }

same : (a b : Booking) → is_same a b ≡ true → a ≡ b
same a b e =
    let parts = both ((nat_eq a.payer b.payer && nat_eq a.claim b.claim) && (nat_eq a.payee b.payee && nat_eq a.due b.due)) (are_same_proofs a.proof b.proof) e in
    let halves = both (nat_eq a.payer b.payer && nat_eq a.claim b.claim) (nat_eq a.payee b.payee && nat_eq a.due b.due) parts.0 in
    let first = both (nat_eq a.payer b.payer) (nat_eq a.claim b.claim) halves.0 in
    let second = both (nat_eq a.payee b.payee) (nat_eq a.due b.due) halves.1 in
    ap (λ x. made x a.claim a.payee a.due a.proof) (eq_is a.payer b.payer first.0) ∙ ap (λ x. made b.payer x a.payee a.due a.proof) (eq_is a.claim b.claim first.1)
    ∙ ap (λ x. made b.payer b.claim x a.due a.proof) (eq_is a.payee b.payee second.0) ∙ ap (λ x. made b.payer b.claim b.payee x a.proof) (eq_is a.due b.due second.1)
    ∙ ap (λ x. made b.payer b.claim b.payee b.due x) (same_proofs a.proof b.proof parts.1)

stored_is : (t : Open) (outcome : Option (List ℕ)) (now : ℤ) (token : Option Booking) → is_stored t outcome now token ≡ true → token ≡ Some (booking_of t outcome now)
stored_is t outcome now None e = absurd (cc)
stored_is t outcome now (Some b) e = ap Some (same b (booking_of t outcome now) e)

by_cases : (t : Open) (outcome : Option (List ℕ)) (now : ℤ) (token : Option Booking) (books stored : Bool) → is_booked t outcome now ≡ books → is_stored t outcome now token ≡ stored
    → is_booked t (if books && not stored then None else outcome) now ≡ true → token ≡ Some (booking_of t outcome now)
by_cases t outcome now token true true b s e = stored_is t outcome now token s
by_cases t outcome now token true false b s e = absurd (cc)
by_cases t outcome now token false true b s e = let f : false ≡ true = sym b ∙ e in absurd (cc)
by_cases t outcome now token false false b s e = let f : false ≡ true = sym b ∙ e in absurd (cc)

pub only_stored : (t : Open) (outcome : Option (List ℕ)) (now : ℤ) (token : Option Booking) → is_booked t (counted t outcome now token) now ≡ true → token ≡ Some (booking_of t outcome now)
only_stored t outcome now token e = by_cases t outcome now token (is_booked t outcome now) (is_stored t outcome now token) refl refl e
