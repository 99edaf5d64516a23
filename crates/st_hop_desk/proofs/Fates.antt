-- What answers a Prepare, by the fate of what it books.
use Rattle.std.proofs.Common.{IfOk, MatchOption, inl, inr, ap, ◌∙◌, ◌≡◌, ℕ, ℤ, Bool, true, false, not, ◌&&◌, List, [], Option, None, Some, Result, Ok, Err, nat_eq, if◌then◌else◌, refl, subst, arith}
use Rattle.std.proofs.lemmas.Bool.Decides.{nat_tests}
use Rattle.std.specs.Cmp.{signed_Decides}
use Rattle.std.proofs.lemmas.Slice.Eq.{bytes_eq-Decides}
use Rattle.st_ilp.specs.Packets.{PreparePacket}
use Rattle.st_ilp.specs.Reading.{prepare_at, is_fulfill_text}
use Rattle.st_ilp.specs.declared.error.IlpError.{IlpError}
use Rattle.st_ilp.proofs.Apart.{kinds_apart}
use Rattle.st_hop.specs.Hop.{Hop}
use Rattle.st_hop.specs.Arriving.{Arrival, arrived, at_packet, sent_on, judged}
use Rattle.st_hop.specs.Refusals.{reject_text, code_of, payload_of}
use Rattle.st_hop.specs.Settling.{is_booked}
use Rattle.st_hop.specs.declared.refusal.Refusal.{Refusal}
use Rattle.st_hop.specs.declared.route.NextHop.{NextHop}
use Rattle.st_hop.specs.declared.ticket.Open.{Open}
use Rattle.st_links.specs.declared.booking.Booking.{Booking}
use Rattle.st_hop.specs.Lawful.{IsLawful}
use Rattle.st_hop_desk.specs.Serving.{AnswersBy, Around, EndsAs, IsAnswered, IsOf, IsServed, IsSettlement, IsT00, IsTokenOf, IsVerdict}
use Rattle.st_hop_desk.specs.declared.stored.Fate.{Fate}
use Rattle.st_hop_desk.specs.declared.stored.Fate.TheVariants.{Stored, Refused, Unknown}
use Rattle.st_links.specs.declared.booking.Proof.{Proof}
use Rattle.st_hop_desk.specs.Stored.{booking_of, is_same, are_same_proofs, is_stored, counted, IsFateOf}

pub reject_fails : (own : List ℕ) (r : Refusal) → is_fulfill_text (reject_text own r) ≡ false
unfolding reject_text
reject_fails own r = kinds_apart.reject (code_of r) own [] (payload_of r)

sent_of : (h : Hop) (account : ℕ) (p : PreparePacket) (r : Result NextHop Refusal) → IsOf account (sent_on h account p r).0
sent_of h account p (Err refusal) = reject_fails h.own refusal
sent_of h account p (Ok next) = (refl, refl)

packet_of : (h : Hop) (account : ℕ) (r : Result PreparePacket IlpError) (now : ℤ) → IsOf account (at_packet h account r now).0
packet_of h account (Err e) now = reject_fails h.own _
packet_of h account (Ok p) now = sent_of h account p (judged h account p now)

pub arrived_of : (h k : Hop) (account : ℕ) (bytes : List ℕ) (now : ℤ) (v : Arrival) → arrived h account bytes now ≡ (v, k) → IsOf account v
arrived_of h k account bytes now v e =
    let P : Arrival × Hop → Type 0 = λ x. IsOf account x.0 in subst P e (packet_of h account (prepare_at bytes) now)

own : (n : ℕ) → nat_eq n n ≡ true
own n = grind (arith, nat_tests)

own_proofs : (p : Option Proof) → are_same_proofs p p ≡ true
own_proofs None = refl
own_proofs (Some p) = rw ((bytes_eq-Decides p.condition p.condition).1 refl, (bytes_eq-Decides p.fulfillment p.fulfillment).1 refl, (signed_Decides p.moment p.moment).1 refl) refl

same_own : (b : Booking) → is_same b b ≡ true
same_own b = rw (own b.payer, own b.claim, own b.payee, own b.due, own_proofs b.proof) refl

stays : (t : Open) (outcome : Option (List ℕ)) (now : ℤ) (books stored : Bool) → stored ≡ true → is_booked t outcome now ≡ true → is_booked t (if books && not stored then None else outcome) now ≡ true
stays t outcome now true true s e = e
stays t outcome now false true s e = e
stays t outcome now books false s e = absurd (cc)

-- what is stored is passed back
pub passed : (t : Open) (outcome : Option (List ℕ)) (now : ℤ) → is_booked t outcome now ≡ true → is_booked t (counted t outcome now (Some (booking_of t outcome now))) now ≡ true
passed t outcome now e = stays t outcome now (is_booked t outcome now) (is_stored t outcome now (Some (booking_of t outcome now))) (same_own (booking_of t outcome now)) e

goes : (t : Open) (outcome : Option (List ℕ)) (now : ℤ) (books : Bool) → is_booked t outcome now ≡ books → is_booked t (if books && not false then None else outcome) now ≡ false
goes t outcome now true e = refl
goes t outcome now false e = e

-- what is not stored is not
pub held_back : (t : Open) (outcome : Option (List ℕ)) (now : ℤ) → is_booked t (counted t outcome now None) now ≡ false
held_back t outcome now = goes t outcome now (is_booked t outcome now) refl

pub arrives : (h k : Hop) (account from : ℕ) (bytes : List ℕ) (now : ℤ) (v : Arrival) → from ≡ account → arrived h from bytes now ≡ (v, k) → IsOf account v
arrives h k account from bytes now v same e = subst (λ a. IsOf a v) same (arrived_of h k from bytes now v e)

-- what follows from one fact of an answer, or from two
pub ok_one : {A E : Type 0} {P Q : A → Type 0} (r : Result A E) → ((a : A) → P a → Q a) → IfOk r P → IfOk r Q
ok_one (Ok a) f p = f a p
ok_one (Err e) f p = tt

pub ok_two : {A E : Type 0} {P Q R : A → Type 0} (r : Result A E) → ((a : A) → P a → Q a → R a) → IfOk r P → IfOk r Q → IfOk r R
ok_two (Ok a) f p q = f a p q
ok_two (Err e) f p q = tt

-- what answers the Prepare, by the fate of what it books and by the token that settled it
pub settled_by : (fate : Option Fate) (token : Option Booking) (t : Open) (outcome : Option (List ℕ)) (now : ℤ) (answer : List ℕ)
    → MatchOption fate (is_booked t outcome now ≡ false) (λ f. (is_booked t outcome now ≡ true) × IsFateOf (booking_of t outcome now) f) → IsTokenOf fate token
    → is_fulfill_text answer ≡ is_booked t (counted t outcome now token) now → MatchOption fate (is_fulfill_text answer ≡ false) (λ f. AnswersBy f (Some answer))
settled_by None (Some b) t outcome now answer asked is same = absurd is
settled_by None None t outcome now answer asked is same = same ∙ held_back t outcome now
settled_by (Some (Stored b)) None t outcome now answer asked is same = absurd is
settled_by (Some (Stored b)) (Some token) t outcome now answer asked is same =
    same ∙ (ap (λ (x : Booking). is_booked t (counted t outcome now (Some x)) now) (is ∙ asked.1) ∙ passed t outcome now asked.0)
settled_by (Some Refused) (Some b) t outcome now answer asked is same = absurd is
settled_by (Some Refused) None t outcome now answer asked is same = same ∙ held_back t outcome now
settled_by (Some Unknown) token t outcome now answer asked is same = absurd is

pub verdict_of : (h k : Hop) (account from : ℕ) (bytes : List ℕ) (now : ℤ) (v : Arrival) → IsLawful h → from ≡ account → arrived h from bytes now ≡ (v, k) → IsVerdict account bytes now v
verdict_of h k account from bytes now v lawful same e = subst (λ a. IsVerdict a bytes now v) same (record { before = h; after = k; lawful = lawful; given = e })

counts : (outcome : Option (List ℕ)) (books stored : Bool) → stored ≡ true → (if books && not stored then None else outcome) ≡ outcome
counts outcome true true e = refl
counts outcome false true e = refl
counts outcome books false e = absurd (cc)

unasked : (outcome : Option (List ℕ)) (books : Bool) → books ≡ false → (if books && not false then None else outcome) ≡ outcome
unasked outcome true e = absurd (cc)
unasked outcome false e = refl

lost : (outcome : Option (List ℕ)) (books : Bool) → books ≡ true → (if books && not false then None else outcome) ≡ None
lost outcome true e = refl
lost outcome false e = absurd (cc)

-- which outcome settled the ticket, by the fate of what it books
pub ended_by : (fate : Option Fate) (token : Option Booking) (t : Open) (outcome : Option (List ℕ)) (now : ℤ) (answer : List ℕ)
    → MatchOption fate (is_booked t outcome now ≡ false) (λ f. (is_booked t outcome now ≡ true) × IsFateOf (booking_of t outcome now) f) → IsTokenOf fate token
    → IsSettlement t (counted t outcome now token) now answer → EndsAs t outcome now fate (Some answer)
ended_by None (Some b) t outcome now answer asked is s = absurd is
ended_by None None t outcome now answer asked is s = inl (subst (λ o. IsSettlement t o now answer) (unasked outcome (is_booked t outcome now) asked) s)
ended_by (Some (Stored b)) None t outcome now answer asked is s = absurd is
ended_by (Some (Stored b)) (Some token) t outcome now answer asked is s =
    let own : is_stored t outcome now (Some token) ≡ true = ap (λ x. is_same x (booking_of t outcome now)) (is ∙ asked.1) ∙ same_own (booking_of t outcome now) in
    subst (λ o. IsSettlement t o now answer) (counts outcome (is_booked t outcome now) (is_stored t outcome now (Some token)) own) s
ended_by (Some Refused) (Some b) t outcome now answer asked is s = absurd is
ended_by (Some Refused) None t outcome now answer asked is s = inl (subst (λ o. IsSettlement t o now answer) (lost outcome (is_booked t outcome now) asked.0) s)
ended_by (Some Unknown) token t outcome now answer asked is s = absurd is

pub heard : {T B K : Type 0} (exchanges : T → ℕ → List ℕ → ℤ → Option (List ℕ) → T → Type 0) (stores : B → Booking → Fate → B → Type 0) (reads : K → ℤ → K → Type 0)
    (account from : ℕ) (bytes : List ℕ) (arrival : ℤ) (old new : Around T B K) (later : K) (v : Arrival) (answer : Option (List ℕ)) → from ≡ account → reads old.clock arrival later → IsVerdict account bytes arrival v
    → IsAnswered exchanges stores reads from v (record old { clock = later }) new answer → IsServed exchanges stores reads account bytes old new answer
heard exchanges stores reads account from bytes arrival old new later v answer same read given answered =
    record { arrival = arrival; later = later; read = read; served = inl (record { verdict = v; given = given; answered = subst (λ a. IsAnswered exchanges stores reads a v (record old { clock = later }) new answer) same answered }) }

pub unheard : {T B K : Type 0} (exchanges : T → ℕ → List ℕ → ℤ → Option (List ℕ) → T → Type 0) (stores : B → Booking → Fate → B → Type 0) (reads : K → ℤ → K → Type 0)
    (account : ℕ) (bytes : List ℕ) (arrival : ℤ) (old : Around T B K) (later : K) (answer : List ℕ) → reads old.clock arrival later → IsT00 answer → IsServed exchanges stores reads account bytes old (record old { clock = later }) (Some answer)
unheard exchanges stores reads account bytes arrival old later answer read text = record { arrival = arrival; later = later; read = read; served = inr (refl, text) }
