-- How one Prepare is served: what was exchanged over the links, what was stored, and what is passed back.
use Rattle.std.specs.Prelude.{◌≡◌, ◌⊎◌, ◌≤ℤ◌, ℕ, ℤ, pos, List, Option, Some, None, IfSome, MatchBool, true, false, ⊤, MatchOption}
use Rattle.st_ilp.specs.Reading.{is_fulfill_text}
use Rattle.st_hop.specs.Hop.{Hop}
use Rattle.st_hop.specs.Lawful.{IsLawful}
use Rattle.st_hop.specs.Tickets.{IsAmong}
use Rattle.st_hop.specs.Refusals.{t00_text}
use Rattle.st_hop.specs.Arriving.{Arrival, Answers, Forwards, arrived}
use Rattle.st_hop.specs.Settling.{is_booked, settled}
use Rattle.st_hop.specs.declared.ticket.Open.{Open}
use Rattle.st_links.specs.declared.booking.Booking.{Booking}
use Rattle.st_hop_desk.specs.Deadlines.{deadline}
use Rattle.st_hop_desk.specs.Stored.{booking_of, IsFateOf}
use Rattle.st_hop_desk.specs.declared.stored.Fate.{Fate}
use Rattle.st_hop_desk.specs.declared.stored.Fate.TheVariants.{Stored, Refused, Unknown}

-- an answer, and no Fulfill
abbrev pub IsUnfulfilled : Option (List ℕ) → Type 0
IsUnfulfilled None = ⊥
IsUnfulfilled (Some bytes) = is_fulfill_text bytes ≡ false

-- Which answer is passed back, by the fate of what the Prepare books. If that is stored it is the Fulfill, or none if the ticket
-- was not open any more; if it is not stored, a Reject; if nobody knows, none.
abbrev pub AnswersBy : Fate → Option (List ℕ) → Type 0
AnswersBy (Stored b) answer = IfSome answer (λ bytes. is_fulfill_text bytes ≡ true)
AnswersBy Refused answer = IsUnfulfilled answer
AnswersBy Unknown answer = answer ≡ None

-- the token that a fate leaves, by which the ticket is settled
abbrev pub IsTokenOf : Option Fate → Option Booking → Type 0
IsTokenOf None None = ⊤
IsTokenOf None (Some token) = ⊥
IsTokenOf (Some (Stored b)) None = ⊥
IsTokenOf (Some (Stored b)) (Some token) = token ≡ b
IsTokenOf (Some Refused) None = ⊤
IsTokenOf (Some Refused) (Some token) = ⊥
IsTokenOf (Some Unknown) token = ⊥

-- the books are asked for what an outcome books, and this is its fate; if it books nothing they are not asked
abbrev pub IsAsked : {B : Type 0} → (stores : B → Booking → Fate → B → Type 0) → Open → (outcome : Option (List ℕ)) → (now : ℤ) → (old : B) → Option Fate → (new : B) → Type 0
IsAsked stores t outcome now old fate new =
    MatchOption fate ((is_booked t outcome now ≡ false) × (new ≡ old))
    (λ f. (is_booked t outcome now ≡ true) × stores old (booking_of t outcome now) f new × IsFateOf (booking_of t outcome now) f)

-- ---- what the hop of a desk did under its lock. No contract can name what a lock has, so these say that there is such a hop

-- the verdict of a lawful hop on these bytes, which an account sent, at this moment
pub record IsVerdict (account : ℕ) (bytes : List ℕ) (now : ℤ) (verdict : Arrival) : Type 0 where
  pub before : Hop
  pub after : Hop
  pub lawful : IsLawful before
  pub given : arrived before account bytes now ≡ (verdict, after)

-- the answer with which a lawful hop settled a ticket that was open there, by this outcome at this moment
pub record IsSettlement (t : Open) (outcome : Option (List ℕ)) (now : ℤ) (answer : List ℕ) : Type 0 where
  pub before : Hop
  pub after : Hop
  pub lawful : IsLawful before
  pub among : IsAmong before.tickets t
  pub given : settled before t outcome now ≡ (answer, after)

-- the ticket was not open at a lawful hop
pub record IsStrange (t : Open) : Type 0 where
  pub hop : Hop
  pub lawful : IsLawful hop
  pub absent : ¬ (IsAmong hop.tickets t)

-- the Reject T00 of a lawful hop
pub record IsT00 (answer : List ℕ) : Type 0 where
  pub hop : Hop
  pub lawful : IsLawful hop
  pub text : answer ≡ t00_text hop.own

-- there is an answer, and it is T00
abbrev pub IsSomeT00 : (answer : Option (List ℕ)) → Type 0
IsSomeT00 None = ⊥
IsSomeT00 (Some bytes) = IsT00 bytes

-- the answer of a ticket that is to be settled by an outcome: what settles it, or T00 if it was not open
abbrev pub IsSettled : Open → (outcome : Option (List ℕ)) → (now : ℤ) → (answer : Option (List ℕ)) → Type 0
IsSettled t outcome now None = ⊥
IsSettled t outcome now (Some bytes) = IsSettlement t outcome now bytes ⊎ (IsStrange t × IsT00 bytes)

-- The answer of a ticket with this outcome, by the fate of what it books. If it books nothing, or that is stored, it is settled by that
-- outcome. If that is not stored, it is settled as if there was no answer. What is stored has no other answer
abbrev pub EndsAs : Open → (outcome : Option (List ℕ)) → (now : ℤ) → Option Fate → (answer : Option (List ℕ)) → Type 0
EndsAs t outcome now None answer = IsSettled t outcome now answer
EndsAs t outcome now (Some (Stored b)) None = IsStrange t
EndsAs t outcome now (Some (Stored b)) (Some bytes) = IsSettlement t outcome now bytes
EndsAs t outcome now (Some Refused) answer = IsSettled t None now answer
EndsAs t outcome now (Some Unknown) answer = answer ≡ None

-- the hop's own answer is never a Fulfill, and what it forwards is of this account
abbrev pub IsOf : (account : ℕ) → Arrival → Type 0
IsOf account (Answers bytes) = is_fulfill_text bytes ≡ false
IsOf account (Forwards t outgoing bytes) = (t.incoming ≡ account) × (t.outgoing ≡ outgoing)

-- a ticket that ends: if it ends fulfilled, the books are asked once, for what it books; otherwise they are not asked
abbrev pub Ends : {B : Type 0} → (stores : B → Booking → Fate → B → Type 0) → Open → (outcome : Option (List ℕ)) → (now : ℤ) → (old : B) → (answer : Option (List ℕ)) → (new : B) → Type 0
Ends stores t outcome now old answer new = MatchBool (is_booked t outcome now)
    ((fate : Fate) × stores old (booking_of t outcome now) fate new × AnswersBy fate answer × EndsAs t outcome now (Some fate) answer)
    ((new ≡ old) × IsUnfulfilled answer × EndsAs t outcome now None answer)

-- what the links, the books and the clock are at a moment
pub record Around (T B K : Type 0) : Type 0 where
  pub links : T
  pub books : B
  pub clock : K

abbrev pub around : {T B K : Type 0} → T → B → K → Around T B K
around links books clock = record { links = links; books = books; clock = clock }

-- A Prepare of an account is forwarded, by a ticket: one exchange, of these bytes with this account, which is that of the ticket, and whose
-- answer is of use until the expiry. The ticket ends by that answer, at the moment that the clock gives then
pub record GoesOn {T B K : Type 0} (exchanges : T → ℕ → List ℕ → ℤ → Option (List ℕ) → T → Type 0) (stores : B → Booking → Fate → B → Type 0) (reads : K → ℤ → K → Type 0) (account : ℕ) (ticket : Open) (outgoing : ℕ) (bytes : List ℕ) (old new : Around T B K) (answer : Option (List ℕ)) : Type 0 where
  pub by : ℤ
  pub outcome : Option (List ℕ)
  pub now : ℤ
  pub from : ticket.incoming ≡ account
  pub to : ticket.outgoing ≡ outgoing
  pub until : pos 0 ≤ℤ ticket.expiry → by ≡ deadline ticket.expiry
  pub exchanged : exchanges old.links outgoing bytes by outcome new.links
  pub read : reads old.clock now new.clock
  pub ends : Ends stores ticket outcome now old.books answer new.books

-- by the hop's verdict it is answered with the hop's own bytes, or forwarded
abbrev pub IsAnswered : {T B K : Type 0} → (exchanges : T → ℕ → List ℕ → ℤ → Option (List ℕ) → T → Type 0) → (stores : B → Booking → Fate → B → Type 0) → (reads : K → ℤ → K → Type 0) → (account : ℕ) → Arrival → (old new : Around T B K) → (answer : Option (List ℕ)) → Type 0
IsAnswered exchanges stores reads account (Answers bytes) old new answer = (new ≡ old) × (answer ≡ Some bytes) × (is_fulfill_text bytes ≡ false)
IsAnswered exchanges stores reads account (Forwards t outgoing bytes) old new answer = GoesOn exchanges stores reads account t outgoing bytes old new answer

-- the desk's hop gave a verdict on the bytes, by which they are answered
pub record IsHeard {T B K : Type 0} (exchanges : T → ℕ → List ℕ → ℤ → Option (List ℕ) → T → Type 0) (stores : B → Booking → Fate → B → Type 0) (reads : K → ℤ → K → Type 0) (account : ℕ) (bytes : List ℕ) (arrival : ℤ) (old new : Around T B K) (answer : Option (List ℕ)) : Type 0 where
  pub verdict : Arrival
  pub given : IsVerdict account bytes arrival verdict
  pub answered : IsAnswered exchanges stores reads account verdict old new answer

-- there was no verdict: nothing is done, and the answer is T00
abbrev pub IsUnheard : {T B K : Type 0} → (old new : Around T B K) → (answer : Option (List ℕ)) → Type 0
IsUnheard old new answer = (new ≡ old) × IsSomeT00 answer

-- the clock is read as the Prepare arrives, and that is the moment of its arrival at the desk
pub record IsServed {T B K : Type 0} (exchanges : T → ℕ → List ℕ → ℤ → Option (List ℕ) → T → Type 0) (stores : B → Booking → Fate → B → Type 0) (reads : K → ℤ → K → Type 0) (account : ℕ) (bytes : List ℕ) (old new : Around T B K) (answer : Option (List ℕ)) : Type 0 where
  pub arrival : ℤ
  pub later : K
  pub read : reads old.clock arrival later
  pub served : IsHeard exchanges stores reads account bytes arrival (record old { clock = later }) new answer ⊎ IsUnheard (record old { clock = later }) new answer
