-- The tickets of a hop that are not spent, by their number.
use Rattle.std.proofs.Common.{◌≡◌, ◌≢◌, ℕ, ◌+◌, ◌≤◌, ◌++◌, cond, nat_eq, List, [], ◌∷◌, length, refl, sym, ap, subst, ◌∙◌, arith, inl, inr, Option, None, Some, Bool, true, false, ℤ, Result, Ok, Err}
use Rattle.std.proofs.lemmas.Bool.{cases_eq}
use Rattle.std.proofs.lemmas.Bool.Decides.{nat_tests}
use Rattle.std.specs.HashMap.{HashMap, get}
use Rattle.st_ilp.specs.Packets.{PreparePacket}
use Rattle.st_ilp.specs.Reading.{prepare_at}
use Rattle.st_ilp.specs.Spelling.{prepare_text}
use Rattle.st_ilp.specs.declared.error.IlpError.{IlpError}
use Rattle.st_hop.specs.declared.ticket.Open.{Open}
use Rattle.st_hop.specs.declared.route.NextHop.{NextHop}
use Rattle.st_hop.specs.declared.refusal.Refusal.{Refusal}
use Rattle.st_hop.specs.declared.refusal.Refusal.TheVariants.{InvalidPacket}
use Rattle.st_hop.specs.Refusals.{reject_text}
use Rattle.st_hop.specs.Hop.{Hop, holding}
use Rattle.st_hop.specs.Lawful.{IsLawful, IsNumbered}
use Rattle.st_hop.specs.Arriving.{Arrival, Answers, Forwards, arrived, at_packet, judged, onward, sent_on, ticket_for}
use Rattle.st_hop.specs.Settling.{settled, KeepsRest}
use Rattle.st_hop.specs.Tickets.{ticket_at, without, IsAmong}
use Rattle.st_hop.proofs.Numbers.{found_number, others_stay, spent}
use Rattle.st_world_parts.specs.Kept.{AreByNumber}

same_test : {X : Type 0} (a n : ℕ) (x y : X) → a ≡ n → cond (nat_eq a n) x y ≡ x
same_test a n x y e = let t : nat_eq a n ≡ true = grind (arith, nat_tests) in ap (λ (b : Bool). cond b x y) t

other_test : {X : Type 0} (a n : ℕ) (x y : X) → a ≢ n → cond (nat_eq a n) x y ≡ y
other_test a n x y e = let t : nat_eq a n ≡ false = grind (arith, nat_tests) in ap (λ (b : Bool). cond b x y) t

pub found_among : (xs : List Open) (n : ℕ) (t : Open) → ticket_at xs n ≡ Some t → IsAmong xs t
found_among xs n t e = let P : ℕ → Type 0 = λ m. ticket_at xs m ≡ Some t in subst P (sym (found_number xs n t e)) e

-- ---- one more

numbered_above : (ts : List Open) (low next : ℕ) → IsNumbered low ts next → low ≤ next
numbered_above [] low next h = h
numbered_above (t ∷ ts) low next h = let g = numbered_above ts (t.number + 1) next h.1 in omega (arith, g, h.0)

-- the next number is found last
pushed : (ts : List Open) (t : Open) (low next n : ℕ) → IsNumbered low ts next → t.number ≡ next → ticket_at (ts ++ t ∷ []) n ≡ cond (nat_eq t.number n) (Some t) (ticket_at ts n)
pushed [] t low next n h e = refl
pushed (u ∷ ts) t low next n h e =
    let rest : Option Open = ticket_at ts n in
    let below = numbered_above ts (u.number + 1) next h.1 in
    elim (cases_eq u.number n) [
      | inl same ↦ same_test u.number n (Some u) (ticket_at (ts ++ t ∷ []) n) same
          ∙ sym (other_test t.number n (Some t) (cond (nat_eq u.number n) (Some u) rest) (let apart : t.number ≢ n = omega (arith, below, same, e) in apart) ∙ same_test u.number n (Some u) rest same)
      | inr apart ↦ other_test u.number n (Some u) (ticket_at (ts ++ t ∷ []) n) apart ∙ pushed ts t (u.number + 1) next n h.1 e
          ∙ ap (λ (o : Option Open). cond (nat_eq t.number n) (Some t) o) (sym (other_test u.number n (Some u) rest apart))
    ]

sent_holds : (h k : Hop) (account : ℕ) (p : PreparePacket) (r : Result NextHop Refusal) (t : Open) (outgoing : ℕ) (text : List ℕ) → sent_on h account p r ≡ (Forwards t outgoing text, k) → (k ≡ holding h t) × (t.number ≡ h.next)
sent_holds h k account p (Err refusal) t outgoing text e = absurd (let first : ◌≡◌ {A = Arrival} (Answers (reject_text h.own refusal)) (Forwards t outgoing text) = ap (λ (q : Arrival × Hop). q.0) e in cc)
sent_holds h k account p (Ok next) t outgoing text e =
    let u : Open = ticket_for h.next account next.account p (onward next.rate p) in
    let first : ◌≡◌ {A = Arrival} (Forwards u next.account (prepare_text (onward next.rate p))) (Forwards t outgoing text) = ap (λ (q : Arrival × Hop). q.0) e in
    let is : u ≡ t = cc in
    let second : holding h u ≡ k = ap (λ (q : Arrival × Hop). q.1) e in
    (sym second ∙ ap (λ (x : Open). holding h x) is, ap (λ (x : Open). x.number) (sym is))

forwards_hold : (h k : Hop) (account : ℕ) (r : Result PreparePacket IlpError) (now : ℤ) (t : Open) (outgoing : ℕ) (text : List ℕ) → at_packet h account r now ≡ (Forwards t outgoing text, k) → (k ≡ holding h t) × (t.number ≡ h.next)
forwards_hold h k account (Err why) now t outgoing text e = absurd (let first : ◌≡◌ {A = Arrival} (Answers (reject_text h.own InvalidPacket)) (Forwards t outgoing text) = ap (λ (q : Arrival × Hop). q.0) e in cc)
forwards_hold h k account (Ok p) now t outgoing text e = sent_holds h k account p (judged h account p now) t outgoing text e

module _ {S : Type 0} where
  pub kept_still : (ts : List Open) (old new : HashMap ℕ Open S) → ((n : ℕ) → get nat_eq new n ≡ get nat_eq old n) → AreByNumber old ts → AreByNumber new ts
  kept_still ts old new same by = λ n. same n ∙ by n

  pub kept_more : (h k : Hop) (t : Open) (account outgoing : ℕ) (bytes text : List ℕ) (now : ℤ) (old new : HashMap ℕ Open S) → IsLawful h → arrived h account bytes now ≡ (Forwards t outgoing text, k) → AreByNumber old h.tickets
      → ((n : ℕ) → get nat_eq new n ≡ cond (nat_eq t.number n) (Some t) (get nat_eq old n)) → length h.accounts ≡ 2 → AreByNumber new k.tickets × (length k.accounts ≡ 2)
  kept_more h k t account outgoing bytes text now old new lawful goes by more two =
      let holds = forwards_hold h k account (prepare_at bytes) now t outgoing text goes in
      let tickets : k.tickets ≡ h.tickets ++ t ∷ [] = ap (λ (x : Hop). x.tickets) holds.0 in
      let accounts : k.accounts ≡ h.accounts = ap (λ (x : Hop). x.accounts) holds.0 in (
        λ n. more n ∙ ap (λ (o : Option Open). cond (nat_eq t.number n) (Some t) o) (by n) ∙ sym (pushed h.tickets t 0 h.next n lawful.numbered holds.1) ∙ ap (λ (ts : List Open). ticket_at ts n) (sym tickets),
        ap length accounts ∙ two,
      )

  -- ---- one less

  -- there was none of the number
  pub kept_all : (ts : List Open) (n : ℕ) (old new : HashMap ℕ Open S) → get nat_eq old n ≡ None → AreByNumber old ts → ((m : ℕ) → get nat_eq new m ≡ cond (nat_eq n m) None (get nat_eq old m)) → AreByNumber new ts
  kept_all ts n old new none by less = λ m. elim (cases_eq n m) [
    | inl same ↦ less m ∙ same_test n m None (get nat_eq old m) same ∙ sym none ∙ ap (λ i. get nat_eq old i) same ∙ by m
    | inr apart ↦ less m ∙ other_test n m None (get nat_eq old m) apart ∙ by m
  ]

  -- there was, and it is settled
  pub kept_less : (h k : Hop) (t : Open) (outcome : Option (List ℕ)) (now : ℤ) (text : List ℕ) (n : ℕ) (old new : HashMap ℕ Open S) → IsLawful h → KeepsRest h (settled h t outcome now).1 t → settled h t outcome now ≡ (text, k) → get nat_eq old n ≡ Some t
      → AreByNumber old h.tickets → ((m : ℕ) → get nat_eq new m ≡ cond (nat_eq n m) None (get nat_eq old m)) → length h.accounts ≡ 2 → AreByNumber new k.tickets × (length k.accounts ≡ 2)
  kept_less h k t outcome now text n old new lawful keeps is found by less two =
      let number : t.number ≡ n = found_number h.tickets n t (sym (by n) ∙ found) in
      let tickets : k.tickets ≡ without h.tickets n = ap (λ (r : List ℕ × Hop). r.1.tickets) (sym is) ∙ keeps.tickets ∙ ap (λ m. without h.tickets m) number in
      let accounts : k.accounts ≡ h.accounts = ap (λ (r : List ℕ × Hop). r.1.accounts) (sym is) ∙ keeps.accounts in
      (λ m. less m ∙ left m ∙ ap (λ (ts : List Open). ticket_at ts m) (sym tickets), ap length accounts ∙ two)
    where
      left : (m : ℕ) → cond (nat_eq n m) None (get nat_eq old m) ≡ ticket_at (without h.tickets n) m
      left m = elim (cases_eq n m) [
        | inl same ↦ same_test n m None (get nat_eq old m) same ∙ sym (ap (λ i. ticket_at (without h.tickets n) i) (sym same) ∙ spent h.tickets n 0 h.next lawful.numbered)
        | inr apart ↦ other_test n m None (get nat_eq old m) apart ∙ by m ∙ sym (others_stay h.tickets n m (λ e. apart (sym e)))
      ]
