-- A world after an event at an end, by the parts that it changed.
use Rattle.std.proofs.Common.{◌≡◌, ◌≢◌, ℕ, zero, suc, ◌≤◌, Bool, true, false, ◌||◌, List, refl, sym, ap, subst, ◌∙◌, arith, ℤ, Option, None, Some, ◌⊎◌, inl, inr, Ok, Err, Result, is_some, ◌&&◌, cond, nat_eq}
use Rattle.std.specs.Prelude.{is_ok}
use Rattle.std.specs.Ordering.{nat_cmp}
use Rattle.std.specs.FinMap as fmap
use Rattle.std.proofs.lemmas.Bool.Decides.{nat_tests}
use Rattle.st_sender.specs.Sending as sender
use Rattle.st_receiver.specs.Streams as streams
use Rattle.st_receiver.specs.Reading.{Got}
use Rattle.st_streams.specs.declared.end_error.EndError.{EndError}
use Rattle.st_end.specs.State.{EndState}
use Rattle.st_end.specs.Calls.{Answer, open_stream, write, close, abort, offer, set_receive_max}
use Rattle.st_end.specs.Reading as reading
use Rattle.st_end.specs.Sending.{open_flight}
use Rattle.st_end.specs.Answers.{ended_with, pays}
use Rattle.st_end.specs.Receiving.{Verdict, Unread, Rejects, Fulfills, verdict, t00_text}
use Rattle.st_world_parts.specs.Sides.{Side, Client, Server, other, Both, at, put}
use Rattle.st_world_parts.specs.StreamLogs.{StreamLog, ledger_or, written, cleanly_closed, given_up}
use Rattle.st_world_parts.specs.State.{World, Party, Node, SentPrepare, Direction, AnsweredAtEnd, AtEnd, with_end, first_link}
use Rattle.st_world_parts.specs.Events.{Event, OpenStream, Write, Read, Close, Abort, Offer, ReceiveMax, Send, Told, Silent, Call, Took, Opened, Gave, Sent, Answered, NoMemory}
use Rattle.st_world_parts.specs.Ends.{Calls, accepted_at, AbortsAt, read_at, prepare_of_flight, answer_to, refused_entry, answered_at_end, flight_of, BackAtEnd}
use Rattle.st_world.specs.Steps.{Meets, with_refusal, MayHaveRisen, BackAt}
use Rattle.st_world_parts.specs.Parts.{CallMet, OpenMet, RaiseMet, ReadMet, kept_if, read_if, with_state, lane_in, with_lane_in, with_put_in, with_given_in, with_taken_in, with_answered}
use Rattle.st_world.specs.Places.{Links, LinkSends, LinkMet, LinkBack}
use Rattle.st_world.specs.Left.{Left, in_world, lacks, MeetsAt}
use Rattle.st_world.proofs.LinkLists.{put_same, lane_same, taken_world}

abbrev pub Led : Type 0
Led = fmap.FinMap nat_cmp StreamLog

or_false : (b : Bool) → (b || false) ≡ b
or_false true = refl
or_false false = refl

or_true : (b : Bool) → (b || true) ≡ true
or_true true = refl
or_true false = refl

-- what is with_refusal after a call that found memory, and after one that did not
pub quiet : (r b : Bool) (told same : Told) → told ≡ same → lacks same ≡ false → b ≡ (r || lacks told) → b ≡ r
quiet r b told same e l is = is ∙ ap (λ (t : Told). r || lacks t) e ∙ ap (λ (x : Bool). r || x) l ∙ or_false r

pub loud : (r b : Bool) (told : Told) → told ≡ NoMemory → b ≡ (r || lacks told) → b ≡ true
loud r b told e is = is ∙ ap (λ (t : Told). r || lacks t) e ∙ or_true r

-- the parts of a world
abbrev pub of_parts : Both Party → List Node → Links → Both Led → Bool → World
of_parts ends ns ls lg b = record { ends = ends; nodes = ns; links = ls; ledgers = lg; refused = b }

abbrev pub left : Both Party → List Node → Both Led → Bool → Left
left ends ns lg b = record { ends = ends; nodes = ns; ledgers = lg; refused = b }

may_stay : (e : EndState) (v : Verdict) → MayHaveRisen e v e
may_stay e (Unread code reason) = refl
may_stay e (Rejects p reason) = inl refl
may_stay e (Fulfills p r) = inl refl

module _ (ends : Both Party) (ns : List Node) (lg : Both Led) (r : Bool) where
  -- an end is changed, and a ledger
  same_parts : (a c : Side) (ls : Links) (q q' : Party) (m m' : Led) (b b' : Bool) → q ≡ q' → m ≡ m' → b ≡ b' → of_parts (put ends a q) ns ls (put lg c m) b ≡ of_parts (put ends a q') ns ls (put lg c m') b'
  same_parts a c ls q q' m m' b b' eq em eb =
      ap (λ (x : Party). of_parts (put ends a x) ns ls (put lg c m) b) eq ∙ ap (λ (x : Led). of_parts (put ends a q') ns ls (put lg c x) b) em ∙ ap (of_parts (put ends a q') ns ls (put lg c m')) eb

  same_end : (a : Side) (ls : Links) (q q' : Party) (b b' : Bool) → q ≡ q' → b ≡ b' → of_parts (put ends a q) ns ls lg b ≡ of_parts (put ends a q') ns ls lg b'
  same_end a ls q q' b b' eq eb = ap (λ (x : Party). of_parts (put ends a x) ns ls lg b) eq ∙ ap (of_parts (put ends a q') ns ls lg) eb

  unchanged : (a c : Side) (ls : Links) (q : Party) (m : Led) (b : Bool) → q ≡ at ends a → m ≡ at lg c → b ≡ true → of_parts (put ends a q) ns ls (put lg c m) b ≡ with_refusal (of_parts ends ns ls lg r)
  unchanged a c ls q m b eq em eb =
      same_parts a c ls q (at ends a) m (at lg c) b true eq em eb
      ∙ ap (λ (x : Both Party). of_parts x ns ls (put lg c (at lg c)) true) (put_same ends a) ∙ ap (λ (x : Both Led). of_parts ends ns ls x true) (put_same lg c)

  unchanged_end : (a : Side) (ls : Links) (q : Party) (b b' : Bool) → q ≡ at ends a → b ≡ b' → of_parts (put ends a q) ns ls lg b ≡ of_parts ends ns ls lg b'
  unchanged_end a ls q b b' eq eb = same_end a ls q (at ends a) b b' eq eb ∙ ap (λ (x : Both Party). of_parts x ns ls lg b') (put_same ends a)

  accepted : (x : Answer) (a : Side) (ls : Links) (k : ℕ) (e : EndState) (l : StreamLog) → of_parts (put ends a (with_state (at ends a) e)) ns ls (put lg a (kept_if x (at lg a) k l)) r ≡ accepted_at x (with_end (of_parts ends ns ls lg r) a e) a k l
  accepted (Ok done) a ls k e l = refl
  accepted (Err why) a ls k e l = ap (λ (x : Both Led). of_parts (put ends a (with_state (at ends a) e)) ns ls x r) (put_same lg a)

  -- a call on a stream: its ledger is the one that this end writes
  called : (a : Side) (ls : Links) (k : ℕ) (x : Answer × EndState) (l : StreamLog) (told : Told) (q : Party) (m : Led) (b : Bool) → CallMet x k l told (at ends a) q (at lg a) m → b ≡ (r || lacks told)
      → Calls (of_parts ends ns ls lg r) a k x l told (of_parts (put ends a q) ns ls (put lg a m) b) ⊎ ((told ≡ NoMemory) × (is_ok x.0 ≡ true) × (of_parts (put ends a q) ns ls (put lg a m) b ≡ with_refusal (of_parts ends ns ls lg r)))
  called a ls k x l told q m b met is = elim met [
    | inl h ↦ inl (h.0, same_parts a a ls q _ m _ b r h.1 h.2 (quiet r b told (Call x.0) h.0 refl is) ∙ accepted x.0 a ls k x.1 l)
    | inr h ↦ inr (h.0, h.1, unchanged a a ls q m b h.2 h.3 (loud r b told h.0 is))
  ]

  module _ (t : Left) (base : left ends ns lg r ≡ t) (a : Side) (ls : Links) where
    abbrev w : World
    w = of_parts ends ns ls lg r

    -- from the parts to the value that shows them
    shown : (event : Event) (told : Told) (after : World) → Meets w event told after → Meets (in_world t ls) event told after
    shown event told after h = subst (λ (s : Left). Meets (in_world s ls) event told after) base h

    pub open_meets : (told : Told) (q : Party) (b : Bool) → OpenMet (open_stream (at ends a).state) told (at ends a) q → b ≡ (r || lacks told) → Meets (in_world t ls) (OpenStream a) told (in_world (left (put ends a q) ns lg b) ls)
    open_meets told q b met is = shown (OpenStream a) told (of_parts (put ends a q) ns ls lg b) (elim met [
      | inl h ↦ inl (h.0, same_end a ls q _ b r h.1 (quiet r b told (Opened (open_stream (at ends a).state).0) h.0 refl is))
      | inr h ↦ inr (w, h.0, (h.1, refl), unchanged_end a ls q b true h.2 (loud r b told h.0 is))
    ])

    pub write_meets : (k : ℕ) (xs : List ℕ) (told : Told) (q : Party) (m : Led) (b : Bool) → CallMet (write (at ends a).state k xs) k (written xs (ledger_or (fmap.get (at lg a) k))) told (at ends a) q (at lg a) m → b ≡ (r || lacks told)
        → Meets (in_world t ls) (Write a k xs) told (in_world (left (put ends a q) ns (put lg a m) b) ls)
    write_meets k xs told q m b met is = shown (Write a k xs) told (of_parts (put ends a q) ns ls (put lg a m) b) (elim (called a ls k _ _ told q m b met is) [ inl h ↦ inl h | inr h ↦ inr (w, h.0, (h.1, refl), h.2) ])

    pub close_meets : (k : ℕ) (told : Told) (q : Party) (m : Led) (b : Bool) → CallMet (close (at ends a).state k) k (cleanly_closed (ledger_or (fmap.get (at lg a) k))) told (at ends a) q (at lg a) m → b ≡ (r || lacks told)
        → Meets (in_world t ls) (Close a k) told (in_world (left (put ends a q) ns (put lg a m) b) ls)
    close_meets k told q m b met is = shown (Close a k) told (of_parts (put ends a q) ns ls (put lg a m) b) (elim (called a ls k _ _ told q m b met is) [ inl h ↦ inl h | inr h ↦ inr (w, h.0, (h.1, refl), h.2) ])

    pub offer_meets : (k amount : ℕ) (told : Told) (q : Party) (m : Led) (b : Bool) → CallMet (offer (at ends a).state k amount) k (ledger_or (fmap.get (at lg a) k)) told (at ends a) q (at lg a) m → b ≡ (r || lacks told)
        → Meets (in_world t ls) (Offer a k amount) told (in_world (left (put ends a q) ns (put lg a m) b) ls)
    offer_meets k amount told q m b met is = shown (Offer a k amount) told (of_parts (put ends a q) ns ls (put lg a m) b) (elim (called a ls k _ _ told q m b met is) [ inl h ↦ inl h | inr h ↦ inr (w, h.0, (h.1, refl), h.2) ])

    not_one : (code : ℕ) → code ≢ 1 → nat_eq code 1 ≡ false
    not_one code n = grind (arith, nat_tests)

    pub abort_meets : (k code : ℕ) (told : Told) (q : Party) (m : Led) (b : Bool) → code ≢ 1 → CallMet (abort (at ends a).state k code) k (given_up (ledger_or (fmap.get (at lg a) k))) told (at ends a) q (at lg a) m → b ≡ (r || lacks told)
        → Meets (in_world t ls) (Abort a k code) told (in_world (left (put ends a q) ns (put lg a m) b) ls)
    abort_meets k code told q m b n met is =
        let after : World = of_parts (put ends a q) ns ls (put lg a m) b in
        let B : Bool → Type 0 = λ b. AbortsAt w a k code b told after in
        shown (Abort a k code) told (of_parts (put ends a q) ns ls (put lg a m) b) (elim (called a ls k _ _ told q m b met is) [ inl h ↦ inl (subst B (sym (not_one code n)) h) | inr h ↦ inr (w, h.0, (n, h.1, refl), h.2) ])

    pub raise_meets : (k amount : ℕ) (told : Told) (q : Party) → RaiseMet (set_receive_max (at ends a).state k amount) told (at ends a) q → Meets (in_world t ls) (ReceiveMax a k amount) told (in_world (left (put ends a q) ns lg r) ls)
    raise_meets k amount told q met = shown (ReceiveMax a k amount) told (of_parts (put ends a q) ns ls lg r) (inl (met.0, same_end a ls q _ r r met.1 refl))

    has_read : (x : Result Got EndError) (k : ℕ) (e : EndState) → of_parts (put ends a (with_state (at ends a) e)) ns ls (put lg (other a) (read_if x (at lg (other a)) k)) r ≡ read_at x (with_end w a e) (other a) k
    has_read (Err why) k e = ap (λ (y : Both Led). of_parts (put ends a (with_state (at ends a) e)) ns ls y r) (put_same lg (other a))
    has_read (Ok g) k e = refl

    open_if : (b : Bool) (e f : EndState) (x : Got) (y : EndError) → is_ok (cond {A = Result Got EndError × EndState} b (Ok x, f) (Err y, e)).0 ≡ true → b ≡ true
    open_if true e f x y h = refl
    open_if false e f x y h = absurd (cc)

    pub read_meets : (k n : ℕ) (told : Told) (q : Party) (m : Led) (b : Bool) → 1 ≤ n → ReadMet (reading.read (at ends a).state k n) k told (at ends a) q (at lg (other a)) m → b ≡ (r || lacks told)
        → Meets (in_world t ls) (Read a k n) told (in_world (left (put ends a q) ns (put lg (other a) m) b) ls)
    read_meets k zero told q m b some met is = absurd (omega (arith, some))
    read_meets k (suc n) told q m b some met is = shown (Read a k (suc n)) told (of_parts (put ends a q) ns ls (put lg (other a) m) b) (elim met [
      | inl h ↦ inl (h.0, same_parts a (other a) ls q _ m _ b r h.1 h.2 (quiet r b told (Gave (reading.read (at ends a).state k (suc n)).0) h.0 refl is) ∙ has_read (reading.read (at ends a).state k (suc n)).0 k (reading.read (at ends a).state k (suc n)).1)
      | inr h ↦ inr (w, h.0, ((λ e. absurd (cc)), open_if (streams.is_open (at ends a).state.receiving k) (at ends a).state _ _ _ h.1, refl), unchanged a (other a) ls q m b h.2 h.3 (loud r b told h.0 is))
    ])

    -- the links are changed too
    same_links : (q q' : Party) (ks ks' : Links) (b b' : Bool) → q ≡ q' → ks ≡ ks' → b ≡ b' → of_parts (put ends a q) ns ks lg b ≡ of_parts (put ends a q') ns ks' lg b'
    same_links q q' ks ks' b b' eq ek eb = ap (λ (k : Links). of_parts (put ends a q) ns k lg b) ek ∙ same_end a ks' q q' b b' eq eb

    back_to : (q : Party) (ks : Links) (b b' : Bool) (link : ℕ) (way : Side) (y : Direction) → q ≡ at ends a → ks ≡ with_lane_in ls link way y → y ≡ lane_in ls link way → b ≡ b' → of_parts (put ends a q) ns ks lg b ≡ of_parts ends ns ls lg b'
    back_to q ks b b' link way y eq ek ey eb =
        same_links q (at ends a) ks ls b b' eq (ek ∙ ap (with_lane_in ls link way) ey ∙ lane_same ls link way) eb ∙ ap (λ (x : Both Party). of_parts x ns ls lg b') (put_same ends a)

    pub send_meets : (link : ℕ) (iv : List ℕ) (now : ℤ) (told : Told) (q : Party) (ks : Links) (b : Bool) → link ≡ first_link w a → LinkSends link a iv now told (at ends a) q ls ks → b ≡ (r || lacks told)
        → Meets (in_world t ls) (Send a iv now) told (in_world (left (put ends a q) ns lg b) ks)
    send_meets link iv now told q ks b at_first met is =
        let P : ℕ → Type 0 = λ l. ks ≡ with_lane_in ls l a met.0 in
        shown (Send a iv now) told (of_parts (put ends a q) ns ks lg b) (elim met.1 [
          | inl h ↦ inl (inl (h.0, h.1, back_to q ks b r link a met.0 h.2 met.2 h.3 (quiet r b told Silent h.1 refl is)))
          | inr g ↦ elim g [
            | inl h ↦ inl (inr (
              h.0,
              h.1,
              h.2,
              h.3,
              h.4,
              same_links q (with_state (at ends a) h.2) ks (with_lane_in ls (first_link w a) a (with_put_in (lane_in ls (first_link w a) a) (prepare_of_flight h.0 h.1))) b r h.5
                  (met.2 ∙ ap (with_lane_in ls link a) h.6 ∙ ap (λ (l : ℕ). with_lane_in ls l a (with_put_in (lane_in ls l a) (prepare_of_flight h.0 h.1))) at_first)
                  (quiet r b told Sent h.4 refl is),
            ))
            | inr h ↦ inr (w, h.0, refl, back_to q ks b true link a met.0 h.1 met.2 h.2 (loud r b told h.0 is))
          ]
        ])

    -- a Prepare arrives at an end
    answered : (c : Side) (link : ℕ) (way : Side) (which : ℕ) (e : EndState) (x : AnsweredAtEnd) (bytes : List ℕ)
        → of_parts (put ends c (with_answered (at ends c) e x)) ns (with_lane_in ls link way (with_given_in (lane_in ls link way) (answer_to which bytes))) lg r ≡ answered_at_end w link way which c e x bytes
    answered Client link way which e x bytes = refl
    answered Server link way which e x bytes = refl

    pub end_meets : (link : ℕ) (way : Side) (which : ℕ) (bytes : List ℕ) (now : ℤ) (p : SentPrepare) (told : Told) (q : Party) (ks : Links) (b : Bool) → bytes ≡ p.bytes → LinkMet link way which bytes now told (at ends a) q ls ks → b ≡ (r || lacks told)
        → MeetsAt (in_world t ls) link way which now p (AtEnd a) told (in_world (left (put ends a q) ns lg b) ks)
    end_meets link way which bytes now p told q ks b same met is =
        let after : World = of_parts (put ends a q) ns ks lg b in
        let S : Left → Type 0 = λ s. MeetsAt (in_world s ls) link way which now p (AtEnd a) told after in
        let met' : LinkMet link way which p.bytes now told (at ends a) q ls ks = subst (λ (xs : List ℕ). LinkMet link way which xs now told (at ends a) q ls ks) same met in
        subst S base (elim met'.1 [
          | inl h ↦ inl (h.0, same_links q _ ks _ b r h.1 (met'.2 ∙ ap (with_lane_in ls link way) h.2) (quiet r b told (Answered _ _ _) h.0 refl is) ∙ answered a link way which _ _ _)
          | inr h ↦ inr (
            answered_at_end w link way which a (at ends a).state (refused_entry p.bytes None) (t00_text (at ends a).state.own),
            h.0,
            ((at ends a).state, None, may_stay (at ends a).state (verdict (at ends a).state p.bytes now), inl refl, refl),
            same_links q _ ks _ b true h.1 (met'.2 ∙ ap (with_lane_in ls link way) h.2) (loud r b told h.0 is) ∙ ap with_refusal (answered a link way which (at ends a).state (refused_entry p.bytes None) (t00_text (at ends a).state.own)),
          )
        ])

    -- an outcome arrives at an end
    ended_at : (link : ℕ) (way : Side) (j : ℕ) (z : SentPrepare) (outcome : Option (List ℕ)) (o : Option sender.Flight) (told : Told) (q : Party) (y : Direction) (ks : Links) → told ≡ cond (is_some o) (Took (pays (flight_of z) outcome)) Silent
        → q ≡ with_state (at ends a) (ended_with (at ends a).state (flight_of z) o outcome) → y ≡ with_taken_in (is_some o && pays (flight_of z) outcome) (lane_in ls link way) j → ks ≡ with_lane_in ls link way y
        → BackAtEnd w link way j z outcome a o told (of_parts (put ends a q) ns ks lg r)
    ended_at link way j z outcome None told q y ks e eq ey ek = (e, back_to q ks r r link way y eq ek ey refl)
    ended_at link way j z outcome (Some flown) told q y ks e eq ey ek =
        (e, same_links q _ ks _ r r eq (ek ∙ ap (with_lane_in ls link way) ey) refl ∙ taken_world (pays (flight_of z) outcome) (with_end w a (ended_with (at ends a).state (flight_of z) (Some flown) outcome)) link way j)

    pub back_end_meets : (link : ℕ) (way : Side) (j : ℕ) (now : ℤ) (z : SentPrepare) (outcome : Option (List ℕ)) (told : Told) (q : Party) (ks : Links) → LinkBack link way z j outcome told (at ends a) q ls ks
        → BackAt (in_world t ls) link way j now z outcome (AtEnd a) told (in_world (left (put ends a q) ns lg r) ks)
    back_end_meets link way j now z outcome told q ks met =
        let S : Left → Type 0 = λ s. BackAt (in_world s ls) link way j now z outcome (AtEnd a) told (of_parts (put ends a q) ns ks lg r) in
        subst S base (ended_at link way j z outcome (open_flight (at ends a).state (flight_of z)) told q met.0 ks met.1.0 met.1.1 met.1.2 met.2)
