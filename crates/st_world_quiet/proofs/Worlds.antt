-- What the events of one Prepare leave of a world.
use Rattle.std.proofs.Common.{◌≡◌, ◌≢◌, ℕ, zero, suc, ◌+◌, ◌-◌, ◌<◌, ◌≤◌, Bool, true, false, cond, List, [], ◌∷◌, ◌++◌, length, length-set, map, drop, get_or, set, slice_get, refl, sym, ap, subst, ◌∙◌, arith, ℤ, Option, None, Some, inl, inr, nat_eq}
use Rattle.std.proofs.lemmas.Bool.{cases_eq}
use Rattle.std.proofs.lemmas.Bool.Decides.{nat_tests}
use Rattle.st_hop.specs.declared.ticket.Open.{Open}
use Rattle.st_hop.specs.Hop.{Hop}
use Rattle.st_hop.specs.Tickets.{ticket_at}
use Rattle.st_hop.specs.Arriving.{Forwards, arrived}
use Rattle.st_hop.specs.Settling.{is_booked, settled}
use Rattle.st_sender.specs.Sending.{Flight}
use Rattle.st_end.specs.State.{EndState}
use Rattle.st_end.specs.declared.flight.Open as flights
use Rattle.st_end.specs.Sending.{Goes, open_flight}
use Rattle.st_end.specs.Receiving.{received}
use Rattle.st_end.specs.Answers.{after_outcome, ended, ended_with, pays}
use Rattle.st_world_parts.specs.Sides.{Both, Client, Server, at}
use Rattle.st_world_parts.specs.State.{AtEnd, AtHop, SentAnswer, Direction, Node, Party, SentPrepare, World, end_at, far, direction_at, nth, with_end, with_entry, with_answer, with_hop_entry, with_lane, with_node, with_prepare}
use Rattle.st_world_parts.specs.Events.{AnswerArrives, Arrive, Event, Send, Sent, Silent, Told}
use Rattle.st_world_parts.specs.Ends.{BackAtEnd, end_entry, flight_of, answer_to, prepare_of_flight, taken_if, took}
use Rattle.st_world_parts.specs.Hops.{ArrivesAtHop, BackAtHop, BackAtTicket, Comes, prepare_of_ticket, settled_entry}
use Rattle.st_world.specs.Steps.{AnswerBack, Arrives, ArrivesAt, Back, Step}
use Rattle.st_world.proofs.Lanes.{lane_here, lane_there}
use Rattle.st_world_quiet.specs.Crossing.{Crossed, back_over, crossed, over_one, taken_at_end}
use Rattle.st_world_quiet.specs.Worlds.{AllForward, HasCrossed, HasCrossedBy, HasGone, IsAtRest, IsSettled, Met, going_over, passing, state_of}
use Rattle.st_world_quiet.specs.LostWorlds.{going_by, passing_by}

-- ---- lists

pub got_at : {A : Type 0} (xs : List A) (i : ℕ) (x : A) (rest : List A) → drop i xs ≡ x ∷ rest → (slice_get xs i ≡ Some x) × (drop (suc i) xs ≡ rest)
got_at [] zero x rest e = absurd (cc)
got_at [] (suc i) x rest e = absurd (cc)
got_at (y ∷ ys) zero x rest e = (cc, cc)
got_at (y ∷ ys) (suc i) x rest e = got_at ys i x rest e

pub drop_at : {A : Type 0} (xs : List A) (i : ℕ) (x : A) → slice_get xs i ≡ Some x → drop i xs ≡ x ∷ drop (suc i) xs
drop_at [] i x e = absurd (cc)
drop_at (y ∷ ys) zero x e = let same : y ≡ x = cc in ap (λ z. z ∷ ys) same
drop_at (y ∷ ys) (suc i) x e = drop_at ys i x e

pub get_set : {A : Type 0} (xs : List A) (i : ℕ) (x y : A) → slice_get xs i ≡ Some y → slice_get (set xs i x) i ≡ Some x
get_set [] i x y e = absurd (cc)
get_set (z ∷ zs) zero x y e = refl
get_set (z ∷ zs) (suc i) x y e = get_set zs i x y e

pub get_set_apart : {A : Type 0} (xs : List A) (i : ℕ) (x : A) (j : ℕ) → j ≢ i → slice_get (set xs i x) j ≡ slice_get xs j
get_set_apart [] i x j n = refl
get_set_apart (z ∷ zs) zero x zero n = absurd (n refl)
get_set_apart (z ∷ zs) zero x (suc j) n = refl
get_set_apart (z ∷ zs) (suc i) x zero n = refl
get_set_apart (z ∷ zs) (suc i) x (suc j) n = get_set_apart zs i x j (λ e. n (ap suc e))

pub drop_set : {A : Type 0} (xs : List A) (i : ℕ) (x : A) → drop (suc i) (set xs i x) ≡ drop (suc i) xs
drop_set [] i x = refl
drop_set (z ∷ zs) zero x = refl
drop_set (z ∷ zs) (suc i) x = drop_set zs i x

pub length_push : {A : Type 0} (xs : List A) (x : A) → length (xs ++ x ∷ []) ≡ suc (length xs)
length_push [] x = refl
length_push (y ∷ ys) x = let e = length_push ys x in omega (arith, e)

pub last_at : {A : Type 0} (xs : List A) (x : A) (n : ℕ) → length xs ≡ n → slice_get (xs ++ x ∷ []) n ≡ Some x
last_at xs x n e = subst (λ m. slice_get (xs ++ x ∷ []) m ≡ Some x) e (last xs x)
  where
    last : {A : Type 0} (xs : List A) (x : A) → slice_get (xs ++ x ∷ []) (length xs) ≡ Some x
    last [] x = refl
    last (y ∷ ys) x = last ys x

-- the node of a hop
record NodeAt (ns : List Node) (i : ℕ) (h : Hop) (others : List Hop) : Type 0 where
  node : Node
  at : slice_get ns i ≡ Some node
  is : node.state ≡ h
  rest : map state_of (drop (suc i) ns) ≡ others

split_nodes : (ns rest : List Node) (i : ℕ) (h : Hop) (others : List Hop) → drop i ns ≡ rest → map state_of rest ≡ h ∷ others → NodeAt ns i h others
split_nodes ns [] i h others e m = absurd (cc)
split_nodes ns (n ∷ more) i h others e m =
    let g = got_at ns i n more e in
    record { node = n; at = g.0; is = (cc); rest = ap (map state_of) g.1 ∙ (let tail : map state_of more ≡ others = cc in tail) }

-- ---- before and after a part of the way

-- a Prepare was put on link i, before these hops and this end; p and g count the earlier Prepares and answers of each link
pub record IsOn (i : ℕ) (w : World) (hops : List Hop) (f : EndState) (p g : ℕ → ℕ) (text : List ℕ) : Type 0 where
  pub server : end_at w Server ≡ f
  pub nodes : map state_of (drop i w.nodes) ≡ hops
  pub within : i + length hops ≡ length w.nodes
  pub links : length w.links ≡ length w.nodes + 1
  pub put : SentPrepare
  pub has_put : slice_get (direction_at w i Client).prepares (p i) ≡ Some put
  pub bytes : put.bytes ≡ text
  pub prepares : length (direction_at w i Client).prepares ≡ suc (p i)
  pub given : length (direction_at w i Client).given ≡ g i
  pub later : (j : ℕ) → i < j → j ≤ length w.nodes → HasGone (p j) (g j) (direction_at w j Client)

-- its answer was given on that link
pub record IsBack (i : ℕ) (w v : World) (p g : ℕ → ℕ) (c : Crossed) : Type 0 where
  pub client : end_at v Client ≡ end_at w Client
  pub ledgers : v.ledgers ≡ w.ledgers
  pub server : end_at v Server ≡ c.end
  pub nodes : map state_of (drop i v.nodes) ≡ c.hops
  pub count : length v.nodes ≡ length w.nodes
  pub links : length v.links ≡ length w.links
  pub before : (j : ℕ) → j < i → slice_get v.nodes j ≡ slice_get w.nodes j
  pub earlier : (j : ℕ) → j < i → direction_at v j Client ≡ direction_at w j Client
  pub prepares : (direction_at v i Client).prepares ≡ (direction_at w i Client).prepares
  pub answer : SentAnswer
  pub has_answer : slice_get (direction_at v i Client).given (g i) ≡ Some answer
  pub which : answer.which ≡ suc (p i)
  pub bytes : answer.bytes ≡ c.answer
  pub given : length (direction_at v i Client).given ≡ suc (g i)
  pub later : (j : ℕ) → i < j → j ≤ length w.nodes → HasGone (suc (p j)) (suc (g j)) (direction_at v j Client)

-- lists of events one after the other
pub met_both : (events more : List Event) (w v : World) → Met w (events ++ more) v → (mid : World) × Met w events mid × Met mid more v
met_both [] more w v run = (w, refl, run)
met_both (event ∷ events) more w v run = let rest = met_both events more run.0 v run.4 in (rest.0, (run.0, run.1, run.2, run.3, rest.1), rest.2)

pub met_one : (event : Event) (w v : World) → Met w (event ∷ []) v → (told : Told) × Step w event told v
met_one event w v run = (run.1, subst (λ (z : World). Step w event run.1 z) (sym run.4) run.3)

is_here : (m n : ℕ) → m ≡ n → nat_eq m n ≡ true
is_here m n e = grind (arith, nat_tests)

is_elsewhere : (m n : ℕ) → m < n → nat_eq m n ≡ false
is_elsewhere m n l = grind (arith, nat_tests)

-- ---- at the far end

pub at_server : (i : ℕ) (w v : World) (f : EndState) (p g : ℕ → ℕ) (text : List ℕ) (now : ℤ) (told : Told) → (on : IsOn i w [] f p g text) → Step w (Arrive i Client (suc (p i)) now) told v → IsBack i w v p g (taken_at_end (received f text now))
at_server i w v f p g text now told on step =
    let end : nat_eq i (length w.nodes) ≡ true = is_here i (length w.nodes) (let l = on.within in omega (arith, l)) in
    let place : far w i Client ≡ AtEnd Server = ap (λ b. cond b (AtEnd Server) (AtHop i)) end in
    let comes : ArrivesAt w i Client (suc (p i)) now on.put (far w i Client) told v = subst (λ o. Arrives w i Client (suc (p i)) now o told v) on.has_put step in
    let here : ArrivesAt w i Client (suc (p i)) now on.put (AtEnd Server) told v = subst (λ z. ArrivesAt w i Client (suc (p i)) now on.put z told v) place comes in
    let r = received (end_at w Server) on.put.bytes now in
    let same : r ≡ received f text now = ap (λ e. received e on.put.bytes now) on.server ∙ ap (λ b. received f b now) on.bytes in
    let middle = with_entry (with_end w Server r.1) Server (end_entry r.0) in
    let lane : Direction = record { prepares = (direction_at w i Client).prepares; given = (direction_at w i Client).given ++ answer_to (suc (p i)) r.0.bytes ∷ [] } in
    let after : v ≡ with_lane middle i Client lane = here.1 in
    let lane_is : direction_at v i Client ≡ lane = ap (λ z. direction_at z i Client) after ∙ lane_here middle i Client lane (let l = on.within in let k = on.links in omega (arith, l, k)) in
    let lanes : (j : ℕ) → j ≢ i → direction_at v j Client ≡ direction_at w j Client = (λ j apart. ap (λ z. direction_at z j Client) after ∙ lane_there middle i Client lane j Client (λ e. apart e.0)) in
    record {
      client = ap (λ z. end_at z Client) after;
      ledgers = ap (λ (z : World). z.ledgers) after;
      server = ap (λ z. end_at z Server) after ∙ ap (λ z. z.1) same;
      nodes = ap (λ (z : World). map state_of (drop i z.nodes)) after ∙ on.nodes;
      count = ap (λ (z : World). length z.nodes) after;
      links = ap (λ (z : World). length z.links) after ∙ length-set w.links i _;
      before = λ j l. ap (λ (z : World). slice_get z.nodes j) after;
      earlier = λ j l. lanes j (omega (arith, l));
      prepares = ap (λ (x : Direction). x.prepares) lane_is;
      answer = answer_to (suc (p i)) r.0.bytes;
      has_answer = ap (λ (x : Direction). slice_get x.given (g i)) lane_is ∙ last_at (direction_at w i Client).given (answer_to (suc (p i)) r.0.bytes) (g i) on.given;
      which = refl;
      bytes = ap (λ z. z.0.bytes) same;
      given = ap (λ (x : Direction). length x.given) lane_is ∙ length_push (direction_at w i Client).given (answer_to (suc (p i)) r.0.bytes) ∙ ap suc on.given;
      later = λ j l m. absurd (let k = on.within in omega (arith, k, l, m));
    }

-- ---- over a hop

pub record WentOn (i : ℕ) (w v : World) (after : Hop) (others : List Hop) (f : EndState) (t : Open) (p g : ℕ → ℕ) (onward : List ℕ) : Type 0 where
  pub node : Node
  pub has_node : slice_get v.nodes i ≡ Some node
  pub state_is : node.state ≡ after
  pub before : (j : ℕ) → j < i → slice_get v.nodes j ≡ slice_get w.nodes j
  pub count : length v.nodes ≡ length w.nodes
  pub client : end_at v Client ≡ end_at w Client
  pub ledgers : v.ledgers ≡ w.ledgers
  pub links : length v.links ≡ length w.links
  pub earlier : (j : ℕ) → j < suc i → direction_at v j Client ≡ direction_at w j Client
  pub put : slice_get (direction_at v (suc i) Client).prepares (p (suc i)) ≡ Some (prepare_of_ticket t onward (suc (p i)))
  pub on : IsOn (suc i) v others f p g onward

pub at_hop : (i : ℕ) (w v : World) (h after : Hop) (others : List Hop) (f : EndState) (p g : ℕ → ℕ) (text onward : List ℕ) (t : Open) (account : ℕ) (now : ℤ) (told : Told) → (on : IsOn i w (h ∷ others) f p g text) → arrived h 0 text now ≡ (Forwards t account onward, after)
    → Step w (Arrive i Client (suc (p i)) now) told v → WentOn i w v after others f t p g onward
at_hop i w v h after others f p g text onward t account now told on forwards step =
    let inside : i < length w.nodes = (let l = on.within in omega (arith, l)) in
    let place : far w i Client ≡ AtHop i = ap (λ b. cond b (AtEnd Server) (AtHop i)) (is_elsewhere i (length w.nodes) inside) in
    let old = split_nodes w.nodes (drop i w.nodes) i h others refl on.nodes in
    let comes : ArrivesAt w i Client (suc (p i)) now on.put (far w i Client) told v = subst (λ o. Arrives w i Client (suc (p i)) now o told v) on.has_put step in
    let here : ArrivesAt w i Client (suc (p i)) now on.put (AtHop i) told v = subst (λ z. ArrivesAt w i Client (suc (p i)) now on.put z told v) place comes in
    let at_node : ArrivesAtHop w i Client (suc (p i)) on.put now i (Some old.node) told v = subst (λ o. ArrivesAtHop w i Client (suc (p i)) on.put now i o told v) old.at here in
    let same : arrived old.node.state 0 on.put.bytes now ≡ (Forwards t account onward, after) = ap (λ s. arrived s 0 on.put.bytes now) old.is ∙ ap (λ b. arrived h 0 b now) on.bytes ∙ forwards in
    let gone : Comes w i Client (suc (p i)) on.put i old.node (Forwards t account onward) after told v = subst (λ r. Comes w i Client (suc (p i)) on.put i old.node r.0 r.1 told v) same at_node in
    let node : Node = record { state = after; answered = old.node.answered } in
    let middle = with_node w i node in
    let next : i + 1 ≡ suc i = omega arith in
    let lane : Direction = record { prepares = (direction_at w (suc i) Client).prepares ++ prepare_of_ticket t onward (suc (p i)) ∷ []; given = (direction_at w (suc i) Client).given } in
    let after_is : v ≡ with_lane middle (suc i) Client lane = subst (λ l. v ≡ with_prepare middle l Client (prepare_of_ticket t onward (suc (p i)))) next gone.2 in
    let passed = on.later (suc i) (omega arith) (omega (arith, inside)) in
    let lane_is : direction_at v (suc i) Client ≡ lane = ap (λ z. direction_at z (suc i) Client) after_is ∙ lane_here middle (suc i) Client lane (let k = on.links in omega (arith, k, inside)) in
    let lanes : (j : ℕ) → j ≢ suc i → direction_at v j Client ≡ direction_at w j Client = (λ j apart. ap (λ z. direction_at z j Client) after_is ∙ lane_there middle (suc i) Client lane j Client (λ e. apart e.0)) in
    let puts_long : length (direction_at w (suc i) Client).prepares ≡ p (suc i) = passed.prepares in
    let nodes_are : v.nodes ≡ set w.nodes i node = ap (λ (z : World). z.nodes) after_is in
    let many : length v.nodes ≡ length w.nodes = ap length nodes_are ∙ length-set w.nodes i node in
    let links_same : length v.links ≡ length w.links = ap (λ (z : World). length z.links) after_is ∙ length-set w.links (suc i) _ in
    let has_put : slice_get (direction_at v (suc i) Client).prepares (p (suc i)) ≡ Some (prepare_of_ticket t onward (suc (p i))) = ap (λ (x : Direction). slice_get x.prepares (p (suc i))) lane_is ∙ last_at (direction_at w (suc i) Client).prepares (prepare_of_ticket t onward (suc (p i))) (p (suc i)) puts_long in
    record {
      node = node;
      has_node = ap (λ ns. slice_get ns i) nodes_are ∙ get_set w.nodes i node old.node old.at;
      state_is = refl;
      before = λ j l. ap (λ ns. slice_get ns j) nodes_are ∙ get_set_apart w.nodes i node j (omega (arith, l));
      count = many;
      client = ap (λ z. end_at z Client) after_is;
      ledgers = ap (λ (z : World). z.ledgers) after_is;
      links = links_same;
      earlier = λ j l. lanes j (omega (arith, l));
      put = has_put;
      on = record {
        server = ap (λ z. end_at z Server) after_is ∙ on.server;
        nodes = ap (λ ns. map state_of (drop (suc i) ns)) nodes_are ∙ ap (map state_of) (drop_set w.nodes i node) ∙ old.rest;
        within = (let l = on.within in omega (arith, l, many));
        links = (let k = on.links in omega (arith, k, links_same, many));
        put = prepare_of_ticket t onward (suc (p i));
        has_put = has_put;
        bytes = refl;
        prepares = ap (λ (x : Direction). length x.prepares) lane_is ∙ length_push (direction_at w (suc i) Client).prepares (prepare_of_ticket t onward (suc (p i))) ∙ ap suc puts_long;
        given = ap (λ (x : Direction). length x.given) lane_is ∙ passed.given;
        later = λ j l m. subst (HasGone (p j) (g j)) (sym (lanes j (omega (arith, l)))) (on.later j (omega (arith, l)) (omega (arith, m, many)));
      };
    }

-- an answer that is booked changes no other lane, and no length
pub record Takes (w v : World) (l : ℕ) : Type 0 where
  pub ends : v.ends ≡ w.ends
  pub ledgers : v.ledgers ≡ w.ledgers
  pub nodes : v.nodes ≡ w.nodes
  pub links : length v.links ≡ length w.links
  pub others : (j : ℕ) → j ≢ l → direction_at v j Client ≡ direction_at w j Client
  pub prepares : length (direction_at v l Client).prepares ≡ length (direction_at w l Client).prepares
  pub given : length (direction_at v l Client).given ≡ length (direction_at w l Client).given

pub taken : (b : Bool) (w : World) (l n : ℕ) → l < length w.links → Takes w (taken_if b w l Client (suc n)) l
taken false w l n inside = record { ends = refl; ledgers = refl; nodes = refl; links = refl; others = λ j apart. refl; prepares = refl; given = refl }
taken true w l n inside =
    let lane : Direction = record { prepares = (direction_at w l Client).prepares; given = set (direction_at w l Client).given n (took (get_or (direction_at w l Client).given n (answer_to 0 []))) } in
    let is : direction_at (with_lane w l Client lane) l Client ≡ lane = lane_here w l Client lane inside in
    record {
      ends = refl;
      ledgers = refl;
      nodes = refl;
      links = length-set w.links l _;
      others = λ j apart. lane_there w l Client lane j Client (λ e. apart e.0);
      prepares = ap (λ (x : Direction). length x.prepares) is;
      given = ap (λ (x : Direction). length x.given) is ∙ length-set (direction_at w l Client).given n _;
    }

passed_after : (i : ℕ) (p g : ℕ → ℕ) (v u m : World) (c : Crossed) → length (direction_at m (suc i) Client).prepares ≡ length (direction_at u (suc i) Client).prepares → length (direction_at m (suc i) Client).given ≡ length (direction_at u (suc i) Client).given → ((j : ℕ) → j ≢ suc i → direction_at m j Client ≡ direction_at u j Client)
    → IsBack (suc i) v u p g c → length (direction_at v (suc i) Client).prepares ≡ suc (p (suc i)) → (j : ℕ) → i < j → j ≤ length v.nodes → HasGone (suc (p j)) (suc (g j)) (direction_at m j Client)
passed_after i p g v u m c prepares given others back long j l k = elim (cases_eq j (suc i)) [
  | inl e ↦ subst (λ z. HasGone (suc (p z)) (suc (g z)) (direction_at m z Client)) (sym e) (record { prepares = prepares ∙ ap length back.prepares ∙ long; given = given ∙ back.given })
  | inr apart ↦ subst (HasGone (suc (p j)) (suc (g j))) (sym (others j apart)) (back.later j (omega (arith, l, apart)) k)
]

back_at_hop : (i : ℕ) (w v u x : World) (after : Hop) (others : List Hop) (f : EndState) (t : Open) (p g : ℕ → ℕ) (text onward : List ℕ) (hops : List Hop) (c : Crossed) (now : ℤ) (told : Told) → IsOn i w hops f p g text → WentOn i w v after others f t p g onward → ticket_at after.tickets t.number ≡ Some t → IsBack (suc i) v u p g c
    → Step u (AnswerArrives (suc i) Client (suc (g (suc i))) now) told x → IsBack i w x p g (back_over after t now c)
back_at_hop i w v u x after others f t p g text onward hops c now told on went ticket back step =
    let answer = back.answer in
    let found : AnswerBack u (suc i) Client (suc (g (suc i))) now (Some answer) told x = subst (λ o. AnswerBack u (suc i) Client (suc (g (suc i))) now o told x) back.has_answer step in
    let put_is : nth (direction_at u (suc i) Client).prepares answer.which ≡ Some (prepare_of_ticket t onward (suc (p i))) = ap (nth (direction_at u (suc i) Client).prepares) back.which ∙ ap (λ ps. slice_get ps (p (suc i))) back.prepares ∙ went.put in
    let at_put : Back u (suc i) Client (suc (g (suc i))) now (Some answer.bytes) (Some (prepare_of_ticket t onward (suc (p i)))) told x = subst (λ o. Back u (suc i) Client (suc (g (suc i))) now (Some answer.bytes) o told x) put_is found in
    let node = went.node in
    let has_node : slice_get u.nodes i ≡ Some node = back.before i (omega arith) ∙ went.has_node in
    let at_node : BackAtHop u (suc i) Client (suc (g (suc i))) (prepare_of_ticket t onward (suc (p i))) (Some answer.bytes) now i (Some node) told x = subst (λ o. BackAtHop u (suc i) Client (suc (g (suc i))) (prepare_of_ticket t onward (suc (p i))) (Some answer.bytes) now i o told x) has_node at_put in
    let ticket_is : ticket_at node.state.tickets t.number ≡ Some t = ap (λ (h : Hop). ticket_at h.tickets t.number) went.state_is ∙ ticket in
    let settles : BackAtTicket u (suc i) Client (suc (g (suc i))) (prepare_of_ticket t onward (suc (p i))) (Some answer.bytes) now i node (Some t) told x = subst (λ o. BackAtTicket u (suc i) Client (suc (g (suc i))) (prepare_of_ticket t onward (suc (p i))) (Some answer.bytes) now i node o told x) ticket_is at_node in
    let r = settled node.state t (Some answer.bytes) now in
    let booked = is_booked t (Some answer.bytes) now in
    let same : r ≡ settled after t (Some c.answer) now = ap (λ h. settled h t (Some answer.bytes) now) went.state_is ∙ ap (λ b. settled after t (Some b) now) back.bytes in
    let entered = with_hop_entry u i node r.1 (settled_entry t booked) in
    let middle = taken_if booked entered (suc i) Client (suc (g (suc i))) in
    let inside : suc i < length u.links = (let a = back.links in let b = went.on.links in let l = went.on.within in omega (arith, a, b, l)) in
    let takes = taken booked entered (suc i) (g (suc i)) inside in
    let prev : suc i - 1 ≡ i = omega arith in
    let here_is : direction_at middle i Client ≡ direction_at w i Client = takes.others i (omega arith) ∙ back.earlier i (omega arith) ∙ went.earlier i (omega arith) in
    let lane : Direction = record { prepares = (direction_at middle i Client).prepares; given = (direction_at middle i Client).given ++ answer_to (suc (p i)) r.0 ∷ [] } in
    let after_is : x ≡ with_lane middle i Client lane = subst (λ l. x ≡ with_answer middle l Client (answer_to (suc (p i)) r.0)) prev settles.1 in
    let lane_is : direction_at x i Client ≡ lane = ap (λ z. direction_at z i Client) after_is ∙ lane_here middle i Client lane (let k = takes.links in omega (arith, k, inside)) in
    let lanes : (j : ℕ) → j ≢ i → direction_at x j Client ≡ direction_at middle j Client = (λ j apart. ap (λ z. direction_at z j Client) after_is ∙ lane_there middle i Client lane j Client (λ e. apart e.0)) in
    let new : Node = record { state = r.1; answered = node.answered ++ settled_entry t booked ∷ [] } in
    let nodes_are : x.nodes ≡ set u.nodes i new = ap (λ (z : World). z.nodes) after_is ∙ takes.nodes in
    let given_long : length (direction_at middle i Client).given ≡ g i = ap (λ (z : Direction). length z.given) here_is ∙ on.given in
    let many = back.count in
    let many_more = went.count in
    record {
      client = ap (λ z. end_at z Client) after_is ∙ ap (λ (es : Both Party). (at es Client).state) takes.ends ∙ back.client ∙ went.client;
      ledgers = ap (λ (z : World). z.ledgers) after_is ∙ takes.ledgers ∙ back.ledgers ∙ went.ledgers;
      server = ap (λ z. end_at z Server) after_is ∙ ap (λ (es : Both Party). (at es Server).state) takes.ends ∙ back.server;
      nodes = ap (λ ns. map state_of (drop i ns)) nodes_are
          ∙ ap (map state_of) (drop_at (set u.nodes i new) i new (get_set u.nodes i new node has_node) ∙ ap (λ ns. new ∷ ns) (drop_set u.nodes i new))
          ∙ ap (λ hs. r.1 ∷ hs) back.nodes
          ∙ ap (λ s. s.1 ∷ c.hops) same;
      count = ap length nodes_are ∙ length-set u.nodes i new ∙ many ∙ many_more;
      links = ap (λ (z : World). length z.links) after_is ∙ length-set middle.links i _ ∙ takes.links ∙ back.links ∙ went.links;
      before = λ j l. ap (λ ns. slice_get ns j) nodes_are ∙ get_set_apart u.nodes i new j (omega (arith, l)) ∙ back.before j (omega (arith, l)) ∙ went.before j l;
      earlier = λ j l. lanes j (omega (arith, l)) ∙ takes.others j (omega (arith, l)) ∙ back.earlier j (omega (arith, l)) ∙ went.earlier j (omega (arith, l));
      prepares = ap (λ (z : Direction). z.prepares) lane_is ∙ ap (λ (z : Direction). z.prepares) here_is;
      answer = answer_to (suc (p i)) r.0;
      has_answer = ap (λ (z : Direction). slice_get z.given (g i)) lane_is ∙ last_at (direction_at middle i Client).given (answer_to (suc (p i)) r.0) (g i) given_long;
      which = refl;
      bytes = ap (λ s. s.0) same;
      given = ap (λ (z : Direction). length z.given) lane_is ∙ length_push (direction_at middle i Client).given (answer_to (suc (p i)) r.0) ∙ ap suc given_long;
      later = λ j l m. subst (HasGone (suc (p j)) (suc (g j))) (sym (lanes j (omega (arith, l)))) (passed_after i p g v u middle c takes.prepares takes.given takes.others back went.on.prepares j l (omega (arith, m, many_more)));
    }

-- ---- over all links

pub over_links : (hops : List Hop) (i : ℕ) (w v : World) (f : EndState) (p g : ℕ → ℕ) (text : List ℕ) (now : ℤ) → IsOn i w hops f p g text → AllForward hops text now → Met w (going_by p g i (length hops) now) v → IsBack i w v p g (crossed hops f text now)
unfolding crossed going_by
over_links [] i w v f p g text now on forward run = let last = met_one (Arrive i Client (suc (p i)) now) w v run in at_server i w v f p g text now last.0 on last.1
over_links (h ∷ others) i w v f p g text now on forward run =
    let mid = run.0 in
    let t = forward.0 in
    let onward = forward.2 in
    let after = forward.3 in
    let went = at_hop i w mid h after others f p g text onward t forward.1 now run.1 on forward.4 run.3 in
    let both = met_both (going_by p g (suc i) (length others) now) (AnswerArrives (suc i) Client (suc (g (suc i))) now ∷ []) mid v run.4 in
    let back = over_links others (suc i) mid both.0 f p g onward now went.on forward.6 both.1 in
    let last = met_one (AnswerArrives (suc i) Client (suc (g (suc i))) now) both.0 v both.2 in
    subst (IsBack i w v p g) (sym (ap (over_one (λ bytes. crossed others f bytes now) others f now) forward.4))
    (back_at_hop i w mid both.0 v after others f t p g text onward (h ∷ others) (crossed others f onward now) now last.0 on went forward.5 back last.1)

-- the same, if all links have the same number of packets
pub going_same : (link hops n : ℕ) (now : ℤ) → going_over link hops (suc n) now ≡ going_by (λ l. n) (λ l. n) link hops now
unfolding going_over going_by
going_same link zero n now = refl
going_same link (suc m) n now = ap (λ es. Arrive link Client (suc n) now ∷ es ++ AnswerArrives (suc link) Client (suc n) now ∷ []) (going_same (suc link) m n now)

-- ---- at the near end

pub record Ends (w v : World) (e : EndState) : Type 0 where
  pub client : end_at v Client ≡ e
  pub ledgers : v.ledgers ≡ w.ledgers
  pub server : end_at v Server ≡ end_at w Server
  pub nodes : v.nodes ≡ w.nodes
  pub links : length v.links ≡ length w.links
  pub lanes : (m l j : ℕ) → HasGone m l (direction_at w j Client) → HasGone m l (direction_at v j Client)

ends_as : (w v : World) (gone : EndState) (flight : flights.Open) (n : ℕ) (p : SentPrepare) (answer : List ℕ) (told : Told) (o : Option Flight) → end_at w Client ≡ gone → flight_of p ≡ flight → 0 < length w.links → BackAtEnd w 0 Client (suc n) p (Some answer) Client o told v
    → Ends w v (ended_with gone flight o (Some answer))
ends_as w v gone flight n p answer told None client same inside back = record {
  client = ap (λ z. end_at z Client) back.1 ∙ client;
  ledgers = ap (λ (z : World). z.ledgers) back.1;
  server = ap (λ z. end_at z Server) back.1;
  nodes = ap (λ (z : World). z.nodes) back.1;
  links = ap (λ (z : World). length z.links) back.1;
  lanes = λ m l j h. subst (λ z. HasGone m l (direction_at z j Client)) (sym back.1) h;
}
ends_as w v gone flight n p answer told (Some flown) client same inside back =
    let e = after_outcome (end_at w Client) (flight_of p) flown (Some answer) in
    let middle = with_end w Client e in
    let takes = taken (pays (flight_of p) (Some answer)) middle 0 n inside in
    let is = back.1 in
    record {
      client = ap (λ z. end_at z Client) is ∙ ap (λ (es : Both Party). (at es Client).state) takes.ends ∙ ap (λ z. after_outcome z (flight_of p) flown (Some answer)) client ∙ ap (λ x. after_outcome gone x flown (Some answer)) same;
      ledgers = ap (λ (z : World). z.ledgers) is ∙ takes.ledgers;
      server = ap (λ z. end_at z Server) is ∙ ap (λ (es : Both Party). (at es Server).state) takes.ends;
      nodes = ap (λ (z : World). z.nodes) is ∙ takes.nodes;
      links = ap (λ (z : World). length z.links) is ∙ takes.links;
      lanes = λ m l j h. subst (λ z. HasGone m l (direction_at z j Client)) (sym is) (elim (cases_eq j 0) [
        | inl zero_is ↦ subst (λ k. HasGone m l (direction_at (taken_if (pays (flight_of p) (Some answer)) middle 0 Client (suc n)) k Client)) (sym zero_is)
            (let here = subst (λ k. HasGone m l (direction_at w k Client)) zero_is h in record { prepares = takes.prepares ∙ here.prepares; given = takes.given ∙ here.given })
        | inr apart ↦ subst (HasGone m l) (sym (takes.others j apart)) h
      ]);
    }

-- a fault there books no answer
pub ends_faulted : (w v : World) (gone : EndState) (flight : flights.Open) (p : SentPrepare) (told : Told) (o : Option Flight) → end_at w Client ≡ gone → flight_of p ≡ flight → BackAtEnd w 0 Client 0 p None Client o told v → Ends w v (ended_with gone flight o None)
ends_faulted w v gone flight p told None client same back = record {
  client = ap (λ z. end_at z Client) back.1 ∙ client;
  ledgers = ap (λ (z : World). z.ledgers) back.1;
  server = ap (λ z. end_at z Server) back.1;
  nodes = ap (λ (z : World). z.nodes) back.1;
  links = ap (λ (z : World). length z.links) back.1;
  lanes = λ m l j h. subst (λ z. HasGone m l (direction_at z j Client)) (sym back.1) h;
}
ends_faulted w v gone flight p told (Some flown) client same back =
    let is : v ≡ with_end w Client (after_outcome (end_at w Client) (flight_of p) flown None) = back.1 in
    record {
      client = ap (λ z. end_at z Client) is ∙ ap (λ z. after_outcome z (flight_of p) flown None) client ∙ ap (λ x. after_outcome gone x flown None) same;
      ledgers = ap (λ (z : World). z.ledgers) is;
      server = ap (λ z. end_at z Server) is;
      nodes = ap (λ (z : World). z.nodes) is;
      links = ap (λ (z : World). length z.links) is;
      lanes = λ m l j h. subst (λ z. HasGone m l (direction_at z j Client)) (sym is) h;
    }

all_passed : (w v : World) (c : Crossed) (p g : ℕ → ℕ) → IsBack 0 w v p g c → length (direction_at w 0 Client).prepares ≡ suc (p 0) → (j : ℕ) → j ≤ length w.nodes → HasGone (suc (p j)) (suc (g j)) (direction_at v j Client)
all_passed w v c p g back long zero l = record { prepares = ap length back.prepares ∙ long; given = back.given }
all_passed w v c p g back long (suc j) l = back.later (suc j) (omega arith) l

pub map_long : (ns : List Node) → length (map state_of ns) ≡ length ns
map_long [] = refl
map_long (n ∷ ns) = let e = map_long ns in omega (arith, e)

pub sent_put : (w v : World) (e : EndState) (hops : List Hop) (f gone : EndState) (p g : ℕ → ℕ) (flight : flights.Open) (bytes : List ℕ) → IsSettled w e hops f p g → v ≡ with_prepare (with_end w Client gone) 0 Client (prepare_of_flight flight bytes) → slice_get (direction_at v 0 Client).prepares (p 0) ≡ Some (prepare_of_flight flight bytes)
sent_put w v e hops f gone p g flight bytes rest is =
    let middle = with_end w Client gone in
    let first = rest.lanes 0 (omega arith) in
    let lane : Direction = record { prepares = (direction_at w 0 Client).prepares ++ prepare_of_flight flight bytes ∷ []; given = (direction_at w 0 Client).given } in
    let lane_is : direction_at v 0 Client ≡ lane = ap (λ z. direction_at z 0 Client) is ∙ lane_here middle 0 Client lane (let k = rest.links in omega (arith, k)) in
    ap (λ (x : Direction). slice_get x.prepares (p 0)) lane_is ∙ last_at (direction_at w 0 Client).prepares (prepare_of_flight flight bytes) (p 0) first.prepares

-- a world in which the client put what it sent on its link
pub sent_on_link : (w v : World) (e : EndState) (hops : List Hop) (f gone : EndState) (p g : ℕ → ℕ) (flight : flights.Open) (bytes : List ℕ) → IsSettled w e hops f p g → v ≡ with_prepare (with_end w Client gone) 0 Client (prepare_of_flight flight bytes) → IsOn 0 v hops f p g bytes
sent_on_link w v e hops f gone p g flight bytes rest is =
    let middle = with_end w Client gone in
    let first = rest.lanes 0 (omega arith) in
    let lane : Direction = record { prepares = (direction_at w 0 Client).prepares ++ prepare_of_flight flight bytes ∷ []; given = (direction_at w 0 Client).given } in
    let lane_is : direction_at v 0 Client ≡ lane = ap (λ z. direction_at z 0 Client) is ∙ lane_here middle 0 Client lane (let k = rest.links in omega (arith, k)) in
    let nodes_are : v.nodes ≡ w.nodes = ap (λ (z : World). z.nodes) is in
    let links_same : length v.links ≡ length w.links = ap (λ (z : World). length z.links) is ∙ length-set w.links 0 _ in
    let many : length v.nodes ≡ length w.nodes = ap length nodes_are in
    record {
      server = ap (λ z. end_at z Server) is ∙ rest.server;
      nodes = ap (map state_of) nodes_are ∙ rest.hops_are;
      within = (let long : length (map state_of w.nodes) ≡ length hops = ap length rest.hops_are in let same = map_long w.nodes in omega (arith, long, same, many));
      links = (let k = rest.links in omega (arith, k, links_same, many));
      put = prepare_of_flight flight bytes;
      has_put = sent_put w v e hops f gone p g flight bytes rest is;
      bytes = refl;
      prepares = ap (λ (x : Direction). length x.prepares) lane_is ∙ length_push (direction_at w 0 Client).prepares (prepare_of_flight flight bytes) ∙ ap suc first.prepares;
      given = ap (λ (x : Direction). length x.given) lane_is ∙ first.given;
      later = λ j l m. subst (HasGone (p j) (g j)) (sym (ap (λ z. direction_at z j Client) is ∙ lane_there middle 0 Client lane j Client (λ z. let at : j ≡ 0 = z.0 in absurd (omega (arith, at, l))))) (rest.lanes j (omega (arith, m, many)));
    }

pub crossing_settles : (w mid v : World) (e : EndState) (hops : List Hop) (f : EndState) (p g : ℕ → ℕ) (iv : List ℕ) (now : ℤ) → IsSettled w e hops f p g → ((flight : flights.Open) (bytes : List ℕ) (gone : EndState) → Goes e iv now flight bytes gone → AllForward hops bytes now)
    → Step w (Send Client iv now) Sent mid → Met mid (passing_by p g (length hops) now) v → HasCrossedBy w e hops f p g iv now v
crossing_settles w mid v e hops f p g iv now rest forward (inl none) run = absurd (let no : ◌≡◌ {A = Told} Sent Silent = none.1 in cc)
crossing_settles w mid v e hops f p g iv now rest forward (inr sent) run =
    let flight = sent.0 in
    let bytes = sent.1 in
    let gone = sent.2 in
    let goes : Goes e iv now flight bytes gone = subst (λ z. Goes z iv now flight bytes gone) rest.client sent.3 in
    let is = sent.5 in
    let on = sent_on_link w mid e hops f gone p g flight bytes rest is in
    let both = met_both (going_by p g 0 (length hops) now) (AnswerArrives 0 Client (suc (g 0)) now ∷ []) mid v run in
    let u = both.0 in
    let back = over_links hops 0 mid u f p g bytes now on (forward flight bytes gone goes) both.1 in
    let last = met_one (AnswerArrives 0 Client (suc (g 0)) now) u v both.2 in
    let c = crossed hops f bytes now in
    let answer = back.answer in
    let told = last.0 in
    let found : AnswerBack u 0 Client (suc (g 0)) now (Some answer) told v = subst (λ o. AnswerBack u 0 Client (suc (g 0)) now o told v) back.has_answer last.1 in
    let put_is : nth (direction_at u 0 Client).prepares answer.which ≡ Some (prepare_of_flight flight bytes) = ap (nth (direction_at u 0 Client).prepares) back.which ∙ ap (λ ps. slice_get ps (p 0)) back.prepares ∙ sent_put w mid e hops f gone p g flight bytes rest is in
    let at_put : Back u 0 Client (suc (g 0)) now (Some answer.bytes) (Some (prepare_of_flight flight bytes)) told v = subst (λ o. Back u 0 Client (suc (g 0)) now (Some answer.bytes) o told v) put_is found in
    let client : end_at u Client ≡ gone = back.client ∙ ap (λ z. end_at z Client) is in
    let at_end : BackAtEnd u 0 Client (suc (g 0)) (prepare_of_flight flight bytes) (Some answer.bytes) Client (open_flight gone flight) told v = subst (λ z. BackAtEnd u 0 Client (suc (g 0)) (prepare_of_flight flight bytes) (Some answer.bytes) Client (open_flight z flight) told v) client at_put in
    let ends = ends_as u v gone flight (g 0) (prepare_of_flight flight bytes) answer.bytes told (open_flight gone flight) client refl (let a = back.links in let b = on.links in omega (arith, a, b)) at_end in
    let many = back.count in
    let nodes_same : length v.nodes ≡ length u.nodes = ap length ends.nodes in
    record {
      flight = flight;
      bytes = bytes;
      gone = gone;
      goes = goes;
      ledgers = ends.ledgers ∙ back.ledgers ∙ ap (λ (z : World). z.ledgers) is;
      rests = record {
        client = ends.client ∙ ap (λ b. ended gone flight (Some b)) back.bytes;
        server = ends.server ∙ back.server;
        hops_are = ap (map state_of) ends.nodes ∙ back.nodes;
        links = (let a = ends.links in let b = back.links in let k = on.links in omega (arith, a, b, k, nodes_same, many));
        lanes = λ j l. ends.lanes (suc (p j)) (suc (g j)) j (all_passed mid u c p g back on.prepares j (omega (arith, l, nodes_same, many)));
      };
    }

pub crossing_rests : (w mid v : World) (e : EndState) (hops : List Hop) (f : EndState) (n : ℕ) (iv : List ℕ) (now : ℤ) → IsAtRest w e hops f n → ((flight : flights.Open) (bytes : List ℕ) (gone : EndState) → Goes e iv now flight bytes gone → AllForward hops bytes now)
    → Step w (Send Client iv now) Sent mid → Met mid (passing (length hops) (suc n) now) v → HasCrossed w e hops f n iv now v
crossing_rests w mid v e hops f n iv now rest forward sent run =
    crossing_settles w mid v e hops f (λ l. n) (λ l. n) iv now rest forward sent
    (subst (λ es. Met mid (es ++ AnswerArrives 0 Client (suc n) now ∷ []) v) (going_same 0 (length hops) n now) run)
