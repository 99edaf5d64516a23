-- What the events of a Prepare leave of a world if it is lost on its way, or its answer is: whoever waits meets a fault.
use Rattle.std.proofs.Common.{◌≡◌, ◌≢◌, ℕ, zero, suc, ◌+◌, ◌-◌, ◌<◌, ◌≤◌, Bool, true, false, cond, List, [], ◌∷◌, ◌++◌, length, length-set, map, drop, set, slice_get, min, refl, sym, ap, subst, ◌∙◌, arith, ℤ, None, Some, inl, inr, nat_le, nat_lt}
use Rattle.std.proofs.lemmas.Bool.{cases_eq}
use Rattle.std.proofs.lemmas.Bool.Decides.{nat_tests}
use Rattle.st_hop.specs.declared.ticket.Open.{Open}
use Rattle.st_hop.specs.Hop.{Hop}
use Rattle.st_hop.specs.Tickets.{ticket_at}
use Rattle.st_hop.specs.Settling.{settled}
use Rattle.st_end.specs.State.{EndState}
use Rattle.st_end.specs.declared.flight.Open as flights
use Rattle.st_end.specs.Sending.{Goes, open_flight}
use Rattle.st_end.specs.Answers.{ended}
use Rattle.st_world_parts.specs.Sides.{Client, Server}
use Rattle.st_world_parts.specs.State.{Direction, Node, World, end_at, direction_at, nth, with_end, with_answer, with_hop_entry, with_lane, with_prepare}
use Rattle.st_world_parts.specs.Events.{Arrive, Fault, Send, Sent, Silent, Told}
use Rattle.st_world_parts.specs.Ends.{BackAtEnd, answer_to, prepare_of_flight}
use Rattle.st_world_parts.specs.Hops.{BackAtHop, BackAtTicket, prepare_of_ticket, settled_entry}
use Rattle.st_world.specs.Steps.{Back, Step}
use Rattle.st_world.proofs.Lanes.{lane_here, lane_there}
use Rattle.st_world_quiet.specs.Crossing.{Crossed, crossed}
use Rattle.st_world_quiet.specs.LostCrossings.{Beyond, beyond, faulted, lost_one, lost_past, unanswered_one, unanswered_past}
use Rattle.st_world_quiet.specs.Worlds.{AllForward, HasGone, IsSettled, Met, state_of}
use Rattle.st_world_quiet.specs.LostWorlds.{AnswerLost, PrepareLost, following, gives_on, going_by, losing_by, puts_on, stranding_by}
use Rattle.st_world_quiet.proofs.Worlds.{IsBack, IsOn, WentOn, at_hop, at_server, drop_at, drop_set, ends_faulted, get_set, get_set_apart, last_at, length_push, met_both, met_one, over_links, sent_on_link, sent_put}

-- all but the outcome on a link, if p and g count the Prepares and answers of each link after it
pub record IsGone (i : ℕ) (w v : World) (p g : ℕ → ℕ) (b : Beyond) : Type 0 where
  pub client : end_at v Client ≡ end_at w Client
  pub ledgers : v.ledgers ≡ w.ledgers
  pub server : end_at v Server ≡ b.end
  pub nodes : map state_of (drop i v.nodes) ≡ b.hops
  pub count : length v.nodes ≡ length w.nodes
  pub links : length v.links ≡ length w.links
  pub before : (j : ℕ) → j < i → slice_get v.nodes j ≡ slice_get w.nodes j
  pub earlier : (j : ℕ) → j < i → direction_at v j Client ≡ direction_at w j Client
  pub prepares : (direction_at v i Client).prepares ≡ (direction_at w i Client).prepares
  pub given : length (direction_at v i Client).given ≡ g i
  pub later : (j : ℕ) → i < j → j ≤ length w.nodes → HasGone (p j) (g j) (direction_at v j Client)

-- ---- at a hop

gone_after : (i : ℕ) (p g : ℕ → ℕ) (v u : World) (b : Beyond) → IsGone (suc i) v u p g b → length (direction_at v (suc i) Client).prepares ≡ p (suc i) → (j : ℕ) → i < j → j ≤ length v.nodes → HasGone (p j) (g j) (direction_at u j Client)
gone_after i p g v u b back long j l k = elim (cases_eq j (suc i)) [
  | inl e ↦ subst (λ z. HasGone (p z) (g z) (direction_at u z Client)) (sym e) (record { prepares = ap length back.prepares ∙ long; given = back.given })
  | inr apart ↦ back.later j (omega (arith, l, apart)) k
]

-- a hop that meets a fault gives a Reject on the link before
fault_at_hop : (i : ℕ) (w v u x : World) (after : Hop) (others hops : List Hop) (f : EndState) (t : Open) (p g q h : ℕ → ℕ) (text onward : List ℕ) (b : Beyond) (now : ℤ) (told : Told) → IsOn i w hops f p g text → WentOn i w v after others f t p g onward → ticket_at after.tickets t.number ≡ Some t → IsGone (suc i) v u q h b
    → q (suc i) ≡ suc (p (suc i)) → h i ≡ suc (g i) → Step u (Fault (suc i) Client (suc (p (suc i))) now) told x → IsGone i w x q h (record { hops = faulted after t now ∷ b.hops; end = b.end })
fault_at_hop i w v u x after others hops f t p g q h text onward b now told on went ticket back one_put one_given step =
    let put_is : nth (direction_at u (suc i) Client).prepares (suc (p (suc i))) ≡ Some (prepare_of_ticket t onward (suc (p i))) = ap (λ ps. slice_get ps (p (suc i))) back.prepares ∙ went.put in
    let at_put : Back u (suc i) Client 0 now None (Some (prepare_of_ticket t onward (suc (p i)))) told x = subst (λ o. Back u (suc i) Client 0 now None o told x) put_is step in
    let node = went.node in
    let has_node : slice_get u.nodes i ≡ Some node = back.before i (omega arith) ∙ went.has_node in
    let at_node : BackAtHop u (suc i) Client 0 (prepare_of_ticket t onward (suc (p i))) None now i (Some node) told x = subst (λ o. BackAtHop u (suc i) Client 0 (prepare_of_ticket t onward (suc (p i))) None now i o told x) has_node at_put in
    let ticket_is : ticket_at node.state.tickets t.number ≡ Some t = ap (λ (z : Hop). ticket_at z.tickets t.number) went.state_is ∙ ticket in
    let settles : BackAtTicket u (suc i) Client 0 (prepare_of_ticket t onward (suc (p i))) None now i node (Some t) told x = subst (λ o. BackAtTicket u (suc i) Client 0 (prepare_of_ticket t onward (suc (p i))) None now i node o told x) ticket_is at_node in
    let r = settled node.state t None now in
    let same : r ≡ settled after t None now = ap (λ z. settled z t None now) went.state_is in
    let entered = with_hop_entry u i node r.1 (settled_entry t false) in
    let prev : suc i - 1 ≡ i = omega arith in
    let here_is : direction_at u i Client ≡ direction_at w i Client = back.earlier i (omega arith) ∙ went.earlier i (omega arith) in
    let lane : Direction = record { prepares = (direction_at u i Client).prepares; given = (direction_at u i Client).given ++ answer_to (suc (p i)) r.0 ∷ [] } in
    let after_is : x ≡ with_lane entered i Client lane = subst (λ l. x ≡ with_answer entered l Client (answer_to (suc (p i)) r.0)) prev settles.1 in
    let inside : i < length u.links = (let a = back.links in let c = went.on.links in let l = went.on.within in omega (arith, a, c, l)) in
    let lane_is : direction_at x i Client ≡ lane = ap (λ z. direction_at z i Client) after_is ∙ lane_here entered i Client lane inside in
    let lanes : (j : ℕ) → j ≢ i → direction_at x j Client ≡ direction_at u j Client = (λ j apart. ap (λ z. direction_at z j Client) after_is ∙ lane_there entered i Client lane j Client (λ e. apart e.0)) in
    let new : Node = record { state = r.1; answered = node.answered ++ settled_entry t false ∷ [] } in
    let nodes_are : x.nodes ≡ set u.nodes i new = ap (λ (z : World). z.nodes) after_is in
    let given_long : length (direction_at u i Client).given ≡ g i = ap (λ (z : Direction). length z.given) here_is ∙ on.given in
    let many = back.count in
    let many_more = went.count in
    record {
      client = ap (λ z. end_at z Client) after_is ∙ back.client ∙ went.client;
      ledgers = ap (λ (z : World). z.ledgers) after_is ∙ back.ledgers ∙ went.ledgers;
      server = ap (λ z. end_at z Server) after_is ∙ back.server;
      nodes = ap (λ ns. map state_of (drop i ns)) nodes_are
          ∙ ap (map state_of) (drop_at (set u.nodes i new) i new (get_set u.nodes i new node has_node) ∙ ap (λ ns. new ∷ ns) (drop_set u.nodes i new))
          ∙ ap (λ hs. r.1 ∷ hs) back.nodes
          ∙ ap (λ s. s.1 ∷ b.hops) same;
      count = ap length nodes_are ∙ length-set u.nodes i new ∙ many ∙ many_more;
      links = ap (λ (z : World). length z.links) after_is ∙ length-set entered.links i _ ∙ back.links ∙ went.links;
      before = λ j l. ap (λ ns. slice_get ns j) nodes_are ∙ get_set_apart u.nodes i new j (omega (arith, l)) ∙ back.before j (omega (arith, l)) ∙ went.before j l;
      earlier = λ j l. lanes j (omega (arith, l)) ∙ back.earlier j (omega (arith, l)) ∙ went.earlier j (omega (arith, l));
      prepares = ap (λ (z : Direction). z.prepares) lane_is ∙ ap (λ (z : Direction). z.prepares) here_is;
      given = ap (λ (z : Direction). length z.given) lane_is ∙ length_push (direction_at u i Client).given (answer_to (suc (p i)) r.0) ∙ ap suc given_long ∙ sym one_given;
      later = λ j l m. subst (HasGone (q j) (h j)) (sym (lanes j (omega (arith, l)))) (gone_after i q h v u b back (went.on.prepares ∙ sym one_put) j l (omega (arith, m, many_more)));
    }

-- ---- a Prepare that is lost

-- it was put on each link up to this one, and the hops before it gave an answer
pub record Loses (last all : ℕ) (p g q h : ℕ → ℕ) : Type 0 where
  pub put : (j : ℕ) → j ≤ last → q j ≡ suc (p j)
  pub unput : (j : ℕ) → last < j → j ≤ all → q j ≡ p j
  pub gave : (j : ℕ) → j < last → h j ≡ suc (g j)
  pub ungiven : (j : ℕ) → last ≤ j → h j ≡ g j

stays_lost : (i last : ℕ) (w v : World) (hops : List Hop) (f : EndState) (p g q h : ℕ → ℕ) (text : List ℕ) → IsOn i w hops f p g text → i ≡ last → Loses last (length w.nodes) p g q h → v ≡ w → IsGone i w v q h (record { hops = hops; end = f })
stays_lost i last w v hops f p g q h text on here lose run = subst (λ z. IsGone i w z q h (record { hops = hops; end = f })) (sym run) (record {
  client = refl;
  ledgers = refl;
  server = on.server;
  nodes = on.nodes;
  count = refl;
  links = refl;
  before = λ j l. refl;
  earlier = λ j l. refl;
  prepares = refl;
  given = on.given ∙ sym (lose.ungiven i (omega (arith, here)));
  later = λ j l m. (let old = on.later j l m in record { prepares = old.prepares ∙ sym (lose.unput j (omega (arith, here, l)) m); given = old.given ∙ sym (lose.ungiven j (omega (arith, here, l))) });
})

losing_links : (hops : List Hop) (past i last : ℕ) (w v : World) (f : EndState) (p g q h : ℕ → ℕ) (text : List ℕ) (now : ℤ) → IsOn i w hops f p g text → AllForward hops text now → i + min past (length hops) ≡ last → Loses last (length w.nodes) p g q h → Met w (losing_by p i past (length hops) now) v
    → IsGone i w v q h (record { hops = lost_past past hops text now; end = f })
unfolding lost_past losing_by
losing_links hops zero i last w v f p g q h text now on forward at lose run = stays_lost i last w v hops f p g q h text on (omega (arith, at)) lose run
losing_links [] (suc m) i last w v f p g q h text now on forward at lose run = stays_lost i last w v [] f p g q h text on (omega (arith, at)) lose run
losing_links (one ∷ others) (suc m) i last w v f p g q h text now on forward at lose run =
    let mid = run.0 in
    let t = forward.0 in
    let onward = forward.2 in
    let after = forward.3 in
    let went = at_hop i w mid one after others f p g text onward t forward.1 now run.1 on forward.4 run.3 in
    let both = met_both (losing_by p (suc i) m (length others) now) (Fault (suc i) Client (suc (p (suc i))) now ∷ []) mid v run.4 in
    let further : suc i + min m (length others) ≡ last = omega (arith, at) in
    let rest = losing_links others m (suc i) last mid both.0 f p g q h onward now went.on forward.6 further (subst (λ k. Loses last k p g q h) (sym went.count) lose) both.1 in
    let last_one = met_one (Fault (suc i) Client (suc (p (suc i))) now) both.0 v both.2 in
    subst (λ hs. IsGone i w v q h (record { hops = hs; end = f })) (sym (ap (lost_one (λ bytes. lost_past m others bytes now) others now) forward.4))
    (fault_at_hop i w mid both.0 v after others (one ∷ others) f t p g q h text onward (record { hops = lost_past m others onward now; end = f }) now last_one.0 on went forward.5 rest (lose.put (suc i) (omega (arith, further))) (lose.gave i (omega (arith, further))) last_one.1)

-- ---- an answer that is lost

back_gone : (i : ℕ) (w v : World) (p g q h : ℕ → ℕ) (c : Crossed) → ((j : ℕ) → q j ≡ suc (p j)) → ((j : ℕ) → h j ≡ suc (g j)) → IsBack i w v p g c → IsGone i w v q h (beyond c)
back_gone i w v p g q h c put gave back = record {
  client = back.client;
  ledgers = back.ledgers;
  server = back.server;
  nodes = back.nodes;
  count = back.count;
  links = back.links;
  before = back.before;
  earlier = back.earlier;
  prepares = back.prepares;
  given = back.given ∙ sym (gave i);
  later = λ j l m. (let old = back.later j l m in record { prepares = old.prepares ∙ sym (put j); given = old.given ∙ sym (gave j) });
}

stranding_links : (hops : List Hop) (past i : ℕ) (w v : World) (f : EndState) (p g q h : ℕ → ℕ) (text : List ℕ) (now : ℤ) → ((j : ℕ) → q j ≡ suc (p j)) → ((j : ℕ) → h j ≡ suc (g j)) → IsOn i w hops f p g text → AllForward hops text now → Met w (stranding_by p g i past (length hops) now) v
    → IsGone i w v q h (unanswered_past past hops f text now)
unfolding unanswered_past stranding_by crossed
stranding_links hops zero i w v f p g q h text now put gave on forward run = back_gone i w v p g q h (crossed hops f text now) put gave (over_links hops i w v f p g text now on forward run)
stranding_links [] (suc m) i w v f p g q h text now put gave on forward run =
    let last = met_one (Arrive i Client (suc (p i)) now) w v run in
    back_gone i w v p g q h (crossed [] f text now) put gave (at_server i w v f p g text now last.0 on last.1)
stranding_links (one ∷ others) (suc m) i w v f p g q h text now put gave on forward run =
    let mid = run.0 in
    let t = forward.0 in
    let onward = forward.2 in
    let after = forward.3 in
    let went = at_hop i w mid one after others f p g text onward t forward.1 now run.1 on forward.4 run.3 in
    let both = met_both (stranding_by p g (suc i) m (length others) now) (Fault (suc i) Client (suc (p (suc i))) now ∷ []) mid v run.4 in
    let rest = stranding_links others m (suc i) mid both.0 f p g q h onward now put gave went.on forward.6 both.1 in
    let last_one = met_one (Fault (suc i) Client (suc (p (suc i))) now) both.0 v both.2 in
    subst (IsGone i w v q h) (sym (ap (unanswered_one (λ bytes. unanswered_past m others f bytes now) others f now) forward.4))
    (fault_at_hop i w mid both.0 v after others (one ∷ others) f t p g q h text onward (unanswered_past m others f onward now) now last_one.0 on went forward.5 rest (put (suc i)) (gave i) last_one.1)

-- ---- the client meets a fault

all_gone : (w v : World) (b : Beyond) (q h : ℕ → ℕ) → IsGone 0 w v q h b → length (direction_at w 0 Client).prepares ≡ q 0 → (j : ℕ) → j ≤ length w.nodes → HasGone (q j) (h j) (direction_at v j Client)
all_gone w v b q h back long zero l = record { prepares = ap length back.prepares ∙ long; given = back.given }
all_gone w v b q h back long (suc j) l = back.later (suc j) (omega arith) l

fault_ends : (w mid u v : World) (e : EndState) (hops : List Hop) (f gone : EndState) (p g q h : ℕ → ℕ) (flight : flights.Open) (bytes : List ℕ) (b : Beyond) (now : ℤ) (told : Told) → IsSettled w e hops f p g → mid ≡ with_prepare (with_end w Client gone) 0 Client (prepare_of_flight flight bytes) → IsGone 0 mid u q h b → q 0 ≡ suc (p 0)
    → Step u (Fault 0 Client (suc (p 0)) now) told v → (v.ledgers ≡ w.ledgers) × IsSettled v (ended gone flight None) b.hops b.end q h
fault_ends w mid u v e hops f gone p g q h flight bytes b now told rest is back one_put step =
    let on = sent_on_link w mid e hops f gone p g flight bytes rest is in
    let put_is : nth (direction_at u 0 Client).prepares (suc (p 0)) ≡ Some (prepare_of_flight flight bytes) = ap (λ ps. slice_get ps (p 0)) back.prepares ∙ sent_put w mid e hops f gone p g flight bytes rest is in
    let at_put : Back u 0 Client 0 now None (Some (prepare_of_flight flight bytes)) told v = subst (λ o. Back u 0 Client 0 now None o told v) put_is step in
    let client : end_at u Client ≡ gone = back.client ∙ ap (λ z. end_at z Client) is in
    let at_end : BackAtEnd u 0 Client 0 (prepare_of_flight flight bytes) None Client (open_flight gone flight) told v = subst (λ z. BackAtEnd u 0 Client 0 (prepare_of_flight flight bytes) None Client (open_flight z flight) told v) client at_put in
    let ends = ends_faulted u v gone flight (prepare_of_flight flight bytes) told (open_flight gone flight) client refl at_end in
    let many = back.count in
    let nodes_same : length v.nodes ≡ length u.nodes = ap length ends.nodes in (
      ends.ledgers ∙ back.ledgers ∙ ap (λ (z : World). z.ledgers) is,
      record {
        client = ends.client;
        server = ends.server ∙ back.server;
        hops_are = ap (map state_of) ends.nodes ∙ back.nodes;
        links = (let a = ends.links in let c = back.links in let k = on.links in omega (arith, a, c, k, nodes_same, many));
        lanes = λ j l. ends.lanes (q j) (h j) j (all_gone mid u b q h back (on.prepares ∙ sym one_put) j (omega (arith, l, nodes_same, many)));
      },
    )

-- ---- a Send, by what becomes of it

-- the client sent, and met a fault; nothing was written or read
pub record HasFaulted (w : World) (e : EndState) (q h : ℕ → ℕ) (left : List ℕ → Beyond) (iv : List ℕ) (now : ℤ) (v : World) : Type 0 where
  pub flight : flights.Open
  pub bytes : List ℕ
  pub gone : EndState
  pub goes : Goes e iv now flight bytes gone
  pub ledgers : v.ledgers ≡ w.ledgers
  pub rests : IsSettled v (ended gone flight None) (left bytes).hops (left bytes).end q h

pub lost_settles : (w mid v : World) (e : EndState) (hops : List Hop) (f : EndState) (p g q h : ℕ → ℕ) (at : ℕ) (iv : List ℕ) (now : ℤ) → IsSettled w e hops f p g → length w.nodes ≡ length hops → Loses (min at (length hops)) (length hops) p g q h
    → ((flight : flights.Open) (bytes : List ℕ) (gone : EndState) → Goes e iv now flight bytes gone → AllForward hops bytes now)
    → Step w (Send Client iv now) Sent mid → Met mid (following (PrepareLost at) p g (length hops) now) v → HasFaulted w e q h (λ bytes. record { hops = lost_past at hops bytes now; end = f }) iv now v
lost_settles w mid v e hops f p g q h at iv now rest many lose forward (inl none) run = absurd (let no : ◌≡◌ {A = Told} Sent Silent = none.1 in cc)
lost_settles w mid v e hops f p g q h at iv now rest many lose forward (inr sent) run =
    let flight = sent.0 in
    let bytes = sent.1 in
    let gone = sent.2 in
    let goes : Goes e iv now flight bytes gone = subst (λ z. Goes z iv now flight bytes gone) rest.client sent.3 in
    let is = sent.5 in
    let on = sent_on_link w mid e hops f gone p g flight bytes rest is in
    let count : length mid.nodes ≡ length hops = ap (λ (z : World). length z.nodes) is ∙ many in
    let both = met_both (losing_by p 0 at (length hops) now) (Fault 0 Client (suc (p 0)) now ∷ []) mid v run in
    let back = losing_links hops at 0 (min at (length hops)) mid both.0 f p g q h bytes now on (forward flight bytes gone goes) (omega arith) (subst (λ k. Loses (min at (length hops)) k p g q h) (sym count) lose) both.1 in
    let last = met_one (Fault 0 Client (suc (p 0)) now) both.0 v both.2 in
    let ends = fault_ends w mid both.0 v e hops f gone p g q h flight bytes (record { hops = lost_past at hops bytes now; end = f }) now last.0 rest is back (lose.put 0 (omega arith)) last.1 in
    record { flight = flight; bytes = bytes; gone = gone; goes = goes; ledgers = ends.0; rests = ends.1 }

pub stranded_settles : (w mid v : World) (e : EndState) (hops : List Hop) (f : EndState) (p g q h : ℕ → ℕ) (at : ℕ) (iv : List ℕ) (now : ℤ) → IsSettled w e hops f p g → ((j : ℕ) → q j ≡ suc (p j)) → ((j : ℕ) → h j ≡ suc (g j))
    → ((flight : flights.Open) (bytes : List ℕ) (gone : EndState) → Goes e iv now flight bytes gone → AllForward hops bytes now)
    → Step w (Send Client iv now) Sent mid → Met mid (following (AnswerLost at) p g (length hops) now) v → HasFaulted w e q h (λ bytes. unanswered_past at hops f bytes now) iv now v
stranded_settles w mid v e hops f p g q h at iv now rest put gave forward (inl none) run = absurd (let no : ◌≡◌ {A = Told} Sent Silent = none.1 in cc)
stranded_settles w mid v e hops f p g q h at iv now rest put gave forward (inr sent) run =
    let flight = sent.0 in
    let bytes = sent.1 in
    let gone = sent.2 in
    let goes : Goes e iv now flight bytes gone = subst (λ z. Goes z iv now flight bytes gone) rest.client sent.3 in
    let is = sent.5 in
    let on = sent_on_link w mid e hops f gone p g flight bytes rest is in
    let both = met_both (stranding_by p g 0 at (length hops) now) (Fault 0 Client (suc (p 0)) now ∷ []) mid v run in
    let back = stranding_links hops at 0 mid both.0 f p g q h bytes now put gave on (forward flight bytes gone goes) both.1 in
    let last = met_one (Fault 0 Client (suc (p 0)) now) both.0 v both.2 in
    let ends = fault_ends w mid both.0 v e hops f gone p g q h flight bytes (unanswered_past at hops f bytes now) now last.0 rest is back (put 0) last.1 in
    record { flight = flight; bytes = bytes; gone = gone; goes = goes; ledgers = ends.0; rests = ends.1 }

-- ---- the numbers

one_if : (b : Bool) (n : ℕ) → b ≡ true → n + cond b 1 0 ≡ suc n
one_if true n e = omega arith
one_if false n e = absurd (let clash : ◌≡◌ {A = Bool} false true = e in cc)

none_if : (b : Bool) (n : ℕ) → b ≡ false → n + cond b 1 0 ≡ n
none_if false n e = omega arith
none_if true n e = absurd (let clash : ◌≡◌ {A = Bool} true false = e in cc)

pub one_more : (n : ℕ) → n + 1 ≡ suc n
one_more n = omega arith

-- those of a Prepare that is lost on a link
pub loses_at : (at all : ℕ) (p g : ℕ → ℕ) → Loses (min at all) all p g (λ j. p j + puts_on (PrepareLost at) j) (λ j. g j + gives_on all (PrepareLost at) j)
loses_at at all p g = record {
  put = λ j l. one_if (nat_le j at) (p j) (below j at (omega (arith, l)));
  unput = λ j l m. none_if (nat_le j at) (p j) (above j at (omega (arith, l, m)));
  gave = λ j l. one_if (nat_lt j (min at all)) (g j) (before j (min at all) l);
  ungiven = λ j l. none_if (nat_lt j (min at all)) (g j) (behind j (min at all) l);
}
  where
    below : (j k : ℕ) → j ≤ k → nat_le j k ≡ true
    below j k l = grind (arith, nat_tests)

    above : (j k : ℕ) → k < j → nat_le j k ≡ false
    above j k l = grind (arith, nat_tests)

    before : (j k : ℕ) → j < k → nat_lt j k ≡ true
    before j k l = grind (arith, nat_tests)

    behind : (j k : ℕ) → k ≤ j → nat_lt j k ≡ false
    behind j k l = grind (arith, nat_tests)
