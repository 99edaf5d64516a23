-- A world after an event at a hop, by the parts that it changed.
use Rattle.std.proofs.Common.{◌≡◌, ◌≢◌, ℕ, ◌<◌, Bool, true, ◌||◌, List, length, set, get_or, slice_get, refl, sym, ap, subst, ◌∙◌, ℤ, Option, Some, inl, inr, Result, IfOk, OnErr}
use Rattle.std.proofs.lemmas.Result.{IfOk-weaker, on_err_weaker}
use Rattle.std.proofs.lemmas.Option.{slice_get_read}
use Rattle.st_hop.specs.declared.ticket.Open.{Open}
use Rattle.st_hop.specs.Hop.{Hop}
use Rattle.st_hop.specs.Refusals as hop
use Rattle.st_hop.specs.Arriving.{Arrival}
use Rattle.st_hop.specs.Settling.{settled, is_booked}
use Rattle.st_world_parts.specs.Sides.{Side, Both}
use Rattle.st_world_parts.specs.State.{World, Party, Node, SentPrepare, SentAnswer, Direction, AtHop, next_link, prev_link, with_answer, with_hop_entry}
use Rattle.st_world_parts.specs.Events.{Told, Replied, Went}
use Rattle.st_world_parts.specs.Ends.{answer_to}
use Rattle.st_world_parts.specs.Hops.{Comes, ArrivesAtHop, answered_at_hop, prepare_of_ticket, settled_entry, BackAtTicket, BackAtHop}
use Rattle.st_world.specs.Steps.{BackAt}
use Rattle.st_world_parts.specs.Parts.{lane_in, with_lane_in, with_put_in, with_given_in, with_taken_in}
use Rattle.st_world.specs.Places.{Links, HopsMet, HopsBack}
use Rattle.st_world.specs.Left.{Left, in_world, lacks, MeetsAt}
use Rattle.st_world.proofs.LinkLists.{lane_same, lane_apart, other_same, set_here, taken_world}
use Rattle.st_world.proofs.Meets.{Led, of_parts, left, quiet, loud}

pub stands_at : (ns : List Node) (i : ℕ) (n : Node) → i < length ns → n ≡ get_or ns i n → slice_get ns i ≡ Some n
stands_at ns i n l is = slice_get_read ns (length ns) i n refl l is

module _ (ends : Both Party) (ns : List Node) (lg : Both Led) (r : Bool) (t : Left) (base : left ends ns lg r ≡ t) (ls : Links) (i : ℕ) (n : Node) (within : i < length t.nodes) (is_node : n ≡ get_or ns i n) (way : Side) where
  l : i < length ns
  l = subst (λ (s : Left). i < length s.nodes) (sym base) within

  abbrev w : World
  w = of_parts ends ns ls lg r

  same_parts : (m m' : Node) (ks ks' : Links) (b b' : Bool) → m ≡ m' → ks ≡ ks' → b ≡ b' → of_parts ends (set ns i m) ks lg b ≡ of_parts ends (set ns i m') ks' lg b'
  same_parts m m' ks ks' b b' em ek eb =
      ap (λ (x : Node). of_parts ends (set ns i x) ks lg b) em ∙ ap (λ (k : Links). of_parts ends (set ns i m') k lg b) ek ∙ ap (of_parts ends (set ns i m') ks' lg) eb

  -- a Prepare arrives
  pub hop_meets : (link next which : ℕ) (bytes : List ℕ) (now : ℤ) (p : SentPrepare) (told : Told) (m : Node) (ks : Links) (b : Bool) → link ≢ next → next ≡ next_link link way → bytes ≡ p.bytes → HopsMet link next way which bytes now told n m ls ks → b ≡ (r || lacks told)
      → MeetsAt (in_world t ls) link way which now p (AtHop i) told (in_world (left ends (set ns i m) lg b) ks)
  hop_meets link next which bytes now p told m ks b apart at_next same met is =
      let after : World = of_parts ends (set ns i m) ks lg b in
      let S : Left → Type 0 = λ s. MeetsAt (in_world s ls) link way which now p (AtHop i) told after in
      let met' : HopsMet link next way which p.bytes now told n m ls ks = subst (λ (xs : List ℕ). HopsMet link next way which xs now told n m ls ks) same met in
      let O : Option Node → Type 0 = λ o. ArrivesAtHop w link way which p now i o told after in
      let X : Arrival × Hop → Type 0 = λ x. Comes w link way which p i n x.0 x.1 told after in
      let here = stands_at ns i n l is_node in
      let x = met'.0 in
      let y = met'.1 in
      subst S base (elim met'.2 [
        | inl h ↦ inl (subst O (sym here) (subst X (sym h.2) (
          h.3,
          same_parts m _ ks _ b r h.4 (met'.3 ∙ ap (with_lane_in (with_lane_in ls link way y) next way) h.5 ∙ other_same ls link next way y apart ∙ ap (with_lane_in ls link way) h.6) (quiet r b told Replied h.3 refl is),
        )))
        | inr g ↦ elim g [
          | inl h ↦ inl (subst O (sym here) (subst X (sym h.4) (
            h.5,
            h.6,
            same_parts m _ ks _ b r h.7
                (met'.3 ∙ ap (λ (v : Direction). with_lane_in (with_lane_in ls link way v) next way x) h.9 ∙ ap (λ (k : Links). with_lane_in k next way x) (lane_same ls link way) ∙ ap (with_lane_in ls next way) h.8
                ∙ ap (λ (q : ℕ). with_lane_in ls q way (with_put_in (lane_in ls q way) (prepare_of_ticket h.0 h.2 which))) at_next)
                (quiet r b told Went h.6 refl is),
          )))
          | inr h ↦ inr (
            answered_at_hop w link way which p.bytes i n n.state (hop.t00_text n.state.own),
            h.0,
            (n, here, refl),
            same_parts m _ ks _ b true h.1 (met'.3 ∙ ap (with_lane_in (with_lane_in ls link way y) next way) h.2 ∙ other_same ls link next way y apart ∙ ap (with_lane_in ls link way) h.3) (loud r b told h.0 is),
          )
        ]
      ])

  -- an outcome arrives
  back_meets : (link prev j : ℕ) (now : ℤ) (z : SentPrepare) (outcome : Option (List ℕ)) (told : Told) (m : Node) (ks : Links) → link ≢ prev → prev ≡ prev_link link way → HopsBack link prev way z j outcome now told n m ls ks
      → BackAt (in_world t ls) link way j now z outcome (AtHop i) told (in_world (left ends (set ns i m) lg r) ks)
  back_meets link prev j now z outcome told m ks apart at_prev met =
      let after : World = of_parts ends (set ns i m) ks lg r in
      let S : Left → Type 0 = λ s. BackAt (in_world s ls) link way j now z outcome (AtHop i) told after in
      let O : Option Node → Type 0 = λ o. BackAtHop w link way j z outcome now i o told after in
      let T : Option Open → Type 0 = λ o. BackAtTicket w link way j z outcome now i n o told after in
      let here = stands_at ns i n l is_node in
      let y = met.0 in
      let x = met.1 in
      subst S base (subst O (sym here) (elim met.2 [
        | inl h ↦ subst T (sym h.0) (
          h.1,
          same_parts m n ks ls r r h.2 (met.3 ∙ ap (λ (v : Direction). with_lane_in (with_lane_in ls link way v) prev way x) h.3 ∙ ap (λ (k : Links). with_lane_in k prev way x) (lane_same ls link way) ∙ ap (with_lane_in ls prev way) h.4 ∙ lane_same ls prev way) refl
              ∙ ap (λ (ms : List Node). of_parts ends ms ls lg r) (set_here ns i n is_node),
        )
        | inr h ↦ (
            let booked = is_booked h.0 outcome now in
            let done = settled n.state h.0 outcome now in
            let g : SentAnswer = answer_to z.cause done.0 in
            let v = with_hop_entry w i n done.1 (settled_entry h.0 booked) in
            let y' : Direction = with_taken_in booked (lane_in ls link way) j in
            let ls' : Links = with_lane_in ls link way y' in
            subst T (sym h.1) (
              h.2,
              same_parts m _ ks (with_lane_in ls' prev way (with_given_in (lane_in ls' prev way) g)) r r h.3
                  (met.3 ∙ ap (λ (u : Direction). with_lane_in (with_lane_in ls link way u) prev way x) h.4 ∙ ap (with_lane_in ls' prev way) h.5
                  ∙ ap (λ (u : Direction). with_lane_in ls' prev way (with_given_in u g)) (sym (lane_apart ls link prev way way y' apart))) refl
                  ∙ ap (λ (q : ℕ). with_answer (record v { links = ls' }) q way g) at_prev
                  ∙ ap (λ (u : World). with_answer u (prev_link link way) way g) (taken_world booked v link way j),
            ))
      ]))

  pub back_hop_meets : {T E : Type 0} (x : Result T E) (told : T → Told) (link prev j : ℕ) (now : ℤ) (z : SentPrepare) (outcome : Option (List ℕ)) (m : Node) (ks : Links) → link ≢ prev → prev ≡ prev_link link way → IfOk x (λ y. HopsBack link prev way z j outcome now (told y) n m ls ks)
      → IfOk x (λ y. BackAt (in_world t ls) link way j now z outcome (AtHop i) (told y) (in_world (left ends (set ns i m) lg r) ks))
  back_hop_meets x told link prev j now z outcome m ks apart at_prev = IfOk-weaker x _ _ (λ y. back_meets link prev j now z outcome (told y) m ks apart at_prev)

  -- the hop is put back, if there is an error
  pub hop_same : {T E : Type 0} (x : Result T E) (m : Node) → OnErr x (m ≡ n) → OnErr x (left ends (set ns i m) lg r ≡ t)
  hop_same x m = on_err_weaker x (λ e. ap (λ (k : Node). left ends (set ns i k) lg r) e ∙ ap (λ (ms : List Node). left ends ms lg r) (set_here ns i n is_node) ∙ base)
