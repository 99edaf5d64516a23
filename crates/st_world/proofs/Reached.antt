-- Events by the place of their arrival, and runs.
use Rattle.std.proofs.Common.{◌≡◌, ℕ, zero, suc, ◌+◌, ◌<◌, ◌≤◌, Bool, true, false, cond, nat_eq, List, [], ◌∷◌, ◌++◌, length, take, get_or, refl, sym, ap, subst, ◌∙◌, arith, ℤ, Option, None, Some, inl, inr, is_some, nat_lt, slice_get, Result, Ok, Err, IfOk}
use Rattle.std.specs.Prelude.{MatchOption, IfSome}
use Rattle.std.specs.Borrow.{Bor}
use Rattle.std.proofs.lemmas.Result.{IfOk-weaker}
use Rattle.std.proofs.lemmas.Option.{slice_get_past, slice_get_read}
use Rattle.std.proofs.lemmas.List.{take_more, map_push}
use Rattle.std.proofs.lemmas.Bool.Decides.{nat_tests}
use Rattle.st_world_parts.specs.Sides.{Side, Client, Server}
use Rattle.st_world_parts.specs.State.{World, Node, SentPrepare, SentAnswer, Place, AtEnd, AtHop, far, near, nth, direction_at}
use Rattle.st_world_parts.specs.Events as events
use Rattle.st_world_parts.specs.Events.{Told, Silent, IsEvent}
use Rattle.st_world.specs.Steps.{Meets, Happens, Arrives, RefusesArrival, BackAt, Back, AnswerBack}
use Rattle.st_world.specs.Runs.{Run, opening}
use Rattle.st_world.specs.declared.event.Event.{Event}
use Rattle.st_world.specs.Seen.{event_seen, events_seen}
use Rattle.st_world.specs.Places.{Links}
use Rattle.st_world.specs.Left.{Left, in_world, lacks, MeetsAt, MayLack, IsReached}

is_below : (i n : ℕ) → nat_lt i n ≡ true → i < n
is_below i n e = grind (arith, nat_tests)

not_below : (i n : ℕ) → nat_lt i n ≡ false → n ≤ i
not_below i n e = grind (arith, nat_tests)

-- ---- places

pub up_hop : (w : World) (link : ℕ) → link < length w.nodes → far w link Client ≡ AtHop link
up_hop w link l = let e : nat_eq link (length w.nodes) ≡ false = grind (arith, nat_tests) in ap (λ (b : Bool). cond b (AtEnd Server) (AtHop link)) e

pub up_end : (w : World) (link : ℕ) → link ≡ length w.nodes → far w link Client ≡ AtEnd Server
up_end w link is = let e : nat_eq link (length w.nodes) ≡ true = grind (arith, nat_tests) in ap (λ (b : Bool). cond b (AtEnd Server) (AtHop link)) e

pub down_end : (w : World) (link : ℕ) → link ≡ 0 → far w link Server ≡ AtEnd Client
down_end w zero e = refl
down_end w (suc link) e = absurd (omega (arith, e))

pub down_hop : (w : World) (link hop : ℕ) → link ≡ hop + 1 → far w link Server ≡ AtHop hop
down_hop w zero hop e = absurd (omega (arith, e))
down_hop w (suc link) hop e = ap AtHop (omega (arith, e))

-- ---- Prepares

pub arrives_at : (w after : World) (link : ℕ) (way : Side) (which : ℕ) (now : ℤ) (p : SentPrepare) (told : Told) → nth (direction_at w link way).prepares which ≡ Some p → MeetsAt w link way which now p (far w link way) told after → Meets w (events.Arrive link way which now) told after
arrives_at w after link way which now p told here met = elim met [
  | inl h ↦ inl (subst (λ (o : Option SentPrepare). Arrives w link way which now o told after) (sym here) h)
  | inr h ↦ inr (h.0, h.1, subst (λ (o : Option SentPrepare). RefusesArrival w link way which now o h.0) (sym here) h.2, h.3)
]

-- on a way that is known
pub arrives_on : {T E : Type 0} (r : Result T E) (told : T → Told) (w after : World) (link : ℕ) (way side : Side) (which : ℕ) (now : ℤ) (p : SentPrepare) → way ≡ side → nth (direction_at w link way).prepares which ≡ Some p → IfOk r (λ t. MeetsAt w link side which now p (far w link side) (told t) after)
    → IfOk r (λ t. Meets w (events.Arrive link way which now) (told t) after)
arrives_on r told w after link way side which now p is here =
    IfOk-weaker r _ _ (λ t met. arrives_at w after link way which now p (told t) here (subst (λ (x : Side). MeetsAt w link x which now p (far w link x) (told t) after) (sym is) met))

-- at the place where it comes
pub meets_there : {T E : Type 0} (r : Result T E) (told : T → Told) (w after : World) (link : ℕ) (way : Side) (which : ℕ) (now : ℤ) (p : SentPrepare) (place : Place) → far w link way ≡ place → IfOk r (λ t. MeetsAt w link way which now p place (told t) after)
    → IfOk r (λ t. MeetsAt w link way which now p (far w link way) (told t) after)
meets_there r told w after link way which now p place is = subst (λ (x : Place). IfOk r (λ t. MeetsAt w link way which now p x (told t) after)) (sym is)

pub meets_below : {T E : Type 0} (r : Result T E) (told : T → Told) (w after : World) (link hop : ℕ) (which : ℕ) (now : ℤ) (p : SentPrepare) → link ≡ hop + 1 → IfOk r (λ t. MeetsAt w (hop + 1) Server which now p (AtHop hop) (told t) after)
    → IfOk r (λ t. MeetsAt w link Server which now p (far w link Server) (told t) after)
meets_below r told w after link hop which now p e met =
    meets_there r told w after link Server which now p (AtHop hop) (down_hop w link hop e) (subst (λ (l : ℕ). IfOk r (λ t. MeetsAt w l Server which now p (AtHop hop) (told t) after)) (sym e) met)

-- ---- outcomes

-- at the place of whoever sent the Prepare
pub backs_there : {T E : Type 0} (r : Result T E) (told : T → Told) (w after : World) (link : ℕ) (way : Side) (j : ℕ) (now : ℤ) (p : SentPrepare) (outcome : Option (List ℕ)) (place : Place) → near w link way ≡ place → IfOk r (λ t. BackAt w link way j now p outcome place (told t) after)
    → IfOk r (λ t. BackAt w link way j now p outcome (near w link way) (told t) after)
backs_there r told w after link way j now p outcome place is = subst (λ (x : Place). IfOk r (λ t. BackAt w link way j now p outcome x (told t) after)) (sym is)

pub backs_below : {T E : Type 0} (r : Result T E) (told : T → Told) (w after : World) (link hop : ℕ) (j : ℕ) (now : ℤ) (p : SentPrepare) (outcome : Option (List ℕ)) → link ≡ hop + 1 → IfOk r (λ t. BackAt w (hop + 1) Client j now p outcome (AtHop hop) (told t) after)
    → IfOk r (λ t. BackAt w link Client j now p outcome (near w link Client) (told t) after)
backs_below r told w after link hop j now p outcome e met =
    backs_there r told w after link Client j now p outcome (AtHop hop) (down_hop w link hop e) (subst (λ (l : ℕ). IfOk r (λ t. BackAt w l Client j now p outcome (AtHop hop) (told t) after)) (sym e) met)

-- of a Prepare that is there, on a way that is known
pub goes_back : {T E : Type 0} (r : Result T E) (told : T → Told) (w after : World) (link : ℕ) (way side : Side) (j : ℕ) (now : ℤ) (outcome : Option (List ℕ)) (o : Option SentPrepare) (p : SentPrepare) → way ≡ side → o ≡ Some p → IfOk r (λ t. BackAt w link side j now p outcome (near w link side) (told t) after)
    → IfOk r (λ t. Back w link way j now outcome o (told t) after)
goes_back r told w after link way side j now outcome o p is here met =
    subst (λ (x : Option SentPrepare). IfOk r (λ t. Back w link way j now outcome x (told t) after)) (sym here)
    (subst (λ (x : Side). IfOk r (λ t. BackAt w link x j now p outcome (near w link x) (told t) after)) (sym is) met)

-- of an answer that is there
pub answers_back : {T E : Type 0} (r : Result T E) (told : T → Told) (w after : World) (link : ℕ) (way : Side) (j : ℕ) (now : ℤ) (g : SentAnswer) (put : ℕ) (bytes : List ℕ) → put ≡ g.which → bytes ≡ g.bytes → nth (direction_at w link way).given j ≡ Some g
    → IfOk r (λ t. Back w link way j now (Some bytes) (nth (direction_at w link way).prepares put) (told t) after)
    → IfOk r (λ t. Meets w (events.AnswerArrives link way j now) (told t) after)
answers_back r told w after link way j now g put bytes at_put same here =
    let P : Option SentAnswer → Told → Type 0 = λ o x. AnswerBack w link way j now o x after in
    let Q : ℕ → List ℕ → Told → Type 0 = λ n xs x. Back w link way j now (Some xs) (nth (direction_at w link way).prepares n) x after in
    IfOk-weaker r _ _ (λ t met. inl (subst (λ (o : Option SentAnswer). P o (told t)) (sym here) (subst (λ (n : ℕ). Q n g.bytes (told t)) at_put (subst (λ (xs : List ℕ). Q put xs (told t)) same met))))

-- none will arrive
pub faults : {T E : Type 0} (r : Result T E) (told : T → Told) (w after : World) (link : ℕ) (way : Side) (which : ℕ) (now : ℤ) → IfOk r (λ t. Back w link way 0 now None (nth (direction_at w link way).prepares which) (told t) after)
    → IfOk r (λ t. Meets w (events.Fault link way which now) (told t) after)
faults r told w after link way which now = IfOk-weaker r _ _ (λ t met. inl met)

-- ---- events

pub happens_as : (w : World) (event same : events.Event) (told : Told) (after : World) → event ≡ same → IsEvent same → Meets w same told after → Happens w event told after
happens_as w event same told after is lawful met = subst (λ (x : events.Event). Happens w x told after) (sym is) (lawful, met)

-- of a call that may fail
pub happens_if : {T E : Type 0} (r : Result T E) (told : T → Told) (w after : World) (event same : events.Event) → event ≡ same → IsEvent same → IfOk r (λ t. Meets w same (told t) after) → IfOk r (λ t. Happens w event (told t) after)
happens_if r told w after event same is lawful = IfOk-weaker r _ _ (λ t. happens_as w event same (told t) after is lawful)

-- whatever the links are
pub happens_over : {T E : Type 0} (r : Result T E) (told : T → Told) (old new : Left) (ls : Links) (event same : events.Event) → event ≡ same → IsEvent same → IfOk r (λ t. (ks : Links) → Meets (in_world old ks) same (told t) (in_world new ks))
    → IfOk r (λ t. Happens (in_world old ls) event (told t) (in_world new ls))
happens_over r told old new ls event same is lawful = IfOk-weaker r _ _ (λ t met. happens_as (in_world old ls) event same (told t) (in_world new ls) is lawful (met ls))

-- of an event that may run out of memory
pub may_lack : {T E : Type 0} (r : Result T E) (told : T → Told) (event same : events.Event) → event ≡ same → MayLack same → IfOk r (λ t. lacks (told t) ≡ true → MayLack event)
may_lack (Ok t) told event same is may = λ lacking. subst MayLack (sym is) may
may_lack (Err e) told event same is may = tt

-- ---- runs

pub run_more : (es : List events.Event) (w mid : World) (event : events.Event) (told : Told) (after : World) → Run w es mid → Happens mid event told after → Run w (es ++ event ∷ []) after
run_more [] w mid event told after run step = let P : World → Type 0 = λ y. Happens y event told after in (after, told, subst P run step, refl)
run_more (e ∷ es) w mid event told after run step = (run.0, run.1, run.2, run_more es run.0 mid event told after run.3 step)

pub reached_more : (w : World) (event : events.Event) (told : Told) (after : World) → IsReached w → Happens w event told after → IsReached after
reached_more w event told after run step = (run.0, run.1 ++ event ∷ [], run_more run.1 (opening run.0) w event told after run.2 step)

run_step : (es : List Event) (i : ℕ) (d : Event) (told : Told) (w mid after : World) → i < length es → Run w (events_seen (take i es)) mid
    → Happens mid (event_seen (get_or es i d)) told after → Run w (events_seen (take (i + 1) es)) after
run_step es i d told w mid after l run step =
    let more : events_seen (take (i + 1) es) ≡ events_seen (take i es) ++ event_seen (get_or es i d) ∷ [] =
    ap events_seen (take_more es i d l) ∙ map_push event_seen (take i es) (get_or es i d) in
    let P : List events.Event → Type 0 = λ xs. Run w xs after in
    subst P (sym more) (run_more (events_seen (take i es)) w mid (event_seen (get_or es i d)) told after run step)

pub run_next : (es : List Event) (i : ℕ) (x : Event) (told : Told) (w mid after : World) → i < length es → x ≡ get_or es i x → Run w (events_seen (take i es)) mid
    → Happens mid (event_seen x) told after → Run w (events_seen (take (i + 1) es)) after
run_next es i x told w mid after l is run step =
    let P : Event → Type 0 = λ y. Happens mid (event_seen y) told after in run_step es i x told w mid after l run (subst P is step)

-- a step over the links that a world has, and those that it leaves
pub step_kept : (t s : Left) (ls is ks us : Links) (event : events.Event) (told : Told) → us ≡ ks → ls ≡ is → length is ≡ length t.nodes + 1 → length ks ≡ length ls → length s.nodes ≡ length t.nodes → IsReached (in_world t is) → Happens (in_world t ls) event told (in_world s ks)
    → (length us ≡ length s.nodes + 1) × IsReached (in_world s us)
step_kept t s ls is ks us event told e same many kept nodes run step =
    let count : length ks ≡ length s.nodes + 1 = omega (arith, ap length same, many, kept, nodes) in
    let from : IsReached (in_world t ls) = subst (λ (x : Links). IsReached (in_world t x)) (sym same) run in
    subst (λ (x : Links). (length x ≡ length s.nodes + 1) × IsReached (in_world s x)) (sym e) (count, reached_more (in_world t ls) event told (in_world s ks) from step)

pub step_is : (t s : Left) (ls is ks us : Links) (old : World) (event : events.Event) (told : Told) → us ≡ ks → ls ≡ is → in_world t is ≡ old → Happens (in_world t ls) event told (in_world s ks) → Happens old event told (in_world s us)
step_is t s ls is ks us old event told e same was step =
    subst (λ (x : Links). Happens old event told (in_world s x)) (sym e) (subst (λ (x : World). Happens x event told (in_world s ks)) (ap (in_world t) same ∙ was) step)

-- the element at a place of a list
pub found_at : (o : Option (Bor Node)) (ns : List Node) (i : ℕ) → is_some o ≡ nat_lt i (length ns) → IfSome o (λ n. n.now ≡ get_or ns i n.now) → MatchOption o (slice_get ns i ≡ None) (λ n. slice_get ns i ≡ Some n.now)
found_at None ns i e is = slice_get_past ns i (not_below i (length ns) (sym e))
found_at (Some n) ns i e is = slice_get_read ns (length ns) i n.now refl (is_below i (length ns) (sym e)) is
