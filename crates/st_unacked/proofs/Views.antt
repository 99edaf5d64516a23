-- What a model shows, against the runs and the bytes.
use Rattle.std.proofs.Common.{◌≡◌, ℕ, ◌+◌, ◌-◌, ◌^◌, ◌*◌, ◌<◌, ◌≤◌, Bool, true, false, cond, ◌&&◌, List, [], ◌∷◌, ◌++◌, length, map, drop, Option, Some, None, IsSome, refl, ap, ◌∙◌, sym, subst, arith, inl, inr, length-append}
use Rattle.std.specs.Prelude.{if◌then◌else◌, not, is_some, is_none, nat_lt, slice_index}
use Rattle.std.specs.Option.{option_or}
use Rattle.std.specs.Ordering.{nat_cmp}
use Rattle.std.specs.List.{slice_range}
use Rattle.std.specs.FinMap as fmap
use Rattle.std.proofs.lemmas.List.Edits.{get_or-between}
use Rattle.std.proofs.lemmas.Bool.{cases_lt}
use Rattle.std.proofs.lemmas.Bool.Decides.{nat_tests}
use Rattle.std.proofs.lemmas.List.{get_or_append_left, get_or-append_right, get_or-drop, length-drop}
use Rattle.st_unacked.specs.declared.run.Run.{Run}
use Rattle.st_unacked.specs.declared.run.Status.{Status}
use Rattle.st_streams.specs.Table.{is_between, table}
use Rattle.st_unacked.specs.Sent.{Sent, nothing_sent, due_at, is_by, after_accept, after_claim, after_acknowledged, after_failed, after_drop, IsLowestDue, IsPastDue}
use Rattle.st_unacked.specs.Runs.{status_at, flight_of, is_kept, is_due, byte_at, flight_at, shown_by, IsTiled, flown, claimed, acknowledged_run, failed_run, dropped_run}
use Rattle.st_streams.proofs.Tables.{get-table, get-table_in, table_is, table-inside, get-put_bytes, get-put_same, get-kept}

pub same_sent : (s t : Sent) → s.unacked ≡ t.unacked → s.flying ≡ t.flying → s.accepted ≡ t.accepted → s ≡ t
same_sent s t u f a = λ i. record { unacked = u i; flying = f i; accepted = a i }

pub nothing_shown : (byte : ℕ → ℕ) → shown_by [] byte 0 0 ≡ nothing_sent
unfolding table
nothing_shown byte = refl

-- each status changed by the same function
abbrev changed : (Status → Status) → Option Status → Option Status
changed g None = None
changed g (Some s) = Some (g s)

status_map : (f : Run → Run) (g : Status → Status) → ((r : Run) → (f r).end ≡ r.end) → ((r : Run) → (f r).status ≡ g r.status) → (rs : List Run) (q : ℕ) → status_at (map f rs) q ≡ changed g (status_at rs q)
status_map f g e s [] q = refl
status_map f g e s (r ∷ rs) q =
    ap (λ n. cond (nat_lt q n) (Some (f r).status) (status_at (map f rs) q)) (e r)
    ∙ ap (λ t. cond (nat_lt q r.end) (Some t) (status_at (map f rs) q)) (s r)
    ∙ ap (λ t. cond (nat_lt q r.end) (Some (g r.status)) t) (status_map f g e s rs q)
    ∙ into (nat_lt q r.end) g (Some r.status) (status_at rs q)
  where
    into : (b : Bool) (g : Status → Status) (s t : Option Status) → cond b (changed g s) (changed g t) ≡ changed g (cond b s t)
    into true g s t = refl
    into false g s t = refl

-- the status that a sequence's answer and a drop leave
acked_status : ℕ → Status → Status
acked_status sequence s = if is_by sequence s.flight then record { flight = None; kept = false } else s

freed_status : ℕ → Status → Status
freed_status sequence s = if is_by sequence s.flight then record { flight = None; kept = s.kept } else s

pub run_end : (b : Bool) (r : Run) (s : Status) → (cond b (record r { status = s }) r).end ≡ r.end
run_end true r s = refl
run_end false r s = refl

run_status : (b : Bool) (r : Run) (s : Status) → (cond b (record r { status = s }) r).status ≡ cond b s r.status
run_status true r s = refl
run_status false r s = refl

acked_at : (sequence : ℕ) (rs : List Run) (q : ℕ) → status_at (map (acknowledged_run sequence) rs) q ≡ changed (acked_status sequence) (status_at rs q)
unfolding acked_status
acked_at sequence rs q = status_map (acknowledged_run sequence) (acked_status sequence) (λ r. run_end (is_by sequence r.status.flight) r _) (λ r. run_status (is_by sequence r.status.flight) r _) rs q

freed_at : (sequence : ℕ) (rs : List Run) (q : ℕ) → status_at (map (failed_run sequence) rs) q ≡ changed (freed_status sequence) (status_at rs q)
unfolding freed_status
freed_at sequence rs q = status_map (failed_run sequence) (freed_status sequence) (λ r. run_end (is_by sequence r.status.flight) r _) (λ r. run_status (is_by sequence r.status.flight) r _) rs q

dropped_at : (rs : List Run) (q : ℕ) → status_at (map dropped_run rs) q ≡ changed (λ s. record { flight = s.flight; kept = false }) (status_at rs q)
dropped_at rs q = status_map dropped_run (λ s. record { flight = s.flight; kept = false }) (λ r. refl) (λ r. refl) rs q

-- what is kept after an answer or a drop was kept before
kept_changed : (g : Status → Status) → ((s : Status) → (g s).kept ≡ true → s.kept ≡ true) → (s : Option Status) → is_kept (changed g s) ≡ true → is_kept s ≡ true
kept_changed g h None e = absurd cc
kept_changed g h (Some s) e = h s e

pub kept_acked : (sequence : ℕ) (rs : List Run) (q : ℕ) → is_kept (status_at (map (acknowledged_run sequence) rs) q) ≡ true → is_kept (status_at rs q) ≡ true
unfolding acked_status
kept_acked sequence rs q h = kept_changed (acked_status sequence) (λ s e. by_test (is_by sequence s.flight) s e) (status_at rs q) (sym (ap is_kept (acked_at sequence rs q)) ∙ h)
  where
    by_test : (b : Bool) (s : Status) → (cond b (record { flight = None; kept = false }) s).kept ≡ true → s.kept ≡ true
    by_test true s e = absurd cc
    by_test false s e = e

pub kept_freed : (sequence : ℕ) (rs : List Run) (q : ℕ) → is_kept (status_at (map (failed_run sequence) rs) q) ≡ true → is_kept (status_at rs q) ≡ true
unfolding freed_status
kept_freed sequence rs q h = kept_changed (freed_status sequence) (λ s e. by_test (is_by sequence s.flight) s e) (status_at rs q) (sym (ap is_kept (freed_at sequence rs q)) ∙ h)
  where
    by_test : (b : Bool) (s : Status) → (cond b (record { flight = None; kept = s.kept }) s).kept ≡ true → s.kept ≡ true
    by_test true s e = e
    by_test false s e = e

pub kept_dropped : (rs : List Run) (q : ℕ) → is_kept (status_at (map dropped_run rs) q) ≡ true → is_kept (status_at rs q) ≡ true
kept_dropped rs q h = kept_changed (λ s. record { flight = s.flight; kept = false }) (λ s e. absurd cc) (status_at rs q) (sym (ap is_kept (dropped_at rs q)) ∙ h)

-- one offset: its byte and its flight by its status
abbrev byte_by : ℕ → Option Status → Option ℕ
byte_by x s = if is_kept s then Some x else None

module _ (sequence x : ℕ) where
  acked_byte : (b : Bool) (s : Option Status) → cond b (byte_by x (changed (acked_status sequence) s)) None ≡ cond (not (is_by sequence (cond b (flight_of s) None))) (cond b (byte_by x s) None) None
  unfolding acked_status
  acked_byte false s = refl
  acked_byte true None = refl
  acked_byte true (Some s) = by_test (is_by sequence s.flight) s
    where
      by_test : (t : Bool) (s : Status) → byte_by x (Some (cond t (record { flight = None; kept = false }) s)) ≡ cond (not t) (byte_by x (Some s)) None
      by_test true s = refl
      by_test false s = refl

  acked_flight : (b : Bool) (s : Option Status) → cond b (flight_of (changed (acked_status sequence) s)) None ≡ cond (not (is_by sequence (cond b (flight_of s) None))) (cond b (flight_of s) None) None
  unfolding acked_status
  acked_flight false s = refl
  acked_flight true None = refl
  acked_flight true (Some s) = by_test (is_by sequence s.flight) s
    where
      by_test : (t : Bool) (s : Status) → flight_of (Some (cond t (record { flight = None; kept = false }) s)) ≡ cond (not t) (flight_of (Some s)) None
      by_test true s = refl
      by_test false s = refl

  freed_byte : (s : Option Status) → byte_by x (changed (freed_status sequence) s) ≡ byte_by x s
  unfolding freed_status
  freed_byte None = refl
  freed_byte (Some s) = by_test (is_by sequence s.flight) s
    where
      by_test : (t : Bool) (s : Status) → byte_by x (Some (cond t (record { flight = None; kept = s.kept }) s)) ≡ byte_by x (Some s)
      by_test true s = refl
      by_test false s = refl

  freed_flight : (b : Bool) (s : Option Status) → cond b (flight_of (changed (freed_status sequence) s)) None ≡ cond (not (is_by sequence (cond b (flight_of s) None))) (cond b (flight_of s) None) None
  unfolding freed_status
  freed_flight false s = refl
  freed_flight true None = refl
  freed_flight true (Some s) = by_test (is_by sequence s.flight) s
    where
      by_test : (t : Bool) (s : Status) → flight_of (Some (cond t (record { flight = None; kept = s.kept }) s)) ≡ cond (not t) (flight_of (Some s)) None
      by_test true s = refl
      by_test false s = refl

dropped_byte : (b : Bool) (x : ℕ) (s : Option Status) → cond b (byte_by x (changed (λ t. record { flight = t.flight; kept = false }) s)) None ≡ None
dropped_byte false x s = refl
dropped_byte true x None = refl
dropped_byte true x (Some s) = refl

dropped_flight : (s : Option Status) → flight_of (changed (λ t. record { flight = t.flight; kept = false }) s) ≡ flight_of s
dropped_flight None = refl
dropped_flight (Some s) = refl

module _ (runs : List Run) (byte : ℕ → ℕ) (first n : ℕ) where
  -- whether an offset is here
  abbrev here : ℕ → Bool
  here q = is_between first (first + n) q

  flying_here : (q : ℕ) → fmap.get (table (flight_at runs) first n) q ≡ cond (here q) (flight_at runs q) None
  flying_here q = get-table (flight_at runs) first n q

  bytes_here : (q : ℕ) → fmap.get (table (byte_at runs byte) first n) q ≡ cond (here q) (byte_at runs byte q) None
  bytes_here q = get-table (byte_at runs byte) first n q

  without : (sequence : ℕ) (m : fmap.FinMap nat_cmp ℕ) (q : ℕ) → cond (not (is_by sequence (cond (here q) (flight_at runs q) None))) (fmap.get m q) None
      ≡ fmap.get (fmap.retain_keys m (λ p. not (is_by sequence (fmap.get (table (flight_at runs) first n) p)))) q
  without sequence m q = ap (λ g. cond (not (is_by sequence g)) (fmap.get m q) None) (sym (flying_here q))
      ∙ sym (get-kept m (λ p. not (is_by sequence (fmap.get (table (flight_at runs) first n) p))) q)

  pub acknowledged_view : (sequence : ℕ) → shown_by (map (acknowledged_run sequence) runs) byte first n ≡ after_acknowledged sequence (shown_by runs byte first n)
  acknowledged_view sequence = same_sent _ _
      (table_is _ first n _ (λ q. ap (λ s. cond (here q) (byte_by (byte q) s) None) (acked_at sequence runs q) ∙ acked_byte sequence (byte q) (here q) (status_at runs q)
      ∙ ap (λ g. cond (not (is_by sequence (cond (here q) (flight_at runs q) None))) g None) (sym (bytes_here q)) ∙ without sequence (table (byte_at runs byte) first n) q))
      (table_is _ first n _ (λ q. ap (λ s. cond (here q) (flight_of s) None) (acked_at sequence runs q) ∙ acked_flight sequence 0 (here q) (status_at runs q)
      ∙ ap (λ g. cond (not (is_by sequence (cond (here q) (flight_at runs q) None))) g None) (sym (flying_here q)) ∙ without sequence (table (flight_at runs) first n) q))
      refl

  pub failed_view : (sequence : ℕ) → shown_by (map (failed_run sequence) runs) byte first n ≡ after_failed sequence (shown_by runs byte first n)
  failed_view sequence = same_sent _ _
      (table_is _ first n _ (λ q. ap (λ s. cond (here q) (byte_by (byte q) s) None) (freed_at sequence runs q) ∙ ap (λ g. cond (here q) g None) (freed_byte sequence (byte q) (status_at runs q))
      ∙ sym (bytes_here q)))
      (table_is _ first n _ (λ q. ap (λ s. cond (here q) (flight_of s) None) (freed_at sequence runs q) ∙ freed_flight sequence 0 (here q) (status_at runs q)
      ∙ ap (λ g. cond (not (is_by sequence (cond (here q) (flight_at runs q) None))) g None) (sym (flying_here q)) ∙ without sequence (table (flight_at runs) first n) q))
      refl

  pub dropped_view : shown_by (map dropped_run runs) byte first n ≡ after_drop (shown_by runs byte first n)
  dropped_view = same_sent _ _
      (table_is _ first n _ (λ q. ap (λ s. cond (here q) (byte_by (byte q) s) None) (dropped_at runs q) ∙ dropped_byte (here q) (byte q) (status_at runs q) ∙ sym (fmap.get-empty nat_cmp q)))
      (table_is _ first n _ (λ q. ap (λ s. cond (here q) (flight_of s) None) (dropped_at runs q) ∙ ap (λ g. cond (here q) g None) (dropped_flight (status_at runs q)) ∙ sym (flying_here q)))
      refl

  -- runs that say of the same offsets something
  some_changed : (g : Status → Status) (s : Option Status) → IsSome s → IsSome (changed g s)
  some_changed g None h = absurd cc
  some_changed g (Some s) h = refl

  none_changed : (g : Status → Status) (s t : Option Status) → t ≡ changed g s → s ≡ None → t ≡ None
  none_changed g None t e n = e
  none_changed g (Some s) t e n = absurd cc

  pub tiled_changed : (rs : List Run) (g : Status → Status) → ((q : ℕ) → status_at rs q ≡ changed g (status_at runs q)) → IsTiled runs first n → IsTiled rs first n
  tiled_changed rs g e t = record {
    inside = λ q l m. subst IsSome (sym (e q)) (some_changed g (status_at runs q) (t.inside q l m));
    outside = λ q l. none_changed g (status_at runs q) (status_at rs q) (e q) (t.outside q l);
    fits = t.fits;
  }

  pub tiled_acked : (sequence : ℕ) → IsTiled runs first n → IsTiled (map (acknowledged_run sequence) runs) first n
  tiled_acked sequence = tiled_changed (map (acknowledged_run sequence) runs) (acked_status sequence) (acked_at sequence runs)

  pub tiled_freed : (sequence : ℕ) → IsTiled runs first n → IsTiled (map (failed_run sequence) runs) first n
  tiled_freed sequence = tiled_changed (map (failed_run sequence) runs) (freed_status sequence) (freed_at sequence runs)

  pub tiled_dropped : IsTiled runs first n → IsTiled (map dropped_run runs) first n
  tiled_dropped = tiled_changed (map dropped_run runs) (λ s. record { flight = s.flight; kept = false }) (dropped_at runs)

  -- what is due at an offset
  due_by : (b k : Bool) (f : Option ℕ) (x : ℕ) → (if is_some (cond b f None) then None else cond b (if k then Some x else None) None) ≡ cond (b && (k && is_none f)) (Some x) None
  due_by true true None x = refl
  due_by true true (Some n) x = refl
  due_by true false None x = refl
  due_by true false (Some n) x = refl
  due_by false k f x = refl

  due_status : (b : Bool) (s : Option Status) (x : ℕ) → (if is_some (cond b (flight_of s) None) then None else cond b (byte_by x s) None) ≡ cond (b && is_due s) (Some x) None
  due_status true None x = refl
  due_status false None x = refl
  due_status b (Some s) x = due_by b s.kept s.flight x

  pub due_here : (q : ℕ) → due_at (shown_by runs byte first n) q ≡ cond (here q && is_due (status_at runs q)) (Some (byte q)) None
  due_here q = ap (λ f. if is_some f then None else fmap.get (table (byte_at runs byte) first n) q) (flying_here q)
      ∙ ap (λ u. if is_some (cond (here q) (flight_at runs q) None) then None else u) (bytes_here q) ∙ due_status (here q) (status_at runs q) (byte q)

  not_due : (b d : Bool) (x : Option ℕ) → (b ≡ true → d ≡ false) → cond (b && d) x None ≡ None
  not_due true d x h = ap (λ e. cond e x None) (h refl)
  not_due false d x h = refl

  from_here : (q : ℕ) → here q ≡ true → first ≤ q
  from_here q e = from_test first (first + n) q e
    where
      from_test : (a e q : ℕ) → is_between a e q ≡ true → a ≤ q
      from_test a e q h = grind (arith, nat_tests)

  in_here : (q : ℕ) → first ≤ q → q < first + n → here q ≡ true
  in_here q l m = test first (first + n) q l m
    where
      test : (a e q : ℕ) → a ≤ q → q < e → is_between a e q ≡ true
      test a e q l m = grind (arith, nat_tests)

  pub none_due : (q : ℕ) → (first ≤ q → is_due (status_at runs q) ≡ false) → due_at (shown_by runs byte first n) q ≡ None
  none_due q h = due_here q ∙ not_due (here q) (is_due (status_at runs q)) _ (λ e. h (from_here q e))

  has_status : (s : Option Status) → is_due s ≡ true → s ≡ None → ⊥
  has_status None d e = absurd cc
  has_status (Some s) d e = absurd cc

  pub some_due : IsTiled runs first n → (q : ℕ) → first ≤ q → is_due (status_at runs q) ≡ true → IsSome (due_at (shown_by runs byte first n) q)
  some_due t q l d = elim (cases_lt q (first + n)) [
    | inl m ↦ subst IsSome (sym (due_here q ∙ ap (λ b. cond (b && is_due (status_at runs q)) (Some (byte q)) None) (in_here q l m) ∙ ap (λ b. cond b (Some (byte q)) None) d)) refl
    | inr m ↦ absurd (has_status (status_at runs q) d (t.outside q m))
  ]

  clash : (b : Bool) → b ≡ true → b ≡ false → ⊥
  clash b e f = cc

  pub lowest_view : IsTiled runs first n → (from to : ℕ) → first ≤ from → from ≤ to → is_due (status_at runs from) ≡ true → ((q : ℕ) → first ≤ q → q < from → is_due (status_at runs q) ≡ false)
      → ((q : ℕ) → from ≤ q → q < to → is_due (status_at runs q) ≡ true) → is_due (status_at runs to) ≡ false → IsLowestDue (shown_by runs byte first n) from to
  lowest_view t from to l m d below due ends = record {
    some = elim (cases_lt from to) [ inl n ↦ n | inr n ↦ (let same : from ≡ to = omega arith in absurd (clash (is_due (status_at runs to)) (subst (λ q. is_due (status_at runs q) ≡ true) same d) ends)) ];
    due = λ q a b. some_due t q (omega arith) (due q a b);
    none_below = λ q b. none_due q (λ a. below q a b);
    ends = none_due to (λ _. ends);
  }

  is_here : (b d : Bool) (x : ℕ) → IsSome (cond (b && d) (Some x) None) → (b ≡ true) × (d ≡ true)
  is_here true true x h = (refl, refl)
  is_here true false x h = absurd cc
  is_here false d x h = absurd cc

  pub past_view : IsTiled runs first n → (end : ℕ) → ((q : ℕ) → first ≤ q → is_due (status_at runs q) ≡ true → q < end) → (0 < end → (first < end) × (is_due (status_at runs (end - 1)) ≡ true)) → IsPastDue (shown_by runs byte first n) end
  past_view t end past last = record {
    past = λ q h. (let w = is_here (here q) (is_due (status_at runs q)) (byte q) (subst IsSome (due_here q) h) in past q (from_here q w.0) w.1);
    last = λ some. (let w = last some in some_due t (end - 1) (omega (arith, w.0)) w.1);
  }

  -- an unacknowledged byte
  kept_byte : (s : Option Status) (x : ℕ) → IsSome (byte_by x s) → byte_by x s ≡ Some x
  kept_byte None x h = absurd cc
  kept_byte (Some s) x h = kept s.kept x h
    where
      kept : (k : Bool) (x : ℕ) → IsSome (if k then Some x else None) → (if k then Some x else None) ≡ Some x
      kept true x h = refl
      kept false x h = absurd cc

  pub record IsThere (q : ℕ) : Type 0 where
    pub from : first ≤ q
    pub before : q < first + n
    pub shown : fmap.get (table (byte_at runs byte) first n) q ≡ Some (byte q)
    pub status : IsSome (status_at runs q)

  has_any : (s : Option Status) (x : ℕ) → IsSome (byte_by x s) → IsSome s
  has_any None x h = absurd cc
  has_any (Some s) x h = refl

  pub there : (q : ℕ) → IsSome (fmap.get (table (byte_at runs byte) first n) q) → IsThere q
  there q h =
      let w = table-inside (byte_at runs byte) first n q h in
      record {
        from = w.from;
        before = w.before;
        shown = get-table_in (byte_at runs byte) first n q w.from w.before ∙ kept_byte (status_at runs q) (byte q) w.some;
        status = has_any (status_at runs q) (byte q) w.some;
      }

  due_there : (g u : Option ℕ) → IsSome (if is_some g then None else u) → IsSome u
  due_there None u h = h
  due_there (Some n) u h = absurd cc

  -- what a claim changes at one offset
  claim_byte : (b : Bool) (sequence x : ℕ) (s : Option Status) → byte_by x (if b then flown sequence s else s) ≡ byte_by x s
  claim_byte true sequence x None = refl
  claim_byte true sequence x (Some s) = refl
  claim_byte false sequence x s = refl

  claim_flight : (b c h : Bool) (sequence : ℕ) (s : Option Status) → c ≡ b → (b ≡ true → h ≡ true) → (b ≡ true → IsSome s)
      → cond h (flight_of (if b then flown sequence s else s)) None ≡ cond c (Some sequence) (cond h (flight_of s) None)
  claim_flight true c h sequence None e f g = absurd (let z = g refl in cc)
  claim_flight true c h sequence (Some s) e f g = ap (λ t. cond t (Some sequence) None) (f refl) ∙ ap (λ t. cond t (Some sequence) (cond h s.flight None)) (sym e)
  claim_flight false c h sequence s e f g = ap (λ t. cond t (Some sequence) (cond h (flight_of s) None)) (sym e)

  under : (b : Bool) (s t : Option Status) (f : Option Status → Option ℕ) → (b ≡ true → s ≡ t) → cond b (f s) None ≡ cond b (f t) None
  under true s t f h = ap f (h refl)
  under false s t f h = refl

  pub claimed_view : (rs : List Run) (sequence from to : ℕ) → from ≤ to → ((q : ℕ) → from ≤ q → q < to → IsSome (due_at (shown_by runs byte first n) q))
      → ((q : ℕ) → first ≤ q → status_at rs q ≡ claimed sequence from to q (status_at runs q))
      → shown_by rs byte first n ≡ after_claim sequence from (to - from) (shown_by runs byte first n)
  claimed_view rs sequence from to l due claims = same_sent _ _
      (table_is _ first n _ (λ q. under (here q) (status_at rs q) (claimed sequence from to q (status_at runs q)) (byte_by (byte q)) (λ h. claims q (from_here q h))
      ∙ ap (λ g. cond (here q) g None) (claim_byte (is_between from to q) sequence (byte q) (status_at runs q)) ∙ sym (bytes_here q)))
      (table_is _ first n _ (λ q. under (here q) (status_at rs q) (claimed sequence from to q (status_at runs q)) flight_of (λ h. claims q (from_here q h))
      ∙ claim_flight (is_between from to q) (is_between from (from + (to - from)) q) (here q) sequence (status_at runs q) (ap (λ e. is_between from e q) (let same : from + (to - from) ≡ to = omega arith in same))
      (λ b. let w = at q b in in_here q w.from w.before) (λ b. (at q b).status)
      ∙ ap (cond (is_between from (from + (to - from)) q) (Some sequence)) (sym (flying_here q))
      ∙ sym (get-put_same (to - from) (table (flight_at runs) first n) from sequence q)))
      refl
    where
      both : (a e q : ℕ) → is_between a e q ≡ true → (a ≤ q) × (q < e)
      both a e q h = (grind (arith, nat_tests), grind (arith, nat_tests))

      at : (q : ℕ) → is_between from to q ≡ true → IsThere q
      at q b = let w = both from to q b in there q (due_there (fmap.get (table (flight_at runs) first n) q) (fmap.get (table (byte_at runs byte) first n) q) (due q w.0 w.1))

-- the offsets that were there, and more of them
spread : (u v w : Option ℕ) (first n m q : ℕ) → (first ≤ q → q < first + n → u ≡ w) → (first + n ≤ q → q < first + n + m → u ≡ v)
    → cond (is_between first (first + (n + m)) q) u None ≡ cond (is_between (first + n) (first + n + m) q) v (cond (is_between first (first + n) q) w None)
spread u v w first n m q old new =
    elim (cases_lt q first) [
      | inl a ↦ grind (arith, nat_tests)
      | inr a ↦ elim (cases_lt q (first + n)) [
        | inl b ↦ (let e : u ≡ w = old a b in grind (arith, nat_tests))
        | inr b ↦ elim (cases_lt q (first + n + m)) [
          | inl c ↦ (let e : u ≡ v = new b c in grind (arith, nat_tests))
          | inr c ↦ grind (arith, nat_tests)
        ]
      ]
    ]

spread_none : (u w : Option ℕ) (first n m q : ℕ) → (first ≤ q → q < first + n → u ≡ w) → (first + n ≤ q → q < first + n + m → u ≡ None)
    → cond (is_between first (first + (n + m)) q) u None ≡ cond (is_between first (first + n) q) w None
spread_none u w first n m q old new =
    elim (cases_lt q first) [
      | inl a ↦ grind (arith, nat_tests)
      | inr a ↦ elim (cases_lt q (first + n)) [
        | inl b ↦ (let e : u ≡ w = old a b in grind (arith, nat_tests))
        | inr b ↦ elim (cases_lt q (first + n + m)) [
          | inl c ↦ (let e : u ≡ None = new b c in grind (arith, nat_tests))
          | inr c ↦ grind (arith, nat_tests)
        ]
      ]
    ]

stays : (s p : Option Status) → IsSome s → option_or s p ≡ s
stays None p h = absurd cc
stays (Some s) p h = refl

before : (q e : ℕ) → q < e → nat_lt q e ≡ true
before q e l = grind (arith, nat_tests)

-- a byte matters only if it is kept
same_byte : (s : Option Status) (x y : ℕ) → (is_kept s ≡ true → x ≡ y) → byte_by x s ≡ byte_by y s
same_byte None x y e = refl
same_byte (Some s) x y e = by_test s.kept e
  where
    by_test : (k : Bool) → (k ≡ true → x ≡ y) → (if k then Some x else None) ≡ (if k then Some y else None)
    by_test true e = ap (λ z. Some z) (e refl)
    by_test false e = refl

module _ (runs rs : List Run) (byte other : ℕ → ℕ) (more : List ℕ) (first n : ℕ) (tiled : IsTiled runs first n)
    (appends : (q : ℕ) → first ≤ q → status_at rs q ≡ option_or (status_at runs q) (if nat_lt q (first + n + length more) then Some (record { flight = None; kept = true }) else None))
    (stay : (q : ℕ) → q < first + n → is_kept (status_at runs q) ≡ true → other q ≡ byte q) (follow : (q : ℕ) → first + n ≤ q → q < first + n + length more → other q ≡ slice_index more (q - (first + n))) where
  as_before : (q : ℕ) → first ≤ q → q < first + n → status_at rs q ≡ status_at runs q
  as_before q l m = appends q l ∙ stays (status_at runs q) _ (tiled.inside q l m)

  now_due : (q : ℕ) → first + n ≤ q → q < first + n + length more → status_at rs q ≡ Some (record { flight = None; kept = true })
  now_due q l m = appends q (omega arith) ∙ ap (λ s. option_or s (if nat_lt q (first + n + length more) then Some (record { flight = None; kept = true }) else None)) (tiled.outside q l)
      ∙ ap (λ b. if b then Some (record { flight = None; kept = true }) else None) (before q (first + n + length more) m)

  pub accepted_view : shown_by rs other first (n + length more) ≡ after_accept more (shown_by runs byte first n)
  accepted_view = same_sent _ _
      (table_is _ first (n + length more) _ (λ q.
      spread (byte_at rs other q) (Some (slice_index more (q - (first + n)))) (byte_at runs byte q) first n (length more) q
      (λ l m. ap (byte_by (other q)) (as_before q l m) ∙ same_byte (status_at runs q) (other q) (byte q) (stay q m))
      (λ l m. ap (byte_by (other q)) (now_due q l m) ∙ ap (λ x. Some x) (follow q l m))
      ∙ ap (cond (is_between (first + n) (first + n + length more) q) (Some (slice_index more (q - (first + n))))) (sym (get-table (byte_at runs byte) first n q))
      ∙ sym (get-put_bytes more (table (byte_at runs byte) first n) (first + n) q)))
      (table_is _ first (n + length more) _ (λ q.
      spread_none (flight_at rs q) (flight_at runs q) first n (length more) q (λ l m. ap flight_of (as_before q l m)) (λ l m. ap flight_of (now_due q l m))
      ∙ sym (get-table (flight_at runs) first n q)))
      (omega arith)

-- other bytes at offsets that are not kept
pub same_bytes : (runs : List Run) (byte other : ℕ → ℕ) (first n : ℕ) → ((q : ℕ) → is_kept (status_at runs q) ≡ true → other q ≡ byte q) → shown_by runs other first n ≡ shown_by runs byte first n
same_bytes runs byte other first n same = same_sent _ _
    (table_is _ first n _ (λ q. ap (λ g. cond (is_between first (first + n) q) g None) (same_byte (status_at runs q) (other q) (byte q) (same q)) ∙ sym (get-table (byte_at runs byte) first n q)))
    refl
    refl

-- a byte that is unacknowledged is kept
pub kept_there : (runs : List Run) (byte : ℕ → ℕ) (first n q : ℕ) → IsSome (fmap.get (shown_by runs byte first n).unacked q) → (is_kept (status_at runs q) ≡ true) × (fmap.get (shown_by runs byte first n).unacked q ≡ Some (byte q))
kept_there runs byte first n q h = (is_some_kept (status_at runs q) (table-inside (byte_at runs byte) first n q h).some, (there runs byte first n q h).shown)
  where
    is_some_kept : (s : Option Status) → IsSome (byte_by (byte q) s) → is_kept s ≡ true
    is_some_kept None h = absurd cc
    is_some_kept (Some s) h = by_test s.kept h
      where
        by_test : (k : Bool) → IsSome (if k then Some (byte q) else None) → k ≡ true
        by_test true h = refl
        by_test false h = absurd cc

-- if no byte is kept, and if one is
gone : (b k : Bool) (x : ℕ) → (b ≡ true → k ≡ false) → cond b (if k then Some x else None) None ≡ None
gone true k x h = ap (λ c. if c then Some x else None) (h refl)
gone false k x h = refl

pub all_gone : (runs : List Run) (byte : ℕ → ℕ) (first n : ℕ) → ((q : ℕ) → first ≤ q → is_kept (status_at runs q) ≡ false) → (shown_by runs byte first n).unacked ≡ fmap.empty
all_gone runs byte first n h =
    table_is (byte_at runs byte) first n fmap.empty
    (λ q. gone (is_between first (first + n) q) (is_kept (status_at runs q)) (byte q) (λ e. h q (from_here runs byte first n q e)) ∙ sym (fmap.get-empty nat_cmp q))

kept_some : (k : Bool) (x : ℕ) → k ≡ true → (if k then Some x else None) ≡ None → ⊥
kept_some true x e f = cc
kept_some false x e f = cc

none_kept : (s : Option Status) → is_kept s ≡ true → s ≡ None → ⊥
none_kept None e f = cc
none_kept (Some s) e f = cc

pub some_kept : (runs : List Run) (byte : ℕ → ℕ) (first n : ℕ) → IsTiled runs first n → (q : ℕ) → first ≤ q → is_kept (status_at runs q) ≡ true → (shown_by runs byte first n).unacked ≡ fmap.empty → ⊥
some_kept runs byte first n t q l k e = elim (cases_lt q (first + n)) [
  | inl m ↦ kept_some (is_kept (status_at runs q)) (byte q) k
      (sym (get-table_in (byte_at runs byte) first n q l m) ∙ ap (λ n. fmap.get n q) e ∙ fmap.get-empty nat_cmp q)
  | inr m ↦ none_kept (status_at runs q) k (t.outside q m)
]
