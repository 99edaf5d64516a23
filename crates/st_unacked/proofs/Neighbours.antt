-- Neighbouring runs: what keeps them apart, how they are joined, and what lies in front of them.
use Rattle.std.proofs.Common.{◌≡◌, ◌≢◌, ℕ, zero, suc, ◌+◌, ◌-◌, ◌^◌, ◌<◌, ◌≤◌, Bool, true, false, cond, ◌&&◌, eqb, List, [], ◌∷◌, ◌++◌, length, map, take, drop, set, get_or, Option, Some, None, IsSome, refl, ap, ◌∙◌, sym, subst, arith}
use Rattle.std.specs.Prelude.{nat_lt, if◌then◌else◌}
use Rattle.std.specs.Option.{option_or, option_eq}
use mathlib.Core.Bool.{beq}
use Rattle.std.proofs.lemmas.Bool.Decides.{nat_tests}
use Rattle.std.proofs.lemmas.List.{take_more_set}
use Rattle.std.proofs.Math.Seq.{take-set-lt, get_or-take, length-take-le}
use Rattle.st_streams.specs.Table.{is_between, table}
use Rattle.st_unacked.specs.declared.run.Run.{Run}
use Rattle.st_unacked.specs.declared.run.Status.{Status}
use Rattle.st_unacked.specs.Sent.{is_by}
use Rattle.st_unacked.specs.Runs.{status_at, flight_of, is_kept, shown_by, IsTiled, flown, claimed, Differs, Parted, acknowledged_run, failed_run, dropped_run, Rise, end_of, HasMore}
use Rattle.st_unacked.proofs.Steps.{no_more, appended, lengthened}
use Rattle.st_unacked.proofs.Views.{run_end}

-- statuses whose test for equality fails
alike : (f : Option ℕ) (k : Bool) → (option_eq eqb f f && beq k k) ≡ true
alike None true = refl
alike None false = refl
alike (Some n) true = grind (arith, nat_tests)
alike (Some n) false = grind (arith, nat_tests)

pub not_alike : (s t : Status) → false ≡ (option_eq eqb s.flight t.flight && beq s.kept t.kept) → s ≢ t
not_alike s t h e = absurd (let z : false ≡ true = h ∙ subst (λ (x : Status). (option_eq eqb s.flight x.flight && beq s.kept x.kept) ≡ true) e (alike s.flight s.kept) in cc)

-- ---- no run is empty

pub parted_rise : (first : ℕ) (rs : List Run) → Parted first rs → Rise first rs
parted_rise first [] h = h
parted_rise first (r ∷ rs) h = (h.0, parted_rise r.end rs h.2)

pub rise_map : (f : Run → Run) → ((r : Run) → (f r).end ≡ r.end) → (first : ℕ) (rs : List Run) → Rise first rs → Rise first (map f rs)
rise_map f e first [] h = h
rise_map f e first (r ∷ rs) h = (subst (λ n. first < n) (sym (e r)) h.0, subst (λ n. Rise n (map f rs)) (sym (e r)) (rise_map f e r.end rs h.1))

pub rise_acked : (sequence first : ℕ) (rs : List Run) → Parted first rs → Rise first (map (acknowledged_run sequence) rs)
rise_acked sequence first rs h = rise_map (acknowledged_run sequence) (λ r. run_end (is_by sequence r.status.flight) r _) first rs (parted_rise first rs h)

pub rise_freed : (sequence first : ℕ) (rs : List Run) → Parted first rs → Rise first (map (failed_run sequence) rs)
rise_freed sequence first rs h = rise_map (failed_run sequence) (λ r. run_end (is_by sequence r.status.flight) r _) first rs (parted_rise first rs h)

pub rise_dropped : (first : ℕ) (rs : List Run) → Parted first rs → Rise first (map dropped_run rs)
rise_dropped first rs h = rise_map dropped_run (λ r. refl) first rs (parted_rise first rs h)

-- ---- the end of the last run

pub end_last : (first : ℕ) (rs : List Run) (n : ℕ) (d : Run) → length rs ≡ suc n → end_of first rs ≡ (get_or rs n d).end
end_last first [] n d l = absurd cc
end_last first (x ∷ rs) zero d l = ap (end_of x.end) (no_more rs (omega arith))
end_last first (x ∷ rs) (suc n) d l = end_last x.end rs n d (omega arith)

end_more : (first : ℕ) (rs : List Run) (r : Run) → end_of first (rs ++ r ∷ []) ≡ r.end
end_more first [] r = refl
end_more first (x ∷ rs) r = end_more x.end rs r

end_set : (first : ℕ) (rs : List Run) (n : ℕ) (r : Run) → length rs ≡ suc n → end_of first (set rs n r) ≡ r.end
end_set first [] n r l = absurd cc
end_set first (x ∷ rs) zero r l = ap (end_of r.end) (no_more rs (omega arith))
end_set first (x ∷ rs) (suc n) r l = end_set x.end rs n r (omega arith)

-- ---- one more run, of another status or of the same

pub parted_more : (first : ℕ) (rs : List Run) (n : ℕ) (d r : Run) → length rs ≡ suc n → (get_or rs n d).status ≢ r.status → (get_or rs n d).end < r.end → Parted first rs → Parted first (rs ++ r ∷ [])
parted_more first [] n d r l o m h = absurd cc
parted_more first (x ∷ []) zero d r l o m h = (h.0, o, (m, tt, tt))
parted_more first (x ∷ []) (suc n) d r l o m h = absurd (omega arith)
parted_more first (x ∷ y ∷ rs) zero d r l o m h = absurd (omega arith)
parted_more first (x ∷ y ∷ rs) (suc n) d r l o m h = (h.0, h.1, parted_more x.end (y ∷ rs) n d r (omega arith) o m h.2)

still : (s : Status) (rs : List Run) (n : ℕ) (d r : Run) → n < length rs → (get_or rs n d).status ≡ r.status → Differs s rs → Differs s (set rs n r)
still s [] n d r l e h = h
still s (y ∷ rs) zero d r l e h = subst (λ t. s ≢ t) e h
still s (y ∷ rs) (suc n) d r l e h = h

pub parted_longer : (first : ℕ) (rs : List Run) (n : ℕ) (d r : Run) → length rs ≡ suc n → (get_or rs n d).status ≡ r.status → (get_or rs n d).end ≤ r.end → Parted first rs → Parted first (set rs n r)
parted_longer first [] n d r l e m h = absurd cc
parted_longer first (x ∷ []) zero d r l e m h = (omega (arith, h.0, m), tt, tt)
parted_longer first (x ∷ []) (suc n) d r l e m h = absurd (omega arith)
parted_longer first (x ∷ y ∷ rs) zero d r l e m h = absurd (omega arith)
parted_longer first (x ∷ y ∷ rs) (suc n) d r l e m h = (h.0, still x.status (y ∷ rs) n d r (omega arith) e h.1, parted_longer x.end (y ∷ rs) n d r (omega arith) e m h.2)

-- ---- a run that is put after the first `count` runs

module _ (first : ℕ) (rs : List Run) (count n : ℕ) (d r : Run) (some : count ≡ suc n) (within : count ≤ length rs) (parted : Parted first (take count rs)) (further : end_of first (take count rs) < r.end) where
  counts : length (take count rs) ≡ suc n
  counts = length-take-le count rs within ∙ some

  at : get_or (take count rs) n d ≡ get_or rs n d
  at = get_or-take count rs n d (omega (arith, some))

  beyond : (get_or (take count rs) n d).end < r.end
  beyond = subst (λ e. e < r.end) (end_last first (take count rs) n d counts) further

  pub put_more : count < length rs → (get_or rs n d).status ≢ r.status → HasMore first (take count rs) r (take (count + 1) (set rs count r))
  put_more l o = subst (HasMore first (take count rs) r) (sym (take_more_set rs count r l)) (record {
    parted = parted_more first (take count rs) n d r counts (λ e. o (ap (λ (x : Run). x.status) (sym at) ∙ e)) beyond parted;
    ends = end_more first (take count rs) r;
    status = appended (take count rs) r;
  })

  pub put_same : (get_or rs n d).status ≡ r.status → HasMore first (take count rs) r (take count (set rs n r))
  put_same e =
      let same : (get_or (take count rs) n d).status ≡ r.status = ap (λ (x : Run). x.status) at ∙ e in
      let most : (get_or (take count rs) n d).end ≤ r.end = omega (arith, beyond) in
      subst (HasMore first (take count rs) r) (sym (take-set-lt count rs n r (omega (arith, some)))) (record {
        parted = parted_longer first (take count rs) n d r counts same most parted;
        ends = end_set first (take count rs) n r counts;
        status = λ q. lengthened (take count rs) n d r.end r.status q counts same most;
      })

-- ---- the runs so far, and those that are left

pub record Joining (first : ℕ) (rs ts : List Run) (count i : ℕ) : Type 0 where
  pub parted : Parted first (take count ts)
  pub rise : Rise (end_of first (take count ts)) (drop i ts)
  pub same : (q : ℕ) → option_or (status_at (take count ts) q) (status_at (drop i ts) q) ≡ status_at rs q

and_then : (g t : Option Status) (b : Bool) (s : Status) → option_or (option_or g (cond b (Some s) None)) t ≡ option_or g (cond b (Some s) t)
and_then None t true s = refl
and_then None t false s = refl
and_then (Some x) t b s = refl

or_none : (g : Option Status) → option_or g None ≡ g
or_none None = refl
or_none (Some s) = refl

-- ---- what says the same

pub same_view : (rs ts : List Run) (byte : ℕ → ℕ) (first n : ℕ) → ((q : ℕ) → status_at ts q ≡ status_at rs q) → shown_by ts byte first n ≡ shown_by rs byte first n
same_view rs ts byte first n same = λ i. record {
  unacked = table (λ q. if is_kept (same q i) then Some (byte q) else None) first n;
  flying = table (λ q. flight_of (same q i)) first n;
  accepted = first + n;
}

pub same_tiled : (rs ts : List Run) (first n : ℕ) → ((q : ℕ) → status_at ts q ≡ status_at rs q) → IsTiled rs first n → IsTiled ts first n
same_tiled rs ts first n same t = record {
  inside = λ q l m. subst IsSome (sym (same q)) (t.inside q l m);
  outside = λ q l. same q ∙ t.outside q l;
  fits = t.fits;
}

not_below : (q e : ℕ) → e ≤ q → nat_lt q e ≡ false
not_below q e l = grind (arith, nat_tests)

below : (q e : ℕ) → q < e → nat_lt q e ≡ true
below q e l = grind (arith, nat_tests)

-- ---- a claim

claimed_some : (b : Bool) (sequence : ℕ) (s : Option Status) → IsSome s → IsSome (if b then flown sequence s else s)
claimed_some true sequence None h = absurd cc
claimed_some true sequence (Some s) h = refl
claimed_some false sequence s h = h

claimed_none : (b : Bool) (sequence : ℕ) (s : Option Status) → s ≡ None → (if b then flown sequence s else s) ≡ None
claimed_none true sequence None h = refl
claimed_none true sequence (Some s) h = absurd cc
claimed_none false sequence s h = h

pub tiled_claimed : (rs ts : List Run) (first n sequence from to : ℕ) → ((q : ℕ) → first ≤ q → status_at ts q ≡ claimed sequence from to q (status_at rs q)) → IsTiled rs first n → IsTiled ts first n
tiled_claimed rs ts first n sequence from to claims t = record {
  inside = λ q l m. subst IsSome (sym (claims q l)) (claimed_some (is_between from to q) sequence (status_at rs q) (t.inside q l m));
  outside = λ q l. claims q (omega arith) ∙ claimed_none (is_between from to q) sequence (status_at rs q) (t.outside q l);
  fits = t.fits;
}

claimed_kept : (b : Bool) (sequence : ℕ) (s : Option Status) → is_kept (if b then flown sequence s else s) ≡ is_kept s
claimed_kept true sequence None = refl
claimed_kept true sequence (Some s) = refl
claimed_kept false sequence s = refl

pub kept_claimed : (rs ts : List Run) (sequence from to : ℕ) → ((q : ℕ) → 0 ≤ q → status_at ts q ≡ claimed sequence from to q (status_at rs q)) → (q : ℕ) → is_kept (status_at ts q) ≡ is_kept (status_at rs q)
kept_claimed rs ts sequence from to claims q = ap is_kept (claims q (omega arith)) ∙ claimed_kept (is_between from to q) sequence (status_at rs q)

-- ---- more bytes

pub tiled_accepted : (rs ts : List Run) (first n m : ℕ) → first + n + m < 2 ^ 64
    → ((q : ℕ) → first ≤ q → status_at ts q ≡ option_or (status_at rs q) (if nat_lt q (first + n + m) then Some (record { flight = None; kept = true }) else None)) → IsTiled rs first n → IsTiled ts first (n + m)
tiled_accepted rs ts first n m fits appends t = record {
  inside = λ q l k. subst IsSome (sym (appends q l ∙ ap (λ b. option_or (status_at rs q) (if b then Some (record { flight = None; kept = true }) else None)) (below q (first + n + m) (omega arith)))) (either (status_at rs q));
  outside = λ q l. appends q (omega arith) ∙ ap (λ b. option_or (status_at rs q) (if b then Some (record { flight = None; kept = true }) else None)) (not_below q (first + n + m) (omega arith))
      ∙ or_none (status_at rs q) ∙ t.outside q (omega arith);
  fits = omega (arith, fits);
}
  where
    either : (s : Option Status) → IsSome (option_or s (Some (record { flight = None; kept = true })))
    either None = refl
    either (Some s) = refl
