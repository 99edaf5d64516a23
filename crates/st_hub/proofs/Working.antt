-- One more IV, and one more round of a worker.
use Rattle.std.proofs.Common.{◌≡◌, ℕ, ◌+◌, ℤ, Bool, true, false, List, [], ◌∷◌, ◌++◌, Some, None, refl, sym, subst, ap, ◌∙◌, ⊎_elim}
use Rattle.std.specs.Prelude.{Option, Result, flat_map}
use Rattle.std.proofs.lemmas.Bool.{false≢true}
use Rattle.std.proofs.lemmas.List.{map-append, append-nil, length-append}
use Rattle.std.proofs.lemmas.Grind.{flat_map-append}
use Rattle.st_links.specs.declared.link.LinkFault.{LinkFault}
use Rattle.st_end.specs.State.{EndState}
use Rattle.st_end.specs.Sending.{Goes, with_condition}
use Rattle.st_sender.specs.Stops.{blocked_at}
use Rattle.st_hub.specs.Begins.{Begins, Exchanged, FindsSome}
use Rattle.st_hub.specs.Causes.{Cause, cause_of}
use Rattle.st_hub.specs.Told.{Event, waits_of, fails_of}
use Rattle.st_hub.specs.Turns.{Sent}
use Rattle.st_hub.specs.Working.{Around, Sealed, Turned, Closes, Gave, WentAt, Went, iv_in, ivs_of, told_in, told_of, spare_ivs, Fills, Works, EndsBy, stopped, found}
use Rattle.st_hub.specs.declared.workers.WorkEnd.{WorkEnd}
use Rattle.st_hub.specs.declared.workers.WorkEnd.TheVariants as ends
use Rattle.st_hub.specs.declared.workers.Begun.{Begun}
use Rattle.st_hub.specs.declared.workers.Begun.TheVariants.{Sends, Idle, Ends}

gave_more : {I T : Type 0} (gives : I → T → I → Type 0) (a : I) (xs : List T) (m : I) (x : T) (b : I) → Gave gives a xs m → gives m x b → Gave gives a (xs ++ x ∷ []) b
gave_more gives a [] m x b g h = (b, subst (λ z. gives z x b) g h, refl)
gave_more gives a (y ∷ ys) m x b (n, first, rest) h = (n, first, gave_more gives n ys m x b rest h)

went_more : {L : Type 0} (exchanges : L → List ℕ → Result (List ℕ) LinkFault → L → Type 0) (a : L) (ts : List Turned) (m : L) (t : Turned) (b : L) → Went exchanges a ts m → WentAt exchanges m t.now t.sent b → Went exchanges a (ts ++ t ∷ []) b
went_more exchanges a [] m t b w h = (b, subst (λ z. WentAt exchanges z t.now t.sent b) w h, refl)
went_more exchanges a (u ∷ us) m t b (n, first, rest) h = (n, first, went_more exchanges n us m t b rest h)

gave_join : {I T : Type 0} (gives : I → T → I → Type 0) (a : I) (xs ys : List T) (m b : I) → Gave gives a xs m → Gave gives m ys b → Gave gives a (xs ++ ys) b
gave_join gives a [] ys m b g h = subst (λ z. Gave gives z ys b) g h
gave_join gives a (x ∷ xs) ys m b (n, first, rest) h = (n, first, gave_join gives n xs ys m b rest h)

-- the items of the earlier rounds with those of one more
each_more : {T : Type 0} (each : Turned → List T) (ts : List Turned) (t : Turned) → flat_map each (ts ++ t ∷ []) ≡ flat_map each ts ++ each t
each_more each ts t = flat_map-append each ts (t ∷ []) ∙ ap (λ zs. flat_map each ts ++ zs) (append-nil (each t))

ivs_more : (ts : List Turned) (t : Turned) → ivs_of (ts ++ t ∷ []) ≡ ivs_of ts ++ iv_in t.sent
ivs_more = each_more (λ (t : Turned). iv_in t.sent)

told_more : (ts : List Turned) (t : Turned) → told_of (ts ++ t ∷ []) ≡ told_of ts ++ told_in t.sent
told_more = each_more (λ (t : Turned). told_in t.sent)

-- whether a `Begun` ends the worker
abbrev is_end : {A : Type 0} → Begun A → Bool
is_end (Ends e) = true
is_end Idle = false
is_end (Sends t) = false

abbrev end_in : {A : Type 0} → Begun A → WorkEnd
end_in (Ends e) = e
end_in Idle = ends.Turns
end_in (Sends t) = ends.Turns

-- an end sealed the packet of this round at this time
abbrev SealedAs : (iv : List ℕ) → (now : ℤ) → Sent → Type 0
SealedAs iv now t = (a b : EndState) × Goes a iv now t.flight t.bytes b × (t.stops ≡ blocked_at b.sending.flights t.flight.sequence)

module _ {K A : Type 0} (reads : K → ℤ → K → Type 0) (c d : K) (spare_iv after : Option (List ℕ)) (stream : Option ℕ) where
  -- a round began: the packet, of which its link and its observer are not asked yet, is sealed under the spare IV
  pub begun_sends : (t : Sent) → Begins {K = K} {A = A} reads c spare_iv stream (Sends t) d after
      → (now : ℤ) × reads c now d × (iv : List ℕ) × (spare_iv ≡ Some iv) × SealedAs iv now t × (after ≡ None)
  begun_sends t h = ⊎_elim
      (λ (s : (Sends t ≡ Ends ends.Stopped) × (d ≡ c) × (after ≡ spare_iv)). absurd (false≢true (ap (is_end {A = A}) s.0)))
      (λ (f : (now : ℤ) × reads c now d × FindsSome {A = A} spare_iv stream now (Sends t) after).
      let does = f.2.2.finds.1 in
      (f.0, f.1, does.0, does.1, (f.2.2.pumped.flow.core, with_condition f.2.1.flow.core t.flight f.2.1.flow.core.sending, does.2.goes, does.4), does.3))
      h

  pub begun_idle : Begins {K = K} {A = A} reads c spare_iv stream Idle d after → (now : ℤ) × reads c now d × (after ≡ spare_iv)
  begun_idle h = ⊎_elim
      (λ (s : (Idle ≡ Ends ends.Stopped) × (d ≡ c) × (after ≡ spare_iv)). absurd (false≢true (ap (is_end {A = A}) s.0)))
      (λ (f : (now : ℤ) × reads c now d × FindsSome {A = A} spare_iv stream now Idle after). (f.0, f.1, f.2.2.finds.1.3))
      h

  pub begun_ends : {I L W : Type 0} (made most : ℕ) (ivs : I) (link : L) (watch : W) (end : WorkEnd) → Begins {K = K} {A = A} reads c spare_iv stream (Ends end) d after
      → EndsBy reads stream made most spare_iv (record { ivs = ivs; link = link; clock = c; watch = watch }) end (record { ivs = ivs; link = link; clock = d; watch = watch })
  begun_ends {I} {L} {W} made most ivs link watch end h = ⊎_elim
      (λ (s : (Ends end ≡ Ends ends.Stopped) × (d ≡ c) × (after ≡ spare_iv)).
      stopped (ap (end_in {A = A}) s.0) (ap (λ (x : K). let r : Around I L K W = record { ivs = ivs; link = link; clock = x; watch = watch } in r) s.1))
      (λ (f : (now : ℤ) × reads c now d × FindsSome {A = A} spare_iv stream now (Ends end) after). found f.0 f.2.2.pumped.flow.core f.1 f.2.2.finds.0 refl)
      h

-- the packet of this round, sealed: with what the link gave, and why it failed
abbrev packet_of : (iv : List ℕ) → Sent → Result (List ℕ) LinkFault → Option Cause → Sealed
packet_of iv t answer cause = record { iv = iv; flight = t.flight; bytes = t.bytes; stops = t.stops; answer = answer; cause = cause }

module _ {I L K W : Type 0} (gives : I → List ℕ → I → Type 0) (exchanges : L → List ℕ → Result (List ℕ) LinkFault → L → Type 0) (reads : K → ℤ → K → Type 0) (hears : W → Event → W → Type 0) (a : Around I L K W) where
  abbrev Worked : ℕ → Option (List ℕ) → I → L → K → W → Type 0
  Worked n spare_iv i l k w = Works gives exchanges reads hears a n spare_iv (record { ivs = i; link = l; clock = k; watch = w })

  pub works_none : Works gives exchanges reads hears a 0 None a
  works_none = record { turns = []; counted = refl; gave = refl; went = refl; read = refl; told = refl }

  -- the same with other names for the link and the observer
  pub works_at : (n : ℕ) (spare_iv : Option (List ℕ)) (i : I) (l m : L) (k : K) (v z : W) → m ≡ l → z ≡ v → Worked n spare_iv i l k v → Worked n spare_iv i m k z
  works_at n spare_iv i l m k v z link watch w = subst (λ (x : L). Worked n spare_iv i x k z) (sym link) (subst (λ (x : W). Worked n spare_iv i l k x) (sym watch) w)

  -- an IV more
  works_take : (n : ℕ) (i j : I) (l : L) (k : K) (v : W) (iv : List ℕ) → Worked n None i l k v → gives i iv j → Worked n (Some iv) j l k v
  works_take n i j l k v iv w h =
      let ivs = ivs_of w.turns in
      record { turns = w.turns; counted = w.counted; gave = gave_more gives a.ivs ivs i iv j (subst (λ (xs : List (List ℕ)). Gave gives a.ivs xs i) (append-nil ivs) w.gave) h; went = w.went; read = w.read; told = w.told }

  pub works_fill : (n : ℕ) (i j : I) (l : L) (k : K) (v : W) (spare_iv after : Option (List ℕ)) → Worked n spare_iv i l k v → Fills gives i spare_iv j after → Worked n after j l k v
  works_fill n i j l k v spare_iv after w (iv, has, way) =
      subst (λ (h : Option (List ℕ)). Worked n h j l k v) (sym has) (⊎_elim
      (λ (kept : (spare_iv ≡ Some iv) × (j ≡ i)). subst (λ (x : I). Worked n (Some iv) x l k v) (sym kept.1) (subst (λ (h : Option (List ℕ)). Worked n h i l k v) kept.0 w))
      (λ (took : (spare_iv ≡ None) × gives i iv j). works_take n i j l k v iv (subst (λ (h : Option (List ℕ)). Worked n h i l k v) took.0 w) took.1)
      way)

  -- one more round, in which a packet was sent
  works_send : (n : ℕ) (i : I) (l m : L) (k d : K) (v z : W) (now : ℤ) (x : Sealed) → Worked n (Some x.iv) i l k v → WentAt exchanges l now (Some x) m → reads k now d → Gave hears v (told_in (Some x)) z → Worked (n + 1) None i m d z
  works_send n i l m k d v z now x w s r g =
      let t : Turned = record { now = now; sent = Some x } in
      let same : ivs_of w.turns ++ x.iv ∷ [] ≡ ivs_of (w.turns ++ t ∷ []) ++ [] = sym (append-nil _ ∙ ivs_more w.turns t) in
      record {
        turns = w.turns ++ t ∷ [];
        counted = length-append w.turns (t ∷ []) ∙ ap (λ z. z + 1) w.counted;
        gave = subst (λ (xs : List (List ℕ)). Gave gives a.ivs xs i) same w.gave;
        went = went_more exchanges a.link w.turns l t m w.went s;
        read = subst (λ (xs : List ℤ). Gave reads a.clock xs d) (sym (map-append (λ (u : Turned). u.now) w.turns (t ∷ []))) (gave_more reads a.clock _ k now d w.read r);
        told = subst (λ (xs : List Event). Gave hears a.watch xs z) (sym (told_more w.turns t)) (gave_join hears a.watch _ _ v z w.told g);
      }

  -- one more round, in which no packet was sent
  pub works_keep : (n : ℕ) (i : I) (l : L) (k d : K) (v : W) (spare_iv after : Option (List ℕ)) → Worked n spare_iv i l k v
      → ((now : ℤ) × reads k now d × (after ≡ spare_iv)) → Worked (n + 1) after i l d v
  works_keep n i l k d v spare_iv after w (now, r, same) =
      let t : Turned = record { now = now; sent = None } in
      let ivs : ivs_of (w.turns ++ t ∷ []) ≡ ivs_of w.turns = ivs_more w.turns t ∙ append-nil _ in
      let told : told_of (w.turns ++ t ∷ []) ≡ told_of w.turns = told_more w.turns t ∙ append-nil _ in
      subst (λ (h : Option (List ℕ)). Worked (n + 1) h i l d v) (sym same) (record {
        turns = w.turns ++ t ∷ [];
        counted = length-append w.turns (t ∷ []) ∙ ap (λ z. z + 1) w.counted;
        gave = subst (λ (xs : List (List ℕ)). Gave gives a.ivs (xs ++ spare_ivs spare_iv) i) (sym ivs) w.gave;
        went = went_more exchanges a.link w.turns l t l w.went refl;
        read = subst (λ (xs : List ℤ). Gave reads a.clock xs d) (sym (map-append (λ (u : Turned). u.now) w.turns (t ∷ []))) (gave_more reads a.clock _ k now d w.read r);
        told = subst (λ (xs : List Event). Gave hears a.watch xs v) (sym told) w.told;
      })

  -- the packet of a round was exchanged and closed, and this was reported to the observer
  pub works_use : (n : ℕ) (i : I) (l m : L) (k d : K) (v u z : W) (spare_iv after : Option (List ℕ)) (t : Sent) (outcome : Option (List ℕ)) (cause : Option Cause) → Worked n spare_iv i l k v
      → ((now : ℤ) × reads k now d × (iv : List ℕ) × (spare_iv ≡ Some iv) × SealedAs iv now t × (after ≡ None))
      → Exchanged exchanges l t.bytes outcome m
      → ((e : EndState) × (cause ≡ cause_of e t.flight outcome))
      → Gave hears v (waits_of t.stops) u → Gave hears u (fails_of cause) z
      → Worked (n + 1) after i m d z
  works_use n i l m k d v u z spare_iv after t outcome cause w (now, r, iv, has, seals, spent) (answer, over, seen) (e, is) waits fails =
      let x = packet_of iv t answer cause in
      let closes : Closes x = (e, is ∙ ap (cause_of e t.flight) seen) in
      subst (λ (h : Option (List ℕ)). Worked (n + 1) h i m d z) (sym spent)
      (works_send n i l m k d v z now x (subst (λ (h : Option (List ℕ)). Worked n h i l k v) has w) (seals, over, closes) r (gave_join hears v _ _ u z waits fails))
