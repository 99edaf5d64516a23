-- What a model shows, against the window that holds the bytes.
use Rattle.std.proofs.Common.{◌≡◌, ℕ, ◌+◌, ◌-◌, ◌<◌, ◌≤◌, ◌⊎◌, Bool, true, false, cond, ◌&&◌, List, length, take, max, min, Option, Some, None, IsSome, refl, ap, ◌∙◌, sym, subst, arith, inl, inr}
use Rattle.std.specs.Prelude.{if◌then◌else◌, nat_le, nat_lt, slice_index, is_none, is_some, not, [], ◌∷◌, ◌||◌}
use Rattle.std.specs.Option.{option_or, unwrap_or}
use Rattle.std.specs.FinMap as map
use Rattle.std.specs.Ordering.{nat_cmp}
use Rattle.std.proofs.lemmas.Bool.{cases_lt}
use Rattle.std.proofs.lemmas.Bool.Decides.{nat_tests}
use Rattle.st_reassembly.specs.Held.{Held, is_before, is_over, is_wanted, with_byte, after_insert, after_read}
use Rattle.st_streams.specs.Table.{is_between, table}
use Rattle.st_reassembly.specs.Ring.{byte_at, cell, IsSound}
use Rattle.st_reassembly.specs.Run.{run, past}
use Rattle.st_reassembly.specs.Closing.{past_all, after_finish, after_abort, is_at_end, is_spent}
use Rattle.st_reassembly.proofs.Pointwise.{piece_at-byte_at, joins_is, reads_is}
use Rattle.st_reassembly.proofs.Runs.{length-run, take-run, held_below, past-within}
use Rattle.st_streams.proofs.Tables.{get-table, get-table_in, table-empty, table-inside, table_is}

-- the model's value over what the window has at each offset, and the other fields
abbrev pub shown_by : (ℕ → Option ℕ) → ℕ → Option ℕ → Option ℕ → Held
shown_by f read end aborted = record { bytes = table f read 65536; read = read; end = end; aborted = aborted }

-- the end that a model shows
abbrev pub end_shown : Bool → ℕ → Option ℕ
end_shown finished top = if finished then Some top else None

-- what the body keeps, by offset
pub record IsKept (f : ℕ → Option ℕ) (read top : ℕ) : Type 0 where
  pub from : read ≤ top
  pub near : top ≤ read + 65536
  pub below : (q : ℕ) → read ≤ q → q < read + 65536 → IsSome (f q) → q < top
  pub least : read < top → IsSome (f (top - 1))

-- one offset that a chunk joins
joins_at : (old new : Option ℕ) (b lt : Bool) (read o n q v : ℕ)
    → (read ≤ q → q < read + 65536 → new ≡ option_or old (cond lt (cond (is_between o (o + n) q) (Some v) None) None))
    → (q < o + n → lt ≡ b)
    → (read + 65536 ≤ q → b ≡ true → o + n ≤ q)
    → cond (is_between read (read + 65536) q) new None ≡ option_or (cond (is_between read (read + 65536) q) old None) (cond (nat_le read q && (b && true)) (cond (is_between o (o + n) q) (Some v) None) None)
joins_at None new true lt read o n q v h same past = grind (arith, nat_tests)
joins_at None new false lt read o n q v h same past = grind (arith, nat_tests)
joins_at (Some x) new true lt read o n q v h same past = grind (arith, nat_tests)
joins_at (Some x) new false lt read o n q v h same past = grind (arith, nat_tests)

same_bound : (finished : Bool) (top last q : ℕ) → q < last → nat_lt q (unwrap_or (end_shown finished top) last) ≡ is_before q (end_shown finished top)
same_bound true top last q l = refl
same_bound false top last q l = grind (arith, nat_tests)

far_off : (finished : Bool) (read top last q : ℕ) → top ≤ read + 65536 → (finished ≡ false → last ≤ read + 65536) → read + 65536 ≤ q → is_before q (end_shown finished top) ≡ true → last ≤ q
far_off true read top last q near few l b = absurd (grind (arith, nat_tests))
far_off false read top last q near few l b = let p : last ≤ read + 65536 = few refl in omega arith

module _ (f g : ℕ → Option ℕ) (finished : Bool) (read top offset : ℕ) (xs : List ℕ) (near : top ≤ read + 65536) (few : finished ≡ false → offset + length xs ≤ read + 65536)
    (joins : (q : ℕ) → read ≤ q → q < read + 65536 → g q ≡ option_or (f q) (if nat_lt q (unwrap_or (end_shown finished top) (offset + length xs)) then byte_at offset xs q else None)) where
  -- the end of what joins
  abbrev last : ℕ
  last = min (unwrap_or (end_shown finished top) (offset + length xs)) (offset + length xs)

  pub inserted_view : shown_by g read (end_shown finished top) None ≡ after_insert offset xs (shown_by f read (end_shown finished top) None)
  inserted_view =
      (joins_is offset xs (shown_by f read (end_shown finished top) None) (shown_by g read (end_shown finished top) None)).0 (record {
        bytes = λ q. get-table g read 65536 q
            ∙ joins_at (f q) (g q) (is_before q (end_shown finished top)) (nat_lt q (unwrap_or (end_shown finished top) (offset + length xs))) read offset (length xs) q (slice_index xs (q - offset))
            (joins q) (same_bound finished top (offset + length xs) q) (far_off finished read top (offset + length xs) q near few)
            ∙ ap (λ b. option_or b (cond (nat_le read q && (is_before q (end_shown finished top) && true)) (byte_at offset xs q) None)) (sym (get-table f read 65536 q))
            ∙ ap (λ p. option_or (map.get (table f read 65536) q) (cond (nat_le read q && (is_before q (end_shown finished top) && true)) p None)) (sym (piece_at-byte_at offset xs q));
        read = refl;
        end = refl;
        aborted = refl;
      })

out : (b : Option ℕ) (read : ℕ) → cond (is_between read (read + 65536) (read + 65536)) b None ≡ None
out b read = grind (arith, nat_tests)

either : (b : Bool) (o : Option ℕ) → o ≡ None → cond b o None ≡ None
either true o e = e
either false o e = refl

none_past : (f : ℕ → Option ℕ) (read n : ℕ) → (n ≡ 65536) ⊎ (f (read + n) ≡ None) → map.get (table f read 65536) (read + n) ≡ None
none_past f read n ends = get-table f read 65536 (read + n) ∙ elim ends [
  | inl e ↦ subst (λ m. cond (is_between read (read + 65536) (read + m)) (f (read + m)) None ≡ None) (sym e) (out (f (read + 65536)) read)
  | inr e ↦ either (is_between read (read + 65536) (read + n)) (f (read + n)) e
]

pub length_view : (f : ℕ → Option ℕ) (read n : ℕ) (end aborted : Option ℕ) → n ≤ 65536 → ((k : ℕ) → k < n → IsSome (f (read + k))) → (n ≡ 65536) ⊎ (f (read + n) ≡ None) → n ≡ length (run (shown_by f read end aborted))
length_view f read n end aborted few held ends =
    length-run (shown_by f read end aborted) n
    (λ k l. subst IsSome (sym (get-table_in f read 65536 (read + k) (omega arith) (omega arith))) (held k l)) (none_past f read n ends)

-- an offset after the first n bytes were read
left_at : (old new : Option ℕ) (read n q : ℕ) → n ≤ 65536
    → (read + n ≤ q → q < read + n + 65536 → new ≡ cond (nat_lt q (read + 65536)) old None)
    → cond (is_between (read + n) (read + n + 65536) q) new None ≡ cond (nat_le (read + n) q) (cond (is_between read (read + 65536) q) old None) None
left_at None new read n q few kept = grind (arith, nat_tests)
left_at (Some x) new read n q few kept = grind (arith, nat_tests)

still : (old new : Option ℕ) (read n q : ℕ) → read + n ≤ q → q < read + n + 65536
    → (read + n ≤ q → q < read + n + 65536 → new ≡ cond (nat_lt q (read + 65536)) old None)
    → IsSome new → (q < read + 65536) × IsSome old
still None new read n q l h kept is = absurd (grind (arith, nat_tests))
still (Some x) new read n q l h kept is = (grind (arith, nat_tests), refl)

-- bytes that are buffered in a row lie below the top
pub reached : (f : ℕ → Option ℕ) (read top n : ℕ) → IsKept f read top → n ≤ 65536 → ((k : ℕ) → k < n → IsSome (f (read + k))) → read + n ≤ top
reached f read top n kept small held =
    let from : read ≤ top = kept.from in
    elim (cases_lt 0 n) [
      | inl l ↦ (let last : read + (n - 1) < top = kept.below (read + (n - 1)) (omega arith) (omega arith) (held (n - 1) (omega arith)) in omega arith)
      | inr l ↦ omega arith
    ]

module _ (f g : ℕ → Option ℕ) (read n : ℕ) (few : n ≤ 65536) (left : (q : ℕ) → read + n ≤ q → q < read + n + 65536 → g q ≡ (if nat_lt q (read + 65536) then f q else None)) where
  pub left_view : (end aborted : Option ℕ) → shown_by g (read + n) end aborted ≡ after_read n (shown_by f read end aborted)
  left_view end aborted =
      (reads_is n (shown_by f read end aborted) (shown_by g (read + n) end aborted)).0 (record {
        bytes = λ q. get-table g (read + n) 65536 q ∙ left_at (f q) (g q) read n q few (left q) ∙ ap (λ b. cond (nat_le (read + n) q) b None) (sym (get-table f read 65536 q));
        read = refl;
        end = refl;
        aborted = refl;
      })

  pub kept_after_read : (top : ℕ) → IsKept f read top → ((k : ℕ) → k < n → IsSome (f (read + k))) → IsKept g (read + n) top
  kept_after_read top kept held = record {
    from = reached f read top n kept few held;
    near = let l : top ≤ read + 65536 = kept.near in omega arith;
    below = λ q l h is. let was = still (f q) (g q) read n q l h (left q) is in kept.below q (omega arith) was.0 was.1;
    least = λ l. let near : top ≤ read + 65536 = kept.near in subst IsSome (sym (left (top - 1) (omega arith) (omega arith) ∙ inside (f (top - 1)) (top - 1) (read + 65536) (omega arith))) (kept.least (omega arith));
  }
    where
      inside : (b : Option ℕ) (q e : ℕ) → q < e → cond (nat_lt q e) b None ≡ b
      inside b q e l = grind (arith, nat_tests)

pub taken_view : (f : ℕ → Option ℕ) (read most r : ℕ) (end aborted : Option ℕ) (xs : List ℕ) → r ≤ 65536 → length xs ≡ min r most
    → ((k : ℕ) → k < r → IsSome (f (read + k))) → ((k : ℕ) → k < length xs → f (read + k) ≡ Some (slice_index xs k))
    → (r ≡ 65536) ⊎ (f (read + r) ≡ None) → xs ≡ take most (run (shown_by f read end aborted))
taken_view f read most r end aborted xs few len held drawn ends =
    take-run (shown_by f read end aborted) most xs
    (λ k l. get-table_in f read 65536 (read + k) (omega arith) (omega arith) ∙ drawn k l) (omega arith)
    (λ l. none_at (length xs) (omega arith))
  where
    rest : r ≡ length (run (shown_by f read end aborted))
    rest = length_view f read r end aborted few held ends

    none_at : (n : ℕ) → n ≡ r → map.get (table f read 65536) (read + n) ≡ None
    none_at n e = subst (λ m. map.get (table f read 65536) (read + m) ≡ None) (sym e) (none_past f read r ends)

-- the least offset past every byte
pub top_is : (f : ℕ → Option ℕ) (read top : ℕ) (end aborted : Option ℕ) → IsKept f read top → max read (past (map.keys (table f read 65536))) ≡ top
top_is f read top end aborted kept =
    let few : past (map.keys (table f read 65536)) ≤ top = past-within (shown_by f read end aborted) top (λ q h. let w = table-inside f read 65536 q h in kept.below q w.from w.before w.some) in
    let from : read ≤ top = kept.from in
    let near : top ≤ read + 65536 = kept.near in
    elim (cases_lt read top) [
      | inl l ↦ (let last : top - 1 < past (map.keys (table f read 65536)) = held_below (shown_by f read end aborted) (top - 1) (subst IsSome (sym (get-table_in f read 65536 (top - 1) (omega arith) (omega arith))) (kept.least l)) in omega arith)
      | inr l ↦ omega arith
    ]

pub drawn_at : (m : Bool) (x y : ℕ) → IsSome (if m then Some x else None) → y ≡ x → (if m then Some x else None) ≡ Some y
drawn_at true x y h e = ap (λ n. Some n) (sym e)
drawn_at false x y h e = absurd cc

-- the whole effect of an insert that is not refused, if nothing was aborted
same_end : (finished : Bool) (top past : ℕ) → (finished ≡ true → past ≤ top) → end_shown finished (max top past) ≡ end_shown finished top
same_end true top past h = let l : past ≤ top = h refl in ap (λ n. Some n) (let e : max top past ≡ top = omega arith in e)
same_end false top past h = refl

past_within : (finished b : Bool) (top last past : ℕ) → past ≡ (if b then min (unwrap_or (end_shown finished top) last) last else 0) → finished ≡ true → past ≤ top
past_within true true top last past e f = omega arith
past_within true false top last past e f = omega arith
past_within false b top last past e f = absurd cc

few_past : (finished : Bool) (read top last : ℕ) → (not (is_some (end_shown finished top) || false) && nat_lt (read + 65536) last) ≡ false → finished ≡ false → last ≤ read + 65536
few_past true read top last e f = absurd cc
few_past false read top last e f = grind (arith, nat_tests)

pub inserted_held : (s : Held) (f g : ℕ → Option ℕ) (finished b : Bool) (read top offset high past : ℕ) (aborted : Option ℕ) (xs : List ℕ)
    → shown_by f read (end_shown finished top) aborted ≡ s → is_some aborted ≡ false → top ≤ read + 65536
    → (not (is_over s) && nat_lt (s.read + 65536) (offset + length xs)) ≡ false
    → high ≡ unwrap_or s.end (offset + length xs)
    → ((q : ℕ) → read ≤ q → q < read + 65536 → g q ≡ option_or (f q) (if nat_lt q high then byte_at offset xs q else None))
    → past ≡ (if b then min high (offset + length xs) else 0)
    → shown_by g read (end_shown finished (max top past)) aborted ≡ after_insert offset xs s
inserted_held s f g finished b read top offset high past (Some code) xs view on near few bound joins is_past = absurd cc
inserted_held s f g finished b read top offset high past None xs view on near few bound joins is_past =
    let high_is : high ≡ unwrap_or (end_shown finished top) (offset + length xs) = bound ∙ ap (λ (t : Held). unwrap_or t.end (offset + length xs)) (sym view) in
    let close : finished ≡ false → offset + length xs ≤ read + 65536 =
    few_past finished read top (offset + length xs) (subst (λ (t : Held). (not (is_over t) && nat_lt (t.read + 65536) (offset + length xs)) ≡ false) (sym view) few) in
    let low : finished ≡ true → past ≤ top = past_within finished b top (offset + length xs) past (is_past ∙ ap (λ h. if b then min h (offset + length xs) else 0) high_is) in
    ap (λ e. shown_by g read e None) (same_end finished top past low)
    ∙ inserted_view f g finished read top offset xs near close (subst (λ h. (q : ℕ) → read ≤ q → q < read + 65536 → g q ≡ option_or (f q) (if nat_lt q h then byte_at offset xs q else None)) high_is joins)
    ∙ ap (after_insert offset xs) view

-- nothing joins once an inbox is spent
never : (a b : Bool) → (a && (b && false)) ≡ false
never true true = refl
never true false = refl
never false b = refl

unwanted : (read q : ℕ) (end aborted : Option ℕ) → (is_some aborted || is_at_end read end) ≡ true → (nat_le read q && (is_before q end && is_none aborted)) ≡ false
unwanted read q end (Some code) e = never (nat_le read q) (is_before q end)
unwanted read q None None e = absurd cc
unwanted read q (Some f) None e = grind (arith, nat_tests)

not_joined : (o x : ℕ) (s : Held) → is_wanted s o ≡ false → with_byte o x s ≡ s
not_joined o x s e = ap (λ n. cond (n && is_none (map.get s.bytes o)) (record s { bytes = map.insert s.bytes o x }) s) e

unjoined : (o : ℕ) (xs : List ℕ) (s : Held) → is_spent s ≡ true → after_insert o xs s ≡ s
unfolding after_insert
unjoined o [] s e = refl
unjoined o (x ∷ xs) s e = ap (after_insert (o + 1) xs) (not_joined o x s (unwanted s.read o s.end s.aborted e)) ∙ unjoined (o + 1) xs s e

pub inserted_nowhere : (s : Held) (o : ℕ) (xs : List ℕ) → is_spent s ≡ true → s ≡ after_insert o xs s
inserted_nowhere s o xs e = sym (unjoined o xs s e)

pub not_aborted : (o : Option ℕ) (b : Bool) → (is_some o || b) ≡ false → is_some o ≡ false
not_aborted None b e = refl
not_aborted (Some x) b e = absurd cc

pub contrary : {X : Type 0} (b : Bool) → b ≡ true → b ≡ false → X
contrary b e f = absurd cc

pub kept_of : {spent : Bool} {bytes marks : List ℕ} {room read top : ℕ} → IsSound spent bytes marks room read top → IsKept (cell bytes marks) read top
kept_of s = record { from = s.from; near = s.near; below = s.below; least = s.least }

none_is : (o : Option ℕ) → (IsSome o → ⊥) → o ≡ None
none_is None h = refl
none_is (Some x) h = absurd (h refl)

-- no byte lies past the top
pub none_past_top : (f : ℕ → Option ℕ) (read top : ℕ) → IsKept f read top → (q : ℕ) → top ≤ q → q < read + 65536 → f q ≡ None
none_past_top f read top kept q l m = none_is (f q) (λ h. let from : read ≤ top = kept.from in let below : q < top = kept.below q (omega arith) m h in omega arith)

pub none_at_read : (f : ℕ → Option ℕ) (read top : ℕ) (end aborted : Option ℕ) → IsKept f read top → top ≡ read → 0 ≡ length (run (shown_by f read end aborted))
none_at_read f read top end aborted kept e = length_view f read 0 end aborted (omega arith) (λ k l. absurd (omega arith)) (inr (none_past_top f read top kept (read + 0) (omega arith) (omega arith)))

-- a read of what is spent
pub nothing_taken : (f : ℕ → Option ℕ) (read top max : ℕ) (end aborted : Option ℕ) → IsKept f read top → top ≡ read → [] ≡ take max (run (shown_by f read end aborted))
nothing_taken f read top max end aborted kept e =
    taken_view f read max 0 end aborted [] (omega arith) (omega arith) (λ k l. absurd (omega arith)) (λ k l. absurd (omega arith)) (inr (none_past_top f read top kept (read + 0) (omega arith) (omega arith)))

pub nothing_left : (f : ℕ → Option ℕ) (read : ℕ) (end aborted : Option ℕ) → shown_by f read end aborted ≡ after_read 0 (shown_by f read end aborted)
nothing_left f read end aborted = (reads_is 0 (shown_by f read end aborted) (shown_by f read end aborted)).0 (record {
  bytes = λ q. get-table f read 65536 q ∙ from_first (f q) read q ∙ ap (λ b. cond (nat_le (read + 0) q) b None) (sym (get-table f read 65536 q));
  read = omega arith;
  end = refl;
  aborted = refl;
})
  where
    from_first : (o : Option ℕ) (read q : ℕ) → cond (is_between read (read + 65536) q) o None ≡ cond (nat_le (read + 0) q) (cond (is_between read (read + 65536) q) o None) None
    from_first o read q = grind (arith, nat_tests)

-- the window is freed once the last byte was read
pub at_top : (finished : Bool) (top read last : ℕ) (aborted : Option ℕ) → (is_some aborted || is_at_end read (end_shown finished top)) ≡ false → (is_some aborted || is_at_end last (end_shown finished top)) ≡ true → top ≡ last
at_top finished top read last (Some x) e f = absurd cc
at_top true top read last None e f = grind (arith, nat_tests)
at_top false top read last None e f = absurd cc

pub none_left : (f g : ℕ → Option ℕ) (read top n : ℕ) → IsKept f read top → top ≡ read + n → ((q : ℕ) → g q ≡ None)
    → (q : ℕ) → read + n ≤ q → q < read + n + 65536 → g q ≡ (if nat_lt q (read + 65536) then f q else None)
none_left f g read top n kept e none q l m = none q ∙ either_none (nat_lt q (read + 65536)) (f q) (λ b. none_past_top f read top kept q (omega arith) (inside_of q (read + 65536) b))
  where
    inside_of : (q e : ℕ) → nat_lt q e ≡ true → q < e
    inside_of q e b = grind (arith, nat_tests)

    either_none : (b : Bool) (o : Option ℕ) → (b ≡ true → o ≡ None) → None ≡ (if b then o else None)
    either_none true o h = sym (h refl)
    either_none false o h = refl

-- an empty window shows the same as one in which no byte is buffered
always_none : (b : Bool) (o : Option ℕ) → (b ≡ true → o ≡ None) → cond b o None ≡ None
always_none true o h = h refl
always_none false o h = refl

at_between : (read q : ℕ) → is_between read (read + 65536) q ≡ true → (read ≤ q) × (q < read + 65536)
at_between read q b = (grind (arith, nat_tests), grind (arith, nat_tests))

pub same_shown : (f g : ℕ → Option ℕ) (read top : ℕ) (end aborted : Option ℕ) → IsKept f read top → top ≡ read → ((q : ℕ) → g q ≡ None) → shown_by g read end aborted ≡ shown_by f read end aborted
same_shown f g read top end aborted kept e none =
    ap (λ m. record { bytes = m; read = read; end = end; aborted = aborted })
    (table-empty g read 65536 none ∙ sym (table_is f read 65536 map.empty (λ q. always_none (is_between read (read + 65536) q) (f q) (λ b. none_past_top f read top kept q (omega (arith, (at_between read q b).0)) (at_between read q b).1) ∙ sym (map.get-empty nat_cmp q))))

pub none_kept : (g : ℕ → Option ℕ) (read top : ℕ) → ((q : ℕ) → g q ≡ None) → top ≡ read → IsKept g read top
none_kept g read top none e = record {
  from = omega arith;
  near = omega arith;
  below = λ q l m h. absurd (clash (g q) (none q) h);
  least = λ l. absurd (omega arith);
}
  where
    clash : (o : Option ℕ) → o ≡ None → IsSome o → ⊥
    clash o e h = cc

-- a clean close and an abort, if neither came before
pub finished_held : (s : Held) (f : ℕ → Option ℕ) (finished : Bool) (read top : ℕ) (aborted : Option ℕ) → shown_by f read (end_shown finished top) aborted ≡ s → is_over s ≡ false → IsKept f read top
    → shown_by f read (end_shown true top) aborted ≡ after_finish s
finished_held s f finished read top aborted view on kept =
    let over : is_over (shown_by f read (end_shown finished top) aborted) ≡ false = ap is_over view ∙ on in
    ap (λ e. shown_by f read (Some e) aborted) (sym (top_is f read top (end_shown finished top) aborted kept))
    ∙ sym (ap (λ b. cond b (shown_by f read (end_shown finished top) aborted) (shown_by f read (Some (past_all (shown_by f read (end_shown finished top) aborted))) aborted)) over)
    ∙ ap after_finish view

not_finished : (finished b : Bool) (top other : ℕ) → (is_some (end_shown finished top) || b) ≡ false → end_shown finished other ≡ end_shown finished top
not_finished true b top other e = absurd cc
not_finished false b top other e = refl

pub aborted_held : (s : Held) (f g : ℕ → Option ℕ) (finished : Bool) (read top code : ℕ) (aborted : Option ℕ) → shown_by f read (end_shown finished top) aborted ≡ s → is_over s ≡ false → ((q : ℕ) → g q ≡ None)
    → shown_by g read (end_shown finished read) (Some code) ≡ after_abort code s
aborted_held s f g finished read top code aborted view on none =
    let over : is_over (shown_by f read (end_shown finished top) aborted) ≡ false = ap is_over view ∙ on in
    ap (λ m. record { bytes = m; read = read; end = end_shown finished read; aborted = Some code }) (table-empty g read 65536 none)
    ∙ ap (λ e. record { bytes = map.empty; read = read; end = e; aborted = Some code }) (not_finished finished (is_some aborted) top read over)
    ∙ sym (ap (λ b. cond b (shown_by f read (end_shown finished top) aborted) (record { bytes = map.empty; read = read; end = end_shown finished top; aborted = Some code })) over)
    ∙ ap (after_abort code) view
