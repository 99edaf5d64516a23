-- Lists of events one after the other, and the parts of a run by one more at their end.
use Rattle.std.proofs.Common.{◌≡◌, ◌≢◌, ℕ, zero, suc, ◌+◌, ◌-◌, List, [], ◌∷◌, ◌++◌, refl, sym, subst, ◌≤◌, arith, ℤ}
use Rattle.st_world_parts.specs.Sides.{Client, Server}
use Rattle.st_world_parts.specs.State.{World, log_at}
use Rattle.st_world_parts.specs.Events.{AnswerArrives, Arrive, Event, Read, ReceiveMax}
use Rattle.st_world_quiet.specs.Worlds.{Met, going_over}
use Rattle.st_world_quiet.specs.HopRounds.{Begins, BeginsEach, Rounds, Writes, allows, reads, writes}
use Rattle.st_world_quiet.specs.Playing.{NumberedRound, NumberedRounds, read_limit}

pub met_join : (xs ys : List Event) (w v u : World) → Met w xs v → Met v ys u → Met w (xs ++ ys) u
met_join [] ys w v u first second = subst (λ z. Met z ys u) first second
met_join (x ∷ xs) ys w v u first second = (first.0, first.1, first.2, first.3, met_join xs ys first.0 v u first.4 second)

-- ---- over hops

-- a count that is not 0
one_more : (n : ℕ) → n ≢ 0 → n ≡ suc (n - 1)
one_more n some = omega (arith, some)

pub go_last : (link hops which : ℕ) (now : ℤ) (w v : World) → hops ≡ 0 → Met w (Arrive link Client which now ∷ []) v → Met w (going_over link hops which now) v
unfolding going_over
go_last link hops which now w v none run = subst (λ n. Met w (going_over link n which now) v) (sym none) run

pub go_more : (link hops which : ℕ) (now : ℤ) (w a b v : World) → hops ≢ 0 → Met w (Arrive link Client which now ∷ []) a → Met a (going_over (link + 1) (hops - 1) which now) b → Met b (AnswerArrives (link + 1) Client which now ∷ []) v
    → Met w (going_over link hops which now) v
unfolding going_over
go_more link hops which now w a b v some first rest last =
    let next : link + 1 ≡ suc link = omega arith in
    let P : ℕ → Type 0 = λ l. Met w (Arrive link Client which now ∷ going_over l (hops - 1) which now ++ AnswerArrives l Client which now ∷ []) v in
    let all : Met w (Arrive link Client which now ∷ going_over (link + 1) (hops - 1) which now ++ AnswerArrives (link + 1) Client which now ∷ []) v =
    met_join (Arrive link Client which now ∷ []) (going_over (link + 1) (hops - 1) which now ++ AnswerArrives (link + 1) Client which now ∷ []) w a v first
    (met_join (going_over (link + 1) (hops - 1) which now) (AnswerArrives (link + 1) Client which now ∷ []) a b v rest last) in
    subst (λ n. Met w (going_over link n which now) v) (sym (one_more hops some)) (subst P next all)

-- ---- one more

reads_push : (limit first count k : ℕ) (w a v : World) → k ≡ first + count → Met w (reads limit first count) a → Met a (Read Server k limit ∷ []) v → Met w (reads limit first (suc count)) v
unfolding reads
reads_push limit first zero k w a v at run one =
    let here : k ≡ first = omega (arith, at) in
    subst (λ j. Met w (Read Server j limit ∷ []) v) here (subst (λ z. Met z (Read Server k limit ∷ []) v) run one)
reads_push limit first (suc m) k w a v at run one = (run.0, run.1, run.2, run.3, reads_push limit (first + 1) m k run.0 a v (omega (arith, at)) run.4 one)

pub reads_more : (limit k : ℕ) (w a v : World) → Met w (reads limit 0 k) a → Met a (Read Server k limit ∷ []) v → Met w (reads limit 0 (k + 1)) v
reads_more limit k w a v run one = subst (λ n. Met w (reads limit 0 n) v) (let next : suc k ≡ k + 1 = omega arith in next) (reads_push limit 0 k k w a v (omega arith) run one)

pub reads_none : (limit : ℕ) (w : World) → Met w (reads limit 0 0) w
unfolding reads
reads_none limit w = refl

allows_push : (money : ℕ → ℕ) (first count k : ℕ) (w a v : World) → k ≡ first + count → Met w (allows money first count) a → Met a (ReceiveMax Server k (money k) ∷ []) v → Met w (allows money first (suc count)) v
unfolding allows
allows_push money first zero k w a v at run one =
    let here : k ≡ first = omega (arith, at) in
    subst (λ j. Met w (ReceiveMax Server j (money j) ∷ []) v) here (subst (λ z. Met z (ReceiveMax Server k (money k) ∷ []) v) run one)
allows_push money first (suc m) k w a v at run one = (run.0, run.1, run.2, run.3, allows_push money (first + 1) m k run.0 a v (omega (arith, at)) run.4 one)

pub allows_more : (money : ℕ → ℕ) (k : ℕ) (w a v : World) → Met w (allows money 0 k) a → Met a (ReceiveMax Server k (money k) ∷ []) v → Met w (allows money 0 (k + 1)) v
allows_more money k w a v run one = subst (λ n. Met w (allows money 0 n) v) (let next : suc k ≡ k + 1 = omega arith in next) (allows_push money 0 k k w a v (omega arith) run one)

pub allows_none : (money : ℕ → ℕ) (w : World) → Met w (allows money 0 0) w
unfolding allows
allows_none money w = refl

writes_push : (input : ℕ → List ℕ) (first count k : ℕ) (w a v : World) → k ≡ first + count → Writes input first count w a → Met a (writes (input k) k (log_at a Client k)) v → Writes input first (suc count) w v
writes_push input first zero k w a v at run one =
    let here : k ≡ first = omega (arith, at) in
    let P : World → ℕ → Type 0 = λ z j. Met z (writes (input j) j (log_at z Client j)) v in
    (v, subst (P w) here (subst (λ z. P z k) run one), refl)
writes_push input first (suc m) k w a v at run one = (run.0, run.1, writes_push input (first + 1) m k run.0 a v (omega (arith, at)) run.2 one)

pub writes_more : (input : ℕ → List ℕ) (k : ℕ) (w a v : World) → Writes input 0 k w a → Met a (writes (input k) k (log_at a Client k)) v → Writes input 0 (k + 1) w v
writes_more input k w a v run one = subst (λ n. Writes input 0 n w v) (let next : suc k ≡ k + 1 = omega arith in next) (writes_push input 0 k k w a v (omega arith) run one)

begins_push : (input : ℕ → List ℕ) (money : ℕ → ℕ) (count : ℕ) (w a v : World) → BeginsEach input money count w a → Begins input money a v → BeginsEach input money (suc count) w v
begins_push input money zero w a v run one = (v, subst (λ z. Begins input money z v) run one, refl)
begins_push input money (suc m) w a v run one = (run.0, run.1, begins_push input money m run.0 a v run.2 one)

pub begins_more : (input : ℕ → List ℕ) (money : ℕ → ℕ) (count : ℕ) (w a v : World) → BeginsEach input money count w a → Begins input money a v → BeginsEach input money (count + 1) w v
begins_more input money count w a v run one = subst (λ n. BeginsEach input money n w v) (let next : suc count ≡ count + 1 = omega arith in next) (begins_push input money count w a v run one)

rounds_push : (input : ℕ → List ℕ) (hops first count k : ℕ) (w a v : World) → k ≡ first + count → NumberedRounds input hops first count w a → NumberedRound input hops k a v → NumberedRounds input hops first (suc count) w v
rounds_push input hops first zero k w a v at run one =
    let here : k ≡ first = omega (arith, at) in
    (v, subst (λ j. NumberedRound input hops j w v) here (subst (λ z. NumberedRound input hops k z v) run one), refl)
rounds_push input hops first (suc m) k w a v at run one = (run.0, run.1, rounds_push input hops (suc first) m k run.0 a v (omega (arith, at)) run.2 one)

pub rounds_more : (input : ℕ → List ℕ) (hops before after : ℕ) (w a v : World) → after ≡ suc before → NumberedRounds input hops 0 before w a → NumberedRound input hops before a v → NumberedRounds input hops 0 after w v
rounds_more input hops before after w a v next run one =
    subst (λ n. NumberedRounds input hops 0 n w v) (sym next) (rounds_push input hops 0 before before w a v (omega arith) run one)

-- fewer of the same rounds
pub rounds_front : (input : ℕ → List ℕ) (hops first few count : ℕ) (w v : World) → few ≤ count → NumberedRounds input hops first count w v → (mid : World) × NumberedRounds input hops first few w mid
rounds_front input hops first zero count w v below run = (w, refl)
rounds_front input hops first (suc k) zero w v below run = absurd (omega (arith, below))
rounds_front input hops first (suc k) (suc m) w v below run = let rest = rounds_front input hops (suc first) k m run.0 v (omega (arith, below)) run.2 in (rest.0, (run.0, run.1, rest.1))

-- the rounds alone
pub rounds_of : (input : ℕ → List ℕ) (hops first count : ℕ) (w v : World) → NumberedRounds input hops first count w v → Rounds input read_limit hops first count w v
rounds_of input hops first zero w v run = run
rounds_of input hops first (suc m) w v run = (run.0, run.1.round, rounds_of input hops (suc first) m run.0 v run.2)
