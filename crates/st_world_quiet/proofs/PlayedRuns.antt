-- Events that were met are a run, and parts of runs one after the other are one.
use Rattle.std.proofs.Common.{◌≡◌, ℕ, zero, suc, ◌+◌, List, [], ◌∷◌, ◌++◌, refl, sym, subst, inl, Ok, Err, Result}
use Rattle.std.specs.Prelude.{IfErr, OnOk}
use Rattle.std.specs.Result.{IsErrAnd}
use Rattle.st_world_parts.specs.Sides.{Client}
use Rattle.st_world_parts.specs.State.{World, log_at}
use Rattle.st_world_parts.specs.Events.{Event, Offer, OpenStream, Opened, Send, Sent}
use Rattle.st_world.specs.Runs.{Run}
use Rattle.st_world_quiet.specs.Worlds.{Met, passing}
use Rattle.st_world_quiet.specs.HopRounds.{Begins, BeginsEach, Round, Writes, reads, writes}
use Rattle.st_world_quiet.specs.declared.stop.Stop.{Stop}
use Rattle.st_world_quiet.specs.declared.stop.Stop.TheVariants.{NoMemory, Refused, NoStream, Endless}
use Rattle.st_world_quiet.specs.Playing.{Continues, NumberedRounds, Stops, Why, read_limit}

run_join : (xs ys : List Event) (w v u : World) → Run w xs v → Run v ys u → Run w (xs ++ ys) u
run_join [] ys w v u first second = subst (λ z. Run z ys u) first second
run_join (x ∷ xs) ys w v u first second = (first.0, first.1, first.2, run_join xs ys first.0 v u first.3 second)

pub still : (w v : World) → v ≡ w → Continues w v
still w v same = ([], same)

pub then : (w v u : World) → Continues w v → Continues v u → Continues w u
then w v u a b = (a.0 ++ b.0, run_join a.0 b.0 w v u a.1 b.1)

met_run : (events : List Event) (w v : World) → Met w events v → Run w events v
met_run [] w v met = met
met_run (event ∷ events) w v met = (met.0, met.1, (met.2, inl met.3), met_run events met.0 v met.4)

pub met_on : (events : List Event) (w v : World) → Met w events v → Continues w v
met_on events w v met = (events, met_run events w v met)

pub writes_on : (input : ℕ → List ℕ) (first count : ℕ) (w v : World) → Writes input first count w v → Continues w v
writes_on input first zero w v run = still w v run
writes_on input first (suc m) w v run =
    then w run.0 v (met_on (writes (input first) first (log_at w Client first)) w run.0 run.1) (writes_on input (first + 1) m run.0 v run.2)

pub round_on : (input : ℕ → List ℕ) (limit hops count : ℕ) (w v : World) → Round input limit hops count w v → Continues w v
round_on input limit hops count w v r =
    then w r.sent v (met_on (Send Client r.iv r.now ∷ []) w r.sent (r.sent, Sent, r.lawful, r.goes, refl))
    (then r.sent r.passed v (met_on (passing hops (suc count) r.now) r.sent r.passed r.passes)
    (then r.passed r.read v (met_on (reads limit 0 65) r.passed r.read r.reads_each) (writes_on input 0 65 r.read v r.writes_each)))

pub rounds_on : (input : ℕ → List ℕ) (hops first count : ℕ) (w v : World) → NumberedRounds input hops first count w v → Continues w v
rounds_on input hops first zero w v run = still w v run
rounds_on input hops first (suc m) w v run = then w run.0 v (round_on input read_limit hops first w run.0 run.1.round) (rounds_on input hops (suc first) m run.0 v run.2)

begin_on : (input : ℕ → List ℕ) (money : ℕ → ℕ) (w v : World) → Begins input money w v → Continues w v
begin_on input money w v b =
    then w b.opened v (met_on (OpenStream Client ∷ []) w b.opened (b.opened, Opened (Ok b.stream), tt, b.opens, refl))
    (then b.opened b.offered v (met_on (Offer Client b.stream (money b.stream) ∷ []) b.opened b.offered b.offers)
    (met_on (writes (input b.stream) b.stream (log_at b.offered Client b.stream)) b.offered v b.writes_first))

pub begins_on : (input : ℕ → List ℕ) (money : ℕ → ℕ) (count : ℕ) (w v : World) → BeginsEach input money count w v → Continues w v
begins_on input money zero w v run = still w v run
begins_on input money (suc m) w v run = then w run.0 v (begin_on input money w run.0 run.1) (begins_on input money m run.0 v run.2)

-- ---- a run that ends before its end

pub stops_as : (p q r s : Type 0) (e : Stop) (w v : World) → (p → r) → (q → s) → Stops p q e w v → Stops r s e w v
stops_as p q r s e w v f g stops = record { goes_on = stops.goes_on; why = by e stops.why }
  where
    by : (d : Stop) → Why p q d v → Why r s d v
    by NoMemory why = tt
    by Refused why = why
    by NoStream why = f why
    by Endless why = g why

pub stops_after : (p q : Type 0) (e : Stop) (w a v : World) → Continues w a → Stops p q e a v → Stops p q e w v
stops_after p q e w a v on stops = record { goes_on = then w a v on stops.goes_on; why = stops.why }

pub err_after : {X : Type 0} (p q : Type 0) (r : Result X Stop) (w a v : World) → Continues w a → IfErr r (λ e. Stops p q e a v) → IfErr r (λ e. Stops p q e w v)
err_after p q (Ok x) w a v on stops = tt
err_after p q (Err e) w a v on stops = stops_after p q e w a v on stops

pub err_as : {X : Type 0} (p q r s : Type 0) (o : Result X Stop) (w v : World) → (p → r) → (q → s) → IfErr o (λ e. Stops p q e w v) → IfErr o (λ e. Stops r s e w v)
err_as p q r s (Ok x) w v f g stops = tt
err_as p q r s (Err e) w v f g stops = stops_as p q r s e w v f g stops

pub ok_as : {X E : Type 0} (r : Result X E) (P Q : Type 0) → (P → Q) → OnOk r P → OnOk r Q
ok_as (Ok x) P Q f h = f h
ok_as (Err e) P Q f h = tt

-- the error that a call hands on
pub err_end : {X : Type 0} (P : Stop → Type 0) (r : Result X Stop) (e : Stop) → IsErrAnd r (λ d. d ≡ e) → P e → IfErr r P
err_end P (Ok x) e h p = tt
err_end P (Err d) e h p = subst P (sym h) p
