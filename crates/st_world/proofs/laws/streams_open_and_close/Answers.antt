-- By what the two calls give.
use Rattle.std.proofs.Common.{◌≡◌, ℕ, true, false, refl, sym, ap, subst, Option, Some, inl}
use Rattle.st_end.specs.Calls.{own_number, opening_as, close}
use Rattle.st_world_parts.specs.Sides.{Client}
use Rattle.st_world_parts.specs.StreamLogs.{cleanly_closed}
use Rattle.st_world_parts.specs.State.{World, end_at, with_end, log_at}
use Rattle.st_world_parts.specs.Events.{Opened, Call}
use Rattle.st_world_parts.specs.Ends.{accepted_at}
use Rattle.st_world.specs.Runs.{Chain, opening}
use Rattle.st_world.proofs.DataWays.{ledger_here}
use Rattle.st_world.proofs.laws.streams_open_and_close.Goals as goal

-- the world after both calls, if the first names this stream
opened_by : Chain → Option ℕ → World
opened_by c o = with_end (opening c) Client (opening_as (end_at (opening c) Client) o).1

closed_by : Chain → Option ℕ → World
unfolding opened_by
closed_by c o =
    let w = opened_by c o in
    let r = close (end_at w Client) 1 in
    accepted_at r.0 (with_end w Client r.1) Client 1 (cleanly_closed (log_at w Client 1))

first_own : (c : Chain) → own_number (end_at (opening c) Client) ≡ Some 1
unfolding own_number
first_own c = refl

is_closed : (c : Chain) → ((log_at (closed_by c (Some 1)) Client 1).clean ≡ true) × ((closed_by c (Some 1)).refused ≡ false)
unfolding closed_by opened_by
is_closed c = (ap (λ x. x.clean) (ledger_here (opening c).ledgers.client 1 (cleanly_closed (log_at (opening c) Client 1))), refl)

pub returns : goal.returns
unfolding closed_by opened_by
returns c = λ c.
    let o = own_number (end_at (opening c) Client) in
    let w = opened_by c o in
    let r = close (end_at w Client) 1 in
    let P : Option ℕ → Type 0 = λ p. ((log_at (closed_by c p) Client 1).clean ≡ true) × ((closed_by c p).refused ≡ false) in
    let k = subst P (sym (first_own c)) (is_closed c) in (
      closed_by c o,
      (w, Opened (opening_as (end_at (opening c) Client) o).0, (tt, inl (refl, refl)), (closed_by c o, Call r.0, (tt, inl (refl, refl)), refl)),
      k.0,
      k.1,
    )
