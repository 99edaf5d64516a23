-- A run of two ends by their calls, from their opening on.
use Rattle.std.proofs.Common.{◌≡◌, ℕ, ◌+◌, ◌≤◌, List, length, sym, ◌∙◌, Some}
use Rattle.st_sender.specs.Sending.{Config, Outgoing, outgoing_at}
use Rattle.st_receiver.specs.Streams.{incoming_at}
use Rattle.st_keys.specs.Keys.{DerivedKeys}
use Rattle.st_end.specs.declared.role.Role.{Role}
use Rattle.st_end.specs.State.{EndState, new_end, parity}
use Rattle.st_world_quiet.specs.Left.{bound, work_left}
use Rattle.st_world_quiet.specs.Rounds.{IsOpening}
use Rattle.st_world_quiet.specs.Mirrored.{IsAbreast}
use Rattle.st_world_quiet.specs.Exchanges.{Exchanges, IsModest}
use Rattle.st_world_quiet.specs.Calls.{MaySend, allow_each, begin_each, lengths, other}
use Rattle.st_world_quiet.specs.Trips.{AreJoined, Turns}
use Rattle.st_world_quiet.proofs.EndRounds.{rounds_lower}
use Rattle.st_world_quiet.proofs.Bound.{opening_quiet, sends_bounded}
use Rattle.st_world_quiet.proofs.Exchanging.{all_delivered, exchanges_rounds}
use Rattle.st_world_quiet.proofs.Beginning.{begun_opening, calls_begun}
use Rattle.st_world_quiet.proofs.SameEnds.{allow_same, begin_same}
use Rattle.st_world_quiet.proofs.Allowing.{allowed_tells, begun_abreast, calls_allow}
use Rattle.st_world_quiet.proofs.Trips.{trips_exchanges}
use Rattle.st_world_quiet.proofs.Turns.{turns_trips}

pub calls_joined : (role : Role) (keys : DerivedKeys) (own peer : List ℕ) (config its_config : Config) (input : ℕ → List ℕ) (money : ℕ → ℕ) (count : ℕ)
    → AreJoined (begin_each input money count (new_end role keys own peer config)) (allow_each money 0 65 (new_end (other role) keys peer own its_config))
calls_joined role keys own peer config its_config input money count =
    let e = begin_same input money count (new_end role keys own peer config) in
    let f = allow_same money 0 65 (new_end (other role) keys peer own its_config) in
    record { keys = f.keys ∙ sym e.keys; address = e.peer ∙ sym f.own }

abbrev Sender : (role : Role) (keys : DerivedKeys) (own peer : List ℕ) (config : Config) (input : ℕ → List ℕ) (money : ℕ → ℕ) (count : ℕ) → EndState
Sender role keys own peer config input money count = begin_each input money count (new_end role keys own peer config)

abbrev Receiver : (role : Role) (keys : DerivedKeys) (own peer : List ℕ) (config : Config) (money : ℕ → ℕ) → EndState
Receiver role keys own peer config money = allow_each money 0 65 (new_end (other role) keys peer own config)

run_exchanges : (role : Role) (keys : DerivedKeys) (own peer : List ℕ) (config its_config : Config) (input : ℕ → List ℕ) (money : ℕ → ℕ) (count limit m : ℕ) (g h : EndState) → MaySend config → IsModest (lengths input) → IsModest money
    → (let e = Sender role keys own peer config input money count in let f = Receiver role keys own peer its_config money in
    Turns input limit m e f g h → IsOpening (lengths input) config e.sending × IsAbreast (lengths input) e.sending f.receiving × Exchanges (lengths input) m e.sending f.receiving g.sending h.receiving)
run_exchanges role keys own peer config its_config input money count limit m g h may modest modest_money run =
    let n = lengths input in
    let e = Sender role keys own peer config input money count in
    let f = Receiver role keys own peer its_config money in
    let begun = calls_begun role keys own peer config input money count modest modest_money in
    let allows = calls_allow (other role) keys peer own its_config money in
    let opening = begun_opening (parity role) n money config e may begun in
    let abreast = begun_abreast role n money config e f may modest modest_money begun allows in
    let quiet = opening_quiet n config e.sending opening in
    let joined = calls_joined role keys own peer config its_config input money count in
    let tellable = allowed_tells (parity (other role)) money f modest_money allows in
    (opening, abreast, trips_exchanges n m e f g h modest quiet abreast joined tellable (turns_trips input limit m e f g h modest quiet abreast joined tellable begun.held_back run))

pub run_bounded : (role : Role) (keys : DerivedKeys) (own peer : List ℕ) (config its_config : Config) (input : ℕ → List ℕ) (money : ℕ → ℕ) (count limit m : ℕ) (g h : EndState) → MaySend config → IsModest (lengths input) → IsModest money
    → (let e = Sender role keys own peer config input money count in let f = Receiver role keys own peer its_config money in Turns input limit m e f g h → m + 1 ≤ bound (lengths input) e.sending)
run_bounded role keys own peer config its_config input money count limit m g h may modest modest_money run =
    let n = lengths input in
    let e = Sender role keys own peer config input money count in
    let f = Receiver role keys own peer its_config money in
    let x = run_exchanges role keys own peer config its_config input money count limit m g h may modest modest_money run in
    sends_bounded n config m e.sending g.sending x.0 (exchanges_rounds n m e.sending f.receiving g.sending h.receiving modest (opening_quiet n config e.sending x.0) x.1 x.2).0

pub run_delivered : (role : Role) (keys : DerivedKeys) (own peer : List ℕ) (config its_config : Config) (input : ℕ → List ℕ) (money : ℕ → ℕ) (count limit m k : ℕ) (g h : EndState) (x : Outgoing) → MaySend config → IsModest (lengths input) → IsModest money
    → (let e = Sender role keys own peer config input money count in let f = Receiver role keys own peer its_config money in
    Turns input limit m e f g h → work_left (lengths input) g.sending ≡ 0 → outgoing_at g.sending k ≡ Some x → ((incoming_at h.receiving k).held.read ≡ length (input k)) × ((incoming_at h.receiving k).credited ≡ x.offered))
run_delivered role keys own peer config its_config input money count limit m k g h x may modest modest_money run done at =
    let n = lengths input in
    let e = Sender role keys own peer config input money count in
    let f = Receiver role keys own peer its_config money in
    let y = run_exchanges role keys own peer config its_config input money count limit m g h may modest modest_money run in
    let quiet = opening_quiet n config e.sending y.0 in
    let both = exchanges_rounds n m e.sending f.receiving g.sending h.receiving modest quiet y.1 y.2 in
    all_delivered n g.sending h.receiving k x (rounds_lower n m e.sending g.sending quiet both.0).1 both.1 done at
