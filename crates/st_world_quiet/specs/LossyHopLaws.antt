-- The laws of a run over hops in which some Sends are lost, as sentences.
use Rattle.std.specs.Prelude.{◌≡◌, ℕ, ◌+◌, ◌*◌, ◌<◌, ◌≤◌, false, List, length, min}
use Rattle.std.specs.declared.option.Option.TheVariants.{Some}
use Rattle.st_hop.specs.Hop.{Hop}
use Rattle.st_keys.specs.Keys.{DerivedKeys}
use Rattle.st_sender.specs.Sending.{Config, Outgoing, outgoing_at}
use Rattle.st_receiver.specs.Streams.{incoming_at}
use Rattle.st_receiver.specs.Reading.{End, got}
use Rattle.st_end.specs.State.{EndState, new_end}
use Rattle.st_end.specs.declared.role.Role.{Role}
use Rattle.st_world_quiet.specs.Left.{all_money_left, bound, work_left}
use Rattle.st_world_quiet.specs.Exchanges.{IsModest}
use Rattle.st_world_quiet.specs.Calls.{MaySend, allow_each, begin_each, lengths, other}
use Rattle.st_world_quiet.specs.Losses.{AreFew, Fate, MayLose, losses, lost_answers}
use Rattle.st_world_quiet.specs.LostCrossings.{AreWide, FatedCrosses, FatedCrossings}
use Rattle.st_world_parts.specs.Sides.{Client, Server}
use Rattle.st_world_parts.specs.State.{World, end_at, direction_at, log_at}
use Rattle.st_world.specs.Runs.{Chain}
use Rattle.st_end.specs.Sending.{GoesNone}
use Rattle.st_world_quiet.specs.HopRounds.{opening_client}
use Rattle.st_world_quiet.specs.LostWorlds.{Course, LossyRun, MayRunLossy, carried_by, fates_of}

-- a lossy run over hops has fewer Sends than the bound and one for each that is lost
abbrev pub LossyCrossingsAreBounded : Type 0
LossyCrossingsAreBounded =
    (role : Role) (keys : DerivedKeys) (own peer : List ℕ) (config its_config : Config) (input : ℕ → List ℕ)
    (money most : ℕ → ℕ) (count : ℕ) (fates : List Fate) (hops others : List Hop) (g h : EndState)
    → MaySend config
    → IsModest (lengths input)
    → IsModest most
    → MayLose (lost_answers fates) config money most
    → (let e = begin_each input money count (new_end role keys own peer config) in
    let f = allow_each most 0 65 (new_end (other role) keys peer own its_config) in
    AreWide peer (lost_answers fates) config e.sending hops
    → FatedCrossings (lengths input) fates e hops f g others h
    → length fates + 1 ≤ bound (lengths input) e.sending + losses fates)

-- and no more than the work that is done and the losses
abbrev pub LossyCrossingsAreWorkDone : Type 0
LossyCrossingsAreWorkDone =
    (role : Role) (keys : DerivedKeys) (own peer : List ℕ) (config its_config : Config) (input : ℕ → List ℕ)
    (money most : ℕ → ℕ) (count : ℕ) (fates : List Fate) (hops others : List Hop) (g h : EndState)
    → MaySend config
    → IsModest (lengths input)
    → IsModest most
    → MayLose (lost_answers fates) config money most
    → (let e = begin_each input money count (new_end role keys own peer config) in
    let f = allow_each most 0 65 (new_end (other role) keys peer own its_config) in
    AreWide peer (lost_answers fates) config e.sending hops
    → FatedCrossings (lengths input) fates e hops f g others h
    → length fates + work_left (lengths input) g.sending ≤ work_left (lengths input) e.sending + losses fates)

-- the connection does not fail if no 200 in a row are lost
abbrev pub LossyCrossingsFailNothing : Type 0
LossyCrossingsFailNothing =
    (role : Role) (keys : DerivedKeys) (own peer : List ℕ) (config its_config : Config) (input : ℕ → List ℕ)
    (money most : ℕ → ℕ) (count : ℕ) (fates : List Fate) (hops others : List Hop) (g h : EndState)
    → MaySend config
    → IsModest (lengths input)
    → IsModest most
    → MayLose (lost_answers fates) config money most
    → (let e = begin_each input money count (new_end role keys own peer config) in
    let f = allow_each most 0 65 (new_end (other role) keys peer own its_config) in
    AreWide peer (lost_answers fates) config e.sending hops
    → FatedCrossings (lengths input) fates e hops f g others h
    → AreFew 0 fates
    → g.sending.failed ≡ false)

-- and all was delivered, if it did not fail and nothing is left
abbrev pub LossyCrossingsDeliver : Type 0
LossyCrossingsDeliver =
    (role : Role) (keys : DerivedKeys) (own peer : List ℕ) (config its_config : Config) (input : ℕ → List ℕ)
    (money most : ℕ → ℕ) (count : ℕ) (fates : List Fate) (hops others : List Hop) (g h : EndState) (k : ℕ)
    (x : Outgoing)
    → MaySend config
    → IsModest (lengths input)
    → IsModest most
    → MayLose (lost_answers fates) config money most
    → (let e = begin_each input money count (new_end role keys own peer config) in
    let f = allow_each most 0 65 (new_end (other role) keys peer own its_config) in
    AreWide peer (lost_answers fates) config e.sending hops
    → FatedCrossings (lengths input) fates e hops f g others h
    → g.sending.failed ≡ false
    → work_left (lengths input) g.sending ≡ 0
    → outgoing_at g.sending k ≡ Some x
    → ((incoming_at h.receiving k).held.read ≡ length (input k))
    × (money k ≤ (incoming_at h.receiving k).credited)
    × ((incoming_at h.receiving k).credited ≤ money k + lost_answers fates * min config.packet_limit (money k)))

-- a lossy run by calls over hops has fewer Sends than the bound and one for each that is lost
abbrev pub LossyCrossesAreBounded : Type 0
LossyCrossesAreBounded =
    (role : Role) (keys : DerivedKeys) (own peer : List ℕ) (config its_config : Config) (input : ℕ → List ℕ)
    (money most : ℕ → ℕ) (count limit : ℕ) (fates : List Fate) (hops others : List Hop) (g h : EndState)
    → 32739 ≤ limit
    → MaySend config
    → IsModest (lengths input)
    → IsModest most
    → MayLose (lost_answers fates) config money most
    → AreFew 0 fates
    → (let e = begin_each input money count (new_end role keys own peer config) in
    let f = allow_each most 0 65 (new_end (other role) keys peer own its_config) in
    AreWide peer (lost_answers fates) config e.sending hops
    → FatedCrosses input limit fates e hops f g others h
    → length fates + 1 ≤ bound (lengths input) e.sending + losses fates)

-- the connection does not fail
abbrev pub LossyCrossesGoOn : Type 0
LossyCrossesGoOn =
    (role : Role) (keys : DerivedKeys) (own peer : List ℕ) (config its_config : Config) (input : ℕ → List ℕ)
    (money most : ℕ → ℕ) (count limit : ℕ) (fates : List Fate) (hops others : List Hop) (g h : EndState)
    → 32739 ≤ limit
    → MaySend config
    → IsModest (lengths input)
    → IsModest most
    → MayLose (lost_answers fates) config money most
    → AreFew 0 fates
    → (let e = begin_each input money count (new_end role keys own peer config) in
    let f = allow_each most 0 65 (new_end (other role) keys peer own its_config) in
    AreWide peer (lost_answers fates) config e.sending hops
    → FatedCrosses input limit fates e hops f g others h
    → g.sending.failed ≡ false)

-- and all was delivered, if nothing is left
abbrev pub LossyCrossesDeliver : Type 0
LossyCrossesDeliver =
    (role : Role) (keys : DerivedKeys) (own peer : List ℕ) (config its_config : Config) (input : ℕ → List ℕ)
    (money most : ℕ → ℕ) (count limit : ℕ) (fates : List Fate) (hops others : List Hop) (g h : EndState) (k : ℕ)
    (x : Outgoing)
    → 32739 ≤ limit
    → MaySend config
    → IsModest (lengths input)
    → IsModest most
    → MayLose (lost_answers fates) config money most
    → AreFew 0 fates
    → (let e = begin_each input money count (new_end role keys own peer config) in
    let f = allow_each most 0 65 (new_end (other role) keys peer own its_config) in
    AreWide peer (lost_answers fates) config e.sending hops
    → FatedCrosses input limit fates e hops f g others h
    → work_left (lengths input) g.sending ≡ 0
    → outgoing_at g.sending k ≡ Some x
    → ((incoming_at h.receiving k).held.read ≡ length (input k))
    × (money k ≤ (incoming_at h.receiving k).credited)
    × ((incoming_at h.receiving k).credited ≤ money k + lost_answers fates * min config.packet_limit (money k)))

-- and a read of each stream gives the end
abbrev pub LossyCrossesEnd : Type 0
LossyCrossesEnd =
    (role : Role) (keys : DerivedKeys) (own peer : List ℕ) (config its_config : Config) (input : ℕ → List ℕ)
    (money most : ℕ → ℕ) (count limit : ℕ) (fates : List Fate) (hops others : List Hop) (g h : EndState)
    (k bytes : ℕ) (x : Outgoing)
    → 32739 ≤ limit
    → MaySend config
    → IsModest (lengths input)
    → IsModest most
    → MayLose (lost_answers fates) config money most
    → AreFew 0 fates
    → (let e = begin_each input money count (new_end role keys own peer config) in
    let f = allow_each most 0 65 (new_end (other role) keys peer own its_config) in
    AreWide peer (lost_answers fates) config e.sending hops
    → FatedCrosses input limit fates e hops f g others h
    → work_left (lengths input) g.sending ≡ 0
    → outgoing_at g.sending k ≡ Some x
    → got bytes (incoming_at h.receiving k).held ≡ End)

-- a lossy run of a world has fewer Sends than the bound and one for each that is lost
abbrev pub LossyRunIsBounded : Type 0
LossyRunIsBounded =
    (c : Chain) (input : ℕ → List ℕ) (money most : ℕ → ℕ) (streams limit m : ℕ) (course : ℕ → Course) (v : World)
    → MayRunLossy c input money most streams limit (fates_of course 0 m)
    → LossyRun c input money most streams limit course m v
    → m + 1 ≤ bound (lengths input) (opening_client c input money streams).sending + losses (fates_of course 0 m)

-- and no more than the work that is done and the losses
abbrev pub LossyRunIsWorkDone : Type 0
LossyRunIsWorkDone =
    (c : Chain) (input : ℕ → List ℕ) (money most : ℕ → ℕ) (streams limit m : ℕ) (course : ℕ → Course) (v : World)
    → MayRunLossy c input money most streams limit (fates_of course 0 m)
    → LossyRun c input money most streams limit course m v
    → m + work_left (lengths input) (end_at v Client).sending
    ≤ work_left (lengths input) (opening_client c input money streams).sending + losses (fates_of course 0 m)

-- the first link has a Prepare for each
abbrev pub LossyRunSends : Type 0
LossyRunSends =
    (c : Chain) (input : ℕ → List ℕ) (money most : ℕ → ℕ) (streams limit m : ℕ) (course : ℕ → Course) (v : World)
    → MayRunLossy c input money most streams limit (fates_of course 0 m)
    → LossyRun c input money most streams limit course m v
    → length (direction_at v 0 Client).prepares ≡ m

-- each of its streams is open
abbrev pub LossyRunOpens : Type 0
LossyRunOpens =
    (c : Chain) (input : ℕ → List ℕ) (money most : ℕ → ℕ) (streams limit m i : ℕ) (course : ℕ → Course) (v : World)
    → MayRunLossy c input money most streams limit (fates_of course 0 m)
    → LossyRun c input money most streams limit course m v
    → i < streams
    → (x : Outgoing) × (outgoing_at (end_at v Client).sending (2 * i + 1) ≡ Some x)

-- at its end each stream was read, and its money credited with no more in addition than the lost answers may carry
abbrev pub LossyRunDelivers : Type 0
LossyRunDelivers =
    (c : Chain) (input : ℕ → List ℕ) (money most : ℕ → ℕ) (streams limit m k : ℕ) (course : ℕ → Course)
    (v : World) (x : Outgoing)
    → MayRunLossy c input money most streams limit (fates_of course 0 m)
    → LossyRun c input money most streams limit course m v
    → GoesNone (end_at v Client)
    → outgoing_at (end_at v Client).sending k ≡ Some x
    → ((incoming_at (end_at v Server).receiving k).held.read ≡ length (input k))
    × (money k ≤ (incoming_at (end_at v Server).receiving k).credited)
    × ((incoming_at (end_at v Server).receiving k).credited ≤ money k + lost_answers (fates_of course 0 m) * min c.config.packet_limit (money k))

-- its whole input was written and read
abbrev pub LossyRunReadsWhole : Type 0
LossyRunReadsWhole =
    (c : Chain) (input : ℕ → List ℕ) (money most : ℕ → ℕ) (streams limit m k : ℕ) (course : ℕ → Course)
    (v : World) (x : Outgoing)
    → MayRunLossy c input money most streams limit (fates_of course 0 m)
    → LossyRun c input money most streams limit course m v
    → GoesNone (end_at v Client)
    → outgoing_at (end_at v Client).sending k ≡ Some x
    → ((log_at v Client k).read ≡ input k) × ((log_at v Client k).written ≡ input k)

-- a read of it gives the end
abbrev pub LossyRunEnds : Type 0
LossyRunEnds =
    (c : Chain) (input : ℕ → List ℕ) (money most : ℕ → ℕ) (streams limit m k bytes : ℕ) (course : ℕ → Course)
    (v : World) (x : Outgoing)
    → MayRunLossy c input money most streams limit (fates_of course 0 m)
    → LossyRun c input money most streams limit course m v
    → GoesNone (end_at v Client)
    → outgoing_at (end_at v Client).sending k ≡ Some x
    → got bytes (incoming_at (end_at v Server).receiving k).held ≡ End

-- and the server has all money, and what the lost answers carried
abbrev pub LossyRunCredits : Type 0
LossyRunCredits =
    (c : Chain) (input : ℕ → List ℕ) (money most : ℕ → ℕ) (streams limit m : ℕ) (course : ℕ → Course) (v : World)
    → MayRunLossy c input money most streams limit (fates_of course 0 m)
    → (run : LossyRun c input money most streams limit course m v)
    → GoesNone (end_at v Client)
    → (end_at v Server).receiving.credit
    ≡ all_money_left (opening_client c input money streams).sending + carried_by limit (length c.hops) course 0 m run.begun v run.rounds
