-- The laws of a run between two ends in which some Sends are lost, as sentences.
use Rattle.std.specs.Prelude.{◌≡◌, ℕ, ◌+◌, ◌*◌, ◌<◌, ◌≤◌, false, List, [], ◌∷◌, length, min}
use Rattle.std.specs.declared.option.Option.TheVariants.{Some}
use Rattle.st_reassembly.specs.Run.{run}
use Rattle.st_sender.specs.Sending.{Config, Outgoing, Sending, outgoing_at}
use Rattle.st_sender.specs.Loads.{Sends}
use Rattle.st_sender.specs.Refusals.{offered_of}
use Rattle.st_receiver.specs.Streams.{Receiving, incoming_at}
use Rattle.st_receiver.specs.Reading.{End, got}
use Rattle.st_world_quiet.specs.Quiet.{IsQuiet}
use Rattle.st_world_quiet.specs.Left.{all_frames_left, all_money_left, bound, work_left}
use Rattle.st_world_quiet.specs.Rounds.{IsOpening}
use Rattle.st_world_quiet.specs.Exchanges.{IsModest, opened_receiving}
use Rattle.st_world_quiet.specs.Losses.{AllowsLosses, AnswerLost, AreFew, Attempts, Fate, MayLose, PrepareLost, Tries, losses, lost_answers, lost_on}
use Rattle.st_world_quiet.specs.LostTrips.{FatedTrips, FatedTurns}
use Rattle.st_keys.specs.Keys.{DerivedKeys}
use Rattle.st_end.specs.State.{EndState, new_end}
use Rattle.st_end.specs.declared.role.Role.{Role}
use Rattle.st_world_quiet.specs.Calls.{MaySend, allow_each, begin_each, lengths, other}
use Rattle.st_world_quiet.specs.Mirrored.{IsAhead, Tally}

-- a sender has fewer Sends than the bound and one for each that is lost
abbrev pub AttemptsAreBounded : Type 0
AttemptsAreBounded =
    (n : ℕ → ℕ) (config : Config) (fates : List Fate) (s t : Sending)
    → IsOpening n config s
    → Attempts n fates s t
    → length fates + 1 ≤ bound n s + losses fates

-- and no more than the work that is done and the losses
abbrev pub AttemptsAreWorkDone : Type 0
AttemptsAreWorkDone =
    (n : ℕ → ℕ) (config : Config) (fates : List Fate) (s t : Sending)
    → IsOpening n config s
    → Attempts n fates s t
    → length fates + work_left n t ≤ work_left n s + losses fates

-- it stays that of a lossless run while it did not fail
abbrev pub AttemptsStayQuiet : Type 0
AttemptsStayQuiet =
    (n : ℕ → ℕ) (config : Config) (fates : List Fate) (s t : Sending)
    → IsOpening n config s
    → Attempts n fates s t
    → t.failed ≡ false
    → IsQuiet n t

-- and does not fail if no 200 in a row are lost
abbrev pub FewLossesFailNothing : Type 0
FewLossesFailNothing =
    (n : ℕ → ℕ) (config : Config) (fates : List Fate) (s t : Sending)
    → IsOpening n config s
    → Attempts n fates s t
    → AreFew 0 fates
    → t.failed ≡ false

-- a lossy run of both sides has fewer Sends than the bound and one for each that is lost
abbrev pub TriesAreBounded : Type 0
TriesAreBounded =
    (n : ℕ → ℕ) (config : Config) (fates : List Fate) (s t : Sending) (u : Receiving) (parity : ℕ) (kept : List ℕ)
    → IsModest n
    → IsOpening n config s
    → AllowsLosses (lost_answers fates) s (opened_receiving parity kept)
    → Tries n fates s (opened_receiving parity kept) t u
    → length fates + 1 ≤ bound n s + losses fates

-- and no more than the work that is done and the losses
abbrev pub TriesAreWorkDone : Type 0
TriesAreWorkDone =
    (n : ℕ → ℕ) (config : Config) (fates : List Fate) (s t : Sending) (u : Receiving) (parity : ℕ) (kept : List ℕ)
    → IsModest n
    → IsOpening n config s
    → AllowsLosses (lost_answers fates) s (opened_receiving parity kept)
    → Tries n fates s (opened_receiving parity kept) t u
    → length fates + work_left n t ≤ work_left n s + losses fates

-- the sender stays that of a lossless run while it did not fail
abbrev pub TriesStayQuiet : Type 0
TriesStayQuiet =
    (n : ℕ → ℕ) (config : Config) (fates : List Fate) (s t : Sending) (u : Receiving) (parity : ℕ) (kept : List ℕ)
    → IsModest n
    → IsOpening n config s
    → AllowsLosses (lost_answers fates) s (opened_receiving parity kept)
    → Tries n fates s (opened_receiving parity kept) t u
    → t.failed ≡ false
    → IsQuiet n t

-- and does not fail if no 200 in a row are lost
abbrev pub TriesFailNothing : Type 0
TriesFailNothing =
    (n : ℕ → ℕ) (config : Config) (fates : List Fate) (s t : Sending) (u : Receiving) (parity : ℕ) (kept : List ℕ)
    → IsModest n
    → IsOpening n config s
    → AllowsLosses (lost_answers fates) s (opened_receiving parity kept)
    → Tries n fates s (opened_receiving parity kept) t u
    → AreFew 0 fates
    → t.failed ≡ false

-- if nothing is left, each stream was read, and has what was offered and what the lost answers carried
abbrev pub TriesDeliver : Type 0
TriesDeliver =
    (n : ℕ → ℕ) (config : Config) (fates : List Fate) (s t : Sending) (u : Receiving) (parity : ℕ) (kept : List ℕ)
    (k : ℕ) (x : Outgoing)
    → IsModest n
    → IsOpening n config s
    → AllowsLosses (lost_answers fates) s (opened_receiving parity kept)
    → (run : Tries n fates s (opened_receiving parity kept) t u)
    → t.failed ≡ false
    → work_left n t ≡ 0
    → outgoing_at t k ≡ Some x
    → ((incoming_at u k).held.read ≡ n k)
    × ((incoming_at u k).credited ≡ x.offered + lost_on n fates s (opened_receiving parity kept) t u run k)

-- and a read of it gives the end
abbrev pub TriesEnd : Type 0
TriesEnd =
    (n : ℕ → ℕ) (config : Config) (fates : List Fate) (s t : Sending) (u : Receiving) (parity : ℕ) (kept : List ℕ)
    (k most : ℕ) (x : Outgoing)
    → IsModest n
    → IsOpening n config s
    → AllowsLosses (lost_answers fates) s (opened_receiving parity kept)
    → Tries n fates s (opened_receiving parity kept) t u
    → t.failed ≡ false
    → work_left n t ≡ 0
    → outgoing_at t k ≡ Some x
    → got most (incoming_at u k).held ≡ End

-- a lost answer carries no more than a packet has, and than was offered
abbrev pub LostAnswersCarryLittle : Type 0
LostAnswersCarryLittle =
    (n : ℕ → ℕ) (config : Config) (fates : List Fate) (s t : Sending) (u : Receiving) (parity : ℕ) (kept : List ℕ)
    (k : ℕ) (x : Outgoing)
    → IsModest n
    → IsOpening n config s
    → AllowsLosses (lost_answers fates) s (opened_receiving parity kept)
    → (run : Tries n fates s (opened_receiving parity kept) t u)
    → outgoing_at s k ≡ Some x
    → lost_on n fates s (opened_receiving parity kept) t u run k ≤ lost_answers fates * min s.packet_limit x.offered

-- what is offered stays as it was
abbrev pub TriesKeepOffers : Type 0
TriesKeepOffers =
    (n : ℕ → ℕ) (config : Config) (fates : List Fate) (s t : Sending) (u : Receiving) (parity : ℕ) (kept : List ℕ) (k : ℕ)
    → IsModest n
    → IsOpening n config s
    → AllowsLosses (lost_answers fates) s (opened_receiving parity kept)
    → Tries n fates s (opened_receiving parity kept) t u
    → offered_of (outgoing_at t k) ≡ offered_of (outgoing_at s k)

-- a lossy run of two ends has fewer Sends than the bound and one for each that is lost
abbrev pub LossyTripsAreBounded : Type 0
LossyTripsAreBounded =
    (role : Role) (keys : DerivedKeys) (own peer : List ℕ) (config its_config : Config) (input : ℕ → List ℕ)
    (money most : ℕ → ℕ) (count : ℕ) (fates : List Fate) (g h : EndState)
    → MaySend config
    → IsModest (lengths input)
    → IsModest most
    → MayLose (lost_answers fates) config money most
    → (let e = begin_each input money count (new_end role keys own peer config) in
    let f = allow_each most 0 65 (new_end (other role) keys peer own its_config) in
    FatedTrips (lengths input) fates e f g h
    → length fates + 1 ≤ bound (lengths input) e.sending + losses fates)

-- and no more than the work that is done and the losses
abbrev pub LossyTripsAreWorkDone : Type 0
LossyTripsAreWorkDone =
    (role : Role) (keys : DerivedKeys) (own peer : List ℕ) (config its_config : Config) (input : ℕ → List ℕ)
    (money most : ℕ → ℕ) (count : ℕ) (fates : List Fate) (g h : EndState)
    → MaySend config
    → IsModest (lengths input)
    → IsModest most
    → MayLose (lost_answers fates) config money most
    → (let e = begin_each input money count (new_end role keys own peer config) in
    let f = allow_each most 0 65 (new_end (other role) keys peer own its_config) in
    FatedTrips (lengths input) fates e f g h
    → length fates + work_left (lengths input) g.sending ≤ work_left (lengths input) e.sending + losses fates)

-- the connection does not fail if no 200 in a row are lost
abbrev pub LossyTripsFailNothing : Type 0
LossyTripsFailNothing =
    (role : Role) (keys : DerivedKeys) (own peer : List ℕ) (config its_config : Config) (input : ℕ → List ℕ)
    (money most : ℕ → ℕ) (count : ℕ) (fates : List Fate) (g h : EndState)
    → MaySend config
    → IsModest (lengths input)
    → IsModest most
    → MayLose (lost_answers fates) config money most
    → (let e = begin_each input money count (new_end role keys own peer config) in
    let f = allow_each most 0 65 (new_end (other role) keys peer own its_config) in
    FatedTrips (lengths input) fates e f g h
    → AreFew 0 fates
    → g.sending.failed ≡ false)

-- and all was delivered, if it did not fail and nothing is left
abbrev pub LossyTripsDeliver : Type 0
LossyTripsDeliver =
    (role : Role) (keys : DerivedKeys) (own peer : List ℕ) (config its_config : Config) (input : ℕ → List ℕ)
    (money most : ℕ → ℕ) (count k : ℕ) (fates : List Fate) (g h : EndState) (x : Outgoing)
    → MaySend config
    → IsModest (lengths input)
    → IsModest most
    → MayLose (lost_answers fates) config money most
    → (let e = begin_each input money count (new_end role keys own peer config) in
    let f = allow_each most 0 65 (new_end (other role) keys peer own its_config) in
    FatedTrips (lengths input) fates e f g h
    → g.sending.failed ≡ false
    → work_left (lengths input) g.sending ≡ 0
    → outgoing_at g.sending k ≡ Some x
    → ((incoming_at h.receiving k).held.read ≡ length (input k))
    × (money k ≤ (incoming_at h.receiving k).credited)
    × ((incoming_at h.receiving k).credited ≤ money k + lost_answers fates * min config.packet_limit (money k)))

-- a lossy run by calls has fewer Sends than the bound and one for each that is lost
abbrev pub LossyTurnsAreBounded : Type 0
LossyTurnsAreBounded =
    (role : Role) (keys : DerivedKeys) (own peer : List ℕ) (config its_config : Config) (input : ℕ → List ℕ)
    (money most : ℕ → ℕ) (count limit : ℕ) (fates : List Fate) (g h : EndState)
    → MaySend config
    → IsModest (lengths input)
    → IsModest most
    → MayLose (lost_answers fates) config money most
    → AreFew 0 fates
    → (let e = begin_each input money count (new_end role keys own peer config) in
    let f = allow_each most 0 65 (new_end (other role) keys peer own its_config) in
    FatedTurns input limit fates e f g h
    → length fates + 1 ≤ bound (lengths input) e.sending + losses fates)

-- the connection does not fail
abbrev pub LossyTurnsGoOn : Type 0
LossyTurnsGoOn =
    (role : Role) (keys : DerivedKeys) (own peer : List ℕ) (config its_config : Config) (input : ℕ → List ℕ)
    (money most : ℕ → ℕ) (count limit : ℕ) (fates : List Fate) (g h : EndState)
    → MaySend config
    → IsModest (lengths input)
    → IsModest most
    → MayLose (lost_answers fates) config money most
    → AreFew 0 fates
    → (let e = begin_each input money count (new_end role keys own peer config) in
    let f = allow_each most 0 65 (new_end (other role) keys peer own its_config) in
    FatedTurns input limit fates e f g h
    → g.sending.failed ≡ false)

-- and all was delivered, if nothing is left
abbrev pub LossyTurnsDeliver : Type 0
LossyTurnsDeliver =
    (role : Role) (keys : DerivedKeys) (own peer : List ℕ) (config its_config : Config) (input : ℕ → List ℕ)
    (money most : ℕ → ℕ) (count limit : ℕ) (fates : List Fate) (g h : EndState) (k : ℕ) (x : Outgoing)
    → MaySend config
    → IsModest (lengths input)
    → IsModest most
    → MayLose (lost_answers fates) config money most
    → AreFew 0 fates
    → (let e = begin_each input money count (new_end role keys own peer config) in
    let f = allow_each most 0 65 (new_end (other role) keys peer own its_config) in
    FatedTurns input limit fates e f g h
    → work_left (lengths input) g.sending ≡ 0
    → outgoing_at g.sending k ≡ Some x
    → ((incoming_at h.receiving k).held.read ≡ length (input k))
    × (money k ≤ (incoming_at h.receiving k).credited)
    × ((incoming_at h.receiving k).credited ≤ money k + lost_answers fates * min config.packet_limit (money k)))

-- and a read of each stream gives the end
abbrev pub LossyTurnsEnd : Type 0
LossyTurnsEnd =
    (role : Role) (keys : DerivedKeys) (own peer : List ℕ) (config its_config : Config) (input : ℕ → List ℕ)
    (money most : ℕ → ℕ) (count limit : ℕ) (fates : List Fate) (g h : EndState) (k bytes : ℕ) (x : Outgoing)
    → MaySend config
    → IsModest (lengths input)
    → IsModest most
    → MayLose (lost_answers fates) config money most
    → AreFew 0 fates
    → (let e = begin_each input money count (new_end role keys own peer config) in
    let f = allow_each most 0 65 (new_end (other role) keys peer own its_config) in
    FatedTurns input limit fates e f g h
    → work_left (lengths input) g.sending ≡ 0
    → outgoing_at g.sending k ≡ Some x
    → got bytes (incoming_at h.receiving k).held ≡ End)

-- if only closes are left, a Prepare may be lost
abbrev pub APrepareMayBeLost : Type 0
APrepareMayBeLost =
    (n : ℕ → ℕ) (c : Tally) (s : Sending) (r : Receiving) (k : ℕ) (x : Outgoing)
    → IsQuiet n s
    → IsAhead n c s r
    → all_frames_left n s ≡ 0
    → all_money_left s ≡ 0
    → outgoing_at s k ≡ Some x
    → x.clean_settled ≡ false
    → s.last + 1 < s.config.packets
    → (t : Sending) × (u : Receiving) × Tries n (PrepareLost ∷ []) s r t u

-- and so may an answer
abbrev pub AnAnswerMayBeLost : Type 0
AnAnswerMayBeLost =
    (n : ℕ → ℕ) (c : Tally) (s : Sending) (r : Receiving) (k : ℕ) (x : Outgoing)
    → IsQuiet n s
    → IsAhead n c s r
    → all_frames_left n s ≡ 0
    → all_money_left s ≡ 0
    → outgoing_at s k ≡ Some x
    → x.clean_settled ≡ false
    → s.last + 1 < s.config.packets
    → (t : Sending) × (u : Receiving) × Tries n (AnswerLost ∷ []) s r t u
