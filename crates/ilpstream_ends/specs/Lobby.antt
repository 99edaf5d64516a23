-- Why a receiver has no further request.
use Rattle.std.specs.Prelude.{◌≡◌, ◌⊎◌, false, true, ⊤}
use Rattle.ilpstream_ends.specs.declared.readers.Readers.{Readers}
use Rattle.ilpstream_serving.specs.declared.error.TransferError.{TransferError}
use Rattle.ilpstream_serving.specs.declared.error.TransferError.TheVariants.{Failed, Stalled, Rings, Accept, Turns, Silent, IvFault, NoMemory, End, Desk, File, Books}

-- the listener gave no connection, the connections are used up, or no request arrived
abbrev pub IsOfLobby : TransferError → Type 0
IsOfLobby Failed = ⊥
IsOfLobby Stalled = ⊥
IsOfLobby Rings = ⊥
IsOfLobby Accept = ⊤
IsOfLobby Turns = ⊤
IsOfLobby Silent = ⊤
IsOfLobby IvFault = ⊥
IsOfLobby NoMemory = ⊥
IsOfLobby (End e) = ⊥
IsOfLobby (Desk e) = ⊥
IsOfLobby (File e) = ⊥
IsOfLobby (Books n) = ⊥

-- the threads that read requests have ended, and none of them because the listener gave no connection
abbrev pub HaveEnded : Readers → Type 0
HaveEnded r = (r.has_begun ≡ true) × (r.at_work ≡ 0) × (r.has_failed ≡ false)

-- they have ended, and one of them because the listener gave no connection
abbrev pub HaveFailed : Readers → Type 0
HaveFailed r = (r.has_begun ≡ true) × (r.at_work ≡ 0) × (r.has_failed ≡ true)

-- so it is, or none of them began
abbrev pub HaveNoListener : Readers → Type 0
HaveNoListener r = (r.has_begun ≡ false) ⊎ HaveFailed r
