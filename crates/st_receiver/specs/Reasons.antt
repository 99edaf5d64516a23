-- Why a packet is rejected, by number, and the code of the Reject (RFC 0027, error codes). The numbers are this profile's own.
use Rattle.std.specs.Prelude.{ℕ, List, [], ◌∷◌, Option, None}
use Rattle.st_receiver.specs.declared.reason.Reason.{Reason}
use Rattle.st_receiver.specs.declared.reason.Reason.TheVariants.{Repeated, AmountTooSmall, FlowControl, StreamId, NoShares, OverReceiveMax, ConnectionClosed, NoMemory}

-- the number by which a reason is known
abbrev pub number : Reason → ℕ
number Repeated = 60
number AmountTooSmall = 61
number FlowControl = 62
number StreamId = 63
number NoShares = 64
number OverReceiveMax = 65
number ConnectionClosed = 66
number NoMemory = 67

-- the number inside it: none has one
abbrev pub inner : Reason → Option ℕ
inner e = None

-- "F99", Application Error
abbrev pub f99 : List ℕ
f99 = 70 ∷ 57 ∷ 57 ∷ []

-- "T00", Internal Error
abbrev pub t00 : List ℕ
t00 = 84 ∷ 48 ∷ 48 ∷ []

-- memory may be available later, so the sender may try again; the packet itself is at fault in all else
abbrev pub code_of : Reason → List ℕ
code_of Repeated = f99
code_of AmountTooSmall = f99
code_of FlowControl = f99
code_of StreamId = f99
code_of NoShares = f99
code_of OverReceiveMax = f99
code_of ConnectionClosed = f99
code_of NoMemory = t00
