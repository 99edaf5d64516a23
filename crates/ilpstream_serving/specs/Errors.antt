-- The numbers by which a program reports why a transfer ended short.
use Rattle.std.specs.Prelude.{ℕ, Option, None}
use Rattle.st_hop_desk.specs.Errors as desk
use Rattle.st_streams.specs.Errors as end
use Rattle.st_file.specs.Errors as file
use Rattle.ilpstream_serving.specs.declared.error.TransferError.{TransferError}
use Rattle.ilpstream_serving.specs.declared.error.TransferError.TheVariants.{Failed, Stalled, Rings, Accept, Turns, Silent, IvFault, NoMemory, End, Desk, File, Books}

-- each fault has its own number, and what an end, a hop, a file or the books refuse keeps its
abbrev pub number : TransferError → ℕ
number Failed = 58
number Stalled = 59
number Rings = 69
number Accept = 80
number Turns = 86
number Silent = 88
number IvFault = 90
number NoMemory = 99
number (End e) = end.number e
number (Desk e) = desk.number e
number (File e) = file.number e
number (Books n) = n

-- the number inside what refused
abbrev pub inner : TransferError → Option ℕ
inner Failed = None
inner Stalled = None
inner Rings = None
inner Accept = None
inner Turns = None
inner Silent = None
inner IvFault = None
inner NoMemory = None
inner (End e) = end.inner e
inner (Desk e) = desk.inner e
inner (File e) = file.inner e
inner (Books n) = None
