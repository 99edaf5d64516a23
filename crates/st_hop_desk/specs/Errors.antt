-- The numbers of the refusals.
use Rattle.std.specs.Prelude.{ℕ, Option, None}
use Rattle.st_hop_desk.specs.declared.error.DeskError.{DeskError}
use Rattle.st_hop_desk.specs.declared.error.DeskError.TheVariants.{NoShareLeft, Stranger, MissingShare, NoMemory}

-- each refusal has its own number
abbrev pub number : DeskError → ℕ
number NoShareLeft = 68
number Stranger = 73
number MissingShare = 74
number NoMemory = 75

-- no refusal carries a further number
abbrev pub inner : DeskError → Option ℕ
inner e = None
