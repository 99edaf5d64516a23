-- The numbers of the refusals.
use Rattle.std.specs.Prelude.{ℕ, Option, None}
use Rattle.st_hub.specs.declared.error.HubError.{HubError}
use Rattle.st_hub.specs.declared.error.HubError.TheVariants.{NoStream, NoShareLeft, Stranger, MissingShare, NoMemory, EightWriters, WriterTooLate}

-- each refusal has its own number
abbrev pub number : HubError → ℕ
number NoStream = 50
number NoShareLeft = 68
number Stranger = 73
number MissingShare = 74
number NoMemory = 75
number EightWriters = 76
number WriterTooLate = 79

-- no refusal carries a further number
abbrev pub inner : HubError → Option ℕ
inner e = None
