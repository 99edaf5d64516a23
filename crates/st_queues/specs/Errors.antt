-- The numbers of the refusals.
use Rattle.std.specs.Prelude.{ℕ, Option, None}
use Rattle.st_queues.specs.declared.error.QueueError.{QueueError}
use Rattle.st_queues.specs.declared.error.QueueError.TheVariants.{NoMemory, Full, BadLength, Ended}

-- the number by which a refusal is known
abbrev pub number : {A : Type 0} → QueueError A → ℕ
number NoMemory = 69
number (Full c) = 70
number (BadLength c) = 71
number (Ended c) = 72

-- the number inside it: none has one
abbrev pub inner : {A : Type 0} → QueueError A → Option ℕ
inner e = None
