-- What a cause says, and what the code's values say of it.
use Rattle.std.specs.Prelude.{ℕ, List, []}
use Rattle.std.specs.declared.option.Option.{Option}
use Rattle.std.specs.declared.option.Option.TheVariants.{None, Some}
use Rattle.st_end.specs.Failed.{Failed, Lost, Unreadable, Unfit, Rejected}
use Rattle.st_end.specs.declared.failed.FailedKind.{FailedKind}
use Rattle.st_end.specs.declared.failed.FailedKind.TheVariants as kinds
use Rattle.st_end.specs.declared.failed.Why.{Why}
use Rattle.st_end.specs.declared.failed.Why.TheVariants as causes

abbrev pub seen : Why → Failed
seen causes.Lost = Lost
seen causes.Unreadable = Unreadable
seen causes.Unfit = Unfit
seen (causes.Rejected code by message) = Rejected code by message

abbrev pub kind_of : Failed → FailedKind
kind_of Lost = kinds.Lost
kind_of Unreadable = kinds.Unreadable
kind_of Unfit = kinds.Unfit
kind_of (Rejected code by message) = kinds.Rejected

-- the code of a Reject
abbrev pub code_of : Failed → Option (List ℕ)
code_of Lost = None
code_of Unreadable = None
code_of Unfit = None
code_of (Rejected code by message) = Some code

-- its triggeredBy, and nothing if there was no Reject
abbrev pub by_of : Failed → List ℕ
by_of Lost = []
by_of Unreadable = []
by_of Unfit = []
by_of (Rejected code by message) = by

-- the same of its message
abbrev pub message_of : Failed → List ℕ
message_of Lost = []
message_of Unreadable = []
message_of Unfit = []
message_of (Rejected code by message) = message
