-- What a worker keeps of a cause, in the definitions' terms.
use Rattle.std.specs.declared.option.Option.{Option}
use Rattle.std.specs.declared.option.Option.TheVariants.{None, Some}
use Rattle.st_hub.specs.declared.causes.Cause as causes
use Rattle.st_hub.specs.Causes.{Cause}

abbrev pub cause_seen : Option causes.Cause → Option Cause
cause_seen None = None
cause_seen (Some c) = Some (record { failed = c.failed; limit = c.limit })
