-- What is reported to an observer of a worker.
use Rattle.std.specs.Prelude.{List, [], ◌∷◌}
use Rattle.std.specs.declared.option.Option.{Option}
use Rattle.std.specs.declared.option.Option.TheVariants.{None, Some}
use Rattle.st_streams.specs.declared.blocked.Blocked.{Blocked}
use Rattle.st_hub.specs.Causes.{Cause}

-- one call of it
pub data Event : Type 0 where
  Waits : (limit : Blocked) → Event  -- a Prepare is sent whose Blocked frame has this limit of the peer
  Fails : (cause : Cause) → Event  -- a Prepare failed

-- as a Prepare is sent: the limit that its Blocked frame reports, if it carries one
abbrev pub waits_of : (stops : Option Blocked) → List Event
waits_of None = []
waits_of (Some limit) = Waits limit ∷ []

-- once it was exchanged: why it failed, if it did
abbrev pub fails_of : Option Cause → List Event
fails_of None = []
fails_of (Some cause) = Fails cause ∷ []
