-- What the code's values say.
use Rattle.std.specs.Prelude.{ℕ}
use Rattle.st_end.specs.Seen.{read_seen}
use Rattle.st_world_parts.specs.Sides as sides
use Rattle.st_world_parts.specs.Events as events
use Rattle.st_world_parts.specs.declared.side.Side.{Side}
use Rattle.st_world_parts.specs.declared.side.Side.TheVariants.{Client, Server}
use Rattle.st_world_parts.specs.declared.side.Way.{Way}
use Rattle.st_world_parts.specs.declared.side.Way.TheVariants.{ToServer, ToClient}
use Rattle.st_world_parts.specs.declared.told.Told.{Told}
use Rattle.st_world_parts.specs.declared.told.Told.TheVariants.{Nothing, Call, Took, Opened, Gave, Sent, Answered, Replied, Went, NoMemory}

abbrev pub side_seen : Side → sides.Side
side_seen Client = sides.Client
side_seen Server = sides.Server

-- a way is named by the end that it leads from
abbrev pub way_seen : Way → sides.Side
way_seen ToServer = sides.Client
way_seen ToClient = sides.Server

abbrev pub told_seen : {X : Type 0} → Told X → events.Told
told_seen Nothing = events.Silent
told_seen (Call result) = events.Call result
told_seen (Took taken) = events.Took taken
told_seen (Opened result) = events.Opened result
told_seen (Gave got) = events.Gave (read_seen got)
told_seen Sent = events.Sent
told_seen (Answered reason amount sequence) = events.Answered reason amount sequence
told_seen Replied = events.Replied
told_seen Went = events.Went
told_seen NoMemory = events.NoMemory
