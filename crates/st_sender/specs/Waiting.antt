-- What a stream still waits for.
use Rattle.std.specs.Prelude.{Bool, false, ◌||◌, ◌&&◌, not, nat_lt}
use Rattle.std.specs.declared.option.Option.{Option}
use Rattle.std.specs.declared.option.Option.TheVariants.{None, Some}
use Rattle.std.specs.FinMap.{len}
use Rattle.st_sender.specs.Sending.{Outgoing}
use Rattle.st_sender.specs.Refusals.{is_closed}

-- accepted bytes of it are not acknowledged, or its close is not fulfilled
abbrev pub is_waiting : Option Outgoing → Bool
is_waiting None = false
is_waiting (Some x) = nat_lt 0 (len x.unacked) || (is_closed x && not (x.clean_settled || x.abort_settled))
