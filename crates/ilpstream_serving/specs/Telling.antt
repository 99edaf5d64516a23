-- What is reported to the log.
use Rattle.std.specs.Prelude.{ℕ, Bool, true, false, ◌==◌, if◌then◌else◌, Option, Some, None}
use Rattle.st_http.specs.Errors.{number}
use Rattle.ilpstream_serving.specs.Links.{status_of}
use Rattle.ilpstream_serving.specs.declared.cause.LinkCause.{LinkCause}
use Rattle.ilpstream_serving.specs.declared.cause.LinkCause.TheVariants as link
use Rattle.ilpstream_serving.specs.declared.cause.Unreached as links
use Rattle.ilpstream_serving.specs.declared.cause.Unreached.TheVariants as from
use Rattle.ilpstream_log.specs.declared.event.Event.{Event}
use Rattle.ilpstream_log.specs.declared.event.Event.TheVariants as event
use Rattle.st_streams.specs.declared.blocked.Blocked.{Blocked}
use Rattle.st_streams.specs.declared.blocked.Blocked.TheVariants as limit
use Rattle.ilpstream_serving.specs.declared.watching.Reached.{Reached}
use Rattle.ilpstream_log.specs.declared.event.Cause.{Cause}
use Rattle.ilpstream_log.specs.declared.event.Cause.TheVariants as cause
use Rattle.ilpstream_log.specs.declared.event.Unreached.{Unreached}
use Rattle.ilpstream_log.specs.declared.event.Unreached.TheVariants as unreached
use Rattle.ilpstream_log.specs.declared.event.Lost.{Lost}
use Rattle.ilpstream_log.specs.declared.event.Lost.TheVariants as lost

-- why no connection was made
abbrev pub unreached_told : links.Unreached → Unreached
unreached_told from.Other = unreached.Other
unreached_told from.Descriptors = unreached.Descriptors
unreached_told from.Name = unreached.Name
unreached_told from.Refused = unreached.Refused
unreached_told from.Timeout = unreached.Timeout

-- why an exchange brought no answer: the number of what HTTP refused, with the status if there is one
abbrev pub cause_told : Option LinkCause → Cause
cause_told None = cause.Unreached unreached.Other
cause_told (Some (link.Unreached why)) = cause.Unreached (unreached_told why)
cause_told (Some link.NoMemory) = cause.NoMemory
cause_told (Some (link.Http e)) = cause.Link (number e) (status_of (link.Http e))

-- what became of a connection, by the status of the response that was written on it
abbrev pub lost_told : Option ℕ → Option Lost
lost_told None = Some lost.Cut
lost_told (Some status) = if status == 200 then None else Some (lost.Status status)

-- the limit of the peer at which an end waits
abbrev pub wait_told : Blocked → Event
wait_told at = event.Waits at

-- a limit that the next Prepare reports
abbrev pub told_by_next : Blocked → Reached
told_by_next at = record { limit = at; is_sent = false }

-- one on money stays while bytes are sent
abbrev pub is_on_money : Blocked → Bool
is_on_money (limit.Connection most) = false
is_on_money (limit.Data k most) = false
is_on_money (limit.Money k most total) = true

-- what is known of a limit once one more Prepare is sent: if that is not the one that reports it, a limit on bytes was raised
abbrev pub after_next : Reached → Option Reached
after_next r = if r.is_sent then (if is_on_money r.limit then Some r else None) else Some (record r { is_sent = true })

-- the limit at which an end waits that paid this number of units: one on money was raised if more was paid since
abbrev pub waits_at : Blocked → (paid : ℕ) → Option Blocked
waits_at (limit.Connection most) paid = Some (limit.Connection most)
waits_at (limit.Data k most) paid = Some (limit.Data k most)
waits_at (limit.Money k most total) paid = if paid == total then Some (limit.Money k most total) else None
