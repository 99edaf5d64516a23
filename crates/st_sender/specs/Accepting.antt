-- What a stream accepts: own rules of this profile.
use Rattle.std.specs.Prelude.{ℕ, ◌+◌, true, false, List, length}
use Rattle.std.specs.declared.option.Option.TheVariants.{Some}
use Rattle.std.specs.FinMap.{empty}
use Rattle.st_streams.specs.Table.{put_bytes}
use Rattle.st_sender.specs.Sending.{Outgoing}

abbrev pub after_write : List ℕ → Outgoing → Outgoing
after_write xs x = record x { accepted = x.accepted + length xs; unacked = put_bytes x.unacked x.accepted xs }

abbrev pub after_clean : Outgoing → Outgoing
after_clean x = record x { clean = true }

-- an abort drops the unacknowledged bytes, the money that is not fulfilled, and a clean close
abbrev pub after_stream_abort : ℕ → Outgoing → Outgoing
after_stream_abort code x = record x { abort = Some code; clean = false; unacked = empty }

abbrev pub after_offer : ℕ → Outgoing → Outgoing
after_offer amount x = record x { offered = x.offered + amount }
