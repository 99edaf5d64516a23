-- What may be set for a connection: own limits of this profile.
use Rattle.std.specs.Prelude.{ℕ, ◌<◌, ◌≤◌, ◌^◌}
use Rattle.st_oer.specs.Ratios.{Ratio, ratio}
use Rattle.st_sender.specs.Sending.{Config}

pub record IsConfig (c : Config) : Type 0 where
  pub some_in_flight : 1 ≤ c.in_flight
  pub in_flight : c.in_flight ≤ 64
  pub some_packets : 1 ≤ c.packets
  pub packets : c.packets < 2 ^ 31
  pub some_limit : 1 ≤ c.packet_limit
  pub limit : c.packet_limit < 2 ^ 63

-- all that is sent should arrive
abbrev pub config : (in_flight packets packet_limit : ℕ) → Config
config in_flight packets packet_limit = record { in_flight = in_flight; packets = packets; packet_limit = packet_limit; least = ratio 1 1 }

abbrev pub with_least : Ratio → Config → Config
with_least least c = record c { least = least }
