-- What a connector counts of the Prepares of each of its accounts.
use Rattle.std.specs.Prelude.{◌≡◌, ℕ, ◌+◌, ◌*◌, ◌<◌, ◌≤◌, List, length, slice_get, slice_index, slice_set, Option, Some, None, MatchOption, Result, Ok, Err, if◌then◌else◌}
use Rattle.std.specs.List.{insert}
use Rattle.st_devices.specs.Faults.{count_after}
use Rattle.st_ilp.specs.Packets.{AnswerPacket, Fulfilled, Rejected}
use Rattle.st_ilp.specs.Reading.{is_reject_text}
use Rattle.st_ilp.specs.declared.error.IlpError.{IlpError}
use Rattle.ilpstream_connector.specs.declared.counts.Came.{Came}
use Rattle.ilpstream_connector.specs.declared.counts.Came.TheVariants as came
use Rattle.ilpstream_connector.specs.declared.counts.Entry.{Entry}
use Rattle.ilpstream_connector.specs.declared.counts.Entry.TheVariants as entry
use Rattle.ilpstream_connector.specs.declared.counts.Found.{Found}
use Rattle.ilpstream_connector.specs.declared.counts.Found.TheVariants as found
use Rattle.ilpstream_connector.specs.declared.counts.Fate.{Fate}
use Rattle.ilpstream_connector.specs.declared.counts.Fate.TheVariants as fate
use Rattle.ilpstream_connector.specs.declared.counts.AccountCounts.{AccountCounts}
use Rattle.ilpstream_connector.specs.declared.counts.CodeCount.{CodeCount}

-- what an exchange brought: a Reject, or none
abbrev pub came_of : (outcome : Option (List ℕ)) → Came
came_of None = came.NoReject
came_of (Some bytes) = if is_reject_text bytes then came.Reject else came.NoReject

-- how a Prepare ended that was answered with a Reject of this code: the Reject of a later node, passed back, or the hop's own, after an
-- exchange or without one
abbrev pub rejected_as : Came → (code : List ℕ) → Fate
rejected_as came.NotSent code = fate.Refused code
rejected_as came.Reject code = fate.Rejected code
rejected_as came.NoReject code = fate.Lost code

-- how a Prepare ended that was answered so
abbrev pub fate_of : Came → Result AnswerPacket IlpError → Option Fate
fate_of came (Ok (Fulfilled fulfillment payload)) = Some fate.Fulfilled
fate_of came (Ok (Rejected code by message payload)) = Some (rejected_as came code)
fate_of came (Err e) = None

-- an account of which nothing was answered
abbrev pub no_counts : AccountCounts
no_counts = record { fulfilled = 0; rejected = 0; lost = 0; refused = 0; kinds = 0; other = 0 }

-- one more that ended so
abbrev pub tallied : Fate → AccountCounts → AccountCounts
tallied fate.Fulfilled x = record x { fulfilled = count_after 1 x.fulfilled }
tallied (fate.Rejected code) x = record x { rejected = count_after 1 x.rejected }
tallied (fate.Lost code) x = record x { lost = count_after 1 x.lost }
tallied (fate.Refused code) x = record x { refused = count_after 1 x.refused }

-- and how its code is counted: with an entry of its own, which there was or is made, or among others
abbrev pub entered : Entry → AccountCounts → AccountCounts
entered entry.Known x = x
entered entry.First x = record x { kinds = count_after 1 x.kinds }
entered entry.Other x = record x { other = count_after 1 x.other }

-- by which codes are in order: the account, and then the code's characters
abbrev pub rank : (account : ℕ) → (code : List ℕ) → ℕ
rank account code = account * 16777216 + slice_index code 0 * 65536 + slice_index code 1 * 256 + slice_index code 2

abbrev pub rank_of : CodeCount → ℕ
rank_of x = rank x.account x.code

-- the place at which a code of an account is, or would be: after all that are less
pub record IsPlace (r : ℕ) (codes : List CodeCount) (place : ℕ) : Type 0 where
  pub within : place ≤ length codes
  pub less : (k : ℕ) (x : CodeCount) → k < place → slice_get codes k ≡ Some x → rank_of x < r

-- it is there
abbrev pub StandsAt : (r : ℕ) → List CodeCount → (place : ℕ) → CodeCount → Type 0
StandsAt r codes place x = (slice_get codes place ≡ Some x) × (rank_of x ≡ r)

-- it is not: the entry there, if any, is greater
abbrev pub IsMissing : (r : ℕ) → List CodeCount → (place : ℕ) → Type 0
IsMissing r codes place = (x : CodeCount) → slice_get codes place ≡ Some x → r < rank_of x

-- the place of the code of this rank, with its entry if there is one
abbrev pub Finds : (r : ℕ) → List CodeCount → Found → Type 0
Finds r codes (found.At place x) = IsPlace r codes place × StandsAt r codes place x
Finds r codes (found.Missing place) = IsPlace r codes place × IsMissing r codes place

-- one Reject more with this code, for this account: its entry has one more; or it has none, and gets one at its place, or stays
-- without
abbrev pub CountsCode : (account : ℕ) → (code : List ℕ) → Entry → (old new : List CodeCount) → Type 0
CountsCode account code entry.Known old new =
    (place : ℕ) × (x : CodeCount) × IsPlace (rank account code) old place × StandsAt (rank account code) old place x
    × (new ≡ slice_set old place (record x { count = count_after 1 x.count }))
CountsCode account code entry.First old new =
    (place : ℕ) × IsPlace (rank account code) old place × IsMissing (rank account code) old place
    × (new ≡ insert old place (record { account = account; code = code; count = 1 }))
CountsCode account code entry.Other old new =
    (place : ℕ) × IsPlace (rank account code) old place × IsMissing (rank account code) old place × (new ≡ old)

-- the same of a Prepare that ended so
abbrev pub CountsFate : (account : ℕ) → Fate → Entry → (old new : List CodeCount) → Type 0
CountsFate account fate.Fulfilled e old new = (e ≡ entry.Known) × (new ≡ old)
CountsFate account (fate.Rejected code) e old new = CountsCode account code e old new
CountsFate account (fate.Lost code) e old new = CountsCode account code e old new
CountsFate account (fate.Refused code) e old new = CountsCode account code e old new

-- how many codes of an account have an entry of their own
abbrev pub most_kinds : ℕ
most_kinds = 32

-- one answered Prepare of this account more, which ended so; no other account's counts change
abbrev pub Adds : (account : ℕ) → Fate → (xs ys : List AccountCounts) → (old new : List CodeCount) → Type 0
Adds account how xs ys old new = MatchOption (slice_get xs account) ((ys ≡ xs) × (new ≡ old))
    (λ x. (e : Entry) × CountsFate account how e old new × (e ≡ entry.First → x.kinds < most_kinds)
    × (ys ≡ slice_set xs account (entered e (tallied how x))))
