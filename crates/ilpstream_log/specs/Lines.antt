-- The line of each event.
use Rattle.std.specs.Prelude.{ℕ, ℤ, ◌/◌, Bool, true, false, if◌then◌else◌, List, [], ◌∷◌, ◌++◌, codes, decimal, Some, None}
use Rattle.st_ilp.specs.Calendar.{DateAndTime, date_and_time}
use Rattle.st_ilp.specs.Expiry.{digit}
use Rattle.ilpstream_log.specs.Quoting.{all_escaped, quoted, quoted_short}
use Rattle.ilpstream_log.specs.declared.event.Event.{Event}
use Rattle.ilpstream_log.specs.declared.event.Event.TheVariants as event
use Rattle.ilpstream_log.specs.declared.event.Start.{Start}
use Rattle.ilpstream_log.specs.declared.event.Start.TheVariants as start
use Rattle.ilpstream_log.specs.declared.event.Cause.{Cause}
use Rattle.ilpstream_log.specs.declared.event.Cause.TheVariants as cause
use Rattle.ilpstream_log.specs.declared.event.Unreached.{Unreached}
use Rattle.ilpstream_log.specs.declared.event.Unreached.TheVariants as unreached
use Rattle.ilpstream_log.specs.declared.event.Lost.{Lost}
use Rattle.ilpstream_log.specs.declared.event.Lost.TheVariants as lost
use Rattle.st_streams.specs.declared.blocked.Blocked.{Blocked}
use Rattle.st_streams.specs.declared.blocked.Blocked.TheVariants as blocked
use Rattle.ilpstream_log.specs.declared.event.Heard.{Heard}
use Rattle.ilpstream_log.specs.declared.event.Heard.TheVariants as heard
use Rattle.ilpstream_log.specs.declared.event.Kind.{Kind}
use Rattle.ilpstream_log.specs.declared.event.Kind.TheVariants as kind
use Rattle.st_streams.specs.declared.totals.EndTotals.{EndTotals}
use Rattle.ilpstream_log.specs.declared.event.AccountCounts.{AccountCounts}

-- a text, and then another one, which is the rest of a line
infixr 65 ◌⧺◌
abbrev pub ◌⧺◌ : List ℕ → List ℕ → List ℕ
◌⧺◌ text rest = text ++ rest

-- ---- the date

-- YYYY-MM-DDThh:mm:ss.fffZ
abbrev pub written_date : DateAndTime → List ℕ
written_date t =
    digit (t.year / 1000) ∷ digit (t.year / 100) ∷ digit (t.year / 10) ∷ digit t.year
    ∷ 45 ∷ digit (t.month / 10) ∷ digit t.month
    ∷ 45 ∷ digit (t.day / 10) ∷ digit t.day
    ∷ 84 ∷ digit (t.hour / 10) ∷ digit t.hour
    ∷ 58 ∷ digit (t.minute / 10) ∷ digit t.minute
    ∷ 58 ∷ digit (t.second / 10) ∷ digit t.second
    ∷ 46 ∷ digit (t.milli / 100) ∷ digit (t.milli / 10) ∷ digit t.milli ∷ 90 ∷ []

-- of a moment, in UTC
unfoldable pub date_text : (moment : ℤ) → List ℕ
date_text moment = written_date (date_and_time moment)

-- ---- kinds

abbrev pub kind_of : Event → Kind
kind_of (event.Start s) = kind.Start
kind_of (event.Listening address) = kind.Listening
kind_of (event.Exchange c) = kind.Exchange
kind_of (event.Refused code reason) = kind.Refused
kind_of (event.Connection l from) = kind.Connection
kind_of (event.Limit most) = kind.Limit
kind_of (event.Waits b) = kind.Waits
kind_of (event.Clock back) = kind.Clock
kind_of (event.Control line h) = kind.Control
kind_of event.NewBooks = kind.Start
kind_of (event.Table line words) = kind.Table
kind_of (event.Closed stream code) = kind.Closed
kind_of (event.End t) = kind.Totals
kind_of (event.Account t) = kind.Totals
kind_of (event.Rejects code count) = kind.Totals
kind_of (event.More k count) = kind.More
kind_of (event.NoRoom count) = kind.More
kind_of event.Done = kind.End
kind_of (event.Failed fault words) = kind.End

abbrev pub place_of : Kind → ℕ
place_of kind.Start = 0
place_of kind.Exchange = 1
place_of kind.Refused = 2
place_of kind.Connection = 3
place_of kind.Limit = 4
place_of kind.Table = 5
place_of kind.Closed = 6
place_of kind.Totals = 7
place_of kind.More = 8
place_of kind.End = 9
place_of kind.Waits = 10
place_of kind.Clock = 11
place_of kind.Listening = 12
place_of kind.Control = 13

abbrev pub word_of : Kind → List ℕ
word_of kind.Start = codes "start"
word_of kind.Exchange = codes "exchange"
word_of kind.Refused = codes "refused"
word_of kind.Connection = codes "connection"
word_of kind.Limit = codes "limit"
word_of kind.Table = codes "table"
word_of kind.Closed = codes "closed"
word_of kind.Totals = codes "totals"
word_of kind.More = codes "more"
word_of kind.End = codes "end"
word_of kind.Waits = codes "waits"
word_of kind.Clock = codes "clock"
word_of kind.Listening = codes "listening"
word_of kind.Control = codes "control"

-- ---- what follows the date, by the event, with the newline; n is the neighbour's number

abbrev pub send_text : (to address peer : List ℕ) → (money workers : ℕ) → List ℕ
send_text to address peer money workers =
    codes "start command=send to=" ⧺ quoted to ⧺ codes " address=" ⧺ quoted address ⧺ codes " peer=" ⧺ quoted peer
    ⧺ codes " money=" ⧺ decimal money ⧺ codes " workers=" ⧺ decimal workers ⧺ 10 ∷ []

abbrev pub receive_text : (listen address peer : List ℕ) → (most : ℕ) → List ℕ
receive_text listen address peer most =
    codes "start command=receive listen=" ⧺ quoted listen ⧺ codes " address=" ⧺ quoted address ⧺ codes " peer=" ⧺ quoted peer
    ⧺ codes " receive_max=" ⧺ decimal most ⧺ 10 ∷ []

abbrev pub connector_text : (listen own : List ℕ) → (workers requests : ℕ) → List ℕ
connector_text listen own workers requests =
    codes "start command=connector listen=" ⧺ quoted listen ⧺ codes " own=" ⧺ quoted own
    ⧺ codes " workers=" ⧺ decimal workers ⧺ codes " requests=" ⧺ decimal requests ⧺ 10 ∷ []

-- of a connector that answers any number
abbrev pub endless_text : (listen own : List ℕ) → (workers : ℕ) → List ℕ
endless_text listen own workers =
    codes "start command=connector listen=" ⧺ quoted listen ⧺ codes " own=" ⧺ quoted own
    ⧺ codes " workers=" ⧺ decimal workers ⧺ codes " requests=endless\n"

abbrev pub start_text : Start → List ℕ
start_text (start.Send to address peer money workers) = send_text to.now address.now peer.now money workers
start_text (start.Receive listen address peer most) = receive_text listen.now address.now peer.now most
start_text (start.Connector listen own workers (Some requests)) = connector_text listen.now own.now workers requests
start_text (start.Connector listen own workers None) = endless_text listen.now own.now workers

-- an address of the system has no byte that is escaped, so it is written without quotes
abbrev pub listening_text : (address : List ℕ) → List ℕ
listening_text address = codes "listening address=" ⧺ all_escaped address ⧺ 10 ∷ []

abbrev pub link_text : (n fault : ℕ) → List ℕ
link_text n fault = codes "exchange neighbour=" ⧺ decimal n ⧺ codes " cause=link fault=" ⧺ decimal fault ⧺ 10 ∷ []

abbrev pub status_text : (n fault status : ℕ) → List ℕ
status_text n fault status =
    codes "exchange neighbour=" ⧺ decimal n ⧺ codes " cause=link fault=" ⧺ decimal fault ⧺ codes " status=" ⧺ decimal status ⧺ 10 ∷ []

abbrev pub reject_front : (n : ℕ) → (code : List ℕ) → List ℕ
reject_front n code = codes "exchange neighbour=" ⧺ decimal n ⧺ codes " cause=reject code=" ⧺ all_escaped code ⧺ codes " "

abbrev pub reject_back : (by message : List ℕ) → List ℕ
reject_back by message = codes "triggered_by=" ⧺ quoted_short by ⧺ codes " message=" ⧺ quoted_short message ⧺ 10 ∷ []

abbrev pub plain_cause_text : (n : ℕ) → (word : List ℕ) → List ℕ
plain_cause_text n word = codes "exchange neighbour=" ⧺ decimal n ⧺ codes " cause=" ⧺ word ⧺ 10 ∷ []

-- why no connection was made, in a word
abbrev pub unreached_word : Unreached → List ℕ
unreached_word unreached.Other = codes "unreached"
unreached_word unreached.Descriptors = codes "descriptors"
unreached_word unreached.Name = codes "name"
unreached_word unreached.Refused = codes "refused"
unreached_word unreached.Timeout = codes "timeout"

abbrev pub exchange_text : (n : ℕ) → Cause → List ℕ
exchange_text n (cause.Link fault None) = link_text n fault
exchange_text n (cause.Link fault (Some status)) = status_text n fault status
exchange_text n (cause.Unreached why) = plain_cause_text n (unreached_word why)
exchange_text n (cause.Reject code by message) = reject_front n code ⧺ reject_back by.now message.now
exchange_text n cause.Unfit = plain_cause_text n (codes "fulfillment")
exchange_text n cause.Unreadable = plain_cause_text n (codes "answer")
exchange_text n cause.NoMemory = plain_cause_text n (codes "memory")

abbrev pub refused_text : (n : ℕ) → (code : List ℕ) → List ℕ
refused_text n code = codes "refused neighbour=" ⧺ decimal n ⧺ codes " code=" ⧺ all_escaped code ⧺ 10 ∷ []

abbrev pub reason_text : (n : ℕ) → (code : List ℕ) → (reason : ℕ) → List ℕ
reason_text n code reason =
    codes "refused neighbour=" ⧺ decimal n ⧺ codes " code=" ⧺ all_escaped code ⧺ codes " reason=" ⧺ decimal reason ⧺ 10 ∷ []

-- from is the address of the other side
abbrev pub connection_text : Lost → (from : List ℕ) → List ℕ
connection_text (lost.Status status) from = codes "connection status=" ⧺ decimal status ⧺ codes " from=" ⧺ quoted from ⧺ 10 ∷ []
connection_text lost.Cut from = codes "connection cut from=" ⧺ quoted from ⧺ 10 ∷ []

abbrev pub limit_text : (n most : ℕ) → List ℕ
limit_text n most = codes "limit neighbour=" ⧺ decimal n ⧺ codes " most=" ⧺ decimal most ⧺ 10 ∷ []

abbrev pub waits_text : Blocked → List ℕ
waits_text (blocked.Connection limit) = codes "waits at=connection-data limit=" ⧺ decimal limit ⧺ 10 ∷ []
waits_text (blocked.Data stream limit) =
    codes "waits at=stream-data stream=" ⧺ decimal stream ⧺ codes " limit=" ⧺ decimal limit ⧺ 10 ∷ []
waits_text (blocked.Money stream receive_max total) =
    codes "waits at=stream-money stream=" ⧺ decimal stream ⧺ codes " receive_max=" ⧺ decimal receive_max
    ⧺ codes " total=" ⧺ decimal total ⧺ 10 ∷ []

abbrev pub clock_text : (back : ℕ) → List ℕ
clock_text back = codes "clock set_back_ms=" ⧺ decimal back ⧺ 10 ∷ []

-- anybody who may write to the pipe writes the line, so it is cut as a peer's text is
abbrev pub control_text : (line : List ℕ) → Heard → List ℕ
control_text line heard.Done = codes "control line=" ⧺ quoted_short line ⧺ 10 ∷ []
control_text line heard.Unknown = codes "control unknown line=" ⧺ quoted_short line ⧺ 10 ∷ []
control_text line (heard.Failed words) = codes "control failed line=" ⧺ quoted_short line ⧺ codes " words=" ⧺ quoted words.now ⧺ 10 ∷ []

abbrev pub table_text : (line : ℕ) → (words : List ℕ) → List ℕ
table_text line words = codes "table line=" ⧺ decimal line ⧺ codes " words=" ⧺ quoted words ⧺ 10 ∷ []

abbrev pub closed_text : (stream : ℕ) → List ℕ
closed_text stream = codes "closed stream=" ⧺ decimal stream ⧺ 10 ∷ []

abbrev pub aborted_text : (stream code : ℕ) → List ℕ
aborted_text stream code = codes "closed stream=" ⧺ decimal stream ⧺ codes " code=" ⧺ decimal code ⧺ 10 ∷ []

abbrev pub end_text : EndTotals → List ℕ
end_text t = codes "totals accepted=" ⧺ decimal t.accepted ⧺ codes " delivered=" ⧺ decimal t.delivered
    ⧺ codes " credited=" ⧺ decimal t.credited ⧺ codes " paid=" ⧺ decimal t.paid ⧺ 10 ∷ []

abbrev pub account_front : (n : ℕ) → AccountCounts → List ℕ
account_front n t = codes "totals neighbour=" ⧺ decimal n ⧺ codes " claims=" ⧺ decimal t.claims ⧺ codes " dues=" ⧺ decimal t.dues
    ⧺ codes " held=" ⧺ decimal t.held ⧺ codes " "

abbrev pub account_back : AccountCounts → List ℕ
account_back t = codes "fulfilled=" ⧺ decimal t.fulfilled ⧺ codes " rejected=" ⧺ decimal t.rejected
    ⧺ codes " lost=" ⧺ decimal t.lost ⧺ codes " refused=" ⧺ decimal t.refused ⧺ 10 ∷ []

abbrev pub rejects_text : (n : ℕ) → (code : List ℕ) → (count : ℕ) → List ℕ
rejects_text n code count = codes "totals neighbour=" ⧺ decimal n ⧺ codes " code=" ⧺ all_escaped code ⧺ codes " rejected=" ⧺ decimal count ⧺ 10 ∷ []

-- whether an event of this kind is about a neighbour: anybody may connect
abbrev pub is_of_neighbour : Kind → Bool
is_of_neighbour kind.Exchange = true
is_of_neighbour kind.Refused = true
is_of_neighbour kind.Limit = true
is_of_neighbour kind.Totals = true
is_of_neighbour k = false

abbrev pub neighbours_more_text : (n : ℕ) → Kind → (count : ℕ) → List ℕ
neighbours_more_text n k count =
    codes "more neighbour=" ⧺ decimal n ⧺ codes " event=" ⧺ word_of k ⧺ codes " count=" ⧺ decimal count ⧺ 10 ∷ []

abbrev pub nobodys_more_text : Kind → (count : ℕ) → List ℕ
nobodys_more_text k count = codes "more event=" ⧺ word_of k ⧺ codes " count=" ⧺ decimal count ⧺ 10 ∷ []

abbrev pub more_text : (n : ℕ) → Kind → (count : ℕ) → List ℕ
more_text n k count = if is_of_neighbour k then neighbours_more_text n k count else nobodys_more_text k count

abbrev pub no_room_text : (count : ℕ) → List ℕ
no_room_text count = codes "more lost=" ⧺ decimal count ⧺ 10 ∷ []

abbrev pub failed_text : (fault : ℕ) → (words : List ℕ) → List ℕ
failed_text fault words = codes "end fault=" ⧺ decimal fault ⧺ codes " words=" ⧺ quoted words ⧺ 10 ∷ []

abbrev pub event_text : (n : ℕ) → Event → List ℕ
event_text n (event.Start s) = start_text s
event_text n (event.Listening address) = listening_text address.now
event_text n (event.Exchange c) = exchange_text n c
event_text n (event.Refused code None) = refused_text n code
event_text n (event.Refused code (Some reason)) = reason_text n code reason
event_text n (event.Connection l from) = connection_text l from.now
event_text n (event.Limit most) = limit_text n most
event_text n (event.Waits b) = waits_text b
event_text n (event.Clock back) = clock_text back
event_text n (event.Control line h) = control_text line.now h
event_text n event.NewBooks = codes "books new\n"
event_text n (event.Table line words) = table_text line words.now
event_text n (event.Closed stream None) = closed_text stream
event_text n (event.Closed stream (Some code)) = aborted_text stream code
event_text n (event.End t) = end_text t
event_text n (event.Account t) = account_front n t ⧺ account_back t
event_text n (event.Rejects code count) = rejects_text n code count
event_text n (event.More k count) = more_text n k count
event_text n (event.NoRoom count) = no_room_text count
event_text n event.Done = codes "end ok\n"
event_text n (event.Failed fault words) = failed_text fault words.now

-- ---- the whole line

unfoldable pub line_text : (moment : ℤ) → (n : ℕ) → Event → List ℕ
line_text moment n e = date_text moment ⧺ 32 ∷ event_text n e
