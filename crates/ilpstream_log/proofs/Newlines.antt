-- Each line ends with its one newline.
use Rattle.std.proofs.Common.{◌≡◌, ◌≢◌, ℕ, zero, suc, ◌+◌, ◌/◌, ◌%◌, ◌<◌, ◌==◌, Bool, true, false, cond, not, List, [], ◌∷◌, ◌++◌, length, Some, None, refl, sym, ap, ◌∙◌, append_assoc, arith}
use Rattle.std.specs.Prelude.{codes, decimal, nat_lt}
use Rattle.std.specs.Fmt.{digits, digits_onto, digit_glyph}
use Rattle.std.proofs.lemmas.Bool.Decides.{nat_tests}
use Rattle.std.proofs.lemmas.List.Folds.{list_all-append}
use Rattle.st_ilp.specs.Calendar.{DateAndTime, date_and_time}
use Rattle.st_ilp.specs.Expiry.{digit}
use Rattle.ilpstream_log.specs.Quoting.{is_plain, hex_digit, hex_escape, escaped, all_escaped, quoted, most_quoted, fitting, dots, quoted_short}
use Rattle.ilpstream_log.specs.Lines.{◌⧺◌, written_date, date_text, word_of, unreached_word, plain_cause_text, reject_front, reject_back, exchange_text, start_text, waits_text, connection_text, control_text, account_front, account_back, is_of_neighbour, neighbours_more_text, nobodys_more_text, more_text, event_text, line_text}
use Rattle.ilpstream_log.specs.Laws.{has_no_newline, EndsByItsOneNewline, LineHasOneNewline}
use Rattle.ilpstream_log.specs.declared.event.Event.{Event}
use Rattle.ilpstream_log.specs.declared.event.Event.TheVariants as event
use Rattle.ilpstream_log.specs.declared.event.Start.{Start}
use Rattle.ilpstream_log.specs.declared.event.Start.TheVariants as start
use Rattle.ilpstream_log.specs.declared.event.AccountCounts.{AccountCounts}
use Rattle.ilpstream_log.specs.declared.event.Cause.{Cause}
use Rattle.ilpstream_log.specs.declared.event.Cause.TheVariants as cause
use Rattle.ilpstream_log.specs.declared.event.Unreached.{Unreached}
use Rattle.ilpstream_log.specs.declared.event.Unreached.TheVariants as unreached
use Rattle.ilpstream_log.specs.declared.event.Lost.{Lost}
use Rattle.ilpstream_log.specs.declared.event.Lost.TheVariants as lost
use Rattle.st_streams.specs.declared.blocked.Blocked.{Blocked}
use Rattle.st_streams.specs.declared.blocked.Blocked.TheVariants as blocked
use Rattle.ilpstream_log.specs.declared.event.Heard.{Heard}
use Rattle.ilpstream_log.specs.declared.event.Heard.TheVariants as heard
use Rattle.ilpstream_log.specs.declared.event.Kind.{Kind}
use Rattle.ilpstream_log.specs.declared.event.Kind.TheVariants as kind

-- ---- bytes without a newline

other : (b : ℕ) → b ≢ 10 → not (b == 10) ≡ true
other b h = grind (arith, nat_tests)

above : (b : ℕ) → 10 < b → not (b == 10) ≡ true
above b h = other b (λ e. omega (arith, e, h))

-- a text without a newline
record Clean (text : List ℕ) : Type 0 where
  is : has_no_newline text ≡ true

none : Clean []
none = record { is = refl }

cons : (b : ℕ) (text : List ℕ) → not (b == 10) ≡ true → Clean text → Clean (b ∷ text)
cons b text h rest = record { is = rw (h, rest.is) refl }

both : (a b : List ℕ) → Clean a → Clean b → Clean (a ++ b)
both a b x y = record { is = list_all-append (λ c. not (c == 10)) a b ∙ rw (x.is, y.is) refl }

-- ---- numbers

glyph : (d : ℕ) → 10 < digit_glyph false d
glyph d = by_test (nat_lt d 10)
  where
    by_test : (t : Bool) → 10 < cond t (48 + d) (87 + d)
    by_test true = omega arith
    by_test false = omega arith

either : (t : Bool) (a b : List ℕ) → Clean a → Clean b → Clean (cond t a b)
either true a b x y = x
either false a b x y = y

digits_onto_clean : (k n : ℕ) (acc : List ℕ) → Clean acc → Clean (digits_onto k 10 false n acc)
digits_onto_clean zero n acc h = h
digits_onto_clean (suc k) n acc h =
    let d = digit_glyph false (n % 10) in
    let more : Clean (d ∷ acc) = cons d acc (above d (glyph (n % 10))) h in
    either (n / 10 == 0) (d ∷ acc) _ more (digits_onto_clean k (n / 10) (d ∷ acc) more)

decimal_clean : (n : ℕ) → Clean (decimal n)
unfolding digits
decimal_clean n = digits_onto_clean 64 n [] none

-- ---- texts of others

hex_above : (n : ℕ) → 10 < hex_digit n
hex_above n = by_test (nat_lt n 10)
  where
    by_test : (t : Bool) → 10 < cond t (48 + n) (87 + n)
    by_test true = omega arith
    by_test false = omega arith

hex_clean : (b : ℕ) → Clean (hex_escape b)
hex_clean b =
    cons 92 _ refl (cons 120 _ refl (cons (hex_digit (b / 16)) _ (above _ (hex_above (b / 16))) (cons (hex_digit (b % 16)) [] (above _ (hex_above (b % 16))) none)))

plain_above : (b : ℕ) → is_plain b ≡ true → 10 < b
plain_above b h = grind (arith, nat_tests)

plain_or : (b : ℕ) (t : Bool) → is_plain b ≡ t → Clean (cond t (b ∷ []) (hex_escape b))
plain_or b true e = cons b [] (above b (plain_above b e)) none
plain_or b false e = hex_clean b

escaped_clean : (b : ℕ) → Clean (escaped b)
unfolding escaped
escaped_clean b =
    let quote : Clean (92 ∷ 34 ∷ []) = record { is = refl } in
    let slash : Clean (92 ∷ 92 ∷ []) = record { is = refl } in
    either (b == 34) (92 ∷ 34 ∷ []) _ quote (either (b == 92) (92 ∷ 92 ∷ []) _ slash (plain_or b (is_plain b) refl))

all_escaped_clean : (bytes : List ℕ) → Clean (all_escaped bytes)
all_escaped_clean [] = none
all_escaped_clean (b ∷ bytes) = both (escaped b) (all_escaped bytes) (escaped_clean b) (all_escaped_clean bytes)

quoted_clean : (bytes : List ℕ) → Clean (quoted bytes)
unfolding quoted
quoted_clean bytes = cons 34 (all_escaped bytes ++ 34 ∷ []) refl (both (all_escaped bytes) (34 ∷ []) (all_escaped_clean bytes) (cons 34 [] refl none))

dots_clean : (kept text : List ℕ) → Clean (dots kept text)
dots_clean kept text = either (nat_lt (length kept) (length text)) (46 ∷ 46 ∷ []) [] (record { is = refl }) none

short_clean : (bytes : List ℕ) → Clean (quoted_short bytes)
unfolding quoted_short
short_clean bytes =
    let kept = fitting most_quoted bytes in
    cons 34 (all_escaped kept ++ (dots kept bytes ++ 34 ∷ [])) refl (both (all_escaped kept) (dots kept bytes ++ 34 ∷ []) (all_escaped_clean kept)
    (both (dots kept bytes) (34 ∷ []) (dots_clean kept bytes) (cons 34 [] refl none)))

-- ---- dates

digit_above : (n : ℕ) → 10 < digit n
digit_above n = omega arith

one : (n : ℕ) (text : List ℕ) → Clean text → Clean (digit n ∷ text)
one n text h = cons (digit n) text (above (digit n) (digit_above n)) h

date_clean : (t : DateAndTime) → Clean (written_date t)
date_clean t =
    one (t.year / 1000) _ (one (t.year / 100) _ (one (t.year / 10) _ (one t.year _ (cons 45 _ refl (one (t.month / 10) _ (one t.month _
    (cons 45 _ refl (one (t.day / 10) _ (one t.day _ (cons 84 _ refl (one (t.hour / 10) _ (one t.hour _
    (cons 58 _ refl (one (t.minute / 10) _ (one t.minute _ (cons 58 _ refl (one (t.second / 10) _ (one t.second _
    (cons 46 _ refl (one (t.milli / 100) _ (one (t.milli / 10) _ (one t.milli _ (cons 90 _ refl none)))))))))))))))))))))))

-- ---- lines

ends : EndsByItsOneNewline (10 ∷ [])
ends = record { front = []; whole = refl; clean = refl }

more : (text rest : List ℕ) → Clean text → EndsByItsOneNewline rest → EndsByItsOneNewline (text ⧺ rest)
more text rest h e = record {
  front = text ++ e.front;
  whole = ap (λ (t : List ℕ). text ++ t) e.whole ∙ sym (append_assoc text e.front (10 ∷ []));
  clean = (both text e.front h (record { is = e.clean })).is;
}

-- a literal, and then a number or a text of others
number : (text : List ℕ) (n : ℕ) (rest : List ℕ) → has_no_newline text ≡ true → EndsByItsOneNewline rest → EndsByItsOneNewline (text ⧺ decimal n ⧺ rest)
number text n rest h e = more text (decimal n ⧺ rest) (record { is = h }) (more (decimal n) rest (decimal_clean n) e)

said : (text bytes rest : List ℕ) → has_no_newline text ≡ true → EndsByItsOneNewline rest → EndsByItsOneNewline (text ⧺ quoted bytes ⧺ rest)
said text bytes rest h e = more text (quoted bytes ⧺ rest) (record { is = h }) (more (quoted bytes) rest (quoted_clean bytes) e)

said_short : (text bytes rest : List ℕ) → has_no_newline text ≡ true → EndsByItsOneNewline rest → EndsByItsOneNewline (text ⧺ quoted_short bytes ⧺ rest)
said_short text bytes rest h e = more text (quoted_short bytes ⧺ rest) (record { is = h }) (more (quoted_short bytes) rest (short_clean bytes) e)

coded : (text bytes rest : List ℕ) → has_no_newline text ≡ true → EndsByItsOneNewline rest → EndsByItsOneNewline (text ⧺ all_escaped bytes ⧺ rest)
coded text bytes rest h e = more text (all_escaped bytes ⧺ rest) (record { is = h }) (more (all_escaped bytes) rest (all_escaped_clean bytes) e)

-- the same if more of the line follows
number_on : (text : List ℕ) (n : ℕ) (rest : List ℕ) → has_no_newline text ≡ true → Clean rest → Clean (text ⧺ decimal n ⧺ rest)
number_on text n rest h e = both text (decimal n ⧺ rest) (record { is = h }) (both (decimal n) rest (decimal_clean n) e)

coded_on : (text bytes rest : List ℕ) → has_no_newline text ≡ true → Clean rest → Clean (text ⧺ all_escaped bytes ⧺ rest)
coded_on text bytes rest h e = both text (all_escaped bytes ⧺ rest) (record { is = h }) (both (all_escaped bytes) rest (all_escaped_clean bytes) e)

word_clean : (k : Kind) → has_no_newline (word_of k) ≡ true
word_clean kind.Start = refl
word_clean kind.Exchange = refl
word_clean kind.Refused = refl
word_clean kind.Connection = refl
word_clean kind.Limit = refl
word_clean kind.Table = refl
word_clean kind.Closed = refl
word_clean kind.Totals = refl
word_clean kind.More = refl
word_clean kind.End = refl
word_clean kind.Waits = refl
word_clean kind.Clock = refl
word_clean kind.Listening = refl
word_clean kind.Control = refl

-- a literal, a word, and then a literal and a number
word_number : (text word next : List ℕ) (n : ℕ) → has_no_newline text ≡ true → has_no_newline word ≡ true → has_no_newline next ≡ true
    → EndsByItsOneNewline (text ⧺ word ⧺ next ⧺ decimal n ⧺ 10 ∷ [])
word_number text word next n h i j =
    more text (word ⧺ next ⧺ decimal n ⧺ 10 ∷ []) (record { is = h }) (more word (next ⧺ decimal n ⧺ 10 ∷ []) (record { is = i }) (number next n (10 ∷ []) j ends))

unreached_clean : (why : Unreached) → has_no_newline (unreached_word why) ≡ true
unreached_clean unreached.Other = refl
unreached_clean unreached.Descriptors = refl
unreached_clean unreached.Name = refl
unreached_clean unreached.Refused = refl
unreached_clean unreached.Timeout = refl

plain : (n : ℕ) (word : List ℕ) → has_no_newline word ≡ true → EndsByItsOneNewline (plain_cause_text n word)
plain n word h =
    number (codes "exchange neighbour=") n (codes " cause=" ⧺ word ⧺ 10 ∷ []) refl
    (more (codes " cause=") (word ⧺ 10 ∷ []) (record { is = refl }) (more word (10 ∷ []) (record { is = h }) ends))

link : (n fault : ℕ) (rest : List ℕ) → EndsByItsOneNewline rest
    → EndsByItsOneNewline (codes "exchange neighbour=" ⧺ decimal n ⧺ codes " cause=link fault=" ⧺ decimal fault ⧺ rest)
link n fault rest e = number (codes "exchange neighbour=") n _ refl (number (codes " cause=link fault=") fault rest refl e)

reject : (n : ℕ) (code by message : List ℕ) → EndsByItsOneNewline (reject_front n code ⧺ reject_back by message)
reject n code by message =
    more (reject_front n code) (reject_back by message)
    (number_on (codes "exchange neighbour=") n _ refl (coded_on (codes " cause=reject code=") code (codes " ") refl (record { is = refl })))
    (said_short (codes "triggered_by=") by _ refl (said_short (codes " message=") message (10 ∷ []) refl ends))

exchange_ends : (n : ℕ) (c : Cause) → EndsByItsOneNewline (exchange_text n c)
exchange_ends n (cause.Link fault None) = link n fault (10 ∷ []) ends
exchange_ends n (cause.Link fault (Some status)) = link n fault _ (number (codes " status=") status (10 ∷ []) refl ends)
exchange_ends n (cause.Unreached why) = plain n (unreached_word why) (unreached_clean why)
exchange_ends n (cause.Reject code by message) = reject n code by.now message.now
exchange_ends n cause.Unfit = plain n (codes "fulfillment") refl
exchange_ends n cause.Unreadable = plain n (codes "answer") refl
exchange_ends n cause.NoMemory = plain n (codes "memory") refl

start_ends : (s : Start) → EndsByItsOneNewline (start_text s)
start_ends (start.Send to address peer money workers) =
    said (codes "start command=send to=") to.now _ refl (said (codes " address=") address.now _ refl (said (codes " peer=") peer.now _ refl
    (number (codes " money=") money _ refl (number (codes " workers=") workers (10 ∷ []) refl ends))))
start_ends (start.Receive listen address peer most) =
    said (codes "start command=receive listen=") listen.now _ refl (said (codes " address=") address.now _ refl (said (codes " peer=") peer.now _ refl
    (number (codes " receive_max=") most (10 ∷ []) refl ends)))
start_ends (start.Connector listen own workers (Some requests)) =
    said (codes "start command=connector listen=") listen.now _ refl (said (codes " own=") own.now _ refl
    (number (codes " workers=") workers _ refl (number (codes " requests=") requests (10 ∷ []) refl ends)))
start_ends (start.Connector listen own workers None) =
    said (codes "start command=connector listen=") listen.now _ refl (said (codes " own=") own.now _ refl
    (number (codes " workers=") workers (codes " requests=endless\n") refl (more (codes " requests=endless") (10 ∷ []) (record { is = refl }) ends)))

waits_ends : (b : Blocked) → EndsByItsOneNewline (waits_text b)
waits_ends (blocked.Connection limit) = number (codes "waits at=connection-data limit=") limit (10 ∷ []) refl ends
waits_ends (blocked.Data stream limit) =
    number (codes "waits at=stream-data stream=") stream _ refl (number (codes " limit=") limit (10 ∷ []) refl ends)
waits_ends (blocked.Money stream receive_max total) =
    number (codes "waits at=stream-money stream=") stream _ refl (number (codes " receive_max=") receive_max _ refl
    (number (codes " total=") total (10 ∷ []) refl ends))

connection_ends : (l : Lost) (from : List ℕ) → EndsByItsOneNewline (connection_text l from)
connection_ends (lost.Status status) from = number (codes "connection status=") status _ refl (said (codes " from=") from (10 ∷ []) refl ends)
connection_ends lost.Cut from = said (codes "connection cut from=") from (10 ∷ []) refl ends

-- a text that may be cut is part of the line
cut : (text bytes rest : List ℕ) → has_no_newline text ≡ true → EndsByItsOneNewline rest → EndsByItsOneNewline (text ⧺ quoted_short bytes ⧺ rest)
cut text bytes rest h e = more text (quoted_short bytes ⧺ rest) (record { is = h }) (more (quoted_short bytes) rest (short_clean bytes) e)

control_ends : (line : List ℕ) (h : Heard) → EndsByItsOneNewline (control_text line h)
control_ends line heard.Done = cut (codes "control line=") line (10 ∷ []) refl ends
control_ends line heard.Unknown = cut (codes "control unknown line=") line (10 ∷ []) refl ends
control_ends line (heard.Failed words) = cut (codes "control failed line=") line _ refl (said (codes " words=") words.now (10 ∷ []) refl ends)

either_ends : (t : Bool) (a b : List ℕ) → EndsByItsOneNewline a → EndsByItsOneNewline b → EndsByItsOneNewline (cond t a b)
either_ends true a b x y = x
either_ends false a b x y = y

more_ends : (n : ℕ) (k : Kind) (count : ℕ) → EndsByItsOneNewline (more_text n k count)
more_ends n k count =
    let told = word_number (codes " event=") (word_of k) (codes " count=") count refl (word_clean k) refl in
    let one = number (codes "more neighbour=") n _ refl told in
    let other = word_number (codes "more event=") (word_of k) (codes " count=") count refl (word_clean k) refl in
    either_ends (is_of_neighbour k) (neighbours_more_text n k count) (nobodys_more_text k count) one other

account : (n : ℕ) (t : AccountCounts) → EndsByItsOneNewline (account_front n t ⧺ account_back t)
account n t =
    more (account_front n t) (account_back t)
    (number_on (codes "totals neighbour=") n _ refl (number_on (codes " claims=") t.claims _ refl (number_on (codes " dues=") t.dues _ refl
    (number_on (codes " held=") t.held (codes " ") refl (record { is = refl })))))
    (number (codes "fulfilled=") t.fulfilled _ refl (number (codes " rejected=") t.rejected _ refl (number (codes " lost=") t.lost _ refl
    (number (codes " refused=") t.refused (10 ∷ []) refl ends))))

event_ends : (n : ℕ) (e : Event) → EndsByItsOneNewline (event_text n e)
event_ends n (event.Start s) = start_ends s
event_ends n (event.Listening address) = coded (codes "listening address=") address.now (10 ∷ []) refl ends
event_ends n (event.Exchange c) = exchange_ends n c
event_ends n (event.Refused code None) = number (codes "refused neighbour=") n _ refl (coded (codes " code=") code (10 ∷ []) refl ends)
event_ends n (event.Refused code (Some reason)) =
    number (codes "refused neighbour=") n _ refl (coded (codes " code=") code _ refl (number (codes " reason=") reason (10 ∷ []) refl ends))
event_ends n (event.Connection l from) = connection_ends l from.now
event_ends n (event.Limit most) = number (codes "limit neighbour=") n _ refl (number (codes " most=") most (10 ∷ []) refl ends)
event_ends n (event.Waits b) = waits_ends b
event_ends n (event.Clock back) = number (codes "clock set_back_ms=") back (10 ∷ []) refl ends
event_ends n (event.Control line h) = control_ends line.now h
event_ends n event.NewBooks = more (codes "books new") (10 ∷ []) (record { is = refl }) ends
event_ends n (event.Table line words) = number (codes "table line=") line _ refl (said (codes " words=") words.now (10 ∷ []) refl ends)
event_ends n (event.Closed stream None) = number (codes "closed stream=") stream (10 ∷ []) refl ends
event_ends n (event.Closed stream (Some code)) = number (codes "closed stream=") stream _ refl (number (codes " code=") code (10 ∷ []) refl ends)
event_ends n (event.End t) =
    number (codes "totals accepted=") t.accepted _ refl (number (codes " delivered=") t.delivered _ refl
    (number (codes " credited=") t.credited _ refl (number (codes " paid=") t.paid (10 ∷ []) refl ends)))
event_ends n (event.Account t) = account n t
event_ends n (event.Rejects code count) =
    number (codes "totals neighbour=") n _ refl (coded (codes " code=") code _ refl (number (codes " rejected=") count (10 ∷ []) refl ends))
event_ends n (event.More k count) = more_ends n k count
event_ends n (event.NoRoom count) = number (codes "more lost=") count (10 ∷ []) refl ends
event_ends n event.Done = more (codes "end ok") (10 ∷ []) (record { is = refl }) ends
event_ends n (event.Failed fault words) = number (codes "end fault=") fault _ refl (said (codes " words=") words.now (10 ∷ []) refl ends)

pub one_newline : LineHasOneNewline
unfolding line_text date_text
one_newline moment n e =
    more (date_text moment) (32 ∷ event_text n e) (date_clean (date_and_time moment)) (more (32 ∷ []) (event_text n e) (record { is = refl }) (event_ends n e))
