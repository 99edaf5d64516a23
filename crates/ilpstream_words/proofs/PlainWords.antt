-- Plain words: clap's rules compute at them.
use Rattle.std.proofs.Common.{◌≡◌, ◌≢◌, ◌==◌, ℕ, Bool, true, false, Option, Some, None, List, [], ◌∷◌, codes, refl, sym, ◌∙◌}
use Rattle.std.specs.Prelude.{bytes_eq}
use Rattle.std.proofs.lemmas.Bool.{ne_eqb}
use Rattle.clap.specs.Lexer.{long_of, short_of}
use Rattle.clap.specs.Words.{Row, Text}
use Rattle.clap.proofs.OnLiterals.{clap_on_literals}
use Rattle.ilpstream_words.specs.Words.{command_of}
use Rattle.ilpstream_words.specs.Laws.{AdjustmentSaysItsTexts, BooksSayTheirFile, ConnectorSaysItsTexts, ControlSaysItsNames, EndlessSaysNoNumber, FilesSayTheirNames, KeepingNeedsBooks, LedgerSaysItsFile, PaymentSaysItsTexts, ReceiveSaysItsTexts, ReferenceSaysItsTexts, RequestsAreSaidOnce, SayLedger, SendSaysItsTexts}

pub send_plain : SendSaysItsTexts
unfolding clap_on_literals
send_plain to token secret address peer = (refl, (_, refl, refl))

pub files_plain : FilesSayTheirNames
unfolding clap_on_literals
files_plain to token secret address peer log = (refl, (_, refl, refl))

pub receive_plain : ReceiveSaysItsTexts
unfolding clap_on_literals
receive_plain listen token secret address peer = (refl, (_, refl, refl))

pub connector_plain : ConnectorSaysItsTexts
unfolding clap_on_literals
connector_plain listen own = (refl, (_, refl, refl))

pub endless_plain : EndlessSaysNoNumber
unfolding clap_on_literals
endless_plain listen own = (refl, (_, refl, refl))

pub requests_once : RequestsAreSaidOnce
unfolding clap_on_literals
requests_once listen own = (refl, refl)

pub control_plain : ControlSaysItsNames
unfolding clap_on_literals
control_plain listen own control table = (refl, (_, refl, refl))

pub books_plain : BooksSayTheirFile
unfolding clap_on_literals
books_plain listen own totals ledger = (refl, (_, refl, refl))

pub keeping_plain : KeepingNeedsBooks
unfolding clap_on_literals
keeping_plain listen own ledger = (refl, refl, (_, refl, refl))

-- the values that a command has
rows_in : Option (Text × List Row) → List Row
rows_in None = []
rows_in (Some (name, rows)) = rows

-- a word that is neither an option nor the end of options
record IsValue (word : Text) : Type 0 where
  more : bytes_eq word (codes "--") ≡ false
  no_long : long_of word ≡ None
  no_short : short_of word ≡ None

is_value : (first : ℕ) (rest : Text) → first ≢ 45 → IsValue (first ∷ rest)
is_value first rest no_hyphen =
    let other : (first == 45) ≡ false = ne_eqb first 45 no_hyphen in
    record { more = rw other refl; no_long = rw other refl; no_short = rw other refl }

abbrev file_words : Text → List Text
file_words file = codes "ilpstream" ∷ codes "ledger" ∷ file ∷ []

file_plain : (file : Text) → IsValue file → SayLedger (file_words file) file None
unfolding clap_on_literals rows_in
file_plain file is =
    (rw (is.more, is.no_long, is.no_short) refl, (rows_in (command_of (file_words file)), rw (is.more, is.no_long, is.no_short) refl, rw (is.more, is.no_long, is.no_short) refl))

pub ledger_plain : LedgerSaysItsFile
ledger_plain first rest no_hyphen = file_plain (first ∷ rest) (is_value first rest no_hyphen)

abbrev payment_words : Text → Text → Text → List Text
payment_words file name amount = codes "ilpstream" ∷ codes "ledger" ∷ file ∷ codes "settle" ∷ name ∷ amount ∷ []

paid_plain : (file name amount : Text) → IsValue file → SayLedger (payment_words file name amount) file (Some (codes "settle" ∷ name ∷ amount ∷ []))
unfolding clap_on_literals rows_in
paid_plain file name amount is =
    (rw (is.more, is.no_long, is.no_short) refl, (rows_in (command_of (payment_words file name amount)), rw (is.more, is.no_long, is.no_short) refl, rw (is.more, is.no_long, is.no_short) refl))

pub payment_plain : PaymentSaysItsTexts
payment_plain first rest name amount no_hyphen = paid_plain (first ∷ rest) name amount (is_value first rest no_hyphen)

abbrev reference_words : Text → Text → Text → Text → List Text
reference_words file name amount reference = codes "ilpstream" ∷ codes "ledger" ∷ file ∷ codes "settle" ∷ name ∷ amount ∷ codes "--reference" ∷ reference ∷ []

referred_plain : (file name amount reference : Text) → IsValue file → SayLedger (reference_words file name amount reference) file (Some (codes "settle" ∷ name ∷ amount ∷ codes "--reference" ∷ reference ∷ []))
unfolding clap_on_literals rows_in
referred_plain file name amount reference is =
    (rw (is.more, is.no_long, is.no_short) refl, (rows_in (command_of (reference_words file name amount reference)), rw (is.more, is.no_long, is.no_short) refl, rw (is.more, is.no_long, is.no_short) refl))

pub reference_plain : ReferenceSaysItsTexts
reference_plain first rest name amount reference no_hyphen = referred_plain (first ∷ rest) name amount reference (is_value first rest no_hyphen)

abbrev adjustment_words : Text → Text → Text → Text → Text → List Text
adjustment_words file name side amount reference = codes "ilpstream" ∷ codes "ledger" ∷ file ∷ codes "adjust" ∷ name ∷ side ∷ amount ∷ codes "--reference" ∷ reference ∷ []

adjusted_plain : (file name side amount reference : Text) → IsValue file
    → SayLedger (adjustment_words file name side amount reference) file (Some (codes "adjust" ∷ name ∷ side ∷ amount ∷ codes "--reference" ∷ reference ∷ []))
unfolding clap_on_literals rows_in
adjusted_plain file name side amount reference is =
    (rw (is.more, is.no_long, is.no_short) refl, (rows_in (command_of (adjustment_words file name side amount reference)), rw (is.more, is.no_long, is.no_short) refl, rw (is.more, is.no_long, is.no_short) refl))

pub adjustment_plain : AdjustmentSaysItsTexts
adjustment_plain first rest name side amount reference no_hyphen = adjusted_plain (first ∷ rest) name side amount reference (is_value first rest no_hyphen)
