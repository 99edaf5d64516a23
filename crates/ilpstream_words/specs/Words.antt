-- What the arguments of the command line ask for, by what clap makes of them.
use Rattle.std.specs.Prelude.{◌≡◌, List, [], codes, Option, Some, None, Result, Ok, Err, unwrap_or}
use Rattle.clap.specs.Kinds.{or_else}
use Rattle.clap.specs.Words.{HasKind, Kinds, Row, Text, all_of, fault_of, first_of, subcommand_of}
use Rattle.ilpstream_settings.specs.Ledger as ledger
use Rattle.ilpstream_settings.specs.Numbers.{IsNumber}
use Rattle.ilpstream_settings.specs.Settings as settings
use Rattle.ilpstream_words.specs.declared.error.WordsError.{WordsError}
use Rattle.ilpstream_words.specs.declared.error.WordsError.TheVariants.{Refused, BadOption}
use Rattle.ilpstream_words.specs.declared.request.Request.{Request}
use Rattle.ilpstream_words.specs.declared.request.Request.TheVariants as request
use Rattle.ilpstream_words.specs.Pairs.{is_set, pairs_fault}
use Rattle.ilpstream_words.specs.Program.{program}

-- the value that an option has by these arguments, or by its default; no text if it has none
abbrev pub value_of : Text → List Row → Text
value_of name rows = unwrap_or (first_of name rows) []

abbrev pub local_texts : List Row → settings.LocalTexts
local_texts rows = record {
  hops = value_of (codes "hops") rows;
  lose = value_of (codes "lose") rows;
  streams = value_of (codes "streams") rows;
  totals = first_of (codes "totals") rows;
}

abbrev pub send_texts : List Row → settings.SendTexts
send_texts rows = record {
  to = value_of (codes "to") rows;
  token = first_of (codes "token") rows;
  token_file = first_of (codes "token-file") rows;
  secret = first_of (codes "secret") rows;
  secret_file = first_of (codes "secret-file") rows;
  address = value_of (codes "address") rows;
  peer = value_of (codes "peer") rows;
  money = value_of (codes "money") rows;
  workers = value_of (codes "workers") rows;
  patience = value_of (codes "patience") rows;
  random = value_of (codes "random") rows;
  least = value_of (codes "least") rows;
  totals = first_of (codes "totals") rows;
  log = first_of (codes "log") rows;
}

abbrev pub receive_texts : List Row → settings.ReceiveTexts
receive_texts rows = record {
  listen = value_of (codes "listen") rows;
  token = first_of (codes "token") rows;
  token_file = first_of (codes "token-file") rows;
  secret = first_of (codes "secret") rows;
  secret_file = first_of (codes "secret-file") rows;
  address = value_of (codes "address") rows;
  peer = value_of (codes "peer") rows;
  receive_max = value_of (codes "receive-max") rows;
  workers = value_of (codes "workers") rows;
  patience = first_of (codes "patience") rows;
  totals = first_of (codes "totals") rows;
  log = first_of (codes "log") rows;
  verbose = is_set (codes "verbose") rows;
  control = first_of (codes "control") rows;
}

abbrev pub connector_texts : List Row → settings.ConnectorTexts
connector_texts rows = record {
  listen = value_of (codes "listen") rows;
  own = value_of (codes "own") rows;
  requests = first_of (codes "requests") rows;
  workers = value_of (codes "workers") rows;
  totals = first_of (codes "totals") rows;
  log = first_of (codes "log") rows;
  ledger = first_of (codes "ledger") rows;
  keep_fulfillments = is_set (codes "keep-fulfillments") rows;
  verbose = is_set (codes "verbose") rows;
  control = first_of (codes "control") rows;
  table = first_of (codes "table") rows;
}

abbrev pub ledger_texts : List Row → ledger.LedgerTexts
ledger_texts rows = record {
  file = value_of (codes "file") rows;
  payment = all_of (codes "payment") rows;
}

-- a command of this name, with these values of its options, asks for this
abbrev pub Asks : Text → List Row → Request → Type 0
Asks name rows request.Frames = name ≡ codes "frames"
Asks name rows (request.Local s) = (name ≡ codes "local") × settings.IsLocal (local_texts rows) s
Asks name rows (request.Send s) = (name ≡ codes "send") × settings.IsSend (send_texts rows) s
Asks name rows (request.Receive s) = (name ≡ codes "receive") × settings.IsReceive (receive_texts rows) s
Asks name rows (request.Connector s) = (name ≡ codes "connector") × settings.IsConnector (connector_texts rows) s
Asks name rows (request.Ledger s) = (name ≡ codes "ledger") × ledger.IsLedger (ledger_texts rows) s
Asks name rows (request.Explain n) = (name ≡ codes "explain") × IsNumber 255 (value_of (codes "number") rows) n

-- it asks for nothing
abbrev pub IsBad : Text → List Row → Type 0
IsBad name rows = (r : Request) → ¬ (Asks name rows r)

-- the command that clap makes of the words, with the values of its options
abbrev pub command_of : List Text → Option (Text × List Row)
command_of words = subcommand_of program words

-- why the arguments may be refused: what clap answers, or otherwise what is wrong with the pairs of options. They are accepted if
-- this is empty
abbrev pub refusals : List Text → Kinds
refusals words = or_else (fault_of program words) (pairs_fault (command_of words))

-- arguments that are accepted ask for this: without a command for `frames`
abbrev pub AsksBy : Option (Text × List Row) → Request → Type 0
AsksBy None r = r ≡ request.Frames
AsksBy (Some (name, rows)) r = Asks name rows r

-- what the arguments ask for, or why they are refused
abbrev pub Reads : List Text → Result Request WordsError → Type 0
Reads words (Ok r) = (refusals words ≡ []) × AsksBy (command_of words) r
Reads words (Err (Refused e)) = HasKind (refusals words) e
Reads words (Err BadOption) = (refusals words ≡ []) × ((r : Request) → ¬ (AsksBy (command_of words) r))
