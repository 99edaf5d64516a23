-- The settings that the texts of a command's options say.
use Rattle.std.specs.Prelude.{◌≡◌, ℕ, ◌≤◌, ◌^◌, ◌-◌, Bool, true, ⊤, List, Option, Some, None, option_map}
use Rattle.std.specs.Borrow.{Bor}
use Rattle.st_oer.specs.Address.{is_address}
use Rattle.ilpstream_settings.specs.declared.options.LocalOptions.{LocalOptions}
use Rattle.ilpstream_settings.specs.declared.options.SendOptions.{SendOptions}
use Rattle.ilpstream_settings.specs.declared.options.ReceiveOptions.{ReceiveOptions}
use Rattle.ilpstream_settings.specs.declared.options.ConnectorOptions.{ConnectorOptions}
use Rattle.ilpstream_settings.specs.declared.settings.LocalRequest.{LocalRequest}
use Rattle.ilpstream_settings.specs.declared.settings.SendSettings.{SendSettings}
use Rattle.ilpstream_settings.specs.declared.settings.ReceiveSettings.{ReceiveSettings}
use Rattle.ilpstream_settings.specs.declared.settings.ConnectorSettings.{ConnectorSettings}
use Rattle.ilpstream_settings.specs.Numbers.{IsNumber, IsHostPort, IsRate}
use Rattle.ilpstream_settings.specs.Sources.{SaysSecret, SaysToken}

-- the text writes a number within these bounds
pub record IsWithin (least most : ℕ) (text : List ℕ) (n : ℕ) : Type 0 where
  pub number : IsNumber most text n
  pub enough : least ≤ n

-- an option is left out, and there is no number; or its text writes a number within these bounds
abbrev pub IsChosen : (least most : ℕ) → Option (List ℕ) → Option ℕ → Type 0
IsChosen least most None None = ⊤
IsChosen least most None (Some n) = ⊥
IsChosen least most (Some text) None = ⊥
IsChosen least most (Some text) (Some n) = IsWithin least most text n

-- the greatest amount of money
abbrev pub most_money : ℕ
most_money = 2 ^ 63 - 1

abbrev pub most_workers : ℕ
most_workers = 16

-- the text of an option that may be left out
abbrev pub said : Option (Bor (List ℕ)) → Option (List ℕ)
said o = option_map (λ s. s.now) o

-- the texts of `local`
pub record LocalTexts : Type 0 where
  pub hops : List ℕ
  pub lose : List ℕ
  pub streams : List ℕ
  pub totals : Option (List ℕ)

abbrev pub local_texts : LocalOptions → LocalTexts
local_texts o = record {
  hops = o.hops.now;
  lose = o.lose.now;
  streams = o.streams.now;
  totals = said o.totals;
}

-- the texts of `send`
pub record SendTexts : Type 0 where
  pub to : List ℕ
  pub token : Option (List ℕ)
  pub token_file : Option (List ℕ)
  pub secret : Option (List ℕ)
  pub secret_file : Option (List ℕ)
  pub address : List ℕ
  pub peer : List ℕ
  pub money : List ℕ
  pub workers : List ℕ
  pub patience : List ℕ
  pub random : List ℕ
  pub least : List ℕ
  pub totals : Option (List ℕ)
  pub log : Option (List ℕ)

abbrev pub send_texts : SendOptions → SendTexts
send_texts o = record {
  to = o.to.now;
  token = said o.token;
  token_file = said o.token_file;
  secret = said o.secret;
  secret_file = said o.secret_file;
  address = o.address.now;
  peer = o.peer.now;
  money = o.money.now;
  workers = o.workers.now;
  patience = o.patience.now;
  random = o.random.now;
  least = o.least.now;
  totals = said o.totals;
  log = said o.log;
}

-- the texts of `receive`
pub record ReceiveTexts : Type 0 where
  pub listen : List ℕ
  pub token : Option (List ℕ)
  pub token_file : Option (List ℕ)
  pub secret : Option (List ℕ)
  pub secret_file : Option (List ℕ)
  pub address : List ℕ
  pub peer : List ℕ
  pub receive_max : List ℕ
  pub workers : List ℕ
  pub patience : Option (List ℕ)
  pub totals : Option (List ℕ)
  pub log : Option (List ℕ)
  pub verbose : Bool
  pub control : Option (List ℕ)

abbrev pub receive_texts : ReceiveOptions → ReceiveTexts
receive_texts o = record {
  listen = o.listen.now;
  token = said o.token;
  token_file = said o.token_file;
  secret = said o.secret;
  secret_file = said o.secret_file;
  address = o.address.now;
  peer = o.peer.now;
  receive_max = o.receive_max.now;
  workers = o.workers.now;
  patience = said o.patience;
  totals = said o.totals;
  log = said o.log;
  verbose = o.verbose;
  control = said o.control;
}

-- the texts of `connector`
pub record ConnectorTexts : Type 0 where
  pub listen : List ℕ
  pub own : List ℕ
  pub requests : Option (List ℕ)
  pub workers : List ℕ
  pub totals : Option (List ℕ)
  pub log : Option (List ℕ)
  pub ledger : Option (List ℕ)
  pub keep_fulfillments : Bool
  pub verbose : Bool
  pub control : Option (List ℕ)
  pub table : Option (List ℕ)

abbrev pub connector_texts : ConnectorOptions → ConnectorTexts
connector_texts o = record {
  listen = o.listen.now;
  own = o.own.now;
  requests = said o.requests;
  workers = o.workers.now;
  totals = said o.totals;
  log = said o.log;
  ledger = said o.ledger;
  keep_fulfillments = o.keep_fulfillments;
  verbose = o.verbose;
  control = said o.control;
  table = said o.table;
}

-- the texts ask `local` for this
pub record IsLocal (o : LocalTexts) (s : LocalRequest) : Type 0 where
  pub hops : IsWithin 0 8 o.hops s.settings.hops
  pub lose : IsWithin 0 1_000_000 o.lose s.settings.lose
  pub streams : IsWithin 1 32 o.streams s.settings.streams
  pub totals : said s.totals ≡ o.totals

-- the texts ask `send` for this
pub record IsSend (o : SendTexts) (s : SendSettings) : Type 0 where
  pub to : (s.to.now ≡ o.to) × IsHostPort o.to
  pub token : SaysToken o.token o.token_file s.token
  pub secret : SaysSecret o.secret o.secret_file s.secret
  pub address : (s.address.now ≡ o.address) × (is_address o.address ≡ true)
  pub peer : (s.peer.now ≡ o.peer) × (is_address o.peer ≡ true)
  pub money : IsWithin 0 most_money o.money s.money
  pub workers : IsWithin 1 most_workers o.workers s.workers
  pub patience : IsWithin 10 86_400 o.patience s.patience
  pub random : s.random.now ≡ o.random
  pub least : IsRate o.least s.least
  pub totals : said s.totals ≡ o.totals
  pub log : said s.log ≡ o.log

-- the texts ask `receive` for this
pub record IsReceive (o : ReceiveTexts) (s : ReceiveSettings) : Type 0 where
  pub listen : (s.listen.now ≡ o.listen) × IsHostPort o.listen
  pub token : SaysToken o.token o.token_file s.token
  pub secret : SaysSecret o.secret o.secret_file s.secret
  pub address : (s.address.now ≡ o.address) × (is_address o.address ≡ true)
  pub peer : (s.peer.now ≡ o.peer) × (is_address o.peer ≡ true)
  pub receive_max : IsWithin 0 most_money o.receive_max s.receive_max
  pub workers : IsWithin 1 most_workers o.workers s.workers
  pub patience : IsChosen 1 86_400 o.patience s.patience
  pub totals : said s.totals ≡ o.totals
  pub log : said s.log ≡ o.log
  pub verbose : s.verbose ≡ o.verbose
  pub control : said s.control ≡ o.control

-- the texts ask `connector` for this
pub record IsConnector (o : ConnectorTexts) (s : ConnectorSettings) : Type 0 where
  pub listen : (s.listen.now ≡ o.listen) × IsHostPort o.listen
  pub own : (s.own.now ≡ o.own) × (is_address o.own ≡ true)
  pub requests : IsChosen 1 (2 ^ 31 - 1) o.requests s.requests
  pub workers : IsWithin 1 most_workers o.workers s.workers
  pub totals : said s.totals ≡ o.totals
  pub log : said s.log ≡ o.log
  pub ledger : said s.ledger ≡ o.ledger
  pub keep_fulfillments : s.keep_fulfillments ≡ o.keep_fulfillments
  pub verbose : s.verbose ≡ o.verbose
  pub control : said s.control ≡ o.control
  pub table : said s.table ≡ o.table
