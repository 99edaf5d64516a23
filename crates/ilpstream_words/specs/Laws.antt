-- What plain arguments ask for, whatever the texts in them are.
use Rattle.std.specs.Prelude.{◌≡◌, ◌≢◌, ℕ, false, true, List, [], ◌∷◌, ◌++◌, codes, Option, Some, None}
use Rattle.clap.specs.Words.{Row, Text}
use Rattle.clap.specs.declared.error.kind.ErrorKind.TheVariants.{ArgumentConflict, MissingRequiredArgument}
use Rattle.ilpstream_words.specs.Words.{command_of, connector_texts, ledger_texts, receive_texts, refusals, send_texts}

-- the words of `send` with these texts
abbrev pub send_words : Text → Text → Text → Text → Text → List Text
send_words to token secret address peer =
    codes "ilpstream" ∷ codes "send" ∷ (codes "--to=" ++ to) ∷ (codes "--token=" ++ token) ∷ (codes "--secret=" ++ secret)
    ∷ (codes "--address=" ++ address) ∷ (codes "--peer=" ++ peer) ∷ []

abbrev pub SendSaysItsTexts : Type 0
SendSaysItsTexts = (to token secret address peer : Text) → (refusals (send_words to token secret address peer) ≡ [])
    × ((rows : List Row) × (command_of (send_words to token secret address peer) ≡ Some (codes "send", rows)) × (send_texts rows ≡ record {
      to = to;
      token = Some token;
      token_file = None;
      secret = Some secret;
      secret_file = None;
      address = address;
      peer = peer;
      money = codes "0";
      workers = codes "4";
      patience = codes "10";
      random = codes "/dev/urandom";
      least = codes "1:1";
      totals = None;
      log = None;
    }))

-- the words of `send` with a token and a secret in files, and a file for events
abbrev pub filed_words : Text → Text → Text → Text → Text → Text → List Text
filed_words to token secret address peer log =
    codes "ilpstream" ∷ codes "send" ∷ (codes "--to=" ++ to) ∷ (codes "--token-file=" ++ token) ∷ (codes "--secret-file=" ++ secret)
    ∷ (codes "--address=" ++ address) ∷ (codes "--peer=" ++ peer) ∷ (codes "--log=" ++ log) ∷ []

abbrev pub FilesSayTheirNames : Type 0
FilesSayTheirNames = (to token secret address peer log : Text) → (refusals (filed_words to token secret address peer log) ≡ [])
    × ((rows : List Row) × (command_of (filed_words to token secret address peer log) ≡ Some (codes "send", rows)) × (send_texts rows ≡ record {
      to = to;
      token = None;
      token_file = Some token;
      secret = None;
      secret_file = Some secret;
      address = address;
      peer = peer;
      money = codes "0";
      workers = codes "4";
      patience = codes "10";
      random = codes "/dev/urandom";
      least = codes "1:1";
      totals = None;
      log = Some log;
    }))

-- the words of `receive` with these texts
abbrev pub receive_words : Text → Text → Text → Text → Text → List Text
receive_words listen token secret address peer =
    codes "ilpstream" ∷ codes "receive" ∷ (codes "--listen=" ++ listen) ∷ (codes "--token=" ++ token) ∷ (codes "--secret=" ++ secret)
    ∷ (codes "--address=" ++ address) ∷ (codes "--peer=" ++ peer) ∷ []

abbrev pub ReceiveSaysItsTexts : Type 0
ReceiveSaysItsTexts = (listen token secret address peer : Text) → (refusals (receive_words listen token secret address peer) ≡ [])
    × ((rows : List Row) × (command_of (receive_words listen token secret address peer) ≡ Some (codes "receive", rows)) × (receive_texts rows ≡ record {
      listen = listen;
      token = Some token;
      token_file = None;
      secret = Some secret;
      secret_file = None;
      address = address;
      peer = peer;
      receive_max = codes "0";
      workers = codes "4";
      patience = None;
      totals = None;
      log = None;
      verbose = false;
      control = None;
    }))

-- the words of `connector` with these texts, for a thousand requests
abbrev pub connector_words : Text → Text → List Text
connector_words listen own = codes "ilpstream" ∷ codes "connector" ∷ (codes "--listen=" ++ listen) ∷ (codes "--own=" ++ own) ∷ codes "--requests=1000" ∷ []

-- words of `connector` say these texts, and these files for totals and books
abbrev pub SayConnector : List Text → (listen own : Text) → (totals ledger : Option Text) → Type 0
SayConnector words listen own totals ledger = (refusals words ≡ [])
    × ((rows : List Row) × (command_of words ≡ Some (codes "connector", rows)) × (connector_texts rows ≡ record {
      listen = listen;
      own = own;
      requests = Some (codes "1000");
      workers = codes "4";
      totals = totals;
      log = None;
      ledger = ledger;
      keep_fulfillments = false;
      verbose = false;
      control = None;
      table = None;
    }))

abbrev pub ConnectorSaysItsTexts : Type 0
ConnectorSaysItsTexts = (listen own : Text) → SayConnector (connector_words listen own) listen own None None

-- the same without end
abbrev pub endless_words : Text → Text → List Text
endless_words listen own = codes "ilpstream" ∷ codes "connector" ∷ (codes "--listen=" ++ listen) ∷ (codes "--own=" ++ own) ∷ codes "--endless" ∷ []

abbrev pub EndlessSaysNoNumber : Type 0
EndlessSaysNoNumber = (listen own : Text) → (refusals (endless_words listen own) ≡ [])
    × ((rows : List Row) × (command_of (endless_words listen own) ≡ Some (codes "connector", rows)) × (connector_texts rows ≡ record {
      listen = listen;
      own = own;
      requests = None;
      workers = codes "4";
      totals = None;
      log = None;
      ledger = None;
      keep_fulfillments = false;
      verbose = false;
      control = None;
      table = None;
    }))

-- with a number in addition it is refused, and so is a command with neither
abbrev pub RequestsAreSaidOnce : Type 0
RequestsAreSaidOnce = (listen own : Text)
    → (refusals (connector_words listen own ++ codes "--endless" ∷ []) ≡ ArgumentConflict ∷ [])
    × (refusals (codes "ilpstream" ∷ codes "connector" ∷ (codes "--listen=" ++ listen) ∷ (codes "--own=" ++ own) ∷ []) ≡ MissingRequiredArgument ∷ [])

-- the same with a file for totals and one for books
abbrev pub BooksSayTheirFile : Type 0
BooksSayTheirFile = (listen own totals ledger : Text)
    → SayConnector (connector_words listen own ++ (codes "--totals=" ++ totals) ∷ (codes "--ledger=" ++ ledger) ∷ []) listen own (Some totals) (Some ledger)

-- the same if the books are to keep fulfillments; without books that is refused
abbrev pub KeepingNeedsBooks : Type 0
KeepingNeedsBooks = (listen own ledger : Text)
    → (refusals (connector_words listen own ++ codes "--keep-fulfillments" ∷ []) ≡ MissingRequiredArgument ∷ [])
    × (refusals (connector_words listen own ++ (codes "--ledger=" ++ ledger) ∷ codes "--keep-fulfillments" ∷ []) ≡ [])
    × ((rows : List Row) × (command_of (connector_words listen own ++ (codes "--ledger=" ++ ledger) ∷ codes "--keep-fulfillments" ∷ []) ≡ Some (codes "connector", rows)) × (connector_texts rows ≡ record {
      listen = listen;
      own = own;
      requests = Some (codes "1000");
      workers = codes "4";
      totals = None;
      log = None;
      ledger = Some ledger;
      keep_fulfillments = true;
      verbose = false;
      control = None;
      table = None;
    }))

-- an endless connector with a pipe for orders and a table in a file, which reports where it listens
abbrev pub ControlSaysItsNames : Type 0
ControlSaysItsNames = (listen own control table : Text)
    → (refusals (endless_words listen own ++ (codes "--control=" ++ control) ∷ (codes "--table=" ++ table) ∷ codes "--verbose" ∷ []) ≡ [])
    × ((rows : List Row) × (command_of (endless_words listen own ++ (codes "--control=" ++ control) ∷ (codes "--table=" ++ table) ∷ codes "--verbose" ∷ []) ≡ Some (codes "connector", rows))
    × (connector_texts rows ≡ record {
      listen = listen;
      own = own;
      requests = None;
      workers = codes "4";
      totals = None;
      log = None;
      ledger = None;
      keep_fulfillments = false;
      verbose = true;
      control = Some control;
      table = Some table;
    }))

-- words of `ledger` say this file, and the words of a payment or none
abbrev pub SayLedger : List Text → (file : Text) → Option (List Text) → Type 0
SayLedger words file payment = (refusals words ≡ [])
    × ((rows : List Row) × (command_of words ≡ Some (codes "ledger", rows)) × (ledger_texts rows ≡ record { file = file; payment = payment }))

-- any file whose name does not begin with a hyphen
abbrev pub LedgerSaysItsFile : Type 0
LedgerSaysItsFile = (first : ℕ) (rest : Text) → first ≢ 45 → SayLedger (codes "ilpstream" ∷ codes "ledger" ∷ (first ∷ rest) ∷ []) (first ∷ rest) None

-- and any name and amount, also an amount that begins with a minus
abbrev pub PaymentSaysItsTexts : Type 0
PaymentSaysItsTexts = (first : ℕ) (rest name amount : Text) → first ≢ 45
    → SayLedger (codes "ilpstream" ∷ codes "ledger" ∷ (first ∷ rest) ∷ codes "settle" ∷ name ∷ amount ∷ []) (first ∷ rest) (Some (codes "settle" ∷ name ∷ amount ∷ []))

-- and any reference after them
abbrev pub ReferenceSaysItsTexts : Type 0
ReferenceSaysItsTexts = (first : ℕ) (rest name amount reference : Text) → first ≢ 45
    → SayLedger (codes "ilpstream" ∷ codes "ledger" ∷ (first ∷ rest) ∷ codes "settle" ∷ name ∷ amount ∷ codes "--reference" ∷ reference ∷ []) (first ∷ rest)
    (Some (codes "settle" ∷ name ∷ amount ∷ codes "--reference" ∷ reference ∷ []))

-- and those of an adjustment
abbrev pub AdjustmentSaysItsTexts : Type 0
AdjustmentSaysItsTexts = (first : ℕ) (rest name side amount reference : Text) → first ≢ 45
    → SayLedger (codes "ilpstream" ∷ codes "ledger" ∷ (first ∷ rest) ∷ codes "adjust" ∷ name ∷ side ∷ amount ∷ codes "--reference" ∷ reference ∷ []) (first ∷ rest)
    (Some (codes "adjust" ∷ name ∷ side ∷ amount ∷ codes "--reference" ∷ reference ∷ []))
