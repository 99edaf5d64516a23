-- What clap's getters give, and which command a name is.
use Rattle.std.proofs.Common.{◌≡◌, ◌≢◌, ℕ, true, false, Option, Some, None, List, [], Bor, codes, refl, sym, ap, ◌∙◌}
use Rattle.std.specs.Prelude.{bytes_eq, option_map, unwrap_or}
use Rattle.std.proofs.lemmas.Slice.Eq.{bytes_eq-Decides}
use Rattle.clap.specs.Words.{Row, Text, first_of}
use Rattle.clap.specs.Faults.{is_simple_and_free}
use Rattle.clap.specs.Simple.{is_simple}
use Rattle.ilpstream_settings.specs.Ledger as ledger
use Rattle.ilpstream_settings.specs.Numbers.{IsNumber}
use Rattle.ilpstream_settings.specs.Settings as settings
use Rattle.ilpstream_settings.specs.declared.settings.LocalRequest.{LocalRequest}
use Rattle.ilpstream_settings.specs.declared.settings.SendSettings.{SendSettings}
use Rattle.ilpstream_settings.specs.declared.settings.ReceiveSettings.{ReceiveSettings}
use Rattle.ilpstream_settings.specs.declared.settings.ConnectorSettings.{ConnectorSettings}
use Rattle.ilpstream_settings.specs.declared.ledger.LedgerSettings.{LedgerSettings}
use Rattle.ilpstream_words.specs.declared.request.Request.TheVariants as request
use Rattle.ilpstream_words.specs.Program.{program}
use Rattle.ilpstream_words.specs.Words.{IsBad, connector_texts, ledger_texts, local_texts, receive_texts, send_texts, value_of}

pub is_simple_program : is_simple program ≡ true
is_simple_program = refl

pub is_free_program : is_simple_and_free program ≡ true
is_free_program = refl

or_empty : (o : Option (Bor Text)) (d : Bor Text) → d.now ≡ [] → (unwrap_or o d).now ≡ unwrap_or (option_map (λ s. s.now) o) []
or_empty None d is = is
or_empty (Some s) d is = refl

-- the value that an option has, and no text in its place
pub value_said : (rows : List Row) (name : Text) (o : Option (Bor Text)) (d r : Bor Text) → settings.said o ≡ first_of name rows → r ≡ unwrap_or o d → d.now ≡ []
    → r.now ≡ value_of name rows
value_said rows name o d r given is empty = ap (λ (s : Bor Text). s.now) is ∙ or_empty o d empty ∙ ap (λ (x : Option Text). unwrap_or x []) given

unlike : (s t : Text) → bytes_eq s t ≡ false → s ≢ t
unlike s t differs e =
    let yes : bytes_eq s t ≡ true = (bytes_eq-Decides s t).1 e in
    let wrong : true ≡ false = sym yes ∙ differs in
    absurd (cc)

module _ (name : Text) (rows : List Row) where
  pub bad_local : name ≡ codes "local" → ((s : LocalRequest) → ¬ (settings.IsLocal (local_texts rows) s)) → IsBad name rows
  bad_local is none request.Frames asks = unlike (codes "local") (codes "frames") refl (sym is ∙ asks)
  bad_local is none (request.Local s) asks = none s asks.1
  bad_local is none (request.Send s) asks = unlike (codes "local") (codes "send") refl (sym is ∙ asks.0)
  bad_local is none (request.Receive s) asks = unlike (codes "local") (codes "receive") refl (sym is ∙ asks.0)
  bad_local is none (request.Connector s) asks = unlike (codes "local") (codes "connector") refl (sym is ∙ asks.0)
  bad_local is none (request.Ledger s) asks = unlike (codes "local") (codes "ledger") refl (sym is ∙ asks.0)
  bad_local is none (request.Explain n) asks = unlike (codes "local") (codes "explain") refl (sym is ∙ asks.0)

  pub bad_send : name ≡ codes "send" → ((s : SendSettings) → ¬ (settings.IsSend (send_texts rows) s)) → IsBad name rows
  bad_send is none request.Frames asks = unlike (codes "send") (codes "frames") refl (sym is ∙ asks)
  bad_send is none (request.Local s) asks = unlike (codes "send") (codes "local") refl (sym is ∙ asks.0)
  bad_send is none (request.Send s) asks = none s asks.1
  bad_send is none (request.Receive s) asks = unlike (codes "send") (codes "receive") refl (sym is ∙ asks.0)
  bad_send is none (request.Connector s) asks = unlike (codes "send") (codes "connector") refl (sym is ∙ asks.0)
  bad_send is none (request.Ledger s) asks = unlike (codes "send") (codes "ledger") refl (sym is ∙ asks.0)
  bad_send is none (request.Explain n) asks = unlike (codes "send") (codes "explain") refl (sym is ∙ asks.0)

  pub bad_receive : name ≡ codes "receive" → ((s : ReceiveSettings) → ¬ (settings.IsReceive (receive_texts rows) s)) → IsBad name rows
  bad_receive is none request.Frames asks = unlike (codes "receive") (codes "frames") refl (sym is ∙ asks)
  bad_receive is none (request.Local s) asks = unlike (codes "receive") (codes "local") refl (sym is ∙ asks.0)
  bad_receive is none (request.Send s) asks = unlike (codes "receive") (codes "send") refl (sym is ∙ asks.0)
  bad_receive is none (request.Receive s) asks = none s asks.1
  bad_receive is none (request.Connector s) asks = unlike (codes "receive") (codes "connector") refl (sym is ∙ asks.0)
  bad_receive is none (request.Ledger s) asks = unlike (codes "receive") (codes "ledger") refl (sym is ∙ asks.0)
  bad_receive is none (request.Explain n) asks = unlike (codes "receive") (codes "explain") refl (sym is ∙ asks.0)

  pub bad_connector : name ≡ codes "connector" → ((s : ConnectorSettings) → ¬ (settings.IsConnector (connector_texts rows) s)) → IsBad name rows
  bad_connector is none request.Frames asks = unlike (codes "connector") (codes "frames") refl (sym is ∙ asks)
  bad_connector is none (request.Local s) asks = unlike (codes "connector") (codes "local") refl (sym is ∙ asks.0)
  bad_connector is none (request.Send s) asks = unlike (codes "connector") (codes "send") refl (sym is ∙ asks.0)
  bad_connector is none (request.Receive s) asks = unlike (codes "connector") (codes "receive") refl (sym is ∙ asks.0)
  bad_connector is none (request.Connector s) asks = none s asks.1
  bad_connector is none (request.Ledger s) asks = unlike (codes "connector") (codes "ledger") refl (sym is ∙ asks.0)
  bad_connector is none (request.Explain n) asks = unlike (codes "connector") (codes "explain") refl (sym is ∙ asks.0)

  pub bad_ledger : name ≡ codes "ledger" → ((s : LedgerSettings) → ¬ (ledger.IsLedger (ledger_texts rows) s)) → IsBad name rows
  bad_ledger is none request.Frames asks = unlike (codes "ledger") (codes "frames") refl (sym is ∙ asks)
  bad_ledger is none (request.Local s) asks = unlike (codes "ledger") (codes "local") refl (sym is ∙ asks.0)
  bad_ledger is none (request.Send s) asks = unlike (codes "ledger") (codes "send") refl (sym is ∙ asks.0)
  bad_ledger is none (request.Receive s) asks = unlike (codes "ledger") (codes "receive") refl (sym is ∙ asks.0)
  bad_ledger is none (request.Connector s) asks = unlike (codes "ledger") (codes "connector") refl (sym is ∙ asks.0)
  bad_ledger is none (request.Ledger s) asks = none s asks.1
  bad_ledger is none (request.Explain n) asks = unlike (codes "ledger") (codes "explain") refl (sym is ∙ asks.0)

  pub bad_explain : name ≡ codes "explain" → ((n : ℕ) → ¬ (IsNumber 255 (value_of (codes "number") rows) n)) → IsBad name rows
  bad_explain is none request.Frames asks = unlike (codes "explain") (codes "frames") refl (sym is ∙ asks)
  bad_explain is none (request.Local s) asks = unlike (codes "explain") (codes "local") refl (sym is ∙ asks.0)
  bad_explain is none (request.Send s) asks = unlike (codes "explain") (codes "send") refl (sym is ∙ asks.0)
  bad_explain is none (request.Receive s) asks = unlike (codes "explain") (codes "receive") refl (sym is ∙ asks.0)
  bad_explain is none (request.Connector s) asks = unlike (codes "explain") (codes "connector") refl (sym is ∙ asks.0)
  bad_explain is none (request.Ledger s) asks = unlike (codes "explain") (codes "ledger") refl (sym is ∙ asks.0)
  bad_explain is none (request.Explain n) asks = none n asks.1
