use Rattle.std.proofs.lemmas.Grind.{common_steps}
use Rattle.std.proofs.Common.{ℕ, List, subst, arith}
use Rattle.clap.specs.Words.{found_of, rows_of}
use Rattle.ilpstream_settings.specs.Ledger as ledger
use Rattle.ilpstream_settings.specs.Numbers.{IsNumber}
use Rattle.ilpstream_settings.specs.Settings as settings
use Rattle.ilpstream_settings.specs.declared.settings.LocalRequest.{LocalRequest}
use Rattle.ilpstream_settings.specs.declared.settings.SendSettings.{SendSettings}
use Rattle.ilpstream_settings.specs.declared.settings.ReceiveSettings.{ReceiveSettings}
use Rattle.ilpstream_settings.specs.declared.settings.ConnectorSettings.{ConnectorSettings}
use Rattle.ilpstream_settings.specs.declared.ledger.LedgerSettings.{LedgerSettings}
use Rattle.ilpstream_words.proofs.Commands.{bad_connector, bad_explain, bad_ledger, bad_local, bad_receive, bad_send}
use Rattle.ilpstream_words.proofs.request.request_of.Goals as goal

pub returns-in_err-read-in-local : goal.returns-in_err-read-in-local
returns-in_err-read-in-local c =
    rw c.from_residual.ensures
    (bad_local c.args.name.now (rows_of (found_of c.args.matches.now)) c.in-local.is
    (subst (λ (t : settings.LocalTexts). (s : LocalRequest) → ¬ (settings.IsLocal t s)) c.local.ensures c.in_err-read-in-local.ensures))

pub returns-in_default-read : goal.returns-in_default-read
returns-in_default-read c =
    bad_send c.args.name.now (rows_of (found_of c.args.matches.now)) c.in-send.is
    (subst (λ (t : settings.SendTexts). (s : SendSettings) → ¬ (settings.IsSend t s)) c.send.ensures c.in_default-read.ensures)

pub returns-in_err-read-in-receive : goal.returns-in_err-read-in-receive
returns-in_err-read-in-receive c =
    rw c.from_residual-in_err-read-in-receive.ensures
    (bad_receive c.args.name.now (rows_of (found_of c.args.matches.now)) c.in-receive.is
    (subst (λ (t : settings.ReceiveTexts). (s : ReceiveSettings) → ¬ (settings.IsReceive t s)) c.receive.ensures c.in_err-read-in-receive.ensures))

pub returns-in_err-read-in-connector : goal.returns-in_err-read-in-connector
returns-in_err-read-in-connector c =
    rw c.from_residual-in_err-read-in-connector.ensures
    (bad_connector c.args.name.now (rows_of (found_of c.args.matches.now)) c.in-connector.is
    (subst (λ (t : settings.ConnectorTexts). (s : ConnectorSettings) → ¬ (settings.IsConnector t s)) c.connector.ensures c.in_err-read-in-connector.ensures))

pub returns-in_err-read-in-ledger : goal.returns-in_err-read-in-ledger
returns-in_err-read-in-ledger c =
    rw c.from_residual-in_err-read-in-ledger.ensures
    (bad_ledger c.args.name.now (rows_of (found_of c.args.matches.now)) c.in-ledger.is
    (subst (λ (t : ledger.LedgerTexts). (s : LedgerSettings) → ¬ (ledger.IsLedger t s)) c.ledger.ensures c.in_err-read-in-ledger.ensures))

pub returns-in_err-byte_of-in-explain : goal.returns-in_err-byte_of-in-explain
returns-in_err-byte_of-in-explain c =
    rw c.from_residual-in_err-byte_of-in-explain.ensures
    (bad_explain c.args.name.now (rows_of (found_of c.args.matches.now)) c.in-explain.is
    (subst (λ (t : List ℕ). (n : ℕ) → ¬ (IsNumber 255 t n)) c.value.ensures c.in_err-byte_of-in-explain.ensures))

pub returns-in-frames : goal.returns-in-frames
returns-in-frames c = grind (arith, common_steps)

pub returns-in_ok-read-in-local : goal.returns-in_ok-read-in-local
returns-in_ok-read-in-local c = grind (arith, common_steps)

pub returns-in-Some : goal.returns-in-Some
returns-in-Some c = grind (arith, common_steps)

pub returns-in_ok-read-in-receive : goal.returns-in_ok-read-in-receive
returns-in_ok-read-in-receive c = grind (arith, common_steps)

pub returns-in_ok-read-in-connector : goal.returns-in_ok-read-in-connector
returns-in_ok-read-in-connector c = grind (arith, common_steps)

pub returns-in_ok-read-in-ledger : goal.returns-in_ok-read-in-ledger
returns-in_ok-read-in-ledger c = grind (arith, common_steps)

pub returns-in_ok-byte_of-in-explain : goal.returns-in_ok-byte_of-in-explain
returns-in_ok-byte_of-in-explain c = grind (arith, common_steps)

pub returns-in_default : goal.returns-in_default
returns-in_default c = grind (arith, common_steps)
