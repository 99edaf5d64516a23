use Rattle.ilpstream_words.proofs.PlainWords.{adjustment_plain, books_plain, connector_plain, control_plain, endless_plain, files_plain, keeping_plain, ledger_plain, payment_plain, receive_plain, reference_plain, requests_once, send_plain}
use Rattle.ilpstream_words.proofs.laws.plain_words_say_their_texts.Goals as goal

pub returns : goal.returns
returns c = record {
  send = send_plain;
  files = files_plain;
  receive = receive_plain;
  connector = connector_plain;
  endless = endless_plain;
  requests = requests_once;
  control = control_plain;
  books = books_plain;
  keeping = keeping_plain;
  ledger = ledger_plain;
  payment = payment_plain;
  reference = reference_plain;
  adjustment = adjustment_plain;
}
