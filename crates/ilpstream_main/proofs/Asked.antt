-- What arguments that ask for a command do not ask for, and what holds of the settings of a command.
use Rattle.std.proofs.Common.{◌≡◌, ◌≢◌, ℕ, true, false, Option, Some, None, List, codes, refl, sym, subst, ap, ◌∙◌}
use Rattle.std.specs.Prelude.{bytes_eq}
use Rattle.std.proofs.lemmas.Slice.Eq.{bytes_eq-Decides}
use Rattle.clap.specs.Words.{Row, Text}
use Rattle.st_oer.specs.Address.{is_address}
use Rattle.st_http.specs.Texts.{is_field_text}
use Rattle.ilpstream_settings.specs.Settings as settings
use Rattle.ilpstream_settings.specs.Sources.{SaysToken}
use Rattle.ilpstream_settings.specs.declared.source.Token.{Token}
use Rattle.ilpstream_settings.specs.declared.source.Token.TheVariants as token
use Rattle.ilpstream_settings.specs.declared.settings.LocalRequest.{LocalRequest}
use Rattle.ilpstream_settings.specs.declared.settings.SendSettings.{SendSettings}
use Rattle.ilpstream_settings.specs.declared.settings.ReceiveSettings.{ReceiveSettings}
use Rattle.ilpstream_words.specs.declared.request.Request.{Request}
use Rattle.ilpstream_words.specs.declared.request.Request.TheVariants as request
use Rattle.ilpstream_words.specs.Words.{AsksBy}
use Rattle.ilpstream_net.specs.Credentials.{IsLawfulToken}
use Rattle.ilpstream_main.specs.Settings.{IsChain, IsLawful, IsReceiver, IsSender}
use Rattle.ilpstream_main.specs.Words.{AsksFor, AsksFrames}

unlike : (s t : Text) → bytes_eq s t ≡ false → s ≢ t
unlike s t differs e =
    let yes : bytes_eq s t ≡ true = (bytes_eq-Decides s t).1 e in
    let wrong : true ≡ false = sym yes ∙ differs in
    absurd (cc)

by_command : (o : Option (Text × List Row)) (q : Request) → AsksBy o request.Frames → AsksBy o q → q ≡ request.Frames
by_command None q frames asks = asks
by_command (Some (name, rows)) request.Frames frames asks = refl
by_command (Some (name, rows)) (request.Local s) frames asks = absurd (unlike (codes "frames") (codes "local") refl (sym frames ∙ asks.0))
by_command (Some (name, rows)) (request.Send s) frames asks = absurd (unlike (codes "frames") (codes "send") refl (sym frames ∙ asks.0))
by_command (Some (name, rows)) (request.Receive s) frames asks = absurd (unlike (codes "frames") (codes "receive") refl (sym frames ∙ asks.0))
by_command (Some (name, rows)) (request.Connector s) frames asks = absurd (unlike (codes "frames") (codes "connector") refl (sym frames ∙ asks.0))
by_command (Some (name, rows)) (request.Ledger s) frames asks = absurd (unlike (codes "frames") (codes "ledger") refl (sym frames ∙ asks.0))
by_command (Some (name, rows)) (request.Explain n) frames asks = absurd (unlike (codes "frames") (codes "explain") refl (sym frames ∙ asks.0))

-- arguments that ask for `frames` ask for nothing else
pub frames_alone : (words : List Text) (q : Request) → AsksFrames words → AsksFor words q → q ≡ request.Frames
frames_alone words q frames asks = by_command _ q frames.1 asks.1

visible : (s t : List ℕ) → s ≡ t → is_field_text t ≡ true → is_field_text s ≡ true
visible s t e h = ap is_field_text e ∙ h

address : (s t : List ℕ) → s ≡ t → is_address t ≡ true → is_address s ≡ true
address s t e h = ap is_address e ∙ h

-- a token that an option's text says is a valid one
lawful_token : (text file : Option (List ℕ)) (t : Token) → SaysToken text file t → IsLawfulToken t
lawful_token (Some text) None (token.Given t) says = visible _ _ says.0 says.1
lawful_token (Some text) None (token.InFile f) says = tt
lawful_token None (Some file) (token.Given t) says = absurd says
lawful_token None (Some file) (token.InFile f) says = tt
lawful_token (Some text) (Some file) t says = absurd says
lawful_token None None t says = absurd says

chain : (o : settings.LocalTexts) (s : LocalRequest) → settings.IsLocal o s → IsChain s.settings
chain o s h = record {
  hops = h.hops.number.bounded;
  some = h.streams.enough;
  streams = h.streams.number.bounded;
}

sender : (o : settings.SendTexts) (s : SendSettings) → settings.IsSend o s → IsSender s
sender o s h = record {
  to = visible _ _ h.to.0 h.to.1.visible;
  token = lawful_token o.token o.token_file s.token h.token;
  address = address _ _ h.address.0 h.address.1;
  peer = address _ _ h.peer.0 h.peer.1;
}

receiver : (o : settings.ReceiveTexts) (s : ReceiveSettings) → settings.IsReceive o s → IsReceiver s
receiver o s h = record {
  token = lawful_token o.token o.token_file s.token h.token;
  address = address _ _ h.address.0 h.address.1;
  peer = address _ _ h.peer.0 h.peer.1;
}

-- what arguments ask for is lawful
pub asked_lawful : (o : Option (Text × List Row)) (q : Request) → AsksBy o q → IsLawful q
asked_lawful None q asks = subst IsLawful (sym asks) tt
asked_lawful (Some (name, rows)) request.Frames asks = tt
asked_lawful (Some (name, rows)) (request.Local s) asks = chain _ s asks.1
asked_lawful (Some (name, rows)) (request.Send s) asks = sender _ s asks.1
asked_lawful (Some (name, rows)) (request.Receive s) asks = receiver _ s asks.1
asked_lawful (Some (name, rows)) (request.Connector s) asks = tt
asked_lawful (Some (name, rows)) (request.Ledger s) asks = tt
asked_lawful (Some (name, rows)) (request.Explain n) asks = tt
