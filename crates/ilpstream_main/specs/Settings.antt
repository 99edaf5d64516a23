-- What the commands rely on in their settings.
use Rattle.std.specs.Prelude.{◌≡◌, ◌<◌, ◌≤◌, true, ⊤}
use Rattle.st_oer.specs.Address.{is_address}
use Rattle.st_http.specs.Texts.{is_field_text}
use Rattle.ilpstream_settings.specs.declared.settings.LocalSettings.{LocalSettings}
use Rattle.ilpstream_settings.specs.declared.settings.SendSettings.{SendSettings}
use Rattle.ilpstream_settings.specs.declared.settings.ReceiveSettings.{ReceiveSettings}
use Rattle.ilpstream_words.specs.declared.request.Request.{Request}
use Rattle.ilpstream_words.specs.declared.request.Request.TheVariants as request
use Rattle.ilpstream_net.specs.Credentials.{IsLawfulToken}

-- both ends have addresses; the host and a given token may be in a request
pub record IsSender (s : SendSettings) : Type 0 where
  pub to : is_field_text s.to.now ≡ true
  pub token : IsLawfulToken s.token
  pub address : is_address s.address.now ≡ true
  pub peer : is_address s.peer.now ≡ true

-- both ends have addresses, and a token that is given may be in a request
pub record IsReceiver (s : ReceiveSettings) : Type 0 where
  pub token : IsLawfulToken s.token
  pub address : is_address s.address.now ≡ true
  pub peer : is_address s.peer.now ≡ true

-- a chain of at most 8 hops, with 1 to 32 streams
pub record IsChain (s : LocalSettings) : Type 0 where
  pub hops : s.hops ≤ 8
  pub some : 0 < s.streams
  pub streams : s.streams ≤ 32

abbrev pub IsLawful : Request → Type 0
IsLawful request.Frames = ⊤
IsLawful (request.Local s) = IsChain s.settings
IsLawful (request.Send s) = IsSender s
IsLawful (request.Receive s) = IsReceiver s
IsLawful (request.Connector s) = ⊤
IsLawful (request.Ledger s) = ⊤
IsLawful (request.Explain n) = ⊤
