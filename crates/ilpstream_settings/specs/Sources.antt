-- The sources of the token and of the secret of an end.
use Rattle.std.specs.Prelude.{◌≡◌, ◌==◌, ℕ, true, List, Option, Some, None, Ok, position, take}
use Rattle.std.specs.Str.Lines.{strip_carriage_return}
use Rattle.hex.specs.Hex.{decode_sized}
use Rattle.st_http.specs.Texts.{is_field_text}
use Rattle.ilpstream_settings.specs.declared.source.Secret.{Secret}
use Rattle.ilpstream_settings.specs.declared.source.Secret.TheVariants as secret
use Rattle.ilpstream_settings.specs.declared.source.Token.{Token}
use Rattle.ilpstream_settings.specs.declared.source.Token.TheVariants as token

-- the text is 64 hexadecimal digits, which write these bytes
abbrev pub IsSecret : List ℕ → List ℕ → Type 0
IsSecret text bytes = decode_sized text 32 ≡ Ok bytes

-- the text is a token: 1 to 255 visible characters
abbrev pub IsToken : List ℕ → List ℕ → Type 0
IsToken text token = (token ≡ text) × (is_field_text text ≡ true)

-- A token's text is given, or the name of a file: one of the two alone.
abbrev pub SaysToken : (text file : Option (List ℕ)) → Token → Type 0
SaysToken (Some text) None (token.Given t) = IsToken text t.now
SaysToken (Some text) None (token.InFile f) = ⊥
SaysToken None (Some file) (token.Given t) = ⊥
SaysToken None (Some file) (token.InFile f) = f.now ≡ file
SaysToken (Some text) (Some file) t = ⊥
SaysToken None None t = ⊥

-- A secret's digits are given, or the name of a file: one of the two alone.
abbrev pub SaysSecret : (text file : Option (List ℕ)) → Secret → Type 0
SaysSecret (Some text) None (secret.Given bytes) = IsSecret text bytes
SaysSecret (Some text) None (secret.InFile f) = ⊥
SaysSecret None (Some file) (secret.Given bytes) = ⊥
SaysSecret None (Some file) (secret.InFile f) = f.now ≡ file
SaysSecret (Some text) (Some file) s = ⊥
SaysSecret None None s = ⊥

-- the bytes before place n, without a CR at their end; all bytes if there is no such place
abbrev pub line_before : Option ℕ → List ℕ → List ℕ
line_before None bytes = bytes
line_before (Some n) bytes = strip_carriage_return (take n bytes)

-- the first line of a file: the bytes before the first LF, without the CR of a CR LF; all bytes if there is no LF
abbrev pub first_line : List ℕ → List ℕ
first_line bytes = line_before (position (λ b. b == 10) bytes) bytes
