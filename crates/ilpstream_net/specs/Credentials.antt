-- The token and the secret of an end, which are given or read from files.
use Rattle.std.specs.Prelude.{◌≡◌, ◌⊎◌, ℕ, true, ⊤, List, Option, IfSome, Result, Ok, Err, string_bytes}
use Rattle.st_devices.specs.declared.tally.Tally.{Tally}
use Rattle.st_http.specs.Texts.{is_field_text}
use Rattle.ilpstream_output.specs.declared.error.Fault.{Fault}
use Rattle.ilpstream_output.specs.declared.error.Fault.TheVariants as fault
use Rattle.ilpstream_settings.specs.Sources.{first_line}
use Rattle.ilpstream_settings.specs.declared.source.Secret.{Secret}
use Rattle.ilpstream_settings.specs.declared.source.Secret.TheVariants as secret
use Rattle.ilpstream_settings.specs.declared.source.Token.{Token}
use Rattle.ilpstream_settings.specs.declared.source.Token.TheVariants as token
use Rattle.ilpstream_net.specs.declared.credentials.Credentials.{Credentials}
use Rattle.ilpstream_net.specs.declared.error.RunError.{RunError}
use Rattle.ilpstream_net.specs.declared.error.RunError.TheVariants as run
use Rattle.ilpstream_net.specs.Input.{FailsToRead}

-- why an option is refused whose file could not be read
abbrev pub unread : Fault → RunError
unread fault.Input = run.BadOption
unread fault.Output = run.BadOption
unread fault.Turns = run.BadOption
unread fault.NoMemory = run.Fault fault.NoMemory

-- The result of reading a value from the first line of an input; `Is` says which values a line has. The result is a bad option if
-- the line has none, or if the input could not be read whole, by what its reader counted: r before and s now
abbrev pub ComesOfLine : {X : Type 0} → (Is : List ℕ → X → Type 0) → (input : Option (List ℕ)) → (r s : Tally) → Result X RunError → Type 0
ComesOfLine Is input r s (Ok x) = IfSome input (λ bytes. Is (first_line bytes) x)
ComesOfLine {X} Is input r s (Err run.BadOption) =
    IfSome input (λ bytes. (x : X) → ¬ (Is (first_line bytes) x)) ⊎ FailsToRead fault.Input r s ⊎ FailsToRead fault.Turns r s
ComesOfLine Is input r s (Err (run.Fault x)) = x ≡ fault.NoMemory
ComesOfLine Is input r s (Err run.NoRandom) = ⊥
ComesOfLine Is input r s (Err run.NoListener) = ⊥
ComesOfLine Is input r s (Err run.NoHop) = ⊥
ComesOfLine Is input r s (Err run.BadTable) = ⊥
ComesOfLine Is input r s (Err (run.Transfer e)) = ⊥
ComesOfLine Is input r s (Err (run.Ledger e)) = ⊥

-- why there is no token or no secret
abbrev pub WhyNotOpened : RunError → Type 0
WhyNotOpened e = (e ≡ run.BadOption) ⊎ (e ≡ run.Fault fault.NoMemory)

-- a token that is given is a valid one
abbrev pub IsLawfulToken : Token → Type 0
IsLawfulToken (token.Given t) = is_field_text t.now ≡ true
IsLawfulToken (token.InFile f) = ⊤

-- the token that is given. One that is read from a file may be any
abbrev pub HasToken : Token → List ℕ → Type 0
HasToken (token.Given t) text = text ≡ t.now
HasToken (token.InFile f) text = ⊤

-- the secret that is given. One that is read from a file may be any
abbrev pub HasSecret : Secret → List ℕ → Type 0
HasSecret (secret.Given given) bytes = bytes ≡ given
HasSecret (secret.InFile f) bytes = ⊤

-- what an end shows and shares is this token and this secret
pub record AreOf (t : Token) (s : Secret) (c : Credentials) : Type 0 where
  pub token : HasToken t (string_bytes c.token)
  pub visible : is_field_text (string_bytes c.token) ≡ true
  pub secret : HasSecret s c.secret
