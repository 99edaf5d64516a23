-- What a call on a handle of keys answers and leaves.
use Rattle.std.specs.Prelude.{◌≡◌, ◌⊎◌, ℕ, List, length, Option, Some, None, Ok, Err}
use Rattle.st_keys.specs.declared.error.KeyError.{KeyError}
use Rattle.st_keys.specs.declared.error.KeyError.TheVariants.{NoMemory}
use Rattle.st_keys.specs.Errors.{number}
use Rattle.st_keys.specs.Keys.{keys_of, fulfillment}
use Rattle.st_keys.specs.Sealed.{sealed, unsealed}
use Rattle.host_objects.specs.Codes.{done}
use Rattle.host_objects.specs.KeyRings.{IsNewKeys}
use Rattle.host_objects.specs.Objects.{keys_in}
use Rattle.host_objects.specs.declared.object.Object.{Object}
use Rattle.host_objects.specs.declared.object.Object.TheVariants.{Keys}
use Rattle.host_objects.specs.declared.keys.HostKeys.{HostKeys}
use Rattle.ilpstream_c.specs.Handles.{OnOne, Misused}

abbrev pub OnKeys : (old new : Option Object) → (code : ℕ) → (HostKeys → HostKeys → Type 0) → Type 0
OnKeys old new code P = OnOne (keys_in old) (keys_in new) (Misused old new code) P

-- the keys of a secret are made in an empty handle, unless memory is refused
abbrev pub AreKeysMade : (secret : List ℕ) (old new : Option Object) (code : ℕ) → Type 0
AreKeysMade secret None new code =
    ((code ≡ done) × ((k : HostKeys) × ((new ≡ Some (Keys k)) × IsNewKeys (keys_of secret) k))) ⊎ ((code ≡ number NoMemory) × (new ≡ None))
AreKeysMade secret (Some o) new code = Misused (Some o) new code

-- the payload of a text is output, unless memory is refused
abbrev pub Seals : (old new : HostKeys) → (iv text : List ℕ) → (code len : ℕ) → Type 0
Seals old new iv text code len =
    ((code ≡ done) × ((new.keys ≡ old.keys) × ((new.output.items ≡ sealed old.keys iv text) × (len ≡ length new.output.items))))
    ⊎ ((code ≡ number NoMemory) × (new ≡ old))

-- the text of a payload is output, or the payload is refused by the number of why, or memory is refused
abbrev pub Opens : (old new : HostKeys) → (payload : List ℕ) → (code len : ℕ) → Type 0
Opens old new payload code len =
    ((code ≡ done) × ((new.keys ≡ old.keys) × ((unsealed old.keys payload ≡ Ok new.output.items) × (len ≡ length new.output.items))))
    ⊎ (((e : KeyError) × ((unsealed old.keys payload ≡ Err e) × ((code ≡ number e) × (new ≡ old))))
    ⊎ ((code ≡ number NoMemory) × (new ≡ old)))

abbrev pub Fulfills : (old new : HostKeys) → (payload : List ℕ) → (code : ℕ) → (after : List ℕ) → Type 0
Fulfills old new payload code after = (new ≡ old) × ((code ≡ done) × (after ≡ fulfillment old.keys payload))
