-- The keys of a connection, as a host has them.
use Rattle.std.specs.Prelude.{◌≡◌, [], ◌⊎◌, ℕ, List, Result, Ok, Err, MatchResult}
use Rattle.st_keys.specs.Keys.{DerivedKeys}
use Rattle.host_objects.specs.declared.keys.HostKeys.{HostKeys}
use Rattle.st_keys.specs.declared.error.KeyError.{KeyError}
use Rattle.st_keys.specs.declared.error.KeyError.TheVariants.{NoMemory}

-- these keys, with no output yet
pub record IsNewKeys (keys : DerivedKeys) (h : HostKeys) : Type 0 where
  pub keys_are : h.keys ≡ keys
  pub nothing_is_out : h.output.items ≡ []

-- a text is what is defined, or it is refused so; but memory may be refused
abbrev pub Unseals : {X : Type 0} → (view : X → List ℕ) → (defined : Result (List ℕ) KeyError) → Result X KeyError → Type 0
Unseals view defined result = MatchResult result (λ x. defined ≡ Ok (view x)) (λ e. (e ≡ NoMemory) ⊎ (defined ≡ Err e))
