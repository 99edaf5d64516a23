-- The table of a connector, in bytes, and how a connector may end by it.
use Rattle.std.specs.Prelude.{◌≡◌, ◌⊎◌, ℕ, Bool, true, false, List, map, Option, Some, None, IfSome, IsSome, ⊤, Result, Ok, Err, IsErrOf}
use Rattle.std.specs.Borrow.{Bor}
use Rattle.std.specs.Str.Lines.{lines}
use Rattle.st_oer.specs.Text.{is_utf8}
use Rattle.st_hop.specs.Seen.{way_seen}
use Rattle.st_hop.specs.Table.{is_table}
use Rattle.st_hop.specs.declared.route.Route.{Route}
use Rattle.ilpstream_settings.specs.declared.line.AccountLine.{AccountLine}
use Rattle.ilpstream_settings.specs.Table.{AreDistinct, HasBad, HasSameName, Says, names_of}
use Rattle.st_devices.specs.declared.tally.Tally.{Tally}
use Rattle.ilpstream_output.specs.declared.error.Fault.TheVariants as fault
use Rattle.ilpstream_net.specs.Input.{FailsToRead}
use Rattle.ilpstream_net.specs.declared.error.RunError.{RunError}
use Rattle.ilpstream_net.specs.declared.error.RunError.TheVariants as run
use Rattle.st_devices.specs.Tallies.{device_of, tally_of}
use Rattle.st_devices.specs.declared.counted.Counting.{Counting}
use Rattle.ilpstream_settings.specs.declared.settings.ConnectorSettings.{ConnectorSettings}

-- the lines say these accounts, no two of one name, and these routes
pub record SaysTable (bytes : List ℕ) (xs : List AccountLine) (rs : List Route) : Type 0 where
  pub text : is_utf8 bytes ≡ true
  pub says : Says (lines bytes) xs rs
  pub distinct : AreDistinct (names_of xs)

-- a hop of this address may have these accounts and routes
abbrev pub is_hop : List ℕ → List AccountLine → List Route → Bool
is_hop own xs rs = is_table own (map (λ x. x.terms) xs) (map way_seen rs)

-- the bytes are a table for a hop of this address
abbrev pub HasTable : List ℕ → List ℕ → Type 0
HasTable own bytes = (xs : List AccountLine) × (rs : List Route) × SaysTable bytes xs rs × (is_hop own xs rs ≡ true)

-- the bytes are not UTF-8, or have a bad line, or two accounts of one name
abbrev pub IsNoTable : List ℕ → Type 0
IsNoTable bytes = (is_utf8 bytes ≡ false) ⊎ HasBad bytes ⊎ HasSameName bytes

-- or they say what no hop of this address may have
abbrev pub LacksTable : List ℕ → List ℕ → Type 0
LacksTable own bytes = IsNoTable bytes
    ⊎ ((xs : List AccountLine) × (rs : List Route) × SaysTable bytes xs rs × (is_hop own xs rs ≡ false))

-- why bytes give no table
abbrev pub WhyNoTable : List ℕ → RunError → Type 0
WhyNoTable bytes (run.Fault x) = x ≡ fault.NoMemory
WhyNoTable bytes run.NoRandom = ⊥
WhyNoTable bytes run.NoListener = ⊥
WhyNoTable bytes run.NoHop = ⊥
WhyNoTable bytes run.BadTable = IsNoTable bytes
WhyNoTable bytes run.BadOption = ⊥
WhyNoTable bytes (run.Transfer e) = ⊥
WhyNoTable bytes (run.Ledger e) = ⊥

-- why these accounts and routes give no hop
abbrev pub WhyNoHop : List ℕ → List AccountLine → List Route → RunError → Type 0
WhyNoHop own xs rs (run.Fault x) = x ≡ fault.NoMemory
WhyNoHop own xs rs run.NoRandom = ⊥
WhyNoHop own xs rs run.NoListener = ⊥
WhyNoHop own xs rs run.NoHop = is_hop own xs rs ≡ true
WhyNoHop own xs rs run.BadTable = is_hop own xs rs ≡ false
WhyNoHop own xs rs run.BadOption = ⊥
WhyNoHop own xs rs (run.Transfer e) = ⊥
WhyNoHop own xs rs (run.Ledger e) = ⊥

-- why a hop cannot continue with the sums of the last table
abbrev pub WhyNotCarried : RunError → Type 0
WhyNotCarried (run.Fault x) = x ≡ fault.NoMemory
WhyNotCarried run.NoHop = ⊤
WhyNotCarried run.NoRandom = ⊥
WhyNotCarried run.NoListener = ⊥
WhyNotCarried run.BadTable = ⊥
WhyNotCarried run.BadOption = ⊥
WhyNotCarried (run.Transfer e) = ⊥
WhyNotCarried (run.Ledger e) = ⊥

-- How a connector of this address with these accounts and routes may end. It ends with an error of books only if it was asked to
-- keep them, and with a table that a hop may have
abbrev pub Serves : {T : Type 0} → List ℕ → (ledger : Option (Bor (List ℕ))) → List AccountLine → List Route → Result T RunError → Type 0
Serves own ledger xs rs (Ok x) = is_hop own xs rs ≡ true
Serves own ledger xs rs (Err (run.Fault x)) = x ≡ fault.NoMemory
Serves own ledger xs rs (Err run.NoRandom) = ⊥
Serves own ledger xs rs (Err run.NoListener) = is_hop own xs rs ≡ true
Serves own ledger xs rs (Err run.NoHop) = is_hop own xs rs ≡ true
Serves own ledger xs rs (Err run.BadTable) = is_hop own xs rs ≡ false
Serves own ledger xs rs (Err run.BadOption) = ⊥
Serves own ledger xs rs (Err (run.Transfer e)) = is_hop own xs rs ≡ true
Serves own ledger xs rs (Err (run.Ledger e)) = IsSome ledger × (is_hop own xs rs ≡ true)

-- how a connector of this address may end that reads its table from its input. With a bad table it ends before books are opened
-- and before it listens, and nothing else ends as a bad table. A fault is out of memory, or one that the input's reader counted,
-- r before and s now, or it follows a good table
abbrev pub EndsBy : {T : Type 0} → List ℕ → (ledger : Option (Bor (List ℕ))) → Option (List ℕ) → (r s : Tally) → Result T RunError → Type 0
EndsBy own ledger input r s (Ok x) = IfSome input (HasTable own)
EndsBy own ledger input r s (Err (run.Fault x)) = FailsToRead x r s ⊎ IfSome input (HasTable own)
EndsBy own ledger input r s (Err run.NoRandom) = ⊥
EndsBy own ledger input r s (Err run.NoListener) = IfSome input (HasTable own)
EndsBy own ledger input r s (Err run.NoHop) = IfSome input (HasTable own)
EndsBy own ledger input r s (Err run.BadTable) = IfSome input (LacksTable own)
EndsBy own ledger input r s (Err run.BadOption) = ⊥
EndsBy own ledger input r s (Err (run.Transfer e)) = IfSome input (HasTable own)
EndsBy own ledger input r s (Err (run.Ledger e)) = IsSome ledger × IfSome input (HasTable own)

-- how a connector of this address may end that begins with the table in these bytes, and continues with tables that it is given
-- while it runs. A fault is out of memory, or it follows a good table
abbrev pub Lives : {T : Type 0} → List ℕ → (ledger : Option (Bor (List ℕ))) → (bytes : List ℕ) → Result T RunError → Type 0
Lives own ledger bytes (Ok x) = HasTable own bytes
Lives own ledger bytes (Err (run.Fault x)) = (x ≡ fault.NoMemory) ⊎ HasTable own bytes
Lives own ledger bytes (Err run.NoRandom) = ⊥
Lives own ledger bytes (Err run.NoListener) = HasTable own bytes
Lives own ledger bytes (Err run.NoHop) = HasTable own bytes
Lives own ledger bytes (Err run.BadTable) = LacksTable own bytes
Lives own ledger bytes (Err run.BadOption) = ⊥
Lives own ledger bytes (Err (run.Transfer e)) = HasTable own bytes
Lives own ledger bytes (Err (run.Ledger e)) = IsSome ledger × HasTable own bytes

-- how it may end by a table after its first one: never as with a bad table
abbrev pub GoesOn : {T : Type 0} → (ledger : Option (Bor (List ℕ))) → Result T RunError → Type 0
GoesOn ledger (Ok x) = ⊤
GoesOn ledger (Err (run.Fault x)) = ⊤
GoesOn ledger (Err run.NoRandom) = ⊥
GoesOn ledger (Err run.NoListener) = ⊤
GoesOn ledger (Err run.NoHop) = ⊤
GoesOn ledger (Err run.BadTable) = ⊥
GoesOn ledger (Err run.BadOption) = ⊥
GoesOn ledger (Err (run.Transfer e)) = ⊤
GoesOn ledger (Err (run.Ledger e)) = IsSome ledger

-- how it ended by a table that was checked before. Such a table is not bad. If it were, the error would be that there is no hop
abbrev pub later : {T : Type 0} → Result T RunError → Result T RunError
later (Ok x) = Ok x
later (Err (run.Fault x)) = Err (run.Fault x)
later (Err run.NoRandom) = Err run.NoRandom
later (Err run.NoListener) = Err run.NoListener
later (Err run.NoHop) = Err run.NoHop
later (Err run.BadTable) = Err run.NoHop
later (Err run.BadOption) = Err run.BadOption
later (Err (run.Transfer e)) = Err (run.Transfer e)
later (Err (run.Ledger e)) = Err (run.Ledger e)

-- how a connector may end whose table is in a file: by the bytes of the file, or because that cannot be read
abbrev pub EndsByFile : {T : Type 0} → List ℕ → (ledger : Option (Bor (List ℕ))) → Result T RunError → Type 0
EndsByFile own ledger result = IsErrOf result run.BadOption ⊎ ((bytes : List ℕ) × Lives own ledger bytes result)

-- how a connector may end: by its file if it has one, and then its input is not touched; otherwise by its input. An option may be
-- bad before
abbrev pub EndsByTable : {T : Type 0} → (table : Option (Bor (List ℕ))) → List ℕ → (ledger : Option (Bor (List ℕ))) → Option (List ℕ)
    → (r s : Tally) → (untouched : Type 0) → Result T RunError → Type 0
EndsByTable None own ledger input r s untouched result = EndsBy own ledger input r s result ⊎ (IsErrOf result run.BadOption × untouched)
EndsByTable (Some file) own ledger input r s untouched result = untouched × EndsByFile own ledger result

-- what ends it before a table is read: memory was refused, or the input's reader, r before and s now, counted why it could not be
-- read whole
abbrev pub FailsFirst : {T : Type 0} → Result T RunError → (r s : Tally) → Type 0
FailsFirst (Err (run.Fault x)) r s = FailsToRead x r s
FailsFirst result r s = ⊥

-- a bad table is reported if and only if the input is not a table for a hop of this address, except for what fails first
pub record TellsBad {T : Type 0} (own : List ℕ) (input : Option (List ℕ)) (r s : Tally) (result : Result T RunError) : Type 0 where
  pub only : IsErrOf result run.BadTable → IfSome input (λ bytes. ¬ (HasTable own bytes))
  pub always : IfSome input (λ bytes. ¬ (HasTable own bytes) → IsErrOf result run.BadTable ⊎ FailsFirst result r s)

-- so does a connector that reads its table from its input
abbrev pub ABadTableIsToldExactly : Type 0
ABadTableIsToldExactly =
    (own : List ℕ) (ledger : Option (Bor (List ℕ))) (input : Option (List ℕ)) (r s : Tally) (result : Result (Unit {0}) RunError)
    → EndsBy own ledger input r s result
    → TellsBad own input r s result

-- a connector with these settings ended so, r the reader at the start and s now
abbrev pub EndsConnector : {R : Type 0} → ConnectorSettings → (R → Option (List ℕ)) → Counting R → Counting R
    → Result (Unit {0}) RunError → Type 0
EndsConnector x remaining r s end =
    EndsByTable x.table x.own.now x.ledger (remaining (device_of r)) (tally_of r) (tally_of s) (s ≡ r) end
