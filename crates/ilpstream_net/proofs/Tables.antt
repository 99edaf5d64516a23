-- From a table to the end of a connector.
use Rattle.std.proofs.Common.{◌≡◌, ℕ, true, List, [], Option, Some, None, refl, sym, subst, inl, inr}
use Rattle.std.specs.Prelude.{IfSome, IsSome, Result, Ok, Err}
use Rattle.std.specs.Borrow.{Bor}
use Rattle.st_hop.specs.declared.route.Route.{Route}
use Rattle.ilpstream_settings.specs.declared.line.AccountLine.{AccountLine}
use Rattle.ilpstream_net.specs.declared.error.RunError.{RunError}
use Rattle.ilpstream_net.specs.declared.error.RunError.TheVariants as run
use Rattle.st_devices.specs.declared.tally.Tally.{Tally}
use Rattle.ilpstream_output.specs.declared.error.Fault.{Fault}
use Rattle.ilpstream_output.specs.declared.error.Fault.TheVariants as fault
use Rattle.ilpstream_net.specs.Input.{FailsToRead}
use Rattle.ilpstream_net.specs.Restored.{IsOfBooks}
use Rattle.ilpstream_net.specs.Table.{EndsBy, EndsByTable, GoesOn, HasTable, LacksTable, Lives, SaysTable, Serves, WhyNoTable, is_hop, later}

-- what holds of the bytes that were read holds of the input
said_of : (input : Option (List ℕ)) (bytes : List ℕ) (P : List ℕ → Type 0) → IfSome input (λ all. bytes ≡ all) → P bytes → IfSome input P
said_of None bytes P whole h = tt
said_of (Some all) bytes P whole h = subst P whole h

-- memory may be refused at any time
memory : (x : Fault) (r s : Tally) → x ≡ fault.NoMemory → FailsToRead x r s
memory x r s is = subst (λ (y : Fault). FailsToRead y r s) (sym is) tt

module _ (own : List ℕ) (ledger : Option (Bor (List ℕ))) (input : Option (List ℕ)) (r s : Tally) (bytes : List ℕ) (whole : IfSome input (λ all. bytes ≡ all)) where
  pub serves_table : {T : Type 0} (xs : List AccountLine) (rs : List Route) (result : Result T RunError) → SaysTable bytes xs rs → Serves own ledger xs rs result → EndsBy own ledger input r s result
  serves_table xs rs (Ok x) says is = said_of input bytes (HasTable own) whole (xs, rs, says, is)
  serves_table xs rs (Err (run.Fault x)) says is = inl (memory x r s is)
  serves_table xs rs (Err run.NoRandom) says is = is
  serves_table xs rs (Err run.NoListener) says is = said_of input bytes (HasTable own) whole (xs, rs, says, is)
  serves_table xs rs (Err run.NoHop) says is = said_of input bytes (HasTable own) whole (xs, rs, says, is)
  serves_table xs rs (Err run.BadTable) says is = said_of input bytes (LacksTable own) whole (inr (xs, rs, says, is))
  serves_table xs rs (Err run.BadOption) says is = is
  serves_table xs rs (Err (run.Transfer e)) says is = said_of input bytes (HasTable own) whole (xs, rs, says, is)
  serves_table xs rs (Err (run.Ledger e)) says is = (is.0, said_of input bytes (HasTable own) whole (xs, rs, says, is.1))

  pub no_table : (T : Type 0) (x : RunError) → WhyNoTable bytes x → EndsBy {T = T} own ledger input r s (Err x)
  no_table T (run.Fault x) why = inl (memory x r s why)
  no_table T run.NoRandom why = why
  no_table T run.NoListener why = absurd why
  no_table T run.NoHop why = absurd why
  no_table T run.BadTable why = said_of input bytes (LacksTable own) whole (inl why)
  no_table T run.BadOption why = why
  no_table T (run.Transfer e) why = absurd why
  no_table T (run.Ledger e) why = absurd why

module _ (own : List ℕ) (ledger : Option (Bor (List ℕ))) (bytes : List ℕ) where
  -- the same by the bytes themselves
  pub lives_table : {T : Type 0} (xs : List AccountLine) (rs : List Route) (result : Result T RunError) → SaysTable bytes xs rs → Serves own ledger xs rs result → Lives own ledger bytes result
  lives_table xs rs (Ok x) says is = (xs, rs, says, is)
  lives_table xs rs (Err (run.Fault x)) says is = inl is
  lives_table xs rs (Err run.NoRandom) says is = is
  lives_table xs rs (Err run.NoListener) says is = (xs, rs, says, is)
  lives_table xs rs (Err run.NoHop) says is = (xs, rs, says, is)
  lives_table xs rs (Err run.BadTable) says is = inr (xs, rs, says, is)
  lives_table xs rs (Err run.BadOption) says is = is
  lives_table xs rs (Err (run.Transfer e)) says is = (xs, rs, says, is)
  lives_table xs rs (Err (run.Ledger e)) says is = (is.0, (xs, rs, says, is.1))

  pub lives_without : (T : Type 0) (x : RunError) → WhyNoTable bytes x → Lives {T = T} own ledger bytes (Err x)
  lives_without T (run.Fault x) why = inl why
  lives_without T run.NoRandom why = why
  lives_without T run.NoListener why = absurd why
  lives_without T run.NoHop why = absurd why
  lives_without T run.BadTable why = inl why
  lives_without T run.BadOption why = why
  lives_without T (run.Transfer e) why = absurd why
  lives_without T (run.Ledger e) why = absurd why

  -- by a table that was checked before
  pub goes_on : {T : Type 0} (ended : Result T RunError) → Lives own ledger bytes ended → GoesOn ledger (later ended)
  goes_on (Ok x) is = tt
  goes_on (Err (run.Fault x)) is = tt
  goes_on (Err run.NoRandom) is = is
  goes_on (Err run.NoListener) is = tt
  goes_on (Err run.NoHop) is = tt
  goes_on (Err run.BadTable) is = tt
  goes_on (Err run.BadOption) is = is
  goes_on (Err (run.Transfer e)) is = tt
  goes_on (Err (run.Ledger e)) is = is.0

  -- from a good table
  pub lives_on : {T : Type 0} (result : Result T RunError) → HasTable own bytes → GoesOn ledger result → Lives own ledger bytes result
  lives_on (Ok x) has is = has
  lives_on (Err (run.Fault x)) has is = inr has
  lives_on (Err run.NoRandom) has is = is
  lives_on (Err run.NoListener) has is = has
  lives_on (Err run.NoHop) has is = has
  lives_on (Err run.BadTable) has is = absurd is
  lives_on (Err run.BadOption) has is = is
  lives_on (Err (run.Transfer e)) has is = has
  lives_on (Err (run.Ledger e)) has is = (is, has)

  -- by an input that has these bytes
  pub lives_by : {T : Type 0} (input : Option (List ℕ)) (r s : Tally) (result : Result T RunError) → IfSome input (λ all. bytes ≡ all) → Lives own ledger bytes result → EndsBy own ledger input r s result
  lives_by input r s (Ok x) whole is = said_of input bytes (HasTable own) whole is
  lives_by input r s (Err (run.Fault x)) whole (inl is) = inl (memory x r s is)
  lives_by input r s (Err (run.Fault x)) whole (inr is) = inr (said_of input bytes (HasTable own) whole is)
  lives_by input r s (Err run.NoRandom) whole is = is
  lives_by input r s (Err run.NoListener) whole is = said_of input bytes (HasTable own) whole is
  lives_by input r s (Err run.NoHop) whole is = said_of input bytes (HasTable own) whole is
  lives_by input r s (Err run.BadTable) whole is = said_of input bytes (LacksTable own) whole is
  lives_by input r s (Err run.BadOption) whole is = is
  lives_by input r s (Err (run.Transfer e)) whole is = said_of input bytes (HasTable own) whole is
  lives_by input r s (Err (run.Ledger e)) whole is = (is.0, said_of input bytes (HasTable own) whole is.1)

-- an option is bad before anything is read
pub bad_option : (T : Type 0) (table : Option (Bor (List ℕ))) (own : List ℕ) (ledger : Option (Bor (List ℕ))) (input : Option (List ℕ)) (r s : Tally) (Q : Type 0) → Q
    → EndsByTable {T = T} table own ledger input r s Q (Err run.BadOption)
bad_option T None own ledger input r s Q q = inr (refl, q)
bad_option T (Some file) own ledger input r s Q q = (q, inl refl)

-- or memory is refused
pub no_memory : (T : Type 0) (table : Option (Bor (List ℕ))) (own : List ℕ) (ledger : Option (Bor (List ℕ))) (input : Option (List ℕ)) (r s : Tally) (Q : Type 0) → Q
    → EndsByTable {T = T} table own ledger input r s Q (Err (run.Fault fault.NoMemory))
no_memory T None own ledger input r s Q q = inl (inl tt)
no_memory T (Some file) own ledger input r s Q q = (q, inr ([], inl refl))

-- and so do books that cannot be opened
pub no_books : (T : Type 0) (own : List ℕ) (ledger : Option (Bor (List ℕ))) (xs : List AccountLine) (rs : List Route) (x : RunError)
    → IsSome ledger → is_hop own xs rs ≡ true → IsOfBooks x → Serves {T = T} own ledger xs rs (Err x)
no_books T own ledger xs rs (run.Fault x) asked made why = why
no_books T own ledger xs rs run.NoRandom asked made why = why
no_books T own ledger xs rs run.NoListener asked made why = absurd why
no_books T own ledger xs rs run.NoHop asked made why = absurd why
no_books T own ledger xs rs run.BadTable asked made why = absurd why
no_books T own ledger xs rs run.BadOption asked made why = why
no_books T own ledger xs rs (run.Transfer e) asked made why = absurd why
no_books T own ledger xs rs (run.Ledger e) asked made why = (asked, made)
