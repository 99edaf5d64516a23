-- When a table is bad.
use Rattle.std.proofs.Common.{◌≡◌, ℕ, Bool, true, false, List, map, Option, Some, None, refl, sym, ap, ◌∙◌, inl, inr}
use Rattle.std.specs.Prelude.{◌⊎◌, IsErrOf, Result, Ok, Err}
use Rattle.std.specs.Str.Lines.{lines}
use Rattle.std.specs.Borrow.{Bor}
use Rattle.st_hop.specs.declared.account.Account.{Account}
use Rattle.st_hop.specs.declared.route.Route.{Route}
use Rattle.st_hop.specs.Hop.{Way}
use Rattle.st_hop.specs.Seen.{way_seen}
use Rattle.st_hop.specs.Table.{is_table}
use Rattle.ilpstream_settings.specs.Table.{AreDistinct, HasBad, HasSameName, Says, Text, names_of}
use Rattle.ilpstream_settings.specs.declared.line.AccountLine.{AccountLine}
use Rattle.ilpstream_net.specs.declared.error.RunError.{RunError}
use Rattle.ilpstream_net.specs.declared.error.RunError.TheVariants as run
use Rattle.st_devices.specs.declared.tally.Tally.{Tally}
use Rattle.ilpstream_net.specs.Table.{EndsBy, FailsFirst, HasTable, LacksTable, SaysTable, TellsBad, is_hop}

-- no table is one for a hop: what the laws of tables say of its text
module _ (bad : (text : Text) (xs : List AccountLine) (rs : List Route) → HasBad text → Says (lines text) xs rs → ⊥)
    (same : (text : Text) (xs : List AccountLine) (rs : List Route) → HasSameName text → Says (lines text) xs rs → AreDistinct (names_of xs) → ⊥)
    (one : (ls : List Text) (xs ys : List AccountLine) (rs qs : List Route) → Says ls xs rs → Says ls ys qs → (names_of xs ≡ names_of ys) × (map (λ x. x.terms) xs ≡ map (λ x. x.terms) ys) × (map way_seen rs ≡ map way_seen qs))
  where
    one_hop : (own bytes : List ℕ) (xs ys : List AccountLine) (rs qs : List Route) → SaysTable bytes xs rs → SaysTable bytes ys qs → is_hop own xs rs ≡ is_hop own ys qs
    one_hop own bytes xs ys rs qs a b =
        let alike = one (lines bytes) xs ys rs qs a.says b.says in
        ap (λ (ts : List Account). is_table own ts (map way_seen rs)) alike.1 ∙ ap (λ (ws : List Way). is_table own (map (λ x. x.terms) ys) ws) alike.2

    none_lacking : (own bytes : List ℕ) → LacksTable own bytes → ¬ (HasTable own bytes)
    none_lacking own bytes (inl (inl no_text)) has = absurd (let clash : ◌≡◌ {A = Bool} true false = sym has.2.text ∙ no_text in cc)
    none_lacking own bytes (inl (inr (inl is))) has = bad bytes has.0 has.1 is has.2.says
    none_lacking own bytes (inl (inr (inr is))) has = same bytes has.0 has.1 is has.2.says has.2.distinct
    none_lacking own bytes (inr lacks) has =
        absurd (let clash : ◌≡◌ {A = Bool} true false = sym has.3 ∙ (one_hop own bytes has.0 lacks.0 has.1 lacks.1 has.2 lacks.2 ∙ lacks.3) in cc)

    always_bad : (own : List ℕ) (ledger : Option (Bor (List ℕ))) (bytes : List ℕ) (r s : Tally) (result : Result (Unit {0}) RunError) → EndsBy own ledger (Some bytes) r s result
        → ¬ (HasTable own bytes) → IsErrOf result run.BadTable ⊎ FailsFirst result r s
    always_bad own ledger bytes r s (Ok x) by none = absurd (none by)
    always_bad own ledger bytes r s (Err (run.Fault x)) (inl fails) none = inr fails
    always_bad own ledger bytes r s (Err (run.Fault x)) (inr has) none = absurd (none has)
    always_bad own ledger bytes r s (Err run.NoRandom) by none = absurd by
    always_bad own ledger bytes r s (Err run.NoListener) by none = absurd (none by)
    always_bad own ledger bytes r s (Err run.NoHop) by none = absurd (none by)
    always_bad own ledger bytes r s (Err run.BadTable) by none = inl refl
    always_bad own ledger bytes r s (Err run.BadOption) by none = absurd by
    always_bad own ledger bytes r s (Err (run.Transfer e)) by none = absurd (none by)
    always_bad own ledger bytes r s (Err (run.Ledger e)) by none = absurd (none by.1)

    only_bad : (own : List ℕ) (ledger : Option (Bor (List ℕ))) (bytes : List ℕ) (r s : Tally) (result : Result (Unit {0}) RunError) → EndsBy own ledger (Some bytes) r s result
        → IsErrOf result run.BadTable → ¬ (HasTable own bytes)
    only_bad own ledger bytes r s (Err run.BadTable) by is = none_lacking own bytes by
    only_bad own ledger bytes r s (Ok x) by is = absurd (cc)
    only_bad own ledger bytes r s (Err (run.Fault x)) by is = absurd (cc)
    only_bad own ledger bytes r s (Err run.NoRandom) by is = absurd (cc)
    only_bad own ledger bytes r s (Err run.NoListener) by is = absurd (cc)
    only_bad own ledger bytes r s (Err run.NoHop) by is = absurd (cc)
    only_bad own ledger bytes r s (Err run.BadOption) by is = absurd (cc)
    only_bad own ledger bytes r s (Err (run.Transfer e)) by is = absurd (cc)
    only_bad own ledger bytes r s (Err (run.Ledger e)) by is = absurd (cc)

    pub tells_bad : (own : List ℕ) (ledger : Option (Bor (List ℕ))) (input : Option (List ℕ)) (r s : Tally) (result : Result (Unit {0}) RunError) → EndsBy own ledger input r s result → TellsBad own input r s result
    tells_bad own ledger None r s result by = record { only = λ is. tt; always = tt }
    tells_bad own ledger (Some bytes) r s result by = record { only = only_bad own ledger bytes r s result by; always = always_bad own ledger bytes r s result by }
