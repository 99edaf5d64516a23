-- What the texts of `ledger FILE [settle NAME AMOUNT [--reference TEXT]]` and of `ledger FILE adjust NAME claims|dues N --reference TEXT` say.
use Rattle.std.specs.Prelude.{◌≡◌, ◌⊎◌, ℕ, Bool, true, ◌&&◌, nat_le, ⊤, List, [], ◌∷◌, ◌++◌, length, codes, map, Option, Some, None, option_map}
use Rattle.std.specs.List.{list_all}
use Rattle.st_http.specs.Texts.{is_field_text}
use Rattle.ilpstream_settings.specs.declared.options.LedgerOptions.{LedgerOptions}
use Rattle.ilpstream_settings.specs.declared.ledger.LedgerSettings.{LedgerSettings}
use Rattle.ilpstream_settings.specs.declared.ledger.Payment.{Payment}
use Rattle.ilpstream_settings.specs.declared.ledger.Kind.TheVariants.{Settle, Adjust}
use Rattle.st_links.specs.declared.side.BalanceSide.{BalanceSide}
use Rattle.st_links.specs.declared.side.BalanceSide.TheVariants.{Claims, Dues}
use Rattle.ilpstream_settings.specs.Settings.{IsWithin, most_money}

-- the texts of `ledger`
pub record LedgerTexts : Type 0 where
  pub file : List ℕ
  pub payment : Option (List (List ℕ))

abbrev pub ledger_texts : LedgerOptions → LedgerTexts
ledger_texts o = record {
  file = o.file.now;
  payment = option_map (λ words. map (λ word. word.now) words.now) o.payment;
}

-- The text writes an amount, in units: by digits alone of what an account owes, and after a minus of what it is owed.
abbrev pub IsAmount : List ℕ → BalanceSide → ℕ → Type 0
IsAmount text Claims n = IsWithin 1 most_money text n
IsAmount text Dues n = (digits : List ℕ) × (text ≡ codes "-" ++ digits) × IsWithin 1 most_money digits n

-- 1 to 128 printable characters
abbrev pub is_reference : List ℕ → Bool
is_reference text = (nat_le 1 (length text) && nat_le (length text) 128) && list_all (λ b. nat_le 32 b && nat_le b 126) text

-- the word names the side
abbrev pub IsSide : List ℕ → BalanceSide → Type 0
IsSide word Claims = word ≡ codes "claims"
IsSide word Dues = word ≡ codes "dues"

-- `settle NAME AMOUNT`
pub record IsSettle (words : List (List ℕ)) (p : Payment) : Type 0 where
  pub name : List ℕ
  pub amount : List ℕ
  pub words_are : words ≡ codes "settle" ∷ name ∷ amount ∷ []
  pub name_is : (p.name.now ≡ name) × (is_field_text name ≡ true)
  pub amount_is : IsAmount amount p.side p.amount
  pub kind_is : p.kind ≡ Settle
  pub alone : p.reference ≡ None

-- a payment of these texts under this reference
pub record IsPaidOnce (name amount reference : List ℕ) (p : Payment) : Type 0 where
  pub name_is : (p.name.now ≡ name) × (is_field_text name ≡ true)
  pub amount_is : IsAmount amount p.side p.amount
  pub kind_is : p.kind ≡ Settle
  pub reference_is : (option_map (λ r. r.now) p.reference ≡ Some reference) × (is_reference reference ≡ true)

-- `settle NAME AMOUNT --reference TEXT`
pub record IsSettleOnce (words : List (List ℕ)) (p : Payment) : Type 0 where
  pub name : List ℕ
  pub amount : List ℕ
  pub reference : List ℕ
  pub words_are : words ≡ codes "settle" ∷ name ∷ amount ∷ codes "--reference" ∷ reference ∷ []
  pub is : IsPaidOnce name amount reference p

-- an adjustment of these texts
pub record IsAdjusted (name side amount reference : List ℕ) (p : Payment) : Type 0 where
  pub name_is : (p.name.now ≡ name) × (is_field_text name ≡ true)
  pub side_is : IsSide side p.side
  pub amount_is : IsWithin 1 most_money amount p.amount
  pub kind_is : p.kind ≡ Adjust
  pub reference_is : (option_map (λ r. r.now) p.reference ≡ Some reference) × (is_reference reference ≡ true)

-- `adjust NAME claims|dues N --reference TEXT`
pub record IsAdjust (words : List (List ℕ)) (p : Payment) : Type 0 where
  pub name : List ℕ
  pub side : List ℕ
  pub amount : List ℕ
  pub reference : List ℕ
  pub words_are : words ≡ codes "adjust" ∷ name ∷ side ∷ amount ∷ codes "--reference" ∷ reference ∷ []
  pub is : IsAdjusted name side amount reference p

-- a payment with a reference or without one, or an adjustment
abbrev pub IsPayment : (words : List (List ℕ)) → Payment → Type 0
IsPayment words p = IsSettle words p ⊎ IsSettleOnce words p ⊎ IsAdjust words p

-- the words of a payment are left out, and there is none; or they say it
abbrev pub Pays : Option (List (List ℕ)) → Option Payment → Type 0
Pays None None = ⊤
Pays None (Some p) = ⊥
Pays (Some words) None = ⊥
Pays (Some words) (Some p) = IsPayment words p

-- the texts ask `ledger` for this
pub record IsLedger (o : LedgerTexts) (s : LedgerSettings) : Type 0 where
  pub file : s.file.now ≡ o.file
  pub payment : Pays o.payment s.payment
