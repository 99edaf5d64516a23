-- What the words of a payment or an adjustment say, by their parts.
use Rattle.std.proofs.Common.{◌≡◌, ◌≢◌, inl, inr, Option, Some, None, List, [], ◌∷◌, codes, ap₂}
use Rattle.std.specs.Prelude.{MatchOption}
use Rattle.ilpstream_settings.specs.declared.ledger.Payment.{Payment}
use Rattle.ilpstream_settings.specs.Ledger.{IsAdjust, IsAdjusted, IsPaidOnce, IsPayment, IsSettle, IsSettleOnce}
use Rattle.ilpstream_settings.specs.Table.{Text}

module _ (word name amount option reference : Text) where
  abbrev once_words : List Text
  once_words = word ∷ name ∷ amount ∷ option ∷ reference ∷ []

  no_once : ((p : Payment) → ¬ (IsPaidOnce name amount reference p)) → (p : Payment) → ¬ (IsSettleOnce once_words p)
  no_once none p has =
      let words = has.words_are in
      let same_name : has.name ≡ name = cc in
      let same_amount : has.amount ≡ amount = cc in
      let same_reference : has.reference ≡ reference = cc in
      none p (rw (same_name, same_amount, same_reference) at has.is)

  pub once_said : word ≡ codes "settle" → option ≡ codes "--reference" → (o : Option Payment)
      → MatchOption o ((p : Payment) → ¬ (IsPaidOnce name amount reference p)) (IsPaidOnce name amount reference)
      → MatchOption o ((p : Payment) → ¬ (IsSettleOnce once_words p)) (IsSettleOnce once_words)
  once_said is_word is_option None none = no_once none
  once_said is_word is_option (Some p) is = record {
    name = name;
    amount = amount;
    reference = reference;
    words_are = ap₂ (λ (w o : Text). w ∷ name ∷ amount ∷ o ∷ reference ∷ []) is_word is_option;
    is = is;
  }

  pub not_settle : word ≢ codes "settle" → (p : Payment) → ¬ (IsSettleOnce once_words p)
  not_settle other p has =
      let words = has.words_are in
      let same : word ≡ codes "settle" = cc in
      other same

  pub no_option : option ≢ codes "--reference" → (p : Payment) → ¬ (IsSettleOnce once_words p)
  no_option other p has =
      let words = has.words_are in
      let same : option ≡ codes "--reference" = cc in
      other same

module _ (word name side amount option reference : Text) where
  abbrev six_words : List Text
  six_words = word ∷ name ∷ side ∷ amount ∷ option ∷ reference ∷ []

  no_adjustment : ((p : Payment) → ¬ (IsAdjusted name side amount reference p)) → (p : Payment) → ¬ (IsAdjust six_words p)
  no_adjustment none p has =
      let words = has.words_are in
      let same_name : has.name ≡ name = cc in
      let same_side : has.side ≡ side = cc in
      let same_amount : has.amount ≡ amount = cc in
      let same_reference : has.reference ≡ reference = cc in
      none p (rw (same_name, same_side, same_amount, same_reference) at has.is)

  pub adjustment_said : word ≡ codes "adjust" → option ≡ codes "--reference" → (o : Option Payment)
      → MatchOption o ((p : Payment) → ¬ (IsAdjusted name side amount reference p)) (IsAdjusted name side amount reference)
      → MatchOption o ((p : Payment) → ¬ (IsAdjust six_words p)) (IsAdjust six_words)
  adjustment_said is_word is_option None none = no_adjustment none
  adjustment_said is_word is_option (Some p) is = record {
    name = name;
    side = side;
    amount = amount;
    reference = reference;
    words_are = ap₂ (λ (w o : Text). w ∷ name ∷ side ∷ amount ∷ o ∷ reference ∷ []) is_word is_option;
    is = is;
  }

  pub not_adjust : word ≢ codes "adjust" → (p : Payment) → ¬ (IsAdjust six_words p)
  not_adjust other p has =
      let words = has.words_are in
      let same : word ≡ codes "adjust" = cc in
      other same

  pub no_option_of_six : option ≢ codes "--reference" → (p : Payment) → ¬ (IsAdjust six_words p)
  no_option_of_six other p has =
      let words = has.words_are in
      let same : option ≡ codes "--reference" = cc in
      other same

-- words that are neither payment say what they say of an adjustment
pub adjustment_alone : (words : List Text) (o : Option Payment) → ((p : Payment) → ¬ (IsSettle words p)) → ((p : Payment) → ¬ (IsSettleOnce words p))
    → MatchOption o ((p : Payment) → ¬ (IsAdjust words p)) (IsAdjust words) → MatchOption o ((p : Payment) → ¬ (IsPayment words p)) (IsPayment words)
adjustment_alone words None first second none = none_of
  where
    none_of : (p : Payment) → ¬ (IsPayment words p)
    none_of p (inl a) = first p a
    none_of p (inr (inl b)) = second p b
    none_of p (inr (inr c)) = none p c
adjustment_alone words (Some p) first second is = inr (inr is)
