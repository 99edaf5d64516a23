-- What the words of a line say, word by word.
use Rattle.std.proofs.Common.{◌≡◌, ◌≤◌, ◌<◌, ℕ, Option, Some, None, List, [], ◌∷◌, ◌++◌, Bor, length, map, get_or, codes, refl, sym, ◌∙◌, inl, inr, arith}
use Rattle.std.specs.Prelude.{MatchOption}
use Rattle.st_oer.specs.Ratios.{Ratio}
use Rattle.st_hop.specs.declared.route.Route.{Route}
use Rattle.ilpstream_settings.specs.declared.line.AccountLine.{AccountLine}
use Rattle.ilpstream_settings.specs.Numbers.{AreTerms, IsNumber}
use Rattle.ilpstream_settings.specs.Settings.{most_money}
use Rattle.ilpstream_settings.specs.Table.{IsAccount, IsAccountLine, IsNaming, IsRoute, IsRouteLine, Text}

abbrev Words : Type 0
Words = List (Bor (List ℕ))

pub three_words : (ws : Words) (d : Bor (List ℕ)) → 3 ≤ length ws → length ws < 4
    → map (λ w. w.now) ws ≡ (get_or ws 0 d).now ∷ (get_or ws 1 d).now ∷ (get_or ws 2 d).now ∷ []
three_words [] d least most = absurd (omega arith)
three_words (a ∷ []) d least most = absurd (omega arith)
three_words (a ∷ b ∷ []) d least most = absurd (omega arith)
three_words (a ∷ b ∷ x ∷ []) d least most = refl
three_words (a ∷ b ∷ x ∷ y ∷ ws) d least most = absurd (omega arith)

pub four_words : (ws : Words) (d : Bor (List ℕ)) → 4 ≤ length ws → length ws < 5
    → map (λ w. w.now) ws ≡ (get_or ws 0 d).now ∷ (get_or ws 1 d).now ∷ (get_or ws 2 d).now ∷ (get_or ws 3 d).now ∷ []
four_words [] d least most = absurd (omega arith)
four_words (a ∷ ws) d least most = rw (three_words ws d (omega arith) (omega arith)) refl

pub five_words : (ws : Words) (d : Bor (List ℕ)) → 5 ≤ length ws → length ws < 6
    → map (λ w. w.now) ws ≡ (get_or ws 0 d).now ∷ (get_or ws 1 d).now ∷ (get_or ws 2 d).now ∷ (get_or ws 3 d).now ∷ (get_or ws 4 d).now ∷ []
five_words [] d least most = absurd (omega arith)
five_words (a ∷ ws) d least most = rw (four_words ws d (omega arith) (omega arith)) refl

pub six_words : (ws : Words) (d : Bor (List ℕ)) → 6 ≤ length ws → length ws < 7
    → map (λ w. w.now) ws ≡ (get_or ws 0 d).now ∷ (get_or ws 1 d).now ∷ (get_or ws 2 d).now ∷ (get_or ws 3 d).now ∷ (get_or ws 4 d).now ∷ (get_or ws 5 d).now ∷ []
six_words [] d least most = absurd (omega arith)
six_words (a ∷ ws) d least most = rw (five_words ws d (omega arith) (omega arith)) refl

-- a word gives one name alone
naming_once : (word name other : Text) → IsNaming word name → IsNaming word other → other ≡ name
naming_once word name other is has =
    let same : codes "NAME=" ++ name ≡ codes "NAME=" ++ other = sym is.word_is ∙ has.word_is in
    sym (cc)

module _ (limit max_packet token host out : Text) where
  abbrev plain_words : List Text
  plain_words = codes "account" ∷ limit ∷ max_packet ∷ token ∷ host ∷ out ∷ []

  pub no_plain : ((x : AccountLine) → ¬ (IsAccount None limit max_packet token host out x)) → (x : AccountLine) → ¬ (IsAccountLine plain_words x)
  no_plain none x (inl has) =
      let same_limit : has.limit ≡ limit = cc in
      let same_max : has.max_packet ≡ max_packet = cc in
      let same_token : has.token ≡ token = cc in
      let same_host : has.host ≡ host = cc in
      let same_out : has.out ≡ out = cc in
      none x (rw (same_limit, same_max, same_token, same_host, same_out) at has.is)
  no_plain none x (inr has) = let wrong = has.words_are in absurd (cc)

  pub plain_said : (o : Option AccountLine)
      → MatchOption o ((x : AccountLine) → ¬ (IsAccount None limit max_packet token host out x)) (IsAccount None limit max_packet token host out)
      → MatchOption o ((x : AccountLine) → ¬ (IsAccountLine plain_words x)) (IsAccountLine plain_words)
  plain_said None none = no_plain none
  plain_said (Some x) is = inl (record {
    limit = limit;
    max_packet = max_packet;
    token = token;
    host = host;
    out = out;
    words_are = refl;
    is = is;
  })

  module _ (word : Text) where
    abbrev named_words : List Text
    named_words = codes "account" ∷ word ∷ limit ∷ max_packet ∷ token ∷ host ∷ out ∷ []

    pub no_name : ((name : Text) → ¬ (IsNaming word name)) → (x : AccountLine) → ¬ (IsAccountLine named_words x)
    no_name none x (inl has) = let wrong = has.words_are in absurd (cc)
    no_name none x (inr has) =
        let same : has.word ≡ word = cc in
        none has.name (rw same at has.naming)

    no_named : (name : Text) → IsNaming word name → ((x : AccountLine) → ¬ (IsAccount (Some name) limit max_packet token host out x))
        → (x : AccountLine) → ¬ (IsAccountLine named_words x)
    no_named name naming none x (inl has) = let wrong = has.words_are in absurd (cc)
    no_named name naming none x (inr has) =
        let same_word : has.word ≡ word = cc in
        let same_limit : has.limit ≡ limit = cc in
        let same_max : has.max_packet ≡ max_packet = cc in
        let same_token : has.token ≡ token = cc in
        let same_host : has.host ≡ host = cc in
        let same_out : has.out ≡ out = cc in
        let same_name : has.name ≡ name = naming_once word name has.name naming (rw same_word at has.naming) in
        none x (rw (same_name, same_limit, same_max, same_token, same_host, same_out) at has.is)

    pub named_said : (name : Text) → IsNaming word name → (o : Option AccountLine)
        → MatchOption o ((x : AccountLine) → ¬ (IsAccount (Some name) limit max_packet token host out x)) (IsAccount (Some name) limit max_packet token host out)
        → MatchOption o ((x : AccountLine) → ¬ (IsAccountLine named_words x)) (IsAccountLine named_words)
    named_said name naming None none = no_named name naming none
    named_said name naming (Some x) is = inr (record {
      word = word;
      name = name;
      limit = limit;
      max_packet = max_packet;
      token = token;
      host = host;
      out = out;
      words_are = refl;
      naming = naming;
      is = is;
    })

module _ (prefix account num den : Text) where
  abbrev route_words : List Text
  route_words = codes "route" ∷ prefix ∷ account ∷ num ∷ den ∷ []

  pub no_rate : ((r : Ratio) → ¬ (AreTerms num den r)) → (r : Route) → ¬ (IsRouteLine route_words r)
  no_rate none r (inl plain) = let wrong = plain.words_are in absurd (cc)
  no_rate none r (inr rated) =
      let same_num : rated.num ≡ num = cc in
      let same_den : rated.den ≡ den = cc in
      none rated.rate (rw (same_num, same_den) at rated.terms)

  pub no_account : ((n : ℕ) → ¬ (IsNumber most_money account n)) → (r : Route) → ¬ (IsRouteLine route_words r)
  no_account none r (inl plain) = let wrong = plain.words_are in absurd (cc)
  no_account none r (inr rated) =
      let same : rated.account ≡ account = cc in
      none r.account (rw same at rated.said.account_is)

  pub route_said : (rate : Ratio) → AreTerms num den rate → (o : Option Route)
      → MatchOption o ((n : ℕ) → ¬ (IsNumber most_money account n)) (IsRoute prefix account rate)
      → MatchOption o ((r : Route) → ¬ (IsRouteLine route_words r)) (IsRouteLine route_words)
  route_said rate terms None none = no_account none
  route_said rate terms (Some r) is = inr (record {
    prefix = prefix;
    account = account;
    num = num;
    den = den;
    rate = rate;
    words_are = refl;
    terms = terms;
    said = is;
  })
