-- Lines are read in one way, and a bad line in none.
use Rattle.std.proofs.Common.{◌≡◌, ◌≢◌, ℕ, suc, List, [], ◌∷◌, ◌++◌, map, codes, refl, sym, ap, subst, ◌∙◌, inl, inr, decimal, Option, Some, None}
use Rattle.std.specs.Prelude.{◌⊎◌, unwrap_or}
use Rattle.std.specs.List.{AllByRecursion}
use Rattle.std.specs.Str.Lines.{lines}
use Rattle.st_oer.specs.Ratios.{Ratio, ratio}
use Rattle.st_hop.specs.declared.route.Route.{Route}
use Rattle.st_hop.specs.declared.account.Account.{Account}
use Rattle.st_hop.specs.Seen.{way_seen}
use Rattle.st_hop.specs.Hop.{Way}
use Rattle.ilpstream_settings.specs.declared.line.AccountLine.{AccountLine}
use Rattle.ilpstream_settings.specs.Numbers.{AreTerms, IsNumber}
use Rattle.ilpstream_settings.specs.Settings.{most_money, said}
use Rattle.ilpstream_settings.specs.Table.{AreDistinct, HasBad, HasSameName, HasTerms, IsAccount, IsAccountLine, IsBad, IsNamedAccount, IsPlainAccount, IsPlainRoute, IsRatedRoute, IsRoute, IsRouteLine, Says, Text, name_of, names_from, names_of, words_of}
use Rattle.ilpstream_settings.proofs.Tables.{no_account_there, no_route_there}

-- ---- one line

-- what a reading of an account's line says, without the destination of its Prepares
pub record SaysSame (x y : AccountLine) : Type 0 where
  pub name : said x.name ≡ said y.name
  pub terms : x.terms ≡ y.terms

one_number : (most : ℕ) (text : Text) (m n : ℕ) → IsNumber most text m → IsNumber most text n → m ≡ n
one_number most text m n a b = a.value ∙ sym b.value

same_terms : (limit max_packet token : Text) (x y : AccountLine) → HasTerms limit max_packet token x → HasTerms limit max_packet token y → x.terms ≡ y.terms
same_terms limit max_packet token x y a b =
    let l = one_number most_money limit x.terms.limit y.terms.limit a.limit_is b.limit_is in
    let m = one_number most_money max_packet x.terms.max_packet y.terms.max_packet a.max_packet_is b.max_packet_is in
    ap (λ (n : ℕ). record { limit = n; max_packet = x.terms.max_packet }) l ∙ ap (λ (n : ℕ). record { limit = y.terms.limit; max_packet = n }) m

one_plain : (words : List Text) (x y : AccountLine) → IsPlainAccount words x → IsPlainAccount words y → SaysSame x y
one_plain words x y a b =
    let e = sym a.words_are ∙ b.words_are in
    let limit : a.limit ≡ b.limit = cc in
    let max_packet : a.max_packet ≡ b.max_packet = cc in
    let token : a.token ≡ b.token = cc in
    let other : HasTerms b.limit b.max_packet b.token x = subst (λ (t : Text). HasTerms b.limit b.max_packet t x) token (subst (λ (t : Text). HasTerms b.limit t a.token x) max_packet (subst (λ (t : Text). HasTerms t a.max_packet a.token x) limit a.is.terms)) in
    record { name = a.is.name_is ∙ sym b.is.name_is; terms = same_terms b.limit b.max_packet b.token x y other b.is.terms }

one_named : (words : List Text) (x y : AccountLine) → IsNamedAccount words x → IsNamedAccount words y → SaysSame x y
one_named words x y a b =
    let e = sym a.words_are ∙ b.words_are in
    let word : a.word ≡ b.word = cc in
    let limit : a.limit ≡ b.limit = cc in
    let max_packet : a.max_packet ≡ b.max_packet = cc in
    let token : a.token ≡ b.token = cc in
    let spelt : codes "NAME=" ++ a.name ≡ codes "NAME=" ++ b.name = sym a.naming.word_is ∙ (word ∙ b.naming.word_is) in
    let name : a.name ≡ b.name = cc in
    let other : HasTerms b.limit b.max_packet b.token x = subst (λ (t : Text). HasTerms b.limit b.max_packet t x) token (subst (λ (t : Text). HasTerms b.limit t a.token x) max_packet (subst (λ (t : Text). HasTerms t a.max_packet a.token x) limit a.is.terms)) in
    record { name = a.is.name_is ∙ (ap (λ (t : Text). Some t) name ∙ sym b.is.name_is); terms = same_terms b.limit b.max_packet b.token x y other b.is.terms }

pub one_account : (words : List Text) (x y : AccountLine) → IsAccountLine words x → IsAccountLine words y → SaysSame x y
one_account words x y (inl a) (inl b) = one_plain words x y a b
one_account words x y (inl a) (inr b) = absurd (let e = sym a.words_are ∙ b.words_are in cc)
one_account words x y (inr a) (inl b) = absurd (let e = sym a.words_are ∙ b.words_are in cc)
one_account words x y (inr a) (inr b) = one_named words x y a b

same_route : (prefix account : Text) (rate : Ratio) (r q : Route) → IsRoute prefix account rate r → IsRoute prefix account rate q → way_seen r ≡ way_seen q
same_route prefix account rate r q a b =
    let p : r.prefix.now ≡ q.prefix.now = a.prefix_is ∙ sym b.prefix_is in
    let n = one_number most_money account r.account q.account a.account_is b.account_is in
    let t : r.rate ≡ q.rate = a.rate_is ∙ sym b.rate_is in
    ap (λ (z : Text). record { prefix = z; account = r.account; rate = r.rate }) p
    ∙ (ap (λ (z : ℕ). record { prefix = q.prefix.now; account = z; rate = r.rate }) n ∙ ap (λ (z : Ratio). record { prefix = q.prefix.now; account = q.account; rate = z }) t)

one_rate : (num den : Text) (r q : Ratio) → AreTerms num den r → AreTerms num den q → r ≡ q
one_rate num den r q a b =
    ap (λ (z : ℕ). record { num = z; den = r.den }) (a.num_is.value ∙ sym b.num_is.value) ∙ ap (λ (z : ℕ). record { num = q.num; den = z }) (a.den_is.value ∙ sym b.den_is.value)

pub one_route : (words : List Text) (r q : Route) → IsRouteLine words r → IsRouteLine words q → way_seen r ≡ way_seen q
one_route words r q (inl a) (inl b) =
    let e = sym a.words_are ∙ b.words_are in
    let prefix : a.prefix ≡ b.prefix = cc in
    let account : a.account ≡ b.account = cc in
    same_route b.prefix b.account (ratio 1 1) r q (subst (λ (t : Text). IsRoute b.prefix t (ratio 1 1) r) account (subst (λ (t : Text). IsRoute t a.account (ratio 1 1) r) prefix a.said)) b.said
one_route words r q (inl a) (inr b) = absurd (let e = sym a.words_are ∙ b.words_are in cc)
one_route words r q (inr a) (inl b) = absurd (let e = sym a.words_are ∙ b.words_are in cc)
one_route words r q (inr a) (inr b) =
    let e = sym a.words_are ∙ b.words_are in
    let prefix : a.prefix ≡ b.prefix = cc in
    let account : a.account ≡ b.account = cc in
    let num : a.num ≡ b.num = cc in
    let den : a.den ≡ b.den = cc in
    let terms : AreTerms b.num b.den a.rate = subst (λ (t : Text). AreTerms b.num t a.rate) den (subst (λ (t : Text). AreTerms t a.den a.rate) num a.terms) in
    let rate : a.rate ≡ b.rate = one_rate b.num b.den a.rate b.rate terms b.terms in
    same_route b.prefix b.account b.rate r q
    (subst (λ (z : Ratio). IsRoute b.prefix b.account z r) rate (subst (λ (t : Text). IsRoute b.prefix t a.rate r) account (subst (λ (t : Text). IsRoute t a.account a.rate r) prefix a.said))) b.said

-- a line that says an account says no route, and each has words
account_route : (words : List Text) (x : AccountLine) (r : Route) → IsAccountLine words x → ¬ (IsRouteLine words r)
account_route words x r (inl a) is = no_route_there words _ r a.words_are is
account_route words x r (inr a) is = no_route_there words _ r a.words_are is

account_words : (words : List Text) (x : AccountLine) → IsAccountLine words x → words ≢ []
account_words words x (inl a) none = absurd (let e = sym a.words_are ∙ none in cc)
account_words words x (inr a) none = absurd (let e = sym a.words_are ∙ none in cc)

route_words : (words : List Text) (r : Route) → IsRouteLine words r → words ≢ []
route_words words r (inl a) none = absurd (let e = sym a.words_are ∙ none in cc)
route_words words r (inr a) none = absurd (let e = sym a.words_are ∙ none in cc)

-- ---- lines

-- what the first line says, and the others
abbrev First : Text → List Text → List AccountLine → List Route → Type 0
First l ls xs rs = ((words_of l ≡ []) × Says ls xs rs)
    ⊎ ((x : AccountLine) × (xs' : List AccountLine) × IsAccountLine (words_of l) x × (xs ≡ x ∷ xs') × Says ls xs' rs)
    ⊎ ((r : Route) × (rs' : List Route) × IsRouteLine (words_of l) r × (rs ≡ r ∷ rs') × Says ls xs rs')

says_first : (l : Text) (ls k : List Text) (xs : List AccountLine) (rs : List Route) → Says k xs rs → k ≡ l ∷ ls → First l ls xs rs
says_first l ls _ _ _ Says.ended e = absurd (cc)
says_first l ls _ _ _ (Says.blank m ms xs rs is rest) e =
    let line : m ≡ l = cc in
    let lines : ms ≡ ls = cc in
    inl (subst (λ (t : Text). words_of t ≡ []) line is, subst (λ (t : List Text). Says t xs rs) lines rest)
says_first l ls _ _ _ (Says.account m ms x xs rs is rest) e =
    let line : m ≡ l = cc in
    let lines : ms ≡ ls = cc in
    inr (inl (x, xs, subst (λ (t : Text). IsAccountLine (words_of t) x) line is, refl, subst (λ (t : List Text). Says t xs rs) lines rest))
says_first l ls _ _ _ (Says.route m ms xs r rs is rest) e =
    let line : m ≡ l = cc in
    let lines : ms ≡ ls = cc in
    inr (inr (r, rs, subst (λ (t : Text). IsRouteLine (words_of t) r) line is, refl, subst (λ (t : List Text). Says t xs rs) lines rest))

-- none is left
says_ended : (k : List Text) (xs : List AccountLine) (rs : List Route) → Says k xs rs → k ≡ [] → (xs ≡ []) × (rs ≡ [])
says_ended _ _ _ Says.ended e = (refl, refl)
says_ended _ _ _ (Says.blank m ms xs rs is rest) e = absurd (cc)
says_ended _ _ _ (Says.account m ms x xs rs is rest) e = absurd (cc)
says_ended _ _ _ (Says.route m ms xs r rs is rest) e = absurd (cc)

abbrev terms_of : List AccountLine → List Account
terms_of = map (λ x. x.terms)

abbrev ways_of : List Route → List Way
ways_of = map way_seen

pub record SayAlike (xs ys : List AccountLine) (rs qs : List Route) : Type 0 where
  pub names : (i : ℕ) → names_from i xs ≡ names_from i ys
  pub terms : terms_of xs ≡ terms_of ys
  pub ways : ways_of rs ≡ ways_of qs

more_account : (x y : AccountLine) (xs ys zs : List AccountLine) (rs qs : List Route) → SaysSame x y → SayAlike xs ys rs qs → zs ≡ y ∷ ys → SayAlike (x ∷ xs) zs rs qs
unfolding names_from
more_account x y xs ys zs rs qs one all is =
    let P : List AccountLine → Type 0 = λ l. SayAlike (x ∷ xs) l rs qs in
    subst P (sym is) (record {
      names = λ i. ap (λ (o : Option Text). unwrap_or o (decimal i) ∷ names_from (suc i) xs) one.name ∙ ap (λ (l : List Text). name_of i y ∷ l) (all.names (suc i));
      terms = ap (λ (t : Account). t ∷ terms_of xs) one.terms ∙ ap (λ (l : List Account). y.terms ∷ l) all.terms;
      ways = all.ways;
    })

more_route : (r q : Route) (rs qs ps : List Route) (xs ys : List AccountLine) → way_seen r ≡ way_seen q → SayAlike xs ys rs qs → ps ≡ q ∷ qs → SayAlike xs ys (r ∷ rs) ps
more_route r q rs qs ps xs ys one all is =
    let P : List Route → Type 0 = λ l. SayAlike xs ys (r ∷ rs) l in
    subst P (sym is) (record {
      names = all.names;
      terms = all.terms;
      ways = ap (λ (w : Way). w ∷ ways_of rs) one ∙ ap (λ (l : List Way). way_seen q ∷ l) all.ways;
    })

pub say_alike : (ls : List Text) (xs ys : List AccountLine) (rs qs : List Route) → Says ls xs rs → Says ls ys qs → SayAlike xs ys rs qs
unfolding names_from
say_alike _ _ ys _ qs Says.ended second =
    let none = says_ended [] ys qs second refl in
    record { names = λ i. ap (names_from i) (sym none.0); terms = ap terms_of (sym none.0); ways = ap ways_of (sym none.1) }
say_alike _ _ ys _ qs (Says.blank l ls xs rs is rest) second = elim (says_first l ls (l ∷ ls) ys qs second refl) [
  | inl blank ↦ say_alike ls xs ys rs qs rest blank.1
  | inr (inl account) ↦ absurd (account_words (words_of l) account.0 account.2 is)
  | inr (inr route) ↦ absurd (route_words (words_of l) route.0 route.2 is)
]
say_alike _ _ ys _ qs (Says.account l ls x xs rs is rest) second = elim (says_first l ls (l ∷ ls) ys qs second refl) [
  | inl blank ↦ absurd (account_words (words_of l) x is blank.0)
  | inr (inl account) ↦ more_account x account.0 xs account.1 ys rs qs (one_account (words_of l) x account.0 is account.2) (say_alike ls xs account.1 rs qs rest account.4) account.3
  | inr (inr route) ↦ absurd (account_route (words_of l) x route.0 is route.2)
]
say_alike _ _ ys _ qs (Says.route l ls xs r rs is rest) second = elim (says_first l ls (l ∷ ls) ys qs second refl) [
  | inl blank ↦ absurd (route_words (words_of l) r is blank.0)
  | inr (inl account) ↦ absurd (account_route (words_of l) account.0 r account.2 is)
  | inr (inr route) ↦ more_route r route.0 rs route.1 qs xs ys (one_route (words_of l) r route.0 is route.2) (say_alike ls xs ys rs route.1 rest route.4) route.3
]

-- ---- what says no table

first_good : (l : Text) (ls : List Text) (xs : List AccountLine) (rs : List Route) → Says (l ∷ ls) xs rs → ¬ (IsBad (words_of l))
first_good l ls xs rs says bad = elim (says_first l ls (l ∷ ls) xs rs says refl) [
  | inl blank ↦ bad.some_word blank.0
  | inr (inl account) ↦ bad.no_account account.0 account.2
  | inr (inr route) ↦ bad.no_route route.0 route.2
]

good_after : (before : List Text) (line : Text) (after : List Text) (xs : List AccountLine) (rs : List Route) → Says (before ++ line ∷ after) xs rs → ¬ (IsBad (words_of line))
good_after [] line after xs rs says bad = first_good line after xs rs says bad
good_after (l ∷ before) line after xs rs says bad = elim (says_first l (before ++ line ∷ after) (l ∷ before ++ line ∷ after) xs rs says refl) [
  | inl blank ↦ good_after before line after xs rs blank.1 bad
  | inr (inl account) ↦ good_after before line after account.1 rs account.4 bad
  | inr (inr route) ↦ good_after before line after xs route.1 route.4 bad
]

pub none_bad : (text : Text) (xs : List AccountLine) (rs : List Route) → HasBad text → Says (lines text) xs rs → ⊥
none_bad text xs rs bad says = good_after bad.before bad.line bad.after xs rs (subst (λ (ls : List Text). Says ls xs rs) bad.lines_are says) bad.bad

apart_from : (name : Text) (between after : List Text) → ¬ (AllByRecursion (λ other. other ≢ name) (between ++ name ∷ after))
apart_from name [] after all = all.0 refl
apart_from name (n ∷ between) after all = apart_from name between after all.1

once : (before : List Text) (name : Text) (between after : List Text) → ¬ (AreDistinct (before ++ name ∷ between ++ name ∷ after))
once [] name between after d = apart_from name between after d.0
once (n ∷ before) name between after d = once before name between after d.1

pub none_twice : (text : Text) (xs : List AccountLine) (rs : List Route) → HasSameName text → Says (lines text) xs rs → AreDistinct (names_of xs) → ⊥
none_twice text xs rs same says distinct =
    let alike = say_alike (lines text) xs same.accounts rs same.routes says same.says in
    once same.twice.before same.twice.name same.twice.between same.twice.after (subst AreDistinct (alike.names 0 ∙ same.twice.names_are) distinct)
