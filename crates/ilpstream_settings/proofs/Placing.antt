-- Lines of a table, read one by one: the names of its accounts, and its routes with the numbers of their lines.
use Rattle.std.proofs.Common.{◌≡◌, ◌≤◌, ◌<◌, ◌⊎◌, ℕ, ◌+◌, suc, Bool, true, false, not, ◌||◌, List, [], ◌∷◌, ◌++◌, Bor, String, length, map, take, drop, get_or, refl, sym, ap, ap₂, ◌∙◌, inl, inr, arith, length-append, subst, true≢false}
use Rattle.std.specs.Prelude.{MatchBool, MatchOption, IfOk, Result, Ok, Err, Option, Some, None, if◌then◌else◌, string_bytes}
use Rattle.std.specs.String.{string_eq}
use Rattle.std.specs.List.{list_any}
use Rattle.indexmap.specs.IndexSet.{insert_key}
use Rattle.std.specs.Str.{is_utf8}
use Rattle.std.specs.Str.Lines.{lines}
use Rattle.std.proofs.lemmas.Str.{is_utf8-from_IsUtf8}
use Rattle.std.proofs.lemmas.List.{length-map, length-take-le, map-append}
use Rattle.st_hop.specs.declared.route.Route.{Route}
use Rattle.ilpstream_settings.specs.declared.line.AccountLine.{AccountLine}
use Rattle.ilpstream_settings.specs.declared.whole.PlacedRoute.{PlacedRoute}
use Rattle.ilpstream_settings.specs.declared.whole.WholeFault.{WholeFault}
use Rattle.ilpstream_settings.specs.declared.whole.WholeRule.{WholeRule}
use Rattle.ilpstream_settings.specs.Faults.{HasGoodLines, IsGood}
use Rattle.ilpstream_settings.specs.Table.{AreDistinct, IsAccountLine, IsBad, IsRouteLine, Says, Takes, Text, name_of, names_from, names_of, words_of}
use Rattle.ilpstream_settings.specs.Whole.{Adds, AreGood, BreaksWhole, IsBadRoute, IsFirstRoute, IsSameName, IsWhole, IsWholeFault, Stands, are_routes, is_one_of, prefixes_of, routes_of}
use Rattle.ilpstream_settings.proofs.AccountNames.{distinct_push, none_has}
use Rattle.ilpstream_settings.proofs.LawfulRoutes.{lawful_table}
use Rattle.ilpstream_settings.proofs.Tables.{lines_more, lines_round, lines_whole, says_more}

abbrev Words : Type 0
Words = List (Bor (List ℕ))

abbrev texts : Words → List Text
texts = map (λ w. w.now)

-- a name is among others as its bytes are
pub any_bytes : {X : Type 0} (name : String X) (names : List (String X)) → list_any (string_eq name) names ≡ is_one_of (map string_bytes names) (string_bytes name)
any_bytes name [] = refl
any_bytes name (n ∷ names) = ap (λ (b : Bool). string_eq name n || b) (any_bytes name names)

-- a name that is put among others, or is there already
pub name_taken : {X : Type 0} (names new : List (String X)) (name : String X) (text : Text) (fresh : Bool) → string_bytes name ≡ text
    → fresh ≡ not (list_any (string_eq name) names) → new ≡ insert_key string_eq names name
    → MatchBool fresh
    ((is_one_of (map string_bytes names) text ≡ false) × (map string_bytes new ≡ map string_bytes names ++ text ∷ []))
    (is_one_of (map string_bytes names) text ≡ true)
name_taken names new name text fresh is fresh_is put = by (list_any (string_eq name) names) refl fresh_is put
  where
    there : (b : Bool) → list_any (string_eq name) names ≡ b → is_one_of (map string_bytes names) text ≡ b
    there b e = ap (is_one_of (map string_bytes names)) (sym is) ∙ sym (any_bytes name names) ∙ e

    by : (b : Bool) → list_any (string_eq name) names ≡ b → fresh ≡ not b → new ≡ (if b then names else names ++ name ∷ [])
        → MatchBool fresh
        ((is_one_of (map string_bytes names) text ≡ false) × (map string_bytes new ≡ map string_bytes names ++ text ∷ []))
        (is_one_of (map string_bytes names) text ≡ true)
    by true e f p = rw f (there true e)
    by false e f p =
        rw f (there false e, ap (map string_bytes) p ∙ map-append string_bytes names (name ∷ []) ∙ ap (λ (t : Text). map string_bytes names ++ t ∷ []) is)

names_push : (i : ℕ) (xs : List AccountLine) (x : AccountLine) → names_from i (xs ++ x ∷ []) ≡ names_from i xs ++ name_of (i + length xs) x ∷ []
unfolding names_from
names_push i [] x =
    let same : i ≡ i + 0 = omega arith in
    ap (λ (n : ℕ). name_of n x ∷ []) same
names_push i (a ∷ xs) x =
    let same : suc i + length xs ≡ i + suc (length xs) = omega arith in
    ap (λ (names : List Text). name_of i a ∷ names) (names_push (suc i) xs x ∙ ap (λ (n : ℕ). names_from (suc i) xs ++ name_of n x ∷ []) same)

names_length : (i : ℕ) (xs : List AccountLine) → length (names_from i xs) ≡ length xs
unfolding names_from
names_length i [] = refl
names_length i (a ∷ xs) = ap suc (names_length (suc i) xs)

-- each route is said by the line of its number, and those before it by lines before
abbrev ArePlaced : List Text → List PlacedRoute → Type 0
ArePlaced lines placed = (before : List PlacedRoute) (p : PlacedRoute) (after : List PlacedRoute) → placed ≡ before ++ p ∷ after
    → (accounts : List AccountLine) × (words : List Text) × Stands lines p.line words accounts (routes_of before) × IsRouteLine words p.route

-- a place in a list with one more at its end is the end, or one before
abbrev Splits : (items before : List PlacedRoute) (new it : PlacedRoute) → Type 0
Splits items before new it = ((before ≡ items) × (it ≡ new)) ⊎ ((rest : List PlacedRoute) × (items ≡ before ++ it ∷ rest))

snoc_split : (items : List PlacedRoute) (new : PlacedRoute) (before : List PlacedRoute) (it : PlacedRoute) (after : List PlacedRoute)
    → items ++ new ∷ [] ≡ before ++ it ∷ after → Splits items before new it
snoc_split [] new [] it after e =
    let same : it ≡ new = cc in
    inl (refl, same)
snoc_split [] new (b ∷ before) it after e = absurd (omega (arith, ap length e, length-append before (it ∷ after)))
snoc_split (i ∷ items) new [] it after e =
    let same : i ≡ it = cc in
    inr (items, ap (λ (x : PlacedRoute). x ∷ items) same)
snoc_split (i ∷ items) new (b ∷ before) it after e =
    let head : i ≡ b = cc in
    let tail : items ++ new ∷ [] ≡ before ++ it ∷ after = cc in
    later head (snoc_split items new before it after tail)
  where
    later : i ≡ b → Splits items before new it → Splits (i ∷ items) (b ∷ before) new it
    later head (inl (same, is)) = inl (ap₂ (λ (x : PlacedRoute) (xs : List PlacedRoute). x ∷ xs) (sym head) same, is)
    later head (inr (rest, is)) = inr (rest, ap₂ (λ (x : PlacedRoute) (xs : List PlacedRoute). x ∷ xs) head is)

placed_none : (ls : List Text) → ArePlaced ls []
placed_none ls before p after e = absurd (omega (arith, ap length e, length-append before (p ∷ after)))

placed_more : (ls : List Text) (placed : List PlacedRoute) (new : PlacedRoute) (xs : List AccountLine) (words : List Text) → ArePlaced ls placed
    → Stands ls new.line words xs (routes_of placed) → IsRouteLine words new.route → ArePlaced ls (placed ++ new ∷ [])
placed_more ls placed new xs words all stands says before p after e = by (snoc_split placed new before p after e)
  where
    by : ((before ≡ placed) × (p ≡ new)) ⊎ ((rest : List PlacedRoute) × (placed ≡ before ++ p ∷ rest))
        → (accounts : List AccountLine) × (words : List Text) × Stands ls p.line words accounts (routes_of before) × IsRouteLine words p.route
    by (inl (same, is)) = rw (same, is) (xs, words, stands, says)
    by (inr (rest, is)) = all before p rest is

-- these names and these routes were read from the lines before
pub record IsRead {X : Type 0} (lines before : List Text) (names : List (String X)) (placed : List PlacedRoute) : Type 0 where
  pub accounts : List AccountLine
  pub says : Says before accounts (routes_of placed)
  pub names_are : map string_bytes names ≡ names_of accounts
  pub distinct : AreDistinct (names_of accounts)
  pub stand : ArePlaced lines placed

pub read_none : {X : Type 0} (ls : List Text) → IsRead {X = X} ls [] [] []
unfolding names_from
read_none ls = record {
  accounts = [];
  says = Says.ended;
  names_are = refl;
  distinct = tt;
  stand = placed_none ls;
}

count_read : {X : Type 0} (ls before : List Text) (names : List (String X)) (placed : List PlacedRoute) (read : IsRead ls before names placed) → length names ≡ length read.accounts
count_read ls before names placed read = sym (length-map names string_bytes) ∙ ap length read.names_are ∙ names_length 0 read.accounts

good_at : (ls before : List Text) (line : Text) (after : List Text) → ls ≡ before ++ line ∷ after → AreGood ls → IsGood (words_of line)
good_at ls before line after is good = among before (rw is at good)
  where
    among : (before : List Text) → AreGood (before ++ line ∷ after) → IsGood (words_of line)
    among [] all = all.0
    among (b ∷ before) all = among before all.1

good_or_bad : (words : List Text) → IsGood words → ¬ (IsBad words)
good_or_bad words (inl none) bad = bad.some_word none
good_or_bad words (inr (inl account)) bad = bad.no_account account.0 account.1
good_or_bad words (inr (inr route)) bad = bad.no_route route.0 route.1

-- names and routes were read from the lines before place k, and the line there has these fields
module _ {X : Type 0} (items : Words) (k : ℕ) (d : Bor (List ℕ)) (words : List Text) (names : List (String X)) (placed : List PlacedRoute)
    (within : k < length items) (are : words ≡ words_of (get_or items k d).now) (read : IsRead (texts items) (texts (take k items)) names placed) where
  stands : Stands (texts items) (k + 1) words read.accounts (routes_of placed)
  stands = record {
    before = texts (take k items);
    line = (get_or items k d).now;
    after = texts (drop (k + 1) items);
    lines_are = lines_round items k d within;
    number_is = omega (arith, length-map (take k items) (λ (w : Bor (List ℕ)). w.now), length-take-le k items (omega arith));
    words_are = are;
    says = read.says;
  }

  pub bad_here : IsBad words → ¬ (AreGood (texts items))
  unfolding stands
  bad_here bad good = good_or_bad words (rw (sym are) at (good_at (texts items) stands.before stands.line stands.after stands.lines_are good)) bad

  pub blank_more : words ≡ [] → IsRead (texts items) (texts (take (k + 1) items)) names placed
  blank_more none = record {
    accounts = read.accounts;
    says =
        let takes : Takes words read.accounts (routes_of placed) read.accounts (routes_of placed) = inl (none, refl, refl) in
        rw (lines_more items k d within) (says_more _ _ _ _ _ _ read.says (rw are at takes));
    names_are = read.names_are;
    distinct = read.distinct;
    stand = read.stand;
  }

  module _ (x : AccountLine) (is : IsAccountLine words x) where
    pub same_here : is_one_of (map string_bytes names) (name_of (length names) x) ≡ true → IsSameName (texts items) (k + 1)
    same_here there = record {
      accounts = read.accounts;
      routes = routes_of placed;
      words = words;
      account = x;
      stands = stands;
      says = is;
      distinct = read.distinct;
      same = rw (read.names_are, count_read _ _ names placed read) at there;
    }

    pub account_more : (new : List (String X)) → is_one_of (map string_bytes names) (name_of (length names) x) ≡ false
        → map string_bytes new ≡ map string_bytes names ++ name_of (length names) x ∷ [] → IsRead (texts items) (texts (take (k + 1) items)) new placed
    account_more new none put =
        let name : Text = name_of (length read.accounts) x in
        let unlike : is_one_of (names_of read.accounts) name ≡ false = rw (read.names_are, count_read _ _ names placed read) at none in
        let none_before : 0 + length read.accounts ≡ length read.accounts = omega arith in
        let all : names_of (read.accounts ++ x ∷ []) ≡ names_of read.accounts ++ name ∷ [] =
        names_push 0 read.accounts x ∙ ap (λ (n : ℕ). names_of read.accounts ++ name_of n x ∷ []) none_before in
        record {
          accounts = read.accounts ++ x ∷ [];
          says =
              let takes : Takes words read.accounts (routes_of placed) (read.accounts ++ x ∷ []) (routes_of placed) = inr (inl (x, is, refl, refl)) in
              rw (lines_more items k d within) (says_more _ _ _ _ _ _ read.says (rw are at takes));
          names_are = (rw (read.names_are, count_read _ _ names placed read) at put) ∙ sym all;
          distinct = rw all (distinct_push (names_of read.accounts) name read.distinct (none_has (names_of read.accounts) name unlike));
          stand = read.stand;
        }

  pub route_more : (p : PlacedRoute) (new : List PlacedRoute) → p.line ≡ k + 1 → IsRouteLine words p.route → new ≡ placed ++ p ∷ []
      → IsRead (texts items) (texts (take (k + 1) items)) names new
  route_more p new line is put =
      let all : routes_of (placed ++ p ∷ []) ≡ routes_of placed ++ p.route ∷ [] = map-append (λ q. q.route) placed (p ∷ []) in
      rw put (record {
        accounts = read.accounts;
        says =
            let takes : Takes words read.accounts (routes_of placed) read.accounts (routes_of placed ++ p.route ∷ []) = inr (inr (p.route, is, refl, refl)) in
            rw (all, lines_more items k d within) (says_more _ _ _ _ _ _ read.says (rw are at takes));
        names_are = read.names_are;
        distinct = read.distinct;
        stand = placed_more (texts items) placed p read.accounts words read.stand (rw (sym line) at stands) is;
      })

  -- the line there adds what it says
  pub read_more : (more : List (String X)) (new : List PlacedRoute) → Adds words (k + 1) names placed more new → IsRead (texts items) (texts (take (k + 1) items)) more new
  read_more more new (inl blank) = rw (blank.1, blank.2) (blank_more blank.0)
  read_more more new (inr (inl account)) = rw account.4 (account_more account.0 account.1 more account.2 account.3)
  read_more more new (inr (inr route)) = rw route.3 (route_more route.0 new route.1 route.2 route.4)

  pub name_again : (x : AccountLine) × IsAccountLine words x × (is_one_of (map string_bytes names) (name_of (length names) x) ≡ true) → IsSameName (texts items) (k + 1)
  name_again found = same_here found.0 found.1 found.2

-- all lines were read
module _ {X : Type 0} (items : Words) (k : ℕ) (names : List (String X)) (placed : List PlacedRoute) (past : length items ≤ k)
    (read : IsRead (texts items) (texts (take k items)) names placed) where
  all_said : Says (texts items) read.accounts (routes_of placed)
  all_said = rw (lines_whole items k past) at read.says

  whole : are_routes (length names) (routes_of placed) ≡ true → IsWhole (texts items)
  whole good = record {
    accounts = read.accounts;
    routes = routes_of placed;
    says = all_said;
    distinct = read.distinct;
    table = lawful_table (texts items) read.accounts (routes_of placed) (length names) all_said (count_read _ _ names placed read) good;
  }

  bad_route : (number : ℕ) (r : WholeRule) → IsFirstRoute (length names) placed number r → IsBadRoute (texts items) number r
  bad_route number r first =
      let said = read.stand first.before first.route first.after first.placed_are in
      let count : length names ≡ length read.accounts = count_read _ _ names placed read in
      record {
        accounts = read.accounts;
        routes = routes_of placed;
        all = all_said;
        distinct = read.distinct;
        accounts_before = said.0;
        before = routes_of first.before;
        words = said.1;
        route = first.route.route;
        stands = subst (λ (n : ℕ). Stands (texts items) n said.1 said.0 (routes_of first.before)) (sym first.number_is) said.2;
        says = said.3;
        good = subst (λ (n : ℕ). are_routes n (routes_of first.before) ≡ true) count first.good;
        breaks = subst (λ (n : ℕ). BreaksWhole n (prefixes_of (routes_of first.before)) first.route.route r) count first.breaks;
      }

  -- what is found among the routes is found of the table
  found : (count : ℕ) (o : Option WholeFault) → count ≡ length names
      → MatchOption o (are_routes count (routes_of placed) ≡ true) (λ f. IsFirstRoute count placed f.line f.fault)
      → MatchOption o (AreGood (texts items) → IsWhole (texts items)) (λ f. IsWholeFault (texts items) f.line f.fault)
  found count None is good = λ _. whole (rw is at good)
  found count (Some f) is first = inr (bad_route f.line f.fault (rw is at first))

  pub found_here : {E : Type 0} (count : ℕ) (ps : List PlacedRoute) (r : Result (Option WholeFault) E) → count ≡ length names → ps ≡ placed
      → IfOk r (λ o. MatchOption o (are_routes count (routes_of ps) ≡ true) (λ f. IsFirstRoute count ps f.line f.fault))
      → IfOk r (λ o. MatchOption o (AreGood (texts items) → IsWhole (texts items)) (λ f. IsWholeFault (texts items) f.line f.fault))
  found_here count ps (Ok o) is same all = found count o is (rw same at all)
  found_here count ps (Err e) is same all = tt

-- what is found of the lines of a text is found of its bytes
pub found_of : {E : Type 0} (bytes : Text) (r : Result (Option WholeFault) E)
    → IfOk r (λ o. MatchOption o (AreGood (lines bytes) → IsWhole (lines bytes)) (λ f. IsWholeFault (lines bytes) f.line f.fault))
    → IfOk r (λ o. MatchOption o (HasGoodLines bytes → IsWhole (lines bytes)) (λ f. IsWholeFault (lines bytes) f.line f.fault))
found_of bytes (Ok None) whole = λ good. whole good.1
found_of bytes (Ok (Some f)) is = is
found_of bytes (Err e) is = tt

-- bytes that are not UTF-8 have no good lines
pub no_text : (bytes : Text) → is_utf8 bytes ≡ false → HasGoodLines bytes → IsWhole (lines bytes)
no_text bytes none good = absurd (true≢false (sym (is_utf8-from_IsUtf8 bytes good.0) ∙ none))
