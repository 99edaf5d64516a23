-- The first route that breaks a rule, and tables of which a hop can be made.
use Rattle.std.proofs.Common.{◌≡◌, ◌<◌, ◌≤◌, ℕ, ◌+◌, suc, Bool, true, false, ◌&&◌, ◌||◌, List, [], ◌∷◌, ◌++◌, Bor, length, map, take, drop, get_or, drop-cons, take-append-drop, refl, sym, ap, ◌∙◌, inl, inr, arith}
use Rattle.std.specs.Prelude.{bytes_eq, nat_lt}
use Rattle.std.specs.List.{list_all, list_any}
use Rattle.std.proofs.lemmas.Bool.{and_parts}
use Rattle.std.proofs.lemmas.Bool.Decides.{nat_tests}
use Rattle.std.proofs.lemmas.List.{length-map, map-append, take_all, take_more}
use Rattle.st_oer.specs.Address.{is_address}
use Rattle.st_hop.specs.declared.route.Route.{Route}
use Rattle.st_hop.specs.Hop.{Way}
use Rattle.st_hop.specs.Seen.{way_seen}
use Rattle.st_hop.specs.Table.{are_parts, has_prefix, is_account, is_distinct, is_table, is_way}
use Rattle.st_hop.proofs.Distinct.{distinct_push}
use Rattle.st_hop.proofs.Tables.{table_of}
use Rattle.ilpstream_settings.specs.declared.line.AccountLine.{AccountLine}
use Rattle.ilpstream_settings.specs.declared.whole.PlacedRoute.{PlacedRoute}
use Rattle.ilpstream_settings.specs.declared.whole.WholeRule.{WholeRule}
use Rattle.ilpstream_settings.specs.Table.{IsAccountLine, Says, Text}
use Rattle.ilpstream_settings.proofs.AccountNames.{any_now}
use Rattle.ilpstream_settings.specs.Whole.{BreaksWhole, IsFirstRoute, are_routes, is_one_of, prefixes_of, routes_of}

pub is_lawful : (count : ℕ) (r : Route) → is_address r.prefix.now ≡ true → r.account < count → is_way count (way_seen r) ≡ true
is_lawful count r address there =
    let is : nat_lt r.account count ≡ true = grind (arith, nat_tests) in
    rw (address, is) refl

-- a prefix that is put among others
pub prefix_taken : (keys new : List (Bor Text)) (k : Bor Text) → new ≡ keys ++ k ∷ [] → list_any (λ key. bytes_eq k.now key.now) keys ≡ false
    → (is_one_of (map (λ key. key.now) keys) k.now ≡ false) × (map (λ key. key.now) new ≡ map (λ key. key.now) keys ++ k.now ∷ [])
prefix_taken keys new k put none = (sym (any_now k.now keys) ∙ none, ap (map (λ key. key.now)) put ∙ map-append (λ key. key.now) keys (k ∷ []))

any_prefix : (prefix : Text) (routes : List Route) → list_any (has_prefix prefix) (map way_seen routes) ≡ is_one_of (prefixes_of routes) prefix
any_prefix prefix [] = refl
any_prefix prefix (r ∷ routes) = ap (λ (b : Bool). bytes_eq prefix r.prefix.now || b) (any_prefix prefix routes)

all_push : (p : Way → Bool) (ws : List Way) (w : Way) → list_all p ws ≡ true → p w ≡ true → list_all p (ws ++ w ∷ []) ≡ true
all_push p [] w all is = rw is refl
all_push p (x ∷ ws) w all is =
    let parts = and_parts (p x) (list_all p ws) all in
    rw (parts.0) (all_push p ws w parts.1 is)

-- a lawful route more
routes_push : (count : ℕ) (rs : List Route) (r : Route) → are_routes count rs ≡ true → is_way count (way_seen r) ≡ true → is_one_of (prefixes_of rs) r.prefix.now ≡ false
    → are_routes count (rs ++ r ∷ []) ≡ true
routes_push count rs r good way none =
    let parts = and_parts (list_all (is_way count) (map way_seen rs)) (is_distinct (map way_seen rs)) good in
    let all : list_all (is_way count) (map way_seen rs ++ way_seen r ∷ []) ≡ true = all_push (is_way count) (map way_seen rs) (way_seen r) parts.0 way in
    let apart : is_distinct (map way_seen rs ++ way_seen r ∷ []) ≡ true = distinct_push (map way_seen rs) (way_seen r) parts.1 (any_prefix r.prefix.now rs ∙ none) in
    rw (map-append way_seen rs (r ∷ []), all, apart) refl

-- the routes before place k are lawful, these are their prefixes, and p is the one at place k
module _ (count : ℕ) (placed : List PlacedRoute) (k : ℕ) (d p : PlacedRoute) (prefixes : List Text) (within : k < length placed) (at : p ≡ get_or placed k d)
    (are : prefixes ≡ prefixes_of (routes_of (take k placed))) (good : are_routes count (routes_of (take k placed)) ≡ true) where
  more : routes_of (take (k + 1) placed) ≡ routes_of (take k placed) ++ p.route ∷ []
  more =
      ap routes_of (take_more placed k d within) ∙ map-append (λ q. q.route) (take k placed) (get_or placed k d ∷ [])
      ∙ ap (λ (q : PlacedRoute). routes_of (take k placed) ++ q.route ∷ []) (sym at)

  pub lawful_more : (new : List Text) → is_way count (way_seen p.route) ≡ true → is_one_of prefixes p.route.prefix.now ≡ false → new ≡ prefixes ++ p.route.prefix.now ∷ []
      → record { prefixes : new ≡ prefixes_of (routes_of (take (k + 1) placed)); good : are_routes count (routes_of (take (k + 1) placed)) ≡ true }
  lawful_more new way none put = record {
    prefixes =
        put
        ∙ ap (λ (ps : List Text). ps ++ p.route.prefix.now ∷ []) are
        ∙ sym (ap prefixes_of more ∙ map-append (λ r. r.prefix.now) (routes_of (take k placed)) (p.route ∷ []));
    good = rw more (routes_push count (routes_of (take k placed)) p.route good way (rw are at none));
  }

  pub first_route : (r : WholeRule) → BreaksWhole count prefixes p.route r → IsFirstRoute count placed p.line r
  first_route r breaks =
      let next : suc k ≡ k + 1 = omega arith in
      let here : drop k placed ≡ p ∷ drop (k + 1) placed =
      drop-cons placed k d within ∙ ap (λ n. get_or placed k d ∷ drop n placed) next ∙ ap (λ (q : PlacedRoute). q ∷ drop (k + 1) placed) (sym at) in
      record {
        before = take k placed;
        route = p;
        after = drop (k + 1) placed;
        placed_are = sym (take-append-drop k placed) ∙ ap (λ rest. take k placed ++ rest) here;
        number_is = refl;
        good = good;
        breaks = rw are at breaks;
      }

pub lawful_all : (count : ℕ) (placed : List PlacedRoute) (k : ℕ) → length placed ≤ k → are_routes count (routes_of (take k placed)) ≡ true → are_routes count (routes_of placed) ≡ true
lawful_all count placed k past good = rw (take_all k placed past) at good

-- a limit that a line says is not too high for a hop
limit_said : (words : List Text) (x : AccountLine) → IsAccountLine words x → is_account x.terms ≡ true
limit_said words x (inl plain) = let most = plain.is.terms.limit_is.bounded in grind (arith, nat_tests)
limit_said words x (inr named) = let most = named.is.terms.limit_is.bounded in grind (arith, nat_tests)

limits_said : (ls : List Text) (xs : List AccountLine) (rs : List Route) → Says ls xs rs → list_all is_account (map (λ x. x.terms) xs) ≡ true
limits_said _ _ _ Says.ended = refl
limits_said _ _ _ (Says.blank k ls xs rs said rest) = limits_said ls xs rs rest
limits_said _ _ _ (Says.account k ls x xs rs said rest) = rw (limit_said _ x said) (limits_said ls xs rs rest)
limits_said _ _ _ (Says.route k ls xs r rs said rest) = limits_said ls xs rs rest

-- accounts that lines say, and routes that are lawful for that number of accounts, make a table of a hop of any address
pub lawful_table : (ls : List Text) (xs : List AccountLine) (rs : List Route) (count : ℕ) → Says ls xs rs → count ≡ length xs → are_routes count rs ≡ true
    → (own : Text) → is_address own ≡ true → is_table own (map (λ x. x.terms) xs) (map way_seen rs) ≡ true
lawful_table ls xs rs count said is good own address =
    let parts = and_parts (list_all (is_way count) (map way_seen rs)) (is_distinct (map way_seen rs)) good in
    let same : length (map (λ x. x.terms) xs) ≡ count = length-map xs (λ x. x.terms) ∙ sym is in
    let ways : list_all (is_way (length (map (λ x. x.terms) xs))) (map way_seen rs) ≡ true = ap (λ (n : ℕ). list_all (is_way n) (map way_seen rs)) same ∙ parts.0 in
    let fit : are_parts own (map (λ x. x.terms) xs) (map way_seen rs) ≡ true = rw (address, limits_said ls xs rs said, ways) refl in
    table_of own (map (λ x. x.terms) xs) (map way_seen rs) true fit parts.1
