-- What the lines of a table say, with one line more.
use Rattle.std.proofs.Common.{◌≡◌, ◌≢◌, ◌≤◌, ℕ, true, false, List, [], ◌∷◌, ◌++◌, Bor, length, map, take, drop, ◌-◌, ◌+◌, ◌<◌, suc, get_or, drop-cons, take-append-drop, codes, refl, sym, ap, ◌∙◌, inl, inr, arith}
use Rattle.std.specs.Prelude.{bytes_eq, Result, Ok, Err, IfErr, IsErrAnd}
use Rattle.std.specs.Str.Lines.{lines}
use Rattle.std.proofs.lemmas.List.{map-append, take_all, take_more}
use Rattle.std.proofs.lemmas.Slice.Eq.{bytes_eq-Decides}
use Rattle.st_hop.specs.declared.route.Route.{Route}
use Rattle.ilpstream_settings.specs.declared.error.TableError.{TableError}
use Rattle.ilpstream_settings.specs.declared.error.TableError.TheVariants.{BadLine}
use Rattle.ilpstream_settings.specs.declared.line.AccountLine.{AccountLine}
use Rattle.ilpstream_settings.specs.Table.{HasBad, IsAccountLine, IsBad, IsRouteLine, Says, Takes, Text, words_of}

says_blank : (ls : List Text) (xs : List AccountLine) (rs : List Route) (l : Text) → Says ls xs rs → words_of l ≡ [] → Says (ls ++ l ∷ []) xs rs
says_blank _ _ _ l Says.ended is = Says.blank l [] [] [] is Says.ended
says_blank _ _ _ l (Says.blank k ls xs rs said rest) is = Says.blank k (ls ++ l ∷ []) xs rs said (says_blank ls xs rs l rest is)
says_blank _ _ _ l (Says.account k ls x xs rs said rest) is = Says.account k (ls ++ l ∷ []) x xs rs said (says_blank ls xs rs l rest is)
says_blank _ _ _ l (Says.route k ls xs r rs said rest) is = Says.route k (ls ++ l ∷ []) xs r rs said (says_blank ls xs rs l rest is)

says_account : (ls : List Text) (xs : List AccountLine) (rs : List Route) (l : Text) (x : AccountLine) → Says ls xs rs → IsAccountLine (words_of l) x
    → Says (ls ++ l ∷ []) (xs ++ x ∷ []) rs
says_account _ _ _ l x Says.ended is = Says.account l [] x [] [] is Says.ended
says_account _ _ _ l x (Says.blank k ls xs rs said rest) is = Says.blank k (ls ++ l ∷ []) (xs ++ x ∷ []) rs said (says_account ls xs rs l x rest is)
says_account _ _ _ l x (Says.account k ls y xs rs said rest) is = Says.account k (ls ++ l ∷ []) y (xs ++ x ∷ []) rs said (says_account ls xs rs l x rest is)
says_account _ _ _ l x (Says.route k ls xs r rs said rest) is = Says.route k (ls ++ l ∷ []) (xs ++ x ∷ []) r rs said (says_account ls xs rs l x rest is)

says_route : (ls : List Text) (xs : List AccountLine) (rs : List Route) (l : Text) (r : Route) → Says ls xs rs → IsRouteLine (words_of l) r
    → Says (ls ++ l ∷ []) xs (rs ++ r ∷ [])
says_route _ _ _ l r Says.ended is = Says.route l [] [] r [] is Says.ended
says_route _ _ _ l r (Says.blank k ls xs rs said rest) is = Says.blank k (ls ++ l ∷ []) xs (rs ++ r ∷ []) said (says_route ls xs rs l r rest is)
says_route _ _ _ l r (Says.account k ls y xs rs said rest) is = Says.account k (ls ++ l ∷ []) y xs (rs ++ r ∷ []) said (says_route ls xs rs l r rest is)
says_route _ _ _ l r (Says.route k ls xs q rs said rest) is = Says.route k (ls ++ l ∷ []) xs q (rs ++ r ∷ []) said (says_route ls xs rs l r rest is)

pub says_more : (ls : List Text) (xs ys : List AccountLine) (rs qs : List Route) (l : Text) → Says ls xs rs → Takes (words_of l) xs rs ys qs → Says (ls ++ l ∷ []) ys qs
says_more ls xs ys rs qs l said (inl blank) = rw (blank.1, blank.2) (says_blank ls xs rs l said blank.0)
says_more ls xs ys rs qs l said (inr (inl account)) = rw (account.2, account.3) (says_account ls xs rs l account.0 said account.1)
says_more ls xs ys rs qs l said (inr (inr route)) = rw (route.2, route.3) (says_route ls xs rs l route.0 said route.1)

abbrev Words : Type 0
Words = List (Bor (List ℕ))

abbrev texts : Words → List Text
texts = map (λ w. w.now)

-- the words of a line that begins with this word
pub first_word : (words : Words) (word : Text) (d : Bor (List ℕ)) → 1 ≤ length words → true ≡ bytes_eq (get_or words 0 d).now word
    → texts words ≡ word ∷ texts (take (length words - 1) (drop 1 words))
first_word [] word d some is = absurd (omega arith)
first_word (w ∷ ws) word d some is =
    let whole : take (length (w ∷ ws) - 1) ws ≡ ws = take_all (length (w ∷ ws) - 1) ws (omega arith) in
    rw whole (ap (λ t. t ∷ texts ws) ((bytes_eq-Decides w.now word).0 (sym is)))

heads_differ : (s t : Text) → get_or s 0 0 ≡ 97 → get_or t 0 0 ≡ 114 → s ≢ t
heads_differ s t a b e =
    let same : get_or s 0 0 ≡ get_or t 0 0 = ap (λ (x : Text). get_or x 0 0) e in
    absurd (omega arith)

apart : (rest more : List Text) → codes "account" ∷ rest ≢ codes "route" ∷ more
apart rest more e = heads_differ (codes "account") (codes "route") refl refl (cc)

pub no_route_there : (words rest : List Text) (r : Route) → words ≡ codes "account" ∷ rest → ¬ (IsRouteLine words r)
no_route_there words rest r is (inl plain) = apart rest _ (sym is ∙ plain.words_are)
no_route_there words rest r is (inr rated) = apart rest _ (sym is ∙ rated.words_are)

pub no_account_there : (words rest : List Text) (x : AccountLine) → words ≡ codes "route" ∷ rest → ¬ (IsAccountLine words x)
no_account_there words rest x is (inl plain) = apart _ rest (sym plain.words_are ∙ is)
no_account_there words rest x is (inr named) = apart _ rest (sym named.words_are ∙ is)

pub bad_account : (words rest : List Text) → words ≡ codes "account" ∷ rest → ((x : AccountLine) → ¬ (IsAccountLine (codes "account" ∷ rest) x)) → IsBad words
bad_account words rest is none = record {
  some_word = λ e. absurd (cc);
  no_account = λ x has. none x (rw is at has);
  no_route = λ r. no_route_there words rest r is;
}

pub bad_route : (words rest : List Text) → words ≡ codes "route" ∷ rest → ((r : Route) → ¬ (IsRouteLine (codes "route" ∷ rest) r)) → IsBad words
bad_route words rest is none = record {
  some_word = λ e. absurd (cc);
  no_account = λ x. no_account_there words rest x is;
  no_route = λ r has. none r (rw is at has);
}

-- a first word that is neither
pub bad_word : (words : Words) (d : Bor (List ℕ)) → 1 ≤ length words → bytes_eq (get_or words 0 d).now (codes "account") ≡ false → bytes_eq (get_or words 0 d).now (codes "route") ≡ false
    → IsBad (texts words)
bad_word [] d some a b = absurd (omega arith)
bad_word (w ∷ ws) d some a b = record {
  some_word = λ e. absurd (cc);
  no_account = λ x has. elim has [
    | inl plain ↦ differs w.now (codes "account") a (texts ws) _ plain.words_are
    | inr named ↦ differs w.now (codes "account") a (texts ws) _ named.words_are
  ];
  no_route = λ r has. elim has [
    | inl plain ↦ differs w.now (codes "route") b (texts ws) _ plain.words_are
    | inr rated ↦ differs w.now (codes "route") b (texts ws) _ rated.words_are
  ];
}
  where
    differs : (x y : Text) → bytes_eq x y ≡ false → (xs ys : List Text) → x ∷ xs ≢ y ∷ ys
    differs x y unlike xs ys e =
        let same : x ≡ y = cc in
        let yes : bytes_eq x y ≡ true = (bytes_eq-Decides x y).1 same in
        let wrong : true ≡ false = sym yes ∙ unlike in
        absurd (cc)

-- the lines up to a place, and the line there
pub lines_more : (items : Words) (k : ℕ) (d : Bor (List ℕ)) → k < length items → texts (take (k + 1) items) ≡ texts (take k items) ++ (get_or items k d).now ∷ []
lines_more items k d within = ap texts (take_more items k d within) ∙ map-append (λ w. w.now) (take k items) (get_or items k d ∷ [])

-- and the lines after it
pub lines_round : (items : Words) (k : ℕ) (d : Bor (List ℕ)) → k < length items → texts items ≡ texts (take k items) ++ (get_or items k d).now ∷ texts (drop (k + 1) items)
lines_round items k d within =
    let next : suc k ≡ k + 1 = omega arith in
    let here : drop k items ≡ get_or items k d ∷ drop (k + 1) items = drop-cons items k d within ∙ ap (λ n. get_or items k d ∷ drop n items) next in
    ap texts (sym (take-append-drop k items) ∙ ap (λ r. take k items ++ r) here) ∙ map-append (λ w. w.now) (take k items) (get_or items k d ∷ drop (k + 1) items)

pub lines_whole : (items : Words) (k : ℕ) → length items ≤ k → texts (take k items) ≡ texts items
lines_whole items k past = ap texts (take_all k items past)

pub bad_at : (text : Text) (items : Words) (k : ℕ) (d : Bor (List ℕ)) → texts items ≡ lines text → k < length items → IsBad (words_of (get_or items k d).now) → HasBad text
bad_at text items k d all within bad = record {
  before = texts (take k items);
  line = (get_or items k d).now;
  after = texts (drop (k + 1) items);
  lines_are = sym all ∙ lines_round items k d within;
  bad = bad;
}

-- an error that is passed on
pub passed_on : {T : Type 0} (r : Result T TableError) (x : TableError) (P : Type 0) → IsErrAnd r (λ e. e ≡ x) → (x ≡ BadLine → P) → IfErr r (λ e. e ≡ BadLine → P)
passed_on (Ok v) x P is by = tt
passed_on (Err e) x P is by = λ b. by (sym is ∙ b)
