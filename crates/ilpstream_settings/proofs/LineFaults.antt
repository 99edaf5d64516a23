-- A line that breaks a rule is bad, and one that breaks none says an account or a route.
use Rattle.std.proofs.Common.{◌≡◌, ◌≢◌, ◌≤◌, ◌<◌, ℕ, Bool, true, false, Option, Some, None, List, [], ◌∷◌, Bor, length, map, get_or, codes, refl, sym, ap, ◌∙◌, inl, inr, true≢false, arith}
use Rattle.std.specs.Prelude.{MatchOption, bytes_eq}
use Rattle.std.proofs.lemmas.Slice.Eq.{bytes_eq-Decides}
use Rattle.st_http.specs.Texts.{is_field_text}
use Rattle.st_oer.specs.Ratios.{Ratio, ratio}
use Rattle.st_hop.specs.declared.route.Route.{Route}
use Rattle.ilpstream_settings.specs.declared.fault.LineFault.{LineFault}
use Rattle.ilpstream_settings.specs.declared.fault.LineFault.TheVariants as fault
use Rattle.ilpstream_settings.specs.declared.line.AccountLine.{AccountLine}
use Rattle.st_http.specs.declared.neighbour.Neighbour.{Neighbour}
use Rattle.ilpstream_settings.specs.Faults.{Breaks, BreaksRated, BreaksTerms, IsGood, IsNoNumber, IsNowhere}
use Rattle.ilpstream_settings.specs.Numbers.{AreTerms, IsHostPort, IsNumber}
use Rattle.ilpstream_settings.specs.Settings.{most_money, said}
use Rattle.ilpstream_settings.specs.Table.{IsAccount, IsAccountLine, IsBad, IsNaming, IsRouteLine, Leads, Text}
use Rattle.ilpstream_settings.proofs.Lines.{no_account, no_name, no_plain, no_rate}
use Rattle.ilpstream_settings.proofs.Tables.{bad_account, bad_route}

hidden : (text : Text) → is_field_text text ≡ false → ¬ (is_field_text text ≡ true)
hidden text unseen seen = true≢false (sym seen ∙ unseen)

leads_nowhere : (host out : Text) (n : Option Neighbour) → ¬ (IsHostPort host) → ¬ (IsNowhere host out) → ¬ (Leads host out n)
leads_nowhere host out None no_port somewhere is = somewhere is
leads_nowhere host out (Some n) no_port somewhere is = no_port is.1

leads_unseen : (host out : Text) (n : Option Neighbour) → is_field_text out ≡ false → ¬ (Leads host out n)
leads_unseen host out None unseen is = hidden out unseen (ap is_field_text is.1)
leads_unseen host out (Some n) unseen is = hidden out unseen is.3

-- no account has terms that break a rule
no_terms : (limit max_packet token host out : Text) (f : LineFault) → BreaksTerms limit max_packet token host out f → (name : Option Text) (x : AccountLine)
    → ¬ (IsAccount name limit max_packet token host out x)
no_terms limit max_packet token host out fault.NotUtf8 breaks name x has = breaks
no_terms limit max_packet token host out fault.Kind breaks name x has = breaks
no_terms limit max_packet token host out fault.AccountWords breaks name x has = breaks
no_terms limit max_packet token host out fault.Name breaks name x has = breaks
no_terms limit max_packet token host out fault.Limit breaks name x has = breaks x.terms.limit has.terms.limit_is
no_terms limit max_packet token host out fault.MaxPacket breaks name x has = breaks x.terms.max_packet has.terms.max_packet_is
no_terms limit max_packet token host out fault.Token breaks name x has = hidden token breaks has.terms.token_is.1
no_terms limit max_packet token host out fault.HostPort breaks name x has = leads_nowhere host out x.neighbour breaks.0 breaks.1 has.leads
no_terms limit max_packet token host out fault.TokenThere breaks name x has = leads_unseen host out x.neighbour breaks has.leads
no_terms limit max_packet token host out fault.RouteWords breaks name x has = breaks
no_terms limit max_packet token host out fault.RouteAccount breaks name x has = breaks
no_terms limit max_packet token host out fault.Rate breaks name x has = breaks

no_named_terms : (word limit max_packet token host out : Text) → ((name : Option Text) (x : AccountLine) → ¬ (IsAccount name limit max_packet token host out x)) → (x : AccountLine)
    → ¬ (IsAccountLine (codes "account" ∷ word ∷ limit ∷ max_packet ∷ token ∷ host ∷ out ∷ []) x)
no_named_terms word limit max_packet token host out none x (inl has) = let wrong = has.words_are in absurd (cc)
no_named_terms word limit max_packet token host out none x (inr has) =
    let same_limit : has.limit ≡ limit = cc in
    let same_max : has.max_packet ≡ max_packet = cc in
    let same_token : has.token ≡ token = cc in
    let same_host : has.host ≡ host = cc in
    let same_out : has.out ≡ out = cc in
    none (Some has.name) x (rw (same_limit, same_max, same_token, same_host, same_out) at has.is)

no_rated : (prefix account num den : Text) (f : LineFault) → BreaksRated account num den f → (r : Route) → ¬ (IsRouteLine (codes "route" ∷ prefix ∷ account ∷ num ∷ den ∷ []) r)
no_rated prefix account num den fault.NotUtf8 breaks r has = breaks
no_rated prefix account num den fault.Kind breaks r has = breaks
no_rated prefix account num den fault.AccountWords breaks r has = breaks
no_rated prefix account num den fault.Name breaks r has = breaks
no_rated prefix account num den fault.Limit breaks r has = breaks
no_rated prefix account num den fault.MaxPacket breaks r has = breaks
no_rated prefix account num den fault.Token breaks r has = breaks
no_rated prefix account num den fault.HostPort breaks r has = breaks
no_rated prefix account num den fault.TokenThere breaks r has = breaks
no_rated prefix account num den fault.RouteWords breaks r has = breaks
no_rated prefix account num den fault.RouteAccount breaks r has = no_account prefix account num den breaks r has
no_rated prefix account num den fault.Rate breaks r has = no_rate prefix account num den breaks r has

no_number : (prefix account : Text) → IsNoNumber account → (r : Route) → ¬ (IsRouteLine (codes "route" ∷ prefix ∷ account ∷ []) r)
no_number prefix account none r (inl has) =
    let same : has.account ≡ account = cc in
    none r.account (rw same at has.said.account_is)
no_number prefix account none r (inr has) = let wrong = has.words_are in absurd (cc)

no_account_words : (words : List Text) → length words ≢ 5 → length words ≢ 6 → (x : AccountLine) → ¬ (IsAccountLine (codes "account" ∷ words) x)
no_account_words words five six x (inl has) =
    let same : words ≡ has.limit ∷ has.max_packet ∷ has.token ∷ has.host ∷ has.out ∷ [] = cc in
    five (ap length same)
no_account_words words five six x (inr has) =
    let same : words ≡ has.word ∷ has.limit ∷ has.max_packet ∷ has.token ∷ has.host ∷ has.out ∷ [] = cc in
    six (ap length same)

no_route_words : (words : List Text) → length words ≢ 2 → length words ≢ 4 → (r : Route) → ¬ (IsRouteLine (codes "route" ∷ words) r)
no_route_words words two four r (inl has) =
    let same : words ≡ has.prefix ∷ has.account ∷ [] = cc in
    two (ap length same)
no_route_words words two four r (inr has) =
    let same : words ≡ has.prefix ∷ has.account ∷ has.num ∷ has.den ∷ [] = cc in
    four (ap length same)

no_kind : (word : Text) (words : List Text) → word ≢ codes "account" → word ≢ codes "route" → IsBad (word ∷ words)
no_kind word words no_account no_route = record {
  some_word = λ e. absurd (cc);
  no_account = λ x has. elim has [
    | inl plain ↦ let wrong = plain.words_are in no_account (cc)
    | inr named ↦ let wrong = named.words_are in no_account (cc)
  ];
  no_route = λ r has. elim has [
    | inl plain ↦ let wrong = plain.words_are in no_route (cc)
    | inr rated ↦ let wrong = rated.words_are in no_route (cc)
  ];
}

pub breaks_bad : (words : List Text) (f : LineFault) → Breaks words f → IsBad words
breaks_bad _ _ (Breaks.kind word words no_account no_route) = no_kind word words no_account no_route
breaks_bad _ _ (Breaks.account_words words five six) = bad_account _ words refl (no_account_words words five six)
breaks_bad _ _ (Breaks.plain limit max_packet token host out f breaks) =
    bad_account _ _ refl (no_plain limit max_packet token host out (no_terms limit max_packet token host out f breaks None))
breaks_bad _ _ (Breaks.name word limit max_packet token host out none) = bad_account _ _ refl (no_name limit max_packet token host out word none)
breaks_bad _ _ (Breaks.named word limit max_packet token host out f breaks) =
    bad_account _ _ refl (no_named_terms word limit max_packet token host out (no_terms limit max_packet token host out f breaks))
breaks_bad _ _ (Breaks.route_words words two four) = bad_route _ words refl (no_route_words words two four)
breaks_bad _ _ (Breaks.route_account prefix account none) = bad_route _ _ refl (no_number prefix account none)
breaks_bad _ _ (Breaks.rated prefix account num den f breaks) = bad_route _ _ refl (no_rated prefix account num den f breaks)

abbrev Words : Type 0
Words = List (Bor (List ℕ))

abbrev texts : Words → List Text
texts = map (λ w. w.now)

pub two_words : (ws : Words) (d : Bor (List ℕ)) → 2 ≤ length ws → length ws < 3 → texts ws ≡ (get_or ws 0 d).now ∷ (get_or ws 1 d).now ∷ []
two_words [] d least most = absurd (omega arith)
two_words (a ∷ []) d least most = absurd (omega arith)
two_words (a ∷ b ∷ []) d least most = refl
two_words (a ∷ b ∷ x ∷ ws) d least most = absurd (omega arith)

-- an account of five sound words, whatever its name
pub sound_terms : (limit max_packet : Text) (token host out : Bor (List ℕ)) (l m : ℕ) (n : Option Neighbour) → IsNumber most_money limit l → IsNumber most_money max_packet m
    → is_field_text token.now ≡ true → Leads host.now out.now n
    → (name : Option (Bor (List ℕ))) → (x : AccountLine) × IsAccount (said name) limit max_packet token.now host.now out.now x
sound_terms limit max_packet token host out l m n limit_is max_is visible leads name = (
  record { name = name; terms = record { limit = l; max_packet = m }; token = token; neighbour = n },
  record {
    name_is = refl;
    terms = record { limit_is = limit_is; max_packet_is = max_is; token_is = (refl, visible) };
    leads = leads;
  },
)

-- if HOST:PORT is one and yet nothing leads there, its token is bad
pub unseen_there : (host out : Bor (List ℕ)) → ((n : Option Neighbour) → ¬ (Leads host.now out.now n)) → IsHostPort host.now → is_field_text out.now ≡ false
unseen_there host out none port = by (is_field_text out.now) refl
  where
    by : (b : Bool) → is_field_text out.now ≡ b → is_field_text out.now ≡ false
    by true e = absurd (none (Some (record { host = host; token = out; host_is = port.visible; token_is = e })) (refl, port, refl, e))
    by false e = e

module _ (limit max_packet token host out : Text) where
  abbrev Sound : Type 0
  Sound = (name : Option (Bor (List ℕ))) → (x : AccountLine) × IsAccount (said name) limit max_packet token host out x

  pub plain_fault : (o : Option LineFault) → MatchOption o Sound (BreaksTerms limit max_packet token host out)
      → MatchOption o ((x : AccountLine) × IsAccountLine (codes "account" ∷ limit ∷ max_packet ∷ token ∷ host ∷ out ∷ []) x) (Breaks (codes "account" ∷ limit ∷ max_packet ∷ token ∷ host ∷ out ∷ []))
  plain_fault None sound = (
    (sound None).0,
    inl (record {
      limit = limit;
      max_packet = max_packet;
      token = token;
      host = host;
      out = out;
      words_are = refl;
      is = (sound None).1;
    }),
  )
  plain_fault (Some f) breaks = Breaks.plain limit max_packet token host out f breaks

  pub named_fault : (word : Text) (name : Bor (List ℕ)) → IsNaming word name.now → (o : Option LineFault) → MatchOption o Sound (BreaksTerms limit max_packet token host out)
      → MatchOption o ((x : AccountLine) × IsAccountLine (codes "account" ∷ word ∷ limit ∷ max_packet ∷ token ∷ host ∷ out ∷ []) x)
      (Breaks (codes "account" ∷ word ∷ limit ∷ max_packet ∷ token ∷ host ∷ out ∷ []))
  named_fault word name naming None sound = (
    (sound (Some name)).0,
    inr (record {
      word = word;
      name = name.now;
      limit = limit;
      max_packet = max_packet;
      token = token;
      host = host;
      out = out;
      words_are = refl;
      naming = naming;
      is = (sound (Some name)).1;
    }),
  )
  named_fault word name naming (Some f) breaks = Breaks.named word limit max_packet token host out f breaks

-- a route of two sound words
pub plain_route : (prefix : Bor (List ℕ)) (account : Text) (n : ℕ) → IsNumber most_money account n → (r : Route) × IsRouteLine (codes "route" ∷ prefix.now ∷ account ∷ []) r
plain_route prefix account n is = (
  record { prefix = prefix; account = n; rate = ratio 1 1 },
  inl (record {
    prefix = prefix.now;
    account = account;
    words_are = refl;
    said = record { prefix_is = refl; account_is = is; rate_is = refl };
  }),
)

pub rated_route : (prefix : Bor (List ℕ)) (account num den : Text) (o : Option LineFault)
    → MatchOption o ((n : ℕ) × IsNumber most_money account n × ((r : Ratio) × AreTerms num den r)) (BreaksRated account num den)
    → MatchOption o ((r : Route) × IsRouteLine (codes "route" ∷ prefix.now ∷ account ∷ num ∷ den ∷ []) r) (Breaks (codes "route" ∷ prefix.now ∷ account ∷ num ∷ den ∷ []))
rated_route prefix account num den None (n, is, (rate, terms)) = (
  record { prefix = prefix; account = n; rate = rate },
  inr (record {
    prefix = prefix.now;
    account = account;
    num = num;
    den = den;
    rate = rate;
    words_are = refl;
    terms = terms;
    said = record { prefix_is = refl; account_is = is; rate_is = refl };
  }),
)
rated_route prefix account num den (Some f) breaks = Breaks.rated prefix.now account num den f breaks

pub by_account : (words rest : List Text) → words ≡ codes "account" ∷ rest → (o : Option LineFault)
    → MatchOption o ((x : AccountLine) × IsAccountLine (codes "account" ∷ rest) x) (Breaks (codes "account" ∷ rest)) → MatchOption o (IsGood words) (Breaks words)
by_account words rest is None says = inr (inl (says.0, rw is says.1))
by_account words rest is (Some f) breaks = rw is breaks

pub by_route : (words rest : List Text) → words ≡ codes "route" ∷ rest → (o : Option LineFault)
    → MatchOption o ((r : Route) × IsRouteLine (codes "route" ∷ rest) r) (Breaks (codes "route" ∷ rest)) → MatchOption o (IsGood words) (Breaks words)
by_route words rest is None says = inr (inr (says.0, rw is says.1))
by_route words rest is (Some f) breaks = rw is breaks

-- a first word that is neither
pub by_kind : (words : Words) (d : Bor (List ℕ)) → 1 ≤ length words → bytes_eq (get_or words 0 d).now (codes "account") ≡ false → bytes_eq (get_or words 0 d).now (codes "route") ≡ false
    → Breaks (texts words) fault.Kind
by_kind [] d some a b = absurd (omega arith)
by_kind (w ∷ ws) d some a b = Breaks.kind w.now (texts ws) (unlike w.now (codes "account") a) (unlike w.now (codes "route") b)
  where
    unlike : (x y : Text) → bytes_eq x y ≡ false → x ≢ y
    unlike x y differs e = true≢false (sym ((bytes_eq-Decides x y).1 e) ∙ differs)
