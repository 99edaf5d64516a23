-- The list of objects of books.
use Rattle.std.proofs.Common.{◌≡◌, ℕ, ◌^◌, ◌<◌, pos, true, List, [], ◌∷◌, Option, None, Some, IfSome, map, take, get_or-take, refl, sym, ap, subst, ◌∙◌, arith}
use Rattle.sqlite_value.specs.declared.value.Value.TheVariants.{Null, Int}
use Rattle.sqlite_value.specs.Order.{Row, column}
use Rattle.sqlite_trees.specs.declared.store.Shape.{Shape}
use Rattle.std.specs.Borrow.{Bor}
use Rattle.sqlite_trees.specs.declared.store.Shape.TheVariants.{Table, Pageless}
use Rattle.sqlite_trees.specs.Objects.{number_in, shape_code, row_for, IsListed as AllListed}
use Rattle.sqlite_trees.specs.Sound.{is_sound_list}
use Rattle.st_hop_books.specs.Payments.{payment_text}
use Rattle.st_hop_books.specs.Fulfillments.{proof_tree, proof_text}
use Rattle.st_hop_books.specs.Stamp.{stamp_tree, IsStampRow}
use Rattle.st_hop_books.specs.Table.{table_text, payment_tree, IsTableRow, IsAccountRow, IsPaymentRow, IsProofRow, IsListed, ListsTables, IsOf}
use Rattle.st_hop_books.proofs.LineLemmas.{same_id, lower_id}

only_four : (catalog : List Row) (a b c d : Row) → map (take 5) catalog ≡ a ∷ b ∷ c ∷ d ∷ []
    → (r : Row) × (s : Row) × (t : Row) × (u : Row) × (catalog ≡ r ∷ s ∷ t ∷ u ∷ []) × (take 5 r ≡ a) × (take 5 s ≡ b) × (take 5 t ≡ c) × (take 5 u ≡ d)
only_four [] a b c d e = absurd (let k = e in cc)
only_four (r ∷ []) a b c d e = absurd (let k = e in cc)
only_four (r ∷ s ∷ []) a b c d e = absurd (let k = e in cc)
only_four (r ∷ s ∷ t ∷ []) a b c d e = absurd (let k = e in cc)
only_four (r ∷ s ∷ t ∷ u ∷ []) a b c d e =
    let first : take 5 r ≡ a = cc in
    let second : take 5 s ≡ b = cc in
    let third : take 5 t ≡ c = cc in
    let fourth : take 5 u ≡ d = cc in
    (r, s, t, u, refl, first, second, third, fourth)
only_four (r ∷ s ∷ t ∷ u ∷ w ∷ more) a b c d e = absurd (let k = e in cc)

-- what is shown of a row is the row's
shown : (n : ℕ) (name text : List ℕ) (r : Row) → IsTableRow n name text (take 5 r) → IsTableRow n name text r
shown n name text r is = record {
  id = sym (get_or-take 5 r 0 Null (omega arith)) ∙ is.id;
  kind = sym (get_or-take 5 r 1 Null (omega arith)) ∙ is.kind;
  name = sym (get_or-take 5 r 2 Null (omega arith)) ∙ is.name;
  owner = sym (get_or-take 5 r 3 Null (omega arith)) ∙ is.owner;
  text_is = sym (get_or-take 5 r 4 Null (omega arith)) ∙ is.text_is;
}

-- the row that the list has for a tree
first_row : (r s t u : Row) → column r 0 ≡ Int (pos 1) → row_for (r ∷ s ∷ t ∷ u ∷ []) 0 ≡ r
first_row r s t u id = rw (id, same_id 1) refl

second_row : (r s t u : Row) → column r 0 ≡ Int (pos 1) → column s 0 ≡ Int (pos 2) → row_for (r ∷ s ∷ t ∷ u ∷ []) payment_tree ≡ s
second_row r s t u id next = rw (id, next, lower_id 1 2 (omega arith), same_id 2) refl

third_row : (r s t u : Row) → column r 0 ≡ Int (pos 1) → column s 0 ≡ Int (pos 2) → column t 0 ≡ Int (pos 3) → row_for (r ∷ s ∷ t ∷ u ∷ []) stamp_tree ≡ t
third_row r s t u id next third = rw (id, next, third, lower_id 1 3 (omega arith), lower_id 2 3 (omega arith), same_id 3) refl

fourth_row : (r s t u : Row) → column r 0 ≡ Int (pos 1) → column s 0 ≡ Int (pos 2) → column t 0 ≡ Int (pos 3) → column u 0 ≡ Int (pos 4) → row_for (r ∷ s ∷ t ∷ u ∷ []) proof_tree ≡ u
fourth_row r s t u id next third last = rw (id, next, third, last, lower_id 1 4 (omega arith), lower_id 2 4 (omega arith), lower_id 3 4 (omega arith), same_id 4) refl

-- so its code and its REAL columns are those of the tree
listed_as : (n tree : ℕ) (name text : List ℕ) (catalog : List Row) (r : Row) (shape : ℕ → Shape) (reals : ℕ → ℕ) → tree < 2 ^ 32 → AllListed catalog shape reals → row_for catalog tree ≡ r → shape tree ≡ Table → reals tree ≡ 0
    → IsTableRow n name text r → IsListed n name text r
listed_as n tree name text catalog r shape reals low listed here table real is = record {
  is = is;
  code = ap (λ w. number_in (column w 5)) (sym here) ∙ (sym (listed.shapes tree (omega arith) (omega arith)) ∙ ap shape_code table);
  reals = ap (λ w. number_in (column w 6)) (sym here) ∙ (sym (listed.columns tree (omega arith) (omega arith)) ∙ real);
}

-- the same of the view, whose address stays
stamp_of : (r shown_row : Row) → take 5 r ≡ shown_row → (is : IsStampRow shown_row) → (w : IsStampRow r) × (w.address ≡ is.address)
stamp_of r shown_row e is = (
  record {
    address = is.address;
    text = is.text;
    stamps = is.stamps;
    id = sym (get_or-take 5 r 0 Null (omega arith)) ∙ (ap (λ w. column w 0) e ∙ is.id);
    kind = sym (get_or-take 5 r 1 Null (omega arith)) ∙ (ap (λ w. column w 1) e ∙ is.kind);
    name = sym (get_or-take 5 r 2 Null (omega arith)) ∙ (ap (λ w. column w 2) e ∙ is.name);
    owner = sym (get_or-take 5 r 3 Null (omega arith)) ∙ (ap (λ w. column w 3) e ∙ is.owner);
    text_is = sym (get_or-take 5 r 4 Null (omega arith)) ∙ (ap (λ w. column w 4) e ∙ is.text_is);
  },
  refl,
)

-- a list that shows the three tables and the view
module _ (catalog objects : List Row) (shape : ℕ → Shape) (reals : ℕ → ℕ) (shown_as : objects ≡ map (take 5) catalog) (a b c d : Row) (are : objects ≡ a ∷ b ∷ c ∷ d ∷ []) (account_is : IsAccountRow a) (payment_is : IsPaymentRow b) (proof_is : IsProofRow d) (stamp_is : IsStampRow c)
    (listed : AllListed catalog shape reals) (table : shape 0 ≡ Table) (audit : shape payment_tree ≡ Table) (filed : shape proof_tree ≡ Table) (pageless : shape stamp_tree ≡ Pageless) (real : reals 0 ≡ 0) (more : reals payment_tree ≡ 0) (none : reals proof_tree ≡ 0) (last : reals stamp_tree ≡ 0)
    (loads : is_sound_list catalog ≡ true) where
  pub lists_tables : (all : ListsTables catalog) × (all.stamped.is.address ≡ stamp_is.address)
  lists_tables =
      let it = only_four catalog a b c d (sym shown_as ∙ are) in
      let r = it.0 in
      let s = it.1 in
      let t = it.2 in
      let u = it.3 in
      let mine : IsAccountRow r = shown 1 _ table_text r (subst IsAccountRow (sym it.5) account_is) in
      let next : IsPaymentRow s = shown 2 _ payment_text s (subst IsPaymentRow (sym it.6) payment_is) in
      let proof : IsProofRow u = shown 4 _ proof_text u (subst IsProofRow (sym it.8) proof_is) in
      let said : (w : IsStampRow t) × (w.address ≡ stamp_is.address) = stamp_of t c it.7 stamp_is in
      let here : row_for catalog stamp_tree ≡ t = ap (λ w. row_for w stamp_tree) it.4 ∙ third_row r s t u mine.id next.id said.0.id in (
        record {
          account = r;
          payment = s;
          stamp = t;
          proof = u;
          only = it.4;
          accounts = listed_as 1 0 _ table_text catalog r shape reals (omega arith) listed (ap (λ w. row_for w 0) it.4 ∙ first_row r s t u mine.id) table real mine;
          payments = listed_as 2 payment_tree _ payment_text catalog s shape reals (omega arith) listed (ap (λ w. row_for w payment_tree) it.4 ∙ second_row r s t u mine.id next.id) audit more next;
          proofs = listed_as 4 proof_tree _ proof_text catalog u shape reals (omega arith) listed (ap (λ w. row_for w proof_tree) it.4 ∙ fourth_row r s t u mine.id next.id said.0.id proof.id) filed none proof;
          stamped = record {
            is = said.0;
            code = ap (λ w. number_in (column w 5)) (sym here) ∙ (sym (listed.shapes stamp_tree (omega arith) (omega arith)) ∙ ap shape_code pageless);
            reals = ap (λ w. number_in (column w 6)) (sym here) ∙ (sym (listed.columns stamp_tree (omega arith) (omega arith)) ∙ last);
          };
          loads = loads;
        },
        said.1,
      )

  -- and that says an address, if one is asked for
  pub lists_own : (own : Option (Bor (List ℕ))) → IfSome own (λ x. stamp_is.address ≡ x.now) → IfSome own (λ x. IsOf x.now catalog)
  lists_own None same = tt
  lists_own (Some x) same = record { lists = lists_tables.0; own = lists_tables.1 ∙ same }
