-- Books are a database that obeys its schema, so that the next open accepts them.
use Rattle.std.proofs.Common.{◌≡◌, ℕ, ℤ, zero, suc, slice_index, ◌+◌, ◌^◌, ◌<◌, pos, Bool, true, false, List, [], ◌∷◌, codes, Ok, None, Some, IsUtf8, refl, sym, ap, subst, ◌∙◌, arith}
use Rattle.std.specs.List.{AllByRecursion}
use Rattle.std.proofs.lemmas.Str.{IsUtf8-from_ascii}
use Rattle.sqlite_value.specs.declared.value.Value.TheVariants.{Null, Int, Text as Words}
use Rattle.sqlite_value.specs.declared.keys.Collation.TheVariants.{Binary}
use Rattle.sqlite_value.specs.Order.{Row, column}
use Rattle.sqlite_value.proofs.OrderLemmas.{value_cmp-Text}
use Rattle.sqlite_trees.specs.Tree.{Trees}
use Rattle.sqlite_trees.specs.Objects.{catalog_tree, number_in}
use Rattle.sqlite_schema.specs.declared.schema.Constraint.{Constraint}
use Rattle.sqlite_schema.specs.declared.schema.Constraint.TheVariants.{Datatype, NotNull, Check, PrimaryKey, Unique, ForeignKey}
use Rattle.sqlite_schema.specs.declared.schema.Kind.{Kind}
use Rattle.sqlite_schema.specs.declared.schema.Kind.TheVariants.{Integer, Text, Blob}
use Rattle.sqlite_schema.specs.declared.schema.Column.{Column}
use Rattle.sqlite_schema.specs.declared.schema.Table.{Table}
use Rattle.sqlite_schema.specs.declared.schema.View.{View as Stored}
use Rattle.sqlite_schema.specs.declared.schema.Schema.{Schema}
use Rattle.sqlite_schema.specs.Names.{same_name}
use Rattle.sqlite_schema.specs.Rules.{passes, Keeps, Obeys, table_reals}
use Rattle.sqlite_catalog.specs.Listing.{IsSound, Lists, DefinesTable, is_formed, IsTableRow, IsViewRow, is_table_row, is_index_row, is_view_row, is_foreign_row}
use Rattle.sqlite_resolve.specs.Compile.{table_defined_by}
use Rattle.sqlite_tied.specs.Compute.{everything}
use Rattle.st_hop_books.specs.declared.balance.Amounts.{Amounts}
use Rattle.st_hop_books.specs.Payments.{payment_text, payment_line, ArePaymentsFrom}
use Rattle.st_hop_books.specs.Fulfillments.{proof_tree, proof_text, proof_line, AreProofs}
use Rattle.st_hop_books.specs.Stamp.{stamp_tree, IsStamped}
use Rattle.st_hop_books.specs.Table.{table_text, line, lines_from, payment_tree, IsListed, ListsTables}
use Rattle.st_hop_books.specs.Standing.{Sums, AreSums}

-- the tables, as SQLite's schema has them
abbrev column_of : (name : List ℕ) (kind : Kind) (not_null : Bool) → Column
column_of name kind not_null = record { name = name; kind = kind; is_strict = true; not_null = not_null; default = Null; collation = Binary }

abbrev table_of : (name : List ℕ) (tree : ℕ) (columns : List Column) → Table
table_of name tree columns = record {
  name = name;
  tree = tree;
  columns = columns;
  key = Some 0;
  primary = 0 ∷ [];
  uniques = [];
  orders = [];
  checks = [];
  references = [];
  computed = [];
  stamps = record { places = []; terms = []; formats = [] };
  is_counted = false;
}

abbrev account : Table
account = table_of (codes "account") 0
    (column_of (codes "id") Integer false ∷ column_of (codes "name") Text true ∷ column_of (codes "claims") Integer true ∷ column_of (codes "dues") Integer true ∷ [])

-- in this tree
abbrev payments : ℕ → Table
payments tree = table_of (codes "payment") tree
    (column_of (codes "id") Integer false ∷ column_of (codes "name") Text true ∷ column_of (codes "side") Text true ∷ column_of (codes "amount") Integer true ∷ column_of (codes "moment") Integer true ∷ [])

abbrev proofs : ℕ → Table
proofs tree = table_of (codes "fulfillment") tree
    (column_of (codes "id") Integer false ∷ column_of (codes "name") Text true ∷ column_of (codes "condition") Blob true ∷ column_of (codes "fulfillment") Blob true ∷ column_of (codes "amount") Integer true ∷ column_of (codes "moment") Integer true ∷ [])

abbrev books_schema : Schema
books_schema = record { tables = account ∷ payments payment_tree ∷ proofs proof_tree ∷ []; indexes = []; views = [] }

-- ---- each line obeys it

line_passes : (rule : Constraint) (db : Trees) (id : ℕ) (name : List ℕ) (a : Amounts) → passes rule books_schema db account (line id name a) ≡ true
line_passes Datatype db id name a = refl
line_passes NotNull db id name a = refl
line_passes Check db id name a = refl
line_passes PrimaryKey db id name a = refl
line_passes Unique db id name a = refl
line_passes ForeignKey db id name a = refl

lines_pass : (rule : Constraint) (db : Trees) (id : ℕ) (names : List (List ℕ)) (all : List Amounts) → AllByRecursion (λ row. passes rule books_schema db account row ≡ true) (lines_from id names all)
lines_pass rule db id [] all = tt
lines_pass rule db id (n ∷ names) [] = tt
lines_pass rule db id (n ∷ names) (a ∷ all) = (line_passes rule db id n a, lines_pass rule db (suc id) names all)

payment_passes : (rule : Constraint) (db : Trees) (id : ℕ) (name text : List ℕ) (amount moment : ℕ) → passes rule books_schema db (payments payment_tree) (payment_line id name text amount moment) ≡ true
payment_passes Datatype db id name text amount moment = refl
payment_passes NotNull db id name text amount moment = refl
payment_passes Check db id name text amount moment = refl
payment_passes PrimaryKey db id name text amount moment = refl
payment_passes Unique db id name text amount moment = refl
payment_passes ForeignKey db id name text amount moment = refl

payments_pass : (rule : Constraint) (db : Trees) (id : ℕ) (paid : List Row) → ArePaymentsFrom id paid → AllByRecursion (λ row. passes rule books_schema db (payments payment_tree) row ≡ true) paid
payments_pass rule db id [] all = tt
payments_pass rule db id (row ∷ paid) all =
    let it = all.0 in
    (subst (λ r. passes rule books_schema db (payments payment_tree) r ≡ true) (sym it.is) (payment_passes rule db id it.name it.text it.amount it.moment), payments_pass rule db (suc id) paid all.1)

proof_passes : (rule : Constraint) (db : Trees) (id : ℕ) (name condition fulfillment : List ℕ) (amount : ℕ) (moment : ℤ) → passes rule books_schema db (proofs proof_tree) (proof_line id name condition fulfillment amount moment) ≡ true
proof_passes Datatype db id name condition fulfillment amount moment = refl
proof_passes NotNull db id name condition fulfillment amount moment = refl
proof_passes Check db id name condition fulfillment amount moment = refl
proof_passes PrimaryKey db id name condition fulfillment amount moment = refl
proof_passes Unique db id name condition fulfillment amount moment = refl
proof_passes ForeignKey db id name condition fulfillment amount moment = refl

proofs_pass : (rule : Constraint) (db : Trees) (rows : List Row) → AreProofs rows → AllByRecursion (λ row. passes rule books_schema db (proofs proof_tree) row ≡ true) rows
proofs_pass rule db [] all = tt
proofs_pass rule db (row ∷ rows) all =
    let it = all.0 in
    (subst (λ r. passes rule books_schema db (proofs proof_tree) r ≡ true) (sym it.is) (proof_passes rule db it.id it.name it.condition it.fulfillment it.amount it.moment), proofs_pass rule db rows all.1)

books_obey : (db : Trees) (s : Sums) → AreSums db s → Obeys books_schema db
books_obey db s books = record {
  rules = λ rule. (
    subst (λ rows. AllByRecursion (λ row. passes rule books_schema db account row ≡ true) rows) (sym books.rows) (lines_pass rule db 1 s.names s.amounts),
    (
      subst (λ rows. AllByRecursion (λ row. passes rule books_schema db (payments payment_tree) row ≡ true) rows) (sym books.audit) (payments_pass rule db 1 s.trail.paid books.payments),
      (subst (λ rows. AllByRecursion (λ row. passes rule books_schema db (proofs proof_tree) row ≡ true) rows) (sym books.filed) (proofs_pass rule db s.trail.proofs books.proofs), tt),
    ),
  );
  indexed = tt;
}

-- ---- with the view, which has no lines

abbrev stamp_view : (text : List ℕ) → Stored
stamp_view text = record { name = codes "books"; tree = stamp_tree; sql = text; foreign = None; binds = false; is_bound = false }

abbrev pub stamped_schema : (text : List ℕ) → Schema
stamped_schema text = record { tables = account ∷ payments payment_tree ∷ proofs proof_tree ∷ []; indexes = []; views = stamp_view text ∷ [] }

rules_stay : (text : List ℕ) (rule : Constraint) (db : Trees) → Keeps rule books_schema db → Keeps rule (stamped_schema text) db
rules_stay text Datatype db h = h
rules_stay text NotNull db h = h
rules_stay text Check db h = h
rules_stay text PrimaryKey db h = h
rules_stay text Unique db h = h
rules_stay text ForeignKey db h = h

stamped_obey : (text : List ℕ) (db : Trees) → Obeys books_schema db → Obeys (stamped_schema text) db
stamped_obey text db h = record { rules = λ rule. rules_stay text rule db (h.rules rule); indexed = tt }

-- ---- the list of objects is this schema's

defined : table_defined_by table_text ≡ Ok account
unfolding table_defined_by everything
defined = refl

-- a text does not say the tree
defined_next : table_defined_by payment_text ≡ Ok (payments 0)
unfolding table_defined_by everything
defined_next = refl

defined_last : table_defined_by proof_text ≡ Ok (proofs 0)
unfolding table_defined_by everything
defined_last = refl

apart_last : same_name (codes "account") (codes "fulfillment") ≡ false
unfolding same_name
apart_last = refl

apart_next : same_name (codes "payment") (codes "fulfillment") ≡ false
unfolding same_name
apart_next = refl

apart : same_name (codes "account") (codes "payment") ≡ false
unfolding same_name
apart = refl

module _ (row : Row) (kind : column row 1 ≡ Words (codes "table")) (code : number_in (column row 5) ≡ 1) where
  native : is_foreign_row row ≡ false
  native = rw (kind, code, value_cmp-Text (codes "table") (codes "trigger")) refl

  a_table : is_table_row row ≡ true
  a_table = rw (native, kind, value_cmp-Text (codes "table") (codes "table")) refl

  no_view : is_view_row row ≡ false
  no_view = rw (native, kind, value_cmp-Text (codes "table") (codes "view")) refl

  no_index : is_index_row row ≡ false
  no_index = rw (a_table) refl

module _ (row : Row) (kind : column row 1 ≡ Words (codes "view")) (code : number_in (column row 5) ≡ 3) where
  stamp_no_table : is_table_row row ≡ false
  stamp_no_table = rw (kind, code, value_cmp-Text (codes "view") (codes "table")) refl

  stamp_a_view : is_view_row row ≡ true
  stamp_a_view = rw (kind, code, value_cmp-Text (codes "view") (codes "view")) refl

  stamp_no_index : is_index_row row ≡ false
  stamp_no_index = rw (stamp_no_table, stamp_a_view) refl

ascii : (bs : List ℕ) → AllByRecursion (λ b. b < 128) bs → (i : ℕ) → slice_index bs i < 128
ascii [] all i = omega arith
ascii (b ∷ bs) all zero = all.0
ascii (b ∷ bs) all (suc i) = ascii bs all.1 i

-- a row of the list is that of its table
module _ (number tree : ℕ) (name text : List ℕ) (columns : List Column) (row : Row) where
  table_row_is : tree + 1 ≡ number → tree < 65536 → table_reals (table_of name tree columns) ≡ 0 → DefinesTable text (table_of name tree columns) → is_formed (table_of name tree columns) ≡ true → IsUtf8 name
      → IsListed number name text row → IsTableRow row (table_of name tree columns)
  table_row_is place low reals defined formed utf8 it = record {
    described = record {
      low = low;
      id = it.is.id ∙ ap (λ n. Int (pos n)) (sym place);
      kind_is = it.is.kind;
      name_is = it.is.name;
      owner_is = it.is.owner;
      shape_is = it.code;
      reals_are = it.reals ∙ sym reals;
      fits = subst (λ n. n < 2 ^ 64) (sym reals) (omega arith);
    };
    sql = text;
    sql_is = it.is.text_is;
    defined = defined;
    formed = formed;
    utf8 = utf8;
  }

-- the last row is that of the view
stamp_row_is : (row : Row) (all : IsStamped row) → IsViewRow row (stamp_view all.is.text)
stamp_row_is row all = record {
  kind = codes "view";
  owner = codes "books";
  code = 3;
  described = record {
    low = omega arith;
    id = all.is.id;
    kind_is = all.is.kind;
    name_is = all.is.name;
    owner_is = all.is.owner;
    shape_is = all.code;
    reals_are = all.reals;
    fits = omega arith;
  };
  aside = (refl, refl, refl, all.is.text_is, all.is.stamps.defined, IsUtf8-from_ascii (codes "books") (ascii (codes "books") (omega arith, (omega arith, (omega arith, (omega arith, (omega arith, tt)))))), refl, refl);
}

pub lists : (objects : List Row) (all : ListsTables objects) → Lists objects (stamped_schema all.stamped.is.text)
lists objects all =
    let r = all.account in
    let s = all.payment in
    let t = all.stamp in
    let u = all.proof in
    let v = all.stamped in
    let a = all.accounts in
    let p = all.payments in
    let q = all.proofs in
    let first = table_row_is 1 0 (codes "account") table_text account.columns r refl (omega arith) refl (account, defined, refl) refl
    (IsUtf8-from_ascii (codes "account") (ascii (codes "account") (omega arith, (omega arith, (omega arith, (omega arith, (omega arith, (omega arith, (omega arith, tt))))))))) a in
    let second = table_row_is 2 payment_tree (codes "payment") payment_text (payments 0).columns s refl (omega arith) refl (payments 0, defined_next, refl) refl
    (IsUtf8-from_ascii (codes "payment") (ascii (codes "payment") (omega arith, (omega arith, (omega arith, (omega arith, (omega arith, (omega arith, (omega arith, tt))))))))) p in
    let third = table_row_is 4 proof_tree (codes "fulfillment") proof_text (proofs 0).columns u refl (omega arith) refl (proofs 0, defined_last, refl) refl
    (IsUtf8-from_ascii (codes "fulfillment") (ascii (codes "fulfillment") (omega arith, (omega arith, (omega arith, (omega arith, (omega arith, (omega arith, (omega arith, (omega arith, (omega arith, (omega arith, (omega arith, tt))))))))))))) q in
    record {
      listed = record {
        tables = rw (all.only, a_table r a.is.kind a.code, a_table s p.is.kind p.code, stamp_no_table t v.is.kind v.code, a_table u q.is.kind q.code) (first, (second, (third, tt)));
        indexes = rw (all.only, no_index r a.is.kind a.code, no_index s p.is.kind p.code, stamp_no_index t v.is.kind v.code, no_index u q.is.kind q.code) tt;
        views = rw (all.only, no_view r a.is.kind a.code, no_view s p.is.kind p.code, stamp_a_view t v.is.kind v.code, no_view u q.is.kind q.code) (stamp_row_is t v, tt);
        owned = (tt, tt);
        named = ((apart, (apart_last, tt)), ((apart_next, tt), (tt, tt)));
        loads = all.loads;
      };
      guarded = ((λ at key e. absurd (let k = e in cc)), ((λ at key e. absurd (let k = e in cc)), ((λ at key e. absurd (let k = e in cc)), tt)));
    }

pub sound : (db : Trees) (s : Sums) (books : AreSums db s) → IsSound (stamped_schema books.objects.stamped.is.text) db
sound db s books = record { lists = lists (db catalog_tree) books.objects; obeys = stamped_obey _ db (books_obey db s books) }
