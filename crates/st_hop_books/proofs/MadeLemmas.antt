-- The three tables and the view, as they are made.
use Rattle.std.proofs.Common.{◌≡◌, ℕ, pos, true, false, map, is_eq, int_cmp, List, [], ◌∷◌, codes, ◌≢◌, refl, sym, ap, subst, ◌∙◌, arith}
use Rattle.sqlite_value.specs.declared.value.Value.TheVariants.{Text}
use Rattle.sqlite_value.specs.Order.{Row, column}
use Rattle.sqlite_value.proofs.OrderLemmas.{value_cmp-Int, value_cmp-Text}
use Rattle.sqlite_trees.specs.Tree.{put_row, with_tree}
use Rattle.sqlite_trees.specs.Objects.{catalog_tree, version_tree, SetsObject}
use Rattle.sqlite_trees.specs.Sound.{is_sound_list, is_sound_object, has_code, is_word, is_virtual, is_text_only, head_at, are_in_order, fits_kind, begins, same_name, is_free_name, may_follow}
use Rattle.sqlite_trees.specs.View.{View, Commits}
use Rattle.sqlite_trees.specs.declared.store.Shape.{Shape}
use Rattle.sqlite_trees.specs.declared.store.Shape.TheVariants.{Table, Pageless}
use Rattle.st_hop_books.specs.Payments.{payment_text}
use Rattle.st_hop_books.specs.Fulfillments.{proof_tree, proof_text}
use Rattle.st_hop_books.specs.Stamp.{stamp_tree, stamp_row, stamp_text, Stamps}
use Rattle.st_hop_books.specs.Table.{table_text, payment_tree, ListsTables}
use Rattle.st_hop_books.specs.Standing.{IsReady}
use Rattle.st_hop_books.specs.Made.{table_row, IsUnlaid, Lays}
use Rattle.st_hop_books.proofs.LineLemmas.{lower_id}
use Rattle.st_hop_books.proofs.Steps.{same_tree, other_tree}

abbrev account_row : Row
account_row = table_row 0 (codes "account") table_text

abbrev payment_row : Row
payment_row = table_row payment_tree (codes "payment") payment_text

abbrev proof_row : Row
proof_row = table_row proof_tree (codes "fulfillment") proof_text

-- SQLite accepts them
object_by : (row : Row) → has_code 1 row ≡ true → has_code 3 row ≡ false → is_word (codes "table") (column row 1) ≡ true → fits_kind (column row 1) (column row 2) (column row 3) (column row 4) ≡ true
    → is_virtual (column row 1) (column row 4) ≡ false → is_sound_object row ≡ true
object_by row one three word fits virtual = rw (one, three, word, fits, virtual) refl

coded : (n : ℕ) → has_code n account_row ≡ is_eq (int_cmp (pos 1) (pos n))
coded n = ap is_eq (value_cmp-Int (pos 1) (pos n))

coded_next : (n : ℕ) → has_code n payment_row ≡ is_eq (int_cmp (pos 1) (pos n))
coded_next n = ap is_eq (value_cmp-Int (pos 1) (pos n))

coded_proof : (n : ℕ) → has_code n proof_row ≡ is_eq (int_cmp (pos 1) (pos n))
coded_proof n = ap is_eq (value_cmp-Int (pos 1) (pos n))

a_word : is_word (codes "table") (Text (codes "table")) ≡ true
a_word = ap is_eq (value_cmp-Text (codes "table") (codes "table"))

account_fits : fits_kind (Text (codes "table")) (Text (codes "account")) (Text (codes "account")) (Text table_text) ≡ true
unfolding fits_kind begins same_name is_free_name
account_fits = rw (value_cmp-Text (codes "table") (codes "index"), value_cmp-Text (codes "table") (codes "table"), value_cmp-Text (codes "account") (codes "account")) refl

payment_fits : fits_kind (Text (codes "table")) (Text (codes "payment")) (Text (codes "payment")) (Text payment_text) ≡ true
unfolding fits_kind begins same_name is_free_name
payment_fits = rw (value_cmp-Text (codes "table") (codes "index"), value_cmp-Text (codes "table") (codes "table"), value_cmp-Text (codes "payment") (codes "payment")) refl

proof_fits : fits_kind (Text (codes "table")) (Text (codes "fulfillment")) (Text (codes "fulfillment")) (Text proof_text) ≡ true
unfolding fits_kind begins same_name is_free_name
proof_fits = rw (value_cmp-Text (codes "table") (codes "index"), value_cmp-Text (codes "table") (codes "table"), value_cmp-Text (codes "fulfillment") (codes "fulfillment")) refl

account_real : is_virtual (Text (codes "table")) (Text table_text) ≡ false
unfolding begins same_name
account_real = rw (value_cmp-Text (codes "table") (codes "view"), value_cmp-Text (codes "table") (codes "trigger")) refl

payment_real : is_virtual (Text (codes "table")) (Text payment_text) ≡ false
unfolding begins same_name
payment_real = rw (value_cmp-Text (codes "table") (codes "view"), value_cmp-Text (codes "table") (codes "trigger")) refl

proof_real : is_virtual (Text (codes "table")) (Text proof_text) ≡ false
unfolding begins same_name
proof_real = rw (value_cmp-Text (codes "table") (codes "view"), value_cmp-Text (codes "table") (codes "trigger")) refl

-- and the view
coded_last : (n : ℕ) (text : List ℕ) → has_code n (stamp_row text) ≡ is_eq (int_cmp (pos 3) (pos n))
coded_last n text = ap is_eq (value_cmp-Int (pos 3) (pos n))

a_text : is_text_only (Text (codes "view")) ≡ true
a_text = rw (value_cmp-Text (codes "view") (codes "view")) refl

stamp_fits : (identity address : List ℕ) → fits_kind (Text (codes "view")) (Text (codes "books")) (Text (codes "books")) (Text (stamp_text identity address)) ≡ true
unfolding fits_kind begins same_name is_free_name
stamp_fits identity address = rw (value_cmp-Text (codes "view") (codes "index"), value_cmp-Text (codes "view") (codes "table"), value_cmp-Text (codes "view") (codes "view"), value_cmp-Text (codes "books") (codes "books")) refl

view_by : (row : Row) → has_code 1 row ≡ false → has_code 4 row ≡ false → has_code 3 row ≡ true → fits_kind (column row 1) (column row 2) (column row 3) (column row 4) ≡ true → is_text_only (column row 1) ≡ true
    → is_sound_object row ≡ true
view_by row one four three fits textual = rw (one, four, three, fits, textual) refl

one_by_one : (text : List ℕ) → are_in_order [] (map (head_at 1) (account_row ∷ payment_row ∷ stamp_row text ∷ proof_row ∷ [])) ≡ true
unfolding may_follow same_name
one_by_one text = rw (value_cmp-Text (codes "table") (codes "index"), value_cmp-Text (codes "view") (codes "index")) refl

loads : (identity address : List ℕ) → is_sound_list (account_row ∷ payment_row ∷ stamp_row (stamp_text identity address) ∷ proof_row ∷ []) ≡ true
unfolding is_sound_list
loads identity address =
    let text = stamp_text identity address in
    rw (
      object_by account_row (coded 1) (coded 3) a_word account_fits account_real,
      object_by payment_row (coded_next 1) (coded_next 3) a_word payment_fits payment_real,
      view_by (stamp_row text) (coded_last 1 text) (coded_last 4 text) (coded_last 3 text) (stamp_fits identity address) a_text,
      object_by proof_row (coded_proof 1) (coded_proof 3) a_word proof_fits proof_real,
      one_by_one text,
    ) refl

-- the list that the four calls make
in_order : (text : List ℕ) → put_row proof_row (put_row (stamp_row text) (put_row payment_row (account_row ∷ []))) ≡ account_row ∷ payment_row ∷ stamp_row text ∷ proof_row ∷ []
in_order text = rw (lower_id 1 2 (omega arith), lower_id 1 3 (omega arith), lower_id 2 3 (omega arith), lower_id 1 4 (omega arith), lower_id 2 4 (omega arith), lower_id 3 4 (omega arith)) refl

lists : (address text : List ℕ) → Stamps address text → (objects : List Row) → objects ≡ account_row ∷ payment_row ∷ stamp_row text ∷ proof_row ∷ [] → ListsTables objects
lists address text stamps objects e = record {
  account = account_row;
  payment = payment_row;
  stamp = stamp_row text;
  proof = proof_row;
  only = e;
  accounts = record { is = record { id = refl; kind = refl; name = refl; owner = refl; text_is = refl }; code = refl; reals = refl };
  payments = record { is = record { id = refl; kind = refl; name = refl; owner = refl; text_is = refl }; code = refl; reals = refl };
  proofs = record { is = record { id = refl; kind = refl; name = refl; owner = refl; text_is = refl }; code = refl; reals = refl };
  stamped = record { is = record { address = address; text = text; stamps = stamps; id = refl; kind = refl; name = refl; owner = refl; text_is = refl }; code = refl; reals = refl };
  loads = ap is_sound_list e ∙ subst (λ t. is_sound_list (account_row ∷ payment_row ∷ stamp_row t ∷ proof_row ∷ []) ≡ true) (sym stamps.is) (loads stamps.identity address);
}

-- an object more: the list, its own rows, and the other trees
module _ (old new : View) (tree : ℕ) (shape : Shape) (row : Row) (sets : SetsObject old new tree shape 0 (put_row row)) where
  list_made : new.trees catalog_tree ≡ put_row row (old.trees catalog_tree)
  list_made = ap (λ (v : View). v.trees catalog_tree) sets.is ∙ same_tree (with_tree old.trees tree []) catalog_tree (put_row row (old.trees catalog_tree))

  empty_made : tree ≢ catalog_tree → new.trees tree ≡ []
  empty_made low = ap (λ (v : View). v.trees tree) sets.is ∙ (other_tree (with_tree old.trees tree []) catalog_tree (put_row row (old.trees catalog_tree)) tree low ∙ same_tree old.trees tree [])

  kept : (t : ℕ) → t ≢ catalog_tree → t ≢ tree → new.trees t ≡ old.trees t
  kept t low other = ap (λ (v : View). v.trees t) sets.is ∙ (other_tree (with_tree old.trees tree []) catalog_tree (put_row row (old.trees catalog_tree)) t low ∙ other_tree old.trees tree [] t other)

pub lays : (was one two three new : View) (address text : List ℕ) → Stamps address text → IsUnlaid was → SetsObject was one 0 Table 0 (put_row account_row) → SetsObject one two payment_tree Table 0 (put_row payment_row)
    → SetsObject two three stamp_tree Pageless 0 (put_row (stamp_row text)) → SetsObject three new proof_tree Table 0 (put_row proof_row) → Lays was new
lays was one two three new address text stamps bare a b c d = record {
  books = record {
    rows = kept three new proof_tree Table proof_row d 0 (omega arith) (omega arith) ∙ (kept two three stamp_tree Pageless (stamp_row text) c 0 (omega arith) (omega arith) ∙ (kept one two payment_tree Table payment_row b 0 (omega arith) (omega arith) ∙ empty_made was one 0 Table account_row a (omega arith)));
    named = refl;
    audit = kept three new proof_tree Table proof_row d payment_tree (omega arith) (omega arith) ∙ (kept two three stamp_tree Pageless (stamp_row text) c payment_tree (omega arith) (omega arith) ∙ empty_made one two payment_tree Table payment_row b (omega arith));
    payments = tt;
    filed = empty_made three new proof_tree Table proof_row d (omega arith);
    proofs = tt;
    counted = kept three new proof_tree Table proof_row d version_tree (omega arith) (omega arith) ∙ (kept two three stamp_tree Pageless (stamp_row text) c version_tree (omega arith) (omega arith) ∙ (kept one two payment_tree Table payment_row b version_tree (omega arith) (omega arith)
        ∙ (kept was one 0 Table account_row a version_tree (omega arith) (omega arith) ∙ bare.unstarted)));
    objects = lists address text stamps (new.trees catalog_tree) (list_made three new proof_tree Table proof_row d ∙ (ap (put_row proof_row) (list_made two three stamp_tree Pageless (stamp_row text) c ∙ ap (put_row (stamp_row text)) (list_made one two payment_tree Table payment_row b
        ∙ ap (put_row payment_row) (list_made was one 0 Table account_row a ∙ ap (put_row account_row) bare.lists))) ∙ in_order text));
  };
  table = ap (λ (v : View). v.shape 0) d.is ∙ (ap (λ (v : View). v.shape 0) c.is ∙ (ap (λ (v : View). v.shape 0) b.is ∙ ap (λ (v : View). v.shape 0) a.is));
  audit = ap (λ (v : View). v.shape payment_tree) d.is ∙ (ap (λ (v : View). v.shape payment_tree) c.is ∙ ap (λ (v : View). v.shape payment_tree) b.is);
  filed = ap (λ (v : View). v.shape proof_tree) d.is;
  numbered = ap (λ (v : View). v.is_numbered) d.is ∙ (ap (λ (v : View). v.is_numbered) c.is ∙ (ap (λ (v : View). v.is_numbered) b.is ∙ (ap (λ (v : View). v.is_numbered) a.is ∙ bare.numbered)));
}

-- and committed
pub laid_ready : (was mid new : View) → Lays was mid → Commits mid new → IsReady new
laid_ready was mid new laid commits =
    let now = commits.is in
    record {
      sound = ap (λ (v : View). v.is_broken) now ∙ commits.sound;
      laid = record {
        table = ap (λ (v : View). v.shape 0) now ∙ laid.table;
        audit = ap (λ (v : View). v.shape payment_tree) now ∙ laid.audit;
        filed = ap (λ (v : View). v.shape proof_tree) now ∙ laid.filed;
        kept = ap (λ (v : View). v.shape) now ∙ sym (ap (λ (v : View). v.committed_shape) now);
        numbered = ap (λ (v : View). v.is_numbered) now ∙ laid.numbered;
      };
      settled = ap (λ (v : View). v.trees) now ∙ sym (ap (λ (v : View). v.committed) now);
      loads = ap (λ (v : View). is_sound_list (v.committed catalog_tree)) now ∙ laid.books.objects.loads;
    }
