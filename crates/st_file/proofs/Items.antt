-- What passed through a ring, one item more.
use Rattle.std.proofs.Common.{◌≡◌, ℕ, List, [], ◌∷◌, ◌++◌, inl, inr, append-nil, append_assoc, refl, ap, sym, ◌∙◌, Bool, true, None, Vec}
use Rattle.st_queues.specs.Items.{joined, delivered}
use Rattle.st_queues.specs.Reading.{Read, ReadsAs}
use Rattle.st_queues.specs.Writing.{Written}
use Rattle.st_queues.specs.declared.items.Item.{Item}
use Rattle.st_queues.specs.declared.items.Item.TheVariants as item
use Rattle.st_queues.specs.declared.items.Delivery.{Delivery}
use Rattle.st_queues.specs.declared.items.Delivery.TheVariants as delivery
use Rattle.st_streams.specs.declared.stream_read.StreamRead.{StreamRead}
use Rattle.st_streams.specs.declared.stream_read.StreamRead.TheVariants.{Bytes, Nothing, End, Aborted}
use Rattle.st_queues.specs.declared.items.Over.{Over}
use Rattle.st_queues.specs.declared.items.Over.TheVariants as over
use Rattle.st_file.specs.Rings.{given_by, taken_by}
use Rattle.st_file.specs.Sinks.{Taken}
use Rattle.st_file.specs.Sources.{Given, Gives}

taken_eq : (x y : List ℕ) (e f : Bool) → x ≡ y → e ≡ f → ◌≡◌ {A = Taken} (record { bytes = x; ended = e; calls = None }) (record { bytes = y; ended = f; calls = None })
taken_eq x y e f p q = rw p (rw q refl)

given_eq : (x y : List ℕ) (e f : Over) → x ≡ y → e ≡ f → ◌≡◌ {A = Given} (record { bytes = x; over = e; calls = None }) (record { bytes = y; over = f; calls = None })
given_eq x y e f p q = rw p (rw q refl)

module _ {A : Type 0} where
  joined_sum : (xs ys : List (Item A)) → joined (xs ++ ys) ≡ joined xs ++ joined ys
  joined_sum [] ys = refl
  joined_sum (item.Chunk v ∷ xs) ys = ap (λ l. v.items ++ l) (joined_sum xs ys) ∙ sym (append_assoc v.items (joined xs) (joined ys))
  joined_sum (item.End ∷ xs) ys = joined_sum xs ys

  delivered_sum : (xs ys : List (Delivery A)) → delivered (xs ++ ys) ≡ delivered xs ++ delivered ys
  delivered_sum [] ys = refl
  delivered_sum (delivery.Bytes v ∷ xs) ys = ap (λ l. v.items ++ l) (delivered_sum xs ys) ∙ sym (append_assoc v.items (delivered xs) (delivered ys))
  delivered_sum (delivery.End ∷ xs) ys = delivered_sum xs ys
  delivered_sum (delivery.Aborted code ∷ xs) ys = delivered_sum xs ys

  pub joined_chunk : (xs ys : List (Item A)) (v : Vec ℕ A) → ys ≡ xs ++ item.Chunk v ∷ [] → joined ys ≡ joined xs ++ v.items
  joined_chunk xs ys v h = ap joined h ∙ joined_sum xs (item.Chunk v ∷ []) ∙ ap (λ l. joined xs ++ l) (append-nil v.items)

  joined_end : (xs ys : List (Item A)) → ys ≡ xs ++ item.End ∷ [] → joined ys ≡ joined xs
  joined_end xs ys h = ap joined h ∙ joined_sum xs (item.End ∷ []) ∙ append-nil (joined xs)

  pub put_taken : (a b : Written A) (v : Vec ℕ A) → b.items ≡ a.items ++ item.Chunk v ∷ [] → b.ended ≡ a.ended → taken_by b ≡ record { bytes = joined a.items ++ v.items; ended = a.ended; calls = None }
  put_taken a b v items ended = taken_eq (joined b.items) (joined a.items ++ v.items) b.ended a.ended (joined_chunk a.items b.items v items) ended

  pub end_taken : (a b : Written A) → b.items ≡ a.items ++ item.End ∷ [] → b.ended ≡ true → taken_by b ≡ record { bytes = joined a.items; ended = true; calls = None }
  end_taken a b items ended = taken_eq (joined b.items) (joined a.items) b.ended true (joined_end a.items b.items items) ended

  pub end_refused : (a b : Written A) → b.items ≡ a.items → b.ended ≡ a.ended → taken_by b ≡ record { bytes = joined a.items; ended = a.ended; calls = None }
  end_refused a b items ended = taken_eq (joined b.items) (joined a.items) b.ended a.ended (ap joined items) ended

  -- an end was delivered, or reported again
  told : (a b : Read A) (x : Delivery A) (o : Over) → delivered (x ∷ []) ≡ [] → b.items ≡ a.items ++ x ∷ [] → b.over ≡ o → given_by b ≡ record { bytes = delivered a.items; over = o; calls = None }
  told a b x o none items is = given_eq (delivered b.items) (delivered a.items) b.over o
      (ap delivered items ∙ delivered_sum a.items (x ∷ []) ∙ ap (λ l. delivered a.items ++ l) none ∙ append-nil (delivered a.items)) is

  again : (a b : Read A) (o : Over) → a.over ≡ o → b ≡ a → given_by b ≡ record { bytes = delivered a.items; over = o; calls = None }
  again a b o is same = rw same (given_eq (delivered a.items) (delivered a.items) a.over o refl is)

  pub next_given : (a b : Read A) (got : StreamRead A) → ReadsAs a b got → Gives (given_by a) (given_by b) got
  next_given a b (Bytes v) h = given_eq (delivered b.items) (delivered a.items ++ v.items) b.over over.Open
      (ap delivered h.1 ∙ delivered_sum a.items (delivery.Bytes v ∷ []) ∙ ap (λ l. delivered a.items ++ l) (append-nil v.items)) h.3
  next_given a b Nothing h = given_eq (delivered b.items) (delivered a.items) b.over over.Open (ap delivered h.1) h.4
  next_given a b End (inl h) = told a b delivery.End over.Ended refl h.1 h.3
  next_given a b End (inr h) = again a b over.Ended h.0 h.1
  next_given a b (Aborted code) (inl h) = told a b (delivery.Aborted code) (over.Aborted code) refl h.1 h.3
  next_given a b (Aborted code) (inr h) = again a b (over.Aborted code) h.0 h.1
