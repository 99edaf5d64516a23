-- What a reader reads.
use Rattle.std.specs.Prelude.{◌≡◌, ℕ, List, [], ◌∷◌, ◌++◌, ◌⊎◌}
use mathlib.Core.List.{IsPrefix}
use Rattle.st_queues.specs.declared.items.Delivery.{Delivery}
use Rattle.st_queues.specs.declared.items.Delivery.TheVariants as delivery
use Rattle.st_queues.specs.declared.items.Over.{Over}
use Rattle.st_queues.specs.declared.items.Over.TheVariants as over
use Rattle.st_streams.specs.declared.stream_read.StreamRead.{StreamRead}
use Rattle.st_streams.specs.declared.stream_read.StreamRead.TheVariants.{Bytes, Nothing, End, Aborted}

-- what a reader shows: the place of its stream, what it read, oldest first, what it knows to be in the ring, and whether it has seen an end
pub record Read (A : Type 0) : Type 0 where
  pub stream : ℕ
  pub items : List (Delivery A)
  pub known : List (Delivery A)
  pub over : Over

module _ {A : Type 0} where
  -- the reader reads nothing, and may learn of more items
  abbrev pub ReadsNothing : (old new : Read A) → Type 0
  ReadsNothing old new = (new.stream ≡ old.stream) × (new.items ≡ old.items) × (new.over ≡ old.over) × IsPrefix old.known new.known

  -- the next item is read, the first of those known, and the stream is over or not
  abbrev pub Takes : Read A → Read A → Delivery A → Over → Type 0
  Takes a b x o = (a.over ≡ over.Open) × (b.items ≡ a.items ++ x ∷ []) × IsPrefix a.known (x ∷ b.known) × (b.over ≡ o)

  -- the end that was reported is reported again
  abbrev pub Again : Read A → Read A → Over → Type 0
  Again a b o = (a.over ≡ o) × (b ≡ a)

  -- the result of a read is the next item, or the end that was reported before
  abbrev pub ReadsAs : Read A → Read A → StreamRead A → Type 0
  ReadsAs a b (Bytes v) = Takes a b (delivery.Bytes v) over.Open
  ReadsAs a b Nothing = (a.over ≡ over.Open) × (b.items ≡ a.items) × (a.known ≡ []) × (b.known ≡ []) × (b.over ≡ over.Open)
  ReadsAs a b End = Takes a b delivery.End over.Ended ⊎ Again a b over.Ended
  ReadsAs a b (Aborted code) = Takes a b (delivery.Aborted code) (over.Aborted code) ⊎ Again a b (over.Aborted code)
