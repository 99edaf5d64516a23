-- What a hub moves between its rings and its end: a list of writes, closes and reads.
use Rattle.std.specs.Prelude.{◌≡◌, ◌⊎◌, ℕ, zero, suc, ◌+◌, ◌*◌, ◌<◌, false, List, ◌++◌, Vec, Ok}
use Rattle.st_queues.specs.declared.items.Item.TheVariants as item
use Rattle.st_queues.specs.declared.items.Delivery.{Delivery}
use Rattle.st_queues.specs.declared.items.Delivery.TheVariants as delivery
use Rattle.st_receiver.specs.Reading as reading
use Rattle.st_end.specs.Calls.{write, close}
use Rattle.st_end.specs.Reading.{read}
use Rattle.st_hub.specs.Merge.{Took}
use Rattle.st_hub.specs.Flow.{Flow, outlet_at, has_last, with_item, with_delivery, TiedBy}
use Rattle.st_hub.specs.Handing.{NoneWrites, SomeWrites}

-- the most bytes of a read
abbrev pub read_limit : ℕ
read_limit = 4096

-- what a delivery delivers
abbrev pub got_of : {A : Type 0} → Delivery A → reading.Got
got_of (delivery.Bytes v) = reading.Bytes v.items
got_of delivery.End = reading.End
got_of (delivery.Aborted code) = reading.Aborted code

-- a whole chunk of the writer j of the stream at the place s is written to the end
pub record Takes {A : Type 0} (s j : ℕ) (a b : Flow A) : Type 0 where
  pub chunk : Vec ℕ A
  pub writes : write a.core (s + 1) chunk.items ≡ (Ok tt, b.core)
  pub inlets : b.inlets ≡ with_item a.inlets (8 * s + j) (item.Chunk chunk)
  pub outlets : b.outlets ≡ a.outlets

-- a writer's end is removed from its ring. If no writer of the stream is left then, the stream is closed
pub record Ends {A : Type 0} (s j : ℕ) (a b : Flow A) : Type 0 where
  pub inlets : b.inlets ≡ with_item a.inlets (8 * s + j) item.End
  pub closes : (NoneWrites b.inlets s × (close a.core (s + 1) ≡ (Ok tt, b.core))) ⊎ (SomeWrites b.inlets s × (b.core ≡ a.core))
  pub outlets : b.outlets ≡ a.outlets

-- what a read gave is delivered to the reader, after neither end nor abort; if it gave nothing, nothing is
pub record Gives {A : Type 0} (s : ℕ) (a b : Flow A) : Type 0 where
  pub delivery : Delivery A
  pub goes_on : has_last (outlet_at a.outlets s).put ≡ false
  pub reads : read a.core (s + 1) read_limit ≡ (Ok (got_of delivery), b.core)
  pub inlets : b.inlets ≡ a.inlets
  pub outlets : b.outlets ≡ with_delivery a.outlets s delivery

pub record GivesNone {A : Type 0} (s : ℕ) (a b : Flow A) : Type 0 where
  pub reads : read a.core (s + 1) read_limit ≡ (Ok reading.Nothing, b.core)
  pub inlets : b.inlets ≡ a.inlets
  pub outlets : b.outlets ≡ a.outlets

-- one of these at the stream of the place s
pub data StepAt {A : Type 0} (s : ℕ) (a b : Flow A) : Type 0 where
  takes : (j : ℕ) → j < 8 → Takes s j a b → StepAt s a b
  ends : (j : ℕ) → j < 8 → Ends s j a b → StepAt s a b
  gives : Gives s a b → StepAt s a b
  gives_none : GivesNone s a b → StepAt s a b

-- n steps, one after another
abbrev pub Steps : {A : Type 0} → ℕ → Flow A → Flow A → Type 0
Steps zero a b = b ≡ a
Steps {A} (suc n) a b = (c : Flow A) × (s : ℕ) × Steps n a c × (s < 64) × StepAt s c b

abbrev pub Flows : {A : Type 0} → Flow A → Flow A → Type 0
Flows a b = (n : ℕ) × Steps n a b

-- a merge of what was removed before is the beginning of one of what is removed by now
abbrev pub Continues : {A : Type 0} → Flow A → Flow A → Type 0
Continues {A} a b = (s : ℕ) (log : List (Took A)) → s < 64 → TiedBy a s log → (more : List (Took A)) × TiedBy b s (log ++ more)
