-- A reader that takes the next item.
use Rattle.std.proofs.Common.{◌≡◌, List, [], ◌∷◌, ◌++◌, subst}
use mathlib.Core.List.{IsPrefix}
use Rattle.st_queues.specs.declared.items.Delivery.{Delivery}
use Rattle.st_queues.specs.declared.items.Over.{Over}
use Rattle.st_queues.specs.declared.items.Over.TheVariants as over
use Rattle.st_queues.specs.Reading.{Read, Takes}

pub takes : {A : Type 0} (old was now : Read A) (x y : Delivery A) (o : Over) → was ≡ old → was.over ≡ over.Open → now.items ≡ was.items ++ x ∷ [] → IsPrefix was.known (x ∷ now.known) → x ≡ y → now.over ≡ o → Takes old now y o
takes {A} old was now x y o same open_ items known is ends = subst (λ (a : Read A). Takes a now y o) same (subst (λ (z : Delivery A). Takes was now z o) is (open_, items, known, ends))
