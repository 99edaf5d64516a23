use Rattle.std.proofs.Common.{◌≡◌, ◌⊎◌, sym, subst, ◌∙◌, inl, inr, arith}
use Rattle.clap.specs.Words.{IsAmong, Kinds}
use Rattle.clap.specs.declared.error.kind.ErrorKind.{ErrorKind}
use Rattle.clap.specs.declared.error.kind.ErrorKind.TheVariants.{DisplayHelp, DisplayVersion, OutOfMemory}
use Rattle.st_devices.specs.Tallies.{no_calls}
use Rattle.ilpstream_main.specs.Words.{MayShow}
use Rattle.ilpstream_main.proofs.program.tell.Goals as goal

among : (k x : ErrorKind) (kinds : Kinds) → k ≡ x → IsAmong k kinds → IsAmong x kinds
among k x kinds e h = subst (λ (y : ErrorKind). IsAmong y kinds) e h

shown : (k : ErrorKind) (kinds : Kinds) → (k ≡ DisplayHelp) ⊎ (k ≡ DisplayVersion) → (k ≡ OutOfMemory) ⊎ IsAmong k kinds → MayShow kinds
shown k kinds (inl help) (inl memory) = let wrong : DisplayHelp ≡ OutOfMemory = sym help ∙ memory in absurd (cc)
shown k kinds (inr version) (inl memory) = let wrong : DisplayVersion ≡ OutOfMemory = sym version ∙ memory in absurd (cc)
shown k kinds (inl help) (inr is) = inl (among k DisplayHelp kinds help is)
shown k kinds (inr version) (inr is) = inr (among k DisplayVersion kinds version is)

pub returns-in-DisplayHelp-clause-told : goal.returns-in-DisplayHelp-clause-told
returns-in-DisplayHelp-clause-told g c = λ r kinds has.
    let may : MayShow kinds = shown c.kind.result kinds c.in-DisplayHelp.is (rw (sym c.kind.ensures) at has) in
    elim (c.show.ensures r) [
      | inl done ↦ inr (inl (done.0, may, done.1, done.2))
      | inr other ↦ elim other [
        | inl fault ↦ inr (inr (inl (may, fault)))
        | inr memory ↦ inr (inr (inr memory))
      ]
    ]

pub returns-in-DisplayHelp-clause-status : goal.returns-in-DisplayHelp-clause-status
returns-in-DisplayHelp-clause-status g c = elim (c.show.ensures no_calls) [
  | inl done ↦ rw done.0 (omega arith)
  | inr other ↦ elim other [
    | inl fault ↦ rw fault.2.0 (omega arith)
    | inr memory ↦ rw memory.1.0 (omega arith)
  ]
]
