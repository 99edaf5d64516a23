use Rattle.std.proofs.Common.{◌≡◌, List, subst, map, [], refl, inl, inr, arith}
use Rattle.clap.specs.Words.{HasKind, Kinds, Text, kind_of}
use Rattle.clap.specs.declared.error.kind.ErrorKind.TheVariants.{OutOfMemory}
use Rattle.st_devices.specs.Tallies.{tally_of}
use Rattle.ilpstream_words.specs.declared.request.Request.{Request}
use Rattle.ilpstream_words.specs.Words.{command_of, refusals}
use Rattle.ilpstream_output.specs.Endings.{HasEnded}
use Rattle.ilpstream_main.specs.Endings.{DoesUnless}
use Rattle.ilpstream_main.specs.Streams.{missing}
use Rattle.ilpstream_main.proofs.Asked.{asked_lawful, frames_alone}
use Rattle.ilpstream_main.proofs.WordsTaken.{shown_is_no_mistake, shown_is_not_taken}
use Rattle.ilpstream_main.proofs.program.run.Goals as goal

pub returns-in-Ok-clause-obeys : goal.returns-in-Ok-clause-obeys
returns-in-Ok-clause-obeys g c =
    let words : List Text = map g.S.AsStr.text c.args.words.now in
    record {
      frames = λ asks. inl (subst (λ (q : Request). DoesUnless (missing q c.args.streams) q g.R.Read.remaining g.W.Write.contents g.E.Write.contents
          (HasEnded (tally_of c.args.reader.now) (tally_of c.obey.new.reader) (tally_of c.args.writer.now) (tally_of c.obey.new.writer))
          c.args.reader.now c.obey.new.reader c.args.writer.now c.obey.new.writer c.args.errors.now c.obey.new.errors c.obey.result)
          (frames_alone words c.in-Ok.request asks c.in-Ok.ensures) c.obey.ensures.does);
      asked = λ none. inl (c.in-Ok.request, c.in-Ok.ensures, c.obey.ensures.does);
      told = λ refused. absurd (refused c.in-Ok.ensures.0);
      bad = λ has. absurd (has.1 c.in-Ok.request c.in-Ok.ensures.1);
      shown = λ asks. absurd (shown_is_not_taken words asks c.in-Ok.ensures.0);
    }

pub obey-requires-after_bounds : goal.obey-requires-after_bounds
obey-requires-after_bounds g c κs within = asked_lawful (command_of (map g.S.AsStr.text c.args.words.now)) c.in-Ok.request c.in-Ok.ensures.1

pub returns-in-Err-Refused-clause-obeys : goal.returns-in-Err-Refused-clause-obeys
returns-in-Err-Refused-clause-obeys g c =
    let words : List Text = map g.S.AsStr.text c.args.words.now in
    let kind : HasKind (refusals words) c.in-Err-Refused.error = rw c.in-Err-Refused.field-0-is at c.in-Err-Refused.ensures in
    let memory : (refusals words ≡ [] → kind_of c.in-Err-Refused.error ≡ OutOfMemory) = λ none.
    elim (subst (λ (kinds : Kinds). HasKind kinds c.in-Err-Refused.error) none kind) [
      | inl wants ↦ wants
      | inr wrong ↦ absurd wrong
    ] in
    record {
      frames = λ asks. inr (refl, c.tell.ensures.memory (rw c.in-Err-Refused.field-0-is (memory asks.0)));
      asked = λ none. inr (inr (refl, c.tell.ensures.memory (rw c.in-Err-Refused.field-0-is (memory none))));
      told = λ _. (refl, c.tell.ensures.told (tally_of c.args.reader.now) (refusals words) (rw c.in-Err-Refused.field-0-is kind));
      bad = λ has. let m = c.tell.ensures.memory (rw c.in-Err-Refused.field-0-is (memory has.0)) in (refl, m.0, (m.1.0, inr m.1.1));
      shown = λ asks. elim (c.tell.ensures.told (tally_of c.args.reader.now) (refusals words) (rw c.in-Err-Refused.field-0-is kind)) [
        | inl mistake ↦ absurd (shown_is_no_mistake words asks mistake.1)
        | inr other ↦ elim other [
          | inl done ↦ rw done.0 (omega arith)
          | inr fault ↦ elim fault [
            | inl one ↦ rw one.1.2.0 (omega arith)
            | inr lacks ↦ rw lacks.1.0 (omega arith)
          ]
        ]
      ];
    }
