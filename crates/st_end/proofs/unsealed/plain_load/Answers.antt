use Rattle.std.proofs.Common.{rules, ◌≡◌, Ok, drop, arith}
use Rattle.std.proofs.lemmas.List.{length-drop}
use Rattle.st_ilp.specs.Spelling.{prepare_kind}
use Rattle.st_frames.specs.Written.{written}
use Rattle.st_end.proofs.Going.{text_short}
use Rattle.st_end.proofs.unsealed.plain_load.Goals as goal

pub returns-in-Ok-plain_payload-clause-short : goal.returns-in-Ok-plain_payload-clause-short
returns-in-Ok-plain_payload-clause-short g c =
    let bytes = c.in-Ok-plain_payload.payload.items in
    let load = c.args.load.now in
    let writes : written prepare_kind load.sequence load.least load.frames ≡ Ok (drop 28 bytes) = search rules in
    let short = text_short prepare_kind load (drop 28 bytes) (record { writable = c.requires.writable; short = c.requires.short }) writes in
    omega (arith, short, length-drop 28 bytes, c.in-Ok-plain_payload.ensures.long)
