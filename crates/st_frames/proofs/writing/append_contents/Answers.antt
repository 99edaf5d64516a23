use Rattle.std.proofs.Common.{rules, ◌++◌, List, ℕ, length, ap, ◌∙◌, arith, length-append}
use Rattle.st_frames.specs.declared.field.Field.TheVariants.{Byte}
use Rattle.st_frames.proofs.Puts.{put_three, three_lengths}
use Rattle.st_frames.proofs.writing.append_contents.Goals as goal

pub append-requires : goal.append-requires
append-requires g c =
    record { room = omega (arith, three_lengths c.layout.result.1 (Byte 0) (search rules), ap length c.layout.ensures.text, c.requires.room) }

pub append-requires-2 : goal.append-requires-2
append-requires-2 g c =
    record { room = grind (arith, length-append, three_lengths c.layout.result.1 (Byte 0) (search rules), ap length c.layout.ensures.text, c.requires.room) }

pub append-requires-3 : goal.append-requires-3
append-requires-3 g c =
    record { room = grind (arith, length-append, three_lengths c.layout.result.1 (Byte 0) (search rules), ap length c.layout.ensures.text, c.requires.room) }

pub returns-clause-text : goal.returns-clause-text
returns-clause-text g c =
    put_three c.layout.result.1 _ _ _ _ _ (search rules) c.append.ensures.text c.append-2.ensures.text c.append-3.ensures.text ∙ ap (λ (x : List ℕ). c.args.out.now.items ++ x) c.layout.ensures.text
