use Rattle.ilpstream_main.proofs.Tables.{tells_bad}
use Rattle.ilpstream_main.proofs.laws.a_bad_table_is_told_exactly.Goals as goal

pub returns : goal.returns
returns c = tells_bad c.a_bad_text_says_no_table.ensures.bad c.a_bad_text_says_no_table.ensures.same c.lines_say_one_table.ensures
