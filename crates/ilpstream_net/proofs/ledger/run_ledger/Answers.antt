use Rattle.std.proofs.Common.{List, ℕ, subst}
use Rattle.std.specs.Io.KnownBytes.{Appends}
use Rattle.std.proofs.lemmas.Result.{on_ok_weaker}
use Rattle.st_devices.specs.Tallies.{device_of}
use Rattle.ilpstream_net.proofs.Ledgers.{ends_printed, ends_refused}
use Rattle.ilpstream_net.proofs.ledger.run_ledger.Goals as goal

pub returns-in_err-text-in-Ok-clause-ends : goal.returns-in_err-text-in-Ok-clause-ends
returns-in_err-text-in-Ok-clause-ends g c =
    ends_refused g.W.Write.contents c.args.settings.now.payment c.args.writer.now c.from_residual.result c.in_err-text-in-Ok.field-0.0 c.from_residual.ensures.1 c.in_err-text-in-Ok.ensures.late

pub returns-clause-found : goal.returns-clause-found
returns-clause-found g c =
    let before = g.W.Write.contents (device_of c.args.writer.now) in
    let now = g.W.Write.contents (device_of c.print.new.writer) in
    on_ok_weaker c.print.result (λ whole. (
      c.in-Ok.books,
      c.text_of.new.books,
      c.in_ok-text-in-Ok.text.items,
      c.in-Ok.ensures,
      c.in_ok-text-in-Ok.ensures.printed,
      subst (λ (text : List ℕ). Appends before now text) c.deref.ensures.value whole,
    )) c.print.ensures.whole

pub returns-clause-ends : goal.returns-clause-ends
returns-clause-ends g c =
    let before = g.W.Write.contents (device_of c.args.writer.now) in
    let now = g.W.Write.contents (device_of c.print.new.writer) in
    ends_printed _ g.W.Write.contents c.args.settings.now.payment c.in-Ok.books c.text_of.new.books c.args.writer.now c.print.new.writer c.in_ok-text-in-Ok.text.items c.print.result c.in_ok-text-in-Ok.ensures.printed
    (on_ok_weaker c.print.result (λ whole. subst (λ (text : List ℕ). Appends before now text) c.deref.ensures.value whole) c.print.ensures.whole) c.print.ensures.refused
