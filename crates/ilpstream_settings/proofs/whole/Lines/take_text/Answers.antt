use Rattle.std.proofs.Common.{◌≡◌, map, subst}
use Rattle.std.specs.Prelude.{IfOk}
use Rattle.ilpstream_settings.specs.Table.{words_of}
use Rattle.ilpstream_settings.specs.Whole.{IsStep}
use Rattle.ilpstream_settings.proofs.whole.Lines.take_text.Goals as goal

pub returns : goal.returns
returns g c =
    let are : map (λ w. w.now) c.deref.result.now ≡ words_of c.args.text.now = rw c.deref.ensures.value c.in_ok-words.ensures in
    subst (λ words. IfOk c.take_line.result (IsStep words c.args.line c.args.self.now.names.keys c.args.self.now.routes.items c.take_line.new.self.names.keys c.take_line.new.self.routes.items)) are c.take_line.ensures
