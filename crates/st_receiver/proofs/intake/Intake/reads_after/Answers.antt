use Rattle.std.proofs.Common.{◌≡◌, ◌∙◌, map, length, true, false, sym, ap, subst}
use Rattle.std.specs.List.{list_any}
use Rattle.st_frames.specs.Frames.{frame_of}
use Rattle.st_receiver.specs.Streams.{received_of, read_of}
use Rattle.st_receiver.specs.Data.{after_frames}
use Rattle.st_receiver.specs.Money.{after_money}
use Rattle.st_receiver.specs.Closes.{after_closes}
use Rattle.st_receiver.specs.Standing.{Standing}
use Rattle.st_receiver.specs.Inside.{over_of, Counts, IsEnds, closes_connection}
use Rattle.st_receiver.proofs.Tallying.{counts_start, connections_read, reads_by, aborted_all}
use Rattle.st_receiver.proofs.intake.Intake.reads_after.Goals as goal

pub returns-then-any_closes : goal.returns-then-any_closes
returns-then-any_closes g c amount =
    let r = c.args.self.now.state in
    let fs = map frame_of c.args.frames in
    let len : length r.streams ≡ 65 = ap (λ (t : Standing). length t.state.streams) (sym c.self.view_is) ∙ c.self.invariant.0 in
    let got = subst (IsEnds r (map frame_of c.again.result)) c.unwrap.ensures c.ends_after.ensures in
    let start = counts_start r amount fs _ len c.requires (got.1 ∙ ap (λ xs. map received_of (after_frames r (map frame_of xs)).streams) c.again.ensures)
    (c.reads_of.ensures ∙ ap (λ (t : Standing). map read_of t.state.streams) c.self.view_is) (c.all_over.ensures ∙ ap (λ (t : Standing). map over_of t.state.streams) c.self.view_is) in
    let m = after_money (after_frames r fs) amount fs in
    let ends = subst (λ xs. Counts (after_closes m (map frame_of xs)) c.take_closes.new.self) c.again-2.ensures (c.take_closes.ensures m start) in
    let any : list_any closes_connection fs ≡ true = sym c.any_closes.ensures ∙ c.if-any_closes.true in
    aborted_all (after_closes m fs) c.take_closes.new.self c.aborted.result ends c.aborted.ensures.size c.aborted.ensures.reads
    ∙ ap (λ b. reads_by b (after_closes m fs).streams) (sym any) ∙ sym (connections_read (after_closes m fs) fs)

pub returns : goal.returns
returns g c amount =
    let r = c.args.self.now.state in
    let fs = map frame_of c.args.frames in
    let len : length r.streams ≡ 65 = ap (λ (t : Standing). length t.state.streams) (sym c.self.view_is) ∙ c.self.invariant.0 in
    let got = subst (IsEnds r (map frame_of c.again.result)) c.unwrap.ensures c.ends_after.ensures in
    let start = counts_start r amount fs _ len c.requires (got.1 ∙ ap (λ xs. map received_of (after_frames r (map frame_of xs)).streams) c.again.ensures)
    (c.reads_of.ensures ∙ ap (λ (t : Standing). map read_of t.state.streams) c.self.view_is) (c.all_over.ensures ∙ ap (λ (t : Standing). map over_of t.state.streams) c.self.view_is) in
    let m = after_money (after_frames r fs) amount fs in
    let ends = subst (λ xs. Counts (after_closes m (map frame_of xs)) c.take_closes.new.self) c.again-2.ensures (c.take_closes.ensures m start) in
    let any : list_any closes_connection fs ≡ false = sym c.any_closes.ensures ∙ c.if-any_closes.false in
    ends.reads ∙ ap (λ b. reads_by b (after_closes m fs).streams) (sym any) ∙ sym (connections_read (after_closes m fs) fs)
