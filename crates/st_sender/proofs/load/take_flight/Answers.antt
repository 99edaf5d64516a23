use Rattle.std.proofs.Common.{◌≡◌, ◌<◌, length, Some, sym, ap, ◌∙◌, arith}
use Rattle.std.specs.List.{remove}
use Rattle.std.proofs.lemmas.List.{get_or_read}
use Rattle.st_sender.specs.Sending.{Flight}
use Rattle.st_sender.proofs.Places.{found_flight, rest_flights, no_flight, all_flights}
use Rattle.st_sender.proofs.load.take_flight.Goals as goal

pub returns-then-index-sequence-clause-found : goal.returns-then-index-sequence-clause-found
returns-then-index-sequence-clause-found g c =
    let xs = c.args.flights.now.items in
    let here = rw c.loop-i.invariant.0 at c.index.ensures in
    let gone = rw c.loop-i.invariant.0 at c.remove.ensures.value in
    let lt : c.loop-i.i < length xs = omega (arith, ap length c.loop-i.invariant.0) in
    let by : c.index.result.now.sequence ≡ c.args.sequence = sym (ap (λ (p : Flight). p.sequence) c.behind-flights.view_is) ∙ c.if-index-sequence.true in
    let read = get_or_read xs c.loop-i.i c.remove.result lt gone c.index.result.now in
    let named = ap (λ (p : Flight). p.sequence) (sym here) ∙ by in
    sym (found_flight xs c.loop-i.i c.args.sequence c.index.result.now lt c.loop-i.invariant.1 named ∙ ap (λ (p : Flight). Some p) (sym read))

pub returns-then-index-sequence-clause-rest : goal.returns-then-index-sequence-clause-rest
returns-then-index-sequence-clause-rest g c =
    let xs = c.args.flights.now.items in
    let here = rw c.loop-i.invariant.0 at c.index.ensures in
    let lt : c.loop-i.i < length xs = omega (arith, ap length c.loop-i.invariant.0) in
    let by : c.index.result.now.sequence ≡ c.args.sequence = sym (ap (λ (p : Flight). p.sequence) c.behind-flights.view_is) ∙ c.if-index-sequence.true in
    c.remove.ensures.items ∙ ap (λ l. remove l c.loop-i.i) c.loop-i.invariant.0
    ∙ rest_flights xs c.loop-i.i c.args.sequence c.index.result.now lt c.loop-i.invariant.1 (ap (λ (p : Flight). p.sequence) (sym here) ∙ by)

pub returns-clause-found : goal.returns-clause-found
returns-clause-found g c = sym (no_flight c.args.flights.now.items c.args.sequence (λ k d h. c.loop-i.invariant.1 k d (omega arith)))

pub returns-clause-rest : goal.returns-clause-rest
returns-clause-rest g c = c.loop-i.invariant.0 ∙ all_flights c.args.flights.now.items c.args.sequence (λ k d h. c.loop-i.invariant.1 k d (omega arith))
