use Rattle.std.proofs.Common.{◌≡◌, ◌∙◌, length, sym, arith}
use Rattle.std.proofs.lemmas.List.{length-map}
use Rattle.st_world_quiet.specs.Plays.{input_of, money_of}
use Rattle.st_world_quiet.specs.Playing.{bytes_of}
use Rattle.st_world_quiet.proofs.Wholes.{Ends, ends_on, lawful_few, run_bounded, run_delivers, run_sharp}
use Rattle.st_world_quiet.proofs.run.play_lawful.Goals as goal

pub most_rounds-most-requires : goal.most_rounds-most-requires
most_rounds-most-requires g c =
    let few = lawful_few (bytes_of c.args.input.now) c.args.money.now c.requires in
    let long = length-map c.args.input.now (λ x. x.now) in
    omega (arith, few, long)

pub returns-then-is_unrecorded-clause-part : goal.returns-then-is_unrecorded-clause-part
returns-then-is_unrecorded-clause-part g c =
    let input = input_of (bytes_of c.args.input.now) in
    let money = money_of c.args.money.now in
    let w = c.args.world in
    let v = c.play-ended.new.world in
    let ends : Ends input money (length c.args.input.now) (length w.nodes) c.most_rounds-most.result c.play-ended.new.sends c.play-ended.result w v = record { played = c.play-ended.ensures.played; stops = c.play-ended.ensures.stops } in
    (v, ends_on input money (length c.args.input.now) (length w.nodes) c.most_rounds-most.result c.play-ended.new.sends c.play-ended.result w v ends, c.into_trace-trace.ensures.trace)

pub returns-clause-run : goal.returns-clause-run
returns-clause-run g c =
    let input = input_of (bytes_of c.args.input.now) in
    let money = money_of c.args.money.now in
    let w = c.args.world in
    let v = c.play-ended.new.world in
    let ends : Ends input money (length c.args.input.now) (length w.nodes) c.most_rounds-most.result c.play-ended.new.sends c.play-ended.result w v = record { played = c.play-ended.ensures.played; stops = c.play-ended.ensures.stops } in
    (v, ends_on input money (length c.args.input.now) (length w.nodes) c.most_rounds-most.result c.play-ended.new.sends c.play-ended.result w v ends, c.into_trace-trace.ensures.trace)

pub returns-clause-delivered : goal.returns-clause-delivered
returns-clause-delivered g c = λ chain first may calm.
    let xs = bytes_of c.args.input.now in
    let ms = c.args.money.now in
    let w = c.args.world in
    let v = c.play-ended.new.world in
    let count = length c.args.input.now in
    let counted : count ≡ length xs = sym (length-map c.args.input.now (λ x. x.now)) in
    let ends : Ends (input_of xs) (money_of ms) count (length w.nodes) c.most_rounds-most.result c.play-ended.new.sends c.play-ended.result w v = record { played = c.play-ended.ensures.played; stops = c.play-ended.ensures.stops } in
    run_delivers chain xs ms c.requires may w first count counted c.most_rounds-most.result c.play-ended.new.sends c.play-ended.result v c.into_trace-trace.result c.into_trace-trace.ensures.trace calm
    (c.most_rounds-most.ensures chain.config.packet_limit may.may_send.pays may.input_fits may.money_fits) (sym c.is_unrecorded.ensures ∙ c.if-is_unrecorded.false) ends

pub returns-clause-bounded : goal.returns-clause-bounded
returns-clause-bounded g c = λ chain first may calm.
    let xs = bytes_of c.args.input.now in
    let ms = c.args.money.now in
    let w = c.args.world in
    let v = c.play-ended.new.world in
    let count = length c.args.input.now in
    let counted : count ≡ length xs = sym (length-map c.args.input.now (λ x. x.now)) in
    let ends : Ends (input_of xs) (money_of ms) count (length w.nodes) c.most_rounds-most.result c.play-ended.new.sends c.play-ended.result w v = record { played = c.play-ended.ensures.played; stops = c.play-ended.ensures.stops } in
    run_bounded chain xs ms c.requires may w first count counted c.most_rounds-most.result c.play-ended.new.sends c.play-ended.result v c.into_trace-trace.result c.into_trace-trace.ensures.trace calm
    (c.most_rounds-most.ensures chain.config.packet_limit may.may_send.pays may.input_fits may.money_fits) (sym c.is_unrecorded.ensures ∙ c.if-is_unrecorded.false) ends

pub returns-clause-sharper : goal.returns-clause-sharper
returns-clause-sharper g c = λ chain first may calm.
    let xs = bytes_of c.args.input.now in
    let ms = c.args.money.now in
    let w = c.args.world in
    let v = c.play-ended.new.world in
    let count = length c.args.input.now in
    let counted : count ≡ length xs = sym (length-map c.args.input.now (λ x. x.now)) in
    let ends : Ends (input_of xs) (money_of ms) count (length w.nodes) c.most_rounds-most.result c.play-ended.new.sends c.play-ended.result w v = record { played = c.play-ended.ensures.played; stops = c.play-ended.ensures.stops } in
    run_sharp chain xs ms c.requires may w first count counted c.most_rounds-most.result c.play-ended.new.sends c.play-ended.result v c.into_trace-trace.result c.into_trace-trace.ensures.trace calm
    (c.most_rounds-most.ensures chain.config.packet_limit may.may_send.pays may.input_fits may.money_fits) (sym c.is_unrecorded.ensures ∙ c.if-is_unrecorded.false) ends
