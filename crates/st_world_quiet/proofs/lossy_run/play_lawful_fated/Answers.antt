use Rattle.std.proofs.Common.{◌≡◌, ◌∙◌, ◌+◌, ◌-◌, ◌<◌, ◌^◌, length, sym, arith}
use Rattle.std.proofs.lemmas.List.{length-map}
use Rattle.st_world_quiet.specs.Losses as losses
use Rattle.st_world_quiet.specs.Plays.{input_of, money_of, sends_needed}
use Rattle.st_world_quiet.specs.LostWorlds.{course_at}
use Rattle.st_world_quiet.proofs.LostPlays.{lawful_parts}
use Rattle.st_world_quiet.specs.Playing.{bytes_of}
use Rattle.st_world_quiet.specs.Fates.{all_lost, courses_of, kinds_of}
use Rattle.st_world_quiet.proofs.Fates.{less_sum, lost_all, more_than}
use Rattle.st_world_quiet.proofs.Wholes.{lawful_few}
use Rattle.st_world_quiet.proofs.FatedWholes.{EndsFated, ends_fated_on, fated_bounded, fated_delivers, fated_sharp}
use Rattle.st_world_quiet.proofs.lossy_run.play_lawful_fated.Goals as goal

pub most_fated-most-requires : goal.most_fated-most-requires
most_fated-most-requires g c =
    let few = lawful_few (bytes_of c.args.input.now) c.args.money.now (lawful_parts (bytes_of c.args.input.now) c.args.money.now c.args.receive_max.now c.requires).0 in
    let long = length-map c.args.input.now (λ x. x.now) in
    omega (arith, few, long)

pub returns-then-is_unrecorded-clause-part : goal.returns-then-is_unrecorded-clause-part
returns-then-is_unrecorded-clause-part g c =
    let input = input_of (bytes_of c.args.input.now) in
    let money = money_of c.args.money.now in
    let most = money_of c.args.receive_max.now in
    let course = course_at (courses_of c.args.fates.now) in
    let w = c.args.world in
    let v = c.play_fated-ended.new.world in
    let ends : EndsFated input money most course (length c.args.input.now) (length w.nodes) c.most_fated-most.result c.play_fated-ended.new.sends c.play_fated-ended.new.told c.play_fated-ended.result w v = record { played = c.play_fated-ended.ensures.played; stops = c.play_fated-ended.ensures.stops } in
    (v, ends_fated_on input money most course (length c.args.input.now) (length w.nodes) c.most_fated-most.result c.play_fated-ended.new.sends c.play_fated-ended.new.told c.play_fated-ended.result w v ends, c.into_trace-trace.ensures.trace)

pub returns-clause-run : goal.returns-clause-run
returns-clause-run g c =
    let input = input_of (bytes_of c.args.input.now) in
    let money = money_of c.args.money.now in
    let most = money_of c.args.receive_max.now in
    let course = course_at (courses_of c.args.fates.now) in
    let w = c.args.world in
    let v = c.play_fated-ended.new.world in
    let ends : EndsFated input money most course (length c.args.input.now) (length w.nodes) c.most_fated-most.result c.play_fated-ended.new.sends c.play_fated-ended.new.told c.play_fated-ended.result w v = record { played = c.play_fated-ended.ensures.played; stops = c.play_fated-ended.ensures.stops } in
    (v, ends_fated_on input money most course (length c.args.input.now) (length w.nodes) c.most_fated-most.result c.play_fated-ended.new.sends c.play_fated-ended.new.told c.play_fated-ended.result w v ends, c.into_trace-trace.ensures.trace)

pub returns-clause-delivered : goal.returns-clause-delivered
returns-clause-delivered g c = λ chain first may calm.
    let xs = bytes_of c.args.input.now in
    let ms = c.args.money.now in
    let rs = c.args.receive_max.now in
    let fates = c.args.fates.now in
    let w = c.args.world in
    let v = c.play_fated-ended.new.world in
    let count = length c.args.input.now in
    let counted : count ≡ length xs = sym (length-map c.args.input.now (λ x. x.now)) in
    let fewer : sends_needed chain.config.packet_limit xs ms + losses.losses (kinds_of fates) < c.most_fated-most.result = more_than _ _ _ _ chain.config.packets (lost_all fates) may.packets may.numbers (c.most_fated-most.ensures chain.config.packet_limit may.may_send.pays may.input_fits (less_sum _ _ may.all)) in
    let ends : EndsFated (input_of xs) (money_of ms) (money_of rs) (course_at (courses_of fates)) count (length w.nodes) c.most_fated-most.result c.play_fated-ended.new.sends c.play_fated-ended.new.told c.play_fated-ended.result w v = record { played = c.play_fated-ended.ensures.played; stops = c.play_fated-ended.ensures.stops } in
    fated_delivers chain xs ms rs fates c.requires may w first count counted c.most_fated-most.result c.play_fated-ended.new.sends c.play_fated-ended.new.told c.play_fated-ended.result v c.into_trace-trace.result c.into_trace-trace.ensures.trace calm fewer (sym c.is_unrecorded.ensures ∙ c.if-is_unrecorded.false) ends

pub returns-clause-bounded : goal.returns-clause-bounded
returns-clause-bounded g c = λ chain first may calm.
    let xs = bytes_of c.args.input.now in
    let ms = c.args.money.now in
    let rs = c.args.receive_max.now in
    let fates = c.args.fates.now in
    let w = c.args.world in
    let v = c.play_fated-ended.new.world in
    let count = length c.args.input.now in
    let counted : count ≡ length xs = sym (length-map c.args.input.now (λ x. x.now)) in
    let fewer : sends_needed chain.config.packet_limit xs ms + losses.losses (kinds_of fates) < c.most_fated-most.result = more_than _ _ _ _ chain.config.packets (lost_all fates) may.packets may.numbers (c.most_fated-most.ensures chain.config.packet_limit may.may_send.pays may.input_fits (less_sum _ _ may.all)) in
    let ends : EndsFated (input_of xs) (money_of ms) (money_of rs) (course_at (courses_of fates)) count (length w.nodes) c.most_fated-most.result c.play_fated-ended.new.sends c.play_fated-ended.new.told c.play_fated-ended.result w v = record { played = c.play_fated-ended.ensures.played; stops = c.play_fated-ended.ensures.stops } in
    fated_bounded chain xs ms rs fates c.requires may w first count counted c.most_fated-most.result c.play_fated-ended.new.sends c.play_fated-ended.new.told c.play_fated-ended.result v c.into_trace-trace.result c.into_trace-trace.ensures.trace calm fewer (sym c.is_unrecorded.ensures ∙ c.if-is_unrecorded.false) ends

pub returns-clause-sharper : goal.returns-clause-sharper
returns-clause-sharper g c = λ chain first may calm.
    let xs = bytes_of c.args.input.now in
    let ms = c.args.money.now in
    let rs = c.args.receive_max.now in
    let fates = c.args.fates.now in
    let w = c.args.world in
    let v = c.play_fated-ended.new.world in
    let count = length c.args.input.now in
    let counted : count ≡ length xs = sym (length-map c.args.input.now (λ x. x.now)) in
    let fewer : sends_needed chain.config.packet_limit xs ms + losses.losses (kinds_of fates) < c.most_fated-most.result = more_than _ _ _ _ chain.config.packets (lost_all fates) may.packets may.numbers (c.most_fated-most.ensures chain.config.packet_limit may.may_send.pays may.input_fits (less_sum _ _ may.all)) in
    let ends : EndsFated (input_of xs) (money_of ms) (money_of rs) (course_at (courses_of fates)) count (length w.nodes) c.most_fated-most.result c.play_fated-ended.new.sends c.play_fated-ended.new.told c.play_fated-ended.result w v = record { played = c.play_fated-ended.ensures.played; stops = c.play_fated-ended.ensures.stops } in
    fated_sharp chain xs ms rs fates c.requires may w first count counted c.most_fated-most.result c.play_fated-ended.new.sends c.play_fated-ended.new.told c.play_fated-ended.result v c.into_trace-trace.result c.into_trace-trace.ensures.trace calm fewer (sym c.is_unrecorded.ensures ∙ c.if-is_unrecorded.false) ends
