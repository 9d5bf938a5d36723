use Rattle.std.proofs.Common.{◌∙◌, ap, refl, [], ◌∷◌}
use Rattle.pmb_device.specs.declared.signal.HostSignal.TheVariants.{Start, Byte, Stop}
use Rattle.pmb_device.specs.declared.signal.DeviceSignal.{DeviceSignal}
use Rattle.pmb_i2c.specs.Message.{BeginsAt, answered}
use Rattle.pmb_i2c.proofs.InTurn.{both_are, gives_as, gives_both, gives_two}
use Rattle.pmb_i2c.proofs.signals.begin.Goals as goal

pub returns-then-is_ack : goal.returns-then-is_ack
returns-then-is_ack g c =
    let start = answered Start c.give.result in
    let address = λ (answer : DeviceSignal). answered (Byte c.args.address_byte) answer in
    gives_as (gives_two start (address c.give-answer.result) c.give.ensures c.give-answer.ensures)
    (λ heard signals.
    BeginsAt.found c.give.result refl
    (signals ∙ ap (λ (a : DeviceSignal). start ∷ address a ∷ []) (c.is_ack.ensures.0 c.if-is_ack.true)))

pub returns : goal.returns
returns g c =
    let start = answered Start c.give.result in
    let address = answered (Byte c.args.address_byte) c.give-answer.result in
    let stop = answered Stop c.give-2.result in
    gives_both (gives_two start address c.give.ensures c.give-answer.ensures) c.give-2.ensures
    (λ xs ys x y.
    BeginsAt.none c.give.result c.give-answer.result c.give-2.result
    (λ is_ack. let took = c.is_ack.ensures.1 is_ack in let not_taken = c.if-is_ack.false in cc (took, not_taken)) refl
    (both_are xs ys (start ∷ address ∷ []) (stop ∷ []) x y))
