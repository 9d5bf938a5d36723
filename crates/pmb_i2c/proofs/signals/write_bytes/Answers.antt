use Rattle.std.proofs.Common.{◌≡◌, ◌≢◌, ◌∙◌, ◌<◌, ap, refl, sym, suc, take, drop, drop-cons, length, get_or, arith, List, ℕ, [], ◌∷◌}
use Rattle.std.proofs.Common.{◌++◌}
use Rattle.std.proofs.lemmas.List.{take-append-drop}
use Rattle.pmb_device.specs.declared.signal.HostSignal.TheVariants.{Byte}
use Rattle.pmb_device.specs.declared.signal.DeviceSignal.{DeviceSignal}
use Rattle.pmb_device.specs.declared.signal.DeviceSignal.TheVariants as answers
use Rattle.pmb_i2c.specs.Message.{Writes, answered, taken}
use Rattle.pmb_i2c.proofs.InTurn.{both_are, gives_both}
use Rattle.pmb_i2c.proofs.Messages.{taken_more}
use Rattle.pmb_i2c.proofs.signals.write_bytes.Goals as goal

pub returns-then-not-is_ack : goal.returns-then-not-is_ack
returns-then-not-is_ack g c =
    let i = c.loop-byte.byte-index in
    let bytes = c.args.bytes.now in
    let answer = c.give-answer.result in
    let below : i < length bytes = omega arith in
    let not_ack : answer ≢ answers.Ack = λ is_ack. cc (c.is_ack.ensures.1 is_ack, c.if-not-is_ack.true) in
    gives_both c.loop-byte.invariant c.give-answer.ensures (λ xs ys x y.
    Writes.refused (take i bytes) (get_or bytes i 0) (drop (suc i) bytes) answer
    (sym (take-append-drop i bytes) ∙ ap (λ (l : List ℕ). take i bytes ++ l) (drop-cons bytes i 0 below))
    not_ack refl
    (both_are xs ys (taken (take i bytes)) (answered (Byte (get_or bytes i 0)) answer ∷ []) x y))

pub loop-byte-preserved : goal.loop-byte-preserved
loop-byte-preserved g c =
    let i = c.loop-byte.byte-index in
    let bytes = c.args.bytes.now in
    let byte = get_or bytes i 0 in
    let answer = c.give-answer.result in
    let below : i < length bytes = omega arith in
    let is_ack : answer ≡ answers.Ack = c.is_ack.ensures.0 c.if-not-is_ack.false in
    gives_both c.loop-byte.invariant c.give-answer.ensures (λ xs ys x y.
    both_are xs ys (taken (take i bytes)) (answered (Byte byte) answer ∷ []) x y
    ∙ (ap (λ (a : DeviceSignal). taken (take i bytes) ++ answered (Byte byte) a ∷ []) is_ack
    ∙ taken_more bytes i below))
