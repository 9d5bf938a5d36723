use Rattle.std.proofs.Common.{◌≡◌, ◌⊎◌, ◌+◌, ◌-◌, ◌<◌, ◌≤◌, inl, inr, arith, refl, sym, length}
use Rattle.pmb_device.specs.declared.signal.HostSignal.TheVariants.{Ask, Ack, Nack}
use Rattle.pmb_i2c.specs.Message.{ReadsByte, ReadsCounted, answered}
use Rattle.pmb_i2c.proofs.InTurn.{gives_as, gives_both, gives_two}
use Rattle.pmb_i2c.proofs.Messages.{counted_bytes, counted_rest}
use Rattle.pmb_i2c.proofs.message.read_counted.Goals as goal
use Rattle.pmb_i2c.proofs.message.read_counted.Goals.{then-count-eq0-via-then-count-eq0, then-count-eq0-via-else-count-eq0+then-count-gt-MOST_COUNTED}

pub returns-then-count-eq0-clause-signals : goal.returns-then-count-eq0-clause-signals
returns-then-count-eq0-clause-signals g c =
    let count = c.byte_of-count.result in
    let bad : (count ≡ 0) ⊎ (32 < count) = elim c.then-count-eq0.branch [
      | then-count-eq0-via-then-count-eq0 w ↦ inl (omega arith)
      | then-count-eq0-via-else-count-eq0+then-count-gt-MOST_COUNTED w ↦ inr (omega arith)
    ] in
    gives_as
    (gives_two (answered Ask c.give.result) (answered Nack c.give-then-count-eq0.result) c.give.ensures
    c.give-then-count-eq0.ensures)
    (λ heard signals.
    ReadsCounted.bad_count count bad refl
    (record { answer = c.give.result; silence = c.give-then-count-eq0.result; byte_is = sym c.byte_of-count.ensures; signals = signals }))

pub returns-clause-signals : goal.returns-clause-signals
returns-clause-signals g c =
    let count = c.byte_of-count.result in
    let block = c.read_bytes.new.bytes in
    let many : 1 ≤ count = omega arith in
    let few : count ≤ 32 = omega arith in
    let long : length block ≡ count + c.args.more = omega (arith, c.read_bytes.auto.bytes) in
    gives_both
    (gives_as {Else = ReadsByte Ack count}
    (gives_two (answered Ask c.give.result) (answered Ack c.give-2.result) c.give.ensures c.give-2.ensures)
    (λ heard signals.
    record { answer = c.give.result; silence = c.give-2.result; byte_is = sym c.byte_of-count.ensures; signals = signals }))
    c.read_bytes.ensures
    (λ xs ys x y.
    ReadsCounted.counted count block xs ys many few long
    (counted_bytes c.args.bytes.now block count (1 + count + c.args.more) (1 + count + c.args.more - 1) (omega arith)
    (omega arith)) refl x y refl)

pub returns-clause-rest : goal.returns-clause-rest
returns-clause-rest g c =
    let count = c.byte_of-count.result in
    counted_rest c.args.bytes.now c.read_bytes.new.bytes count (1 + count + c.args.more) (1 + count + c.args.more - 1)
    (omega arith) (omega (arith, c.read_bytes.auto.bytes)) (omega arith)
