use Rattle.std.proofs.Common.{◌≡◌, ◌+◌, ◌-◌, ◌<◌, ◌∙◌, refl, sym, subst, take, length, arith, List, ℕ, ◌++◌}
use Rattle.std.proofs.lemmas.List.{take_more_set}
use Rattle.pmb_i2c.specs.Message.{Reads, ReadsOn}
use Rattle.pmb_i2c.proofs.InTurn.{gives_both}
use Rattle.pmb_i2c.proofs.Messages.{has_some, reads_more, set_last}
use Rattle.pmb_i2c.proofs.signals.read_bytes.Goals as goal

pub loop-i-preserved : goal.loop-i-preserved
loop-i-preserved g c =
    let i = c.loop-i.i in
    let bytes = c.loop-i.bytes in
    let byte = c.read_byte.result in
    let below : i < length bytes = omega arith in
    gives_both c.loop-i.invariant c.read_byte.ensures (λ xs ys x y.
    subst (λ (l : List ℕ). ReadsOn l (xs ++ ys)) (sym (take_more_set bytes i byte below))
    (reads_more (take i bytes) byte xs ys x y))

pub returns : goal.returns
returns g c =
    let i = c.loop-i.i in
    let bytes = c.loop-i.bytes in
    let byte = c.read_byte-2.result in
    let some = has_some (length c.args.bytes.now) (sym c.is_empty.ensures ∙ c.if-is_empty.false) in
    let is_last : i ≡ length c.args.bytes.now - 1 = omega arith in
    let ends : i + 1 ≡ length bytes = omega arith in
    gives_both c.loop-i.invariant c.read_byte-2.ensures (λ xs ys x y.
    Reads.some (take i bytes) byte xs ys (set_last bytes i (length c.args.bytes.now - 1) byte is_last ends) x y refl)
