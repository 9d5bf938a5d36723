use Rattle.std.proofs.Common.{◌≡◌, ◌∙◌, ℕ, ◌*◌, ap, sym, arith}
use Rattle.pmb_note.specs.Note.{set_bits_text}
use Rattle.pmb_note.proofs.SetBits.{highest_first, no_bits}
use Rattle.pmb_note.proofs.Texts.{at_most, called, nothing, then}
use Rattle.pmb_note.proofs.status.+append_set_bits.Goals as goal

pub returns-then-value-gt0 : goal.returns-then-value-gt0
returns-then-value-gt0 g t c =
    let found = c.highest_bit-bit.ensures in
    called (highest_first c.args.code c.args.value c.without.result c.highest_bit-bit.result c.args.bits found.set
    found.highest (sym c.without.ensures.others) found.within)
    (at_most (18 * c.args.bits) (omega (arith, found.within)) (then c.append_set_bit.ensures c.append_set_bits.ensures))

pub returns-else-value-gt0 : goal.returns-else-value-gt0
returns-else-value-gt0 g t c =
    let none : 0 ≡ c.args.value = omega (arith, c.if-value-gt0.false) in
    called (no_bits c.args.code c.args.bits ∙ ap (λ (value : ℕ). set_bits_text c.args.code value c.args.bits) none)
    (nothing (18 * c.args.bits) c.args.out.now.items)
