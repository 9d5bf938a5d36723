use Rattle.std.proofs.Common.{◌≡◌, ◌∙◌, ◌≤◌, ◌++◌, List, ℕ, Option, Some, None, codes, ap, sym, subst, length, arith}
use Rattle.std.proofs.lemmas.Fmt.{length-decimal-le}
use Rattle.pmb_command.specs.StatusBits.{bit_text}
use Rattle.pmb_note.specs.Note.{named_bit}
use Rattle.pmb_note.proofs.Texts.{at_most, called, then}
use Rattle.pmb_note.proofs.status.append_bit.Goals as goal

pub returns-in-Some : goal.returns-in-Some
returns-in-Some g c =
    let is : Some c.in-Some.name.now ≡ bit_text c.args.code c.args.bit = c.in-Some.ensures.name in
    let few : length c.in-Some.name.now ≤ 17 = c.in-Some.ensures.short in
    called (ap (λ (found : Option (List ℕ)). named_bit found c.args.bit) is) (at_most 17 few c.append.ensures)

pub returns-in-None : goal.returns-in-None
returns-in-None g c =
    let is : None ≡ bit_text c.args.code c.args.bit = c.in-None.ensures.name in
    let few : length c.format.result.now ≤ 2 =
    subst (λ (digits : List ℕ). length digits ≤ 2) (sym c.format.ensures.text)
    (length-decimal-le 2 c.args.bit (omega arith) (omega (arith, c.requires.few))
    (omega (arith, c.requires.few))) in
    called (ap (λ (digits : List ℕ). codes "bit" ++ digits) c.format.ensures.text
    ∙ ap (λ (found : Option (List ℕ)). named_bit found c.args.bit) is)
    (at_most 17 (omega (arith, few)) (then c.append-in-None.ensures c.append-in-None-2.ensures))
