use Rattle.std.proofs.Common.{◌≡◌, ◌∙◌, ◌++◌, List, ℕ, ap, codes, replicate}
use Rattle.pmb_profile_text.specs.Table.{space}
use Rattle.pmb_profile_text.proofs.Texts.{then}
use Rattle.pmb_profile_text.proofs.meaning.append_bit.Goals as goal

pub returns-clause-text : goal.returns-clause-text
returns-clause-text c =
    let before = c.append-2.new.row.items in
    let name : c.append-3.new.row.items ≡ before ++ c.args.named.now.name.bytes = c.append-3.ensures
    ∙ ap (λ (w : List ℕ). before ++ w) (c.as_bytes.ensures.value ∙ c.as_str.ensures.value) in
    then c.args.lines.now.items _ _ (replicate 62 space) _ c.append_spaces.ensures.text
    (then _ _ _ _ (codes "\n") (then _ _ _ (codes "bit ") _ c.append.ensures
    (then _ _ _ _ _ c.append_number.ensures.text (then _ _ _ (codes ": ") _ c.append-2.ensures name)))
    c.append-4.ensures)
