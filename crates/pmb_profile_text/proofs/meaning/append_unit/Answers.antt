use Rattle.std.proofs.Common.{◌≡◌, ◌∙◌, ◌++◌, Bor, List, ℕ, Option, false, ap, codes, option_map, replicate, sym}
use Rattle.pmb_command.specs.Entry.{EntryParts, entry_parts}
use Rattle.pmb_profile_text.specs.Table.{has_unit, note_line, space, unit_line}
use Rattle.pmb_profile_text.proofs.Names.{shown_unit}
use Rattle.pmb_profile_text.proofs.Texts.{then}
use Rattle.pmb_profile_text.proofs.meaning.append_unit.Goals as goal

pub returns-then-not-has_unit-clause-text : goal.returns-then-not-has_unit-clause-text
returns-then-not-has_unit-clause-text c =
    let start = c.args.lines.now.items in
    let entry : EntryParts = entry_parts c.args.entry.now in
    let unit = c.in-Some.unit.now in
    let before = c.append.new.row.items in
    let other : has_unit entry unit ≡ false = sym c.has_unit.ensures ∙ c.if-not-has_unit.true in
    let word : c.append-then-not-has_unit.new.row.items ≡ before ++ unit = c.append-then-not-has_unit.ensures
    ∙ ap (λ (w : List ℕ). before ++ w) c.as_bytes.ensures.value in
    let text : c.append-then-not-has_unit-2.new.row.items ≡ start ++ note_line (codes "unit " ++ unit) =
    then start _ _ (replicate 62 space) _ c.append_spaces.ensures.text
    (then _ _ _ _ (codes "\n") (then _ _ _ (codes "unit ") _ c.append.ensures word)
    c.append-then-not-has_unit-2.ensures) in
    let line = ap (λ (o : Option (Bor (List ℕ))). unit_line entry (option_map (λ u. u.now) o)) c.in-Some.is
    ∙ shown_unit entry unit other in
    text ∙ sym (ap (λ (t : List ℕ). start ++ t) line)
