use Rattle.std.proofs.Common.{◌≡◌, ◌∙◌, ◌++◌, ◌≤◌, Bool, List, ℕ, Option, [], ap, length, option_map, sym}
use Rattle.std.specs.List.{flat_map}
use Rattle.std.specs.Option.{option_and_then}
use Rattle.pmb_command.specs.Entry.{EntryParts, entry_parts}
use Rattle.pmb_command.specs.Names.{IsUnit}
use Rattle.pmb_command.specs.Parts.{CommandParts, NamedBit, is_phased, named_bits}
use Rattle.pmb_profile_text.specs.Table.{bit_line, phased_line, unit_line}
use Rattle.pmb_profile_text.proofs.Names.{follows_of}
use Rattle.pmb_profile_text.proofs.Texts.{then}
use Rattle.pmb_profile_text.proofs.meaning.meaning_lines.Goals as goal

-- a unit has 16 characters at most
pub append_unit-requires-clause-short : goal.append_unit-requires-clause-short
append_unit-requires-clause-short c =
    follows_of (λ unit. IsUnit unit.now) (λ unit. length unit.now ≤ 16) c.unit.result (λ unit is. is.most)
    c.unit.ensures.accepted

-- the lines of the unit, of the bits, and of phases, one after the other
pub returns : goal.returns
returns c = λ command is same.
    let entry : EntryParts = entry_parts c.args.entry.now in
    let t0 = c.append_unit.new.lines.items in
    let t1 = c.append_bits.new.lines.items in
    let t2 = c.append_phased.new.lines.items in
    let unit = c.unit.ensures.unit ∙ ap (option_and_then (λ (x : CommandParts). x.unit)) is in
    let bits = c.bits.ensures.bits ∙ ap named_bits is in
    let phased = c.is_phased.ensures ∙ ap is_phased is in
    let e0 : t0 ≡ unit_line command.entry command.unit = c.append_unit.ensures.text
    ∙ (ap (λ (t : List ℕ). t ++ unit_line entry (option_map (λ u. u.now) c.unit.result)) c.new-lines.ensures
    ∙ (ap (λ (u : Option (List ℕ)). unit_line entry u) unit
    ∙ ap (λ (e : EntryParts). unit_line e command.unit) (sym same))) in
    let e1 : t1 ≡ t0 ++ flat_map bit_line command.bits = c.append_bits.ensures.text
    ∙ ap (λ (bs : List NamedBit). t0 ++ flat_map bit_line bs) bits in
    let e2 : t2 ≡ t1 ++ phased_line command.phased = c.append_phased.ensures.text
    ∙ ap (λ (p : Bool). t1 ++ phased_line p) phased in
    then [] t0 t2 _ _ e0 (then t0 t1 t2 _ _ e1 e2)
