-- Names and units have few characters, and the lines of bits and units: for the functions of
-- `src/meaning.rt`.
use Rattle.std.proofs.Common.{◌≡◌, ◌≤◌, ◌<◌, ◌+◌, ◌++◌, ◌∷◌, ◌∙◌, ℕ, true, false, ◌&&◌, List, length, nat_le, drop}
use Rattle.std.proofs.Common.{get_or, Option, Some, None, ap, sym, refl}
use Rattle.std.specs.Prelude.{IfSome, codes}
use Rattle.std.specs.List.{list_all}
use Rattle.std.proofs.lemmas.Bool.{and_parts, leb-true}
use Rattle.std.proofs.lemmas.List.{drop_more}
use Rattle.pmb_command.specs.Entry.{EntryParts}
use Rattle.pmb_command.specs.Names.{is_name, is_name_byte}
use Rattle.pmb_keys.specs.declared.command.NamedBit.{NamedBit as CodeBit}
use Rattle.pmb_profile_text.specs.Table.{has_unit, note_line, unit_line}

-- a name has 32 at most
pub short_name : (text : List ℕ) → is_name text ≡ true → length text ≤ 32
short_name text is =
    let lengths = nat_le 1 (length text) && nat_le (length text) 32 in
    leb-true (length text) 32
    (and_parts (nat_le 1 (length text)) (nat_le (length text) 32) (and_parts lengths (list_all is_name_byte text) is).0).1

-- what follows from what holds of an item that may be there
pub follows_of : {X : Type 0} (P Q : X → Type 0) (o : Option X) → ((x : X) → P x → Q x) → IfSome o P → IfSome o Q
follows_of P Q (Some x) follows holds = follows x holds
follows_of P Q None follows holds = tt

-- the bits from a place on are the one there and those after it
pub next_bit : (bits : List CodeBit) (i : ℕ) (b : CodeBit) → i < length bits → b ≡ get_or bits i b
    → drop i bits ≡ b ∷ drop (i + 1) bits
next_bit bits i b within is = drop_more bits i b within ∙ ap (λ (x : CodeBit). x ∷ drop (i + 1) bits) (sym is)

-- a unit that a command with this code and kind has by the key alone has a line
pub shown_unit : (e : EntryParts) (unit : List ℕ) → has_unit e unit ≡ false
    → unit_line e (Some unit) ≡ note_line (codes "unit " ++ unit)
shown_unit e unit other = rw other refl
