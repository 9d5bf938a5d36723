-- What a device needs that keeps to WRITE_PROTECT (PMBus Part II 1.3 section 11.1).
use Rattle.std.specs.Prelude.{ℕ, Bool, true, false, not, ◌&&◌, Option, Some, None, List, [], ◌∷◌, nat_eq}
use Rattle.std.specs.List.{list_any}
use Rattle.pmb_command.specs.declared.form.Form.TheVariants.{One}
use Rattle.pmb_command.specs.Fitting.{is_form, is_status_kind}
use Rattle.pmb_command.specs.Parts.{CommandParts, initial_on}

-- The bytes that WRITE_PROTECT may hold: 80h, 40h, 20h and 00h, one alone.
abbrev pub is_protection : List ℕ → Bool
is_protection [] = false
is_protection (byte ∷ []) = list_any (nat_eq byte) (0x80 ∷ 0x40 ∷ 0x20 ∷ 0x00 ∷ [])
is_protection (byte ∷ next ∷ bytes) = false

-- what it may begin with, where the profile says
abbrev pub is_first_protection : Option (List ℕ) → Bool
is_first_protection None = true
is_first_protection (Some bytes) = is_protection bytes

-- There is the command: a byte that is written and read, one for all pages, and no status bits.
abbrev pub can_protect : Option CommandParts → Bool
can_protect None = false
can_protect (Some c) =
    is_form One c.entry.shape.write
    && (is_form One c.entry.shape.read
    && (not c.entry.paged
    && not (is_status_kind c.entry.kind)))

-- the command, where there is one, begins with one of the four bytes, if the profile says with what
abbrev pub begins_protected : Option CommandParts → Bool
begins_protected None = true
begins_protected (Some c) = is_first_protection (initial_on 0 c.initial)
