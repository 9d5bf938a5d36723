-- The names of the bits that a mask has (PMBus Part II section 15, SMBALERT_MASK).
use Rattle.std.specs.Prelude.{ℕ, zero, suc, ◌/◌, ◌%◌, ◌^◌, ◌==◌, Bool, if◌then◌else◌, Option, Some, None, List, []}
use Rattle.std.specs.Prelude.{◌∷◌, ◌++◌, codes, decimal}
use Rattle.pmb_command.specs.Parts.{DeviceParts, NamedBit, command_with, named_bits}
use Rattle.pmb_command_data.specs.Bits.{bit_text_in}

-- by the code of each status register, its bits that have names of their own
abbrev pub RegisterNames : Type 0
RegisterNames = ℕ → List NamedBit

-- those that the profile gives the registers of a device
abbrev pub names_of : DeviceParts → RegisterNames
names_of device register = named_bits (command_with register device.commands)

abbrev pub is_set : ℕ → ℕ → Bool
is_set value bit = value / 2 ^ bit % 2 == 1

-- the name of a bit, or its number where it has none
abbrev pub named_bit : Option (List ℕ) → ℕ → List ℕ
named_bit (Some name) bit = name
named_bit None bit = codes "bit" ++ decimal bit

-- the name of a bit of a status register, where the mask has it
abbrev pub set_name : List NamedBit → ℕ → ℕ → ℕ → List (List ℕ)
set_name bits register mask bit =
    if is_set mask bit then named_bit (bit_text_in bits register bit) bit ∷ [] else []

-- the names of the set bits among the lowest, that many, from the highest down
abbrev pub set_names : List NamedBit → ℕ → ℕ → ℕ → List (List ℕ)
set_names bits register mask zero = []
set_names bits register mask (suc bit) = set_name bits register mask bit ++ set_names bits register mask bit

-- the names of the bits that a byte has of a register
abbrev pub mask_names : RegisterNames → ℕ → ℕ → List (List ℕ)
mask_names names register mask = set_names (names register) register mask 8
