-- The units of the standard commands (PMBus Part II).
use Rattle.std.specs.Prelude.{ℕ, ◌==◌, Option, List, [], ◌∷◌, codes, find, option_map}

-- A standard command's code, and the unit of its numbers.
pub record UnitRow : Type 0 where
  pub code : ℕ
  pub unit : List ℕ

-- a row, from its cells
abbrev pub row : ℕ → List ℕ → UnitRow
row code unit = record { code = code; unit = unit }

-- begin: written by tools/commands from docs/profiles.md

-- The standard commands whose numbers have a unit, in the order of their codes.
unfoldable pub unit_rows : List UnitRow
unit_rows =
    row 0x21 (codes "V")
    ∷ row 0x22 (codes "V")
    ∷ row 0x23 (codes "V")
    ∷ row 0x24 (codes "V")
    ∷ row 0x25 (codes "V")
    ∷ row 0x26 (codes "V")
    ∷ row 0x27 (codes "mV/us")
    ∷ row 0x28 (codes "mV/A")
    ∷ row 0x2b (codes "V")
    ∷ row 0x31 (codes "W")
    ∷ row 0x32 (codes "%")
    ∷ row 0x33 (codes "kHz")
    ∷ row 0x35 (codes "V")
    ∷ row 0x36 (codes "V")
    ∷ row 0x38 (codes "mOhm")
    ∷ row 0x39 (codes "A")
    ∷ row 0x40 (codes "V")
    ∷ row 0x42 (codes "V")
    ∷ row 0x43 (codes "V")
    ∷ row 0x44 (codes "V")
    ∷ row 0x46 (codes "A")
    ∷ row 0x48 (codes "V")
    ∷ row 0x4a (codes "A")
    ∷ row 0x4b (codes "A")
    ∷ row 0x4f (codes "degC")
    ∷ row 0x51 (codes "degC")
    ∷ row 0x52 (codes "degC")
    ∷ row 0x53 (codes "degC")
    ∷ row 0x55 (codes "V")
    ∷ row 0x57 (codes "V")
    ∷ row 0x58 (codes "V")
    ∷ row 0x59 (codes "V")
    ∷ row 0x5b (codes "A")
    ∷ row 0x5d (codes "A")
    ∷ row 0x5e (codes "V")
    ∷ row 0x5f (codes "V")
    ∷ row 0x60 (codes "ms")
    ∷ row 0x61 (codes "ms")
    ∷ row 0x62 (codes "ms")
    ∷ row 0x64 (codes "ms")
    ∷ row 0x65 (codes "ms")
    ∷ row 0x66 (codes "ms")
    ∷ row 0x68 (codes "W")
    ∷ row 0x6a (codes "W")
    ∷ row 0x6b (codes "W")
    ∷ row 0x88 (codes "V")
    ∷ row 0x89 (codes "A")
    ∷ row 0x8a (codes "V")
    ∷ row 0x8b (codes "V")
    ∷ row 0x8c (codes "A")
    ∷ row 0x8d (codes "degC")
    ∷ row 0x8e (codes "degC")
    ∷ row 0x8f (codes "degC")
    ∷ row 0x90 (codes "rpm")
    ∷ row 0x91 (codes "rpm")
    ∷ row 0x92 (codes "rpm")
    ∷ row 0x93 (codes "rpm")
    ∷ row 0x94 (codes "%")
    ∷ row 0x95 (codes "kHz")
    ∷ row 0x96 (codes "W")
    ∷ row 0x97 (codes "W")
    ∷ row 0xa0 (codes "V")
    ∷ row 0xa1 (codes "V")
    ∷ row 0xa2 (codes "A")
    ∷ row 0xa3 (codes "W")
    ∷ row 0xa4 (codes "V")
    ∷ row 0xa5 (codes "V")
    ∷ row 0xa6 (codes "A")
    ∷ row 0xa7 (codes "W")
    ∷ row 0xa8 (codes "degC")
    ∷ row 0xa9 (codes "degC")
    ∷ row 0xc0 (codes "degC")
    ∷ row 0xc1 (codes "degC")
    ∷ row 0xc2 (codes "degC")
    ∷ []

-- end

-- the unit of the standard command with a code, if it has one
abbrev pub standard_unit : ℕ → Option (List ℕ)
standard_unit code = option_map (λ r. r.unit) (find (λ r. r.code == code) unit_rows)
