-- What the code does to the bytes of a register, and what contracts see of one.
use Rattle.std.specs.Prelude.{ℕ, ◌≤◌, List, length, map}
use Rattle.std.specs.Int.Bits.{bit_or}
use Rattle.pmb_registers.specs.declared.change.Change.{Change}
use Rattle.pmb_registers.specs.declared.change.Change.TheVariants.{Take, ClearBits, ClearEach, SetBits}
use Rattle.pmb_registers.specs.declared.register.Register.{Register}
use Rattle.pmb_registers.specs.State.{RegisterData}
use Rattle.pmb_registers.specs.Apply.{cleared_bits}

abbrev pub register_data : Register → RegisterData
register_data r = record { code = r.code; page = r.page; bytes = r.bytes.items }

-- the bytes after a change
abbrev pub change_of : Change → List ℕ → List ℕ
change_of (Take bytes) old = bytes.now
change_of (ClearBits written) old = cleared_bits written.now old
change_of ClearEach old = map (λ byte. 0) old
change_of (SetBits mask) old = map (λ byte. bit_or byte mask) old

-- a register has room for the bytes that a change gives it
abbrev pub HasRoom : Change → Type 0
HasRoom (Take bytes) = length bytes.now ≤ 255
HasRoom (ClearBits written) = Unit {0}
HasRoom ClearEach = Unit {0}
HasRoom (SetBits mask) = Unit {0}
