-- The bytes that address a device, and the address at which alerts are answered.
use Rattle.std.specs.Prelude.{ℕ, ◌+◌, ◌*◌}

-- The byte that addresses a device (SMBus 3.0 section 6.5): the address, of seven bits, in bits 7 to
-- 1, and in bit 0 the direction, 0 for writing and 1 for reading.
abbrev pub write_address : ℕ → ℕ
write_address addr = 2 * addr

abbrev pub read_address : ℕ → ℕ
read_address addr = 2 * addr + 1

-- the Alert Response Address (SMBus 3.0 appendix C), which is read
abbrev pub alert_address : ℕ
alert_address = 0x0c
