-- What sets VOUT_MODE of a device to values that the bus doesn't show (PMBus Part II 1.3 sections 11
-- and 8). It goes by the code, whatever name a profile gives it.
use Rattle.std.specs.Prelude.{ℕ, Bool, false, ◌||◌, ◌&&◌, List, [], ◌∷◌, nat_eq}
use Rattle.pmb_note.specs.Paging.{RegisterTold, vout_mode_code}

-- RESTORE_DEFAULT_ALL, RESTORE_DEFAULT_CODE, RESTORE_USER_ALL and RESTORE_USER_CODE: the device takes
-- what it has stored
abbrev pub is_restore : ℕ → Bool
is_restore code = nat_eq code 0x12 || (nat_eq code 0x14 || (nat_eq code 0x16 || nat_eq code 0x18))

-- PAGE_PLUS_WRITE, whose data are a page, a command code, and what is written there
abbrev pub page_plus_write_code : ℕ
page_plus_write_code = 0x05

-- .. and the command is VOUT_MODE, or one of those with which the device takes what it has stored
abbrev pub sets_mode_on_page : List ℕ → Bool
sets_mode_on_page [] = false
sets_mode_on_page (page ∷ []) = false
sets_mode_on_page (page ∷ code ∷ bytes) = nat_eq code vout_mode_code || is_restore code

-- whether VOUT_MODE of a device is untold after a complete write with a code and these data
abbrev pub untells_mode : ℕ → List ℕ → Bool
untells_mode code bytes = is_restore code || (nat_eq code page_plus_write_code && sets_mode_on_page bytes)

-- .. after such a write to this device
abbrev pub untells : ℕ → RegisterTold → Bool
untells address t = nat_eq t.addr address && untells_mode t.code t.bytes
