-- PAGE and VOUT_MODE of each device (PMBus Part II 1.3 sections 11.10 and 8), as the transactions on
-- a bus tell them.
use Rattle.std.specs.Prelude.{ℕ, Bool, false, not, ◌||◌, if◌then◌else◌, Option, Some, None, List, [], ◌∷◌, fold, length}
use Rattle.std.specs.Prelude.{map, nat_eq, nat_lt, option_and_then, option_map, replicate, slice_get, slice_set}
use Rattle.std.specs.List.{list_all}
use Rattle.pmb_command.specs.Parts.{CommandParts, DeviceParts, command_with, device_with}
use Rattle.pmb_transaction.specs.Transaction.{PartData, TransactionData, Write, Read, Call, Refused, Alert, NoAlert}

-- The page of a device that is selected, and the value of VOUT_MODE on each page, from page 0 on.
pub record PagingData : Type 0 where
  pub page : ℕ
  pub modes : List ℕ

-- ---- what is told

-- the value of a register, as a transaction tells it
pub record RegisterTold : Type 0 where
  pub addr : ℕ
  pub code : ℕ
  pub bytes : List ℕ

-- a complete part tells what it wrote
abbrev pub told_by_part : PartData → RegisterTold
told_by_part part = record { addr = part.addr; code = part.code; bytes = part.bytes }

-- What a transaction tells, in order: what its complete parts wrote, those of a refused packet too,
-- or what was read. The leg that was refused tells nothing, whatever was sent in it, and neither
-- does a call or an answer at the Alert Response Address.
abbrev pub told : TransactionData → List RegisterTold
told (Write parts) = map told_by_part parts
told (Read t) = record { addr = t.addr; code = t.code; bytes = t.reply } ∷ []
told (Call t) = []
told (Refused t) = map told_by_part t.parts
told (Alert t) = []
told NoAlert = []

-- ---- what it changes

abbrev pub page_code : ℕ
page_code = 0x00

abbrev pub vout_mode_code : ℕ
vout_mode_code = 0x20

-- the value of PAGE that selects all pages
abbrev pub all_pages : ℕ
all_pages = 0xff

abbrev pub is_paged : Option CommandParts → Bool
is_paged None = false
is_paged (Some command) = command.entry.paged

-- whether the device has a VOUT_MODE for each page
abbrev pub has_paged_mode : DeviceParts → Bool
has_paged_mode device = is_paged (command_with vout_mode_code device.commands)

-- VOUT_MODE is set: on all pages where PAGE selects all or there is one for all, else on the
-- selected page, and nowhere where the device has no such page.
abbrev pub with_mode : DeviceParts → ℕ → PagingData → PagingData
with_mode device mode p =
    if not (has_paged_mode device) || nat_eq p.page all_pages then record {
      page = p.page;
      modes =
          replicate (length p.modes) mode;
    }
    else if nat_lt p.page (length p.modes) then record { page = p.page; modes = slice_set p.modes p.page mode }
    else p

-- a register is told to have a value of one byte
abbrev pub after_value : DeviceParts → ℕ → ℕ → PagingData → PagingData
after_value device code value p =
    if nat_eq code page_code then record { page = value; modes = p.modes }
    else if nat_eq code vout_mode_code then with_mode device value p
    else p

-- .. or some bytes: PAGE and VOUT_MODE have one
abbrev pub after_bytes : DeviceParts → ℕ → List ℕ → PagingData → PagingData
after_bytes device code [] p = p
after_bytes device code (value ∷ []) p = after_value device code value p
after_bytes device code (a ∷ b ∷ bytes) p = p

-- what is told of a device changes that one alone
abbrev pub after_told : DeviceParts → PagingData → RegisterTold → PagingData
after_told device p t = if nat_eq t.addr device.address then after_bytes device t.code t.bytes p else p

abbrev pub after_transaction : DeviceParts → PagingData → TransactionData → PagingData
after_transaction device p t = fold (after_told device) p (told t)

-- ---- after all

-- at first PAGE is 0, and VOUT_MODE of each page is the one that the profile gives that page
abbrev pub first_paging : DeviceParts → PagingData
first_paging device = record { page = 0; modes = device.modes }

-- a device's PAGE and VOUT_MODE after transactions
abbrev pub paging : DeviceParts → List TransactionData → PagingData
paging device ts = fold (after_transaction device) (first_paging device) ts

-- the one number that all are
abbrev pub common : List ℕ → Option ℕ
common [] = None
common (n ∷ ns) = if list_all (nat_eq n) ns then Some n else None

-- The VOUT_MODE of the selected page, where the device has it; where all pages are selected the one
-- that they share, if they do.
abbrev pub selected_mode : PagingData → Option ℕ
selected_mode p = if nat_eq p.page all_pages then common p.modes else slice_get p.modes p.page

-- the PAGE of the device with an address after transactions, and the VOUT_MODE of its selected page;
-- none where the profile has no such device
abbrev pub page : List DeviceParts → List TransactionData → ℕ → Option ℕ
page profile ts addr = option_map (λ device. (paging device ts).page) (device_with addr profile)

abbrev pub mode : List DeviceParts → List TransactionData → ℕ → Option ℕ
mode profile ts addr = option_and_then (λ device. selected_mode (paging device ts)) (device_with addr profile)
