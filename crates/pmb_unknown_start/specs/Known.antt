-- What is known of PAGE and VOUT_MODE of each device (PMBus Part II 1.3 sections 11.10 and 8), as
-- the transactions on a bus tell them, where the first of them may not be the first on the bus.
--
-- What is told, and what PAGE and VOUT_MODE are, is in `pmb_note`. A PAGE that is not known is one of
-- the device's pages, or ffh for all. A write that sets VOUT_MODE unseen (`Restores`) leaves it
-- untold, and a line that was dropped (`Past`) both. What is written at an address of a device's key `also` it
-- takes as if it came to its own (`Taken`). That what is known is so is in `Certain`.
use Rattle.std.specs.Prelude.{ℕ, Bool, true, false, not, ◌||◌, if◌then◌else◌, Option, Some, None, List, [], ◌∷◌, fold}
use Rattle.std.specs.Prelude.{length, map, nat_eq, nat_lt, replicate, slice_get, slice_set}
use Rattle.std.specs.List.{list_all}
use Rattle.std.specs.Option.{is_some}
use Rattle.pmb_command.specs.Parts.{DeviceParts, device_with}
use Rattle.pmb_transaction.specs.Transaction.{ReadData, TransactionData, Write, Read, Call, Refused, Alert, NoAlert}
use Rattle.pmb_note.specs.Paging.{RegisterTold, all_pages, has_paged_mode, page_code, told_by_part, vout_mode_code}
use Rattle.pmb_unknown_start.specs.declared.mode.KnownMode.{KnownMode}
use Rattle.pmb_unknown_start.specs.declared.mode.KnownMode.TheVariants.{Known, Unknown, NoPage}
use Rattle.pmb_unknown_start.specs.declared.start.Start.{Start}
use Rattle.pmb_unknown_start.specs.declared.start.Start.TheVariants.{AllKnown, Late, LateFixedMode}
use Rattle.pmb_unknown_start.specs.Past.{PastData, Said, Dropped}
use Rattle.pmb_unknown_start.specs.Restores.{untells}
use Rattle.pmb_unknown_start.specs.Taken.{as_taken}

-- PAGE of a device, and the value of VOUT_MODE on each page, from page 0 on, where they are known.
pub record KnownPaging : Type 0 where
  pub page : Option ℕ
  pub modes : List (Option ℕ)

-- ---- what is known at first

-- late, PAGE is not known
abbrev pub first_page : Start → Option ℕ
first_page AllKnown = Some 0
first_page Late = None
first_page LateFixedMode = None

-- .. nor is VOUT_MODE on any page, unless it is fixed: then it is the one that the profile gives each page
abbrev pub first_modes : Start → DeviceParts → List (Option ℕ)
first_modes AllKnown device = map Some device.modes
first_modes Late device = replicate device.pages None
first_modes LateFixedMode device = map Some device.modes

abbrev pub first_known : Start → DeviceParts → KnownPaging
first_known start device = record { page = first_page start; modes = first_modes start device }

-- ---- what is learnt

-- A page of several has the mode that is told, or the one that it had: it stays known where these
-- are one.
abbrev pub kept_under : ℕ → Option ℕ → Option ℕ
kept_under mode None = None
kept_under mode (Some known) = if nat_eq known mode then Some known else None

-- VOUT_MODE is set where PAGE is not known: on the only page, of several on some page or on all
abbrev pub modes_somewhere : ℕ → List (Option ℕ) → List (Option ℕ)
modes_somewhere mode [] = []
modes_somewhere mode (only ∷ []) = Some mode ∷ []
modes_somewhere mode (first ∷ second ∷ others) = map (kept_under mode) (first ∷ second ∷ others)

-- VOUT_MODE is set: on all pages where PAGE selects all, else on the selected page, and nowhere
-- where the device has no such page
abbrev pub modes_after : ℕ → Option ℕ → List (Option ℕ) → List (Option ℕ)
modes_after mode None modes = modes_somewhere mode modes
modes_after mode (Some page) modes = if nat_eq page all_pages then replicate (length modes)
    (Some mode) else slice_set modes page (Some mode)

-- what is known of PAGE selects the pages that VOUT_MODE is set on, if there is one for each page,
-- and it is set on all if not
abbrev pub learn_mode : DeviceParts → ℕ → KnownPaging → KnownPaging
learn_mode device mode k = record {
  page = k.page;
  modes =
      modes_after mode (if has_paged_mode device then k.page else Some all_pages) k.modes;
}

-- a register is told to have a value of one byte
abbrev pub learn_value : DeviceParts → ℕ → ℕ → KnownPaging → KnownPaging
learn_value device code value k =
    if nat_eq code page_code then record { page = Some value; modes = k.modes }
    else if nat_eq code vout_mode_code then learn_mode device value k
    else k

-- .. or some bytes: PAGE and VOUT_MODE have one
abbrev pub learn_bytes : DeviceParts → ℕ → List ℕ → KnownPaging → KnownPaging
learn_bytes device code [] k = k
learn_bytes device code (value ∷ []) k = learn_value device code value k
learn_bytes device code (a ∷ b ∷ bytes) k = k

-- what is told of a device is learnt of that one alone
abbrev pub learn_told : DeviceParts → KnownPaging → RegisterTold → KnownPaging
learn_told device k t = if nat_eq t.addr device.address then learn_bytes device t.code t.bytes k else k

-- what a read tells
abbrev pub told_by_read : ReadData → RegisterTold
told_by_read t = record { addr = t.addr; code = t.code; bytes = t.reply }

-- ---- what is untold

-- VOUT_MODE is untold: late it is not known then on any page, and from another start its last value
-- goes on
abbrev pub forget_modes : Start → KnownPaging → KnownPaging
forget_modes AllKnown k = k
forget_modes Late k = record { page = k.page; modes = replicate (length k.modes) None }
forget_modes LateFixedMode k = k

-- a write tells what it wrote, and may leave VOUT_MODE untold
abbrev pub learn_written : Start → DeviceParts → KnownPaging → RegisterTold → KnownPaging
learn_written start device k t =
    if untells device.address t then forget_modes start (learn_told device k t) else learn_told device k t

-- What is known after a transaction: complete parts were written, those of a refused packet too, and
-- a read tells what was replied. A call tells nothing, and neither does an answer at the Alert
-- Response Address.
abbrev pub learn_transaction : Start → DeviceParts → KnownPaging → TransactionData → KnownPaging
learn_transaction start device k (Write parts) = fold (learn_written start device) k (map told_by_part parts)
learn_transaction start device k (Read t) = learn_told device k (told_by_read t)
learn_transaction start device k (Call t) = k
learn_transaction start device k (Refused t) = fold (learn_written start device) k (map told_by_part t.parts)
learn_transaction start device k (Alert t) = k
learn_transaction start device k NoAlert = k

-- ---- what was dropped

-- a PAGE of a device with so many VOUT_MODEs that is one of its pages, or all
abbrev pub own_page : List (Option ℕ) → Option ℕ → Option ℕ
own_page modes None = None
own_page modes (Some page) = if nat_lt page (length modes) || nat_eq page all_pages then Some page else None

-- A line was dropped, which may have set PAGE and VOUT_MODE: late they are not known then, but for a
-- VOUT_MODE that is fixed. From the first start both go on, but for a PAGE that the device lacks.
abbrev pub forget_paging : Start → KnownPaging → KnownPaging
forget_paging AllKnown k = record { page = own_page k.modes k.page; modes = k.modes }
forget_paging Late k = record { page = None; modes = replicate (length k.modes) None }
forget_paging LateFixedMode k = record { page = None; modes = k.modes }

-- ---- what is known after all

abbrev pub learn_past : Start → DeviceParts → KnownPaging → PastData → KnownPaging
learn_past start device k (Said t) = learn_transaction start device k t
learn_past start device k Dropped = forget_paging start k

-- what is known of a device after what it took
abbrev pub known_by : Start → DeviceParts → List PastData → KnownPaging
known_by start device past = fold (learn_past start device) (first_known start device) past

-- .. after what went before
abbrev pub known : Start → DeviceParts → List PastData → KnownPaging
known start device past = known_by start device (as_taken device past)

-- the first mode that is known
abbrev pub first_told : List (Option ℕ) → Option ℕ
first_told [] = None
first_told (Some mode ∷ modes) = Some mode
first_told (None ∷ modes) = first_told modes

-- a mode that is not known may be each
abbrev pub may_be : ℕ → Option ℕ → Bool
may_be mode None = true
may_be mode (Some known) = nat_eq mode known

-- of modes and the first that is known, by whether all are known
abbrev pub shared_by : List (Option ℕ) → Bool → Option ℕ → KnownMode
shared_by modes complete None = if complete then NoPage else Unknown
shared_by modes complete (Some mode) = if not (list_all (may_be mode) modes) then NoPage else if complete then Known
    mode else Unknown

-- the mode that all pages share: none where two are known to differ, and else not known where some
-- mode is not
abbrev pub shared_mode : List (Option ℕ) → KnownMode
shared_mode modes = shared_by modes (list_all is_some modes) (first_told modes)

-- any page may be selected, or all: a mode is known only where all share one
abbrev pub any_page : KnownMode → KnownMode
any_page (Known mode) = Known mode
any_page Unknown = Unknown
any_page NoPage = Unknown

-- the mode on a page, where the device has it
abbrev pub mode_on_page : Option (Option ℕ) → KnownMode
mode_on_page None = NoPage
mode_on_page (Some None) = Unknown
mode_on_page (Some (Some mode)) = Known mode

abbrev pub mode_under : Option ℕ → List (Option ℕ) → KnownMode
mode_under None modes = any_page (shared_mode modes)
mode_under (Some page) modes = if nat_eq page all_pages then shared_mode modes else mode_on_page (slice_get modes page)

-- the mode that an output voltage is to be read by, as far as it is known
abbrev pub known_mode : KnownPaging → KnownMode
known_mode k = mode_under k.page k.modes

-- .. of a device, if there is one, by what is known of each
abbrev pub mode_of : (DeviceParts → KnownPaging) → Option DeviceParts → KnownMode
mode_of now None = NoPage
mode_of now (Some device) = known_mode (now device)

-- .. of the device with an address
abbrev pub mode : Start → List DeviceParts → List PastData → ℕ → KnownMode
mode start profile past addr = mode_of (λ device. known start device past) (device_with addr profile)

-- PAGE of a device, if there is one, by what is known of each
abbrev pub page_of : (DeviceParts → KnownPaging) → Option DeviceParts → Option ℕ
page_of now None = None
page_of now (Some device) = (now device).page

-- .. of the device with an address
abbrev pub page : Start → List DeviceParts → List PastData → ℕ → Option ℕ
page start profile past addr = page_of (λ device. known start device past) (device_with addr profile)

-- ---- what is assumed

abbrev pub is_unknown : KnownMode → Bool
is_unknown (Known mode) = false
is_unknown Unknown = true
is_unknown NoPage = false

-- The mode of a device is assumed where it would not be known, had the capture begun in the middle.
abbrev pub is_assumed : List DeviceParts → List PastData → ℕ → Bool
is_assumed profile past addr = is_unknown (mode Late profile past addr)
