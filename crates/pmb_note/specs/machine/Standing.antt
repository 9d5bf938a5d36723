-- What a context keeps.
use Rattle.std.specs.Prelude.{◌≡◌, ℕ, Option, List, option_and_then, slice_get}
use Rattle.pmb_command.specs.Parts.{DeviceParts, device_with}
use Rattle.pmb_transaction.specs.ByAddress.{KeptByAddress}
use Rattle.pmb_transaction.specs.Transaction.{TransactionData}
use Rattle.pmb_note.specs.Paging.{PagingData, paging, selected_mode}
use Rattle.pmb_note.specs.declared.context.Context.{Context}

-- At the address of each device of an accepted profile its PAGE and VOUT_MODE are kept.
abbrev pub Keeps : List PagingData → List DeviceParts → (DeviceParts → PagingData) → Type 0
Keeps kept profile now = KeptByAddress kept profile now

-- A context of a profile keeps those.
pub record StandsSo (context : Context) (profile : List DeviceParts) (now : DeviceParts → PagingData) : Type 0 where
  pub profile_is : context.profile.now ≡ profile
  pub kept : Keeps context.pagings.items profile now

-- A context of a profile was given these transactions.
abbrev pub HasSeen : Context → List DeviceParts → List TransactionData → Type 0
HasSeen context profile ts = StandsSo context profile (λ device. paging device ts)

-- the VOUT_MODE that it keeps of the selected page at an address
abbrev pub mode_in : Context → ℕ → Option ℕ
mode_in context addr = option_and_then selected_mode (slice_get context.pagings.items addr)

-- what it keeps of the device with an address
abbrev pub paging_in : Context → ℕ → Option PagingData
paging_in context addr = option_and_then (λ _. slice_get context.pagings.items addr)
    (device_with addr context.profile.now)
