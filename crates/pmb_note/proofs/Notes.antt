-- A note by what a context keeps is the note after the transactions that it was given. For
-- `Context::note`, `append_note` and `append_command`. A note depends on the profile and on each device's VOUT_MODE
-- alone, and the context keeps the mode that the transactions selected.
use Rattle.std.proofs.Common.{◌≡◌, ℕ, Result, Ok, Err, Option, Some, None, List, [], ◌∷◌, ◌++◌, codes, map, slice_get}
use Rattle.std.proofs.Common.{option_map, refl, sym, ap, ◌∙◌}
use Rattle.std.specs.List.{flat_map}
use Rattle.std.specs.Option.{option_and_then}
use Rattle.std.specs.Prelude.{IsOk, MatchResult}
use Rattle.std.specs.Str.{IsUtf8}
use Rattle.pmb_command.specs.Entry.{EntryParts}
use Rattle.pmb_command.specs.Parts.{CommandParts, DeviceParts, command_with, device_with}
use Rattle.pmb_transaction.specs.Transaction.{PartData, TransactionData, Write, Read, Call, Refused, Alert, NoAlert}
use Rattle.pmb_note.specs.Paging.{mode, paging, selected_mode}
use Rattle.pmb_note.specs.Note.{command_text, joined, note, of_command, of_device, part_text_before, part_text}
use Rattle.pmb_note.specs.Note.{refused_text, text_under, value_text}
use Rattle.pmb_note.specs.declared.context.Context.{Context}
use Rattle.pmb_note.specs.machine.Standing.{HasSeen, mode_in}

-- functions that agree make the same lists
same_map : {A B : Type 0} (f g : A → B) → ((x : A) → f x ≡ g x) → (xs : List A) → map f xs ≡ map g xs
same_map f g same [] = refl
same_map f g same (x ∷ xs) =
    let here : f x ≡ g x = same x in
    let later : map f xs ≡ map g xs = same_map f g same xs in
    cc (here, later)

same_flat_map : {A B : Type 0} (f g : A → List B) → ((x : A) → f x ≡ g x) → (xs : List A)
    → flat_map f xs ≡ flat_map g xs
same_flat_map f g same [] = refl
same_flat_map f g same (x ∷ xs) =
    let here : f x ≡ g x = same x in
    let later : flat_map f xs ≡ flat_map g xs = same_flat_map f g same xs in
    cc (here, later)

module _ (profile : List DeviceParts) (f g : ℕ → Option ℕ) (same : (addr : ℕ) (device : DeviceParts)
    → device_with addr profile ≡ Some device → f addr ≡ g addr) where
  command_at : (addr code : ℕ) (bytes : List ℕ) (known : Option DeviceParts) → device_with addr profile ≡ known
      → of_device (λ device entry. value_text (f addr) device entry bytes) code known
      ≡ of_device (λ device entry. value_text (g addr) device entry bytes) code known
  command_at addr code bytes None is = refl
  command_at addr code bytes (Some device) is =
      ap (λ (m : Option ℕ). of_command (λ (entry : EntryParts). value_text m device entry bytes)
      (command_with code device.commands)) (same addr device is)

  same_command : (addr code : ℕ) (bytes : List ℕ) → command_text profile f addr code bytes
      ≡ command_text profile g addr code bytes
  same_command addr code bytes = command_at addr code bytes (device_with addr profile) refl

  same_part : (part : PartData) → part_text profile f part ≡ part_text profile g part
  same_part part = same_command part.addr part.code part.bytes

  same_before : (part : PartData) → part_text_before profile f part ≡ part_text_before profile g part
  same_before part = ap (λ (text : List ℕ). text ++ codes " + ") (same_part part)

  same_text : (t : TransactionData) → text_under profile f t ≡ text_under profile g t
  same_text (Write parts) = ap joined (same_map (part_text profile f) (part_text profile g) same_part parts)
  same_text (Read t) = same_command t.addr t.code t.reply
  same_text (Call t) = refl
  same_text (Refused t) = ap (λ (text : List ℕ). text ++ refused_text t.sent t.at_read)
      (same_flat_map (part_text_before profile f) (part_text_before profile g) same_before t.parts)
  same_text (Alert t) = refl
  same_text NoAlert = refl

module _ (context : Context) (profile : List DeviceParts) (ts : List TransactionData)
    (seen : HasSeen context profile ts) where
  kept_mode_is : (addr : ℕ) (device : DeviceParts) → device_with addr profile ≡ Some device
      → mode_in context addr ≡ mode profile ts addr
  kept_mode_is addr device known =
      let kept : slice_get context.pagings.items addr ≡ Some (paging device ts) = seen.kept.each addr device known in
      let left : mode_in context addr ≡ selected_mode (paging device ts) = ap (option_and_then selected_mode) kept in
      let right : mode profile ts addr ≡ selected_mode (paging device ts) =
      ap (option_and_then (λ (d : DeviceParts). selected_mode (paging d ts))) known in
      cc (left, right)

  pub note_is : (t : TransactionData) → text_under context.profile.now (mode_in context) t ≡ note profile ts t
  note_is t =
      ap (λ (devices : List DeviceParts). text_under devices (mode_in context) t) seen.profile_is
      ∙ same_text profile (mode_in context) (mode profile ts) kept_mode_is t

-- what `from_utf8` takes
pub ok_from_text : {T E : Type 0} (result : Result T E) (bytes : List ℕ) (P : T → Type 0) (Q : E → Type 0)
    → MatchResult result P (λ e. ¬ (IsUtf8 bytes) × Q e) → IsUtf8 bytes → IsOk result
ok_from_text (Ok x) bytes P Q cases text = refl
ok_from_text (Err e) bytes P Q cases text = absurd (cases.0 text)

-- what is said of a command that was found by its entry
of_entry : (text : EntryParts → List ℕ) (entry : EntryParts) (o : Option CommandParts)
    → Some entry ≡ option_map (λ c. c.entry) o → of_command text o ≡ text entry
of_entry text entry None same = absurd (cc same)
of_entry text entry (Some command) same = let is : command.entry ≡ entry = cc same in ap text is

-- what is said of a command of a device: for `append_command`
pub of_known : (text : DeviceParts → EntryParts → List ℕ) (code : ℕ) (device : DeviceParts) (entry : EntryParts)
    (o : Option DeviceParts) → Some device ≡ o
    → Some entry ≡ option_map (λ c. c.entry) (command_with code device.commands)
    → of_device text code o ≡ text device entry
of_known text code device entry o known same =
    ap (of_device text code) (sym known) ∙ of_entry (text device) entry (command_with code device.commands) same
