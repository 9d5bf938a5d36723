-- The members that objects share: where an object begins and when, the part, the device, the command,
-- PAGE and PHASE. They can be written, and which keys they have. For the law `objects_are_json`, by Each.
-- PAGE, PHASE and the command's name are bytes, by what is seen of the device.
use Rattle.std.proofs.Common.{◌≡◌, ℕ, ◌<◌, Bool, true, false, nat_eq, nat_le, Option, Some, None, List, [], ◌∷◌}
use Rattle.std.proofs.Common.{◌++◌, codes, refl, arith}
use Rattle.std.specs.Prelude.{IfSome, option_and_then}
use Rattle.pmb_command.specs.Bus.{IsBus, IsDevice}
use Rattle.pmb_command.specs.Names.{IsDeviceName}
use Rattle.pmb_command.specs.Parts.{CommandParts, DeviceParts, device_with}
use Rattle.pmb_command_data.specs.Phases.{has_phases}
use Rattle.pmb_json_fields.specs.declared.basis.Basis.{Basis}
use Rattle.pmb_json_text.specs.Json.{string}
use Rattle.pmb_json_text.specs.Member.{Member, count, named}
use Rattle.pmb_json_text.specs.Spelling.{IsWritable}
use Rattle.pmb_json_text.specs.Json.{HasDistinctKeys}
use Rattle.pmb_json_objects.specs.Head.{Head}
use Rattle.pmb_json_objects.specs.Laws.{IsCount, IsHead, IsSeen, IsTime}
use Rattle.pmb_json_objects.specs.Members.{at_command, code_member, command_members, device_member, device_members}
use Rattle.pmb_json_objects.specs.Members.{entry_members, head_members, is_marked, kind_member, name_at, name_members}
use Rattle.pmb_json_objects.specs.Members.{page_members, page_mode_member, part_members, phase_member, selected_value, sent_command}
use Rattle.pmb_json_objects.specs.Members.{time_members, where_members}
use Rattle.pmb_json_objects.specs.Seen.{SeenData, page_at, page_basis_at, phase_at}
use Rattle.pmb_json_objects.proofs.Commands.{at_each, has_texts}
use Rattle.pmb_json_objects.proofs.Fine.{AreFine, DigitsAreNumbers, HasTexts, IsFine, are_bytes, fine_count}
use Rattle.pmb_json_objects.proofs.Fine.{fine_digits, fine_null, fine_of_both, fine_text, fine_word, of_either}
use Rattle.pmb_json_objects.proofs.Fine.{of_found, printed_bytes, tested_bytes}
use Rattle.pmb_json_objects.proofs.Keys.{HaveKeys, keys_of_either, tested, followed}

-- ---- the keys of each, in the order of all

abbrev pub head_keys : List (List ℕ)
head_keys = codes "at" ∷ codes "line" ∷ codes "column" ∷ codes "time" ∷ codes "kind" ∷ []

abbrev pub part_keys : List (List ℕ)
part_keys = codes "part" ∷ codes "parts" ∷ []

abbrev pub name_keys : List (List ℕ)
name_keys = codes "device" ∷ codes "name" ∷ []

abbrev pub command_keys : List (List ℕ)
command_keys = codes "code" ∷ codes "command" ∷ codes "page" ∷ codes "page_mode" ∷ codes "phase" ∷ []

-- ---- a device

fine_name : (name : Option (List ℕ)) → IfSome name IsDeviceName → AreFine (name_members name)
fine_name None is = tt
fine_name (Some name) is = (fine_text (codes "name") name refl (printed_bytes name is.printable), tt)

fine_name_of : (o : Option DeviceParts) → IfSome o IsDevice
    → AreFine (name_members (option_and_then (λ device. device.name) o))
fine_name_of None is = tt
fine_name_of (Some device) is = fine_name device.name is.name

pub fine_device : (profile : List DeviceParts) (addr : ℕ) → IsBus profile → AreFine (device_members profile addr)
fine_device profile addr bus = (
  fine_digits (codes "device") (addr ∷ []) refl,
  fine_name_of (device_with addr profile)
      (of_found IsDevice (λ d. nat_eq d.address addr) profile bus.devices),
)

module _ (numbers : DigitsAreNumbers) where
  -- ---- where an object begins

  fine_time : (time : Option (List ℕ)) → IsTime time → AreFine (time_members time)
  fine_time None is = tt
  fine_time (Some time) is = (fine_text (codes "time") time refl is, tt)

  pub fine_head : (head : Head) (kind : List ℕ) → IsHead head → are_bytes kind ≡ true → AreFine (head_members head kind)
  fine_head head kind is plain = (
    fine_count numbers (codes "at") head.at refl is.at,
    (
      fine_count numbers (codes "line") head.place.line refl is.place.line,
      (
        fine_count numbers (codes "column") head.place.column refl is.place.column,
        fine_of_both (time_members head.time) (kind_member kind) (fine_time head.time is.time)
            (fine_word (codes "kind") kind refl plain, tt),
      ),
    ),
  )

  pub fine_part : (part parts : ℕ) → IsCount part → IsCount parts → AreFine (part_members part parts)
  fine_part part parts few many =
      of_either AreFine (nat_le parts 1) [] (named (codes "part") (count part) ∷ named (codes "parts") (count parts)
      ∷ []) tt
      (fine_count numbers (codes "part") part refl few, (fine_count numbers (codes "parts") parts refl many, tt))

  -- ---- a command

  fine_number : (key : List ℕ) (n : ℕ) → are_bytes key ≡ true → n < 256
      → IsFine (named key (selected_value (Some n)))
  fine_number key n plain small = record {
    key = tested_bytes key plain;
    value = of_either IsWritable (nat_eq n 0xff) (string (codes "all")) (count n)
        (tested_bytes (codes "all") refl) (numbers n (omega arith));
    flat = of_either HasDistinctKeys (nat_eq n 0xff) (string (codes "all")) (count n) tt tt;
  }

  fine_selected : (key : List ℕ) (selected : Option ℕ) → are_bytes key ≡ true → IfSome selected (λ n. n < 256)
      → IsFine (named key (selected_value selected))
  fine_selected key None plain small = fine_null key plain
  fine_selected key (Some n) plain small = fine_number key n plain small

  fine_page_mode : (page : Option ℕ) (basis : Basis) (pages : ℕ) → AreFine (page_mode_member page basis pages)
  fine_page_mode page basis pages = of_either AreFine (is_marked page basis pages)
      (named (codes "page_mode") (string (codes "assumed")) ∷ []) []
      (fine_word (codes "page_mode") (codes "assumed") refl refl, tt) tt

  fine_page : (paged : Bool) (page : Option ℕ) (basis : Basis) (pages : ℕ) → IfSome page (λ n. n < 256)
      → AreFine (page_members paged page basis pages)
  fine_page false page basis pages small = tt
  fine_page true page basis pages small =
      (fine_selected (codes "page") page refl small, fine_page_mode page basis pages)

  fine_phase : (phased : Bool) (phase : Option ℕ) → IfSome phase (λ n. n < 256) → AreFine (phase_member phased phase)
  fine_phase false phase small = tt
  fine_phase true phase small = (fine_selected (codes "phase") phase refl small, tt)

  fine_entry : (page : Option ℕ) (basis : Basis) (phase : Option ℕ) (device : DeviceParts) (c : CommandParts)
      → IfSome page (λ n. n < 256) → IfSome phase (λ n. n < 256) → HasTexts c
      → AreFine (entry_members page basis phase device c)
  fine_entry page basis phase device c small few texts = (
    fine_text (codes "command") c.entry.name refl texts.name,
    fine_of_both (page_members c.entry.paged page basis device.pages) (phase_member (has_phases device c) phase)
        (fine_page c.entry.paged page basis device.pages small) (fine_phase (has_phases device c) phase few),
  )

  pub fine_command : (seen : SeenData) (addr code : ℕ) → IsSeen seen addr → AreFine (command_members seen addr code)
  fine_command seen addr code is = (
    fine_digits (codes "code") (code ∷ []) refl,
    at_each AreFine tt (entry_members (page_at seen addr) (page_basis_at seen addr) (phase_at seen addr)) seen addr code
        (λ device c here there. fine_entry (page_at seen addr) (page_basis_at seen addr) (phase_at seen addr) device c
        is.page is.phase
        (has_texts seen addr device here code c there is.bus)),
  )

  pub fine_sent_command : (seen : SeenData) (addr : ℕ) (sent : List ℕ) → IsSeen seen addr
      → AreFine (sent_command seen addr sent)
  fine_sent_command seen addr [] is = tt
  fine_sent_command seen addr (code ∷ bytes) is = fine_command seen addr code is

-- ---- keys

keys_of_time : (time : Option (List ℕ)) → HaveKeys (time_members time) (codes "time" ∷ [])
keys_of_time None = tested [] (codes "time" ∷ []) refl
keys_of_time (Some time) = tested _ (codes "time" ∷ []) refl

pub keys_of_head : (head : Head) (kind : List ℕ) → HaveKeys (head_members head kind) head_keys
keys_of_head head kind =
    followed (where_members head.at head.place) (time_members head.time ++ kind_member kind)
    (codes "at" ∷ codes "line" ∷ codes "column" ∷ []) (codes "time" ∷ codes "kind" ∷ []) (tested _ _ refl)
    (followed (time_members head.time) (kind_member kind) (codes "time" ∷ []) (codes "kind" ∷ [])
    (keys_of_time head.time) (tested _ _ refl))

keys_of_name : (name : Option (List ℕ)) → HaveKeys (name_members name) (codes "name" ∷ [])
keys_of_name None = tested [] (codes "name" ∷ []) refl
keys_of_name (Some name) = tested _ (codes "name" ∷ []) refl

pub keys_of_device : (profile : List DeviceParts) (addr : ℕ) → HaveKeys (device_members profile addr) name_keys
keys_of_device profile addr = followed (device_member addr) (name_members (name_at profile addr))
    (codes "device" ∷ []) (codes "name" ∷ []) (tested _ _ refl) (keys_of_name (name_at profile addr))

pub keys_of_part : (part parts : ℕ) → HaveKeys (part_members part parts) part_keys
keys_of_part part parts = keys_of_either (nat_le parts 1) []
    (named (codes "part") (count part) ∷ named (codes "parts") (count parts) ∷ []) part_keys (tested [] part_keys refl)
    (tested _ part_keys refl)

keys_of_page_mode : (page : Option ℕ) (basis : Basis) (pages : ℕ)
    → HaveKeys (page_mode_member page basis pages) (codes "page_mode" ∷ [])
keys_of_page_mode page basis pages = keys_of_either (is_marked page basis pages)
    (named (codes "page_mode") (string (codes "assumed")) ∷ []) [] (codes "page_mode" ∷ [])
    (tested _ (codes "page_mode" ∷ []) refl) (tested [] (codes "page_mode" ∷ []) refl)

abbrev page_keys : List (List ℕ)
page_keys = codes "page" ∷ codes "page_mode" ∷ []

keys_of_page : (paged : Bool) (page : Option ℕ) (basis : Basis) (pages : ℕ)
    → HaveKeys (page_members paged page basis pages) page_keys
keys_of_page false page basis pages = tested [] page_keys refl
keys_of_page true page basis pages =
    followed (named (codes "page") (selected_value page) ∷ []) (page_mode_member page basis pages)
    (codes "page" ∷ []) (codes "page_mode" ∷ []) (tested _ (codes "page" ∷ []) refl)
    (keys_of_page_mode page basis pages)

keys_of_phase : (phased : Bool) (phase : Option ℕ) → HaveKeys (phase_member phased phase) (codes "phase" ∷ [])
keys_of_phase false phase = tested [] (codes "phase" ∷ []) refl
keys_of_phase true phase = tested _ (codes "phase" ∷ []) refl

abbrev entry_keys : List (List ℕ)
entry_keys = codes "command" ∷ codes "page" ∷ codes "page_mode" ∷ codes "phase" ∷ []

keys_of_entry : (page : Option ℕ) (basis : Basis) (phase : Option ℕ) (device : DeviceParts) (c : CommandParts)
    → HaveKeys (entry_members page basis phase device c) entry_keys
keys_of_entry page basis phase device c =
    let paged : List Member = page_members c.entry.paged page basis device.pages in
    let phased : List Member = phase_member (has_phases device c) phase in
    followed (named (codes "command") (string c.entry.name) ∷ []) (paged ++ phased) (codes "command" ∷ [])
    (codes "page" ∷ codes "page_mode" ∷ codes "phase" ∷ []) (tested _ (codes "command" ∷ []) refl)
    (followed paged phased page_keys (codes "phase" ∷ []) (keys_of_page c.entry.paged page basis device.pages)
    (keys_of_phase (has_phases device c) phase))

pub keys_of_command : (seen : SeenData) (addr code : ℕ) → HaveKeys (command_members seen addr code) command_keys
keys_of_command seen addr code =
    let members = entry_members (page_at seen addr) (page_basis_at seen addr) (phase_at seen addr) in
    followed (code_member code) (at_command seen addr code members) (codes "code" ∷ []) entry_keys
    (tested _ (codes "code" ∷ []) refl)
    (at_each (λ ms. HaveKeys ms entry_keys) (tested [] entry_keys refl) members seen addr code
    (λ device c here there.
    keys_of_entry (page_at seen addr) (page_basis_at seen addr) (phase_at seen addr) device c))

pub keys_of_sent_command : (seen : SeenData) (addr : ℕ) (sent : List ℕ)
    → HaveKeys (sent_command seen addr sent) command_keys
keys_of_sent_command seen addr [] = tested [] command_keys refl
keys_of_sent_command seen addr (code ∷ bytes) = keys_of_command seen addr code
