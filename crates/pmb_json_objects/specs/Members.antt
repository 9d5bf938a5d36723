-- The members that objects share.
use Rattle.std.specs.Prelude.{ℕ, Bool, true, false, if◌then◌else◌, nat_eq, nat_le, nat_lt, Option, Some, None, List, [], ◌∷◌}
use Rattle.std.specs.Prelude.{◌++◌, codes, option_and_then}
use Rattle.pmb_command.specs.Parts.{CommandParts, DeviceParts, command_with, device_with}
use Rattle.pmb_command_data.specs.Phases.{has_phases}
use Rattle.pmb_json_fields.specs.declared.basis.Basis.{Basis}
use Rattle.pmb_json_fields.specs.declared.basis.Basis.TheVariants.{Told, Assumed}
use Rattle.pmb_json_text.specs.Json.{Json, null, string}
use Rattle.pmb_json_text.specs.Member.{Member, named, count, digits}
use Rattle.pmb_places.specs.declared.places.Place.{Place}
use Rattle.pmb_json_objects.specs.Head.{Head}
use Rattle.pmb_json_objects.specs.Seen.{SeenData, page_at, page_basis_at, phase_at}

-- where the object begins: the number of its first event, and the place of that one's word
abbrev pub where_members : ℕ → Place → List Member
where_members at place = named (codes "at") (count at) ∷ named (codes "line") (count place.line)
    ∷ named (codes "column") (count place.column) ∷ []

abbrev pub kind_member : List ℕ → List Member
kind_member kind = named (codes "kind") (string kind) ∷ []

-- the time of its packet, where one is known
abbrev pub time_members : Option (List ℕ) → List Member
time_members None = []
time_members (Some time) = named (codes "time") (string time) ∷ []

-- where it begins, when, and its kind
abbrev pub head_members : Head → List ℕ → List Member
head_members head kind = where_members head.at head.place ++ (time_members head.time ++ kind_member kind)

abbrev pub device_member : ℕ → List Member
device_member addr = named (codes "device") (digits (addr ∷ [])) ∷ []

-- the name that the profile gives the device with an address
abbrev pub name_at : List DeviceParts → ℕ → Option (List ℕ)
name_at profile addr = option_and_then (λ device. device.name) (device_with addr profile)

-- a name, where there is one
abbrev pub name_members : Option (List ℕ) → List Member
name_members None = []
name_members (Some name) = named (codes "name") (string name) ∷ []

-- a device of a profile, and its name
abbrev pub device_members : List DeviceParts → ℕ → List Member
device_members profile addr = device_member addr ++ name_members (name_at profile addr)

abbrev pub code_member : ℕ → List Member
code_member code = named (codes "code") (digits (code ∷ [])) ∷ []

-- the page or the phase that is selected, where it is known; ffh selects all
abbrev pub selected_value : Option ℕ → Json
selected_value None = null
selected_value (Some n) = if nat_eq n 0xff then string (codes "all") else count n

-- a page that is known, and assumed, is marked, of a device with several
abbrev pub is_marked : Option ℕ → Basis → ℕ → Bool
is_marked None basis pages = false
is_marked (Some page) Told pages = false
is_marked (Some page) Assumed pages = nat_lt 1 pages

abbrev pub page_mode_member : Option ℕ → Basis → ℕ → List Member
page_mode_member page basis pages =
    if is_marked page basis pages then named (codes "page_mode") (string (codes "assumed")) ∷ [] else []

-- of a paged command alone
abbrev pub page_members : Bool → Option ℕ → Basis → ℕ → List Member
page_members false page basis pages = []
page_members true page basis pages = named (codes "page") (selected_value page) ∷ page_mode_member page basis pages

-- of a command that has phases alone
abbrev pub phase_member : Bool → Option ℕ → List Member
phase_member false phase = []
phase_member true phase = named (codes "phase") (selected_value phase) ∷ []

-- a command's name, the page where it is paged, and the phase where the device has phases for it
abbrev pub entry_members : Option ℕ → Basis → Option ℕ → DeviceParts → CommandParts → List Member
entry_members page basis phase device c =
    named (codes "command") (string c.entry.name)
    ∷ page_members c.entry.paged page basis device.pages ++ phase_member (has_phases device c) phase

-- what is said of a device and a command of it, where the device has that one
abbrev pub of_command : (DeviceParts → CommandParts → List Member) → DeviceParts → Option CommandParts → List Member
of_command members device None = []
of_command members device (Some c) = members device c

-- .. where there is such a device
abbrev pub of_device_command : (DeviceParts → CommandParts → List Member) → Option DeviceParts → ℕ → List Member
of_device_command members None code = []
of_device_command members (Some device) code = of_command members device (command_with code device.commands)

-- .. of the command with a code of the device with an address
abbrev pub at_command : SeenData → ℕ → ℕ → (DeviceParts → CommandParts → List Member) → List Member
at_command seen addr code members = of_device_command members (device_with addr seen.profile) code

-- code, command, page and phase
abbrev pub command_members : SeenData → ℕ → ℕ → List Member
command_members seen addr code =
    code_member code
    ++ at_command seen addr code (entry_members (page_at seen addr) (page_basis_at seen addr) (phase_at seen addr))

-- .. of bytes that were sent, where there is a code
abbrev pub sent_command : SeenData → ℕ → List ℕ → List Member
sent_command seen addr [] = []
sent_command seen addr (code ∷ bytes) = command_members seen addr code

-- which part of how many; nothing where it is the only one
abbrev pub part_members : ℕ → ℕ → List Member
part_members part parts = if nat_le parts 1 then [] else named (codes "part") (count part)
    ∷ named (codes "parts") (count parts) ∷ []
