-- The object that has the fields of data, as a member of another object.
use Rattle.std.specs.Prelude.{Option, Some, None, List, [], ◌∷◌, codes, map}
use Rattle.std.specs.Fmt.{signed_decimal}
use Rattle.pmb_command.specs.Entry.{EntryParts}
use Rattle.pmb_command.specs.Parts.{DeviceParts}
use Rattle.pmb_json_text.specs.Json.{Json, boolean, number as number_value, string}
use Rattle.pmb_json_text.specs.Member.{Member, array_of, digits, named, object_of}
use Rattle.pmb_meaning.specs.Data.{Exchange}
use Rattle.pmb_meaning.specs.Field.{Said, word, number, truth, words, masked, hex, SaidField}
use Rattle.pmb_meaning.specs.Meaning.{said_fields}
use Rattle.pmb_meaning.specs.Names.{RegisterNames, mask_names, names_of}

abbrev pub value_json : RegisterNames → Said → Json
value_json names (word text) = string text
value_json names (number n) = number_value (signed_decimal n)
value_json names (truth holds) = boolean holds
value_json names (words texts) = array_of (map string texts)
value_json names (masked register byte) = array_of (map string (mask_names names register byte))
value_json names (hex all) = digits all

abbrev pub field_member : RegisterNames → SaidField → Member
field_member names f = named f.key (value_json names f.value)

abbrev pub field_members : RegisterNames → List SaidField → List Member
field_members names fields = map (field_member names) fields

-- the object of some fields
abbrev pub says_object : RegisterNames → List SaidField → Json
says_object names fields = object_of (field_members names fields)

-- none if there are no fields
abbrev pub says_members : RegisterNames → Option (List SaidField) → List Member
says_members names None = []
says_members names (Some fields) = named (codes "says") (says_object names fields) ∷ []

-- what is said of the data of a device's command
abbrev pub says_members_of : DeviceParts → EntryParts → Exchange → List Member
says_members_of device e payload = says_members (names_of device) (said_fields e payload)
