-- The one spelling of a value that is written: on one line, with blanks in strings alone, in ASCII.
use Rattle.std.specs.Prelude.{ℕ, ◌<◌, ◌≤◌, ◌==◌, ◌&&◌, not, nat_le, Bool, true, false, if◌then◌else◌, List, [], ◌∷◌}
use Rattle.std.specs.Prelude.{◌++◌, codes, ⊤}
use Rattle.std.specs.List.{AllByRecursion, flat_map}
use Rattle.hex.specs.Hex.{encode_lower}
use Rattle.pmb_json_text.specs.declared.item_order.ItemOrder.{ItemOrder}
use Rattle.pmb_json_text.specs.declared.item_order.ItemOrder.TheVariants.{First, Later}
use Rattle.pmb_json_text.specs.Json.{Json, null, boolean, number, string, array, object, Items, no_items, item, Members}
use Rattle.pmb_json_text.specs.Json.{no_members, member, IsNumber}

-- what a string has as it is: 20h to 7eh but `"` and `\`
abbrev pub is_plain : ℕ → Bool
is_plain byte = (nat_le 0x20 byte && nat_le byte 0x7e) && (not (byte == 0x22) && not (byte == 0x5c))

-- a byte in a string; one that is not plain by its number
abbrev pub escaped : ℕ → List ℕ
escaped byte = if is_plain byte then byte ∷ [] else codes "\\u00" ++ encode_lower (byte ∷ [])

abbrev pub all_escaped : List ℕ → List ℕ
all_escaped bytes = flat_map escaped bytes

abbrev pub quoted : List ℕ → List ℕ
quoted bytes = codes "\"" ++ (all_escaped bytes ++ codes "\"")

-- a comma stands before each but the first
abbrev pub comma : ItemOrder → List ℕ
comma First = []
comma Later = codes ","

abbrev mutual
  pub spelled : Json → List ℕ
  spelled null = codes "null"
  spelled (boolean true) = codes "true"
  spelled (boolean false) = codes "false"
  spelled (number digits) = digits
  spelled (string bytes) = quoted bytes
  spelled (array items) = codes "[" ++ (spelled_items First items ++ codes "]")
  spelled (object members) = codes "{" ++ (spelled_members First members ++ codes "}")

  pub spelled_items : ItemOrder → Items → List ℕ
  spelled_items place no_items = []
  spelled_items place (item value more) = comma place ++ (spelled value ++ spelled_items Later more)

  pub spelled_members : ItemOrder → Members → List ℕ
  spelled_members place no_members = []
  spelled_members place (member key value more) = comma place
      ++ (quoted key ++ (codes ":" ++ (spelled value ++ spelled_members Later more)))

-- printable ASCII alone: a line has it, and no control
abbrev pub FitsInLine : List ℕ → Type 0
FitsInLine text = AllByRecursion (λ c. (0x20 ≤ c) × (c ≤ 0x7e)) text

abbrev pub AreBytes : List ℕ → Type 0
AreBytes bytes = AllByRecursion (λ byte. byte < 256) bytes

-- What can be spelled so: its numbers are numbers, and the characters of its strings and keys are
-- below 256.
abbrev mutual
  pub IsWritable : Json → Type 0
  IsWritable null = ⊤
  IsWritable (boolean b) = ⊤
  IsWritable (number digits) = IsNumber digits
  IsWritable (string bytes) = AreBytes bytes
  IsWritable (array items) = ItemsAreWritable items
  IsWritable (object members) = MembersAreWritable members

  pub ItemsAreWritable : Items → Type 0
  ItemsAreWritable no_items = ⊤
  ItemsAreWritable (item value more) = IsWritable value × ItemsAreWritable more

  pub MembersAreWritable : Members → Type 0
  MembersAreWritable no_members = ⊤
  MembersAreWritable (member key value more) = AreBytes key × IsWritable value × MembersAreWritable more
