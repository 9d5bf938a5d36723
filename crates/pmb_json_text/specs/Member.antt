-- Lists of members and of values, as they are written one after the other.
use Rattle.std.specs.Prelude.{◌≡◌, ◌⊎◌, ℕ, ◌&&◌, not, nat_le, Bool, true, List, [], ◌∷◌, ◌++◌, length, codes, decimal}
use Rattle.std.specs.Str.{bytes_eq}
use Rattle.std.specs.List.{AllByRecursion}
use Rattle.hex.specs.Hex.{encode_lower}
use Rattle.pmb_json_text.specs.declared.item_order.ItemOrder.{ItemOrder}
use Rattle.pmb_json_text.specs.declared.item_order.ItemOrder.TheVariants.{Later}
use Rattle.pmb_json_text.specs.Json.{Json, number, string, array, object, Items, no_items, item, Members, no_members}
use Rattle.pmb_json_text.specs.Json.{member}
use Rattle.pmb_json_text.specs.Spelling.{is_plain, quoted, comma, spelled, spelled_items, spelled_members, AreBytes}
use Rattle.pmb_json_text.specs.Spelling.{IsWritable}

-- a key with its value
pub record Member : Type 0 where
  pub key : List ℕ
  pub value : Json

abbrev pub named : List ℕ → Json → Member
named key value = record { key = key; value = value }

abbrev pub members_of : List Member → Members
members_of [] = no_members
members_of (m ∷ more) = member m.key m.value (members_of more)

abbrev pub items_of : List Json → Items
items_of [] = no_items
items_of (value ∷ more) = item value (items_of more)

-- the object of these members, and the array of these values, in this order
abbrev pub object_of : List Member → Json
object_of members = object (members_of members)

abbrev pub array_of : List Json → Json
array_of values = array (items_of values)

-- a whole number, and bytes as a string of two digits each
abbrev pub count : ℕ → Json
count n = number (decimal n)

abbrev pub digits : List ℕ → Json
digits bytes = string (encode_lower bytes)

-- ---- what is written

-- members, the first of them in this place
unfoldable pub members_text : ItemOrder → List Member → List ℕ
members_text place members = spelled_members place (members_of members)

-- values, the first of them in this place
unfoldable pub items_text : ItemOrder → List Json → List ℕ
items_text place values = spelled_items place (items_of values)

-- a key up to its value
abbrev pub key_text : ItemOrder → List ℕ → List ℕ
key_text place key = comma place ++ (quoted key ++ codes ":")

-- a key of an array up to its first value
abbrev pub array_text : ItemOrder → List ℕ → List ℕ
array_text place key = key_text place key ++ codes "["

-- the place of what comes after a list that began in a place
abbrev pub place_after : {A : Type 0} → ItemOrder → List A → ItemOrder
place_after place [] = place
place_after place (one ∷ more) = Later

-- an object on a line of its own
abbrev pub object_line : List Member → List ℕ
object_line members = spelled (object_of members) ++ codes "\n"

-- what can be written (IsWritable), each
abbrev pub AreWritable : List Member → Type 0
AreWritable members = AllByRecursion (λ m. AreBytes m.key × IsWritable m.value) members

-- ---- keys of the source

abbrev pub all_plain : List ℕ → Bool
all_plain [] = true
all_plain (byte ∷ more) = is_plain byte && all_plain more

-- a key that is written as it is: at most 16 bytes, all plain
abbrev pub is_key : List ℕ → Bool
is_key key = nat_le (length key) 16 && all_plain key

-- ---- distinct keys

-- keys with some left out, in the same order
abbrev pub IsPart : List (List ℕ) → List (List ℕ) → Type 0
IsPart some [] = some ≡ []
IsPart some (key ∷ all) = IsPart some all ⊎ ((rest : List (List ℕ)) × (some ≡ key ∷ rest) × IsPart rest all)

-- the test of keys that are known
abbrev pub is_absent : List ℕ → List (List ℕ) → Bool
is_absent key [] = true
is_absent key (other ∷ more) = not (bytes_eq key other) && is_absent key more

abbrev pub are_distinct : List (List ℕ) → Bool
are_distinct [] = true
are_distinct (key ∷ more) = is_absent key more && are_distinct more
