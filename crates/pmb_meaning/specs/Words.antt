-- The fields of data, in words.
use Rattle.std.specs.Prelude.{ℕ, Bool, true, false, Option, Some, None, List, [], ◌∷◌, ◌++◌, codes, map}
use Rattle.std.specs.Fmt.{signed_decimal}
use Rattle.hex.specs.Hex.{encode_lower}
use Rattle.pmb_command.specs.Entry.{EntryParts}
use Rattle.pmb_command.specs.Parts.{DeviceParts}
use Rattle.pmb_json_text.specs.declared.item_order.ItemOrder.{ItemOrder}
use Rattle.pmb_json_text.specs.declared.item_order.ItemOrder.TheVariants.{First, Later}
use Rattle.pmb_meaning.specs.Data.{Exchange}
use Rattle.pmb_meaning.specs.Field.{Said, word, number, truth, words, masked, hex, SaidField}
use Rattle.pmb_meaning.specs.Meaning.{said_fields}
use Rattle.pmb_meaning.specs.Names.{RegisterNames, mask_names, names_of}

-- a text before each but the first
abbrev pub between : List ℕ → ItemOrder → List ℕ
between text First = []
between text Later = text

-- texts with a blank between each two
abbrev pub spaced : ItemOrder → List (List ℕ) → List ℕ
spaced place [] = []
spaced place (text ∷ more) = between (codes " ") place ++ (text ++ spaced Later more)

-- .. or `none`
abbrev pub listed : List (List ℕ) → List ℕ
listed [] = codes "none"
listed (text ∷ more) = spaced First (text ∷ more)

-- each byte by its two digits
abbrev pub byte_texts : List ℕ → List (List ℕ)
byte_texts all = map (λ byte. encode_lower (byte ∷ [])) all

abbrev pub truth_text : Bool → List ℕ
truth_text true = codes "true"
truth_text false = codes "false"

abbrev pub value_text : RegisterNames → Said → List ℕ
value_text names (word text) = text
value_text names (number n) = signed_decimal n
value_text names (truth holds) = truth_text holds
value_text names (words texts) = listed texts
value_text names (masked register byte) = listed (mask_names names register byte)
value_text names (hex all) = listed (byte_texts all)

-- a name, a blank and its value, with a comma and a blank before each but the first
abbrev pub field_words : RegisterNames → ItemOrder → SaidField → List ℕ
field_words names place f =
    between (codes ", ") place ++ (f.key ++ (codes " " ++ value_text names f.value))

abbrev pub fields_words : RegisterNames → ItemOrder → List SaidField → List ℕ
fields_words names place [] = []
fields_words names place (f ∷ more) = field_words names place f ++ fields_words names Later more

-- nothing if there are no fields
abbrev pub says_words : RegisterNames → Option (List SaidField) → List ℕ
says_words names None = []
says_words names (Some fields) = fields_words names First fields

-- what is said of the data of a device's command
abbrev pub says_words_of : DeviceParts → EntryParts → Exchange → List ℕ
says_words_of device e payload = says_words (names_of device) (said_fields e payload)
