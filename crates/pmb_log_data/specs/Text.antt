-- Bytes and lists in a sentence.
use Rattle.std.specs.Prelude.{ℕ, ◌-◌, Option, Some, None, List, [], ◌∷◌, ◌++◌, codes, length, replicate}
use Rattle.std.specs.List.{flat_map}
use Rattle.hex.specs.Hex.{encode_lower}
use Rattle.pmb_json_text.specs.declared.item_order.ItemOrder.{ItemOrder}
use Rattle.pmb_json_text.specs.declared.item_order.ItemOrder.TheVariants.{First, Later}

-- ---- columns

-- a text that may be missing
abbrev pub or_nothing : Option (List ℕ) → List ℕ
or_nothing None = []
or_nothing (Some text) = text

abbrev pub blanks : ℕ → List ℕ
blanks n = replicate n 0x20

-- a text at the left of so many columns, and at the right; a longer one takes what it needs
abbrev pub at_left : ℕ → List ℕ → List ℕ
at_left width text = text ++ blanks (width - length text)

abbrev pub at_right : ℕ → List ℕ → List ℕ
at_right width text = blanks (width - length text) ++ text

-- ---- bytes

-- its two digits
abbrev pub byte_digits : ℕ → List ℕ
byte_digits byte = encode_lower (byte ∷ [])

-- each after a blank
abbrev pub blank_and_digits : ℕ → List ℕ
blank_and_digits byte = codes " " ++ byte_digits byte

abbrev pub each_after_blank : List ℕ → List ℕ
each_after_blank bytes = flat_map blank_and_digits bytes

-- a blank between
abbrev pub bytes_says : List ℕ → List ℕ
bytes_says [] = codes "no bytes"
bytes_says (b ∷ bytes) = byte_digits b ++ each_after_blank bytes

-- what came before, where something did
abbrev pub after_says : List ℕ → List ℕ
after_says [] = []
after_says (b ∷ bytes) = codes " after" ++ each_after_blank (b ∷ bytes)

-- a byte after a blank, where there is one
abbrev pub byte_after_blank : Option ℕ → List ℕ
byte_after_blank None = []
byte_after_blank (Some byte) = blank_and_digits byte

-- ---- texts one after the other

-- something stands between each two
abbrev pub between : List ℕ → ItemOrder → List ℕ
between separator First = []
between separator Later = separator

abbrev pub joined : List ℕ → ItemOrder → List (List ℕ) → List ℕ
joined separator place [] = []
joined separator place (text ∷ texts) = between separator place ++ text ++ joined separator Later texts
