-- JSON as RFC 8259 defines it: what a value is, and which texts spell it. A text is a list of
-- characters, each by its number.
use Rattle.std.specs.Prelude.{◌≡◌, ◌≢◌, ◌⊎◌, ℕ, ◌+◌, ◌*◌, ◌<◌, ◌≤◌, ◌==◌, ◌||◌, Bool, true, false, IsTrue, Option, Some}
use Rattle.std.specs.Prelude.{None, Ok, if◌then◌else◌, List, [], ◌∷◌, ◌++◌, codes, ⊤}
use Rattle.std.specs.Char.{is_ascii_digit}
use Rattle.std.specs.List.{AllByRecursion}
use Rattle.hex.specs.Hex.{decode_of}

-- ---- values

-- A value (section 3). A string and a key have their characters, a number the text that spells it;
-- an array and an object keep their order.
mutual
  pub data Json : Type 0 where
    null : Json
    boolean : Bool → Json
    number : List ℕ → Json
    string : List ℕ → Json
    array : Items → Json
    object : Members → Json

  -- the values of an array
  pub data Items : Type 0 where
    no_items : Items
    item : Json → Items → Items

  -- the keys of an object with their values
  pub data Members : Type 0 where
    no_members : Members
    member : List ℕ → Json → Members → Members

-- it is an object
abbrev pub IsObject : Json → Type 0
IsObject null = ⊥
IsObject (boolean _) = ⊥
IsObject (number _) = ⊥
IsObject (string _) = ⊥
IsObject (array _) = ⊥
IsObject (object _) = ⊤

abbrev pub keys : Members → List (List ℕ)
keys no_members = []
keys (member key value more) = key ∷ keys more

-- no two are the same
abbrev pub AreDistinct : List (List ℕ) → Type 0
AreDistinct [] = ⊤
AreDistinct (key ∷ more) = AllByRecursion (λ other. key ≢ other) more × AreDistinct more

-- no object, at any depth, has two members with the same key (section 4)
abbrev mutual
  pub HasDistinctKeys : Json → Type 0
  HasDistinctKeys null = ⊤
  HasDistinctKeys (boolean b) = ⊤
  HasDistinctKeys (number digits) = ⊤
  HasDistinctKeys (string characters) = ⊤
  HasDistinctKeys (array items) = ItemsHaveDistinctKeys items
  HasDistinctKeys (object members) = AreDistinct (keys members) × MembersHaveDistinctKeys members

  pub ItemsHaveDistinctKeys : Items → Type 0
  ItemsHaveDistinctKeys no_items = ⊤
  ItemsHaveDistinctKeys (item value more) = HasDistinctKeys value × ItemsHaveDistinctKeys more

  -- in their values
  pub MembersHaveDistinctKeys : Members → Type 0
  MembersHaveDistinctKeys no_members = ⊤
  MembersHaveDistinctKeys (member key value more) = HasDistinctKeys value × MembersHaveDistinctKeys more

-- ---- blanks, and the six characters of structure (section 2)

-- space, tab, LF and CR
abbrev pub is_blank : ℕ → Bool
is_blank c = (c == 0x20) || (c == 0x09) || (c == 0x0a) || (c == 0x0d)

abbrev pub AreBlanks : List ℕ → Type 0
AreBlanks text = AllByRecursion (λ c. IsTrue (is_blank c)) text

-- a sign of structure, with blanks around it or none
abbrev pub IsSign : List ℕ → List ℕ → Type 0
IsSign sign text = (before after : List ℕ) × AreBlanks before × AreBlanks after × (text ≡ before ++ (sign ++ after))

-- ---- numbers (section 6)

-- digits, or nothing
abbrev pub AreDigits : List ℕ → Type 0
AreDigits text = AllByRecursion (λ c. IsTrue (is_ascii_digit c)) text

-- one digit or more
abbrev pub AreSomeDigits : List ℕ → Type 0
AreSomeDigits [] = ⊥
AreSomeDigits (c ∷ more) = AreDigits (c ∷ more)

abbrev pub IsMinus : List ℕ → Type 0
IsMinus text = (text ≡ []) ⊎ (text ≡ codes "-")

-- 0, or digits that begin with another
abbrev pub IsWhole : List ℕ → Type 0
IsWhole [] = ⊥
IsWhole (c ∷ more) = (c ∷ more ≡ codes "0") ⊎ ((c ≢ 0x30) × AreDigits (c ∷ more))

abbrev pub IsFraction : List ℕ → Type 0
IsFraction text = (text ≡ []) ⊎ ((digits : List ℕ) × AreSomeDigits digits × (text ≡ codes "." ++ digits))

-- the letter of an exponent, and its sign
abbrev pub IsLetter : List ℕ → Type 0
IsLetter text = (text ≡ codes "e") ⊎ (text ≡ codes "E")

abbrev pub IsSigned : List ℕ → Type 0
IsSigned text = (text ≡ []) ⊎ ((text ≡ codes "-") ⊎ (text ≡ codes "+"))

abbrev pub IsExponent : List ℕ → Type 0
IsExponent text =
    (text ≡ []) ⊎ ((letter sign digits : List ℕ) × IsLetter letter × IsSigned sign × AreSomeDigits digits
    × (text ≡ letter ++ (sign ++ digits)))

-- the text is a number
pub record IsNumber (text : List ℕ) : Type 0 where
  pub minus : List ℕ
  pub whole : List ℕ
  pub fraction : List ℕ
  pub exponent : List ℕ
  pub is_minus : IsMinus minus
  pub is_whole : IsWhole whole
  pub is_fraction : IsFraction fraction
  pub is_exponent : IsExponent exponent
  pub parts : text ≡ minus ++ (whole ++ (fraction ++ exponent))

-- ---- strings (section 7)

-- what stands for itself: all but controls, `"` and `\`
abbrev pub IsUnescaped : ℕ → Type 0
IsUnescaped c = (0x20 ≤ c) × (c ≢ 0x22) × (c ≢ 0x5c) × (c ≤ 0x10ffff)

-- what a letter after `\` stands for
abbrev pub letter_escape : ℕ → Option ℕ
letter_escape letter =
    if letter == 0x22 then Some 0x22  -- "
    else if letter == 0x5c then Some 0x5c  -- \
    else if letter == 0x2f then Some 0x2f  -- /
    else if letter == 0x62 then Some 0x08  -- b, backspace
    else if letter == 0x66 then Some 0x0c  -- f, form feed
    else if letter == 0x6e then Some 0x0a  -- n, line feed
    else if letter == 0x72 then Some 0x0d  -- r, carriage return
    else if letter == 0x74 then Some 0x09  -- t, tab
    else None

-- `\u` and four hexadecimal digits of either case
abbrev pub IsUnit : ℕ → List ℕ → Type 0
IsUnit unit text =
    (digits : List ℕ) × (high low : ℕ) × (decode_of digits ≡ Ok (high ∷ low ∷ [])) × (unit ≡ high * 256 + low)
    × (text ≡ codes "\\u" ++ digits)

abbrev pub IsHighSurrogate : ℕ → Type 0
IsHighSurrogate unit = (0xd800 ≤ unit) × (unit < 0xdc00)

abbrev pub IsLowSurrogate : ℕ → Type 0
IsLowSurrogate unit = (0xdc00 ≤ unit) × (unit < 0xe000)

-- A text spells a character in a string. RFC 8259 also lets an escape stand for one half of a pair
-- alone, which is no character; here none does.
pub data SpellsCharacter (c : ℕ) (text : List ℕ) : Type 0 where
  itself : IsUnescaped c → text ≡ c ∷ [] → SpellsCharacter c text
  by_letter : (letter : ℕ) → letter_escape letter ≡ Some c → text ≡ codes "\\" ++ letter ∷ [] → SpellsCharacter c text
  by_unit : IsUnit c text → (IsHighSurrogate c → ⊥) → (IsLowSurrogate c → ⊥) → SpellsCharacter c text
  by_pair : (high low : ℕ) (front back : List ℕ) → IsUnit high front → IsUnit low back → IsHighSurrogate high
      → IsLowSurrogate low
      → c + 0xd800 * 1024 + 0xdc00 ≡ 0x10000 + high * 1024 + low → text ≡ front ++ back → SpellsCharacter c text

abbrev pub SpellsCharacters : List ℕ → List ℕ → Type 0
SpellsCharacters [] text = text ≡ []
SpellsCharacters (c ∷ more) text = (front back : List ℕ) × SpellsCharacter c front × SpellsCharacters more back
    × (text ≡ front ++ back)

abbrev pub SpellsString : List ℕ → List ℕ → Type 0
SpellsString characters text = (inside : List ℕ) × SpellsCharacters characters inside
    × (text ≡ codes "\"" ++ (inside ++ codes "\""))

-- ---- values, arrays and objects (sections 3, 4 and 5)

-- a text spells a value
abbrev mutual
  pub Spells : Json → List ℕ → Type 0
  Spells null spelling = spelling ≡ codes "null"
  Spells (boolean true) spelling = spelling ≡ codes "true"
  Spells (boolean false) spelling = spelling ≡ codes "false"
  Spells (number digits) spelling = IsNumber digits × (spelling ≡ digits)
  Spells (string characters) spelling = SpellsString characters spelling
  Spells (array items) spelling =
      (begin inside end : List ℕ) × IsSign (codes "[") begin × SpellsItems items inside × IsSign (codes "]") end
      × (spelling ≡ begin ++ (inside ++ end))
  Spells (object members) spelling =
      (begin inside end : List ℕ) × IsSign (codes "{") begin × SpellsMembers members inside × IsSign (codes "}") end
      × (spelling ≡ begin ++ (inside ++ end))

  -- values with a comma between each two
  pub SpellsItems : Items → List ℕ → Type 0
  SpellsItems no_items spelling = spelling ≡ []
  SpellsItems (item value more) spelling = (front back : List ℕ) × Spells value front × SpellsLaterItems more back
      × (spelling ≡ front ++ back)

  pub SpellsLaterItems : Items → List ℕ → Type 0
  SpellsLaterItems no_items spelling = spelling ≡ []
  SpellsLaterItems (item value more) spelling =
      (comma front back : List ℕ) × IsSign (codes ",") comma × Spells value front × SpellsLaterItems more back
      × (spelling ≡ comma ++ (front ++ back))

  -- keys with a colon and a value, with a comma between each two
  pub SpellsMembers : Members → List ℕ → Type 0
  SpellsMembers no_members spelling = spelling ≡ []
  SpellsMembers (member key value more) spelling =
      (name colon front back : List ℕ) × SpellsString key name × IsSign (codes ":") colon × Spells value front
      × SpellsLaterMembers more back
      × (spelling ≡ name ++ (colon ++ (front ++ back)))

  pub SpellsLaterMembers : Members → List ℕ → Type 0
  SpellsLaterMembers no_members spelling = spelling ≡ []
  SpellsLaterMembers (member key value more) spelling =
      (comma name colon front back : List ℕ) × IsSign (codes ",") comma × SpellsString key name
      × IsSign (codes ":") colon × Spells value front × SpellsLaterMembers more back
      × (spelling ≡ comma ++ (name ++ (colon ++ (front ++ back))))

-- A JSON text is a value with blanks around it or none (section 2).
abbrev pub IsJsonText : List ℕ → Json → Type 0
IsJsonText text value =
    (before spelling after : List ℕ) × AreBlanks before × Spells value spelling × AreBlanks after
    × (text ≡ before ++ (spelling ++ after))
