-- The fields of an event: words that begin with their name.
use Rattle.std.specs.Prelude.{ℕ, Bool, Option, Some, None, List, [], ◌∷◌, ◌++◌, codes, slice_index, ◌==◌, if◌then◌else◌}
use Rattle.std.specs.Prelude.{is_some, decimal, ◌-◌, ◌&&◌, nat_le, nat_lt}
use Rattle.std.specs.Str.{bytes_eq}
use Rattle.pmb_words.specs.Parts.{after}
use Rattle.pmb_words.specs.Numbers.{byte_of, decimal_of, hexadecimal_of}

-- a number as it is written, and its value
pub record Number : Type 0 where
  pub text : List ℕ
  pub value : ℕ

abbrev pub valued : List ℕ → Option ℕ → Option Number
valued text (Some value) = Some (record { text = text; value = value })
valued text None = None

-- `i2c-0`: the name of a bus
abbrev pub bus_of : Option (List ℕ) → List ℕ → Option (List ℕ)
bus_of (Some number) word = if is_some (decimal_of number) then Some word else None
bus_of None word = None

abbrev pub bus_field : List ℕ → Option (List ℕ)
bus_field word = bus_of (after (codes "i2c-") word) word

-- the bus of an event's fields, if it can be read
abbrev pub event_bus : List (List ℕ) → Option (List ℕ)
event_bus [] = None
event_bus (word ∷ fields) = bus_field word

-- decimal digits behind a name
abbrev pub decimal_text : Option (List ℕ) → Option Number
decimal_text (Some digits) = valued digits (decimal_of digits)
decimal_text None = None

abbrev pub decimal_field : List ℕ → List ℕ → Option Number
decimal_field name word = decimal_text (after name word)

-- hexadecimal digits, so many
abbrev pub three_digits : List ℕ → Option Number
three_digits (a ∷ b ∷ c ∷ []) = valued (a ∷ b ∷ c ∷ []) (hexadecimal_of (a ∷ b ∷ c ∷ []))
three_digits [] = None
three_digits (a ∷ []) = None
three_digits (a ∷ b ∷ []) = None
three_digits (a ∷ b ∷ c ∷ d ∷ rest) = None

abbrev pub four_digits : List ℕ → Option Number
four_digits (a ∷ b ∷ c ∷ d ∷ []) = valued (a ∷ b ∷ c ∷ d ∷ []) (hexadecimal_of (a ∷ b ∷ c ∷ d ∷ []))
four_digits [] = None
four_digits (a ∷ []) = None
four_digits (a ∷ b ∷ []) = None
four_digits (a ∷ b ∷ c ∷ []) = None
four_digits (a ∷ b ∷ c ∷ d ∷ e ∷ rest) = None

abbrev pub one_or_two_digits : List ℕ → Option Number
one_or_two_digits (a ∷ []) = valued (a ∷ []) (hexadecimal_of (a ∷ []))
one_or_two_digits (a ∷ b ∷ []) = valued (a ∷ b ∷ []) (hexadecimal_of (a ∷ b ∷ []))
one_or_two_digits [] = None
one_or_two_digits (a ∷ b ∷ c ∷ rest) = None

abbrev pub behind : (List ℕ → Option Number) → Option (List ℕ) → Option Number
behind digits (Some text) = digits text
behind digits None = None

-- `a=058`, `f=0001`, `c=88`
abbrev pub address_field : List ℕ → Option Number
address_field word = behind three_digits (after (codes "a=") word)

abbrev pub flags_field : List ℕ → Option Number
flags_field word = behind four_digits (after (codes "f=") word)

abbrev pub command_field : List ℕ → Option Number
command_field word = behind one_or_two_digits (after (codes "c=") word)

-- ---- the bytes of a message

abbrev pub dash : ℕ
dash = slice_index (codes "-") 0

abbrev pub closing : ℕ
closing = slice_index (codes "]") 0

-- one byte more in front
abbrev pub with_byte : Option ℕ → Option (List ℕ) → Option (List ℕ)
with_byte (Some byte) (Some bytes) = Some (byte ∷ bytes)
with_byte (Some byte) None = None
with_byte None bytes = None

-- bytes of two digits with `-` between, and `]`
abbrev pub bytes_up_to_closing : List ℕ → Option (List ℕ)
bytes_up_to_closing [] = None
bytes_up_to_closing (a ∷ []) = None
bytes_up_to_closing (a ∷ b ∷ []) = None
bytes_up_to_closing (a ∷ b ∷ c ∷ []) = if c == closing then with_byte (byte_of a b) (Some []) else None
bytes_up_to_closing (a ∷ b ∷ c ∷ d ∷ rest) =
    if c == dash then with_byte (byte_of a b) (bytes_up_to_closing (d ∷ rest)) else None

abbrev pub bytes_behind : Option (List ℕ) → Option (List ℕ)
bytes_behind (Some text) = if bytes_eq text (codes "]") then Some [] else bytes_up_to_closing text
bytes_behind None = None

-- `[21-00-18]`, `[]`
abbrev pub bytes_field : List ℕ → Option (List ℕ)
bytes_field word = bytes_behind (after (codes "[") word)

-- ---- results

-- a number that may be below 0, as it is told, and its value where it is not
pub record Outcome : Type 0 where
  pub text : List ℕ
  pub value : Option ℕ

-- the value of the digits behind a minus: 0 is not below 0
abbrev pub opposite : ℕ → Option ℕ
opposite number = if number == 0 then Some 0 else None

abbrev pub minus : List ℕ → Option ℕ → Option Outcome
minus text (Some number) = Some (record { text = text; value = opposite number })
minus text None = None

abbrev pub negative : List ℕ → Option (List ℕ) → Option Outcome
negative text (Some digits) = minus text (decimal_of digits)
negative text None = None

-- trace-cmd and perf print a result of sixteen bits without its sign: 32,768 to 65,535 are below 0
abbrev pub lacks_sign : ℕ → Bool
lacks_sign number = nat_le 0x8000 number && nat_lt number 0x10000

-- It is told with its sign, and any other number as it is written.
abbrev pub with_sign : List ℕ → ℕ → Outcome
with_sign text number =
    if lacks_sign number then record { text = codes "-" ++ decimal (0x10000 - number); value = None } else
    record { text = text; value = Some number }

abbrev pub outcome : List ℕ → Option ℕ → Option Outcome
outcome text (Some number) = Some (with_sign text number)
outcome text None = negative text (after (codes "-") text)

abbrev pub outcome_text : Option (List ℕ) → Option Outcome
outcome_text (Some text) = outcome text (decimal_of text)
outcome_text None = None

-- `ret=2`, `res=-6`, and `res=65530` for that
abbrev pub outcome_field : List ℕ → List ℕ → Option Outcome
outcome_field name word = outcome_text (after name word)
