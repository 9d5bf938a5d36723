-- What a word of a line says.
use Rattle.std.specs.Prelude.{ℕ, ◌+◌, ◌*◌, Option, Some, None, List, [], ◌∷◌, codes, if◌then◌else◌}
use Rattle.std.specs.Str.{bytes_eq}
use Rattle.hex.specs.Hex.{hex_digit_value, encode_lower}
use Rattle.pmb_line.specs.declared.token.Token.{Token}
use Rattle.pmb_line.specs.declared.token.Token.TheVariants.{Byte, Write, Read, Call, Refused, Alert, Nobody, Pec, Plus}
use Rattle.pmb_line.specs.declared.token.Token.TheVariants.{Colon}

-- the byte of two digits
abbrev pub byte_of_digits : Option ℕ → Option ℕ → Option Token
byte_of_digits (Some high) (Some low) = Some (Byte (high * 16 + low))
byte_of_digits (Some high) None = None
byte_of_digits None low = None

-- the byte that a word spells: two hexadecimal digits of either case
abbrev pub byte_of : List ℕ → Option Token
byte_of [] = None
byte_of (a ∷ []) = None
byte_of (high ∷ low ∷ []) = byte_of_digits (hex_digit_value high) (hex_digit_value low)
byte_of (a ∷ b ∷ c ∷ more) = None

-- the word that it is, if it is one of these
abbrev pub keyword_of : List ℕ → Option Token
keyword_of word =
    if bytes_eq word (codes "write") then Some Write
    else if bytes_eq word (codes "read") then Some Read
    else if bytes_eq word (codes "call") then Some Call
    else if bytes_eq word (codes "refused") then Some Refused
    else if bytes_eq word (codes "alert") then Some Alert
    else if bytes_eq word (codes "none") then Some Nobody
    else if bytes_eq word (codes "pec") then Some Pec
    else if bytes_eq word (codes "+") then Some Plus
    else if bytes_eq word (codes ":") then Some Colon
    else None

-- the byte, or else the word
abbrev pub or_keyword : Option Token → Option Token → Option Token
or_keyword (Some byte) keyword = Some byte
or_keyword None keyword = keyword

-- What a word says: a byte, or one of the words above. Other words say nothing.
abbrev pub token_of : List ℕ → Option Token
token_of word = or_keyword (byte_of word) (keyword_of word)

-- the word that `line_of` writes
abbrev pub token_text : Token → List ℕ
token_text (Byte b) = encode_lower (b ∷ [])
token_text Write = codes "write"
token_text Read = codes "read"
token_text Call = codes "call"
token_text Refused = codes "refused"
token_text Alert = codes "alert"
token_text Nobody = codes "none"
token_text Pec = codes "pec"
token_text Plus = codes "+"
token_text Colon = codes ":"
