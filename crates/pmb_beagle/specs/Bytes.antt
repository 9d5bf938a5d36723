-- The bytes of a transaction, with their answers.
use Rattle.std.specs.Prelude.{ℕ, ◌==◌, true, false, Bool, Option, Some, None, if◌then◌else◌, List, [], ◌∷◌}
use Rattle.pmb_recording.specs.declared.wire_byte.WireByte.{WireByte}
use Rattle.pmb_words.specs.Numbers.{byte_of}

-- a byte with its answer
abbrev pub answered : Bool → Option ℕ → Option WireByte
answered acknowledged (Some byte) =
    Some (record { follows_start = false; byte = byte; is_acknowledged = acknowledged })
answered acknowledged None = None

-- `58`, or `58*` where it was not acknowledged
abbrev pub byte_in : List ℕ → Option WireByte
byte_in (high ∷ low ∷ []) = answered true (byte_of high low)
byte_in (high ∷ low ∷ star ∷ []) = if star == 42 then answered false (byte_of high low) else None
byte_in [] = None
byte_in (a ∷ []) = None
byte_in (a ∷ b ∷ c ∷ d ∷ rest) = None

-- a byte in front of others, where all can be read
abbrev pub in_front : Option WireByte → Option (List WireByte) → Option (List WireByte)
in_front (Some b) (Some bytes) = Some (b ∷ bytes)
in_front (Some b) None = None
in_front None bytes = None

-- the bytes that some words are, if each of them is one
abbrev pub bytes_of : List (List ℕ) → Option (List WireByte)
bytes_of [] = Some []
bytes_of (word ∷ words) = in_front (byte_in word) (bytes_of words)
