-- What the values of the code stand for.
use Rattle.std.specs.Prelude.{◌≡◌, ℕ, ◌+◌, Option, Some, None, List, [], ◌++◌, length, option_map}
use Rattle.pmb_beagle.specs.Bytes.{bytes_of}
use Rattle.pmb_beagle.specs.Export.{Transaction}
use Rattle.pmb_beagle.specs.Export as said
use Rattle.pmb_beagle.specs.declared.transaction.Transaction as code
use Rattle.pmb_beagle.specs.declared.row.Says as row
use Rattle.pmb_beagle.specs.declared.row.Says.TheVariants as variants
use Rattle.pmb_recording.specs.declared.wire_byte.WireByte.{WireByte}
use Rattle.pmb_words.specs.Parts.{words}

abbrev pub bytes_or_none : Option (List WireByte) → List WireByte
bytes_or_none (Some bytes) = bytes
bytes_or_none None = []

-- the bytes that a text writes
abbrev pub bytes_in : List ℕ → List WireByte
bytes_in text = bytes_or_none (bytes_of (words text))

-- a transaction, of whose bytes the text is kept
abbrev pub transaction_from : code.Transaction → Transaction
transaction_from t = record { reads = t.reads; marks = t.marks; address = t.address; bytes = bytes_in t.bytes.now }

abbrev pub says_from : row.Says → said.Says
says_from (variants.OfTransaction t) = said.OfTransaction (transaction_from t)
says_from variants.OfCapture = said.OfCapture
says_from variants.OfOther = said.OfOther

-- The text of a transaction writes bytes, and so many.
abbrev pub IsCounted : code.Transaction → Type 0
IsCounted t = Some t.length ≡ option_map length (bytes_of (words t.bytes.now))

abbrev pub SaysCounted : row.Says → Type 0
SaysCounted (variants.OfTransaction t) = IsCounted t
SaysCounted variants.OfCapture = Unit {0}
SaysCounted variants.OfOther = Unit {0}

-- some bytes, and then others, where these can be read
abbrev pub behind : List WireByte → Option (List WireByte) → Option (List WireByte)
behind front bytes = option_map (λ others. front ++ others) bytes

-- so many bytes, and then others, where these can be read
abbrev pub counted : ℕ → Option (List WireByte) → Option ℕ
counted count bytes = option_map (λ others. count + length others) bytes
