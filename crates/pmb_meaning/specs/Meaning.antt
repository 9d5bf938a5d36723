-- What the data of a command say: its fields, if it has some here.
use Rattle.std.specs.Prelude.{ℕ, pos, ◌+◌, ◌*◌, ◌/◌, ◌%◌, ◌^◌, ◌==◌, ◌&&◌, nat_le, Bool, true, false}
use Rattle.std.specs.Prelude.{if◌then◌else◌, Option, Some, None, List, [], ◌∷◌, ◌++◌, length, codes, find, flat_map}
use Rattle.std.specs.Prelude.{option_map, unwrap_or}
use Rattle.pmb_command.specs.Entry.{EntryParts}
use Rattle.pmb_command_data.specs.Standard.{is_plain_standard}
use Rattle.pmb_format.specs.Words.{twos_complement}
use Rattle.std.specs.List.{list_any}
use Rattle.pmb_meaning.specs.Field.{Said, word, number, truth, masked, hex, SaidField, field}
use Rattle.pmb_meaning.specs.Data.{Exchange, written, read, sent, called, bytes_of}
use Rattle.pmb_meaning.specs.Layout.{NamedValue, Sense, flag, signed, number_or, choice, command_code, mask}
use Rattle.pmb_meaning.specs.Layout.{Condition, always, among, FieldRow, CommandLayout}
use Rattle.pmb_meaning.specs.Tables.{layouts, page_and_code}
use Rattle.pmb_meaning.specs.declared.layout.Way.{Way}
use Rattle.pmb_meaning.specs.declared.layout.Way.TheVariants.{Register, Written, Read, Sent, Called}

-- ---- bits

-- bytes as one number, the low byte first
abbrev pub number_of : List ℕ → ℕ
number_of [] = 0
number_of (byte ∷ more) = byte + 256 * number_of more

-- some bits of it, as a number: from the lowest of them, that many
abbrev pub picked : ℕ → ℕ → ℕ → ℕ
picked n low width = n / 2 ^ low % 2 ^ width

-- ---- a field

-- what a number is named, if it is
abbrev pub named : List NamedValue → ℕ → Option Said
named names n = option_map (λ x. x.value) (find (λ x. x.number == n) names)

-- what bits say, that many
abbrev pub said : Sense → ℕ → ℕ → Said
said flag width n = truth (n == 1)
said signed width n = number (twos_complement width n)
said (number_or names) width n = unwrap_or (named names n) (number (pos n))
said (choice names) width n = unwrap_or (named names n) (word (codes "reserved"))
said command_code width n = hex (n % 256 ∷ [])
said mask width n = masked (n % 256) (n / 256 % 256)

abbrev pub applies : Condition → ℕ → Bool
applies always n = true
applies (among low width numbers) n = list_any (λ k. k == picked n low width) numbers

-- the field of a row, if there is one
abbrev pub row_field : ℕ → FieldRow → List SaidField
row_field n r =
    if applies r.condition n then field r.key (said r.sense r.width (picked n r.low r.width)) ∷ [] else []

abbrev pub rows_fields : List FieldRow → ℕ → List SaidField
rows_fields rows n = flat_map (row_field n) rows

-- ---- a command

abbrev pub takes_written : Way → ℕ → Bool
takes_written (Register n) many = many == n
takes_written (Written n) many = many == n
takes_written (Read n) many = false
takes_written (Sent n) many = false
takes_written (Called n back) many = false

abbrev pub takes_read : Way → ℕ → Bool
takes_read (Register n) many = many == n
takes_read (Written n) many = false
takes_read (Read n) many = many == n
takes_read (Sent n) many = false
takes_read (Called n back) many = false

abbrev pub takes_sent : Way → ℕ → Bool
takes_sent (Register n) many = false
takes_sent (Written n) many = false
takes_sent (Read n) many = false
takes_sent (Sent n) many = many == n
takes_sent (Called n back) many = false

abbrev pub takes_called : Way → ℕ → ℕ → Bool
takes_called (Register n) many replied = false
takes_called (Written n) many replied = false
takes_called (Read n) many replied = false
takes_called (Sent n) many replied = false
takes_called (Called n back) many replied = many == n && replied == back

-- whether data go in a way, with as many bytes
abbrev pub takes : Way → Exchange → Bool
takes way (written bytes) = takes_written way (length bytes)
takes way (read bytes) = takes_read way (length bytes)
takes way (sent bytes) = takes_sent way (length bytes)
takes way (called first reply) = takes_called way (length first) (length reply)

-- the layout of a command's data, if it is in the tables
abbrev pub layout_of : ℕ → Exchange → Option CommandLayout
layout_of code payload = find (λ l. l.code == code && takes l.way payload) layouts

-- the fields of data whose layout is in the tables
abbrev pub table_fields : ℕ → Exchange → Option (List SaidField)
table_fields code payload =
    option_map (λ l. rows_fields l.rows (number_of (bytes_of payload))) (layout_of code payload)

-- ---- PAGE_PLUS_WRITE and PAGE_PLUS_READ (sections 11.11 and 11.12)

-- The page, the code, and the data of that command, as many as a block may have.
abbrev pub page_plus : ℕ → ℕ → List ℕ → Option (List SaidField)
page_plus page code others =
    if nat_le (length others) 255
    then Some (rows_fields page_and_code (number_of (page ∷ code ∷ [])) ++ field (codes "data") (hex others) ∷ [])
    else None

abbrev pub page_plus_written : List ℕ → Option (List SaidField)
page_plus_written [] = None
page_plus_written (page ∷ []) = None
page_plus_written (page ∷ code ∷ others) = page_plus page code others

abbrev pub page_plus_called : List ℕ → List ℕ → Option (List SaidField)
page_plus_called [] reply = None
page_plus_called (page ∷ []) reply = None
page_plus_called (page ∷ code ∷ []) reply = page_plus page code reply
page_plus_called (page ∷ code ∷ other ∷ more) reply = None

-- ---- any command

-- the fields of the data of the command with a code, if it has some here
unfoldable pub fields_of : ℕ → Exchange → Option (List SaidField)
fields_of code (written bytes) =
    if code == 0x05 then page_plus_written bytes else table_fields code (written bytes)
fields_of code (read bytes) = table_fields code (read bytes)
fields_of code (sent bytes) = table_fields code (sent bytes)
fields_of code (called first reply) =
    if code == 0x06 then page_plus_called first reply else table_fields code (called first reply)

-- ---- a command of a device

-- the fields of its data, where it is the standard's and its data are bytes
abbrev pub said_fields : EntryParts → Exchange → Option (List SaidField)
said_fields e payload = if is_plain_standard e then fields_of e.code payload else None
