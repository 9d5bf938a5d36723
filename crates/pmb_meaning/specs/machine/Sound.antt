-- What is so of all rows of the tables, by a test, and so of all fields.
use Rattle.std.specs.Prelude.{◌≡◌, ℕ, ◌+◌, ◌≤◌, ◌^◌, ◌&&◌, max, nat_le, nat_lt, Bool, true, false, IsTrue, List}
use Rattle.std.specs.Prelude.{[], ◌∷◌, length, map, ℤ, pos, negsuc}
use Rattle.std.specs.List.{AllByRecursion, list_all}
use Rattle.pmb_command.specs.Names.{is_name}
use Rattle.pmb_command.specs.Parts.{NamedBit}
use Rattle.pmb_json_text.specs.Json.{AreDistinct}
use Rattle.pmb_json_text.specs.Member.{AreWritable, all_plain, are_distinct, is_key}
use Rattle.pmb_meaning.specs.Field.{Said, word, number, truth, words, masked, hex, SaidField}
use Rattle.pmb_meaning.specs.Laws.{keys}
use Rattle.pmb_meaning.specs.Layout.{NamedValue, Sense, flag, signed, number_or, choice, command_code, mask, Condition}
use Rattle.pmb_meaning.specs.Layout.{always, among, FieldRow, CommandLayout}
use Rattle.pmb_meaning.specs.Names.{RegisterNames}
use Rattle.pmb_meaning.specs.Object.{field_members}
use Rattle.pmb_meaning.specs.declared.layout.Way.{Way}
use Rattle.pmb_meaning.specs.declared.layout.Way.TheVariants.{Register, Written, Read, Sent, Called}
use Rattle.pmb_meaning.specs.machine.Room.{fields_room, said_room}

-- ---- bits: they are bits of a number, and there are few fields

abbrev pub is_wide_enough : Sense → ℕ → Bool
is_wide_enough flag width = true
is_wide_enough signed width = nat_le 1 width && nat_le width 16
is_wide_enough (number_or names) width = true
is_wide_enough (choice names) width = true
is_wide_enough command_code width = true
is_wide_enough mask width = true

-- bits of a number of 64 bits, few of them
abbrev pub are_bits : ℕ → ℕ → Bool
are_bits low width = nat_lt low 64 && nat_le width 24

abbrev pub is_sound_condition : Condition → Bool
is_sound_condition always = true
is_sound_condition (among low width numbers) = are_bits low width

abbrev pub is_sound_row : FieldRow → Bool
is_sound_row r =
    are_bits r.low r.width && (is_wide_enough r.sense r.width && is_sound_condition r.condition)

-- how many bytes there are
abbrev pub byte_count : Way → ℕ
byte_count (Register n) = n
byte_count (Written n) = n
byte_count (Read n) = n
byte_count (Sent n) = n
byte_count (Called n back) = n + back

abbrev pub is_sound_layout : CommandLayout → Bool
is_sound_layout l = nat_le (byte_count l.way) 7 && (nat_le (length l.rows) 6 && list_all is_sound_row l.rows)

-- ---- texts: keys are short and plain, and distinct; words are plain

abbrev pub is_short_number : ℤ → Bool
is_short_number (pos n) = nat_lt n (2 ^ 32)
is_short_number (negsuc n) = nat_lt n (2 ^ 32)

abbrev pub is_plain_value : Said → Bool
is_plain_value (word text) = all_plain text
is_plain_value (number n) = is_short_number n
is_plain_value (truth holds) = true
is_plain_value (words names) = list_all all_plain names
is_plain_value (masked register byte) = false
is_plain_value (hex all) = true

abbrev pub are_plain_values : List NamedValue → Bool
are_plain_values names = list_all (λ x. is_plain_value x.value) names

abbrev pub is_plain_sense : Sense → Bool
is_plain_sense flag = true
is_plain_sense signed = true
is_plain_sense (number_or names) = are_plain_values names
is_plain_sense (choice names) = are_plain_values names
is_plain_sense command_code = true
is_plain_sense mask = true

abbrev pub is_plain_row : FieldRow → Bool
is_plain_row r = is_key r.key && is_plain_sense r.sense

abbrev pub row_keys : List FieldRow → List (List ℕ)
row_keys rows = map (λ r. r.key) rows

-- ---- room

abbrev pub names_room : List NamedValue → ℕ
names_room [] = 0
names_room (x ∷ more) = max (said_room x.value) (names_room more)

-- a number takes 31 bytes, `reserved` 70, and the names of a mask 1584
abbrev pub sense_room : Sense → ℕ
sense_room flag = 25
sense_room signed = 31
sense_room (number_or names) = max 31 (names_room names)
sense_room (choice names) = max 70 (names_room names)
sense_room command_code = 27
sense_room mask = 1584

abbrev pub rows_room : List FieldRow → ℕ
rows_room [] = 0
rows_room (r ∷ more) = sense_room r.sense + rows_room more

abbrev pub is_told : CommandLayout → Bool
is_told l = list_all is_plain_row l.rows && (are_distinct (row_keys l.rows) && nat_le (rows_room l.rows) 1620)

-- ---- names of bits

abbrev pub AreNamed : List NamedBit → Type 0
AreNamed bits = AllByRecursion (λ b. is_name b.name ≡ true) bits

abbrev pub AreRegisterNames : RegisterNames → Type 0
AreRegisterNames names = (register : ℕ) → AreNamed (names register)

-- ---- what is so of the fields of any data

abbrev pub have_keys : List SaidField → Bool
have_keys fields = list_all (λ f. is_key f.key) fields

pub record AreSound (fields : List SaidField) : Type 0 where
  pub keyed : IsTrue (have_keys fields)
  pub distinct : AreDistinct (keys fields)
  pub writable : (names : RegisterNames) → AreRegisterNames names → AreWritable (field_members names fields)
  pub room : fields_room fields ≤ 1620
