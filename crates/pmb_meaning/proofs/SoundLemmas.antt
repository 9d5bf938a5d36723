-- The fields of any data have distinct keys, can be written, and take little room. For `sound_fields` of
-- `src/command.rt`, and for the laws. The rows are tested in the whole table; the fields of rows are fields of some of
-- them, in their order.
use Rattle.std.proofs.Common.{◌≡◌, ℕ, ◌+◌, ◌^◌, ◌<◌, ◌≤◌, ◌&&◌, Bool, true, false, cond, Option}
use Rattle.std.proofs.Common.{Some, None, List, [], ◌∷◌, ◌++◌, codes, length, map, nat_eq, nat_le, nat_lt, inl, inr}
use Rattle.std.proofs.Common.{refl, sym, ap, subst, arith}
use Rattle.std.specs.Prelude.{option_map}
use Rattle.std.specs.Option.{IfSome}
use Rattle.std.specs.List.{AllByRecursion, list_all}
use Rattle.std.proofs.lemmas.Bool.{and_from, and_parts, leb-true}
use Rattle.std.proofs.lemmas.List.{append-nil, map-append}
use Rattle.std.proofs.lemmas.Nat.{pow_pos}
use Rattle.std.proofs.lemmas.Option.{none-some, same_Some}
use Rattle.arrayvec.specs.ArrayVec.{ArrayVec}
use Rattle.pmb_command.specs.Bus.{IsDevice}
use Rattle.pmb_command.specs.Entry.{EntryParts}
use Rattle.pmb_command.specs.Parts.{DeviceParts}
use Rattle.pmb_command.proofs.Finding.{find_among}
use Rattle.pmb_command_data.specs.Standard.{is_plain_standard}
use Rattle.pmb_json_text.specs.Json.{AreDistinct, HasDistinctKeys, IsJsonText, ItemsHaveDistinctKeys, Json, string}
use Rattle.pmb_json_text.specs.Json.{MembersHaveDistinctKeys, keys as json_keys}
use Rattle.pmb_json_text.specs.Spelling.{AreBytes, IsWritable, spelled}
use Rattle.pmb_json_text.specs.Member.{AreWritable, IsPart, Member, all_plain, are_distinct, is_key, items_of, members_of}
use Rattle.pmb_json_text.proofs.Distinct.{distinct_by_test, part_is_distinct, parts_in_a_row, whole_is_part}
use Rattle.pmb_json_text.proofs.Grammar.{members_are_writable, values}
use Rattle.pmb_meaning.specs.Data.{Exchange, written, read, sent, called, bytes_of}
use Rattle.pmb_meaning.specs.Field.{Said, word, number, truth, words, masked, hex, SaidField, field, fields_parts}
use Rattle.pmb_meaning.specs.Laws.{IsSaysOrNone, keys}
use Rattle.pmb_meaning.specs.Layout.{CommandLayout, FieldRow}
use Rattle.pmb_meaning.specs.Meaning.{applies, fields_of, layout_of, number_of, page_plus, page_plus_called}
use Rattle.pmb_meaning.specs.Meaning.{page_plus_written, picked, rows_fields, said, said_fields, table_fields}
use Rattle.pmb_meaning.specs.Names.{RegisterNames, mask_names, names_of}
use Rattle.pmb_meaning.specs.Object.{field_members, says_members, says_members_of, says_object, value_json}
use Rattle.pmb_meaning.specs.Tables.{layouts, page_and_code}
use Rattle.pmb_meaning.specs.declared.field.Field.{Field}
use Rattle.pmb_meaning.specs.machine.Room.{fields_room, said_room}
use Rattle.pmb_meaning.specs.machine.Sound.{AreRegisterNames, AreSound, are_bits, have_keys, is_plain_row, is_plain_sense}
use Rattle.pmb_meaning.specs.machine.Sound.{is_sound_condition}
use Rattle.pmb_meaning.specs.machine.Sound.{is_sound_layout, is_sound_row, is_told, is_wide_enough, row_keys, rows_room}
use Rattle.pmb_meaning.specs.machine.Sound.{sense_room, byte_count}
use Rattle.pmb_meaning.proofs.LayoutLemmas.{all_are_sound, is_theirs}
use Rattle.pmb_meaning.proofs.Turns.{fields_room-append}
use Rattle.pmb_meaning.proofs.ValueLemmas.{device_names, hex_are_bytes, plain_are_bytes, said_has_room, said_writable}

-- ---- a field

-- a field that can be written
abbrev IsGood : SaidField → Type 0
IsGood f =
    (is_key f.key ≡ true) × ((names : RegisterNames) → AreRegisterNames names → IsWritable (value_json names f.value))

-- what a row says
abbrev row_said : ℕ → FieldRow → SaidField
row_said n r = field r.key (said r.sense r.width (picked n r.low r.width))

row_is_good : (n : ℕ) (r : FieldRow) → is_sound_row r ≡ true → is_plain_row r ≡ true → IsGood (row_said n r)
row_is_good n r sound plain =
    let bits = and_parts (are_bits r.low r.width) (is_wide_enough r.sense r.width && is_sound_condition r.condition) sound in
    let few : r.width ≤ 24 = leb-true r.width 24 (and_parts (nat_lt r.low 64) (nat_le r.width 24) bits.0).1 in
    let wide = (and_parts (is_wide_enough r.sense r.width) (is_sound_condition r.condition) bits.1).0 in
    let told = and_parts (is_key r.key) (is_plain_sense r.sense) plain in
    let some : 0 < 2 ^ r.width = pow_pos r.width in
    let fits : picked n r.low r.width < 2 ^ r.width = omega (arith, some) in
    (told.0, λ names are. said_writable names are r.sense r.width (picked n r.low r.width) wide told.1 fits few)

-- ---- the fields of rows

if_it_applies : (P : SaidField → Type 0) (b : Bool) (f : SaidField) (rest : List SaidField) → P f
    → AllByRecursion P rest → AllByRecursion P (cond b (f ∷ []) [] ++ rest)
if_it_applies P true f rest here those = (here, those)
if_it_applies P false f rest here those = those

rows_are_good : (n : ℕ) (rows : List FieldRow) → list_all is_sound_row rows ≡ true → list_all is_plain_row rows ≡ true
    → AllByRecursion IsGood (rows_fields rows n)
rows_are_good n [] sound plain = tt
rows_are_good n (r ∷ rows) sound plain =
    let bits = and_parts (is_sound_row r) (list_all is_sound_row rows) sound in
    let told = and_parts (is_plain_row r) (list_all is_plain_row rows) plain in
    if_it_applies IsGood (applies r.condition n) (row_said n r) (rows_fields rows n)
    (row_is_good n r bits.0 told.0) (rows_are_good n rows bits.1 told.1)

key_if_it_applies : (b : Bool) (f : SaidField) (rest : List SaidField) (all : List (List ℕ)) → IsPart (keys rest) all
    → IsPart (keys (cond b (f ∷ []) [] ++ rest)) (f.key ∷ all)
key_if_it_applies true f rest all part = inr (keys rest, refl, part)
key_if_it_applies false f rest all part = inl part

keys_are_of_rows : (n : ℕ) (rows : List FieldRow) → IsPart (keys (rows_fields rows n)) (row_keys rows)
keys_are_of_rows n [] = refl
keys_are_of_rows n (r ∷ rows) =
    key_if_it_applies (applies r.condition n) (row_said n r) (rows_fields rows n) (row_keys rows)
    (keys_are_of_rows n rows)

room_if_it_applies : (b : Bool) (f : SaidField) (rest : List SaidField) (here those : ℕ) → said_room f.value ≤ here
    → fields_room rest ≤ those → fields_room (cond b (f ∷ []) [] ++ rest) ≤ here + those
room_if_it_applies true f rest here those one more = omega (arith, one, more)
room_if_it_applies false f rest here those one more = omega (arith, more)

rows_have_room : (n : ℕ) (rows : List FieldRow) → fields_room (rows_fields rows n) ≤ rows_room rows
rows_have_room n [] = omega arith
rows_have_room n (r ∷ rows) =
    room_if_it_applies (applies r.condition n) (row_said n r) (rows_fields rows n) (sense_room r.sense) (rows_room rows)
    (said_has_room r.sense r.width (picked n r.low r.width)) (rows_have_room n rows)

-- ---- fields by what each of them is

all_have_keys : (fields : List SaidField) → AllByRecursion IsGood fields → have_keys fields ≡ true
all_have_keys [] good = refl
all_have_keys (f ∷ fields) good = and_from (is_key f.key) (have_keys fields) good.0.0 (all_have_keys fields good.1)

all_are_writable : (names : RegisterNames) → AreRegisterNames names → (fields : List SaidField)
    → AllByRecursion IsGood fields → AreWritable (field_members names fields)
all_are_writable names are [] good = tt
all_are_writable names are (f ∷ fields) good = (
  (
    plain_are_bytes f.key (and_parts (nat_le (length f.key) 16) (all_plain f.key) good.0.0).1,
    good.0.1 names are,
  ),
  all_are_writable names are fields good.1,
)

sound_from : (fields : List SaidField) (all : List (List ℕ)) → AllByRecursion IsGood fields → IsPart (keys fields) all
    → are_distinct all ≡ true → fields_room fields ≤ 1620 → AreSound fields
sound_from fields all good part distinct room = record {
  keyed = all_have_keys fields good;
  distinct = part_is_distinct (keys fields) all part (distinct_by_test all distinct);
  writable = λ names are. all_are_writable names are fields good;
  room = room;
}

-- ---- the tables

all_are_told : list_all is_told layouts ≡ true
unfolding layouts page_and_code
all_are_told = refl

layout_fields_are_sound : (code : ℕ) (payload : Exchange) (l : CommandLayout) (n : ℕ) → layout_of code payload ≡ Some l
    → AreSound (rows_fields l.rows n)
layout_fields_are_sound code payload l n found =
    let sound : is_sound_layout l ≡ true =
    find_among (is_theirs code payload) is_sound_layout layouts l all_are_sound found in
    let told : is_told l ≡ true = find_among (is_theirs code payload) is_told layouts l all_are_told found in
    let rows = and_parts (nat_le (length l.rows) 6) (list_all is_sound_row l.rows)
    (and_parts (nat_le (byte_count l.way) 7) (nat_le (length l.rows) 6 && list_all is_sound_row l.rows) sound).1 in
    let plain = and_parts (list_all is_plain_row l.rows)
    (are_distinct (row_keys l.rows) && nat_le (rows_room l.rows) 1620) told in
    let rest = and_parts (are_distinct (row_keys l.rows)) (nat_le (rows_room l.rows) 1620) plain.1 in
    let room : rows_room l.rows ≤ 1620 = leb-true (rows_room l.rows) 1620 rest.1 in
    sound_from (rows_fields l.rows n) (row_keys l.rows) (rows_are_good n l.rows rows.1 plain.0)
    (keys_are_of_rows n l.rows) rest.0 (omega (arith, room, rows_have_room n l.rows))

of_a_layout : (code : ℕ) (payload : Exchange) (found : Option CommandLayout) (n : ℕ) (fields : List SaidField)
    → layout_of code payload ≡ found → option_map (λ l. rows_fields l.rows n) found ≡ Some fields → AreSound fields
of_a_layout code payload None n fields found is = absurd (none-some fields is)
of_a_layout code payload (Some l) n fields found is =
    subst AreSound (same_Some (rows_fields l.rows n) fields is) (layout_fields_are_sound code payload l n found)

table_fields_are_sound : (code : ℕ) (payload : Exchange) (fields : List SaidField)
    → table_fields code payload ≡ Some fields → AreSound fields
table_fields_are_sound code payload fields is =
    of_a_layout code payload (layout_of code payload) (number_of (bytes_of payload)) fields refl is

-- ---- PAGE_PLUS_WRITE and PAGE_PLUS_READ

all_of_both : {A : Type 0} (P : A → Type 0) (xs ys : List A) → AllByRecursion P xs → AllByRecursion P ys
    → AllByRecursion P (xs ++ ys)
all_of_both P [] ys these those = those
all_of_both P (x ∷ xs) ys these those = (these.0, all_of_both P xs ys these.1 those)

head_is_sound : list_all is_sound_row page_and_code ≡ true
unfolding page_and_code
head_is_sound = refl

head_is_plain : list_all is_plain_row page_and_code ≡ true
unfolding page_and_code
head_is_plain = refl

head_keys_are_distinct : are_distinct (row_keys page_and_code ++ codes "data" ∷ []) ≡ true
unfolding page_and_code
head_keys_are_distinct = refl

head_room : rows_room page_and_code ≡ 67
unfolding page_and_code
head_room = refl

hex_is_good : (others : List ℕ) → IsGood (field (codes "data") (hex others))
hex_is_good others = (refl, λ names are. hex_are_bytes others)

-- of 255 bytes at most
page_plus_fields_are_sound : (n : ℕ) (others : List ℕ) → length others ≤ 255
    → AreSound (rows_fields page_and_code n ++ field (codes "data") (hex others) ∷ [])
page_plus_fields_are_sound n others few =
    let head = rows_fields page_and_code n in
    let tail = field (codes "data") (hex others) ∷ [] in
    let both : fields_room (head ++ tail) ≡ fields_room head + fields_room tail = fields_room-append head tail in
    let same : keys (head ++ tail) ≡ keys head ++ keys tail = map-append (λ f. f.key) head tail in
    sound_from (head ++ tail) (row_keys page_and_code ++ codes "data" ∷ [])
    (all_of_both IsGood head tail (rows_are_good n page_and_code head_is_sound head_is_plain) (hex_is_good others, tt))
    (subst (λ (ks : List (List ℕ)). IsPart ks (row_keys page_and_code ++ codes "data" ∷ [])) (sym same)
    (parts_in_a_row (keys head) (row_keys page_and_code) (keys tail) (codes "data" ∷ [])
    (keys_are_of_rows n page_and_code) (whole_is_part (codes "data" ∷ []))))
    head_keys_are_distinct (omega (arith, both, few, head_room, rows_have_room n page_and_code))

-- what was chosen
if_chosen : (b : Bool) (some : List SaidField) (fields : List SaidField) → cond b (Some some) None ≡ Some fields
    → (b ≡ true) × (some ≡ fields)
if_chosen true some fields is = (refl, same_Some some fields is)
if_chosen false some fields is = absurd (none-some fields is)

page_plus_is_sound : (page code : ℕ) (others : List ℕ) (fields : List SaidField)
    → page_plus page code others ≡ Some fields → AreSound fields
page_plus_is_sound page code others fields is =
    let head = rows_fields page_and_code (number_of (page ∷ code ∷ [])) in
    let here = if_chosen (nat_le (length others) 255) (head ++ field (codes "data") (hex others) ∷ []) fields is in
    subst AreSound here.1
    (page_plus_fields_are_sound (number_of (page ∷ code ∷ [])) others (leb-true (length others) 255 here.0))

page_plus_written_is_sound : (bytes : List ℕ) (fields : List SaidField) → page_plus_written bytes ≡ Some fields
    → AreSound fields
page_plus_written_is_sound [] fields is = absurd (none-some fields is)
page_plus_written_is_sound (page ∷ []) fields is = absurd (none-some fields is)
page_plus_written_is_sound (page ∷ code ∷ others) fields is = page_plus_is_sound page code others fields is

page_plus_called_is_sound : (first reply : List ℕ) (fields : List SaidField) → page_plus_called first reply ≡ Some fields
    → AreSound fields
page_plus_called_is_sound [] reply fields is = absurd (none-some fields is)
page_plus_called_is_sound (page ∷ []) reply fields is = absurd (none-some fields is)
page_plus_called_is_sound (page ∷ code ∷ []) reply fields is = page_plus_is_sound page code reply fields is
page_plus_called_is_sound (page ∷ code ∷ other ∷ more) reply fields is = absurd (none-some fields is)

-- ---- any data

one_or_other : (b : Bool) (x y : Option (List SaidField)) (fields : List SaidField)
    → (x ≡ Some fields → AreSound fields) → (y ≡ Some fields → AreSound fields) → cond b x y ≡ Some fields
    → AreSound fields
one_or_other true x y fields first second is = first is
one_or_other false x y fields first second is = second is

pub fields_are_sound : (code : ℕ) (payload : Exchange) (fields : List SaidField) → fields_of code payload ≡ Some fields
    → AreSound fields
unfolding fields_of
fields_are_sound code (written bytes) fields is =
    one_or_other (nat_eq code 0x05) (page_plus_written bytes) (table_fields code (written bytes)) fields
    (page_plus_written_is_sound bytes fields) (table_fields_are_sound code (written bytes) fields) is
fields_are_sound code (read bytes) fields is = table_fields_are_sound code (read bytes) fields is
fields_are_sound code (sent bytes) fields is = table_fields_are_sound code (sent bytes) fields is
fields_are_sound code (called first reply) fields is =
    one_or_other (nat_eq code 0x06) (page_plus_called first reply) (table_fields code (called first reply)) fields
    (page_plus_called_is_sound first reply fields) (table_fields_are_sound code (called first reply) fields) is

-- those of a command that is the standard's
if_it_is : (b : Bool) (found : Option (List SaidField)) (fields : List SaidField) → cond b found None ≡ Some fields
    → found ≡ Some fields
if_it_is true found fields is = is
if_it_is false found fields is = absurd (none-some fields is)

said_fields_are_sound : (e : EntryParts) (payload : Exchange) (fields : List SaidField)
    → said_fields e payload ≡ Some fields → AreSound fields
said_fields_are_sound e payload fields is =
    fields_are_sound e.code payload fields (if_it_is (is_plain_standard e) (fields_of e.code payload) fields is)

-- as the code has them
pub found_are_sound : (e : EntryParts) (payload : Exchange) (found : Option (ArrayVec Field))
    → option_map fields_parts found ≡ said_fields e payload → IfSome found (λ all. AreSound (fields_parts all))
found_are_sound e payload None is = tt
found_are_sound e payload (Some all) is = said_fields_are_sound e payload (fields_parts all) (sym is)

-- ---- the object of them

texts_have_no_keys : (names : List (List ℕ)) → ItemsHaveDistinctKeys (items_of (map string names))
texts_have_no_keys [] = tt
texts_have_no_keys (name ∷ names) = (tt, texts_have_no_keys names)

value_has_no_keys : (names : RegisterNames) (v : Said) → HasDistinctKeys (value_json names v)
value_has_no_keys names (word text) = tt
value_has_no_keys names (number n) = tt
value_has_no_keys names (truth holds) = tt
value_has_no_keys names (words texts) = texts_have_no_keys texts
value_has_no_keys names (masked register byte) = texts_have_no_keys (mask_names names register byte)
value_has_no_keys names (hex all) = tt

values_have_no_keys : (names : RegisterNames) (fields : List SaidField)
    → MembersHaveDistinctKeys (members_of (field_members names fields))
values_have_no_keys names [] = tt
values_have_no_keys names (f ∷ fields) = (value_has_no_keys names f.value, values_have_no_keys names fields)

same_keys : (names : RegisterNames) (fields : List SaidField)
    → keys fields ≡ json_keys (members_of (field_members names fields))
same_keys names [] = refl
same_keys names (f ∷ fields) = ap (λ (ks : List (List ℕ)). f.key ∷ ks) (same_keys names fields)

object_has_distinct_keys : (names : RegisterNames) (fields : List SaidField) → AreDistinct (keys fields)
    → HasDistinctKeys (says_object names fields)
object_has_distinct_keys names fields distinct =
    (subst AreDistinct (same_keys names fields) distinct, values_have_no_keys names fields)

-- what can be written is JSON
spelled_is_json : (value : Json) → IsWritable value → IsJsonText (spelled value) value
spelled_is_json value writable =
    ([], spelled value, [], tt, values value writable, tt, sym (append-nil (spelled value)))

one_or_none : (names : RegisterNames) → AreRegisterNames names → (found : Option (List SaidField))
    → ((fields : List SaidField) → found ≡ Some fields → AreSound fields) → IsSaysOrNone (says_members names found)
one_or_none names are None sound = tt
one_or_none names are (Some fields) sound =
    let all = sound fields refl in
    let writable = members_are_writable (field_members names fields) (all.writable names are) in
    record {
      key = refl;
      writable = writable;
      json = spelled_is_json (says_object names fields) writable;
      distinct = object_has_distinct_keys names fields all.distinct;
    }

pub says_is_one_or_none : (device : DeviceParts) (e : EntryParts) (payload : Exchange) → IsDevice device
    → IsSaysOrNone (says_members_of device e payload)
says_is_one_or_none device e payload is =
    one_or_none (names_of device) (device_names device is) (said_fields e payload) (said_fields_are_sound e payload)

one_is_writable : (members : List Member) → IsSaysOrNone members → AreWritable members
one_is_writable [] is = tt
one_is_writable (m ∷ []) is =
    ((subst AreBytes (sym is.key) (plain_are_bytes (codes "says") refl), is.writable), tt)
one_is_writable (m ∷ other ∷ more) is = absurd is

pub says_is_writable : (device : DeviceParts) (e : EntryParts) (payload : Exchange) → IsDevice device
    → AreWritable (says_members_of device e payload)
says_is_writable device e payload is =
    one_is_writable (says_members_of device e payload) (says_is_one_or_none device e payload is)
