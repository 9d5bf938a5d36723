-- A note has no LF, and that of a transaction with a packet is at most 8,192 bytes. For the law
-- `notes_are_short`. The bounds are added up from the parts: a number 131, a register 288 (16 bits
-- of 18), a command 320 with its name of 32, a part after another one 323, and at most 16 parts.
use Rattle.std.proofs.Common.{◌≡◌, ℕ, zero, suc, ◌+◌, ◌*◌, ◌/◌, ◌%◌, ◌^◌, ◌<◌, ◌≤◌, Bool, true, false, not, ◌==◌}
use Rattle.std.proofs.Common.{nat_lt, Option, Some, None, Ok, Err, Result, ℤ, pos, negsuc, unsigned_abs, List, [], ◌∷◌}
use Rattle.std.proofs.Common.{◌++◌, map, length, length-append, refl, ap, ◌∙◌, subst, inl, inr, arith}
use Rattle.std.specs.Prelude.{codes, decimal}
use Rattle.std.specs.List.{flat_map, list_all}
use Rattle.std.specs.Option.{IfSome}
use Rattle.std.specs.Fmt.{digit_glyph, digits, digits_onto}
use Rattle.std.proofs.lemmas.Bool.{and_from, and_parts, cases_Bool, cond_both, eqb-true, not_from_false}
use Rattle.std.proofs.lemmas.Bool.Decides.{nat_tests}
use Rattle.std.proofs.lemmas.Fmt.{length-decimal-le}
use Rattle.hex.specs.Hex.{encode_lower, encode_with, lower_digits}
use Rattle.pmb_bus.specs.declared.event.Event.{Event}
use Rattle.pmb_quantity.specs.Fraction.{Fraction}
use Rattle.pmb_quantity.specs.QuantityText.{after_point, first_of, magnitude_text, minus, padded, places_of, spelling}
use Rattle.pmb_coefficients.specs.Coefficients.{Coefficients}
use Rattle.pmb_value.specs.WordFault.{value_in}
use Rattle.pmb_value.specs.declared.number_format.NumberFormat.{NumberFormat}
use Rattle.pmb_value.specs.declared.number_format.NumberFormat.TheVariants.{Word}
use Rattle.pmb_value.specs.declared.number_format.WordFault.{WordFault}
use Rattle.pmb_value.specs.Vout.{format_of}
use Rattle.pmb_value.specs.declared.vout.ModeFault.{ModeFault}
use Rattle.pmb_value.specs.declared.vout.VoutFormat.{VoutFormat}
use Rattle.pmb_command.specs.Bus.{IsBus, IsCommand, IsDevice}
use Rattle.pmb_command.specs.Entry.{EntryParts}
use Rattle.pmb_command.specs.Names.{is_name_byte, IsNameOf}
use Rattle.pmb_command.specs.Parts.{CommandParts, DeviceParts, command_with, device_with}
use Rattle.pmb_command.specs.StatusBits.{bit_text}
use Rattle.pmb_command.specs.declared.entry.Kind.{Kind}
use Rattle.pmb_command.specs.declared.entry.Kind.TheVariants.{Raw, Number, Vout, VoutSigned, Status, Text}
use Rattle.pmb_transaction.specs.Packet.{Packet}
use Rattle.pmb_transaction.specs.Transaction.{PartData, TransactionData, Write, Read, Call, Refused, Alert, NoAlert}
use Rattle.pmb_transaction.proofs.Known.{command_is, device_is}
use Rattle.pmb_note.specs.Note.{command_text, data_text, format_text, joined, named_bit, number_text, of_command}
use Rattle.pmb_note.specs.Note.{of_device, of_word}
use Rattle.pmb_note.specs.Note.{part_text_before, part_text, quantity_text, refused_text, register_text, set_bit_text}
use Rattle.pmb_note.specs.Note.{set_bits_text, status_text, text_under, value_text, vout_text}
use Rattle.pmb_note.proofs.OneLine.{no_lf, no_lf-append, no_lf-at}
use Rattle.pmb_note.proofs.StatusLemmas.{names_are_short, names_have_no_lf}

-- a text with no LF, and with so many bytes at most
pub record IsShort (most : ℕ) (text : List ℕ) : Type 0 where
  -- no LF, so one line; and at most so many bytes
  pub one : no_lf text ≡ true
  pub few : length text ≤ most

-- a text that is written out
abbrev plain : (text : List ℕ) → no_lf text ≡ true → IsShort (length text) text
plain text one = record { one = one; few = omega arith }

none : (most : ℕ) → IsShort most []
none most = record { one = refl; few = omega arith }

-- one text, and another after it
both : (m n : ℕ) (a b : List ℕ) → IsShort m a → IsShort n b → IsShort (m + n) (a ++ b)
both m n a b first second = record {
  one = no_lf-append a b first.one second.one;
  few =
      omega (arith, first.few, second.few, length-append a b);
}

-- a bound that is greater
at_most : (m n : ℕ) (text : List ℕ) → m ≤ n → IsShort m text → IsShort n text
at_most m n text more is = record { one = is.one; few = omega (arith, more, is.few) }

-- ---- digits

above_lf : (b : ℕ) → 10 < b → not (b == 10) ≡ true
above_lf b more = grind (arith, nat_tests, more)

glyph_no_lf : (d : ℕ) → not (digit_glyph false d == 10) ≡ true
glyph_no_lf d = cond_both (nat_lt d 10) (48 + d) (87 + d) (λ g. not (g == 10) ≡ true)
    (λ small. above_lf (48 + d) (omega arith)) (λ large. above_lf (87 + d) (omega arith))

onto_no_lf : (k n : ℕ) (acc : List ℕ) → no_lf acc ≡ true → no_lf (digits_onto k 10 false n acc) ≡ true
onto_no_lf zero n acc one = one
onto_no_lf (suc k) n acc one =
    let more : no_lf (digit_glyph false (n % 10) ∷ acc) ≡ true = and_from (not (digit_glyph false (n % 10) == 10))
    (no_lf acc) (glyph_no_lf (n % 10)) one in
    cond_both (n / 10 == 0) (digit_glyph false (n % 10) ∷ acc)
    (digits_onto k 10 false (n / 10) (digit_glyph false (n % 10) ∷ acc)) (λ text. no_lf text ≡ true)
    (λ last. more) (λ others. onto_no_lf k (n / 10) (digit_glyph false (n % 10) ∷ acc) more)

onto_few : (k n : ℕ) (acc : List ℕ) → length (digits_onto k 10 false n acc) ≤ k + length acc
onto_few zero n acc = omega arith
onto_few (suc k) n acc =
    let more : List ℕ = digit_glyph false (n % 10) ∷ acc in
    cond_both (n / 10 == 0) more (digits_onto k 10 false (n / 10) more) (λ text. length text ≤ suc k + length acc)
    (λ last. omega arith) (λ others. omega (arith, onto_few k (n / 10) more))

short_decimal : (n : ℕ) → IsShort 64 (decimal n)
unfolding digits
short_decimal n = record { one = onto_no_lf 64 n [] refl; few = onto_few 64 n [] }

hex_no_lf : (b : ℕ) → IsShort 2 (encode_lower (b ∷ []))
unfolding encode_with
hex_no_lf b = record {
  one = and_from _ _ (no_lf-at lower_digits (b / 16) refl) (and_from _ true (no_lf-at lower_digits (b % 16) refl) refl);
  few = omega arith;
}

-- ---- quantities

short_minus : (z : ℤ) → IsShort 1 (minus z)
short_minus (pos n) = none 1
short_minus (negsuc n) = plain (codes "-") refl

short_padded : (places n : ℕ) → IsShort places (padded places n)
short_padded zero n = none 0
short_padded (suc places) n =
    at_most (places + 1) (suc places) (padded places (n / 10) ++ (48 + n % 10) ∷ []) (omega arith)
    (both places 1 (padded places (n / 10)) ((48 + n % 10) ∷ []) (short_padded places (n / 10))
    (record {
      one = and_from (not (48 + n % 10 == 10)) true (above_lf (48 + n % 10) (omega arith)) refl;
      few =
          omega arith;
    }))

short_after_point : (places n : ℕ) → IsShort (1 + places) (after_point places n)
short_after_point zero n = none 1
short_after_point (suc places) n = both 1 (suc places) (codes ".") (padded (suc places) n) (plain (codes ".") refl)
    (short_padded (suc places) n)

found_below : (test : ℕ → Bool) (from count : ℕ) → IfSome (first_of test from count) (λ place. place < from + count)
unfolding first_of
found_below test from zero = tt
found_below test from (suc count) =
    cond_both (test from) (Some from) (first_of test (from + 1) count)
    (λ (o : Option ℕ). IfSome o (λ place. place < from + suc count))
    (λ passes. omega arith) (λ fails. later (first_of test (from + 1) count) (found_below test (from + 1) count))
  where
    later : (o : Option ℕ) → IfSome o (λ place. place < from + 1 + count) → IfSome o (λ place. place < from + suc count)
    later None below = tt
    later (Some place) below = omega (arith, below)

-- 25: the most digits after the point that a quantity's text may have, and one more is none
few_places : (d : ℕ) → IfSome (places_of d) (λ place. place < 25)
unfolding places_of
few_places d = found_below (λ places. 10 ^ places % d == 0) 0 25

short_magnitude : (n d : ℕ) (places : Option ℕ) → IfSome places (λ place. place < 25)
    → IsShort 129 (magnitude_text n d places)
short_magnitude n d (Some places) few =
    at_most (64 + (1 + places)) 129 (magnitude_text n d (Some places)) (omega (arith, few))
    (both 64 (1 + places) (decimal (n / d)) (after_point places (n % d * (10 ^ places / d))) (short_decimal (n / d))
    (short_after_point places (n % d * (10 ^ places / d))))
short_magnitude n d None few = both 64 65 (decimal n) (codes "/" ++ decimal d) (short_decimal n)
    (both 1 64 (codes "/") (decimal d) (plain (codes "/") refl) (short_decimal d))

short_spelling : (q : Fraction) → IsShort 130 (spelling q)
unfolding spelling
short_spelling q =
    both 1 129 (minus q.numerator) (magnitude_text (unsigned_abs q.numerator) q.denominator (places_of q.denominator))
    (short_minus q.numerator)
    (short_magnitude (unsigned_abs q.numerator) q.denominator (places_of q.denominator) (few_places q.denominator))

short_raw : IsShort 131 (codes " raw")
short_raw = at_most 4 131 (codes " raw") (omega arith) (plain (codes " raw") refl)

short_quantity : (value : Result Fraction WordFault) → IsShort 131 (quantity_text value)
short_quantity (Ok q) = both 1 130 (codes " ") (spelling q) (plain (codes " ") refl) (short_spelling q)
short_quantity (Err fault) = short_raw

short_number : (format : NumberFormat) (word : ℕ) → IsShort 131 (number_text format word)
unfolding number_text
short_number format word = short_quantity (value_in format word)

short_format : (format : Result VoutFormat ModeFault) (word : ℕ) → IsShort 131 (format_text format word)
short_format (Ok format) word = short_number (Word format) word
short_format (Err fault) word = short_raw

short_vout : (mode : Option ℕ) (signed : Bool) (coefficients : Option Coefficients) (word : ℕ)
    → IsShort 131 (vout_text mode signed coefficients word)
short_vout None signed coefficients word = short_raw
short_vout (Some mode) signed coefficients word = short_format (format_of mode signed coefficients) word

short_word : (text : ℕ → List ℕ) (bytes : List ℕ) → ((word : ℕ) → IsShort 131 (text word))
    → IsShort 288 (of_word text bytes)
short_word text [] each = none 288
short_word text (a ∷ []) each = none 288
short_word text (low ∷ high ∷ []) each = at_most 131 288 (text (low + 256 * high)) (omega arith)
    (each (low + 256 * high))
short_word text (a ∷ b ∷ c ∷ bytes) each = none 288

-- ---- status bits

short_named : (name : Option (List ℕ)) (bit : ℕ) → bit < 16 → IfSome name (λ text. length text ≤ 17)
    → IfSome name (λ text. no_lf text ≡ true) → IsShort 17 (named_bit name bit)
short_named None bit small few one = record {
  one = no_lf-append (codes "bit") (decimal bit) refl (short_decimal bit).one;
  few = omega (
    arith,
    length-append (codes "bit") (decimal bit),
    length-decimal-le 2 bit (omega arith)
        (omega (arith, small)) (omega (arith, small)),
  );
}
short_named (Some name) bit small few one = record { one = one; few = few }

short_bit : (code value bit : ℕ) → bit < 16 → IsShort 18 (set_bit_text code value bit)
short_bit code value bit small =
    cond_both _ (codes " " ++ named_bit (bit_text code bit) bit) [] (λ text. IsShort 18 text)
    (λ set. both 1 17 (codes " ") (named_bit (bit_text code bit) bit) (plain (codes " ") refl)
    (short_named (bit_text code bit) bit small (names_are_short code bit) (names_have_no_lf code bit)))
    (λ unset. none 18)

short_bits : (code value bits : ℕ) → bits ≤ 16 → IsShort (18 * bits) (set_bits_text code value bits)
short_bits code value zero few = none (18 * 0)
short_bits code value (suc bit) few =
    at_most (18 + 18 * bit) (18 * suc bit) (set_bits_text code value (suc bit)) (omega arith)
    (both 18 (18 * bit) (set_bit_text code value bit) (set_bits_text code value bit)
    (short_bit code value bit (omega (arith, few))) (short_bits code value bit (omega (arith, few))))

short_register : (code bits value : ℕ) → bits ≤ 16 → IsShort 288 (register_text code bits value)
short_register code bits value few =
    cond_both (value == 0) (codes " none") (set_bits_text code value bits) (λ text. IsShort 288 text)
    (λ zero_is. at_most 5 288 (codes " none") (omega arith) (plain (codes " none") refl))
    (λ some. at_most (18 * bits) 288 (set_bits_text code value bits) (omega (arith, few))
    (short_bits code value bits few))

short_status : (code : ℕ) (bytes : List ℕ) → IsShort 288 (status_text code bytes)
short_status code [] = none 288
short_status code (byte ∷ []) = short_register code 8 byte (omega arith)
short_status code (low ∷ high ∷ []) = short_register code 16 (low + 256 * high) (omega arith)
short_status code (a ∷ b ∷ c ∷ bytes) = none 288

-- ---- commands

short_data : (coefficients : Option Coefficients) (mode : Option ℕ) (code : ℕ) (kind : Kind) (bytes : List ℕ)
    → IsShort 288 (data_text coefficients mode code kind bytes)
short_data coefficients mode code Raw bytes = none 288
short_data coefficients mode code (Number format) bytes = short_word (number_text format) bytes (short_number format)
short_data coefficients mode code Vout bytes = short_word (vout_text mode false coefficients) bytes
    (short_vout mode false coefficients)
short_data coefficients mode code VoutSigned bytes = short_word (vout_text mode true coefficients) bytes
    (short_vout mode true coefficients)
short_data coefficients mode code Status bytes = short_status code bytes
short_data coefficients mode code Text bytes = none 288

name_byte_no_lf : (b : ℕ) → is_name_byte b ≡ true → not (b == 10) ≡ true
name_byte_no_lf b is = elim (cases_Bool (b == 10)) [
  | inl lf ↦ let same : is_name_byte 10 ≡ true = subst (λ n. is_name_byte n ≡ true) (eqb-true b 10 lf) is in cc same
  | inr other ↦ not_from_false (b == 10) other
]

name_bytes_no_lf : (text : List ℕ) → list_all is_name_byte text ≡ true → no_lf text ≡ true
name_bytes_no_lf [] are = refl
name_bytes_no_lf (b ∷ text) are =
    let here = and_parts (is_name_byte b) (list_all is_name_byte text) are in
    and_from (not (b == 10)) (no_lf text) (name_byte_no_lf b here.0) (name_bytes_no_lf text here.1)

short_name : (code : ℕ) (name : List ℕ) → IsNameOf code name → IsShort 32 name
short_name code name is = elim is.spelled [
  | inl fits ↦ record { one = name_bytes_no_lf name (and_parts _ (list_all is_name_byte name) fits).1; few = is.most }
  | inr made ↦ record {
    one = ap no_lf made
        ∙ (both 4 2 (codes "CMD_") (encode_lower (code ∷ [])) (plain (codes "CMD_") refl) (hex_no_lf code)).one;
    few =
        is.most;
  }
]

-- what is known of the one that is found
if_found : {X : Type 0} {P : X → Type 0} (o : Option X) → ((x : X) → o ≡ Some x → P x) → IfSome o P
if_found None is = tt
if_found (Some x) is = is x refl

-- what is said of a command that a device may have
short_command : (text : EntryParts → List ℕ) (o : Option CommandParts) → IfSome o IsCommand
    → ((command : CommandParts) → IsCommand command → IsShort 320 (text command.entry))
    → IsShort 320 (of_command text o)
short_command text None is each = none 320
short_command text (Some command) is each = each command is

some_command : (device : DeviceParts) (code : ℕ) → IsDevice device
    → IfSome (command_with code device.commands) IsCommand
some_command device code is = if_found (command_with code device.commands)
    (λ command found. (command_is device code command is found).0)

-- .. of a device that a bus may have
short_device : (text : DeviceParts → EntryParts → List ℕ) (code : ℕ) (o : Option DeviceParts) → IfSome o IsDevice
    → ((device : DeviceParts) (command : CommandParts) → IsCommand command → IsShort 320 (text device command.entry))
    → IsShort 320 (of_device text code o)
short_device text code None is each = none 320
short_device text code (Some device) is each = short_command (text device) (command_with code device.commands)
    (some_command device code is) (each device)

module _ (profile : List DeviceParts) (bus : IsBus profile) where
  some_device : (addr : ℕ) → IfSome (device_with addr profile) IsDevice
  some_device addr = if_found (device_with addr profile) (λ device found. (device_is profile addr device bus found).0)

  -- the name of a command
  short_call : (addr code : ℕ) → IsShort 320 (of_device (λ device entry. entry.name) code (device_with addr profile))
  short_call addr code =
      short_device (λ device entry. entry.name) code (device_with addr profile) (some_device addr)
      (λ device command is. at_most 32 320 command.entry.name (omega arith)
      (short_name command.entry.code command.entry.name is.entry.name))

  module _ (modes : ℕ → Option ℕ) where
    short_text : (addr code : ℕ) (bytes : List ℕ) → IsShort 320 (command_text profile modes addr code bytes)
    short_text addr code bytes =
        short_device (λ device entry. value_text (modes addr) device entry bytes) code (device_with addr profile)
        (some_device addr)
        (λ device command is.
        both 32 288 command.entry.name (data_text device.vout_direct (modes addr) command.entry.code command.entry.kind
        bytes) (short_name command.entry.code command.entry.name is.entry.name)
        (short_data device.vout_direct (modes addr) command.entry.code command.entry.kind bytes))

    short_part : (part : PartData) → IsShort 320 (part_text profile modes part)
    short_part part = short_text part.addr part.code part.bytes

    short_parts : (parts : List PartData) → IsShort (323 * length parts) (joined (map (part_text profile modes) parts))
    short_parts [] = none (323 * 0)
    short_parts (p ∷ []) = at_most 320 (323 * 1) (part_text profile modes p) (omega arith) (short_part p)
    short_parts (p ∷ q ∷ parts) =
        let rest = joined (map (part_text profile modes) (q ∷ parts)) in
        at_most (320 + (3 + 323 * length (q ∷ parts))) (323 * length (p ∷ q ∷ parts))
        (joined (map (part_text profile modes) (p ∷ q ∷ parts))) (omega arith)
        (both 320 (3 + 323 * length (q ∷ parts)) (part_text profile modes p) (codes " + " ++ rest) (short_part p)
        (both 3 (323 * length (q ∷ parts)) (codes " + ") rest (plain (codes " + ") refl) (short_parts (q ∷ parts))))

    short_before : (parts : List PartData) → IsShort (323 * length parts)
        (flat_map (part_text_before profile modes) parts)
    short_before [] = none (323 * 0)
    short_before (p ∷ parts) =
        at_most (320 + 3 + 323 * length parts) (323 * length (p ∷ parts))
        (flat_map (part_text_before profile modes) (p ∷ parts)) (omega arith)
        (both (320 + 3) (323 * length parts) (part_text_before profile modes p)
        (flat_map (part_text_before profile modes) parts)
        (both 320 3 (part_text profile modes p) (codes " + ") (short_part p) (plain (codes " + ") refl))
        (short_before parts))

    short_refused : (sent : List ℕ) (at_read : Bool) → IsShort 20 (refused_text sent at_read)
    short_refused sent true = plain (codes "read address refused") refl
    short_refused [] false = at_most 15 20 (codes "address refused") (omega arith)
        (plain (codes "address refused") refl)
    short_refused (b ∷ []) false = at_most 12 20 (codes "code refused") (omega arith)
        (plain (codes "code refused") refl)
    short_refused (a ∷ b ∷ bytes) false = at_most 12 20 (codes "byte refused") (omega arith)
        (plain (codes "byte refused") refl)

    -- a note by some VOUT_MODE of each device
    pub short_note : (t : TransactionData) (events : List Event) → Packet profile t events
        → IsShort 8192 (text_under profile modes t)
    short_note (Write parts) events packet =
        at_most (323 * length parts) 8192 (joined (map (part_text profile modes) parts)) (omega (arith, packet.few))
        (short_parts parts)
    short_note (Read t) events packet = at_most 320 8192 (command_text profile modes t.addr t.code t.reply)
        (omega arith) (short_text t.addr t.code t.reply)
    short_note (Call t) events packet = at_most 320 8192
        (of_device (λ device entry. entry.name) t.code (device_with t.addr profile)) (omega arith)
        (short_call t.addr t.code)
    short_note (Refused t) events packet =
        at_most (323 * length t.parts + 20) 8192
        (flat_map (part_text_before profile modes) t.parts ++ refused_text t.sent t.at_read)
        (omega (arith, packet.few))
        (both (323 * length t.parts) 20 (flat_map (part_text_before profile modes) t.parts)
        (refused_text t.sent t.at_read) (short_before t.parts) (short_refused t.sent t.at_read))
    short_note (Alert t) events packet =
        at_most (7 + 2) 8192 (codes "device " ++ encode_lower (t.byte / 2 ∷ [])) (omega arith)
        (both 7 2 (codes "device ") (encode_lower (t.byte / 2 ∷ [])) (plain (codes "device ") refl)
        (hex_no_lf (t.byte / 2)))
    short_note NoAlert events packet = at_most 9 8192 (codes "no device") (omega arith) (plain (codes "no device") refl)
