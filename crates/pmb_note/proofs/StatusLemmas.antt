-- The names of status bits have at most 17 characters and no LF, and a register has one byte or
-- two. For `append_status` and `name_of_bit` of `src/status.rt`, and `name_of_bit` of
-- `pmb_json_fields`. The names are tested in the whole table, by computation.
use Rattle.std.proofs.Common.{◌≡◌, ◌≢◌, Bor, option_map, ℕ, ◌≤◌, sym, subst, Bool, true, false, ◌&&◌, cond, Option}
use Rattle.std.proofs.Common.{Some, None, List, [], ◌∷◌, length, reverse, nat_eq, slice_get, refl}
use Rattle.std.specs.Option.{option_flatten, IfSome}
use Rattle.std.specs.List.{list_all}
use Rattle.std.specs.Prelude.{nat_le, zero, suc}
use Rattle.std.proofs.lemmas.Bool.{and_parts, leb-true}
use Rattle.pmb_note.specs.Note.{status_text}
use Rattle.pmb_note.proofs.OneLine.{no_lf}
use Rattle.pmb_command.specs.StatusBits.{BitNames, status_bits, bit_text}

abbrev is_short : Option (List ℕ) → Bool
is_short None = true
is_short (Some name) = nat_le (length name) 17 && no_lf name

-- what is said of a name that is short
record IsShortName (name : List ℕ) : Type 0 where
  -- 17 characters at most, and no LF
  few : length name ≤ 17
  one : no_lf name ≡ true

short_at : (name : Option (List ℕ)) → is_short name ≡ true → IfSome name IsShortName
short_at None is = tt
short_at (Some name) is =
    let parts = and_parts (nat_le (length name) 17) (no_lf name) is in
    record { few = leb-true (length name) 17 parts.0; one = parts.1 }

all_short : (names : BitNames) → list_all is_short names ≡ true → (bit : ℕ)
    → IfSome (option_flatten (slice_get names bit)) IsShortName
all_short [] are bit = tt
all_short (name ∷ names) are zero = short_at name (and_parts (is_short name) (list_all is_short names) are).0
all_short (name ∷ names) are (suc bit) = all_short names (and_parts (is_short name) (list_all is_short names) are).1 bit

-- Each name of a register's bits is short, by the test.
record AreShort (names : BitNames) : Type 0 where
  each : list_all is_short (reverse names) ≡ true

chosen : (b : Bool) {names others : BitNames} → AreShort names → AreShort others → AreShort (cond b names others)
chosen true these those = these
chosen false these those = those

status_bits_are_short : (code : ℕ) → AreShort (status_bits code)
unfolding status_bits
status_bits_are_short code =
    -- STATUS_BYTE 0x78, STATUS_WORD 0x79, STATUS_VOUT 0x7a, STATUS_IOUT 0x7b, STATUS_INPUT 0x7c,
    -- STATUS_TEMPERATURE 0x7d, STATUS_CML 0x7e, STATUS_FANS_1_2 0x81; no others have names
    chosen (nat_eq code 0x78) (record { each = refl })
    (chosen (nat_eq code 0x79) (record { each = refl }) (chosen (nat_eq code 0x7a) (record { each = refl })
    (chosen (nat_eq code 0x7b) (record { each = refl })
    (chosen (nat_eq code 0x7c) (record { each = refl }) (chosen (nat_eq code 0x7d) (record { each = refl })
    (chosen (nat_eq code 0x7e) (record { each = refl })
    (chosen (nat_eq code 0x81) (record { each = refl }) (record { each = refl }))))))))

are_short_names : (code bit : ℕ) → IfSome (bit_text code bit) IsShortName
unfolding bit_text
are_short_names code bit = all_short (reverse (status_bits code)) (status_bits_are_short code).each bit

weaker : {P Q : List ℕ → Type 0} (name : Option (List ℕ)) → ((text : List ℕ) → P text → Q text) → IfSome name P
    → IfSome name Q
weaker None less is = tt
weaker (Some text) less is = less text is

-- no name of a status bit is longer than 17 characters
pub names_are_short : (code bit : ℕ) → IfSome (bit_text code bit) (λ text. length text ≤ 17)
names_are_short code bit = weaker (bit_text code bit) (λ text is. is.few) (are_short_names code bit)

-- .. or has an LF
pub names_have_no_lf : (code bit : ℕ) → IfSome (bit_text code bit) (λ text. no_lf text ≡ true)
names_have_no_lf code bit = weaker (bit_text code bit) (λ text is. is.one) (are_short_names code bit)

-- .. nor is a text that is one
pub short_name : (found : Option (Bor (List ℕ))) (code bit : ℕ) → option_map (λ (text : Bor (List ℕ)). text.now) found
    ≡ bit_text code bit → IfSome found (λ text. length text.now ≤ 17)
short_name None code bit is = tt
short_name (Some text) code bit is = subst (λ (name : Option (List ℕ)). IfSome name (λ t. length t ≤ 17)) (sym is)
    (names_are_short code bit)

-- ---- texts of registers

-- a register has one byte or two
pub no_register : (code : ℕ) (bytes : List ℕ) → length bytes ≢ 1 → length bytes ≢ 2 → status_text code bytes ≡ []
no_register code [] one two = refl
no_register code (a ∷ []) one two = absurd (one refl)
no_register code (a ∷ b ∷ []) one two = absurd (two refl)
no_register code (a ∷ b ∷ c ∷ bytes) one two = refl
