-- The front of an event, by its words: for `front_of`.
use Rattle.std.proofs.Common.{◌≡◌, ◌<◌, ◌*◌, ◌+◌, ℕ, Option, Some, None, List, [], ◌∷◌, arith, refl, codes}
use Rattle.hex.specs.Hex.{hex_digit_value}
use Rattle.pmb_words.specs.Numbers.{with_digit}
use Rattle.pmb_words.specs.Parts.{after}
use Rattle.pmb_trace.specs.Fields.{Number, behind, command_field, one_or_two_digits, valued}
use Rattle.pmb_trace.specs.Views.{value_of}
use Rattle.pmb_smbus.specs.Events.{front, has_code}
use Rattle.pmb_smbus.specs.declared.protocol.Protocol.{Protocol}

-- a front that lacks a word
pub no_command : (address flags command : Option Number) (protocol : Option Protocol)
    → None ≡ value_of command → None ≡ front address flags command protocol
no_command (Some address) (Some flags) None protocol is = refl
no_command (Some address) (Some flags) (Some command) protocol is = cc
no_command (Some address) None command protocol is = refl
no_command None flags command protocol is = refl

pub no_protocol : (address flags command : Option Number) (protocol : Option Protocol)
    → None ≡ protocol → None ≡ front address flags command protocol
no_protocol (Some address) (Some flags) (Some command) None is = refl
no_protocol (Some address) (Some flags) (Some command) (Some protocol) is = cc
no_protocol (Some address) (Some flags) None protocol is = refl
no_protocol (Some address) None command protocol is = refl
no_protocol None flags command protocol is = refl

-- one that has all
pub whole_front : (address flags command : Option Number) (protocol : Option Protocol)
    (a c k : ℕ) (f : Number) (p : Protocol)
    → Some a ≡ value_of address → Some f ≡ flags → Some c ≡ value_of command → Some p ≡ protocol → k ≡ c
    → Some (record {
      head = record { address = a; command = k; protocol = p; has_code = has_code f.value };
      flags = f;
    }) ≡ front address flags command protocol
whole_front (Some address) (Some flags) (Some command) (Some protocol) a c k f p is_a is_f is_c is_p same =
    let address_is : a ≡ address.value = cc in
    let flags_is : f ≡ flags = cc in
    let command_is : k ≡ command.value = cc in
    let protocol_is : p ≡ protocol = cc in
    rw (address_is, flags_is, command_is, protocol_is) refl
whole_front (Some address) (Some flags) (Some command) None a c k f p is_a is_f is_c is_p same = cc
whole_front (Some address) (Some flags) None protocol a c k f p is_a is_f is_c is_p same = cc
whole_front (Some address) None command protocol a c k f p is_a is_f is_c is_p same = cc
whole_front None flags command protocol a c k f p is_a is_f is_c is_p same = cc

-- ---- a command code is a byte

digit_is_small : (digit value : ℕ) → hex_digit_value digit ≡ Some value → value < 16
digit_is_small digit value is = grind arith

one_is_small : (text : List ℕ) (digit : Option ℕ) (c : ℕ) → ((v : ℕ) → digit ≡ Some v → v < 16)
    → Some c ≡ value_of (valued text (with_digit (Some 0) digit)) → c < 256
one_is_small text (Some v) c small is =
    let same : c ≡ 0 * 16 + v = cc in
    let below : v < 16 = small v refl in
    omega arith
one_is_small text None c small is = cc

two_are_small : (text : List ℕ) (high low : Option ℕ) (c : ℕ)
    → ((v : ℕ) → high ≡ Some v → v < 16) → ((v : ℕ) → low ≡ Some v → v < 16)
    → Some c ≡ value_of (valued text (with_digit (with_digit (Some 0) high) low)) → c < 256
two_are_small text (Some v) (Some w) c small_high small_low is =
    let same : c ≡ (0 * 16 + v) * 16 + w = cc in
    let high_below : v < 16 = small_high v refl in
    let low_below : w < 16 = small_low w refl in
    omega arith
two_are_small text (Some v) None c small_high small_low is = cc
two_are_small text None low c small_high small_low is = cc

digits_are_small : (digits : List ℕ) (c : ℕ) → Some c ≡ value_of (one_or_two_digits digits) → c < 256
digits_are_small (a ∷ []) c is = one_is_small (a ∷ []) (hex_digit_value a) c (digit_is_small a) is
digits_are_small (a ∷ b ∷ []) c is =
    two_are_small (a ∷ b ∷ []) (hex_digit_value a) (hex_digit_value b) c (digit_is_small a) (digit_is_small b) is
digits_are_small [] c is = cc
digits_are_small (a ∷ b ∷ d ∷ rest) c is = cc

behind_is_small : (digits : Option (List ℕ)) (c : ℕ) → Some c ≡ value_of (behind one_or_two_digits digits) → c < 256
behind_is_small (Some digits) c is = digits_are_small digits c is
behind_is_small None c is = cc

pub command_is_small : (word : List ℕ) (c : ℕ) → Some c ≡ value_of (command_field word) → c < 256
command_is_small word c is = behind_is_small (after (codes "c=") word) c is
