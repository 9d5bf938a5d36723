-- The signals of a leg, and one more after them: the bytes sent, the address, and the counts of a
-- reply. For all steps of a `DevicePacket`. Each of them is known of two lists of signals from
-- what it is of either, so that one signal more is a short step.
use Rattle.std.proofs.Common.{◌≡◌, ℕ, ◌+◌, Bool, true, false, ◌||◌, List, [], ◌∷◌, ◌++◌, refl, ap, ◌∙◌, arith, nat_eq}
use Rattle.std.proofs.lemmas.List.{append-nil}
use Rattle.std.proofs.lemmas.List.Folds.{list_any-append}
use Rattle.pmb_command.specs.Parts.{DeviceParts}
use Rattle.pmb_device.specs.declared.signal.HostSignal.{HostSignal}
use Rattle.pmb_device.specs.declared.signal.HostSignal.TheVariants.{Start, Byte, Ask, Ack, Nack, Stop}
use Rattle.pmb_device.specs.Legs.{Leg, behind_address, is_first_byte, is_to, sent, some_is_to}
use Rattle.pmb_device.specs.Rules.{given_behind, is_ended, waits_behind}

-- ---- bytes

pub sent_both : (a b : Leg) → sent (a ++ b) ≡ sent a ++ sent b
sent_both [] b = refl
sent_both (Start ∷ a) b = sent_both a b
sent_both (Byte x ∷ a) b = ap (λ (bs : List ℕ). x ∷ bs) (sent_both a b)
sent_both (Ask ∷ a) b = sent_both a b
sent_both (Ack ∷ a) b = sent_both a b
sent_both (Nack ∷ a) b = sent_both a b
sent_both (Stop ∷ a) b = sent_both a b

-- after a signal with no byte
pub sent_same : (leg : Leg) (signal : HostSignal) → sent (signal ∷ []) ≡ [] → sent (leg ++ signal ∷ []) ≡ sent leg
sent_same leg signal none = sent_both leg (signal ∷ []) ∙ ap (λ (bs : List ℕ). sent leg ++ bs) none
    ∙ append-nil (sent leg)

-- after one more byte
pub sent_more : (leg : Leg) (byte : ℕ) → sent (leg ++ Byte byte ∷ []) ≡ sent leg ++ byte ∷ []
sent_more leg byte = sent_both leg (Byte byte ∷ [])

-- the first byte of a leg
pub first_byte : (leg : Leg) (byte : ℕ) → sent leg ≡ [] → sent (leg ++ Byte byte ∷ []) ≡ byte ∷ []
first_byte leg byte none = sent_more leg byte ∙ ap (λ (bs : List ℕ). bs ++ byte ∷ []) none

-- one byte after others
pub next_byte : (leg : Leg) (address : ℕ) (bytes : List ℕ) (byte : ℕ) → sent leg ≡ address ∷ bytes
    → sent (leg ++ Byte byte ∷ []) ≡ address ∷ bytes ++ byte ∷ []
next_byte leg address bytes byte is = sent_more leg byte ∙ ap (λ (bs : List ℕ). bs ++ byte ∷ []) is

-- ---- addresses

-- a leg begins with its first byte
pub is_to_first : (a address : ℕ) (bytes : List ℕ) (leg : Leg) → sent leg ≡ address ∷ bytes
    → is_to a leg ≡ nat_eq address a
is_to_first a address bytes leg is = ap (is_first_byte a) is

-- a leg without a byte has no address
pub is_to_none : (a : ℕ) (leg : Leg) → sent leg ≡ [] → is_to a leg ≡ false
is_to_none a leg is = ap (is_first_byte a) is

pub some_of_both : (a : ℕ) (legs more : List Leg)
    → some_is_to a (legs ++ more) ≡ (some_is_to a legs || some_is_to a more)
some_of_both a legs more = list_any-append (is_to a) legs more

-- ---- after the address

pub behind_more : (leg : Leg) (address : ℕ) (bytes : List ℕ) (more : Leg) → sent leg ≡ address ∷ bytes
    → behind_address (leg ++ more) ≡ behind_address leg ++ more
behind_more [] address bytes more is = cc is
behind_more (Start ∷ leg) address bytes more is = behind_more leg address bytes more is
behind_more (Byte b ∷ leg) address bytes more is = refl
behind_more (Ask ∷ leg) address bytes more is = behind_more leg address bytes more is
behind_more (Ack ∷ leg) address bytes more is = behind_more leg address bytes more is
behind_more (Nack ∷ leg) address bytes more is = behind_more leg address bytes more is
behind_more (Stop ∷ leg) address bytes more is = behind_more leg address bytes more is

-- nothing stands after the first byte
pub behind_first_byte : (leg : Leg) (byte : ℕ) → sent leg ≡ [] → behind_address (leg ++ Byte byte ∷ []) ≡ []
behind_first_byte [] byte is = refl
behind_first_byte (Start ∷ leg) byte is = behind_first_byte leg byte is
behind_first_byte (Byte b ∷ leg) byte is = cc is
behind_first_byte (Ask ∷ leg) byte is = behind_first_byte leg byte is
behind_first_byte (Ack ∷ leg) byte is = behind_first_byte leg byte is
behind_first_byte (Nack ∷ leg) byte is = behind_first_byte leg byte is
behind_first_byte (Stop ∷ leg) byte is = behind_first_byte leg byte is

-- ---- in a reply

module _ (device : DeviceParts) where
  pub ended_both : (a b : Leg) → is_ended device (a ++ b) ≡ (is_ended device a || is_ended device b)
  ended_both [] b = refl
  ended_both (Start ∷ a) b = ended_both a b
  ended_both (Byte x ∷ a) b = ended_both a b
  ended_both (Ask ∷ a) b = ended_both a b
  ended_both (Ack ∷ a) b = ended_both a b
  ended_both (Nack ∷ a) b = refl
  ended_both (Stop ∷ a) b = ended_both a b

  pub waits_both : (waiting : Bool) (a b : Leg) → waits_behind device waiting (a ++ b)
      ≡ waits_behind device (waits_behind device waiting a) b
  waits_both waiting [] b = refl
  waits_both waiting (Start ∷ a) b = waits_both waiting a b
  waits_both waiting (Byte x ∷ a) b = waits_both waiting a b
  waits_both waiting (Ask ∷ a) b = waits_both true a b
  waits_both waiting (Ack ∷ a) b = waits_both false a b
  waits_both waiting (Nack ∷ a) b = waits_both waiting a b
  waits_both waiting (Stop ∷ a) b = waits_both waiting a b

  pub given_both : (waiting : Bool) (a b : Leg)
      → given_behind device waiting (a ++ b) ≡ given_behind device waiting a + given_behind device
      (waits_behind device waiting a) b
  given_both waiting [] b = omega arith
  given_both waiting (Start ∷ a) b = given_both waiting a b
  given_both waiting (Byte x ∷ a) b = given_both waiting a b
  given_both true (Ask ∷ a) b = given_both true a b
  given_both false (Ask ∷ a) b = omega (arith, given_both true a b)
  given_both waiting (Ack ∷ a) b = given_both false a b
  given_both waiting (Nack ∷ a) b = given_both waiting a b
  given_both waiting (Stop ∷ a) b = given_both waiting a b
