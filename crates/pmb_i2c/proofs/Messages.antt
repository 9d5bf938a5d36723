-- The signals of a message, put together of those that its functions give.
use Rattle.std.proofs.Common.{◌≡◌, ◌∙◌, ℕ, ◌+◌, ◌<◌, suc, refl, sym, subst, ap, List, [], ◌∷◌, ◌++◌, Result, Ok, Err}
use Rattle.std.proofs.Common.{Bool, false, zero, ◌==◌, append_assoc, length, take, drop, get_or, arith}
use Rattle.std.specs.Prelude.{is_err}
use Rattle.std.proofs.lemmas.List.{append-nil, drop-set-lt, length-set, map-append, take_all, take_more, take_more_set}
use Rattle.std.proofs.lemmas.Slice.{drop-put_mid, take-put_mid}
use Rattle.std.proofs.Math.ListN.{set}
use borrow.Rule.Slice.PartMut.{put_mid}
use Rattle.pmb_bus.specs.declared.event.Event.{Event}
use Rattle.pmb_device.specs.declared.signal.HostSignal.TheVariants.{Byte, Ack}
use Rattle.pmb_device.specs.declared.signal.DeviceSignal.TheVariants as answers
use Rattle.pmb_devices.specs.declared.bus.Bus.{Bus}
use Rattle.pmb_devices.specs.Bus.{AnsweredSignal}
use Rattle.pmb_i2c.specs.declared.message.MessageEnd.{MessageEnd}
use Rattle.pmb_i2c.specs.declared.message.MessageFault.{MessageFault}
use Rattle.pmb_i2c.specs.declared.message.MessageFault.TheVariants.{NoDevice}
use Rattle.pmb_i2c.specs.Message.{BeginsAt, EndsBy, IsMessage, ReadsOn, ReadsByte, answered, stops, taken}
use Rattle.pmb_i2c.specs.Message.BeginsAt.{found, none}
use Rattle.pmb_i2c.specs.Signals.{Gives}
use Rattle.pmb_i2c.proofs.InTurn.{gives_as, gives_both}

-- ---- bytes that are written

-- one more byte that a device took
pub taken_more : (bytes : List ℕ) (i : ℕ) → i < length bytes
    → taken (take i bytes) ++ answered (Byte (get_or bytes i 0)) answers.Ack ∷ [] ≡ taken (take (i + 1) bytes)
taken_more bytes i below =
    sym (ap taken (take_more bytes i 0 below)
    ∙ map-append (λ byte. answered (Byte byte) answers.Ack) (take i bytes) (get_or bytes i 0 ∷ []))

-- ---- bytes that are read

pub reads_more : (bytes : List ℕ) (byte : ℕ) (heard one : List AnsweredSignal) → ReadsOn bytes heard
    → ReadsByte Ack byte one → ReadsOn (bytes ++ byte ∷ []) (heard ++ one)
reads_more [] byte heard one read reads =
    (one, [], ap (λ (l : List AnsweredSignal). l ++ one) read ∙ sym (append-nil one), reads, refl)
reads_more (b ∷ bytes) byte heard one read reads = (
  read.0,
  read.1 ++ one,
  ap (λ (l : List AnsweredSignal). l ++ one) read.2 ∙ append_assoc read.0 read.1 one,
  read.3,
  reads_more bytes byte read.1 one read.4 reads,
)

-- where a list isn't empty
pub has_some : (n : ℕ) → (n == 0) ≡ false → 0 < n
has_some zero is_none = absurd (cc is_none)
has_some (suc n) is_some = omega arith

-- the last byte, written after those before it
pub set_last : (bytes : List ℕ) (i last byte : ℕ) → i ≡ last → i + 1 ≡ length bytes
    → set bytes last byte ≡ take i bytes ++ byte ∷ []
set_last bytes i last byte is_last ends =
    ap (λ (n : ℕ). set bytes n byte) (sym is_last)
    ∙ (sym (take_all (i + 1) (set bytes i byte) (omega (arith, length-set bytes i byte)))
    ∙ take_more_set bytes i byte (omega arith))

-- a count, and the bytes that were read after it
pub counted_bytes : (bytes block : List ℕ) (count n k : ℕ) → n ≡ 1 + length block → 0 < length bytes
    → take n (put_mid 1 k (set bytes 0 count) block) ≡ count ∷ block
counted_bytes bytes block count n k length_is some =
    take-put_mid 1 k (set bytes 0 count) block n length_is (omega (arith, length-set bytes 0 count))
    ∙ ap (λ (l : List ℕ). l ++ block) (take_more_set bytes 0 count some)

-- those after them stay
pub counted_rest : (bytes block : List ℕ) (count n k : ℕ) → n ≡ 1 + k → length block ≡ k → 0 < length bytes
    → drop n (put_mid 1 k (set bytes 0 count) block) ≡ drop n bytes
counted_rest bytes block count n k length_is block_is some =
    drop-put_mid 1 k (set bytes 0 count) block n (omega arith) (omega (arith, length-set bytes 0 count)) block_is
    ∙ drop-set-lt n bytes 0 count (omega arith)

-- ---- the message

begun_fault : (address_byte : ℕ) (fault : MessageFault) (heard : List AnsweredSignal)
    → BeginsAt address_byte (Err fault) heard → fault ≡ NoDevice
begun_fault address_byte fault heard (found start done signals) = cc done
begun_fault address_byte fault heard (none start answer last not_ack failed signals) = cc failed

-- no device took the address
pub fails : {T : Type 0} {address address_byte given : ℕ} {Bytes : List AnsweredSignal → Type 0} {end : MessageEnd}
    {fault : MessageFault} {old new : Bus} {Before After : List Event → Type 0} → address < 128
    → given ≡ address_byte → Gives (BeginsAt given (Err fault)) old new Before After
    → Gives (IsMessage {T = T} address address_byte Bytes end (Err fault)) old new Before After
fails {T = T} {given = given} {fault = fault} below is_byte gives =
    gives_as gives (λ heard begins.
    let is_fault = begun_fault given fault heard begins in
    IsMessage.no_device below (ap (λ (f : MessageFault). let failed : Result T MessageFault = Err f in failed) is_fault)
    (subst (λ (b : ℕ). BeginsAt b (Err NoDevice) heard) is_byte
    (subst (λ (f : MessageFault). BeginsAt given (Err f) heard) is_fault begins)))

-- the bytes of a message, and its end
abbrev HasEnd : (List AnsweredSignal → Type 0) → Bool → List AnsweredSignal → Type 0
HasEnd Bytes stops_here heard =
    (xs : List AnsweredSignal) × (ys : List AnsweredSignal) × (heard ≡ xs ++ ys) × Bytes xs × EndsBy stops_here ys

-- a device took it, and the message went on
pub sends : {T : Type 0} {address address_byte given : ℕ} {Bytes : List AnsweredSignal → Type 0} {end : MessageEnd}
    {outcome : Result T MessageFault} {failed : Bool} {old first second new : Bus}
    {Before Begun Between After : List Event → Type 0} → address < 128
    → given ≡ address_byte → failed ≡ is_err outcome → Gives (BeginsAt given (Ok tt)) old first Before Begun
    → Gives Bytes first second Begun Between → Gives (EndsBy (stops end failed)) second new Between After
    → Gives (IsMessage {T = T} address address_byte Bytes end outcome) old new Before After
sends {Bytes = Bytes} {end = end} {failed = failed} below is_byte has_failed begins bytes ends =
    gives_both begins
    (gives_both {Both = HasEnd Bytes (stops end failed)} bytes ends (λ xs ys x y. (xs, ys, refl, x, y)))
    (λ xs ys x y.
    IsMessage.sent xs y.0 y.1 below (subst (λ (b : ℕ). BeginsAt b (Ok tt) xs) is_byte x) y.3
    (subst (λ (f : Bool). EndsBy (stops end f) y.1) has_failed y.4)
    (ap (λ (l : List AnsweredSignal). xs ++ l) y.2))
