-- The bytes that a device gives to the Asks after its read address are those of its reply, one
-- after the other. For the law `runs_are_exchanges` (`Asking` uses it). With k Asks answered so
-- far, each with an ACK after it, the device gives the byte at place k of its reply; no other
-- device gives one. The last part compares what was to be read with what the device has: one wire
-- of a form is as long as another, or its first byte says how long it is.
use Rattle.std.proofs.Common.{◌≡◌, ℕ, zero, suc, ◌<◌, ◌≤◌, ◌⊎◌, inl, inr, Bool, false, ◌||◌, if◌then◌else◌, Option}
use Rattle.std.proofs.Common.{Some, None, Result, Ok, Err, List, [], ◌∷◌, ◌++◌, length, drop, refl, sym, ap, subst, ◌∙◌}
use Rattle.std.proofs.Common.{append_assoc, length-append, arith}
use Rattle.std.specs.List.{AllByRecursion, Contains, slice_get}
use Rattle.std.proofs.Math.Seq.{drop-cons}
use Rattle.std.proofs.lemmas.Option.{get_or_from_slice_get, slice_get_within}
use Rattle.pmb_bus.specs.Address.{read_address, write_address}
use Rattle.pmb_command.specs.declared.form.Form.{Form}
use Rattle.pmb_command.specs.declared.form.Form.TheVariants.{Zero, One, Two, Four, Eight, Block}
use Rattle.pmb_command.specs.Parts.{DeviceParts}
use Rattle.pmb_command.specs.Wire.{Takes, wire}
use Rattle.pmb_transaction.specs.Body.{IsFormOfRequest, IsRequest}
use Rattle.pmb_registers.specs.declared.cml_bit.CmlBit.{CmlBit}
use Rattle.pmb_registers.specs.Answer.{answer}
use Rattle.pmb_registers.specs.State.{InState}
use Rattle.pmb_device.specs.declared.signal.HostSignal.{HostSignal}
use Rattle.pmb_device.specs.declared.signal.HostSignal.TheVariants.{Start, Byte, Ask, Ack, Nack, Stop}
use Rattle.pmb_device.specs.declared.signal.DeviceSignal.{DeviceSignal}
use Rattle.pmb_device.specs.declared.signal.DeviceSignal.TheVariants as answers
use Rattle.pmb_device.specs.Legs.{Leg, Legs, Inside, sent, with_signal}
use Rattle.pmb_device.specs.Rules.{AnswersAddress, AnswersAsk, IsRead, IsReplyTo, byte_or_silent, given_behind}
use Rattle.pmb_device.specs.Rules.{is_ended, next_of, taken_or_not, waits_behind, written, read, others, replies}
use Rattle.pmb_device.specs.Rules.{not_read}
use Rattle.pmb_devices.specs.Bus.{AreAnswered, AnsweredSignal, BusAnswers}
use Rattle.pmb_devices.proofs.Givers.{member_answers, no_read_address}
use Rattle.pmb_devices.proofs.OwnLegs.{byte_leg, sent_bytes}
use Rattle.pmb_devices.proofs.ReplyGivers.{reply_of}
use Rattle.pmb_host.specs.Signals.{reading_signals}
use Rattle.pmb_host.specs.Steps.{GoWell, IsGood, byte_of, bytes_read, sent_signals}
use Rattle.pmb_exchange.proofs.Places.{legs_by}
use Rattle.pmb_exchange.proofs.Signals.{asks}
use Rattle.pmb_exchange.proofs.Stops.{IsWritten}

-- ---- Asks and ACKs

-- one more of each
pub asks_more : (k : ℕ) → (asks k ++ Ask ∷ []) ++ Ack ∷ [] ≡ asks (suc k)
asks_more zero = refl
asks_more (suc k) = ap (λ (xs : List HostSignal). Ask ∷ Ack ∷ xs) (asks_more k)

-- they stand in the leg
pub legs_by_asks : (earlier : List Leg) (leg : Leg) (n : ℕ) → legs_by (Inside earlier leg) (asks n)
    ≡ Inside earlier (leg ++ asks n)
legs_by_asks earlier leg zero = ap (Inside earlier) (nil leg)
  where
    nil : (l : Leg) → l ≡ l ++ []
    nil [] = refl
    nil (s ∷ l) = ap (λ (m : Leg). s ∷ m) (nil l)
legs_by_asks earlier leg (suc n) =
    legs_by_asks earlier ((leg ++ Ask ∷ []) ++ Ack ∷ []) n
    ∙ ap (Inside earlier) (append_assoc (leg ++ Ask ∷ []) (Ack ∷ []) (asks n)
    ∙ append_assoc leg (Ask ∷ []) (Ack ∷ asks n))

module _ (device : DeviceParts) where
  ended_asks : (k : ℕ) → is_ended device (asks k) ≡ false
  ended_asks zero = refl
  ended_asks (suc k) = ended_asks k

  waits_asks : (k : ℕ) → waits_behind device false (asks k) ≡ false
  waits_asks zero = refl
  waits_asks (suc k) = waits_asks k

  given_asks : (k : ℕ) → given_behind device false (asks k) ≡ k
  given_asks zero = refl
  given_asks (suc k) = omega (arith, given_asks k)

  -- After so many Asks and ACKs the byte at that place comes next.
  pub next_asks : (all : List ℕ) (k : ℕ) → next_of device all (asks k) ≡ byte_or_silent device (slice_get all k)
  next_asks all k =
      let chosen = λ (ended waits : Bool) (n : ℕ). if ended || waits then answers.Silent else byte_or_silent device
      (slice_get all n) in
      ap (λ (b : Bool). chosen b (waits_behind device false (asks k)) (given_behind device false (asks k)))
      (ended_asks k)
      ∙ ap (λ (b : Bool). chosen false b (given_behind device false (asks k))) (waits_asks k)
      ∙ ap (chosen false false) (given_asks k)

  byte_chosen : (o : Option ℕ) (b : ℕ) → byte_or_silent device o ≡ answers.Byte b → o ≡ Some b
  byte_chosen None b is = absurd (cc is)
  byte_chosen (Some c) b is = ap (λ (n : ℕ). Some n) (cc is)

-- the bytes from one on
from_here : (all : List ℕ) (n b : ℕ) → slice_get all n ≡ Some b → drop n all ≡ b ∷ drop (suc n) all
from_here all n b is =
    let small = slice_get_within all n b is in
    let value = get_or_from_slice_get all n b b is in
    rw (drop-cons all n b small, value) refl

-- a place within bytes has one
pub byte_at : (all : List ℕ) (n : ℕ) → n < length all → (b : ℕ) × (slice_get all n ≡ Some b)
byte_at [] n small = absurd (omega (arith, small))
byte_at (b ∷ all) zero small = (b, refl)
byte_at (b ∷ all) (suc n) small = byte_at all n (omega (arith, small))

-- ---- the device that is read

module _ (members : List InState) (member : InState) (in_bus : Contains members member)
    (same : (m : InState) → Contains members m → m.device.address ≡ member.device.address → m ≡ member) (body : List ℕ)
    (form : Form)
    (only : (f : Form) → IsFormOfRequest member.device f body → f ≡ form) (request : IsRequest member.device body) where
  -- the leg in which it is asked
  abbrev pub asking_leg : Leg
  asking_leg = byte_leg (write_address member.device.address ∷ body)

  -- the device is read after it
  is_read : IsRead member.device (asking_leg ∷ []) (read_address member.device.address) body
  is_read = record {
    own = refl;
    asked = record {
      first = asking_leg;
      alone = refl;
      own =
          sent_bytes (write_address member.device.address ∷ body);
      request = request;
    };
  }

  -- and was asked this body alone
  body_read : (address : ℕ) (other : List ℕ) → IsRead member.device (asking_leg ∷ []) address other → other ≡ body
  body_read address other is =
      let first : asking_leg ≡ is.asked.first = cc (is.asked.alone) in
      let rows : write_address member.device.address ∷ other ≡ write_address member.device.address ∷ body =
      sym is.asked.own ∙ ap sent (sym first) ∙ sent_bytes (write_address member.device.address ∷ body) in
      cc rows

  -- ---- its address for reading

  address_answer : (result : DeviceSignal)
      → AnswersAddress member.device member.state (asking_leg ∷ []) (read_address member.device.address) result
      → result ≡ taken_or_not member.device (answer member.device member.state body)
  address_answer result (written own ack) =
      absurd (no_read_address member.device.address member.device.address (sym own.own))
  address_answer result (read other is taken) =
      taken ∙ ap (λ (bs : List ℕ). taken_or_not member.device (answer member.device member.state bs))
      (body_read (read_address member.device.address) other is)
  address_answer result (others none nor silent) = absurd (nor body is_read)

  not_silent : (r : Result (List ℕ) CmlBit) → answers.Silent ≡ taken_or_not member.device r → ⊥
  not_silent (Ok reply) is = cc is
  not_silent (Err bit) is = cc is

  -- The bus answers it as the device does: ACK, or NACK where it refuses to be read.
  pub read_answer : (result : DeviceSignal)
      → BusAnswers members (Inside (asking_leg ∷ []) []) (Byte (read_address member.device.address)) result
      → result ≡ taken_or_not member.device (answer member.device member.state body)
  read_answer result bus =
      elim (member_answers members member in_bus (Inside (asking_leg ∷ []) [])
      (Byte (read_address member.device.address)) result bus) [
        | inl answered ↦ address_answer result answered
        | inr silent ↦ absurd (not_silent (answer member.device member.state body)
            (address_answer answers.Silent silent))
      ]

  -- ---- the bytes of its reply

  module _ (reply : List ℕ) (ok : answer member.device member.state body ≡ Ok reply) where
    -- all of them
    abbrev pub all_bytes : List ℕ
    all_bytes = reply_of member.device body form reply

    replied_all : (other replied all : List ℕ) → other ≡ body → answer member.device member.state other ≡ Ok replied
        → IsReplyTo member.device other replied all
        → all ≡ all_bytes
    replied_all other replied all body_is also is =
        let form_is : is.form ≡ form = only is.form
        (subst (λ (bs : List ℕ). IsFormOfRequest member.device is.form bs) body_is is.asked) in
        let rows : Ok replied ≡ Ok reply = sym also ∙ ap (answer member.device member.state) body_is ∙ ok in
        let reply_is : replied ≡ reply = cc rows in
        is.spelled ∙ ap (λ (bs : List ℕ). reply_of member.device bs is.form replied) body_is
        ∙ ap (λ (f : Form). reply_of member.device body f replied) form_is
        ∙ ap (reply_of member.device body form) reply_is

    ask_answer : (k : ℕ) (result : DeviceSignal)
        → AnswersAsk member.device member.state (asking_leg ∷ []) (Byte (read_address member.device.address) ∷ asks k)
        result
        → result ≡ byte_or_silent member.device (slice_get all_bytes k)
    ask_answer k result (replies address bytes sent_is other is replied all also spelled given) =
        given
        ∙ ap (λ (bs : List ℕ). next_of member.device bs (asks k))
        (replied_all other replied all (body_read address other is) also spelled)
        ∙ next_asks member.device all_bytes k
    ask_answer k result (not_read none given) =
        absurd (none (read_address member.device.address) (sent (asks k)) refl body is_read reply ok)

    -- An Ask after some gets the byte at its place, where there is one.
    pub ask_given : (k b : ℕ) (result : DeviceSignal) → slice_get all_bytes k ≡ Some b
        → BusAnswers members (Inside (asking_leg ∷ []) (Byte (read_address member.device.address) ∷ asks k)) Ask result
        → result ≡ answers.Byte b
    ask_given k b result there bus =
        let byte = ap (λ (o : Option ℕ). byte_or_silent member.device o) there in
        elim (member_answers members member in_bus
        (Inside (asking_leg ∷ []) (Byte (read_address member.device.address) ∷ asks k)) Ask result bus) [
          | inl answered ↦ ask_answer k result answered ∙ byte
          | inr silent ↦ absurd (cc (ask_answer k answers.Silent silent ∙ byte))
        ]

    -- a byte that the bus gives is the device's
    giver : (m : InState) (k b : ℕ) → Contains members m
        → AnswersAsk m.device m.state (asking_leg ∷ []) (Byte (read_address member.device.address) ∷ asks k)
        (answers.Byte b) → m ≡ member
    giver m k b there (replies address bytes sent_is other is replied all also spelled given) =
        let first : asking_leg ≡ is.asked.first = cc (is.asked.alone) in
        let rows : write_address m.device.address ∷ other ≡ write_address member.device.address ∷ body =
        sym is.asked.own ∙ ap sent (sym first) ∙ sent_bytes (write_address member.device.address ∷ body) in
        let address_is : write_address m.device.address ≡ write_address member.device.address = cc rows in
        same m there (omega (arith, address_is))
    giver m k b there (not_read none given) = absurd (cc given)

    bus_gives : (k b : ℕ) → BusAnswers members
        (Inside (asking_leg ∷ []) (Byte (read_address member.device.address) ∷ asks k)) Ask (answers.Byte b)
        → byte_or_silent member.device (slice_get all_bytes k) ≡ answers.Byte b
    bus_gives k b bus =
        let one = bus.given_by_one (λ silent. cc silent) in
        let answered =
        subst (λ (m : InState). AnswersAsk m.device m.state (asking_leg ∷ [])
        (Byte (read_address member.device.address) ∷ asks k) (answers.Byte b))
        (giver one.0 k b one.1 one.2) one.2 in
        sym (ask_answer k (answers.Byte b) answered)

    -- So a byte that was read is the one at its place.
    one_read : (k : ℕ) (signal : HostSignal) (result : DeviceSignal) → signal ≡ Ask
        → BusAnswers members (Inside (asking_leg ∷ []) (Byte (read_address member.device.address) ∷ asks k)) signal
        result → IsGood signal result
        → (b : ℕ) × (byte_of signal result ≡ b ∷ []) × (drop k all_bytes ≡ b ∷ drop (suc k) all_bytes)
    one_read k signal result is bus good =
        let given = subst (λ (s : HostSignal). IsGood s result) is good in
        let b = given.0 in
        let bus_byte =
        subst (BusAnswers members (Inside (asking_leg ∷ []) (Byte (read_address member.device.address) ∷ asks k)) Ask)
        given.1
        (subst (λ (s : HostSignal). BusAnswers members
        (Inside (asking_leg ∷ []) (Byte (read_address member.device.address) ∷ asks k)) s result) is bus) in
        let there = byte_chosen member.device (slice_get all_bytes k) b (bus_gives k b bus_byte) in
        (b, ap (λ (s : HostSignal). byte_of s result) is ∙ ap (byte_of Ask) given.1, from_here all_bytes k b there)

    -- The bytes that were read are the first ones of the reply.
    pub read_so_far : (asked : List ℕ) (k : ℕ) (heard : List AnsweredSignal) (more : List HostSignal)
        → reading_signals asked ++ Stop ∷ [] ≡ sent_signals heard ++ more
        → AreAnswered members (Inside (asking_leg ∷ []) (Byte (read_address member.device.address) ∷ asks k)) heard
        → GoWell heard
        → (rest : List ℕ) × (drop k all_bytes ≡ bytes_read heard ++ rest)
    -- nothing heard yet
    read_so_far asked k [] more is answered well = (drop k all_bytes, refl)
    -- the host reads no byte: then it sends no Ask
    read_so_far [] k (one ∷ heard) more is answered well = absurd (answered.0 (cc is))
    -- the last byte to be read: its Ask,
    read_so_far (b ∷ []) k (one ∷ []) more is answered well =
        let first = one_read k one.signal one.result (cc is) answered.1 well.0 in
        (drop (suc k) all_bytes, first.2 ∙ ap (λ (bs : List ℕ). (bs ++ []) ++ drop (suc k) all_bytes) (sym first.1))
    -- its Ask and the NACK after it, which gives no byte,
    read_so_far (b ∷ []) k (one ∷ two ∷ []) more is answered well =
        let first = one_read k one.signal one.result (cc is) answered.1 well.0 in
        let second : two.signal ≡ Nack = cc is in
        let none : byte_of two.signal two.result ≡ [] = ap (λ (s : HostSignal). byte_of s two.result) second in (
          drop (suc k) all_bytes,
          first.2 ∙ ap (λ (bs : List ℕ). (bs ++ ([] ++ [])) ++ drop (suc k) all_bytes) (sym first.1)
              ∙ ap (λ (bs : List ℕ). (byte_of one.signal one.result ++ (bs ++ [])) ++ drop (suc k) all_bytes)
              (sym none),
        )
    -- and nothing after them but STOP
    read_so_far (b ∷ []) k (one ∷ two ∷ three ∷ heard) more is answered well = absurd (answered.2.2.0 (cc is))
    -- a byte before the last one: its Ask,
    read_so_far (b ∷ c ∷ asked) k (one ∷ []) more is answered well =
        let first = one_read k one.signal one.result (cc is) answered.1 well.0 in
        (drop (suc k) all_bytes, first.2 ∙ ap (λ (bs : List ℕ). (bs ++ []) ++ drop (suc k) all_bytes) (sym first.1))
    -- or its Ask, its ACK, and what comes after
    read_so_far (b ∷ c ∷ asked) k (one ∷ two ∷ heard) more is answered well =
        let r = read_address member.device.address in
        let first_is : one.signal ≡ Ask = cc is in
        let second : two.signal ≡ Ack = cc is in
        let rest_is : reading_signals (c ∷ asked) ++ Stop ∷ [] ≡ sent_signals heard ++ more = cc is in
        let first = one_read k one.signal one.result first_is answered.1 well.0 in
        let none : byte_of two.signal two.result ≡ [] = ap (λ (s : HostSignal). byte_of s two.result) second in
        -- the device stands one Ask further on,
        let legs_are : with_signal (with_signal (Inside (asking_leg ∷ []) (Byte r ∷ asks k)) one.signal) two.signal
        ≡ Inside (asking_leg ∷ []) (Byte r ∷ asks (suc k)) =
        ap (λ (s : HostSignal). with_signal (with_signal (Inside (asking_leg ∷ []) (Byte r ∷ asks k)) s) two.signal)
        first_is
        ∙ ap (λ (s : HostSignal). with_signal (Inside (asking_leg ∷ []) ((Byte r ∷ asks k) ++ Ask ∷ [])) s) second
        ∙ ap (λ (l : Leg). Inside (asking_leg ∷ []) (Byte r ∷ l)) (asks_more k) in
        -- so the bytes after it are those from the next place on
        let later =
        read_so_far (c ∷ asked) (suc k) heard more rest_is
        (subst (λ (ls : Legs). AreAnswered members ls heard) legs_are answered.2.2) well.1.1 in (
          later.0,
          first.2 ∙ ap (λ (bs : List ℕ). first.0 ∷ bs) later.1
              ∙ ap (λ (bs : List ℕ). (bs ++ ([] ++ bytes_read heard)) ++ later.0) (sym first.1)
              ∙ ap (λ (bs : List ℕ). (byte_of one.signal one.result ++ (bs ++ bytes_read heard)) ++ later.0) (sym none),
        )

-- ---- how many bytes were read

-- as many as were asked for
pub count_read : (n : ℕ) (heard : List AnsweredSignal) → sent_signals heard ≡ asks n → GoWell heard
    → length (bytes_read heard) ≡ n
count_read zero [] is well = refl
count_read zero (one ∷ heard) is well = absurd (cc is)
count_read (suc n) [] is well = absurd (cc is)
count_read (suc n) (one ∷ []) is well = absurd (cc is)
count_read (suc n) (one ∷ two ∷ heard) is well =
    let first : one.signal ≡ Ask = cc is in
    let second : two.signal ≡ Ack = cc is in
    let rest : sent_signals heard ≡ asks n = cc is in
    let given = subst (λ (s : HostSignal). IsGood s one.result) first well.0 in
    let byte : byte_of one.signal one.result ≡ given.0 ∷ [] = ap (λ (s : HostSignal). byte_of s one.result) first
    ∙ ap (byte_of Ask) given.1 in
    let none : byte_of two.signal two.result ≡ [] = ap (λ (s : HostSignal). byte_of s two.result) second in
    let both =
    ap (λ (bs : List ℕ). length (bs ++ (byte_of two.signal two.result ++ bytes_read heard))) byte
    ∙ ap (λ (bs : List ℕ). length ((given.0 ∷ []) ++ (bs ++ bytes_read heard))) none in
    both ∙ ap suc (count_read n heard rest well.1.1)

-- signals of written legs read none
no_bytes : (signal : HostSignal) (result : DeviceSignal) → IsWritten signal → byte_of signal result ≡ []
no_bytes Start result is = refl
no_bytes (Byte b) result is = refl
no_bytes Ask result is = absurd is
no_bytes Ack result is = absurd is
no_bytes Nack result is = absurd is
no_bytes Stop result is = absurd is

pub reads_none : (heard : List AnsweredSignal) (xs : List HostSignal) → sent_signals heard ≡ xs
    → AllByRecursion IsWritten xs → bytes_read heard ≡ []
reads_none [] xs is all = refl
reads_none (one ∷ heard) [] is all = absurd (cc is)
reads_none (one ∷ heard) (x ∷ xs) is all =
    let here : one.signal ≡ x = cc is in
    let rest : sent_signals heard ≡ xs = cc is in
    ap (λ (bs : List ℕ). bs ++ bytes_read heard) (no_bytes one.signal one.result (subst IsWritten (sym here) all.0))
    ∙ reads_none heard xs rest all.1

-- ---- two wires that begin alike

-- as many bytes of data are as long on the wire
long_wire : (form : Form) (a b : List ℕ) → length a ≡ length b → length (wire form a) ≡ length (wire form b)
long_wire Zero a b same = same
long_wire One a b same = same
long_wire Two a b same = same
long_wire Four a b same = same
long_wire Eight a b same = same
long_wire Block a b same = ap suc same

-- Bytes that were read, of a wire as long as another that begins so: if one goes on so does the
-- other.
pub goes_on_too : (form : Form) (told reply code behind bytes to_read rest : List ℕ) → Takes form (length told)
    → Takes form (length reply)
    → length code ≤ length behind → bytes ++ to_read ≡ wire form told ++ code
    → bytes ++ rest ≡ wire form reply ++ behind
    → length bytes < length (bytes ++ to_read) → length bytes < length (bytes ++ rest)
goes_on_too form told reply code behind bytes to_read rest takes also few is other more =
    let long = ap length is ∙ length-append (wire form told) code in
    let long_other = ap length other ∙ length-append (wire form reply) behind in
    elim (by_form form bytes takes also is other) [
      | inl same ↦ omega (arith, long_wire form told reply same, long, long_other, few, more)
      | inr first ↦ omega (arith, first.0, first.1, long_other)
    ]
  where
    block : (bytes : List ℕ) → bytes ++ to_read ≡ wire Block told ++ code → bytes ++ rest ≡ wire Block reply ++ behind
        → (length told ≡ length reply) ⊎ ((length bytes ≡ 0) × (1 ≤ length (wire Block reply)))
    block [] is other = inr (refl, omega arith)
    block (b ∷ bytes) is other =
        let count : b ≡ length told = cc is in
        let also : b ≡ length reply = cc other in
        inl (sym count ∙ also)

    by_form : (form : Form) (bytes : List ℕ) → Takes form (length told) → Takes form (length reply)
        → bytes ++ to_read ≡ wire form told ++ code
        → bytes ++ rest ≡ wire form reply ++ behind
        → (length told ≡ length reply) ⊎ ((length bytes ≡ 0) × (1 ≤ length (wire form reply)))
    by_form Zero bytes takes also is other = inl (takes ∙ sym also)
    by_form One bytes takes also is other = inl (takes ∙ sym also)
    by_form Two bytes takes also is other = inl (takes ∙ sym also)
    by_form Four bytes takes also is other = inl (takes ∙ sym also)
    by_form Eight bytes takes also is other = inl (takes ∙ sym also)
    by_form Block bytes takes also is other = block bytes is other
