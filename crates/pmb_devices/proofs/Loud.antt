-- At most one device of a bus is not silent at a signal: the one to whose address the leg under
-- way is. For `Bus::signal`. A device that answers is spoken to by one of its two address bytes,
-- and no two devices have one in common; so the last answer that is not silence is the one on the
-- bus.
use Rattle.std.proofs.Common.{◌≡◌, ◌≢◌, ℕ, zero, suc, ◌<◌, ◌⊎◌, inl, inr, false, List, [], ◌∷◌, length, map, get_or}
use Rattle.std.proofs.Common.{nat_eq, refl, sym, ap, ◌∙◌, arith}
use Rattle.std.specs.List.{AllByRecursion, Contains, IsDistinct}
use Rattle.std.proofs.lemmas.Bool.{eqb-false}
use Rattle.pmb_bus.specs.Address.{write_address, read_address}
use Rattle.pmb_command.specs.Parts.{DeviceParts}
use Rattle.pmb_registers.specs.State.{DeviceState, InState}
use Rattle.pmb_device.specs.declared.signal.HostSignal.{HostSignal}
use Rattle.pmb_device.specs.declared.signal.HostSignal.TheVariants.{Start, Byte, Ask, Ack, Nack, Stop}
use Rattle.pmb_device.specs.declared.signal.DeviceSignal.{DeviceSignal}
use Rattle.pmb_device.specs.declared.signal.DeviceSignal.TheVariants as answers
use Rattle.pmb_device.specs.declared.device.Device.{Device}
use Rattle.pmb_device.specs.Legs.{Leg, Legs, Outside, Inside, sent}
use Rattle.pmb_device.specs.Rules.{Answers, AnswersAddress, AnswersAsk, AnswersByte, written, read, others, replies}
use Rattle.pmb_device.specs.Rules.{not_read}
use Rattle.pmb_devices.specs.Bus.{AnswersOrSilent, BusAnswers}
use Rattle.pmb_devices.specs.machine.Hands.{AllMoved, last_loud, or_else}

-- ---- to whom a signal speaks

-- the first of some bytes, or one after none
abbrev first_or : List ℕ → ℕ → ℕ
first_or [] byte = byte
first_or (address ∷ bytes) byte = address

-- the address byte of the leg of a signal
abbrev addressed : Legs → HostSignal → ℕ
addressed Outside signal = 0
addressed (Inside earlier leg) Start = 0
addressed (Inside earlier leg) (Byte b) = first_or (sent leg) b
addressed (Inside earlier leg) Ask = first_or (sent leg) 0
addressed (Inside earlier leg) Ack = 0
addressed (Inside earlier leg) Nack = 0
addressed (Inside earlier leg) Stop = 0

-- that byte is one of the device's two
abbrev IsOf : DeviceParts → ℕ → Type 0
IsOf device byte = (byte ≡ write_address device.address) ⊎ (byte ≡ read_address device.address)

-- no byte is of two devices with different addresses
of_one : (d e : DeviceParts) (byte : ℕ) → IsOf d byte → IsOf e byte → d.address ≡ e.address
of_one d e byte (inl a) (inl b) = omega (arith, a, b)
of_one d e byte (inl a) (inr b) = absurd (omega (arith, a, b))
of_one d e byte (inr a) (inl b) = absurd (omega (arith, a, b))
of_one d e byte (inr a) (inr b) = omega (arith, a, b)

module _ (device : DeviceParts) (state : DeviceState) where
  -- a device that is not silent at a byte
  loud_address : (earlier : List Leg) (byte : ℕ) (result : DeviceSignal) → result ≢ answers.Silent
      → AnswersAddress device state earlier byte result → IsOf device byte
  loud_address earlier byte result loud (written is result_is) = inl is.own
  loud_address earlier byte result loud (read body is result_is) = inr is.own
  loud_address earlier byte result loud (others not_written never result_is) = absurd (loud result_is)

  loud_byte : (earlier : List Leg) (bytes : List ℕ) (byte : ℕ) (result : DeviceSignal) → result ≢ answers.Silent
      → AnswersByte device state earlier bytes byte result
      → IsOf device (first_or bytes byte)
  loud_byte earlier [] byte result loud answer = loud_address earlier byte result loud answer
  loud_byte earlier (address ∷ bytes) byte result loud (inl w) = inl w.0.own
  loud_byte earlier (address ∷ bytes) byte result loud (inr w) = absurd (loud w.1)

  -- and at an Ask
  loud_ask : (earlier : List Leg) (leg : Leg) (result : DeviceSignal) → result ≢ answers.Silent
      → AnswersAsk device state earlier leg result → IsOf device (first_or (sent leg) 0)
  loud_ask earlier leg result loud (replies address bytes sent_is body is reply all answered spelled result_is) =
      inr (ap (λ (bs : List ℕ). first_or bs 0) sent_is ∙ is.own)
  loud_ask earlier leg result loud (not_read never result_is) = absurd (loud result_is)

  -- A device that is not silent is spoken to.
  loud_is_addressed : (legs : Legs) (signal : HostSignal) (result : DeviceSignal) → result ≢ answers.Silent
      → Answers device state legs signal result
      → IsOf device (addressed legs signal)
  loud_is_addressed Outside signal result loud answer = absurd (loud answer)
  loud_is_addressed (Inside earlier leg) Start result loud answer = absurd (loud answer)
  loud_is_addressed (Inside earlier leg) (Byte b) result loud answer = loud_byte earlier (sent leg) b result loud answer
  loud_is_addressed (Inside earlier leg) Ask result loud answer = loud_ask earlier leg result loud answer
  loud_is_addressed (Inside earlier leg) Ack result loud answer = absurd (loud answer)
  loud_is_addressed (Inside earlier leg) Nack result loud answer = absurd (loud answer)
  loud_is_addressed (Inside earlier leg) Stop result loud answer = absurd (loud answer)

-- ---- all devices

module _ (legs : Legs) (signal : HostSignal) where
  -- those that are silent, whatever the answer on the bus
  silent_all : (result : DeviceSignal) (members : List InState)
      → AllByRecursion (AnswersOrSilent legs signal answers.Silent) members
      → AllByRecursion (AnswersOrSilent legs signal result) members
  silent_all result [] all = tt
  silent_all result (member ∷ members) (inl is, all) = (inr is, silent_all result members all)
  silent_all result (member ∷ members) (inr is, all) = (inr is, silent_all result members all)

  there : (first member : InState) (members : List InState) → Contains members member
      → Contains (first ∷ members) member
  there first member members inside =
      let below : suc inside.0 < length (first ∷ members) = omega (arith, inside.1) in
      (suc inside.0, below, inside.2)

  here : (member : InState) (members : List InState) → Contains (member ∷ members) member
  here member members =
      let below : 0 < length (member ∷ members) = omega arith in
      (0, below, refl)

  -- a number is not that of a member's device where it is none of them
  other_than : (address : ℕ) (members : List InState) (member : InState)
      → AllByRecursion (λ b. nat_eq address b ≡ false) (map (λ d. d.address) (map (λ m. m.device) members))
      → (k : ℕ) → k < length members → get_or members k member ≡ member → address ≢ member.device.address
  other_than address [] member each k below is = absurd (omega arith)
  other_than address (m ∷ members) member each zero below is =
      λ same. eqb-false address m.device.address each.0 (same ∙ ap (λ (x : InState). x.device.address) (sym is))
  other_than address (m ∷ members) member each (suc k) below is = other_than address members member each.1 k
      (omega (arith, below)) is

  -- the first device is silent where another one is not
  quiet : (first : InState) (members : List InState) (loud : DeviceSignal) (r : DeviceSignal)
      → AllByRecursion (λ b. nat_eq first.device.address b ≡ false) (map (λ d. d.address) (map (λ m. m.device) members))
      → loud ≢ answers.Silent
      → BusAnswers members legs signal loud → r ≢ answers.Silent → Answers first.device first.state legs signal r → ⊥
  quiet first members loud r own is_loud bus r_loud answer =
      let one = bus.given_by_one is_loud in
      let member : InState = one.0 in
      other_than first.device.address members member own one.1.0 one.1.1 one.1.2
      (of_one first.device member.device (addressed legs signal)
      (loud_is_addressed first.device first.state legs signal r r_loud answer)
      (loud_is_addressed member.device member.state legs signal loud is_loud one.2))

  silent_first : (first : InState) (members : List InState) (loud r : DeviceSignal)
      → AllByRecursion (λ b. nat_eq first.device.address b ≡ false) (map (λ d. d.address) (map (λ m. m.device) members))
      → loud ≢ answers.Silent
      → BusAnswers members legs signal loud → Answers first.device first.state legs signal r
      → Answers first.device first.state legs signal answers.Silent
  silent_first first members loud answers.Silent own is_loud bus answer = answer
  silent_first first members loud answers.Ack own is_loud bus answer =
      absurd (quiet first members loud answers.Ack own is_loud bus (λ is. cc is) answer)
  silent_first first members loud answers.Nack own is_loud bus answer =
      absurd (quiet first members loud answers.Nack own is_loud bus (λ is. cc is) answer)
  silent_first first members loud (answers.Byte b) own is_loud bus answer =
      absurd (quiet first members loud (answers.Byte b) own is_loud bus (λ is. cc is) answer)

  behind_silent : (first : InState) (members : List InState) (loud r : DeviceSignal)
      → AllByRecursion (λ b. nat_eq first.device.address b ≡ false) (map (λ d. d.address) (map (λ m. m.device) members))
      → loud ≢ answers.Silent
      → BusAnswers members legs signal loud → Answers first.device first.state legs signal r
      → BusAnswers (first ∷ members) legs signal loud
  behind_silent first members loud r own is_loud bus answer = record {
    each = (inr (silent_first first members loud r own is_loud bus answer), bus.each);
    given_by_one = λ is. let one = bus.given_by_one is in (one.0, there first one.0 members one.1, one.2);
  }

  -- One device more: its answer is on the bus where the others are silent.
  joined : (first : InState) (members : List InState) (loud r : DeviceSignal)
      → AllByRecursion (λ b. nat_eq first.device.address b ≡ false) (map (λ d. d.address) (map (λ m. m.device) members))
      → BusAnswers members legs signal loud → Answers first.device first.state legs signal r
      → BusAnswers (first ∷ members) legs signal (or_else loud r)
  joined first members answers.Silent r own bus answer = record {
    each = (inl answer, silent_all r members bus.each);
    given_by_one = λ is. (first, here first members, answer);
  }
  joined first members answers.Ack r own bus answer = behind_silent first members answers.Ack r own
      (λ is. cc is) bus answer
  joined first members answers.Nack r own bus answer = behind_silent first members answers.Nack r own
      (λ is. cc is) bus answer
  joined first members (answers.Byte b) r own bus answer = behind_silent first members (answers.Byte b) r own
      (λ is. cc is) bus answer

  -- The last answer that is not silence is the one on the bus.
  pub bus_answers : (devices : List Device) (members : List InState) (results : List DeviceSignal)
      → IsDistinct nat_eq (map (λ d. d.address) (map (λ m. m.device) members))
      → AllMoved legs signal devices members results
      → BusAnswers members legs signal (last_loud results)
  unfolding IsDistinct
  bus_answers [] [] [] own all = record { each = tt; given_by_one = λ loud. absurd (loud refl) }
  bus_answers [] [] (result ∷ results) own all = absurd all
  bus_answers [] (member ∷ members) results own all = absurd all
  bus_answers (d ∷ devices) [] results own all = absurd all
  bus_answers (d ∷ devices) (member ∷ members) [] own all = absurd all
  bus_answers (d ∷ devices) (member ∷ members) (result ∷ results) own all =
      joined member members (last_loud results) result own.0 (bus_answers devices members results own.1 all.1)
      all.0.answers
