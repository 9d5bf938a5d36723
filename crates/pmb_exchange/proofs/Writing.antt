-- The answers to the bytes of a write: all are acknowledged but a value of PAGE that is neither a
-- page of its device nor ffh. For the law `runs_are_exchanges` (`Writes` uses it). No earlier leg
-- is written to the device of a part (`PartAt`), so the bus answers each byte as that device does;
-- the first byte of the leg is the address, the second the code, the third the value. The other
-- way about, legs that all went well have no such value (`all_taken`).
use Rattle.std.proofs.Common.{◌≡◌, ℕ, ◌≤◌, List, [], ◌∷◌, ◌++◌, map, flat_map, nat_eq, sym, ap, subst, ◌∙◌}
use Rattle.std.proofs.Common.{append_assoc}
use Rattle.std.specs.List.{AllByRecursion, IsDistinct}
use Rattle.std.proofs.lemmas.List.{append-nil}
use Rattle.pmb_bus.specs.Address.{write_address}
use Rattle.pmb_command.specs.Bus.{IsBus}
use Rattle.pmb_command.specs.Parts.{DeviceParts}
use Rattle.pmb_transaction.specs.Packet.{addresses}
use Rattle.pmb_transaction.specs.Transaction.{PartData}
use Rattle.pmb_registers.specs.State.{InState}
use Rattle.pmb_device.specs.declared.signal.HostSignal.{HostSignal}
use Rattle.pmb_device.specs.declared.signal.HostSignal.TheVariants.{Start, Byte}
use Rattle.pmb_device.specs.declared.signal.DeviceSignal.{DeviceSignal}
use Rattle.pmb_device.specs.declared.signal.DeviceSignal.TheVariants as answers
use Rattle.pmb_device.specs.Legs.{Leg, Legs, Outside, Inside, leg_place}
use Rattle.pmb_device.specs.Rules.{TakesAll}
use Rattle.pmb_devices.specs.Bus.{AreAnswered, AnsweredSignal, BusAnswers}
use Rattle.pmb_devices.proofs.OwnLegs.{byte_leg}
use Rattle.pmb_devices.proofs.ReplyGivers.{one_member}
use Rattle.pmb_host.specs.Signals.{leg_signals, part_bytes}
use Rattle.pmb_host.specs.Steps.{GoWell, IsGood, sent_signals}
use Rattle.pmb_exchange.specs.Exchange.{IsTaken, WritesNoPage}
use Rattle.pmb_exchange.proofs.Members.{address_acked, byte_acked, byte_not_acked}
use Rattle.pmb_exchange.proofs.Pages.{IsNoPage, PageOrNot, is_page, no_page, no_page_refused, page_body, code_first}
use Rattle.pmb_exchange.proofs.Pages.{page_or_not, takes_byte, takes_parts, takes_rest}
use Rattle.pmb_exchange.proofs.Parts.{HasLeg, PartAt, part_at}
use Rattle.pmb_exchange.proofs.Places.{answer_at, legs_at, legs_by, place, well_parts}

module _ (profile : List DeviceParts) (members : List InState) where
  -- the legs before a part
  abbrev pub legs_before : List PartData → List Leg
  legs_before before = map byte_leg (map (part_bytes profile) before)

  module _ (before : List PartData) (part : PartData) (at : PartAt profile members before part) where
    -- the part writes no page
    abbrev pub IsBad : Type 0
    IsBad = IsNoPage at.member.device at.accepted part.code part.bytes part.pec at.body at.write

    -- The answer to a byte after some of the leg: ACK, but where the value of PAGE is none.
    pub data ByteAnswer (bytes : List ℕ) (b : ℕ) (result : DeviceSignal) : Type 0 where
      -- it is acknowledged
      acked : result ≡ answers.Ack → ByteAnswer bytes b result
      -- it is refused: the value of PAGE, after the address and 00h, the code of PAGE
      refused : IsBad → bytes ≡ write_address at.member.device.address ∷ 0x00 ∷ [] → (result ≡ answers.Ack → ⊥)
          → ByteAnswer bytes b result
      -- it would come after such a value, which was refused before it
      behind_value : IsBad → (value : ℕ) (more : List ℕ) → bytes ≡ write_address at.member.device.address ∷ 0x00 ∷ value
          ∷ more → ByteAnswer bytes b result

    -- the first byte of the body is its code
    code_is : IsBad → (c : ℕ) (rest : List ℕ) → at.body ≡ c ∷ rest → c ≡ 0x00
    code_is bad c rest is =
        let first : part.code ≡ c = cc (sym (code_first at.member.device at.accepted part.code part.bytes part.pec
        at.body at.write) ∙ is) in
        sym first ∙ bad.page

    -- after the address
    behind_address : (bytes : List ℕ) (b : ℕ) (more : List ℕ) (result : DeviceSignal) → at.body ≡ bytes ++ b ∷ more
        → BusAnswers members (Inside (legs_before before) (byte_leg (write_address at.member.device.address ∷ bytes)))
        (Byte b) result
        → PageOrNot at.member.device at.accepted part.code part.bytes part.pec at.body at.write
        → ByteAnswer (write_address at.member.device.address ∷ bytes) b result
    -- no value of PAGE is wrong: the device takes the whole body
    behind_address bytes b more result is bus (is_page page) =
        let d = at.member.device in
        let p = leg_place (legs_before before) in
        let all : TakesAll d p [] (bytes ++ b ∷ more) =
        takes_rest d at.accepted part.code part.bytes part.pec at.body at.write p page [] (bytes ++ b ∷ more) is in
        let both = takes_parts d p [] bytes (b ∷ more) all in
        acked (byte_acked members at.member at.in_bus (legs_before before) at.once bytes b both.0 result bus both.1.0)
    -- the code itself is taken
    behind_address [] b more result is bus (no_page bad) =
        let d = at.member.device in
        let p = leg_place (legs_before before) in
        let takes = takes_byte d at.accepted part.code part.bytes part.pec at.body at.write p [] b more is
        (λ front. absurd (cc front)) in
        acked (byte_acked members at.member at.in_bus (legs_before before) at.once [] b tt result bus takes)
    -- the value, after the code of PAGE: it is refused
    behind_address (c ∷ []) b more result is bus (no_page bad) =
        let d = at.member.device in
        let w = write_address d.address in
        let p = leg_place (legs_before before) in
        let zero_is : c ≡ 0x00 = code_is bad c (b ∷ more) is in
        let here : at.body ≡ 0x00 ∷ b ∷ more = is ∙ ap (λ (n : ℕ). n ∷ b ∷ more) zero_is in
        let takes = takes_byte d at.accepted part.code part.bytes part.pec at.body at.write p [] 0x00 (b ∷ more) here
        (λ front. absurd (cc front)) in
        let there : BusAnswers members (Inside (legs_before before) (byte_leg (w ∷ 0x00 ∷ []))) (Byte b) result =
        subst (λ (n : ℕ). BusAnswers members (Inside (legs_before before) (byte_leg (w ∷ n ∷ []))) (Byte b) result)
        zero_is bus in
        refused bad (ap (λ (n : ℕ). w ∷ n ∷ []) zero_is)
        (
        byte_not_acked members at.member at.in_bus (legs_before before) at.once (0x00 ∷ []) b (takes, tt) result there
        (no_page_refused d at.accepted part.code part.bytes part.pec at.body at.write p bad b more here)
        )
    -- a byte after the value: the code before it is that of PAGE
    behind_address (c ∷ v ∷ bytes) b more result is bus (no_page bad) =
        let zero_is : c ≡ 0x00 = code_is bad c (v ∷ (bytes ++ b ∷ more)) is in
        behind_value bad v bytes (ap (λ (n : ℕ). write_address at.member.device.address ∷ n ∷ v ∷ bytes) zero_is)

    pub byte_answer : (bytes : List ℕ) (b : ℕ) (more : List ℕ) (result : DeviceSignal)
        → part_bytes profile part ≡ bytes ++ b ∷ more
        → BusAnswers members (Inside (legs_before before) (byte_leg bytes)) (Byte b) result → ByteAnswer bytes b result
    -- the first byte of the leg is the device's address, which it acknowledges
    byte_answer [] b more result is bus =
        let w = write_address at.member.device.address in
        let rows : w ∷ at.body ≡ b ∷ more = sym at.bytes_are ∙ is in
        let first : b ≡ w = cc rows in
        acked
        (
        address_acked members at.member at.in_bus (legs_before before) result at.once
        (subst (λ (n : ℕ). BusAnswers members (Inside (legs_before before) []) (Byte n) result) first bus)
        )
    -- the bytes after it: the leg is the address and the body
    byte_answer (a ∷ bytes) b more result is bus =
        let d = at.member.device in
        let w = write_address d.address in
        let rows : w ∷ at.body ≡ a ∷ (bytes ++ b ∷ more) = sym at.bytes_are ∙ is in
        let first : a ≡ w = cc rows in
        let rest : at.body ≡ bytes ++ b ∷ more = cc rows in
        let there = subst (λ (n : ℕ). BusAnswers members (Inside (legs_before before) (byte_leg (n ∷ bytes)))
        (Byte b) result) first bus in
        subst (λ (n : ℕ). ByteAnswer (n ∷ bytes) b result) (sym first)
        (behind_address bytes b more result rest there
        (page_or_not d at.accepted part.code part.bytes part.pec at.body at.write))

    -- It writes no page, as the exchange has it.
    pub writes_no_page : IsBad → WritesNoPage members part
    writes_no_page bad = record {
      member = at.member;
      is_at = record { one_of = at.in_bus; address_is = at.address_is };
      value = bad.value;
      page = bad.page;
      bytes_are = bad.content_is;
      too_large = bad.too_large;
      not_all = bad.not_all;
    }

    pub bad_of : IsBus profile → map (λ m. m.device) members ≡ profile → WritesNoPage members part → IsBad
    bad_of bus devices_are wrong =
        let same = one_member profile members wrong.member at.member bus devices_are wrong.is_at.one_of at.in_bus
        (wrong.is_at.address_is ∙ sym at.address_is) in
        record {
          page = wrong.page;
          value = wrong.value;
          content_is = wrong.bytes_are;
          too_large = subst (λ (m : InState). m.device.pages ≤ wrong.value) same wrong.too_large;
          not_all = wrong.not_all;
        }

    -- ---- in what a host heard

    -- a value that is no page is not acknowledged, after the code of PAGE
    refuted : (result : DeviceSignal) (v : ℕ) (rest : List ℕ) → IsBad → at.body ≡ 0x00 ∷ v ∷ rest
        → BusAnswers members (Inside (legs_before before)
        (byte_leg (write_address at.member.device.address ∷ 0x00 ∷ []))) (Byte v) result → result ≡ answers.Ack → ⊥
    refuted result v rest bad is bus ack =
        let d = at.member.device in
        let p = leg_place (legs_before before) in
        let takes = takes_byte d at.accepted part.code part.bytes part.pec at.body at.write p [] 0x00 (v ∷ rest) is
        (λ front. absurd (cc front)) in
        byte_not_acked members at.member at.in_bus (legs_before before) at.once (0x00 ∷ []) v (takes, tt) result bus
        (no_page_refused d at.accepted part.code part.bytes part.pec at.body at.write p bad v rest is) ack

    -- A value that is no page is not acknowledged.
    pub value_refused : (heard : List AnsweredSignal) (v : ℕ) (rest : List ℕ) (tail : List HostSignal)
        → AreAnswered members Outside heard → GoWell heard
        → IsBad → at.body ≡ 0x00 ∷ v ∷ rest
        → sent_signals heard
        ≡ (flat_map leg_signals (map (part_bytes profile) before)
        ++ leg_signals (write_address at.member.device.address ∷ 0x00 ∷ [])) ++ Byte v ∷ tail → ⊥
    value_refused heard v rest tail answered well bad body_is is =
        -- the place of the value among the signals
        let w = write_address at.member.device.address in
        let front = flat_map leg_signals (map (part_bytes profile) before) ++ leg_signals (w ∷ 0x00 ∷ []) in
        let here = place heard front (Byte v) tail is in
        -- what the bus answered there, in the legs by then,
        let bus_here =
        answer_at members Outside here.before here.one here.behind
        (subst (AreAnswered members Outside) here.split answered) in
        let legs_are : legs_by Outside (sent_signals here.before)
        ≡ Inside (legs_before before) (byte_leg (w ∷ 0x00 ∷ [])) =
        ap (legs_by Outside) here.before_are ∙ legs_at (map (part_bytes profile) before) (w ∷ 0x00 ∷ []) in
        let bus_there = subst (λ (ls : Legs). BusAnswers members ls here.one.signal here.one.result) legs_are
        bus_here in
        let bus_byte = subst (λ (s : HostSignal). BusAnswers members
        (Inside (legs_before before) (byte_leg (w ∷ 0x00 ∷ []))) s here.one.result) here.signal_is bus_there in
        -- was ACK, since all went well
        let good = (well_parts here.before (here.one ∷ here.behind) (subst GoWell here.split well)).1.0 in
        let ack : here.one.result ≡ answers.Ack =
        subst (λ (s : HostSignal). IsGood s here.one.result) here.signal_is good in
        -- but the device refuses the value
        refuted here.one.result v rest bad body_is bus_byte ack

-- ---- all parts

module _ (profile : List DeviceParts) (members : List InState) (bus : IsBus profile)
    (devices_are : map (λ m. m.device) members ≡ profile) where
  -- the signals of parts
  abbrev pub parts_signals : List PartData → List HostSignal
  parts_signals parts = flat_map leg_signals (map (part_bytes profile) parts)

  -- one part more
  one_part_more : (before : List PartData) (part : PartData) (tail : List HostSignal)
      → parts_signals (before ++ part ∷ []) ++ tail ≡ parts_signals before
      ++ (leg_signals (part_bytes profile part) ++ tail)
  one_part_more [] part tail = ap (λ (xs : List HostSignal). xs ++ tail)
      (append-nil (leg_signals (part_bytes profile part)))
  one_part_more (first ∷ before) part tail =
      let leg = leg_signals (part_bytes profile first) in
      append_assoc leg (parts_signals (before ++ part ∷ [])) tail
      ∙ ap (λ (xs : List HostSignal). leg ++ xs) (one_part_more before part tail)
      ∙ sym (append_assoc leg (parts_signals before) (leg_signals (part_bytes profile part) ++ tail))

  -- Parts whose legs went well write no page that is none.
  pub all_taken : (before parts behind : List PartData) (heard : List AnsweredSignal) (tail : List HostSignal)
      → AreAnswered members Outside heard
      → GoWell heard → IsDistinct nat_eq (addresses (before ++ (parts ++ behind)))
      → AllByRecursion (HasLeg profile) parts
      → sent_signals heard ≡ parts_signals before ++ (parts_signals parts ++ tail)
      → AllByRecursion (IsTaken members) parts
  all_taken before [] behind heard tail answered well distinct each is = tt
  all_taken before (part ∷ parts) behind heard tail answered well distinct each is =
      -- this part's device, its leg, and the signals after it
      let at = part_at profile members devices_are before part (parts ++ behind) distinct each.0 in
      let w = write_address at.member.device.address in
      let leg = leg_signals (part_bytes profile part) in
      let more = parts_signals parts ++ tail in
      let here : sent_signals heard ≡ parts_signals before ++ (leg ++ more) =
      is ∙ ap (λ (xs : List HostSignal). parts_signals before ++ xs) (append_assoc leg (parts_signals parts) tail) in
      let next : addresses ((before ++ part ∷ []) ++ (parts ++ behind))
      ≡ addresses (before ++ (part ∷ (parts ++ behind))) =
      -- If it wrote no page, its value would have been refused,
      ap addresses (append_assoc before (part ∷ []) (parts ++ behind)) in (
        λ wrong.
            let bad = bad_of profile members before part at bus devices_are wrong in
            let body = page_body at.member.device at.accepted part.code part.bytes part.pec at.body at.write bad.page in
            let bytes_are = at.bytes_are ∙ ap (λ (bs : List ℕ). w ∷ bs) body.body_is in
            let behind_value = map Byte body.rest ++ more in
            let front = Start ∷ Byte w ∷ Byte 0x00 ∷ [] in
            value_refused profile members before part at heard body.value body.rest behind_value answered well bad
            body.body_is
            (
            here ∙ ap (λ (bs : List ℕ). parts_signals before ++ (leg_signals bs ++ more)) bytes_are
            ∙ sym (append_assoc (parts_signals before) front (Byte body.value ∷ behind_value))
            ),
        -- and the same for the parts after it.
        all_taken (before ++ part ∷ []) parts behind heard tail answered well
            (subst (IsDistinct nat_eq) (sym next) distinct) each.1
            (here ∙ sym (one_part_more before part more)),
      )
