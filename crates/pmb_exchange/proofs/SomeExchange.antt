-- What an allowed request asks for comes to some transaction on the devices of an accepted bus:
-- for the law `some_exchange`. It is decided for each part of a write whether its device takes it,
-- and the first one that is refused ends the write; a device that is asked has a reply or refuses
-- to be read.
use Rattle.std.proofs.Common.{◌≡◌, ℕ, ◌≤◌, ◌⊎◌, Option, Some, None, IsSome, IfSome, Result, Ok, Err, List, [], ◌∷◌}
use Rattle.std.proofs.Common.{◌++◌, map, refl, sym, ap, subst, inl, inr, ◌∙◌, arith}
use Rattle.std.specs.List.{AllByRecursion}
use Rattle.std.proofs.lemmas.Bool.{cases_eq, cases_lt}
use Rattle.pmb_bus.specs.declared.event.Event.{Event}
use Rattle.pmb_command.specs.declared.form.Form.{Form}
use Rattle.pmb_command.specs.declared.form.Shape.{Shape}
use Rattle.pmb_command.specs.Bus.{IsBus}
use Rattle.pmb_command.specs.Parts.{DeviceParts, device_with}
use Rattle.pmb_command.specs.Wire.{Fits, wire}
use Rattle.pmb_transaction.specs.Transaction.{CallData, PartData, ReadData, TransactionData, Write, Read, Call}
use Rattle.pmb_transaction.specs.Body.{forms}
use Rattle.pmb_transaction.specs.Packet.{PartsEvents}
use Rattle.pmb_registers.specs.declared.cml_bit.CmlBit.{CmlBit}
use Rattle.pmb_registers.specs.Answer.{all_pages, answer}
use Rattle.pmb_registers.specs.State.{InState}
use Rattle.pmb_devices.proofs.ReplyGivers.{one_member}
use Rattle.pmb_value.specs.declared.number_format.NumberFormat.{NumberFormat}
use Rattle.pmb_writer.specs.Invalid.{HasPacket, forms_at}
use Rattle.pmb_writer.proofs.Packets.{forms_are}
use Rattle.pmb_request.specs.Request.{RequestData, WriteParts, ReadBytes, CallBytes, Set, Get}
use Rattle.pmb_host.specs.Rules.{IsAllowed}
use Rattle.pmb_host.specs.Task.{task_of, word_bytes}
use Rattle.pmb_host.proofs.Asked.{asked_packet}
use Rattle.pmb_exchange.specs.Exchange.{Exchanges, IsAnswered, IsTaken, WritesNoPage, answered, asked_address}
use Rattle.pmb_exchange.specs.Exchange.{part_refused, read_refused, written}
use Rattle.pmb_exchange.proofs.Members.{Found, found_with}

the_one : {A : Type 0} (o : Option A) → IsSome o → (x : A) × (o ≡ Some x)
the_one None some = absurd (cc some)
the_one (Some x) some = (x, refl)

module _ (profile : List DeviceParts) (members : List InState) (bus : IsBus profile)
    (devices_are : map (λ m. m.device) members ≡ profile) where
  -- the member that a device is
  member_of : (addr : ℕ) (device : DeviceParts) → device_with addr profile ≡ Some device → Found members addr device
  member_of addr device known = found_with members addr device
      (subst (λ (ds : List DeviceParts). device_with addr ds ≡ Some device) (sym devices_are) known)

  -- ---- what is written

  -- it is refused, or taken
  abbrev IsJudged : PartData → Type 0
  IsJudged part = WritesNoPage members part ⊎ IsTaken members part

  module _ (part : PartData) (device : DeviceParts) (found : Found members part.addr device) where
    -- another one of that address is this one
    same_member : (wrong : WritesNoPage members part) → wrong.member ≡ found.member
    same_member wrong =
        one_member profile members wrong.member found.member bus devices_are wrong.is_at.one_of found.in_bus
        (wrong.is_at.address_is ∙ sym found.address_is)

    -- 0x00 is the code of PAGE
    value_judged : (value : ℕ) → part.code ≡ 0x00 → part.bytes ≡ value ∷ [] → IsJudged part
    value_judged value page is =
        elim (cases_lt value found.member.device.pages) [
          -- a page of the device is taken
          | inl small ↦ inr (λ wrong.
              let one : wrong.value ∷ [] ≡ value ∷ [] = sym wrong.bytes_are ∙ is in
              let same : wrong.value ≡ value = cc one in
              let large : found.member.device.pages ≤ wrong.value =
              subst (λ (m : InState). m.device.pages ≤ wrong.value) (same_member wrong) wrong.too_large in
              absurd (omega (arith, small, same, large)))
          -- a larger value is taken if it is ffh, for all pages, and refused if not
          | inr large ↦
              elim (cases_eq value all_pages) [
                | inl all ↦ inr (λ wrong.
                    let one : wrong.value ∷ [] ≡ value ∷ [] = sym wrong.bytes_are ∙ is in
                    let same : wrong.value ≡ value = cc one in
                    wrong.not_all (same ∙ all))
                | inr not_all ↦ inl (record {
                  member = found.member;
                  is_at = record { one_of = found.in_bus; address_is = found.address_is };
                  value = value;
                  page = page;
                  bytes_are = is;
                  too_large = large;
                  not_all = not_all;
                })
              ]
        ]

    bytes_judged : (bytes : List ℕ) → part.code ≡ 0x00 → part.bytes ≡ bytes → IsJudged part
    bytes_judged [] page is = inr (λ wrong. let none : [] ≡ wrong.value ∷ [] = sym is ∙ wrong.bytes_are in cc none)
    bytes_judged (value ∷ []) page is = value_judged value page is
    bytes_judged (value ∷ next ∷ bytes) page is =
        inr (λ wrong. let many : value ∷ next ∷ bytes ≡ wrong.value ∷ [] = sym is ∙ wrong.bytes_are in cc many)

    part_judged : IsJudged part
    part_judged = elim (cases_eq part.code 0x00) [
      | inl page ↦ bytes_judged part.bytes page refl
      | inr other ↦ inr
          (λ wrong. other wrong.page)
    ]

  -- the first part that is refused
  record Refusal (parts : List PartData) : Type 0 where
    -- the parts that are taken
    before : List PartData
    -- and the one that is not
    part : PartData
    behind : List PartData
    split : parts ≡ before ++ part ∷ behind
    taken : AllByRecursion (IsTaken members) before
    wrong : WritesNoPage members part

  parts_judged : (parts : List PartData) (events : List Event) → PartsEvents profile parts events
      → AllByRecursion (IsTaken members) parts ⊎ Refusal parts
  parts_judged [] events none = inl tt
  parts_judged (part ∷ parts) events (first, rest, split, here, later) =
      elim (part_judged part here.device (member_of part.addr here.device here.known)) [
        | inl wrong ↦ inr (record { before = []; part = part; behind = parts; split = refl; taken = tt; wrong = wrong })
        | inr taken ↦
            elim (parts_judged parts rest later) [
              | inl all ↦ inl (taken, all)
              | inr refusal ↦ inr (record {
                before = part ∷ refusal.before;
                part = refusal.part;
                behind = refusal.behind;
                split = ap (λ ps. part ∷ ps) refusal.split;
                taken = (taken, refusal.taken);
                wrong = refusal.wrong;
              })
            ]
      ]

  abbrev pub HasExchange : TransactionData → Type 0
  HasExchange task = (done : TransactionData) × Exchanges members task done

  write_exchanged : (parts : List PartData) → HasPacket profile (Write parts) → HasExchange (Write parts)
  write_exchanged parts packet =
      elim (parts_judged parts packet.1.legs packet.1.each) [
        | inl taken ↦ (_, written parts refl taken refl)
        | inr refusal ↦ (
          _,
          part_refused refusal.before refusal.part refusal.behind
              (ap Write refusal.split) refusal.taken refusal.wrong refl,
        )
      ]

  -- ---- what is read

  module _ (task : TransactionData) (address : ℕ) (asked : asked_address members task ≡ Some address) (member : InState)
      (body : List ℕ) where
    by_answer : (result : Result (List ℕ) CmlBit) → IsAnswered members task address body result → HasExchange task
    by_answer (Ok reply) is = (_, answered address body reply is refl)
    by_answer (Err bit) is = (_, read_refused address body bit is refl)

  read_exchanged : (t : ReadData) → IsSome (device_with t.addr profile) → HasExchange (Read t)
  read_exchanged t some =
      let device = the_one (device_with t.addr profile) some in
      let found = member_of t.addr device.0 device.1 in
      let body = t.code ∷ [] in
      by_answer (Read t) t.addr refl found.member body (answer found.member.device found.member.state body) (record {
        asked = refl;
        member = found.member;
        is_at = record { one_of = found.in_bus; address_is = found.address_is };
        asks = refl;
        answers = refl;
      })

  call_exchanged : (t : CallData) → IsSome (device_with t.addr profile) → IsSome (forms_at profile t.addr t.code).call
      → IfSome (forms_at profile t.addr t.code).call (λ form. Fits form t.bytes)
      → HasExchange (Call t)
  call_exchanged t some called fits =
      let device = the_one (device_with t.addr profile) some in
      let found = member_of t.addr device.0 device.1 in
      let form = the_one (forms_at profile t.addr t.code).call called in
      let fit : Fits form.0 t.bytes = subst (λ (o : Option Form). IfSome o (λ it. Fits it t.bytes)) form.1 fits in
      let of_device : (forms device.0 t.code).call ≡ Some form.0 =
      ap (λ (s : Shape). s.call) (sym (forms_are profile t.addr t.code device.0 device.1)) ∙ form.1 in
      let of_member : (forms found.member.device t.code).call ≡ Some form.0 =
      subst (λ (d : DeviceParts). (forms d t.code).call ≡ Some form.0) (sym found.device_is) of_device in
      let body = t.code ∷ wire form.0 t.bytes in
      by_answer (Call t) t.addr refl found.member body (answer found.member.device found.member.state body) (record {
        asked = refl;
        member = found.member;
        is_at = record { one_of = found.in_bus; address_is = found.address_is };
        asks = (form.0, record { called = of_member; fits = fit; spelled = refl });
        answers = refl;
      })

  -- ---- all requests

  pub some_exchange : (request : RequestData) (word : ℕ) (number : Option NumberFormat)
      → IsAllowed profile request word number → HasExchange (task_of request word)
  some_exchange (WriteParts parts) word number allowed = write_exchanged parts allowed.0
  some_exchange (ReadBytes c) word number allowed =
      read_exchanged (record { addr = c.addr; code = c.code; reply = []; pec = c.pec }) allowed.0.0
  some_exchange (CallBytes c bytes) word number allowed =
      call_exchanged (record { addr = c.addr; code = c.code; bytes = bytes; reply = []; pec = c.pec }) allowed.0.0
      allowed.0.1.1.0 allowed.0.1.1.1.0
  some_exchange (Set c value mode) word number allowed =
      write_exchanged (record { addr = c.addr; code = c.code; bytes = word_bytes word; pec = c.pec } ∷ [])
      (asked_packet profile bus (Set c value mode) word number [] allowed tt)
  some_exchange (Get c mode) word number allowed =
      read_exchanged (record { addr = c.addr; code = c.code; reply = []; pec = c.pec }) allowed.0.0
