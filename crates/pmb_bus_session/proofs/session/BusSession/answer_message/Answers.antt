use Rattle.std.proofs.Common.{◌∙◌, ◌≤◌, ◌++◌, ℕ, not, Option, Result, Ok, Err, IsOk, OnOk, List, Box, ap, arith, option_map, refl, subst, sym, true≢false, inr, length, length-append}
use Rattle.std.specs.declared.alloc.Global.{Global}
use Rattle.pmb_bus.specs.Event.{canonical_text}
use Rattle.pmb_bus.specs.declared.event.Event.{Event}
use Rattle.pmb_bus_session.specs.Devices.{DevicesSend}
use Rattle.pmb_bus_session.specs.Session.{SendsMessage}
use Rattle.pmb_bus_session.specs.declared.devices.Devices.{Devices}
use Rattle.pmb_bus_session.proofs.session.BusSession.answer_message.Goals as goal

abbrev values : Option (Box Devices Global) → Option Devices
values devices = option_map (λ (it : Box Devices Global). it.value) devices

at_ok : {T E P : Type 0} (r : Result T E) → IsOk r → OnOk r P → P
at_ok (Ok _) is so = so
at_ok (Err _) is so = absurd (true≢false (sym is))

-- There is room for the events of any message.
pub push_events-requires : goal.push_events-requires
push_events-requires c =
    let room : 49164 ≤ c.reserve.new.self.room =
    at_ok c.reserve.result (c.is_err.ensures.negation ∙ ap not c.if-is_err.false) c.reserve.ensures.room in
    omega (arith, c.events.ensures.few, room)

-- There was no memory, and all stays.
pub returns-then-is_err-clause-sends : goal.returns-then-is_err-clause-sends
returns-then-is_err-clause-sends c =
    SendsMessage.no_memory c.in-Some.devices.value (ap values c.in-Some.is)
    (record { profile = refl; devices = sym (ap values c.in-Some.is); text = c.reserve.ensures.left }) refl
    c.plain-then-is_err.ensures

-- It was sent, and its text comes after what was there.
pub returns-clause-sends : goal.returns-clause-sends
returns-clause-sends c =
    let was = c.in-Some.devices.value in
    let sent = c.send-sent in
    let message = c.args.message in
    SendsMessage.sent was sent.new.self sent.result (ap values c.in-Some.is)
    refl
    (subst (λ (d : Devices). DevicesSend message c.args.room.now sent.new.room d sent.new.self sent.result)
    c.deref_mut-devices.ensures.value sent.ensures)
    refl
    (c.push_events.ensures.left
    ∙ (ap (λ (front : List ℕ). front ++ canonical_text c.events.result.now) c.reserve.ensures.left
    ∙ ap (λ (events : List Event). c.args.self.now.log.left ++ canonical_text events)
    c.events.ensures.all))
    c.answer_of.ensures

-- ---- text that was taken

pub returns-then-is_err-clause-few : goal.returns-then-is_err-clause-few
returns-then-is_err-clause-few c = inr (omega (arith, c.reserve.ensures.few))

pub returns-clause-few : goal.returns-clause-few
returns-clause-few c =
    let text = canonical_text c.events.result.now in
    inr (omega (
      arith,
      c.reserve.ensures.few,
      c.push_events.ensures.taken,
      ap (λ (l : List ℕ). length l) c.push_events.ensures.left,
      length-append c.reserve.new.self.left text,
    ))
