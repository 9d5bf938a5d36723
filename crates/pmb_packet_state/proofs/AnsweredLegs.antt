-- One event more in a leg that is read, of a device that was asked or at the Alert Response
-- Address. For `in_answer`, `answer_on`, `end_reply`, `end_alert`, `read_device_on` and the other
-- functions of `src/read_leg.rt`. The answers that are kept (`expected`) are those that the laws of
-- `pmb_transaction` speak of, so a law on answers holds of what is kept.
use Rattle.std.proofs.Common.{◌≡◌, ℕ, ◌⊎◌, Bool, true, Some, List, [], ◌∷◌, ◌++◌, ◌↔◌, sym, ap, subst, ◌∙◌}
use Rattle.std.proofs.Common.{append_assoc}
use Rattle.std.proofs.lemmas.List.{append-nil}
use Rattle.pmb_bus.specs.declared.event.Event.{Event}
use Rattle.pmb_bus.specs.declared.event.Event.TheVariants.{Start, Byte, Ack}
use Rattle.pmb_bus.specs.Address.{write_address, read_address, alert_address}
use Rattle.pmb_command.specs.declared.form.Form.{Form}
use Rattle.pmb_command.specs.Bus.{IsBus}
use Rattle.pmb_command.specs.Parts.{DeviceParts, device_with}
use Rattle.pmb_command.specs.PecMode.{AllowsPec}
use Rattle.pmb_command.specs.Wire.{IsByte, Fits, wire}
use Rattle.pmb_transaction.specs.Body.{checked, ReadBody, CallBody}
use Rattle.pmb_transaction.specs.Packet.{leg}
use Rattle.pmb_transaction.specs.Transaction.{PartData, Refused}
use Rattle.pmb_transaction.specs.Capture.{MayFollow}
use Rattle.pmb_transaction.specs.Following.{BeginsAnswer, IsAlertAnswer, IsInsideAnswer}
use Rattle.pmb_transaction.specs.Viable.{IsAnswer}
use Rattle.pmb_leg.specs.declared.place.LegPlace.TheVariants.{First}
use Rattle.pmb_leg.specs.Leg.{IsRequest, Written}
use Rattle.pmb_leg.specs.Reply.{Expected, IsReply, SaysAlert, SaysAnswer, SaysReply}
use Rattle.pmb_transaction_slot.specs.TransactionSlot.{KeptData}
use Rattle.pmb_packet_state.specs.declared.packet_state.Answerer.{Answerer}
use Rattle.pmb_packet_state.specs.declared.packet_state.Answerer.TheVariants as sources
use Rattle.pmb_packet_state.specs.declared.packet_state.PacketState.{PacketState}
use Rattle.pmb_packet_state.specs.machine.PacketState.{AnswersSource, AnswersAlert, AnswersDevice, AtReadAddress}
use Rattle.pmb_packet_state.specs.machine.PacketState.{BehindAnswerByte, HasAsked, InAnswer, IsAskedOfSource}
use Rattle.pmb_packet_state.proofs.Steps.{EndsWith, leg_ends}

-- ---- where the events end

pub read_address_ends : (profile : List DeviceParts) (u : PacketState) (source : Answerer) (events : List Event)
    (at : AtReadAddress profile u source events)
    → EndsWith events (Byte (read_address at.addr))
read_address_ends profile u source events at =
    record {
      front = at.front ++ Start ∷ [];
      split = at.spelled
          ∙ sym (append_assoc at.front (Start ∷ []) (Byte (read_address at.addr) ∷ []));
    }

pub answer_byte_ends : (profile : List DeviceParts) (u : PacketState) (source : Answerer) (events : List Event)
    (at : BehindAnswerByte profile u source events)
    → EndsWith events (Byte at.byte)
answer_byte_ends profile u source events at =
    record { front = at.front ++ leg (read_address at.addr ∷ at.bytes); split = at.spelled }

-- ---- which answers there are

-- what holds of the same lists
pub begins_with_same : (A B : List ℕ → Type 0) → ((all : List ℕ) → (A all ↔ B all)) → (bytes : List ℕ)
    → (BeginsAnswer A bytes ↔ BeginsAnswer B bytes)
begins_with_same A B same bytes = (
  λ begins. (begins.0, begins.1, (same begins.0).0 begins.2, begins.3),
  λ begins. (begins.0, begins.1, (same begins.0).1 begins.2, begins.3),
)

pub inside_same : (A B : List ℕ → Type 0) → ((all : List ℕ) → (A all ↔ B all)) → (bytes : List ℕ)
    → (IsInsideAnswer A bytes ↔ IsInsideAnswer B bytes)
inside_same A B same bytes = (
  λ inside. (inside.0, (same inside.0).0 inside.1, inside.2),
  λ inside. (inside.0, (same inside.0).1 inside.1, inside.2),
)

pub same_kept_leg : (u : PacketState) (a b : Written) → u.leg ≡ Some a → u.leg ≡ Some b → a ≡ b
same_kept_leg u a b first second = cc (first, second)

-- The answers of the device that was asked, where its leg is told by both facts.
device_answers : (profile : List DeviceParts) (u : PacketState) (front : List Event) (addr : ℕ)
    (asked : HasAsked profile u front addr) → AnswersDevice u
    → (all : List ℕ) → (IsReply u.answer.expected all
    ↔ IsAnswer asked.written.device asked.written.device.address asked.written.bytes all)
device_answers profile u front addr asked answers all =
    subst (λ (w : Written). IsReply u.answer.expected all ↔ IsAnswer w.device w.device.address w.bytes all)
    (same_kept_leg u answers.written asked.written answers.is asked.is)
    (answers.answers all)

pub device_says : (profile : List DeviceParts) (u : PacketState) (written : Written) → u.leg ≡ Some written
    → AnswersDevice u
    → (reply : List ℕ) (with_pec : Bool) (all : List ℕ)
    → (SaysReply u.answer.expected reply with_pec all
    ↔ SaysAnswer written.device written.device.address written.bytes reply with_pec all)
device_says profile u written is answers reply with_pec all =
    subst (λ (w : Written). SaysReply u.answer.expected reply with_pec all
    ↔ SaysAnswer w.device w.device.address w.bytes reply with_pec all)
    (same_kept_leg u answers.written written answers.is is) (answers.says reply with_pec all)

-- ---- what may follow in an answer

-- What holds of the events of an answer of either source, where it holds of theirs.
pub answer_law : (profile : List DeviceParts) → IsBus profile
    → (u : PacketState) (source : Answerer) (front : List Event) (addr : ℕ) (bytes : List ℕ)
    (Holds : List Event → Type 0) (Says : (List ℕ → Type 0) → List ℕ → Type 0) (said : List ℕ)
    → ((A B : List ℕ → Type 0) → ((all : List ℕ) → (A all ↔ B all)) → (Says A said ↔ Says B said))
    → ((addr : ℕ) (device : DeviceParts) (body : List ℕ) → IsBus profile → device_with addr profile ≡ Some device
    → (Holds (leg (write_address addr ∷ body) ++ leg (read_address addr ∷ bytes))
    ↔ Says (IsAnswer device addr body) said))
    → (Holds (leg (read_address alert_address ∷ bytes)) ↔ Says IsAlertAnswer said)
    → IsAskedOfSource source profile u front addr → AnswersSource source u
    → (Holds (front ++ leg (read_address addr ∷ bytes)) ↔ Says (IsReply u.answer.expected) said)
answer_law profile bus u sources.Device front addr bytes Holds Says said same device_law alert_law asked answers =
    -- the law, for the device and the body that were kept
    let here = device_law asked.written.device.address asked.written.device asked.written.bytes bus asked.known in
    -- at the address that the events have
    let addressed =
    subst
    (λ (a : ℕ). Holds (leg (write_address asked.written.device.address ∷ asked.written.bytes)
    ++ leg (read_address a ∷ bytes)) ↔ Says (IsAnswer asked.written.device asked.written.device.address
    asked.written.bytes) said)
    (sym asked.at) here in
    -- and for the events before this leg
    let spelled =
    subst
    (λ (es : List Event). Holds (es ++ leg (read_address addr ∷ bytes))
    ↔ Says (IsAnswer asked.written.device asked.written.device.address asked.written.bytes) said)
    (sym asked.spelled) addressed in
    -- the answers that are kept are those of the law
    let one =
    same (IsReply u.answer.expected) (IsAnswer asked.written.device asked.written.device.address asked.written.bytes)
    (device_answers profile u front addr asked answers) in
    (λ follows. one.1 (spelled.0 follows), λ so. spelled.1 (one.0 so))
-- at the Alert Response Address no leg comes before
answer_law profile bus u sources.Alert front addr bytes Holds Says said same device_law alert_law asked answers =
    let addressed = subst (λ (a : ℕ). Holds (leg (read_address a ∷ bytes)) ↔ Says IsAlertAnswer said)
    (sym asked.1) alert_law in
    let spelled = subst (λ (es : List Event). Holds (es ++ leg (read_address addr ∷ bytes)) ↔ Says IsAlertAnswer said)
    (sym asked.0) addressed in
    let one = same (IsReply u.answer.expected) IsAlertAnswer answers.answers in
    (λ follows. one.1 (spelled.0 follows), λ so. spelled.1 (one.0 so))

-- What may follow after a byte of an answer of either source, by the bytes so far.
pub answer_byte_law : (profile : List DeviceParts) → IsBus profile
    → (u : PacketState) (source : Answerer) (events : List Event) (event : Event)
    (Says : (List ℕ → Type 0) → List ℕ → Type 0)
    → ((A B : List ℕ → Type 0) → ((all : List ℕ) → (A all ↔ B all)) → (said : List ℕ) → (Says A said ↔ Says B said))
    → ((addr : ℕ) (device : DeviceParts) (body bytes : List ℕ) (byte : ℕ) → IsBus profile
    → device_with addr profile ≡ Some device
    → (MayFollow profile ((leg (write_address addr ∷ body) ++ leg (read_address addr ∷ bytes)) ++ Byte byte ∷ []) event
    ↔ Says (IsAnswer device addr body) (bytes ++ byte ∷ [])))
    → ((bytes : List ℕ) (byte : ℕ) → IsBus profile
    → (MayFollow profile (leg (read_address alert_address ∷ bytes) ++ Byte byte ∷ []) event
    ↔ Says IsAlertAnswer (bytes ++ byte ∷ [])))
    → BehindAnswerByte profile u source events
    → (MayFollow profile events event ↔ Says (IsReply u.answer.expected) u.answer.bytes)
answer_byte_law profile bus u source events event Says same reply_law alert_law at =
    let law =
    answer_law profile bus u source at.front at.addr at.bytes
    (λ (es : List Event). MayFollow profile (es ++ Byte at.byte ∷ []) event) Says (at.bytes ++ at.byte ∷ [])
    (λ A B all. same A B all (at.bytes ++ at.byte ∷ []))
    (λ addr device body. reply_law addr device body at.bytes at.byte) (alert_law at.bytes at.byte bus) at.asked
    at.answers in (
      λ follows. subst (λ (bs : List ℕ). Says (IsReply u.answer.expected) bs) (sym at.last)
          (law.0 (subst (λ (es : List Event). MayFollow profile es event) at.spelled follows)),
      λ so. subst (λ (es : List Event). MayFollow profile es event) (sym at.spelled)
          (law.1 (subst (λ (bs : List ℕ). Says (IsReply u.answer.expected) bs) at.last so)),
    )

-- an event that is no byte
pub in_answer_ends : (profile : List DeviceParts) (u : PacketState) (source : Answerer) (events : List Event)
    (at : InAnswer profile u source events)
    → EndsWith events Ack
in_answer_ends profile u source events at =
    let ends = leg_ends at.front (read_address at.addr) u.answer.bytes in
    record { front = ends.front; split = at.spelled ∙ ends.split }

-- ---- an answer that ends

-- a reply of the device
pub reply_ends : (profile : List DeviceParts) → IsBus profile
    → (u : PacketState) (written : Written) (events : List Event) → u.leg ≡ Some written
    → (at : BehindAnswerByte profile u sources.Device events)
    → (reply : List ℕ) (with_pec : Bool) → SaysReply u.answer.expected reply with_pec u.answer.bytes
    → (Ends : List Event → Type 0)
    → ((form : Form) (bytes : List ℕ) (byte : ℕ) → device_with written.device.address profile ≡ Some written.device
    → ((asked : ℕ) × ReadBody written.device asked form written.bytes)
    ⊎ ((asked : ℕ) × (sent : List ℕ) × CallBody written.device asked form sent written.bytes)
    → Fits form reply → AllowsPec written.device.pec with_pec
    → bytes ++ byte ∷ [] ≡ checked with_pec (write_address written.device.address ∷ written.bytes
    ++ read_address written.device.address ∷ []) (wire form reply)
    → Ends ((leg (write_address written.device.address ∷ written.bytes)
    ++ leg (read_address written.device.address ∷ bytes)) ++ Byte byte ∷ []))
    → Ends events
reply_ends profile bus u written events is at reply with_pec says Ends law =
    -- the leg that is kept is the one that asked
    let same = same_kept_leg u at.asked.written written at.asked.is is in
    -- what was read is an answer to its body
    let said = (device_says profile u written is at.answers reply with_pec u.answer.bytes).0 says in
    let known = subst (λ (w : Written). device_with w.device.address profile ≡ Some w.device) same at.asked.known in
    -- so the law ends the packet, here with the events as they are kept
    let ends = law said.form at.bytes at.byte known said.asked said.fits said.mode (sym at.last ∙ said.spelled) in
    let front = at.asked.spelled ∙ ap (λ (w : Written). leg (write_address w.device.address ∷ w.bytes)) same in
    let addr = at.asked.at ∙ ap (λ (w : Written). w.device.address) same in
    subst Ends (sym (
    at.spelled ∙ ap (λ (es : List Event). (es ++ leg (read_address at.addr ∷ at.bytes)) ++ Byte at.byte ∷ []) front
    ∙ ap (λ (a : ℕ). (leg (write_address written.device.address ∷ written.bytes) ++ leg (read_address a ∷ at.bytes))
    ++ Byte at.byte ∷ []) addr
    )) ends

-- an answer at the Alert Response Address
pub alert_ends : (profile : List DeviceParts) (u : PacketState) (events : List Event)
    (at : BehindAnswerByte profile u sources.Alert events)
    → (reply : List ℕ) (with_pec : Bool) → SaysReply u.answer.expected reply with_pec u.answer.bytes
    → (Ends : ℕ → List Event → Type 0)
    → ((answer : ℕ) (bytes : List ℕ) (byte : ℕ) → IsByte answer
    → bytes ++ byte ∷ [] ≡ checked with_pec (read_address alert_address ∷ []) (answer ∷ [])
    → Ends answer (leg (read_address alert_address ∷ bytes) ++ Byte byte ∷ []))
    → (answer : ℕ) → reply ≡ answer ∷ [] → Ends answer events
alert_ends profile u events at reply with_pec says Ends law answer is =
    let said = (at.answers.says reply with_pec u.answer.bytes).0 says in
    let same : said.byte ≡ answer = cc (said.only, is) in
    let ends = law said.byte at.bytes at.byte said.small (sym at.last ∙ said.spelled) in
    let here : events ≡ leg (read_address alert_address ∷ at.bytes) ++ Byte at.byte ∷ [] =
    at.spelled ∙ ap (λ (es : List Event). (es ++ leg (read_address at.addr ∷ at.bytes)) ++ Byte at.byte ∷ []) at.asked.0
    ∙ ap (λ (a : ℕ). leg (read_address a ∷ at.bytes) ++ Byte at.byte ∷ []) at.asked.1 in
    subst (λ (a : ℕ). Ends a events) same (subst (Ends said.byte) (sym here) ends)

-- the reply at the Alert Response Address is one byte
pub alert_reply : (u : PacketState) (reply : List ℕ) (with_pec : Bool) → AnswersAlert u
    → SaysReply u.answer.expected reply with_pec u.answer.bytes
    → (answer : ℕ) × (reply ≡ answer ∷ [])
alert_reply u reply with_pec answers says =
    let said = (answers.says reply with_pec u.answer.bytes).0 says in (said.byte, said.only)

-- ---- what stays

-- what was asked, where the parts and the leg stay
pub asked_on : (profile : List DeviceParts) (u after : PacketState) (source : Answerer) (front : List Event) (addr : ℕ)
    → after.kept ≡ u.kept → after.leg ≡ u.leg
    → IsAskedOfSource source profile u front addr → IsAskedOfSource source profile after front addr
asked_on profile u after sources.Device front addr kept leg_is asked = record {
  alone = ap (λ (k : KeptData). k.parts) kept ∙ asked.alone;
  written = asked.written;
  is = leg_is ∙ asked.is;
  known = asked.known;
  first = asked.first;
  request = asked.request;
  at = asked.at;
  spelled = asked.spelled;
}
asked_on profile u after sources.Alert front addr kept leg_is asked = asked

-- and what answers it
pub answers_on : (u after : PacketState) (source : Answerer) → after.leg ≡ u.leg
    → after.answer.expected ≡ u.answer.expected → AnswersSource source u → AnswersSource source after
answers_on u after sources.Device leg_is expected answers = record {
  written = answers.written;
  is = leg_is ∙ answers.is;
  answers = λ all. subst (λ (x : Expected). IsReply x all
      ↔ IsAnswer answers.written.device answers.written.device.address answers.written.bytes all) (sym expected)
      (answers.answers all);
  says = λ reply with_pec all.
      subst (λ (x : Expected). SaysReply x reply with_pec all
      ↔ SaysAnswer answers.written.device answers.written.device.address answers.written.bytes reply with_pec all)
      (sym expected)
      (answers.says reply with_pec all);
}
answers_on u after sources.Alert leg_is expected answers = record {
  answers = λ all. subst (λ (x : Expected). IsReply x all ↔ IsAlertAnswer all) (sym expected) (answers.answers all);
  says = λ reply with_pec all. subst (λ (x : Expected). SaysReply x reply with_pec all ↔ SaysAlert reply with_pec all)
      (sym expected) (answers.says reply with_pec all);
}

-- ---- the device that was asked

pub asking_before : (profile : List DeviceParts) (u : PacketState) (front : List Event) (addr : ℕ)
    (asked : HasAsked profile u front addr) (written : Written)
    → u.leg ≡ Some written → (written.place ≡ First) × IsRequest written.device written.bytes
asking_before profile u front addr asked written is =
    subst (λ (w : Written). (w.place ≡ First) × IsRequest w.device w.bytes)
    (same_kept_leg u asked.written written asked.is is) (asked.first, asked.request)

pub asked_with : (profile : List DeviceParts) (u : PacketState) (events : List Event)
    (at : AtReadAddress profile u sources.Device events)
    → events ≡ leg (write_address at.asked.written.device.address ∷ at.asked.written.bytes) ++ Start
    ∷ Byte (read_address at.asked.written.device.address) ∷ []
asked_with profile u events at =
    at.spelled ∙ ap (λ (es : List Event). es ++ Start ∷ Byte (read_address at.addr) ∷ []) at.asked.spelled
    ∙ ap (λ (a : ℕ). leg (write_address at.asked.written.device.address ∷ at.asked.written.bytes) ++ Start
    ∷ Byte (read_address a) ∷ []) at.asked.at

pub leg_begins_answer : (events front : List Event) (addr : ℕ) (bytes : List ℕ)
    → events ≡ front ++ Start ∷ Byte (read_address addr) ∷ [] → bytes ≡ []
    → events ++ Ack ∷ [] ≡ front ++ leg (read_address addr ∷ bytes)
leg_begins_answer events front addr bytes is fresh =
    ap (λ (es : List Event). es ++ Ack ∷ []) is ∙ append_assoc front (Start ∷ Byte (read_address addr) ∷ []) (Ack ∷ [])
    ∙ ap (λ (bs : List ℕ). front ++ leg (read_address addr ∷ bs)) (sym fresh)

-- what is said where reading it is refused
pub read_refused_said : (parts : List PartData) (addr : ℕ) (taken : List ℕ) (leg_is written : Written) → parts ≡ []
    → addr ≡ leg_is.device.address → taken ≡ leg_is.bytes
    → written ≡ leg_is
    → Refused (record { parts = parts; addr = addr; sent = taken ++ []; at_read = true })
    ≡ Refused (record { parts = []; addr = written.device.address; sent = written.bytes; at_read = true })
read_refused_said parts addr taken leg_is written alone at bytes same =
    let sent : taken ++ [] ≡ taken = append-nil taken in
    let address : addr ≡ written.device.address = at ∙ ap (λ (w : Written). w.device.address) (sym same) in
    let all : taken ++ [] ≡ written.bytes = sent ∙ bytes ∙ ap (λ (w : Written). w.bytes) (sym same) in
    cc (alone, address, all)
