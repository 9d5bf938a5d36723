-- The packet of one leg at the Alert Response Address, answered or not, from its bytes and back.
-- For `keep_alert` and `keep_nacked`. Its bytes are the address byte, and then a byte with or
-- without a packet error code; anything else with such legs is a refused packet.
use Rattle.std.proofs.Common.{◌≡◌, ◌+◌, ◌*◌, ◌≤◌, ◌<◌, ℕ, Bool, inl, inr, List, [], ◌∷◌, ◌++◌, length, take, refl, sym}
use Rattle.std.proofs.Common.{ap, subst, ◌∙◌, arith, length-append}
use Rattle.pmb_bus.specs.declared.event.Event.{Event}
use Rattle.pmb_bus.specs.declared.event.Event.TheVariants.{Stop}
use Rattle.pmb_bus.specs.Address.{read_address, alert_address}
use Rattle.pmb_bus.specs.Event.{canonical_text}
use Rattle.pmb_command.specs.Parts.{DeviceParts}
use Rattle.pmb_transaction.specs.Transaction.{AlertData, TransactionData, Alert, NoAlert}
use Rattle.pmb_transaction.specs.Body.{checked}
use Rattle.pmb_transaction.specs.Packet.{Packet}
use Rattle.pmb_canonical.specs.Alerts.{SaysAlert, alert_bytes}
use Rattle.pmb_canonical.specs.Codes.{code_behind}
use Rattle.pmb_canonical.specs.Canonical.{TakesPacket, nacked_leg}
use Rattle.pmb_canonical.specs.Legs.{SaysAlone}
use Rattle.pmb_canonical.specs.Nacked.{SaysNacked}
use Rattle.pmb_canonical.proofs.Ends.{length-nacked_leg_text, second_leg}
use Rattle.pmb_canonical.proofs.LegBytes.{length-nacked, some_checked}
use Rattle.pmb_canonical.proofs.Wires.{checked_is}

-- ---- its bytes

abbrev pub to_alert : ℕ
to_alert = read_address alert_address

pub some_answer : (t : AlertData) → 1 ≤ length (checked t.pec (to_alert ∷ []) (t.byte ∷ []))
some_answer t = omega (arith, some_checked t.pec (to_alert ∷ []) (t.byte ∷ []))

-- the answer, by the code behind it
pub says_answer : (bytes behind : List ℕ) (byte : ℕ) (with_pec : Bool) → byte < 256 → bytes ≡ to_alert ∷ byte ∷ behind
    → behind ≡ code_behind with_pec (to_alert ∷ byte ∷ [])
    → SaysAlert bytes (Alert (record { byte = byte; pec = with_pec }))
says_answer bytes behind byte with_pec small spelled code =
    inl (
      record { byte = byte; pec = with_pec },
      small,
      refl,
      spelled ∙ ap (λ (l : List ℕ). to_alert ∷ byte ∷ l) code
          ∙ ap (λ (l : List ℕ). to_alert ∷ l) (sym (checked_is with_pec (to_alert ∷ []) (byte ∷ []))),
    )

-- and the other way round
pub answer_says : (bytes behind : List ℕ) (byte : ℕ) (t : TransactionData) → bytes ≡ to_alert ∷ byte ∷ behind
    → SaysAlert bytes t
    → (with_pec : Bool) × (behind ≡ code_behind with_pec (to_alert ∷ byte ∷ []))
answer_says bytes behind byte t spelled (inl (answer, small, is, own)) =
    let joined : to_alert ∷ byte ∷ behind ≡ to_alert ∷ answer.byte
    ∷ code_behind answer.pec (to_alert ∷ answer.byte ∷ []) =
    sym spelled ∙ own ∙ ap (λ (l : List ℕ). to_alert ∷ l) (checked_is answer.pec (to_alert ∷ []) (answer.byte ∷ [])) in
    let same : answer.byte ≡ byte = cc joined in
    let code : behind ≡ code_behind answer.pec (to_alert ∷ answer.byte ∷ []) = cc joined in
    (answer.pec, code ∙ ap (λ (b : ℕ). code_behind answer.pec (to_alert ∷ b ∷ [])) same)
answer_says bytes behind byte t spelled (inr (is, own)) = absurd (omega (arith, ap length (sym spelled ∙ own)))

-- the bytes of an answer
pub at_answer : (bytes answered behind : List ℕ) (to_read byte : ℕ) → bytes ≡ to_read ∷ answered → to_read ≡ to_alert
    → answered ≡ byte ∷ behind → bytes ≡ to_alert ∷ byte ∷ behind
at_answer bytes answered behind to_read byte one is two = one ∙ ap (λ (b : ℕ). b ∷ answered) is
    ∙ ap (λ (l : List ℕ). to_alert ∷ l) two

pub covered : (bytes behind : List ℕ) (byte : ℕ) → bytes ≡ to_alert ∷ byte ∷ behind
    → take 2 bytes ≡ to_alert ∷ byte ∷ []
covered bytes behind byte spelled = ap (take 2) spelled

-- its first byte
pub at_alert : (bytes : List ℕ) (t : TransactionData) → SaysAlert bytes t → (more : List ℕ) × (bytes ≡ to_alert ∷ more)
at_alert bytes t (inl (answer, small, is, own)) = (checked answer.pec (to_alert ∷ []) (answer.byte ∷ []), own)
at_alert bytes t (inr (is, own)) = ([], own)

-- where it is no alert, something is refused
pub refused_there : (profile : List DeviceParts) (bytes : List ℕ) → ((t : TransactionData) → SaysAlert bytes t → ⊥)
    → SaysAlone profile bytes → SaysNacked profile [] bytes
refused_there profile bytes none (inl says) = says
refused_there profile bytes none (inr (t, says)) = absurd (none t says)

-- ---- its packet

takes_alone : (profile : List DeviceParts) (text rest : List ℕ) (t : TransactionData) (bytes : List ℕ) (used count : ℕ)
    → Packet profile t (nacked_leg bytes ++ Stop ∷ []) → text ≡ canonical_text (nacked_leg bytes ++ Stop ∷ []) ++ rest
    → used ≡ 4 + 5 * length bytes → count ≡ 2 + 2 * length bytes → TakesPacket profile text used count t
takes_alone profile text rest t bytes used count packet split used_bytes many = record {
  events = nacked_leg bytes ++ Stop ∷ [];
  packet = packet;
  rest = rest;
  split = split;
  bytes = used_bytes ∙ sym (length-nacked_leg_text bytes);
  all = omega (arith, many, length-append (nacked_leg bytes) (Stop ∷ []), length-nacked bytes);
}

pub takes_alert : (profile : List DeviceParts) (text rest : List ℕ) (t : TransactionData) (bytes : List ℕ)
    (used count : ℕ) → SaysAlert bytes t
    → text ≡ canonical_text (nacked_leg bytes ++ Stop ∷ []) ++ rest → used ≡ 4 + 5 * length bytes
    → count ≡ 2 + 2 * length bytes → TakesPacket profile text used count t
takes_alert profile text rest t bytes used count (inl (answer, small, is, own)) split used_bytes many =
    let reply = checked answer.pec (to_alert ∷ []) (answer.byte ∷ []) in
    let packet : Packet profile (Alert answer) (nacked_leg (alert_bytes answer) ++ Stop ∷ []) =
    record {
      byte = small;
      spelled = ap (λ (l : List Event). l ++ Stop ∷ [])
          (second_leg to_alert reply (some_answer answer));
    } in
    subst (TakesPacket profile text used count) (sym is)
    (takes_alone profile text rest (Alert answer) bytes used count
    (subst (λ (l : List ℕ). Packet profile (Alert answer) (nacked_leg l ++ Stop ∷ [])) (sym own) packet) split
    used_bytes many)
takes_alert profile text rest t bytes used count (inr (is, own)) split used_bytes many =
    let packet : Packet profile NoAlert (nacked_leg (to_alert ∷ []) ++ Stop ∷ []) = refl in
    subst (TakesPacket profile text used count) (sym is)
    (takes_alone profile text rest NoAlert bytes used count
    (subst (λ (l : List ℕ). Packet profile NoAlert (nacked_leg l ++ Stop ∷ [])) (sym own) packet) split used_bytes many)
