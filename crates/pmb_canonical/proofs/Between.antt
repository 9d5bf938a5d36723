-- The text of a packet that was taken at once is its canonical text, and ends between words. For
-- `CanonicalReader::take` and the law `canonical_packets_are_read`. A packet's only STOP is its
-- last event, whose text ends with LF.
use Rattle.std.proofs.Common.{◌≡◌, ◌≤◌, ℕ, Option, Some, None, List, [], ◌∷◌, ◌++◌, length, take, sym, ap, subst, ◌∙◌}
use Rattle.std.proofs.Common.{arith, append_assoc, length-append}
use Rattle.std.specs.Prelude.{IfSome}
use Rattle.std.proofs.Math.Seq.{take-append_seam}
use Rattle.pmb_bus.specs.declared.event.Event.{Event}
use Rattle.pmb_bus.specs.declared.event.Event.TheVariants.{Stop}
use Rattle.pmb_bus.specs.Event.{canonical_text, character}
use Rattle.pmb_bus.specs.Text.{EndsBetween}
use Rattle.pmb_command.specs.Parts.{DeviceParts}
use Rattle.pmb_transaction.specs.Capture.{EndsAtFirstStop}
use Rattle.pmb_transaction.specs.Transaction.{TransactionData}
use Rattle.pmb_canonical.specs.declared.canonical_reader.TakenPacket.{TakenPacket}
use Rattle.pmb_canonical.specs.Canonical.{TakesPacket}
use Rattle.pmb_canonical.proofs.Texts.{text-append}

-- the bytes that are used are the text of the packet
pub used_text : (profile : List DeviceParts) (text : List ℕ) (used count : ℕ) (t : TransactionData)
    → (taken : TakesPacket profile text used count t)
    → take used text ≡ canonical_text taken.events
used_text profile text used count t taken =
    ap (take used) taken.split
    ∙ ap (λ (n : ℕ). take n (canonical_text taken.events ++ taken.rest)) taken.bytes
    ∙ take-append_seam (canonical_text taken.events) taken.rest

-- the text of events that end with STOP ends with LF
stop_text : (events : List Event) → (ends : EndsAtFirstStop events)
    → canonical_text events ≡ (canonical_text ends.front ++ character "P" ∷ []) ++ character "\n" ∷ []
stop_text events ends =
    ap canonical_text ends.split
    ∙ text-append ends.front (Stop ∷ [])
    ∙ sym (append_assoc (canonical_text ends.front) (character "P" ∷ []) (character "\n" ∷ []))

pub ends_between : (lines : (text : List ℕ) → EndsBetween (text ++ character "\n" ∷ [])) (profile : List DeviceParts)
    (text : List ℕ) (used count : ℕ)
    (t : TransactionData) → (taken : TakesPacket profile text used count t) → EndsAtFirstStop taken.events
    → EndsBetween (take used text)
ends_between lines profile text used count t taken ends =
    subst EndsBetween (sym (used_text profile text used count t taken ∙ stop_text taken.events ends))
    (lines (canonical_text ends.front ++ character "P" ∷ []))

-- they are no more than the text has
pub within_text : (profile : List DeviceParts) (text : List ℕ) (t : TransactionData) (result : Option TakenPacket)
    → IfSome result (λ taken. TakesPacket profile text taken.used taken.events t)
    → IfSome result (λ taken. taken.used ≤ length text)
within_text profile text t None takes = tt
within_text profile text t (Some taken) takes =
    omega (arith, takes.bytes, ap length takes.split, length-append (canonical_text takes.events) takes.rest)
