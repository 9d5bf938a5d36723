-- The set of kinds that may follow after a byte that was taken: START, a byte and STOP. For
-- `expected_in_leg`. ACK and NACK don't have their turn there.
use Rattle.std.proofs.Common.{◌≡◌, ℕ, ◌<◌, ◌↔◌, Bool, true, false, List, refl, sym, ◌∙◌}
use Rattle.pmb_bus.specs.declared.event.Event.{Event}
use Rattle.pmb_bus.specs.declared.event.Event.TheVariants.{Start, Byte, Ack, Nack, Stop}
use Rattle.pmb_bus.specs.declared.kinds.Kinds.{Kinds}
use Rattle.pmb_bus.specs.Kinds.{AreKindsOf, bits, holds, kind_of}
use Rattle.pmb_command.specs.Parts.{DeviceParts}
use Rattle.pmb_transaction.specs.Capture.{MayFollow}
use Rattle.pmb_packet_state.proofs.Steps.{EndsWith, TakeTurns, not_its_turn}

-- the kinds of events that are no answers
pub record AreNoAnswers (kinds : Kinds) (start byte stop : Bool) : Type 0 where
  pub known : bits kinds < 32
  -- START, bytes and STOP are in the set as said, and no answer is
  pub start_is : holds kinds Start ≡ start
  pub byte_is : holds kinds (Byte 0) ≡ byte
  pub stop_is : holds kinds Stop ≡ stop
  pub no_ack : holds kinds Ack ≡ false
  pub no_nack : holds kinds Nack ≡ false

module _ (turns : TakeTurns) (profile : List DeviceParts) (events : List Event) (ends : EndsWith events Ack)
    (kinds : Kinds) (start byte stop : Bool)
    (are : AreNoAnswers kinds start byte stop) (starts : (start ≡ true) ↔ MayFollow profile events Start)
    (bytes : (b : ℕ) → MayFollow profile events (Byte b) → byte ≡ true)
    (some : byte ≡ true → MayFollow profile events (Byte 0))
    (stops : (stop ≡ true) ↔ MayFollow profile events Stop) where
  each_kind : (event : Event) → MayFollow profile events event → holds kinds event ≡ true
  each_kind Start follows = are.start_is ∙ starts.1 follows
  each_kind (Byte b) follows = are.byte_is ∙ bytes b follows
  each_kind Ack follows = absurd (not_its_turn turns profile events Ack Ack ends refl follows)
  each_kind Nack follows = absurd (not_its_turn turns profile events Ack Nack ends refl follows)
  each_kind Stop follows = are.stop_is ∙ stops.1 follows

  only_kinds : (event : Event) → holds kinds event ≡ true → (other : Event) × (kind_of other ≡ kind_of event)
      × MayFollow profile events other
  only_kinds Start has = (Start, refl, starts.0 (sym are.start_is ∙ has))
  only_kinds (Byte b) has = (Byte 0, refl, some (sym are.byte_is ∙ has))
  only_kinds Ack has = absurd (cc (has, are.no_ack))
  only_kinds Nack has = absurd (cc (has, are.no_nack))
  only_kinds Stop has = (Stop, refl, stops.0 (sym are.stop_is ∙ has))

  pub no_answers_may_follow : AreKindsOf (MayFollow profile events) kinds
  no_answers_may_follow = record { known = are.known; each = each_kind; only = only_kinds }
