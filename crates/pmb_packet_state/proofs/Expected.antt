-- The set of kinds that may follow after a byte: ACK, NACK or both. For `expected_at_address`,
-- `expected_at_read_address`, `expected_behind_byte` and `expected_behind_answer_byte`. Other kinds
-- don't have their turn there.
use Rattle.std.proofs.Common.{◌≡◌, ℕ, ◌<◌, ◌↔◌, Bool, true, false, Option, Some, None, is_some, option_map, Bor, List}
use Rattle.std.proofs.Common.{refl, sym, ◌∙◌}
use Rattle.pmb_bus.specs.declared.event.Event.{Event}
use Rattle.pmb_bus.specs.declared.event.Event.TheVariants.{Start, Byte, Ack, Nack, Stop}
use Rattle.pmb_bus.specs.declared.kinds.Kinds.{Kinds}
use Rattle.pmb_bus.specs.Kinds.{AreKindsOf, bits, holds, kind_of}
use Rattle.pmb_command.specs.Parts.{DeviceParts}
use Rattle.pmb_transaction.specs.Capture.{MayFollow}
use Rattle.pmb_packet_state.proofs.Steps.{EndsWith, TakeTurns, not_its_turn}

-- the kinds of answers
pub record AreAnswers (kinds : Kinds) (ack nack : Bool) : Type 0 where
  pub known : bits kinds < 32
  -- ACK and NACK are in the set as said, and no other kind is
  pub ack_is : holds kinds Ack ≡ ack
  pub nack_is : holds kinds Nack ≡ nack
  pub no_start : holds kinds Start ≡ false
  pub no_byte : holds kinds (Byte 0) ≡ false
  pub no_stop : holds kinds Stop ≡ false

module _ (turns : TakeTurns) (profile : List DeviceParts) (events : List Event) (byte : ℕ)
    (ends : EndsWith events (Byte byte)) (kinds : Kinds) (ack nack : Bool)
    (are : AreAnswers kinds ack nack) (acks : (ack ≡ true) ↔ MayFollow profile events Ack)
    (nacks : (nack ≡ true) ↔ MayFollow profile events Nack) where
  each_kind : (event : Event) → MayFollow profile events event → holds kinds event ≡ true
  each_kind Start follows = absurd (not_its_turn turns profile events (Byte byte) Start ends refl follows)
  each_kind (Byte b) follows = absurd (not_its_turn turns profile events (Byte byte) (Byte b) ends refl follows)
  each_kind Ack follows = are.ack_is ∙ acks.1 follows
  each_kind Nack follows = are.nack_is ∙ nacks.1 follows
  each_kind Stop follows = absurd (not_its_turn turns profile events (Byte byte) Stop ends refl follows)

  only_kinds : (event : Event) → holds kinds event ≡ true → (other : Event) × (kind_of other ≡ kind_of event)
      × MayFollow profile events other
  only_kinds Start has = absurd (cc (has, are.no_start))
  only_kinds (Byte b) has = absurd (cc (has, are.no_byte))
  only_kinds Ack has = (Ack, refl, acks.0 (sym are.ack_is ∙ has))
  only_kinds Nack has = (Nack, refl, nacks.0 (sym are.nack_is ∙ has))
  only_kinds Stop has = absurd (cc (has, are.no_stop))

  pub answers_may_follow : AreKindsOf (MayFollow profile events) kinds
  answers_may_follow = record { known = are.known; each = each_kind; only = only_kinds }

-- a device that was looked for
pub found_known : (o : Option (Bor DeviceParts)) (found : Option DeviceParts)
    → option_map (λ (d : Bor DeviceParts). d.now) o ≡ found
    → (is_some o ≡ true) ↔ ((device : DeviceParts) × (found ≡ Some device))
found_known None found is = (
  λ some. absurd (cc some),
  λ (device, has). let none : None ≡ Some device = is ∙ has in
      cc none,
)
found_known (Some d) found is = (λ _. (d.now, sym is), λ _. refl)
