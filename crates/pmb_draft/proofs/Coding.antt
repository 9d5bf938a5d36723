-- Which codes were acknowledged, with one event more.
use Rattle.std.proofs.Common.{◌≡◌, ◌⊎◌, ◌*◌, inl, inr, ℕ, List, [], ◌∷◌, ◌++◌}
use Rattle.pmb_bus.specs.declared.event.Event.{Event}
use Rattle.pmb_bus.specs.declared.event.Event.TheVariants as bus
use Rattle.pmb_draft.specs.Events.{HasCode}
use Rattle.pmb_draft.proofs.Splits.{split_more}

-- the one more is the ACK of a code
pub record IsNewCode (events : List Event) (e : Event) (address code : ℕ) : Type 0 where
  pub before : List Event
  pub before_is : events ≡ before ++ bus.Start ∷ bus.Byte (2 * address) ∷ bus.Ack ∷ bus.Byte code ∷ []
  pub ack : e ≡ bus.Ack

pub codes_split : (events : List Event) (e : Event) (address code : ℕ) → HasCode (events ++ e ∷ []) address code
    → HasCode events address code ⊎ IsNewCode events e address code
codes_split events e address code has =
    elim (split_more events has.before (bus.Start ∷ bus.Byte (2 * address) ∷ bus.Ack ∷ bus.Byte code ∷ []) has.back e
    bus.Ack has.whole) as (λ _. HasCode events address code ⊎ IsNewCode events e address code) [
      | inl old ↦ inl (record { before = has.before; back = old.0; whole = old.1 })
      | inr new ↦ inr (record { before = has.before; before_is = new.0; ack = new.1 })
    ]
