-- Which addresses acknowledged, with one event more.
use Rattle.std.proofs.Common.{◌≡◌, ◌∙◌, ◌⊎◌, ◌/◌, inl, inr, ℕ, Bool, true, List, [], ◌∷◌, ◌++◌}
use Rattle.std.proofs.Common.{ap, refl, subst, append_assoc, length}
use Rattle.std.specs.Prelude.{nat_eq}
use Rattle.std.specs.List.{AllByRecursion, list_any}
use Rattle.pmb_bus.specs.declared.event.Event.{Event}
use Rattle.pmb_bus.specs.declared.event.Event.TheVariants as bus
use Rattle.pmb_draft.specs.Events.{Acks, AcksAfter}
use Rattle.pmb_draft.specs.Seen.{AreListed, is_device_address}
use Rattle.pmb_draft.specs.machine.Seen.{AreAcked}
use Rattle.pmb_draft.proofs.Splits.{split_more}

-- the one more is the ACK of an address
pub record IsNewAck (events : List Event) (e : Event) (before : List Event) (byte address : ℕ) : Type 0 where
  pub before_is : events ≡ before ++ bus.Start ∷ bus.Byte byte ∷ []
  pub ack : e ≡ bus.Ack
  pub of : byte / 2 ≡ address

-- what acknowledged stays so
pub acks_stay : (events : List Event) (e : Event) (address : ℕ) → Acks events address
    → Acks (events ++ e ∷ []) address
acks_stay events e address acks = (
  acks.0,
  record {
    byte = acks.1.byte;
    back = acks.1.back ++ e ∷ [];
    whole = ap (λ (es : List Event). es ++ e ∷ []) acks.1.whole
        ∙ append_assoc acks.0 (bus.Start ∷ bus.Byte acks.1.byte ∷ bus.Ack ∷ acks.1.back) (e ∷ []);
    of = acks.1.of;
  },
)

-- an acknowledgement is an old one, or the one more
pub acks_split : (events before : List Event) (e : Event) (address : ℕ)
    (acks : AcksAfter before (events ++ e ∷ []) address)
    → ((old : AcksAfter before events address) × (old.byte ≡ acks.byte))
    ⊎ IsNewAck events e before acks.byte address
acks_split events before e address acks =
    elim (split_more events before (bus.Start ∷ bus.Byte acks.byte ∷ []) acks.back e bus.Ack acks.whole)
    as (λ _. ((old : AcksAfter before events address) × (old.byte ≡ acks.byte))
    ⊎ IsNewAck events e before acks.byte address) [
      | inl old ↦ inl (record { byte = acks.byte; back = old.0; whole = old.1; of = acks.of }, refl)
      | inr new ↦ inr (record { before_is = new.0; ack = new.1; of = acks.of })
    ]

-- of each item the weaker fact holds
pub all_weaker : (P Q : ℕ → Type 0) → ((x : ℕ) → P x → Q x) → (xs : List ℕ) → AllByRecursion P xs
    → AllByRecursion Q xs
all_weaker P Q f [] all = tt
all_weaker P Q f (x ∷ xs) all = (f x all.0, all_weaker P Q f xs all.1)

-- and of one item more
pub all_push : (P : ℕ → Type 0) (xs : List ℕ) (y : ℕ) → AllByRecursion P xs → P y → AllByRecursion P (xs ++ y ∷ [])
all_push P [] y all here = (here, tt)
all_push P (x ∷ xs) y all here = (all.0, all_push P xs y all.1 here)

pub each_stays : (events : List Event) (e : Event) (listed : List ℕ)
    → AllByRecursion (λ a. (is_device_address a ≡ true) × Acks events a) listed
    → AllByRecursion (λ a. (is_device_address a ≡ true) × Acks (events ++ e ∷ []) a) listed
each_stays events e listed each =
    all_weaker (λ a. (is_device_address a ≡ true) × Acks events a)
    (λ a. (is_device_address a ≡ true) × Acks (events ++ e ∷ []) a)
    (λ a h. (h.0, acks_stay events e a h.1)) listed each

-- ---- where no address is new

module _ (events : List Event) (e : Event)
    (none : (before : List Event) (byte address : ℕ) → IsNewAck events e before byte address → ⊥) where
  pub listed_stay : (listed : List ℕ) → AreListed events listed → AreListed (events ++ e ∷ []) listed
  listed_stay listed are = record {
    each = each_stays events e listed are.each;
    first = λ address before acks fine.
        let Answer = (list_any (nat_eq address) listed ≡ true)
        ⊎ ((length listed ≡ 64) × AllByRecursion (Acks (before ++ bus.Start ∷ bus.Byte acks.byte ∷ [])) listed) in
        elim (acks_split events before e address acks) as (λ _. Answer) [
          | inl old ↦
              elim (are.first address before old.0 fine) as (λ _. Answer) [
                | inl there ↦ inl there
                | inr full ↦ inr (
                  full.0,
                  subst (λ (b : ℕ). AllByRecursion (Acks (before ++ bus.Start ∷ bus.Byte b ∷ [])) listed) old.1 full.1,
                )
              ]
          | inr new ↦ absurd (none before acks.byte address new)
        ];
  }

  acks_before : (address : ℕ) → Acks (events ++ e ∷ []) address → Acks events address
  acks_before address acks =
      elim (acks_split events acks.0 e address acks.1) as (λ _. Acks events address) [
        | inl old ↦ (acks.0, old.0)
        | inr new ↦ absurd (none acks.0 acks.1.byte address new)
      ]

  pub acked_stay : (acked : List Bool) → AreAcked events acked → AreAcked (events ++ e ∷ []) acked
  unfolding acks_before
  acked_stay acked are = record {
    each = λ address small. (
      λ is. acks_stay events e address ((are.each address small).0 is),
      λ acks. (are.each address small).1 (acks_before address acks),
    );
    within = λ address acks. are.within address (acks_before address acks);
    count = are.count;
  }
