-- A list of transactions has one capture, and events are the capture of one list. For the laws
-- `one_list_of_events` and `one_capture`, and for readings, here and in `pmb_spans`. Two packets at
-- the front of the same events both end at the first STOP, so they are one, and what follows them
-- is the same.
use Rattle.std.proofs.Common.{◌≡◌, List, [], ◌∷◌, ◌++◌, refl, sym, ap, ◌∙◌, subst, append_assoc}
use Rattle.pmb_bus.specs.declared.event.Event.{Event}
use Rattle.pmb_bus.specs.declared.event.Event.TheVariants.{Stop}
use Rattle.pmb_command.specs.Bus.{IsBus}
use Rattle.pmb_command.specs.Parts.{DeviceParts}
use Rattle.pmb_transaction.specs.Capture.{Capture}
use Rattle.pmb_transaction.specs.Packet.{Packet}
use Rattle.pmb_transaction.specs.Transaction.{TransactionData}
use Rattle.pmb_transaction.proofs.OnePacket.{one_packet}
use Rattle.pmb_transaction.proofs.OneTransaction.{one_transaction}
use Rattle.pmb_transaction.proofs.Stops.{packet_ends_with_stop, packet_is_not_empty, same_cut}

-- nothing has no front
no_front : (first rest : List Event) → [] ≡ first ++ rest → first ≡ []
no_front [] rest same = refl
no_front (e ∷ first) rest same = cc same

module _ (profile : List DeviceParts) where
  -- where two packets begin the same events, they are one, and so is what follows them
  pub same_first_packet : (t u : TransactionData) (a b x y : List Event) → Packet profile t a → Packet profile u b
      → a ++ x ≡ b ++ y
      → (a ≡ b) × (x ≡ y)
  same_first_packet t u a b x y first second same =
      let p = packet_ends_with_stop profile t a first in
      let q = packet_ends_with_stop profile u b second in
      let onwards : p.front ++ Stop ∷ x ≡ q.front ++ Stop ∷ y =
      sym (append_assoc p.front (Stop ∷ []) x)
      ∙ ap (λ (front : List Event). front ++ x) (sym p.split)
      ∙ same
      ∙ ap (λ (front : List Event). front ++ y) q.split
      ∙ append_assoc q.front (Stop ∷ []) y in
      let cut = same_cut p.front q.front x y p.no_stop q.no_stop onwards in
      (p.split ∙ ap (λ (front : List Event). front ++ Stop ∷ []) cut.0 ∙ sym q.split, cut.1)

  -- a packet begins some events, so there are some
  pub not_none : (t : TransactionData) (first rest : List Event) → Packet profile t first → [] ≡ first ++ rest → ⊥
  not_none t first rest packet none = packet_is_not_empty profile t first packet (no_front first rest none)

  -- events are the capture of one list of transactions
  pub one_capture : (ts us : List TransactionData) (events : List Event) → IsBus profile → Capture profile ts events
      → Capture profile us events
      → ts ≡ us
  one_capture [] [] events bus a b = refl
  one_capture [] (u ∷ us) events bus a b = absurd (not_none u b.0 b.1 b.3 (sym a ∙ b.2))
  one_capture (t ∷ ts) [] events bus a b = absurd (not_none t a.0 a.1 a.3 (sym b ∙ a.2))
  one_capture (t ∷ ts) (u ∷ us) events bus a b =
      let same = same_first_packet t u a.0 b.0 a.1 b.1 a.3 b.3 (sym a.2 ∙ b.2) in
      let first : t ≡ u = one_transaction profile t u b.0 bus (subst (Packet profile t) same.0 a.3) b.3 in
      let others : ts ≡ us = one_capture ts us b.1 bus (subst (Capture profile ts) same.1 a.4) b.4 in
      cc (first, others)

  -- a list of transactions has one capture
  pub one_list_of_events : (ts : List TransactionData) (a b : List Event) → Capture profile ts a → Capture profile ts b
      → a ≡ b
  one_list_of_events [] a b first second = first ∙ sym second
  one_list_of_events (t ∷ ts) a b first second =
      let here : first.0 ≡ second.0 = one_packet profile t first.0 second.0 first.3 second.3 in
      let later : first.1 ≡ second.1 = one_list_of_events ts first.1 second.1 first.4 second.4 in
      first.2 ∙ cc (here, later) ∙ sym second.2
