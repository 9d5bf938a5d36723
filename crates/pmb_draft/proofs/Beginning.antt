-- Without events nothing is seen. For `Seen::new`.
use Rattle.std.proofs.Common.{◌≡◌, ◌≤◌, ◌∙◌, ℕ, Bool, true, false, List, [], ◌∷◌, ◌++◌, length, replicate, ap, refl, sym, subst, arith, ◌*◌}
use Rattle.std.specs.Prelude.{slice_index_or}
use Rattle.std.proofs.lemmas.List.{get_or-replicate, length-replicate}
use Rattle.pmb_bus.specs.declared.event.Event.{Event}
use Rattle.pmb_bus.specs.declared.event.Event.TheVariants as bus
use Rattle.pmb_draft.specs.Events.{AcksAfter, HasCode}
use Rattle.pmb_draft.specs.Seen.{AreListed}
use Rattle.pmb_draft.specs.declared.leg_start.LegStart.{LegStart}
use Rattle.pmb_draft.specs.declared.leg_start.LegStart.TheVariants as starts
use Rattle.pmb_draft.specs.declared.seen.Seen.{Seen}
use Rattle.pmb_draft.specs.machine.LegStart.{EndsWithStart}
use Rattle.pmb_draft.specs.machine.Seen.{AreAcked, HasSeen}

no_acks : (before : List Event) (address : ℕ) → AcksAfter before [] address → ⊥
no_acks [] address a =
    let clash : [] ≡ bus.Start ∷ bus.Byte a.byte ∷ bus.Ack ∷ a.back = a.whole in
    cc
no_acks (x ∷ xs) address a =
    let clash : [] ≡ x ∷ (xs ++ bus.Start ∷ bus.Byte a.byte ∷ bus.Ack ∷ a.back) = a.whole in
    cc

no_code : (before : List Event) (address code : ℕ) (h : HasCode [] address code) → h.before ≡ before → ⊥
no_code [] address code h is =
    let clash : [] ≡ bus.Start ∷ bus.Byte (2 * address) ∷ bus.Ack ∷ bus.Byte code ∷ bus.Ack ∷ h.back =
    h.whole ∙ ap (λ (b : List Event). b ++ bus.Start ∷ bus.Byte (2 * address) ∷ bus.Ack ∷ bus.Byte code ∷ bus.Ack ∷ h.back) is in
    cc
no_code (x ∷ xs) address code h is =
    let clash : [] ≡ x ∷ (xs ++ bus.Start ∷ bus.Byte (2 * address) ∷ bus.Ack ∷ bus.Byte code ∷ bus.Ack ∷ h.back) =
    h.whole ∙ ap (λ (b : List Event). b ++ bus.Start ∷ bus.Byte (2 * address) ∷ bus.Ack ∷ bus.Byte code ∷ bus.Ack ∷ h.back) is in
    cc

pub seen_nothing : (seen : Seen) → seen.start ≡ starts.Elsewhere → seen.listed.items ≡ []
    → seen.acked ≡ replicate 128 false → HasSeen seen []
seen_nothing seen start listed acked = record {
  start = subst (λ (s : LegStart). EndsWithStart s []) (sym start) (record { front = []; whole = refl; exact = refl });
  listed = subst (λ (l : List ℕ). AreListed [] l) (sym listed)
      (record { each = tt; first = λ address before a fine. absurd (no_acks before address a) });
  few = subst (λ (l : List ℕ). length l ≤ 64) (sym listed) (omega arith);
  acked = subst (λ (l : List Bool). AreAcked [] l) (sym acked) (record {
    each = λ address small. (
      λ is.
          let unset : slice_index_or (replicate 128 false) address false ≡ false =
          get_or-replicate 128 address false false small in
          let clash : false ≡ true = sym unset ∙ is in
          absurd (cc),
      λ acks. absurd (no_acks acks.0 address acks.1),
    );
    within = λ address acks. absurd (no_acks acks.0 address acks.1);
    count = length-replicate 128 false;
  });
  codes = λ address code h. absurd (no_code h.before address code h refl);
}
