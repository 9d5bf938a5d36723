-- Each two pairs of levels are of one kind: for the law `each_is_one_kind`.
use Rattle.std.proofs.Common.{◌≡◌, ◌≢◌, ◌⊎◌, inl, inr, refl}
use Rattle.pmb_wires.specs.Kinds.{EachIsOneKind, Is}
use Rattle.pmb_wires.specs.Kinds.{kind, kind_by}
use Rattle.pmb_wires.specs.declared.level.Level.{Level}
use Rattle.pmb_wires.specs.declared.level.Level.TheVariants.{Low, High, Unknown}
use Rattle.pmb_wires.specs.declared.signal.Kind.{Kind}
use Rattle.pmb_wires.specs.declared.signal.Kind.TheVariants as kinds
use Rattle.pmb_wires.specs.declared.signal.Pair.{Pair}

abbrev pair : Level → Level → Pair
pair scl sda = record { scl = scl; sda = sda }

-- ---- it is of its kind

of_kind : (c c' d d' : Level) → Is (kind_by c c' d d') (pair c d) (pair c' d')
of_kind Low Low d d' = record { scl_stays = refl; sda = inl (λ e. cc) }
of_kind Low High d Low = record { scl_before = (λ e. cc); scl_behind = refl; sda_behind = (λ e. cc) }
of_kind Low High d High = record { scl_before = (λ e. cc); scl_behind = refl; sda_behind = (λ e. cc) }
of_kind Low High d Unknown = record { scl_behind = refl; sda_behind = refl; is_new = inl (λ e. cc) }
of_kind Low Unknown d d' = record { scl_before = (λ e. cc); scl_behind = refl }
of_kind High Low d d' = record { scl_before = (λ e. cc); scl_behind = refl }
of_kind High High Low Low = record { scl_stays = refl; sda = inr (inl refl) }
of_kind High High Low High = record { scl_before = refl; scl_behind = refl; sda_before = refl; sda_behind = refl }
of_kind High High Low Unknown = record { scl_behind = refl; sda_behind = refl; is_new = inr (λ e. cc) }
of_kind High High High Low = record { scl_before = refl; scl_behind = refl; sda_before = refl; sda_behind = refl }
of_kind High High High High = record { scl_stays = refl; sda = inr (inl refl) }
of_kind High High High Unknown = record { scl_behind = refl; sda_behind = refl; is_new = inr (λ e. cc) }
of_kind High High Unknown Low = record { scl_stays = refl; sda = inr (inr refl) }
of_kind High High Unknown High = record { scl_stays = refl; sda = inr (inr refl) }
of_kind High High Unknown Unknown = record { scl_stays = refl; sda = inr (inl refl) }
of_kind High Unknown d d' = record { scl_before = (λ e. cc); scl_behind = refl }
of_kind Unknown Low d d' = record { scl_before = (λ e. cc); scl_behind = refl }
of_kind Unknown High d Low = record { scl_before = (λ e. cc); scl_behind = refl; sda_behind = (λ e. cc) }
of_kind Unknown High d High = record { scl_before = (λ e. cc); scl_behind = refl; sda_behind = (λ e. cc) }
of_kind Unknown High d Unknown = record { scl_behind = refl; sda_behind = refl; is_new = inl (λ e. cc) }
of_kind Unknown Unknown d d' = record { scl_stays = refl; sda = inl (λ e. cc) }

-- ---- and of no other

rise_only : (c c' d d' : Level) → c ≢ High → c' ≡ High → d' ≢ Unknown → kinds.Rise ≡ kind_by c c' d d'
rise_only High c' d d' not high known = absurd (not refl)
rise_only c c' d Unknown not high known = absurd (known refl)
rise_only Low c' d Low not high known = rw high refl
rise_only Low c' d High not high known = rw high refl
rise_only Unknown c' d Low not high known = rw high refl
rise_only Unknown c' d High not high known = rw high refl

fall_only : (c c' d d' : Level) → c ≢ Low → c' ≡ Low → kinds.Fall ≡ kind_by c c' d d'
fall_only Low c' d d' not low = absurd (not refl)
fall_only High c' d d' not low = rw low refl
fall_only Unknown c' d d' not low = rw low refl

scl_only : (c c' d d' : Level) → c ≢ Unknown → c' ≡ Unknown → kinds.SclUnknown ≡ kind_by c c' d d'
scl_only Unknown c' d d' not x = absurd (not refl)
scl_only High c' d d' not x = rw x refl
scl_only Low c' d d' not x = rw x refl

sda_only : (c c' d d' : Level) → c' ≡ High → d' ≡ Unknown → (c ≢ High) ⊎ (d ≢ Unknown)
    → kinds.SdaUnknown ≡ kind_by c c' d d'
sda_only Low c' d d' high x new = rw (high, x) refl
sda_only Unknown c' d d' high x new = rw (high, x) refl
sda_only High c' Low d' high x new = rw (high, x) refl
sda_only High c' High d' high x new = rw (high, x) refl
sda_only High c' Unknown d' high x (inl not) = absurd (not refl)
sda_only High c' Unknown d' high x (inr not) = absurd (not refl)

at_high_only : (d d' : Level) → (High ≢ High) ⊎ ((d ≡ d') ⊎ (d ≡ Unknown)) → kinds.Nothing ≡ kind_by High High d d'
at_high_only d d' (inl not) = absurd (not refl)
at_high_only Unknown Low stays = refl
at_high_only Unknown High stays = refl
at_high_only Unknown Unknown stays = refl
at_high_only Low Low stays = refl
at_high_only High High stays = refl
at_high_only Low High (inr (inl same)) = cc
at_high_only Low High (inr (inr x)) = cc
at_high_only Low Unknown (inr (inl same)) = cc
at_high_only Low Unknown (inr (inr x)) = cc
at_high_only High Low (inr (inl same)) = cc
at_high_only High Low (inr (inr x)) = cc
at_high_only High Unknown (inr (inl same)) = cc
at_high_only High Unknown (inr (inr x)) = cc

nothing_only : (c c' d d' : Level) → c ≡ c' → (c' ≢ High) ⊎ ((d ≡ d') ⊎ (d ≡ Unknown)) → kinds.Nothing ≡ kind_by c c' d d'
nothing_only Low Low d d' same sda = refl
nothing_only Unknown Unknown d d' same sda = refl
nothing_only High High d d' same sda = at_high_only d d' sda
nothing_only Low High d d' same sda = cc
nothing_only Low Unknown d d' same sda = cc
nothing_only High Low d d' same sda = cc
nothing_only High Unknown d d' same sda = cc
nothing_only Unknown Low d d' same sda = cc
nothing_only Unknown High d d' same sda = cc

only : (other : Kind) (before after : Pair) → Is other before after → other ≡ kind before after
only kinds.Start before after is = rw (is.scl_before, is.scl_behind, is.sda_before, is.sda_behind) refl
only kinds.Stop before after is = rw (is.scl_before, is.scl_behind, is.sda_before, is.sda_behind) refl
only kinds.Rise before after is =
    rise_only before.scl after.scl before.sda after.sda is.scl_before is.scl_behind is.sda_behind
only kinds.Fall before after is = fall_only before.scl after.scl before.sda after.sda is.scl_before is.scl_behind
only kinds.SclUnknown before after is = scl_only before.scl after.scl before.sda after.sda is.scl_before is.scl_behind
only kinds.SdaUnknown before after is =
    sda_only before.scl after.scl before.sda after.sda is.scl_behind is.sda_behind is.is_new
only kinds.Nothing before after is = nothing_only before.scl after.scl before.sda after.sda is.scl_stays is.sda

pub each_is_one : EachIsOneKind
each_is_one before after =
    (of_kind before.scl after.scl before.sda after.sda, λ other is. only other before after is)
