-- The counts of devices: the device that a fact names counts it, and no other does.
use Rattle.std.proofs.Common.{◌≡◌, ℕ, zero, suc, ◌<◌, ◌≤◌, Bool, true, false, cond, Some, List, [], ◌∷◌, ◌++◌}
use Rattle.std.proofs.Common.{ap, length, refl, set, slice_get, subst, sym, ◌∙◌, inl, inr, arith}
use Rattle.std.proofs.lemmas.Bool.{cases_eq, eq-eqb, ne_eqb}
use Rattle.std.proofs.lemmas.List.{append-nil}
use Rattle.std.proofs.lemmas.List.Elements.{filter-append}
use Rattle.std.proofs.lemmas.Option.{same_Some, slice_get_within}
use Rattle.pmb_facts.specs.Fact.{FactData, fact_device}
use Rattle.pmb_stats.specs.machine.DeviceCounts.{DevicesStandAt}
use Rattle.pmb_stats_counts.specs.Counts.{is_address, names, of_device}
use Rattle.pmb_stats_counts.specs.Standing.{HasCounted}
use Rattle.pmb_stats_counts.specs.declared.counts.SortCounts.{SortCounts}

-- ---- a write to one place of a list

slice_get-set_same : {X : Type 0} (xs : List X) (i : ℕ) (y x : X) → slice_get xs i ≡ Some x
    → slice_get (set xs i y) i ≡ Some y
slice_get-set_same [] i y x e = cc
slice_get-set_same (z ∷ xs) zero y x e = refl
slice_get-set_same (z ∷ xs) (suc i) y x e = slice_get-set_same xs i y x e

slice_get-set_other : {X : Type 0} (xs : List X) (i k : ℕ) (y : X) → (k ≡ i → ⊥)
    → slice_get (set xs i y) k ≡ slice_get xs k
slice_get-set_other [] i k y ne = refl
slice_get-set_other (z ∷ xs) zero zero y ne = absurd (ne refl)
slice_get-set_other (z ∷ xs) zero (suc k) y ne = refl
slice_get-set_other (z ∷ xs) (suc i) zero y ne = refl
slice_get-set_other (z ∷ xs) (suc i) (suc k) y ne = slice_get-set_other xs i k y (λ e. ne (ap suc e))

-- .. and one more at its end
slice_get-more : {X : Type 0} (P : X → Type 0) (xs : List X) (y : X)
    → ((i : ℕ) (x : X) → slice_get xs i ≡ Some x → P x) → P y
    → (i : ℕ) (x : X) → slice_get (xs ++ y ∷ []) i ≡ Some x → P x
slice_get-more P [] y all last zero x e = subst P (same_Some y x e) last
slice_get-more P [] y all last (suc i) x e = cc
slice_get-more P (z ∷ xs) y all last zero x e = all zero x e
slice_get-more P (z ∷ xs) y all last (suc i) x e =
    slice_get-more P xs y (λ i x e. all (suc i) x e) last i x e

-- ---- a fact that is counted

-- the facts that name a device, after one more
of_more : (addr : ℕ) (facts : List FactData) (fact : FactData)
    → of_device addr (facts ++ fact ∷ []) ≡ of_device addr facts ++ of_device addr (fact ∷ [])
of_more addr facts fact = filter-append (names addr) facts (fact ∷ [])

one_of : (addr : ℕ) (fact : FactData) → names addr fact ≡ true → of_device addr (fact ∷ []) ≡ fact ∷ []
one_of addr fact is = ap (λ (b : Bool). cond b (fact ∷ []) []) is

none_of : (addr : ℕ) (fact : FactData) → names addr fact ≡ false → of_device addr (fact ∷ []) ≡ []
none_of addr fact is = ap (λ (b : Bool). cond b (fact ∷ []) []) is

-- the facts of another device stay the same
unnamed : (addr : ℕ) (facts : List FactData) (fact : FactData) → names addr fact ≡ false
    → of_device addr (facts ++ fact ∷ []) ≡ of_device addr facts
unnamed addr facts fact is = of_more addr facts fact
    ∙ (ap (λ more. of_device addr facts ++ more) (none_of addr fact is) ∙ append-nil (of_device addr facts))

-- those of the device that it names have it too
named : (addr : ℕ) (facts : List FactData) (fact : FactData) → names addr fact ≡ true
    → of_device addr (facts ++ fact ∷ []) ≡ of_device addr facts ++ fact ∷ []
named addr facts fact is = of_more addr facts fact ∙ ap (λ more. of_device addr facts ++ more) (one_of addr fact is)

-- the counts of the device that a fact names took it
pub one_counted : (devices : List SortCounts) (facts : List FactData) (fact : FactData) (at : ℕ)
    (before after : SortCounts) → DevicesStandAt devices facts → fact_device fact.what ≡ Some at
    → slice_get devices at ≡ Some before
    → (HasCounted before (of_device at facts) → HasCounted after (of_device at facts ++ fact ∷ []))
    → DevicesStandAt (set devices at after) (facts ++ fact ∷ [])
one_counted devices facts fact at before after stands names_it is step = record {
  each = λ addr counts found.
      elim (cases_eq addr at) [
        | inl same ↦
            let here : slice_get (set devices at after) at ≡ Some counts
            = subst (λ k. slice_get (set devices at after) k ≡ Some counts) same found in
            let e : after ≡ counts
            = same_Some after counts (sym (slice_get-set_same devices at after before is) ∙ here) in
            let named_it : names at fact ≡ true = ap (is_address at) names_it ∙ eq-eqb at at refl in
            subst (λ k. HasCounted counts (of_device k (facts ++ fact ∷ []))) (sym same)
            (subst (HasCounted counts) (sym (named at facts fact named_it))
            (subst (λ c. HasCounted c (of_device at facts ++ fact ∷ [])) e
            (step (stands.each at before is))))
        | inr other ↦
            let apart : names addr fact ≡ false
            = ap (is_address addr) names_it ∙ ne_eqb at addr (λ e. other (sym e)) in
            subst (HasCounted counts) (sym (unnamed addr facts fact apart))
            (stands.each addr counts (sym (slice_get-set_other devices at addr after other) ∙ found))
      ];
}

-- a fact that names no device of the table
pub none_counted : (devices : List SortCounts) (facts : List FactData) (fact : FactData) (at : ℕ)
    → DevicesStandAt devices facts → fact_device fact.what ≡ Some at → length devices ≡ 128 → 128 ≤ at
    → DevicesStandAt devices (facts ++ fact ∷ [])
none_counted devices facts fact at stands names_it many past = record {
  each = λ addr counts found.
      let within : addr < length devices = slice_get_within devices addr counts found in
      let apart : names addr fact ≡ false
      = ap (is_address addr) names_it ∙ ne_eqb at addr (λ (e : at ≡ addr). omega arith) in
      subst (HasCounted counts) (sym (unnamed addr facts fact apart)) (stands.each addr counts found);
}

-- ---- at first

pub no_devices : DevicesStandAt [] []
no_devices = record { each = λ addr counts found. cc }

pub one_more_device : (devices : List SortCounts) (counts : SortCounts) → DevicesStandAt devices []
    → HasCounted counts []
    → DevicesStandAt (devices ++ counts ∷ []) []
one_more_device devices counts stands none = record {
  each = slice_get-more (λ c. HasCounted c []) devices counts stands.each none;
}
