-- A write to one history of a register's: it changes no other.
use Rattle.std.proofs.Common.{◌≡◌, ℕ, zero, suc, ◌+◌, ◌<◌, Some, List, [], ◌∷◌, ◌++◌, ap, arith, refl, set}
use Rattle.std.proofs.Common.{slice_get, subst, sym, ◌∙◌, inl, inr}
use Rattle.std.proofs.lemmas.Bool.{cases_eq}
use Rattle.std.proofs.lemmas.Option.{same_Some}
use Rattle.pmb_stats_bits.specs.declared.history.BitHistory.{BitHistory}
use Rattle.pmb_stats_bits.specs.Bits.{RegisterRead}
use Rattle.pmb_stats_bits.specs.Standing.{BitStandsAt, RegisterStandsAt}
use Rattle.pmb_stats_bits.specs.machine.Seeing.{IsSeenTo}

slice_get-set_same : {X : Type 0} (xs : List X) (i : ℕ) (y x : X) → slice_get xs i ≡ Some x
    → slice_get (set xs i y) i ≡ Some y
slice_get-set_same [] i y x e = cc
slice_get-set_same (z ∷ xs) zero y x e = refl
slice_get-set_same (z ∷ xs) (suc i) y x e = slice_get-set_same xs i y x e

slice_get-set_other : {X : Type 0} (xs : List X) (i k : ℕ) (y : X) → (k ≡ i → ⊥)
    → slice_get (set xs i y) k ≡ slice_get xs k
slice_get-set_other [] i k y ne = refl
slice_get-set_other (z ∷ xs) zero zero y ne = absurd (ne refl)
slice_get-set_other (z ∷ xs) zero (suc k) y ne = refl
slice_get-set_other (z ∷ xs) (suc i) zero y ne = refl
slice_get-set_other (z ∷ xs) (suc i) (suc k) y ne = slice_get-set_other xs i k y (λ e. ne (ap suc e))

pub none_seen : (bits : List BitHistory) (read : RegisterRead) → IsSeenTo bits bits read 0
none_seen bits read = record {
  seen = λ bit history below. absurd (omega arith);
  rest = λ bit above. refl;
}

-- the history of bit i took the read
pub one_more : (start now : List BitHistory) (read : RegisterRead) (i : ℕ) (before after : BitHistory)
    → IsSeenTo start now read i → slice_get now i ≡ Some before
    → ((reads : List RegisterRead) → BitStandsAt before reads i → BitStandsAt after (reads ++ read ∷ []) i)
    → IsSeenTo start (set now i after) read (i + 1)
one_more start now read i before after is at step = record {
  seen = λ bit history below found reads stands.
      elim (cases_eq bit i) [
        | inl same ↦
            let here : slice_get (set now i after) i ≡ Some history
            = subst (λ k. slice_get (set now i after) k ≡ Some history) same found in
            let e : history ≡ after
            = same_Some history after (sym here ∙ slice_get-set_same now i after before at) in
            subst (λ k. BitStandsAt history (reads ++ read ∷ []) k) (sym same)
            (subst (λ h. BitStandsAt h (reads ++ read ∷ []) i) (sym e)
            (step reads (stands i before (sym (is.rest i (omega arith)) ∙ at))))
        | inr other ↦
            is.seen bit history (omega arith) (sym (slice_get-set_other now i bit after other) ∙ found) reads stands
      ];
  rest = λ bit above. slice_get-set_other now i bit after (λ e. omega arith) ∙ is.rest bit (omega arith);
}

-- the histories of all bits did
pub all_seen : (start now : List BitHistory) (read : RegisterRead) (n : ℕ) → IsSeenTo start now read n
    → ((bit : ℕ) (history : BitHistory) → slice_get now bit ≡ Some history → bit < n)
    → (reads : List RegisterRead) → RegisterStandsAt start reads → RegisterStandsAt now (reads ++ read ∷ [])
all_seen start now read n is within reads stands bit history at =
    is.seen bit history (within bit history at) at reads stands
