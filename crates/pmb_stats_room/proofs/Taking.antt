-- What is kept takes what is seen, at an index: for `see` of each layer.
use Rattle.std.proofs.Common.{◌≡◌, ℕ, ◌==◌, ◌&&◌, Bool, true, false, nat_eq, Option, Some, None, List, [], ◌++◌, ap}
use Rattle.std.proofs.Common.{refl, set, slice_get, subst, sym, ◌∙◌, inl, inr}
use Rattle.std.proofs.lemmas.Bool.{cases_Bool, eq-eqb, eqb-true}
use Rattle.std.proofs.lemmas.List.{append-nil}
use Rattle.pmb_mean.specs.Numbers.{NumberData}
use Rattle.pmb_stats_bits.specs.Bits.{RegisterRead}
use Rattle.pmb_stats_room.specs.declared.sight.Sight.{Sight}
use Rattle.pmb_stats_room.specs.declared.slot.Slot.{Slot}
use Rattle.pmb_stats_room.specs.machine.Seeing.{SlotsSee, Takes}
use Rattle.pmb_stats_room.specs.machine.Sights.{numbers_in, reads_in}
use Rattle.pmb_stats_room.specs.machine.Slots.{HasSeen, kind_of}
use Rattle.pmb_stats_room.specs.machine.Standing.{IsKept}
use Rattle.pmb_stats_room.proofs.Lists.{slice_get-set_other, slice_get-set_same}

-- where nothing is seen, all stays
pub unchanged : (sight : Sight) (slot : Option Slot) → Takes false sight slot slot
unchanged sight slot = record {
  keeps = λ command reads numbers is.
      subst (λ rs. IsKept command slot rs (numbers ++ [])) (sym (append-nil reads))
      (subst (λ ns. IsKept command slot reads ns) (sym (append-nil numbers)) is);
}

-- where nothing is kept, nothing is taken
pub nothing : (there : Bool) (sight : Sight) → Takes there sight None None
nothing there sight = record { keeps = λ command reads numbers is. record { kept = is.kept; seen = tt } }

-- a slot takes it
pub slot_takes : (sight : Sight) (before after : Slot) → kind_of after ≡ kind_of before
    → ((reads : List RegisterRead) (numbers : List NumberData) → HasSeen before reads numbers
    → HasSeen after (reads ++ reads_in sight) (numbers ++ numbers_in sight))
    → Takes true sight (Some before) (Some after)
slot_takes sight before after same sees = record {
  keeps = λ command reads numbers is. record {
    kept = ap Some same ∙ is.kept;
    seen = sees reads numbers is.seen;
  };
}

-- what is at one index takes it, and the others stay
pub index_takes : {X : Type 0} (find : Option X → Option Slot) (xs : List X) (place i : ℕ) (x y : X) (there : Bool)
    (sight : Sight) → slice_get xs place ≡ Some x → Takes there sight (find (Some x)) (find (Some y))
    → Takes ((place == i) && there) sight (find (slice_get xs i)) (find (slice_get (set xs place y) i))
index_takes {X} find xs place i x y there sight at takes =
    elim (cases_Bool (nat_eq place i)) [
      | inl same ↦
          let here : place ≡ i = eqb-true place i same in
          let before : slice_get xs i ≡ Some x = subst (λ k. slice_get xs k ≡ Some x) here at in
          let after : slice_get (set xs place y) i ≡ Some y
          = subst (λ k. slice_get (set xs place y) k ≡ Some y) here (slice_get-set_same xs place y x at) in
          subst (λ b. Takes (b && there) sight (find (slice_get xs i)) (find (slice_get (set xs place y) i)))
          (sym same)
          (subst (λ o. Takes there sight (find o) (find (slice_get (set xs place y) i))) (sym before)
          (subst (λ o. Takes there sight (find (Some x)) (find o)) (sym after) takes))
      | inr other ↦
          let apart : slice_get (set xs place y) i ≡ slice_get xs i
          = slice_get-set_other xs place i y (λ e. cc (eq-eqb place i (sym e))) in
          subst (λ b. Takes (b && there) sight (find (slice_get xs i)) (find (slice_get (set xs place y) i)))
          (sym other)
          (subst (λ o. Takes false sight (find (slice_get xs i)) (find o)) (sym apart)
          (unchanged sight (find (slice_get xs i))))
    ]

-- there is nothing at that index
pub index_lacks : {X : Type 0} (find : Option X → Option Slot) (xs : List X) (place i : ℕ) (there : Bool)
    (sight : Sight) → slice_get xs place ≡ None → find None ≡ None
    → Takes ((place == i) && there) sight (find (slice_get xs i)) (find (slice_get xs i))
index_lacks {X} find xs place i there sight at none =
    elim (cases_Bool (nat_eq place i)) [
      | inl same ↦
          let lacks : find (slice_get xs i) ≡ None
          = ap find (subst (λ k. slice_get xs k ≡ None) (eqb-true place i same) at) ∙ none in
          subst (λ o. Takes ((place == i) && there) sight o o) (sym lacks) (nothing ((place == i) && there) sight)
      | inr other ↦
          subst (λ b. Takes (b && there) sight (find (slice_get xs i)) (find (slice_get xs i))) (sym other)
          (unchanged sight (find (slice_get xs i)))
    ]

and_true : (b : Bool) → (b && true) ≡ b
and_true true = refl
and_true false = refl

pub slots_take : (slots : List Slot) (place : ℕ) (before after : Slot) (sight : Sight)
    → slice_get slots place ≡ Some before → Takes true sight (Some before) (Some after)
    → SlotsSee place sight slots (set slots place after)
slots_take slots place before after sight at takes = record {
  each = λ i. subst (λ b. Takes b sight (slice_get slots i) (slice_get (set slots place after) i))
      (and_true (place == i)) (index_takes (λ o. o) slots place i before after true sight at takes);
}

pub slots_lack : (slots : List Slot) (place : ℕ) (sight : Sight) → slice_get slots place ≡ None
    → SlotsSee place sight slots slots
slots_lack slots place sight at = record {
  each = λ i. subst (λ b. Takes b sight (slice_get slots i) (slice_get slots i))
      (and_true (place == i)) (index_lacks (λ o. o) slots place i true sight at refl);
}
