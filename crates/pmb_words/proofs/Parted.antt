-- A text cut at its first byte of a kind.
use Rattle.std.proofs.Common.{◌≡◌, ◌≢◌, ℕ, zero, suc, ◌-◌, ◌<◌, ◌==◌, Bool, true, false, List, [], ◌∷◌, ◌++◌, Some}
use Rattle.std.proofs.Common.{None}
use Rattle.std.proofs.Common.{length, length-drop, subst, take, drop, slice_index, refl, sym, ◌∙◌, ap, arith}
use Rattle.std.proofs.Common.{inl, inr, Option, Bor, option_copied}
use Rattle.std.specs.Option.{MatchOption}
use Rattle.std.proofs.lemmas.Bool.{eq-eqb}
use Rattle.std.proofs.lemmas.Bool.Decides.{eqb_tells}
use Rattle.pmb_words.specs.Parts.{after, parted}

is_false : (b : Bool) → (b ≡ true → ⊥) → b ≡ false
is_false true never = absurd (never refl)
is_false false never = refl

-- a text as long as it is
take_whole : (text : List ℕ) → take (length text) text ≡ text
take_whole [] = refl
take_whole (b ∷ bs) = ap (λ (t : List ℕ). b ∷ t) (take_whole bs)

-- at its first such byte
pub parted_at : (at : ℕ) (text : List ℕ) (k : ℕ) → k < length text → (slice_index text k == at) ≡ true
    → ((j : ℕ) → j < k → (slice_index text j == at) ≡ true → ⊥)
    → parted at text ≡ record { front = take k text; rest = Some (drop (suc k) text) }
parted_at at [] k within is none = absurd (omega arith)
parted_at at (b ∷ bs) zero within is none = simp is
parted_at at (b ∷ bs) (suc k) within is none =
    let not_first = is_false (b == at) (none 0 (omega arith)) in
    let later = parted_at at bs k (omega arith) is (λ j below found. none (suc j) (omega arith) found) in
    simp (not_first, later)

-- or not at all
pub parted_none : (at : ℕ) (text : List ℕ) → ((j : ℕ) → j < length text → (slice_index text j == at) ≡ true → ⊥)
    → parted at text ≡ record { front = text; rest = None }
parted_none at [] none = refl
parted_none at (b ∷ bs) none =
    let not_first = is_false (b == at) (none 0 (omega arith)) in
    let later = parted_none at bs (λ j below found. none (suc j) (omega arith) found) in
    simp (not_first, later)

-- what follows a text in front
pub after_front : (front rest : List ℕ) → after front (front ++ rest) ≡ Some rest
after_front [] rest = refl
after_front (b ∷ front) rest =
    let same : (b == b) ≡ true = eq-eqb b b refl in
    let later = after_front front rest in
    simp (same, later)

in_front : (b : ℕ) (front text rest : List ℕ) → text ≡ front ++ rest → (b ∷ text) ≡ (b ∷ front) ++ rest
in_front b front text rest split = ap (λ (t : List ℕ). b ∷ t) split

after_other : (b c : ℕ) (front text : List ℕ) → ((rest : List ℕ) → (c ∷ text) ≢ (b ∷ front) ++ rest)
    → (((rest : List ℕ) → text ≢ front ++ rest) → after front text ≡ None)
    → after (b ∷ front) (c ∷ text) ≡ None
after_other b c front text never later =
    elim (eqb_tells b c) [
      | inl same ↦
          let none = later (λ rest split. never rest (ap (λ (t : List ℕ). c ∷ t) split
          ∙ ap (λ (x : ℕ). x ∷ (front ++ rest)) (sym same.1))) in
          simp (same.0, none)
      | inr other ↦ simp other.0
    ]

pub after_none : (front text : List ℕ) → ((rest : List ℕ) → text ≢ front ++ rest) → after front text ≡ None
after_none [] text never = absurd (never text refl)
after_none (b ∷ front) [] never = refl
after_none (b ∷ front) (c ∷ text) never = after_other b c front text never (after_none front text)

-- the answer of a search for it
pub behind_is : (front text : List ℕ) (r : Option (Bor (List ℕ)))
    → MatchOption r ((rest : List ℕ) → text ≢ front ++ rest) (λ (x : Bor (List ℕ)). text ≡ front ++ x.now)
    → option_copied r ≡ after front text
behind_is front text None never = sym (after_none front text never)
behind_is front text (Some x) split = sym (ap (after front) split ∙ after_front front x.now)

-- all that follows a place
pub all_of : (k : ℕ) (text : List ℕ) → take (length text - k) (drop k text) ≡ drop k text
all_of k text = subst (λ (n : ℕ). take n (drop k text) ≡ drop k text) (length-drop k text) (take_whole (drop k text))
