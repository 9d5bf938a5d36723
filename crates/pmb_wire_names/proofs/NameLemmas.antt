-- A name that is kept byte by byte: for `wanted_name`.
use Rattle.std.proofs.Common.{◌≡◌, ◌∙◌, ℕ, ◌≤◌, ◌<◌, ◌==◌, true, false, List, [], ◌∷◌, ◌++◌, length, take, append_assoc, append-nil}
use Rattle.std.proofs.Common.{ap, refl, sym, arith, inl, inr}
use Rattle.std.proofs.lemmas.Bool.{cases_Bool, cases_lt}
use Rattle.std.proofs.lemmas.Bool.Decides.{nat_tests}
use Rattle.std.proofs.lemmas.List.{length-append, take-append-le, take_all}
use Rattle.pmb_wire_names.specs.Kept.{kept_from, with_byte}
use Rattle.pmb_wire_names.specs.Matching.{is_blank, without_blanks}

full_count : (n : ℕ) → n ≤ 256 → 256 ≤ n → (n == 256) ≡ true
full_count n most least = grind (arith, nat_tests)

room_count : (n : ℕ) → n < 256 → (n == 256) ≡ false
room_count n is = grind (arith, nat_tests)

-- a byte that is no blank
more_by : (kept : List ℕ) (byte : ℕ) (name : List ℕ) → length kept ≤ 256 → is_blank byte ≡ false
    → take 256 (kept ++ (byte ∷ without_blanks name)) ≡ take 256 (with_byte kept byte ++ without_blanks name)
more_by kept byte name short no_blank = elim (cases_lt (length kept) 256) [
  | inl room ↦
      rw (room_count (length kept) room, no_blank)
      (ap (take 256) (sym (append_assoc kept (byte ∷ []) (without_blanks name))))
  | inr full ↦
      rw (full_count (length kept) short full)
      (take-append-le 256 kept (byte ∷ without_blanks name) full
      ∙ sym (take-append-le 256 kept (without_blanks name) full))
]

-- a blank
blank_kept : (kept : List ℕ) (byte : ℕ) → length kept ≤ 256 → is_blank byte ≡ true → with_byte kept byte ≡ kept
blank_kept kept byte short blank = elim (cases_lt (length kept) 256) [
  | inl room ↦ rw (room_count (length kept) room, blank) refl
  | inr full ↦ rw (full_count (length kept) short full) refl
]

more_kept : (kept : List ℕ) (byte : ℕ) (name : List ℕ) → length kept ≤ 256
    → take 256 (kept ++ without_blanks (byte ∷ name)) ≡ take 256 (with_byte kept byte ++ without_blanks name)
more_kept kept byte name short = elim (cases_Bool (is_blank byte)) [
  | inl blank ↦
      let left : without_blanks (byte ∷ name) ≡ without_blanks name = rw blank refl in
      ap (λ (t : List ℕ). take 256 (kept ++ t)) left
      ∙ ap (λ (k : List ℕ). take 256 (k ++ without_blanks name)) (sym (blank_kept kept byte short blank))
  | inr none ↦
      let left : without_blanks (byte ∷ name) ≡ byte ∷ without_blanks name = rw none refl in
      ap (λ (t : List ℕ). take 256 (kept ++ t)) left ∙ more_by kept byte name short none
]

short_kept : (kept : List ℕ) (byte : ℕ) → length kept ≤ 256 → length (with_byte kept byte) ≤ 256
short_kept kept byte short = elim (cases_lt (length kept) 256) [
  | inr full ↦ rw (full_count (length kept) short full) short
  | inl room ↦ elim (cases_Bool (is_blank byte)) [
    | inl blank ↦ rw (room_count (length kept) room, blank) short
    | inr none ↦ rw (room_count (length kept) room, none) (omega (arith, length-append kept (byte ∷ [])))
  ]
]

pub kept_is : (kept name : List ℕ) → length kept ≤ 256
    → kept_from kept name ≡ take 256 (kept ++ without_blanks name)
kept_is kept [] short = sym (ap (take 256) (append-nil kept) ∙ take_all 256 kept short)
kept_is kept (byte ∷ name) short =
    kept_is (with_byte kept byte) name (short_kept kept byte short) ∙ sym (more_kept kept byte name short)
