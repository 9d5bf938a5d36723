-- What is kept of each part of a profile, by its place: for the loops of `profile_is_kept`,
-- `commands_are_kept` and `initials_are_small`, for `command_is_kept`, and the law `some_running`.
-- What holds at each place holds of all parts; the command at a place is the one with its code, so
-- that contracts by code speak of it.
use Rattle.std.proofs.Common.{◌≡◌, ℕ, zero, suc, ◌<◌, ◌+◌, Option, Some, None, List, [], ◌∷◌, length, refl, ap, subst}
use Rattle.std.proofs.Common.{◌∙◌, arith, option_map, map, Bool, cond, nat_eq, eq-eqb, true, false, inl, inr}
use Rattle.std.specs.Prelude.{slice_get, IfSome}
use Rattle.std.specs.List.{AllByRecursion, IsDistinct, find}
use Rattle.std.specs.Option.{option_and_then}
use Rattle.std.proofs.lemmas.Bool.{cases_lt}
use Rattle.pmb_command.specs.Entry.{EntryParts}
use Rattle.pmb_command.specs.Bus.{KeepsRanges}
use Rattle.pmb_command.specs.Parts.{CommandParts, DeviceParts, HaveOwnCodes, command_with, initial_on}
use Rattle.pmb_command.specs.Wire.{AreByteValues}
use Rattle.pmb_host.specs.Requests.{MakeFormats}
use Rattle.pmb_run.specs.Kept.{AreKeptDevices, IsKeptCommand, IsKeptDevice}

-- what holds at each place holds of all
pub all_at_places : {X : Type 0} (P : X → Type 0) (xs : List X) → ((k : ℕ) → k < length xs → IfSome (slice_get xs k) P)
    → AllByRecursion P xs
all_at_places P [] each = tt
all_at_places P (x ∷ xs) each = (
  each 0 (omega arith),
  all_at_places P xs (λ k small. each (suc k) (omega (arith, small))),
)

-- one place more
pub one_place_more : {X : Type 0} (P : X → Type 0) (xs : List X) (n : ℕ) → ((k : ℕ) → k < n → IfSome (slice_get xs k) P)
    → IfSome (slice_get xs n) P
    → (k : ℕ) → k < n + 1 → IfSome (slice_get xs k) P
one_place_more P xs n each here k small = elim (cases_lt k n) [
  | inl less ↦ each k less
  | inr more ↦
      let same : n ≡ k = omega (arith, small, more) in
      subst (λ (i : ℕ). IfSome (slice_get xs i) P) same here
]

-- one number more
pub one_number_more : (P : ℕ → Type 0) (n : ℕ) → ((k : ℕ) → k < n → P k) → P n → (k : ℕ) → k < n + 1 → P k
one_number_more P n each here k small = elim (cases_lt k n) [
  | inl less ↦ each k less
  | inr more ↦
      let same : n ≡ k = omega (arith, small, more) in
      subst P same here
]

-- a code that is none of some others is not that of the command at a place
apart_at : (code : ℕ) (cs : List CommandParts) (k : ℕ) (c : CommandParts)
    → AllByRecursion (λ other. nat_eq code other ≡ false) (map (λ c. c.entry.code) cs)
    → slice_get cs k ≡ Some c → nat_eq code c.entry.code ≡ false
apart_at code [] k c all is = absurd (cc is)
apart_at code (x ∷ cs) zero c all is = let same : x ≡ c = cc is in
    subst (λ (d : CommandParts). nat_eq code d.entry.code ≡ false) same all.0
apart_at code (x ∷ cs) (suc k) c all is = apart_at code cs k c all.1 is

-- the command at a place is found by its code
found_there : (cs : List CommandParts) (k : ℕ) (c : CommandParts) → HaveOwnCodes cs → slice_get cs k ≡ Some c
    → command_with c.entry.code cs ≡ Some c
unfolding IsDistinct
found_there [] k c own is = absurd (cc is)
found_there (x ∷ cs) zero c own is =
    let same : x ≡ c = cc is in
    let here : nat_eq x.entry.code c.entry.code ≡ true =
    eq-eqb x.entry.code c.entry.code (ap (λ (d : CommandParts). d.entry.code) same) in
    rw here (ap Some same)
found_there (x ∷ cs) (suc k) c own is =
    let other : nat_eq x.entry.code c.entry.code ≡ false = apart_at x.entry.code cs k c own.0 is in
    rw other (found_there cs k c own.1 is)

module _ (cs : List CommandParts) (k : ℕ) (own : HaveOwnCodes cs) (entry : EntryParts)
    (kind : KeepsRanges entry.kind)
    (small : (page : ℕ) → page < 32
    → IfSome (option_and_then (λ (c : CommandParts). initial_on page c.initial) (command_with entry.code cs))
    AreByteValues) where
  kept_if : (found : Option CommandParts) → slice_get cs k ≡ found
      → Some entry ≡ option_map (λ (c : CommandParts). c.entry) found → IfSome found IsKeptCommand
  kept_if None is at = tt
  kept_if (Some c) is at =
      let entry_is : entry ≡ c.entry = cc at in
      let found : command_with entry.code cs ≡ Some c = ap (λ (e : EntryParts). command_with e.code cs) entry_is
      ∙ found_there cs k c own is in
      record {
        kind = subst (λ (e : EntryParts). KeepsRanges e.kind) entry_is kind;
        initial = λ page few. subst (λ (o : Option CommandParts).
            IfSome (option_and_then (λ (d : CommandParts). initial_on page d.initial) o) AreByteValues) found
            (small page few);
      }

  -- What is kept of the command at a place, where that has the entry.
  pub command_kept : Some entry ≡ option_map (λ (c : CommandParts). c.entry) (slice_get cs k)
      → IfSome (slice_get cs k) IsKeptCommand
  command_kept at = kept_if (slice_get cs k) refl at

-- where there is no entry there is no command
none_kept_if : (found : Option CommandParts) → None ≡ option_map (λ (c : CommandParts). c.entry) found
    → IfSome found IsKeptCommand
none_kept_if None at = tt
none_kept_if (Some c) at = absurd (cc at)

pub none_kept : (cs : List CommandParts) (k : ℕ) → None ≡ option_map (λ (c : CommandParts). c.entry) (slice_get cs k)
    → IfSome (slice_get cs k) IsKeptCommand
none_kept cs k at = none_kept_if (slice_get cs k) at

-- ---- what is found

-- where each has a property, the one that is found has it
found_if : {X : Type 0} (P : X → Type 0) (test : Bool) (x : X) (o : Option X) → P x → IfSome o P
    → IfSome (cond test (Some x) o) P
found_if P true x o here later = here
found_if P false x o here later = later

pub found_has : {X : Type 0} (P : X → Type 0) (test : X → Bool) (xs : List X) → AllByRecursion P xs
    → IfSome (find test xs) P
found_has P test [] all = tt
found_has P test (x ∷ xs) all = found_if P (test x) x (find test xs) all.0 (found_has P test xs all.1)

-- ---- formats

-- The coefficients of a profile's output voltages make formats.
pub make_formats : (profile : List DeviceParts) → AreKeptDevices profile → MakeFormats profile
make_formats profile kept address device known =
    (subst (λ (o : Option DeviceParts). IfSome o IsKeptDevice) known
    (found_has IsKeptDevice (λ (d : DeviceParts). nat_eq d.address address) profile kept)).vout
