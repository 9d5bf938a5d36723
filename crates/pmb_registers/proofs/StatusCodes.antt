-- The list of the codes of status registers, and clearing the registers whose codes are listed.
-- For the loop of `status_codes` and for `clear_in_each`. Codes are below 256, so that a list of
-- those below 256 has all; clearing code by code comes to clearing all at once, since to clear
-- twice is to clear.
use Rattle.std.proofs.Common.{◌≡◌, inl, inr, ℕ, ◌+◌, ◌<◌, ◌≤◌, Bool, true, false, ◌&&◌, ◌||◌, cond, Option, None, List}
use Rattle.std.proofs.Common.{[], ◌∷◌, length, map, take, get_or, nat_eq, refl, sym, ap, ◌∙◌, arith}
use Rattle.std.specs.List.{AllByRecursion}
use Rattle.std.proofs.lemmas.Bool.{cases_lt, ne_eqb}
use Rattle.std.proofs.lemmas.List.Folds.{list_any_more}
use Rattle.pmb_command.specs.Bus.{IsCommand, IsDevice}
use Rattle.pmb_command.specs.Parts.{CommandParts, DeviceParts, command_with}
use Rattle.pmb_registers.specs.State.{RegisterData}
use Rattle.pmb_registers.specs.Apply.{changed, changed_one, holds_status, is_status, reaches}
use Rattle.pmb_registers.specs.machine.StatusCodes.{is_listed, AreStatusCodes}

-- ---- the list

-- Listed are the codes of status registers that are below a number.
pub record AreStatusCodesBelow (device : DeviceParts) (n : ℕ) (codes : List ℕ) : Type 0 where
  -- there are at most n of them
  pub few : length codes ≤ n
  -- below n just the status codes are listed
  pub below : (code : ℕ) → code < n → is_listed codes code ≡ is_status device code
  -- and from n on none yet
  pub above : (code : ℕ) → n ≤ code → is_listed codes code ≡ false

-- no command has a code of two bytes
none_with : (code : ℕ) (cs : List CommandParts) → AllByRecursion IsCommand cs → 256 ≤ code → command_with code cs ≡ None
none_with code [] all large = refl
none_with code (c ∷ cs) (is, all) large =
    let apart : nat_eq c.entry.code code ≡ false = ne_eqb c.entry.code code (λ same. omega (arith, is.entry.byte)) in
    rw apart (none_with code cs all large)

-- those below 256 are all
pub all_status : (device : DeviceParts) (n : ℕ) (codes : List ℕ) → IsDevice device → 256 ≤ n
    → AreStatusCodesBelow device n codes → AreStatusCodes device codes
all_status device n codes is enough are = λ code.
    elim (cases_lt code n) [
      | inl small ↦ are.below code small
      | inr large ↦ are.above code large ∙ sym
          (ap holds_status (none_with code device.commands is.commands (omega arith)))
    ]

-- ---- clearing

abbrev cleared : List ℕ → List ℕ
cleared bytes = map (λ byte. 0) bytes

cleared_again : (bytes : List ℕ) → cleared (cleared bytes) ≡ cleared bytes
cleared_again [] = refl
cleared_again (byte ∷ bytes) = ap (λ (bs : List ℕ). 0 ∷ bs) (cleared_again bytes)

abbrev cleared_one : RegisterData → RegisterData
cleared_one r = record r { bytes = cleared r.bytes }

-- a register that may be cleared keeps its code and page
kept : (test : Bool) (r : RegisterData) → ((cond test (cleared_one r) r).code ≡ r.code)
    × ((cond test (cleared_one r) r).page ≡ r.page)
kept true r = (refl, refl)
kept false r = (refl, refl)

-- cleared for a first code, then for another one
both : (first other reached : Bool) (r : RegisterData)
    → cond (other && reached) (cleared_one (cond (first && reached) (cleared_one r) r))
    (cond (first && reached) (cleared_one r) r) ≡ cond ((first || other) && reached) (cleared_one r) r
both true true true r = ap (λ (bytes : List ℕ). record r { bytes = bytes }) (cleared_again r.bytes)
both true true false r = refl
both true false true r = refl
both true false false r = refl
both false true true r = refl
both false true false r = refl
both false false true r = refl
both false false false r = refl

module _ (selected code : ℕ) (first all : ℕ → Bool) (is : (own : ℕ) → all own ≡ (first own || nat_eq code own)) where
  one_more : (r : RegisterData) → changed_one selected (nat_eq code) cleared (changed_one selected first cleared r)
      ≡ changed_one selected all cleared r
  one_more r =
      let so_far = changed_one selected first cleared r in
      let same = kept (first r.code && reaches selected r.page) r in
      ap (λ (own : ℕ). cond (nat_eq code own && reaches selected so_far.page) (cleared_one so_far) so_far) same.0
      ∙ ap (λ (page : Option ℕ). cond (nat_eq code r.code && reaches selected page) (cleared_one so_far) so_far) same.1
      ∙ both (first r.code) (nat_eq code r.code) (reaches selected r.page) r
      ∙ ap (λ (test : Bool). cond (test && reaches selected r.page) (cleared_one r) r) (sym (is r.code))

  each_more : (rs : List RegisterData) → changed selected (nat_eq code) cleared (changed selected first cleared rs)
      ≡ changed selected all cleared rs
  each_more [] = refl
  each_more (r ∷ rs) = let here = one_more r in let behind = each_more rs in cc

-- the registers of one listed code more
pub cleared_more : (selected code : ℕ) (codes : List ℕ) (i : ℕ) (before now after : List RegisterData)
    → i < length codes → code ≡ get_or codes i 0
    → now ≡ changed selected (is_listed (take i codes)) cleared before
    → after ≡ changed selected (nat_eq code) cleared now
    → after ≡ changed selected (is_listed (take (i + 1) codes)) cleared before
cleared_more selected code codes i before now after within read so_far done =
    let more : (own : ℕ) → is_listed (take (i + 1) codes) own ≡ (is_listed (take i codes) own || nat_eq code own) =
    λ own. list_any_more (λ (c : ℕ). nat_eq c own) codes i 0 within
    ∙ ap (λ (c : ℕ). is_listed (take i codes) own || nat_eq c own) (sym read) in
    done ∙ ap (changed selected (nat_eq code) cleared) so_far ∙ each_more selected code (is_listed (take i codes))
    (is_listed (take (i + 1) codes)) more before

-- of no code nothing is cleared
pub cleared_none : (selected : ℕ) (rs : List RegisterData) → rs ≡ changed selected (is_listed []) cleared rs
cleared_none selected [] = refl
cleared_none selected (r ∷ rs) = ap (λ (rest : List RegisterData). r ∷ rest) (cleared_none selected rs)
