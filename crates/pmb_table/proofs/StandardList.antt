-- The list of the standard commands, code by code: for `standard_ones` and
-- `StandardCommands::commands`. The list so far has the codes below n, so that the next one goes
-- last; a copy without initial bytes is the list itself.
use Rattle.std.proofs.Common.{◌≡◌, ℕ, zero, suc, ◌+◌, ◌<◌, List, [], ◌∷◌, ◌++◌, map, filter_map, length, Option, None}
use Rattle.std.proofs.Common.{Some, inr, ⊎_elim, refl, sym, ap, subst, ◌∙◌, arith, add-one, add-zero, zero-add}
use Rattle.std.specs.List.{AllByRecursion, range_with_len, cons_option}
use Rattle.std.proofs.lemmas.Bool.{ne_eqb}
use Rattle.std.proofs.lemmas.List.{map-append, append-nil}
use Rattle.std.proofs.lemmas.List.Elements.{filter_map-append}
use Rattle.pmb_command.specs.Bus.{IsCommand}
use Rattle.pmb_command.specs.Commands.{standard_entry}
use Rattle.pmb_command.specs.Entry.{EntryParts}
use Rattle.pmb_command.specs.Parts.{CommandParts, HaveOwnCodes}
use Rattle.pmb_table.specs.Profile.{put, standard_commands}
use Rattle.pmb_command.specs.Standard.{IsStandardAt, standard_command}
use Rattle.pmb_table.specs.machine.CommandMap.{bare_command}
use Rattle.pmb_table.specs.machine.StandardCommands.{AreAllOrNone}

-- what is said of each standard entry
abbrev pub AreSound : Type 0
AreSound = (code : ℕ) (e : EntryParts) → standard_entry code ≡ Some e → IsStandardAt code e

-- the standard commands with n codes from a on
abbrev pub standard_from : ℕ → ℕ → List CommandParts
standard_from a n = map standard_command (filter_map standard_entry (range_with_len a n))

-- those of all codes
-- 256: as many codes as a byte has
pub standard_from-all : (n : ℕ) → n ≡ 256 → standard_from 0 n ≡ standard_commands
unfolding standard_commands
standard_from-all n all = ap (standard_from 0) all

-- one more number at the end
range_more : (a n : ℕ) → range_with_len a (suc n) ≡ range_with_len a n ++ (a + n) ∷ []
range_more a zero = rw add-zero
range_more a (suc n) =
    let same : (a + 1) + n ≡ a + suc n = omega arith in
    ap (λ xs. a ∷ xs) (range_more (a + 1) n ∙ ap (λ k. range_with_len (a + 1) n ++ k ∷ []) same)

range_from_zero : (n : ℕ) → range_with_len 0 (n + 1) ≡ range_with_len 0 n ++ n ∷ []
range_from_zero n = rw add-one (range_more 0 n ∙ ap (λ k. range_with_len 0 n ++ k ∷ []) (zero-add n))

-- one more code, which has an entry or has none
standard_from-more : (n : ℕ) (o : Option EntryParts) → standard_entry n ≡ o
    → standard_from 0 (n + 1) ≡ standard_from 0 n ++ map standard_command (cons_option o [])
standard_from-more n o is =
    ap (λ xs. map standard_command (filter_map standard_entry xs)) (range_from_zero n)
    ∙ ap (map standard_command) (filter_map-append standard_entry (range_with_len 0 n) (n ∷ []))
    ∙ map-append standard_command (filter_map standard_entry (range_with_len 0 n)) (cons_option (standard_entry n) [])
    ∙ ap (λ v. standard_from 0 n ++ map standard_command (cons_option v [])) is

pub standard_from-none : (n : ℕ) → standard_entry n ≡ None → standard_from 0 n ≡ standard_from 0 (n + 1)
standard_from-none n none = sym (standard_from-more n None none ∙ append-nil (standard_from 0 n))

-- each has a code in the range
below : AreSound → (a n : ℕ) → AllByRecursion (λ x. x.entry.code < a + n) (standard_from a n)
below sound a zero = tt
below sound a (suc n) =
    let same : (a + 1) + n ≡ a + suc n = omega arith in
    by (standard_entry a) refl (subst (λ k. AllByRecursion (λ x. x.entry.code < k) (standard_from (a + 1) n)) same
    (below sound (a + 1) n))
  where
    by : (o : Option EntryParts) → standard_entry a ≡ o
        → AllByRecursion (λ x. x.entry.code < a + suc n) (standard_from (a + 1) n)
        → AllByRecursion (λ x. x.entry.code < a + suc n)
        (map standard_command (cons_option o (filter_map standard_entry (range_with_len (a + 1) n))))
    by None is rest = rest
    by (Some e) is rest = (omega (arith, (sound a e is).same_code), rest)

-- a command with a code above all others goes last
put-above : (c : CommandParts) (cs : List CommandParts) → AllByRecursion (λ x. x.entry.code < c.entry.code) cs
    → put c cs ≡ cs ++ c ∷ []
put-above c [] above = refl
put-above c (x ∷ xs) above =
    let first : x.entry.code < c.entry.code = above.0 in
    rw (ne_eqb c.entry.code x.entry.code (λ same. omega arith)) (ap (λ ys. x ∷ ys) (put-above c xs above.1))

-- so the next standard command goes last
pub put-standard : AreSound → (n : ℕ) (e : EntryParts) → standard_entry n ≡ Some e
    → put (standard_command e) (standard_from 0 n) ≡ standard_from 0 (n + 1)
put-standard sound n e has =
    let same : 0 + n ≡ e.code = omega (arith, (sound n e has).same_code) in
    put-above (standard_command e) (standard_from 0 n) (subst (λ k. AllByRecursion (λ x. x.entry.code < k) (standard_from 0 n)) same
    (below sound 0 n))
    ∙ sym (standard_from-more n (Some e) has)

-- ---- copies

-- none of them has initial bytes
bare-standard : (es : List EntryParts) → map bare_command (map standard_command es) ≡ map standard_command es
bare-standard [] = refl
bare-standard (e ∷ es) = ap (λ cs. standard_command e ∷ cs) (bare-standard es)

-- so their copy is the same
pub standard-bare : (n : ℕ) → n ≡ 256 → map bare_command standard_commands ≡ standard_commands
standard-bare n all =
    subst (λ cs. map bare_command cs ≡ cs) (standard_from-all n all)
    (bare-standard (filter_map standard_entry (range_with_len 0 n)))

-- where some are kept, all are
pub all_of_some : (cs : List CommandParts) → AreAllOrNone cs → 0 < length cs → cs ≡ standard_commands
all_of_some cs kept some = ⊎_elim (λ none. let empty : length cs ≡ 0 = ap length none in absurd (omega arith))
    (λ all. all) kept.all_or_none

-- so a copy of them is them
pub copy-standard : (cs copy : List CommandParts) → cs ≡ standard_commands → copy ≡ map bare_command cs
    → copy ≡ standard_commands
copy-standard cs copy all is = is ∙ ap (map bare_command) all ∙ standard-bare 256 refl

pub copy_same : (cs copy : List CommandParts) → cs ≡ standard_commands → copy ≡ map bare_command cs → cs ≡ copy
copy_same cs copy all is = all ∙ sym (copy-standard cs copy all is)

-- and can be kept
pub kept_copy : (cs copy : List CommandParts) → cs ≡ standard_commands → HaveOwnCodes cs → AllByRecursion IsCommand cs
    → copy ≡ map bare_command cs → AreAllOrNone copy
kept_copy cs copy all own_codes accepted is = record {
  all_or_none = inr (copy-standard cs copy all is);
  own_codes = subst HaveOwnCodes (copy_same cs copy all is) own_codes;
  accepted = subst (AllByRecursion IsCommand) (copy_same cs copy all is) accepted;
}
