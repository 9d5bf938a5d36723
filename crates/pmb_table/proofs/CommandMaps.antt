-- A command that is put among commands which have codes of their own, and the map that holds them:
-- for `CommandMap::new`, `put`, `with_capacity`, `bare` and `bare_copy`. A place is
-- kept for each code; a command that is put replaces the one of its code or goes last, and all
-- others stay where they were.
use Rattle.std.proofs.Common.{◌≡◌, ℕ, zero, suc, ◌+◌, ◌<◌, ◌≤◌, Bool, true, false, cond, List, [], ◌∷◌, ◌++◌, length}
use Rattle.std.proofs.Common.{map, set, Some, nat_eq, refl, sym, ap, subst, ◌∙◌, arith}
use Rattle.std.specs.List.{AllByRecursion, IsDistinct, position_or_len, slice_get}
use Rattle.std.specs.Map.{keys_of}
use Rattle.std.proofs.lemmas.Bool.{eqb-true}
use Rattle.std.proofs.lemmas.List.{append_assoc, length-map}
use Rattle.std.proofs.lemmas.List.Recursion.{is_position_or_len}
use Rattle.std.proofs.lemmas.Map.Keys.{IsDistinct-head, IsDistinct-tail}
use Rattle.std.proofs.lemmas.Option.{same_Some}
use Rattle.indexmap.specs.IndexMap.{insert_entry}
use Rattle.pmb_command.specs.Parts.{CommandParts, HaveOwnCodes}
use Rattle.pmb_keys.specs.declared.command.Command.{Command}
use Rattle.pmb_keys.specs.CommandView.{command_parts}
use Rattle.pmb_table.specs.machine.CommandMap.{AreAtTheirCodes, AreTaken, IsFoundByCode, bare_entry, codes_of}
use Rattle.pmb_table.specs.machine.CommandMap.{commands_view, bare_command}
use Rattle.pmb_table.specs.machine.Places.{ArePlaces}
use Rattle.pmb_table.specs.Profile.{put}
use Rattle.pmb_table.proofs.Places.{ArePlaces-set, same_both_ways}
use Rattle.pmb_table.proofs.TakenCodes.{at_most_all}

-- ---- a command that is put among others

-- where a code stands once its command is put: at the first place that has it, or at the end
abbrev pub place_in : ℕ → List ℕ → ℕ
place_in code [] = 0
place_in code (x ∷ xs) = cond (nat_eq code x) 0 (suc (place_in code xs))

-- which is what a map answers by
place_is : (code : ℕ) (codes : List ℕ) → place_in code codes ≡ position_or_len (nat_eq code) codes
place_is code codes =
    let one_more : (n : ℕ) → suc n ≡ 1 + n = λ n. omega arith in
    is_position_or_len (place_in code) (nat_eq code) refl
    (λ x xs. ap (λ n. cond (nat_eq code x) 0 n) (one_more (place_in code xs))) codes

-- the command is there
put_there : (c : CommandParts) (cs : List CommandParts)
    → slice_get (codes_of (put c cs)) (place_in c.entry.code (codes_of cs)) ≡ Some c.entry.code
put_there c [] = refl
put_there c (x ∷ xs) = by (nat_eq c.entry.code x.entry.code) (put_there c xs)
  where
    by : (b : Bool) → slice_get (codes_of (put c xs)) (place_in c.entry.code (codes_of xs)) ≡ Some c.entry.code
        → slice_get (codes_of (cond b (c ∷ xs) (x ∷ put c xs))) (cond b 0 (suc (place_in c.entry.code (codes_of xs))))
        ≡ Some c.entry.code
    by true rest = refl
    by false rest = rest

-- and any other one is where it was
put_other : (c : CommandParts) (cs : List CommandParts) (i n : ℕ) → slice_get (codes_of (put c cs)) i ≡ Some n
    → (n ≡ c.entry.code → ⊥) → slice_get (codes_of cs) i ≡ Some n
put_other c [] zero n here other = absurd (other (sym (same_Some c.entry.code n here)))
put_other c [] (suc i) n here other = cc
put_other c (x ∷ xs) zero n here other = by (nat_eq c.entry.code x.entry.code) here
  where
    by : (b : Bool) → slice_get (codes_of (cond b (c ∷ xs) (x ∷ put c xs))) 0 ≡ Some n → Some x.entry.code ≡ Some n
    by true is = absurd (other (sym (same_Some c.entry.code n is)))
    by false is = is
put_other c (x ∷ xs) (suc i) n here other = by (nat_eq c.entry.code x.entry.code) (λ is. put_other c xs i n is other)
    here
  where
    by : (b : Bool) → (slice_get (codes_of (put c xs)) i ≡ Some n → slice_get (codes_of xs) i ≡ Some n)
        → slice_get (codes_of (cond b (c ∷ xs) (x ∷ put c xs))) (suc i) ≡ Some n → slice_get (codes_of xs) i ≡ Some n
    by true rest is = is
    by false rest is = rest is

-- all codes are bytes
put_bytes : (c : CommandParts) (cs : List CommandParts) → c.entry.code < 256
    → AllByRecursion (λ code. code < 256) (codes_of cs) → AllByRecursion (λ code. code < 256) (codes_of (put c cs))
put_bytes c [] small all = (small, tt)
put_bytes c (x ∷ xs) small all = by (nat_eq c.entry.code x.entry.code) (put_bytes c xs small all.1)
  where
    by : (b : Bool) → AllByRecursion (λ code. code < 256) (codes_of (put c xs))
        → AllByRecursion (λ code. code < 256) (codes_of (cond b (c ∷ xs) (x ∷ put c xs)))
    by true rest = (small, all.1)
    by false rest = (all.0, rest)

-- ---- the entries of a map

-- the keys of the map are the codes of its commands
pub codes_from_keys : (es : List (ℕ × Command)) → AreAtTheirCodes es → keys_of es ≡ codes_of (commands_view es)
codes_from_keys [] held = refl
codes_from_keys (e ∷ es) held = rw (held.0, codes_from_keys es held.1)

-- so its commands have codes of their own
pub HaveOwnCodes-from_keys : (es : List (ℕ × Command)) → AreAtTheirCodes es → IsDistinct nat_eq (keys_of es)
    → HaveOwnCodes (commands_view es)
HaveOwnCodes-from_keys es held once = rw (← codes_from_keys es held) once

-- none are found by their codes, whatever places are kept
pub found_none : (es : List (ℕ × Command)) (places : List ℕ) → es ≡ [] → IsFoundByCode es places
unfolding IsDistinct
found_none [] places none = record { held = tt; taken = (tt, tt); places = λ i code here. cc }
found_none (e ∷ es) places none = cc

pub own_none : (es : List (ℕ × Command)) → es ≡ [] → HaveOwnCodes (commands_view es)
unfolding IsDistinct
own_none [] none = tt
own_none (e ∷ es) none = cc

-- a command that is inserted at its code is put among the commands
pub put-insert_entry : (c : Command) (es : List (ℕ × Command)) → AreAtTheirCodes es
    → commands_view (insert_entry nat_eq es c.entry.code c) ≡ put (command_parts c) (commands_view es)
put-insert_entry c [] held = refl
put-insert_entry c (e ∷ es) held = by (nat_eq c.entry.code e.0) (nat_eq c.entry.code e.1.entry.code)
    (ap (nat_eq c.entry.code) (sym held.0)) (put-insert_entry c es held.1)
  where
    by : (b d : Bool) → b ≡ d → commands_view (insert_entry nat_eq es c.entry.code c)
        ≡ put (command_parts c) (commands_view es)
        → commands_view (cond b ((e.0, c) ∷ es) (e ∷ insert_entry nat_eq es c.entry.code c))
        ≡ cond d (command_parts c ∷ commands_view es) (command_parts e.1 ∷ put (command_parts c) (commands_view es))
    by true true same rest = refl
    by false false same rest = ap (λ cs. command_parts e.1 ∷ cs) rest
    by true false same rest = cc
    by false true same rest = cc

-- and each is then at its code
held_after : (c : Command) (es : List (ℕ × Command)) → AreAtTheirCodes es
    → AreAtTheirCodes (insert_entry nat_eq es c.entry.code c)
held_after c [] held = (refl, tt)
held_after c (e ∷ es) held = by (nat_eq c.entry.code e.0) refl (held_after c es held.1)
  where
    by : (b : Bool) → nat_eq c.entry.code e.0 ≡ b → AreAtTheirCodes (insert_entry nat_eq es c.entry.code c)
        → AreAtTheirCodes (cond b ((e.0, c) ∷ es) (e ∷ insert_entry nat_eq es c.entry.code c))
    by true same rest = (eqb-true c.entry.code e.0 same, held.1)
    by false same rest = (held.0, rest)

-- and is found by it, where its place is kept
pub found_put : (c : Command) (es after : List (ℕ × Command)) (places : List ℕ) (n : ℕ) → IsFoundByCode es places
    → c.entry.code < 256 → c.entry.code < length places
    → after ≡ insert_entry nat_eq es c.entry.code c → IsDistinct nat_eq (keys_of after)
    → n ≡ position_or_len (nat_eq c.entry.code) (keys_of es) → IsFoundByCode after (set places c.entry.code n)
found_put c es after places n found small within is once last =
    -- the commands, and the entry of each at its code after it
    let cs : List CommandParts = commands_view es in
    let held : AreAtTheirCodes after = subst AreAtTheirCodes (sym is) (held_after c es found.held) in
    let parts : commands_view after ≡ put (command_parts c) cs = ap commands_view is
    ∙ put-insert_entry c es found.held in
    let own : IsDistinct nat_eq (codes_of (commands_view after)) = HaveOwnCodes-from_keys after held once in
    -- where the code stands: at its old place, or at the end
    let place : n ≡ place_in c.entry.code (codes_of cs) =
    last ∙ sym (place_is c.entry.code (keys_of es)) ∙ ap (place_in c.entry.code) (codes_from_keys es found.held) in
    -- its command is there,
    let here : slice_get (codes_of (commands_view after)) n ≡ Some c.entry.code =
    ap (λ all. slice_get (codes_of all) n) parts ∙ ap (slice_get (codes_of (put (command_parts c) cs))) place
    ∙ put_there (command_parts c) cs in
    -- and each other one is where it was
    let others : (i m : ℕ) → slice_get (codes_of (commands_view after)) i ≡ Some m → (m ≡ c.entry.code → ⊥)
    → slice_get (codes_of cs) i ≡ Some m =
    λ i m at other. put_other (command_parts c) cs i m (sym (ap (λ all. slice_get (codes_of all) i) parts) ∙ at)
    other in
    record {
      held = held;
      taken = (
        own,
        subst (λ all. AllByRecursion (λ code. code < 256) (codes_of all)) (sym parts)
            (put_bytes (command_parts c) cs small found.taken.1),
      );
      places = ArePlaces-set places (codes_of cs) (codes_of (commands_view after)) c.entry.code n found.places own here
          others within;
    }

-- there are no more commands than codes
pub few : (es : List (ℕ × Command)) (places : List ℕ) → IsFoundByCode es places → length es ≤ 256
few es places found =
    let count : length (codes_of (commands_view es)) ≡ length es = length-map (commands_view es) (λ x. x.entry.code)
    ∙ length-map es (λ e. command_parts e.1) in
    subst (λ n. n ≤ 256) count (at_most_all (codes_of (commands_view es)) found.taken)

-- ---- copies without initial bytes

-- have the same keys
keys-bare : (es : List (ℕ × Command)) → keys_of (map bare_entry es) ≡ keys_of es
keys-bare [] = refl
keys-bare (e ∷ es) = ap (λ keys. e.0 ∷ keys) (keys-bare es)

-- a key that is none of the later ones
other_later : (n : ℕ) (es rest : List (ℕ × Command)) (e : ℕ × Command)
    → AllByRecursion (λ key. nat_eq n key ≡ false) (keys_of (es ++ e ∷ rest)) → nat_eq n e.0 ≡ false
other_later n [] rest e all = all.0
other_later n (x ∷ xs) rest e all = other_later n xs rest e all.1

-- the next of entries with keys of their own goes last
insert_next : (es rest : List (ℕ × Command)) (e : ℕ × Command) → IsDistinct nat_eq (keys_of (es ++ e ∷ rest))
    → insert_entry nat_eq es e.0 e.1 ≡ es ++ e ∷ []
insert_next [] rest e once = refl
insert_next (x ∷ xs) rest e once =
    let other : nat_eq e.0 x.0 ≡ false = same_both_ways e.0 x.0
    ∙ other_later x.0 xs rest e (IsDistinct-head nat_eq x.0 (keys_of (xs ++ e ∷ rest)) once) in
    rw other (ap (λ ys. x ∷ ys) (insert_next xs rest e (IsDistinct-tail nat_eq x.0 (keys_of (xs ++ e ∷ rest)) once)))

-- so one more entry is copied
pub copy_next : (all copied left : List (ℕ × Command)) (e : ℕ × Command) → IsDistinct nat_eq (keys_of all)
    → copied ++ map bare_entry (e ∷ left) ≡ map bare_entry all
    → insert_entry nat_eq copied e.0 (bare_entry e).1 ++ map bare_entry left ≡ map bare_entry all
copy_next all copied left e once so_far =
    let own : IsDistinct nat_eq (keys_of (copied ++ bare_entry e ∷ map bare_entry left)) =
    rw (so_far, keys-bare all) once in
    ap (λ es. es ++ map bare_entry left) (insert_next copied (map bare_entry left) (bare_entry e) own)
    ∙ append_assoc copied (bare_entry e ∷ []) (map bare_entry left) ∙ so_far

-- the commands of the copy
pub bare_parts : (es : List (ℕ × Command)) → commands_view (map bare_entry es) ≡ map bare_command (commands_view es)
bare_parts [] = refl
bare_parts (e ∷ es) = ap (λ cs. bare_command (command_parts e.1) ∷ cs) (bare_parts es)

held-bare : (es : List (ℕ × Command)) → AreAtTheirCodes es → AreAtTheirCodes (map bare_entry es)
held-bare [] held = tt
held-bare (e ∷ es) held = (held.0, held-bare es held.1)

codes-bare : (es : List (ℕ × Command)) → codes_of (commands_view (map bare_entry es)) ≡ codes_of (commands_view es)
codes-bare [] = refl
codes-bare (e ∷ es) = ap (λ codes. e.1.entry.code ∷ codes) (codes-bare es)

-- each is found at the same place
pub found_copy : (es copy : List (ℕ × Command)) (places : List ℕ) → IsFoundByCode es places → copy ≡ map bare_entry es
    → IsFoundByCode copy places
found_copy es copy places found is =
    let codes : codes_of (commands_view es) ≡ codes_of (commands_view copy) =
    sym (ap (λ xs. codes_of (commands_view xs)) is ∙ codes-bare es) in
    record {
      held = subst AreAtTheirCodes (sym is) (held-bare es found.held);
      taken = subst AreTaken codes found.taken;
      places = subst (ArePlaces places) codes found.places;
    }
