-- Reads around one that found a bit set: those before and after it found it clear.
use Rattle.std.proofs.Common.{◌≡◌, ℕ, ◌+◌, Bool, true, not, cond, Option, Some, None, List, [], ◌∷◌, ◌++◌}
use Rattle.std.proofs.Common.{ap, arith, append_assoc, nat_eq, refl, reverse, subst, sym, ◌∙◌}
use Rattle.std.proofs.lemmas.Bool.{ne_eqb}
use Rattle.std.proofs.lemmas.List.{reverse-append}
use Rattle.std.proofs.lemmas.List.Sums.{sum_by-append, sum_by-cons, take_while-cons}
use Rattle.std.specs.List.{find, last_or, take_while}
use Rattle.pmb_stats_bits.specs.Bits.{AreClear, RegisterRead, first_time, found, gone_time, last_time}
use Rattle.pmb_stats_bits.specs.Bits.{set_count, time_of}

-- ---- clear reads are passed over

find_past : (reads more : List RegisterRead) (bit : ℕ) → AreClear reads bit
    → find (found bit) (reads ++ more) ≡ find (found bit) more
find_past [] more bit clear = refl
find_past (r ∷ reads) more bit clear =
    ap (λ (b : Bool). cond b (Some r) (find (found bit) (reads ++ more))) clear.0
    ∙ find_past reads more bit clear.1

found_at : (read : RegisterRead) (more : List RegisterRead) (bit : ℕ) → found bit read ≡ true
    → find (found bit) (read ∷ more) ≡ Some read
found_at read more bit set = ap (λ (b : Bool). cond b (Some read) (find (found bit) more)) set

since_past : (reads more : List RegisterRead) (read : RegisterRead) (bit : ℕ) → AreClear reads bit
    → found bit read ≡ true → take_while (λ r. not (found bit r)) (reads ++ read ∷ more) ≡ reads
since_past [] more read bit clear set = take_while-cons (λ r. not (found bit r)) read more
    ∙ ap (λ (b : Bool). cond (not b) (read ∷ take_while (λ r. not (found bit r)) more) []) set
since_past (r ∷ reads) more read bit clear set =
    take_while-cons (λ x. not (found bit x)) r (reads ++ read ∷ more)
    ∙ (ap (λ (b : Bool). cond (not b) (r ∷ take_while (λ x. not (found bit x)) (reads ++ read ∷ more)) []) clear.0
    ∙ ap (λ all. r ∷ all) (since_past reads more read bit clear.1 set))

none_set : (reads : List RegisterRead) (bit : ℕ) → AreClear reads bit → set_count reads bit ≡ 0
none_set [] bit clear = refl
none_set (r ∷ reads) bit clear =
    let sum : set_count (r ∷ reads) bit ≡ cond (found bit r) 1 0 + set_count reads bit
    = sum_by-cons (λ x. cond (found bit x) 1 0) r reads in
    let none : cond {A = ℕ} (found bit r) 1 0 ≡ 0 = ap {B = ℕ} (λ (b : Bool). cond b 1 0) clear.0 in
    omega (arith, none_set reads bit clear.1)

some_set : (before after : List RegisterRead) (read : RegisterRead) (bit : ℕ) → found bit read ≡ true
    → set_count (before ++ read ∷ after) bit ≡ 0 → ⊥
some_set before after read bit set none =
    let sum : set_count (before ++ read ∷ after) bit ≡ set_count before bit + set_count (read ∷ after) bit
    = sum_by-append (λ x. cond (found bit x) 1 0) before (read ∷ after) in
    let here : set_count (read ∷ after) bit ≡ cond (found bit read) 1 0 + set_count after bit
    = sum_by-cons (λ x. cond (found bit x) 1 0) read after in
    let one : cond {A = ℕ} (found bit read) 1 0 ≡ 1 = ap {B = ℕ} (λ (b : Bool). cond b 1 0) set in
    omega arith

-- ---- the last reads first

clear_both : (reads more : List RegisterRead) (bit : ℕ) → AreClear reads bit → AreClear more bit
    → AreClear (reads ++ more) bit
clear_both [] more bit first second = second
clear_both (r ∷ reads) more bit first second = (first.0, clear_both reads more bit first.1 second)

clear_reversed : (reads : List RegisterRead) (bit : ℕ) → AreClear reads bit → AreClear (reverse reads) bit
clear_reversed [] bit clear = tt
clear_reversed (r ∷ reads) bit clear =
    subst (λ all. AreClear all bit) (sym (reverse-append (r ∷ []) reads))
    (clear_both (reverse reads) (r ∷ []) bit (clear_reversed reads bit clear.1) (clear.0, tt))

around : (before after : List RegisterRead) (read : RegisterRead)
    → reverse (before ++ read ∷ after) ≡ reverse after ++ read ∷ reverse before
around before after read = reverse-append before (read ∷ after)
    ∙ (ap (λ all. all ++ reverse before) (reverse-append (read ∷ []) after)
    ∙ append_assoc (reverse after) (read ∷ []) (reverse before))

last_of : (reads : List RegisterRead) (read : RegisterRead) (before : Option RegisterRead)
    → last_or before (reads ++ read ∷ []) ≡ Some read
last_of [] read before = refl
last_of (r ∷ reads) read before = last_of reads read (Some r)

-- ---- the times

pub first_at : (before after : List RegisterRead) (read : RegisterRead) (bit : ℕ) → AreClear before bit
    → found bit read ≡ true → first_time (before ++ read ∷ after) bit ≡ read.time
first_at before after read bit clear set =
    ap time_of (find_past before (read ∷ after) bit clear ∙ found_at read after bit set)

pub last_at : (before after : List RegisterRead) (read : RegisterRead) (bit : ℕ) → found bit read ≡ true
    → AreClear after bit → last_time (before ++ read ∷ after) bit ≡ read.time
last_at before after read bit set clear = ap (λ all. time_of (find (found bit) all)) (around before after read)
    ∙ ap time_of (find_past (reverse after) (read ∷ reverse before) bit (clear_reversed after bit clear)
    ∙ found_at read (reverse before) bit set)

-- what stands for the reads after the last one that found the bit set
gone_since : (before after : List RegisterRead) (read : RegisterRead) (bit : ℕ) → found bit read ≡ true
    → AreClear after bit
    → gone_time (before ++ read ∷ after) bit ≡ time_of (last_or None (reverse after))
gone_since before after read bit set clear =
    let n = set_count (before ++ read ∷ after) bit in
    ap (λ (all : List RegisterRead). cond (nat_eq n 0) None
    (time_of (last_or None (take_while (λ r. not (found bit r)) all))))
    (around before after read)
    ∙ (ap (λ (since : List RegisterRead). cond (nat_eq n 0) None (time_of (last_or None since)))
    (since_past (reverse after) (reverse before) read bit (clear_reversed after bit clear) set)
    ∙ ap (λ (b : Bool). cond b None (time_of (last_or None (reverse after))))
    (ne_eqb n 0 (some_set before after read bit set)))

pub gone_at : (before after : List RegisterRead) (read next : RegisterRead) (bit : ℕ) → found bit read ≡ true
    → AreClear (next ∷ after) bit → gone_time (before ++ read ∷ next ∷ after) bit ≡ next.time
gone_at before after read next bit set clear = gone_since before (next ∷ after) read bit set clear
    ∙ ap (λ (all : List RegisterRead). time_of (last_or None all)) (reverse-append (next ∷ []) after)
    ∙ ap time_of (last_of (reverse after) next None)

pub still_set : (before : List RegisterRead) (read : RegisterRead) (bit : ℕ) → found bit read ≡ true
    → gone_time (before ++ read ∷ []) bit ≡ None
still_set before read bit set = gone_since before [] read bit set tt

pub never_set : (reads : List RegisterRead) (bit : ℕ) → AreClear reads bit → gone_time reads bit ≡ None
never_set reads bit clear =
    ap (λ (n : ℕ). cond (nat_eq n 0) None
    (time_of (last_or None (take_while (λ r. not (found bit r)) (reverse reads)))))
    (none_set reads bit clear)
