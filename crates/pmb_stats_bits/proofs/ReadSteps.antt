-- What one read more changes in what reads say of a bit: each fact of `BitStandsAt` moves on by one read.
-- Of the reads in the other order, of which `last_time` and `gone_time` speak, the new one is the first.
use Rattle.std.proofs.Common.{◌≡◌, ℕ, ◌+◌, ◌<◌, Bool, true, false, not, cond, Option, Some, None, List, [], ◌∷◌}
use Rattle.std.proofs.Common.{◌++◌, ap, arith, nat_eq, refl, reverse, sym, ◌∙◌, inl, inr}
use Rattle.std.proofs.lemmas.Bool.{cases_Bool, eqb-false, eqb-true, ne_eqb}
use Rattle.std.proofs.lemmas.List.{reverse-append}
use Rattle.std.proofs.lemmas.List.Folds.{find-append}
use Rattle.std.proofs.lemmas.List.Sums.{sum_by-cons, sum_by_push, take_while-cons}
use Rattle.std.specs.List.{count_by, find, last_or, take_while}
use Rattle.std.specs.Option.{option_or}
use Rattle.pmb_io.specs.Count.{capped}
use Rattle.pmb_stats_bits.specs.declared.history.BitHistory.{BitHistory}
use Rattle.pmb_stats_bits.specs.Bits.{RegisterRead, found, set_count, time_of}
use Rattle.pmb_stats_bits.specs.machine.Standing.{BitStandsAt, after_clear, after_set, first_found}

-- ---- counts

count_step : (reads : List RegisterRead) (read : RegisterRead) (bit : ℕ) (is : Bool) → found bit read ≡ is
    → set_count (reads ++ read ∷ []) bit ≡ set_count reads bit + cond is 1 0
count_step reads read bit is e =
    sum_by_push (λ r. cond (found bit r) 1 0) reads read ∙ ap (λ (b : Bool). set_count reads bit + cond b 1 0) e

count_reversed : (p : RegisterRead → Bool) (reads : List RegisterRead) → count_by p (reverse reads) ≡ count_by p reads
count_reversed p [] = refl
count_reversed p (r ∷ reads) =
    ap (count_by p) (reverse-append (r ∷ []) reads)
    ∙ (sum_by_push (λ x. cond (p x) 1 0) (reverse reads) r
    ∙ (let e : count_by p (reverse reads) + cond (p r) 1 0 ≡ cond (p r) 1 0 + count_by p reads
    = omega (arith, count_reversed p reads) in e
    ∙ sym (sum_by-cons (λ x. cond (p x) 1 0) r reads)))

-- ---- the first read that found the bit set

none_found : (p : RegisterRead → Bool) (reads : List RegisterRead) → count_by p reads ≡ 0 → find p reads ≡ None
none_found p [] none = refl
none_found p (r ∷ reads) none =
    let sum = sum_by-cons (λ x. cond (p x) 1 0) r reads in
    elim (cases_Bool (p r)) [
      | inl is ↦ absurd (omega (arith, sum, none, ap {B = ℕ} (λ (b : Bool). cond b 1 0) is))
      | inr is ↦ ap (λ (b : Bool). cond b (Some r) (find p reads)) is
          ∙ none_found p reads (omega (arith, sum, none))
    ]

first_stays : (p : RegisterRead → Bool) (reads more : List RegisterRead) → 0 < count_by p reads
    → find p (reads ++ more) ≡ find p reads
first_stays p [] more some = absurd (omega arith)
first_stays p (r ∷ reads) more some =
    let sum = sum_by-cons (λ x. cond (p x) 1 0) r reads in
    elim (cases_Bool (p r)) [
      | inl is ↦ ap (λ (b : Bool). cond b (Some r) (find p (reads ++ more))) is
          ∙ sym (ap (λ (b : Bool). cond b (Some r) (find p reads)) is)
      | inr is ↦ ap (λ (b : Bool). cond b (Some r) (find p (reads ++ more))) is
          ∙ (first_stays p reads more (omega (arith, sum, some, ap {B = ℕ} (λ (b : Bool). cond b 1 0) is))
          ∙ sym (ap (λ (b : Bool). cond b (Some r) (find p reads)) is))
    ]

-- by the count, which is 0 only where it counts none
first_step : (p : RegisterRead → Bool) (reads : List RegisterRead) (read : RegisterRead) (count : ℕ)
    → count ≡ capped (count_by p reads) → p read ≡ true
    → cond (nat_eq count 0) read.time (time_of (find p reads)) ≡ time_of (find p (reads ++ read ∷ []))
first_step p reads read count counted is =
    elim (cases_Bool (nat_eq count 0)) [
      | inl zero ↦ ap (λ (b : Bool). cond b read.time (time_of (find p reads))) zero
          ∙ sym (ap time_of (find-append p reads (read ∷ [])
          ∙ (ap (λ o. option_or o (cond (p read) (Some read) None))
          (none_found p reads (omega (arith, counted, eqb-true count 0 zero)))
          ∙ ap (λ (b : Bool). cond b (Some read) None) is)))
      | inr some ↦ ap (λ (b : Bool). cond b read.time (time_of (find p reads))) some
          ∙ sym (ap time_of (first_stays p reads (read ∷ [])
          (omega (arith, counted, eqb-false count 0 some))))
    ]

first_kept : (p : RegisterRead → Bool) (reads : List RegisterRead) (read : RegisterRead) → p read ≡ false
    → find p reads ≡ find p (reads ++ read ∷ [])
first_kept p [] read is = sym (ap (λ (b : Bool). cond b (Some read) None) is)
first_kept p (r ∷ reads) read is = ap (λ o. cond (p r) (Some r) o) (first_kept p reads read is)

-- ---- the reads since the last one that did

since_clear : (p : RegisterRead → Bool) (r : RegisterRead) (rest : List RegisterRead) → p r ≡ false
    → take_while (λ x. not (p x)) (r ∷ rest) ≡ r ∷ take_while (λ x. not (p x)) rest
since_clear p r rest is = take_while-cons (λ x. not (p x)) r rest
    ∙ ap (λ (b : Bool). cond (not b) (r ∷ take_while (λ x. not (p x)) rest) []) is

since_set : (p : RegisterRead → Bool) (r : RegisterRead) (rest : List RegisterRead) → p r ≡ true
    → take_while (λ x. not (p x)) (r ∷ rest) ≡ []
since_set p r rest is = take_while-cons (λ x. not (p x)) r rest
    ∙ ap (λ (b : Bool). cond (not b) (r ∷ take_while (λ x. not (p x)) rest) []) is

-- when the bit was gone, by how many reads found it and by the reads, the last one first
gone_by : (RegisterRead → Bool) → ℕ → List RegisterRead → Option (List ℕ)
gone_by p n latest = cond (nat_eq n 0) None (time_of (last_or None (take_while (λ x. not (p x)) latest)))

gone_set : (p : RegisterRead → Bool) (n : ℕ) (read : RegisterRead) (latest : List RegisterRead) → p read ≡ true
    → gone_by p n (read ∷ latest) ≡ None
unfolding gone_by
gone_set p n read latest is =
    ap (λ since. cond (nat_eq n 0) None (time_of (last_or None since))) (since_set p read latest is)
    ∙ elim (nat_eq n 0) as (λ b. ◌≡◌ {A = Option (List ℕ)} (cond b None None) None) [ true ↦ refl | false ↦ refl ]

gone_clear : (bit : ℕ) (n : ℕ) (read : RegisterRead) (latest : List RegisterRead) → n ≡ count_by (found bit) latest
    → found bit read ≡ false
    → cond (first_found bit latest) read.time (gone_by (found bit) n latest) ≡ gone_by (found bit) n (read ∷ latest)
unfolding gone_by
gone_clear bit n read [] none is = ap (λ m. cond (nat_eq m 0) None (time_of (last_or None [])))
    none ∙ sym (ap (λ m. cond (nat_eq m 0) None
    (time_of (last_or None (take_while (λ x. not (found bit x)) (read ∷ []))))) none)
gone_clear bit n read (x ∷ rest) counted is =
    let sum = sum_by-cons (λ r. cond (found bit r) 1 0) x rest in
    let since = since_clear (found bit) read (x ∷ rest) is in
    elim (cases_Bool (found bit x)) [
      | inl set ↦
          let one = ap {B = ℕ} (λ (b : Bool). cond b 1 0) set in
          let some : (n ≡ 0 → ⊥) = λ (e : n ≡ 0). omega (arith, sum, counted, e, one) in
          ap (λ (b : Bool). cond b read.time (gone_by (found bit) n (x ∷ rest))) set
          ∙ sym (ap (λ all. cond (nat_eq n 0) None (time_of (last_or None all)))
          (since ∙ ap (λ all. read ∷ all) (since_set (found bit) x rest set))
          ∙ ap (λ (b : Bool). cond b None read.time) (ne_eqb n 0 some))
      | inr clear ↦
          ap (λ (b : Bool). cond b read.time (gone_by (found bit) n (x ∷ rest))) clear
          ∙ (ap (λ all. cond (nat_eq n 0) None (time_of (last_or None all))) (since_clear (found bit) x rest clear)
          ∙ sym (ap (λ all. cond (nat_eq n 0) None (time_of (last_or None all)))
          (since ∙ ap (λ all. read ∷ all) (since_clear (found bit) x rest clear))))
    ]

-- ---- all of it

pub stands_set : (history after : BitHistory) (time : Option (List ℕ)) (reads : List RegisterRead)
    (read : RegisterRead) (bit : ℕ) → BitStandsAt history reads bit → found bit read ≡ true → time ≡ read.time
    → after ≡ after_set history time → BitStandsAt after (reads ++ read ∷ []) bit
unfolding gone_by
stands_set history after time reads read bit stands is at e =
    let back = reverse-append reads (read ∷ []) in
    let p = found bit in
    record {
      count = ap (λ h. h.count) e ∙ omega (arith, stands.count, count_step reads read bit true is);
      first = ap (λ h. h.first) e
          ∙ (ap (λ (t : Option (List ℕ)). cond (nat_eq history.count 0) t history.first) at
          ∙ (ap (λ (t : Option (List ℕ)). cond (nat_eq history.count 0) read.time t) stands.first
          ∙ first_step p reads read history.count stands.count is));
      last = ap (λ h. h.last) e ∙ (at
          ∙ sym (ap (λ all. time_of (find p all)) back
          ∙ ap (λ (b : Bool). time_of (cond b (Some read) (find p (reverse reads)))) is));
      gone = ap (λ h. h.gone) e
          ∙ sym (ap (gone_by p (set_count (reads ++ read ∷ []) bit)) back
          ∙ gone_set p (set_count (reads ++ read ∷ []) bit) read (reverse reads) is);
      is_set = ap (λ h. h.is_set) e ∙ sym (ap (first_found bit) back ∙ is);
    }

pub stands_clear : (history after : BitHistory) (time : Option (List ℕ)) (reads : List RegisterRead)
    (read : RegisterRead) (bit : ℕ) → BitStandsAt history reads bit → found bit read ≡ false → time ≡ read.time
    → after ≡ after_clear history time → BitStandsAt after (reads ++ read ∷ []) bit
unfolding gone_by
stands_clear history after time reads read bit stands is at e =
    let back = reverse-append reads (read ∷ []) in
    let p = found bit in
    let same : set_count (reads ++ read ∷ []) bit ≡ set_count reads bit
    = omega (arith, count_step reads read bit false is) in
    record {
      count = ap (λ h. h.count) e ∙ (stands.count ∙ sym (ap capped same));
      first = ap (λ h. h.first) e ∙ (stands.first ∙ ap time_of (first_kept p reads read is));
      last = ap (λ h. h.last) e ∙ (stands.last
          ∙ sym (ap (λ all. time_of (find p all)) back
          ∙ ap (λ (b : Bool). time_of (cond b (Some read) (find p (reverse reads)))) is));
      gone = ap (λ h. h.gone) e
          ∙ (ap (λ (b : Bool). cond b time history.gone) stands.is_set
          ∙ (ap (λ (t : Option (List ℕ)). cond (first_found bit (reverse reads)) t history.gone) at
          ∙ (ap (λ (t : Option (List ℕ)). cond (first_found bit (reverse reads)) read.time t) stands.gone
          ∙ (gone_clear bit (set_count reads bit) read (reverse reads) (sym (count_reversed p reads)) is
          ∙ sym (ap (λ n. gone_by p n (reverse (reads ++ read ∷ []))) same
          ∙ ap (gone_by p (set_count reads bit)) back)))));
      is_set = ap (λ h. h.is_set) e ∙ sym (ap (first_found bit) back ∙ is);
    }
