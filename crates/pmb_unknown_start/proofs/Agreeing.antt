-- VOUT_MODEs of which some are known agree with those that are (`Agree`): where one is set, on a
-- page, on all pages or on one that isn't known, and what is read of them. For the laws
-- `what_is_known_is_certain` and `pieces_say_what_the_whole_says`. Page by page: a mode that is
-- known is the one that is, and what may differ is forgotten.
use Rattle.std.proofs.Common.{◌≡◌, ℕ, zero, suc, ◌<◌, cond, slice_set, Bool, true, false, not, Option, Some, None, List}
use Rattle.std.proofs.Common.{[], ◌∷◌, length, map, nat_eq, replicate, slice_get, refl, sym, ap, ◌∙◌, subst, arith}
use Rattle.std.specs.List.{list_all}
use Rattle.std.specs.Option.{is_some}
use Rattle.std.proofs.lemmas.Bool.{and_from, and_parts, eq-eqb, eqb-true, false≢true}
use Rattle.std.proofs.lemmas.Option.{none-some, same_Some}
use Rattle.pmb_note.specs.Paging.{common}
use Rattle.pmb_unknown_start.specs.declared.mode.KnownMode.{KnownMode}
use Rattle.pmb_unknown_start.specs.declared.mode.KnownMode.TheVariants.{Known, Unknown, NoPage}
use Rattle.pmb_unknown_start.specs.Known.{first_told, kept_under, may_be, mode_on_page, modes_somewhere, shared_by}
use Rattle.pmb_unknown_start.specs.Known.{shared_mode}
use Rattle.pmb_unknown_start.specs.Certain.{AgreesWith}

-- a value that is known is that one
abbrev pub IsThat : Option ℕ → ℕ → Type 0
IsThat None n = Unit {0}
IsThat (Some m) n = m ≡ n

-- values that are known are those, one by one
abbrev pub Agree : List (Option ℕ) → List ℕ → Type 0
Agree [] [] = Unit {0}
Agree [] (n ∷ ns) = ⊥
Agree (m ∷ ms) [] = ⊥
Agree (m ∷ ms) (n ∷ ns) = IsThat m n × Agree ms ns

pub same_length : (ms : List (Option ℕ)) (ns : List ℕ) → Agree ms ns → length ms ≡ length ns
same_length [] [] agree = refl
same_length [] (n ∷ ns) agree = absurd agree
same_length (m ∷ ms) [] agree = absurd agree
same_length (m ∷ ms) (n ∷ ns) agree = ap (λ (k : ℕ). suc k) (same_length ms ns agree.1)

-- ---- lists that agree

-- one value for all
pub agree_all : (k mode : ℕ) → Agree (replicate k (Some mode)) (replicate k mode)
agree_all zero mode = tt
agree_all (suc k) mode = (refl, agree_all k mode)

-- all are known
pub agree_known : (ns : List ℕ) → Agree (map Some ns) ns
agree_known [] = tt
agree_known (n ∷ ns) = (refl, agree_known ns)

-- none is known
pub agree_none : (k : ℕ) (ns : List ℕ) → length ns ≡ k → Agree (replicate k None) ns
agree_none zero [] long = tt
agree_none zero (n ∷ ns) long = absurd (omega arith)
agree_none (suc k) [] long = absurd (omega arith)
agree_none (suc k) (n ∷ ns) long = (tt, agree_none k ns (omega arith))

-- one is set
pub agree_set : (ms : List (Option ℕ)) (ns : List ℕ) (i mode : ℕ) → Agree ms ns
    → Agree (slice_set ms i (Some mode)) (slice_set ns i mode)
agree_set [] [] i mode agree = tt
agree_set [] (n ∷ ns) i mode agree = absurd agree
agree_set (m ∷ ms) [] i mode agree = absurd agree
agree_set (m ∷ ms) (n ∷ ns) zero mode agree = (refl, agree.1)
agree_set (m ∷ ms) (n ∷ ns) (suc i) mode agree = (agree.0, agree_set ms ns i mode agree.1)

kept_if : (b : Bool) (m n : ℕ) → m ≡ n → IsThat (cond b (Some m) None) n
kept_if true m n is = is
kept_if false m n is = tt

set_if : (b : Bool) (m n : ℕ) → (b ≡ true → m ≡ n) → IsThat (cond b (Some m) None) n
set_if true m n same = same refl
set_if false m n same = tt

-- what stays known of a value that stays
is_kept : (mode : ℕ) (m : Option ℕ) (n : ℕ) → IsThat m n → IsThat (kept_under mode m) n
is_kept mode None n is = tt
is_kept mode (Some m) n is = kept_if (nat_eq m mode) m n is

-- .. and of one that is set
is_set : (mode : ℕ) (m : Option ℕ) → IsThat (kept_under mode m) mode
is_set mode None = tt
is_set mode (Some m) = set_if (nat_eq m mode) m mode (λ same. eqb-true m mode same)

agree_kept : (ms : List (Option ℕ)) (ns : List ℕ) (mode : ℕ) → Agree ms ns → Agree (map (kept_under mode) ms) ns
agree_kept [] [] mode agree = tt
agree_kept [] (n ∷ ns) mode agree = absurd agree
agree_kept (m ∷ ms) [] mode agree = absurd agree
agree_kept (m ∷ ms) (n ∷ ns) mode agree = (is_kept mode m n agree.0, agree_kept ms ns mode agree.1)

-- one of several is set
agree_one : (ms : List (Option ℕ)) (ns : List ℕ) (i mode : ℕ) → Agree ms ns
    → Agree (map (kept_under mode) ms) (slice_set ns i mode)
agree_one [] [] i mode agree = tt
agree_one [] (n ∷ ns) i mode agree = absurd agree
agree_one (m ∷ ms) [] i mode agree = absurd agree
agree_one (m ∷ ms) (n ∷ ns) zero mode agree = (is_set mode m, agree_kept ms ns mode agree.1)
agree_one (m ∷ ms) (n ∷ ns) (suc i) mode agree = (is_kept mode m n agree.0, agree_one ms ns i mode agree.1)

-- all of several are set
agree_each : (ms : List (Option ℕ)) (ns : List ℕ) (mode : ℕ) → Agree ms ns
    → Agree (map (kept_under mode) ms) (replicate (length ns) mode)
agree_each [] [] mode agree = tt
agree_each [] (n ∷ ns) mode agree = absurd agree
agree_each (m ∷ ms) [] mode agree = absurd agree
agree_each (m ∷ ms) (n ∷ ns) mode agree = (is_set mode m, agree_each ms ns mode agree.1)

-- where it is not known which: the only one, or one of several
pub somewhere_one : (ms : List (Option ℕ)) (ns : List ℕ) (i mode : ℕ) → i < length ns → Agree ms ns
    → Agree (modes_somewhere mode ms) (slice_set ns i mode)
somewhere_one [] [] i mode within agree = tt
somewhere_one [] (n ∷ ns) i mode within agree = absurd agree
somewhere_one (m ∷ []) [] i mode within agree = absurd agree
somewhere_one (m ∷ []) (n ∷ []) zero mode within agree = (refl, tt)
somewhere_one (m ∷ []) (n ∷ []) (suc i) mode within agree = absurd (omega arith)
somewhere_one (m ∷ []) (n ∷ k ∷ ns) i mode within agree = absurd agree.1
somewhere_one (m ∷ l ∷ ms) ns i mode within agree = agree_one (m ∷ l ∷ ms) ns i mode agree

-- .. or all
pub somewhere_all : (ms : List (Option ℕ)) (ns : List ℕ) (mode : ℕ) → Agree ms ns
    → Agree (modes_somewhere mode ms) (replicate (length ns) mode)
somewhere_all [] [] mode agree = tt
somewhere_all [] (n ∷ ns) mode agree = absurd agree
somewhere_all (m ∷ []) [] mode agree = absurd agree
somewhere_all (m ∷ []) (n ∷ []) mode agree = (refl, tt)
somewhere_all (m ∷ []) (n ∷ k ∷ ns) mode agree = absurd agree.1
somewhere_all (m ∷ l ∷ ms) ns mode agree = agree_each (m ∷ l ∷ ms) ns mode agree

-- ---- what is read

-- the mode on a page
pub on_page : (ms : List (Option ℕ)) (ns : List ℕ) (i : ℕ) → Agree ms ns
    → AgreesWith (mode_on_page (slice_get ms i)) (slice_get ns i)
on_page [] [] i agree = refl
on_page [] (n ∷ ns) i agree = absurd agree
on_page (m ∷ ms) [] i agree = absurd agree
on_page (None ∷ ms) (n ∷ ns) zero agree = tt
on_page (Some m ∷ ms) (n ∷ ns) zero agree = ap Some (sym agree.0)
on_page (m ∷ ms) (n ∷ ns) (suc i) agree = on_page ms ns i agree.1

-- all are one that is known, where each is known and may be it
all_one : (ms : List (Option ℕ)) (ns : List ℕ) (mode : ℕ) → Agree ms ns → list_all is_some ms ≡ true
    → list_all (may_be mode) ms ≡ true
    → list_all (nat_eq mode) ns ≡ true
all_one [] [] mode agree complete same = refl
all_one [] (n ∷ ns) mode agree complete same = absurd agree
all_one (m ∷ ms) [] mode agree complete same = absurd agree
all_one (None ∷ ms) (n ∷ ns) mode agree complete same = absurd (false≢true complete)
all_one (Some m ∷ ms) (n ∷ ns) mode agree complete same =
    let parts = and_parts (nat_eq mode m) (list_all (may_be mode) ms) same in
    and_from (nat_eq mode n) (list_all (nat_eq mode) ns) (subst (λ (k : ℕ). nat_eq mode k ≡ true) agree.0 parts.0)
    (all_one ms ns mode agree.1 complete parts.1)

-- .. and each may be the one that all are
may_be_one : (ms : List (Option ℕ)) (ns : List ℕ) (mode : ℕ) → Agree ms ns → list_all (nat_eq mode) ns ≡ true
    → list_all (may_be mode) ms ≡ true
may_be_one [] [] mode agree same = refl
may_be_one [] (n ∷ ns) mode agree same = absurd agree
may_be_one (m ∷ ms) [] mode agree same = absurd agree
may_be_one (None ∷ ms) (n ∷ ns) mode agree same =
    may_be_one ms ns mode agree.1 (and_parts (nat_eq mode n) (list_all (nat_eq mode) ns) same).1
may_be_one (Some m ∷ ms) (n ∷ ns) mode agree same =
    let parts = and_parts (nat_eq mode n) (list_all (nat_eq mode) ns) same in
    and_from (nat_eq mode m) (list_all (may_be mode) ms) (subst (λ (k : ℕ). nat_eq mode k ≡ true) (sym agree.0) parts.0)
    (may_be_one ms ns mode agree.1 parts.1)

-- the first that is known is the one that all are
first_is : (ms : List (Option ℕ)) (ns : List ℕ) (mode first : ℕ) → Agree ms ns → list_all (nat_eq mode) ns ≡ true
    → first_told ms ≡ Some first → mode ≡ first
first_is [] ns mode first agree same told = absurd (none-some first told)
first_is (m ∷ ms) [] mode first agree same told = absurd agree
first_is (None ∷ ms) (n ∷ ns) mode first agree same told =
    first_is ms ns mode first agree.1 (and_parts (nat_eq mode n) (list_all (nat_eq mode) ns) same).1 told
first_is (Some m ∷ ms) (n ∷ ns) mode first agree same told =
    eqb-true mode n (and_parts (nat_eq mode n) (list_all (nat_eq mode) ns) same).0 ∙ sym agree.0
    ∙ same_Some m first told

-- the one that all are is the common one
pub common_one : (n : ℕ) (ns : List ℕ) (mode : ℕ) → list_all (nat_eq mode) (n ∷ ns) ≡ true → common (n ∷ ns) ≡ Some mode
common_one n ns mode same =
    let parts = and_parts (nat_eq mode n) (list_all (nat_eq mode) ns) same in
    let is : mode ≡ n = eqb-true mode n parts.0 in
    ap (λ (b : Bool). cond b (Some n) None) (subst (λ (k : ℕ). list_all (nat_eq k) ns ≡ true) is parts.1)
    ∙ ap Some (sym is)

-- .. and stands on each page
pub one_of_all : (ns : List ℕ) (mode i : ℕ) → list_all (nat_eq mode) ns ≡ true → i < length ns
    → slice_get ns i ≡ Some mode
one_of_all [] mode i same within = absurd (omega arith)
one_of_all (n ∷ ns) mode zero same within =
    ap Some (sym (eqb-true mode n (and_parts (nat_eq mode n) (list_all (nat_eq mode) ns) same).0))
one_of_all (n ∷ ns) mode (suc i) same within =
    one_of_all ns mode i (and_parts (nat_eq mode n) (list_all (nat_eq mode) ns) same).1 (omega arith)

-- where two that are known differ, there is none
differ_by : (b : Bool) (n : ℕ) (ms : List (Option ℕ)) (ns : List ℕ) (mode : ℕ) → list_all (nat_eq n) ns ≡ b
    → Agree ms (n ∷ ns) → first_told ms ≡ Some mode → list_all (may_be mode) ms ≡ false
    → cond b (Some n) None ≡ None
differ_by false n ms ns mode same agree told differs = refl
differ_by true n ms ns mode same agree told differs =
    let all : list_all (nat_eq n) (n ∷ ns) ≡ true = and_from (nat_eq n n) (list_all (nat_eq n) ns)
    (eq-eqb n n refl) same in
    let is : n ≡ mode = first_is ms (n ∷ ns) n mode agree all told in
    absurd (false≢true (sym (subst (λ (k : ℕ). list_all (may_be k) ms ≡ false) (sym is) differs)
    ∙ may_be_one ms (n ∷ ns) n agree all))

differ : (ms : List (Option ℕ)) (ns : List ℕ) (mode : ℕ) → Agree ms ns → first_told ms ≡ Some mode
    → list_all (may_be mode) ms ≡ false → common ns ≡ None
differ ms [] mode agree told differs = refl
differ ms (n ∷ ns) mode agree told differs = differ_by (list_all (nat_eq n) ns) n ms ns mode refl agree told differs

-- where all are known and none is, there are no pages
no_pages : (ms : List (Option ℕ)) (ns : List ℕ) → Agree ms ns → list_all is_some ms ≡ true → first_told ms ≡ None
    → common ns ≡ None
no_pages [] [] agree complete told = refl
no_pages [] (n ∷ ns) agree complete told = absurd agree
no_pages (None ∷ ms) ns agree complete told = absurd (false≢true complete)
no_pages (Some m ∷ ms) ns agree complete told = absurd (none-some m (sym told))

some_page : (ms : List (Option ℕ)) (ns : List ℕ) (mode : ℕ) → Agree ms ns → first_told ms ≡ Some mode
    → list_all (nat_eq mode) ns ≡ true → common ns ≡ Some mode
some_page [] ns mode agree told same = absurd (none-some mode told)
some_page (m ∷ ms) [] mode agree told same = absurd agree
some_page (m ∷ ms) (n ∷ ns) mode agree told same = common_one n ns mode same

-- What is known of the mode that all share: on each page, where it is known, and of the common one.
abbrev pub IsOnAll : KnownMode → List ℕ → Type 0
IsOnAll (Known mode) ns = list_all (nat_eq mode) ns ≡ true
IsOnAll Unknown ns = Unit {0}
IsOnAll NoPage ns = Unit {0}

abbrev pub IsShared : KnownMode → List ℕ → Type 0
IsShared known ns = AgreesWith known (common ns) × IsOnAll known ns

module _ (ms : List (Option ℕ)) (ns : List ℕ) (agree : Agree ms ns) where
  shared_if : (b complete : Bool) (mode : ℕ) → list_all (may_be mode) ms ≡ b → list_all is_some ms ≡ complete
      → first_told ms ≡ Some mode
      → IsShared (cond (not b) NoPage (cond complete (Known mode) Unknown)) ns
  shared_if false complete mode same all told = (differ ms ns mode agree told same, tt)
  shared_if true true mode same all told =
      let on_all = all_one ms ns mode agree all same in
      (some_page ms ns mode agree told on_all, on_all)
  shared_if true false mode same all told = (tt, tt)

  shared_of : (complete : Bool) (first : Option ℕ) → list_all is_some ms ≡ complete → first_told ms ≡ first
      → IsShared (shared_by ms complete first) ns
  shared_of true None all told = (no_pages ms ns agree all told, tt)
  shared_of false None all told = (tt, tt)
  shared_of complete (Some mode) all told = shared_if (list_all (may_be mode) ms) complete mode refl all told

  -- the mode that all pages share
  pub shared : IsShared (shared_mode ms) ns
  shared = shared_of (list_all is_some ms) (first_told ms) refl refl
