-- What a transaction tells changes what is known (`KnownPaging`) as it changes what is
-- (`PagingData`). For the law `what_is_known_is_certain`, and for Full and Reached. Stated once for
-- any relation between the two that stays when PAGE is told, when VOUT_MODE is, when VOUT_MODE is
-- untold, and when a line was dropped (`along`); then for agreement: a known PAGE is that one, an unknown
-- one is a page or all. Agreement stays on every way that PAGE and VOUT_MODE can go (`reaches`): what is
-- untold or dropped agrees with each value.
use Rattle.std.proofs.Common.{◌≡◌, ◌⊎◌, ℕ, ◌<◌, ◌≤◌, cond, slice_set, Bool, true, false, not, ◌||◌, Option, Some, None}
use Rattle.std.proofs.Common.{List, [], ◌∷◌, fold, length, map, nat_eq, nat_lt, replicate, slice_get, inl, inr, refl}
use Rattle.std.proofs.Common.{sym, ap, ◌∙◌, subst, arith}
use Rattle.std.proofs.lemmas.Bool.{eqb-false, eqb-true, false≢true, ltb-false, ltb-true}
use Rattle.std.proofs.lemmas.List.{length-replicate, length-set, set_past}
use Rattle.pmb_command.specs.Parts.{DeviceParts}
use Rattle.pmb_transaction.specs.Transaction.{TransactionData, Write, Read, Call, Refused, Alert, NoAlert}
use Rattle.pmb_note.specs.Paging.{PagingData, RegisterTold, after_bytes, after_told, after_transaction, after_value}
use Rattle.pmb_note.specs.Paging.{all_pages, common, has_paged_mode, page_code, selected_mode, told_by_part}
use Rattle.pmb_note.specs.Paging.{vout_mode_code, with_mode}
use Rattle.pmb_unknown_start.specs.declared.mode.KnownMode.{KnownMode}
use Rattle.pmb_unknown_start.specs.declared.mode.KnownMode.TheVariants.{Known, Unknown, NoPage}
use Rattle.pmb_unknown_start.specs.declared.start.Start.{Start}
use Rattle.pmb_unknown_start.specs.declared.start.Start.TheVariants.{AllKnown, Late, LateFixedMode}
use Rattle.pmb_unknown_start.specs.Past.{PastData, Said, Dropped, transactions_of}
use Rattle.pmb_unknown_start.specs.Restores.{untells}
use Rattle.pmb_unknown_start.specs.Known.{KnownPaging, any_page, first_known, forget_modes, forget_paging, known_by}
use Rattle.pmb_unknown_start.specs.Known.{known_mode, learn_bytes, learn_mode, learn_past, learn_told}
use Rattle.pmb_unknown_start.specs.Known.{learn_transaction, learn_value, learn_written, mode_on_page, mode_under}
use Rattle.pmb_unknown_start.specs.Known.{modes_after, own_page, shared_mode, told_by_read}
use Rattle.pmb_unknown_start.specs.Certain.{AgreesWith, CanBegin, CanFollow, CanFollowDrop, CanFollowPast}
use Rattle.pmb_unknown_start.specs.Certain.{CanFollowWrites, CanReach, DropsOnOwnPage, HasOwnPage, IsOwnPage, MayHave}
use Rattle.pmb_unknown_start.proofs.Agreeing.{Agree, IsShared, IsThat, agree_all, agree_known, agree_none}
use Rattle.pmb_unknown_start.proofs.Agreeing.{agree_set, on_page, one_of_all, same_length, shared, somewhere_all}
use Rattle.pmb_unknown_start.proofs.Agreeing.{somewhere_one}

-- PAGE and VOUT_MODE of a device after transactions, from those that it began with
abbrev pub paging_from : DeviceParts → PagingData → List TransactionData → PagingData
paging_from device p ts = fold (after_transaction device) p ts

-- ---- VOUT_MODE is set

abbrev pub with_modes : PagingData → List ℕ → PagingData
with_modes p modes = record { page = p.page; modes = modes }

-- .. on all pages, or on one
abbrev pub set_where : Bool → List ℕ → ℕ → ℕ → List ℕ
set_where true modes page mode = replicate (length modes) mode
set_where false modes page mode = slice_set modes page mode

pub same_count : (b : Bool) (modes : List ℕ) (page mode : ℕ) → length (set_where b modes page mode) ≡ length modes
same_count true modes page mode = length-replicate (length modes) mode
same_count false modes page mode = length-set modes page mode

set_by : (all within : Bool) (mode : ℕ) (p : PagingData) → (within ≡ false → length p.modes ≤ p.page)
    → cond all (with_modes p (replicate (length p.modes) mode))
    (cond within (with_modes p (slice_set p.modes p.page mode)) p)
    ≡ with_modes p (set_where all p.modes p.page mode)
set_by true within mode p past = refl
set_by false true mode p past = refl
set_by false false mode p past = ap (with_modes p) (sym (set_past p.modes p.page mode (past refl)))

abbrev pub sets_all : DeviceParts → PagingData → Bool
sets_all device p = not (has_paged_mode device) || nat_eq p.page all_pages

pub mode_set : (device : DeviceParts) (mode : ℕ) (p : PagingData)
    → with_mode device mode p ≡ with_modes p (set_where (sets_all device p) p.modes p.page mode)
mode_set device mode p = set_by (sets_all device p) (nat_lt p.page (length p.modes)) mode p
    (λ past. ltb-false p.page (length p.modes) past)

-- ---- a relation that stays

-- A relation between what is known and what is, which stays when PAGE is told and when VOUT_MODE is.
module _ (device : DeviceParts) (R : KnownPaging → PagingData → Type 0)
    (page_told : (k : KnownPaging) (p : PagingData) (value : ℕ) → R k p
    → R (record { page = Some value; modes = k.modes }) (record { page = value; modes = p.modes }))
    (mode_told : (k : KnownPaging) (p : PagingData) (value : ℕ) → R k p
    → R (learn_mode device value k) (with_modes p (set_where (sets_all device p) p.modes p.page value))) where
  both : (b : Bool) (k l : KnownPaging) (p q : PagingData) → R k p → R l q → R (cond b k l) (cond b p q)
  both true k l p q here there = here
  both false k l p q here there = there

  value_told : (code value : ℕ) (k : KnownPaging) (p : PagingData) → R k p
      → R (learn_value device code value k) (after_value device code value p)
  value_told code value k p is =
      both (nat_eq code page_code) (record { page = Some value; modes = k.modes })
      (cond (nat_eq code vout_mode_code) (learn_mode device value k) k)
      (record { page = value; modes = p.modes }) (cond (nat_eq code vout_mode_code) (with_mode device value p) p)
      (page_told k p value is)
      (both (nat_eq code vout_mode_code) (learn_mode device value k) k (with_mode device value p) p
      (subst (R (learn_mode device value k)) (sym (mode_set device value p)) (mode_told k p value is))
      is)

  bytes_told : (code : ℕ) (bytes : List ℕ) (k : KnownPaging) (p : PagingData) → R k p
      → R (learn_bytes device code bytes k) (after_bytes device code bytes p)
  bytes_told code [] k p is = is
  bytes_told code (value ∷ []) k p is = value_told code value k p is
  bytes_told code (a ∷ b ∷ bytes) k p is = is

  pub one_told : (t : RegisterTold) (k : KnownPaging) (p : PagingData) → R k p
      → R (learn_told device k t) (after_told device p t)
  one_told t k p is = both (nat_eq t.addr device.address) (learn_bytes device t.code t.bytes k) k
      (after_bytes device t.code t.bytes p) p (bytes_told t.code t.bytes k p is) is

  -- .. and when VOUT_MODE is untold
  module _ (start : Start)
      (forgotten : (k : KnownPaging) (p : PagingData) → R k p → R (forget_modes start k) p) where
    forgotten_if : (b : Bool) (k : KnownPaging) (p : PagingData) → R k p → R (cond b (forget_modes start k) k) p
    forgotten_if true k p is = forgotten k p is
    forgotten_if false k p is = is

    all_written : (ts : List RegisterTold) (k : KnownPaging) (p : PagingData) → R k p
        → R (fold (learn_written start device) k ts) (fold (after_told device) p ts)
    all_written [] k p is = is
    all_written (t ∷ ts) k p is =
        all_written ts (learn_written start device k t) (after_told device p t)
        (forgotten_if (untells device.address t) (learn_told device k t) (after_told device p t) (one_told t k p is))

    pub by_transaction : (t : TransactionData) (k : KnownPaging) (p : PagingData) → R k p
        → R (learn_transaction start device k t) (after_transaction device p t)
    by_transaction (Write parts) k p is = all_written (map told_by_part parts) k p is
    by_transaction (Read t) k p is = one_told (told_by_read t) k p is
    by_transaction (Call t) k p is = is
    by_transaction (Refused t) k p is = all_written (map told_by_part t.parts) k p is
    by_transaction (Alert t) k p is = is
    by_transaction NoAlert k p is = is

    -- .. and when a line was dropped, where PAGE is a page or all
    pub along : ((k : KnownPaging) (p : PagingData) → HasOwnPage p → R k p → R (forget_paging start k) p)
        → (past : List PastData) (k : KnownPaging) (p : PagingData) → DropsOnOwnPage device p past → R k p
        → R (fold (learn_past start device) k past) (paging_from device p (transactions_of past))
    along dropped [] k p drops is = is
    along dropped (Said t ∷ past) k p drops is = along dropped past (learn_transaction start device k t)
        (after_transaction device p t) drops (by_transaction t k p is)
    along dropped (Dropped ∷ past) k p drops is =
        along dropped past (forget_paging start k) p drops.1 (dropped k p drops.0 is)

-- ---- what is known agrees with what is

-- a PAGE that is known is that one, and one that isn't is a page or all
abbrev pub PageAgrees : Option ℕ → PagingData → Type 0
PageAgrees None p = (p.page < length p.modes) ⊎ (p.page ≡ all_pages)
PageAgrees (Some page) p = page ≡ p.page

-- late there is a VOUT_MODE for each page of the device
abbrev pub HasPages : Start → DeviceParts → PagingData → Type 0
HasPages AllKnown device p = Unit {0}
HasPages Late device p = length p.modes ≡ device.pages
HasPages LateFixedMode device p = length p.modes ≡ device.pages

pub record Agrees (start : Start) (device : DeviceParts) (k : KnownPaging) (p : PagingData) : Type 0 where
  -- PAGE agrees, and so does VOUT_MODE on each page
  pub page : PageAgrees k.page p
  pub modes : Agree k.modes p.modes
  pub pages : HasPages start device p

-- the same PAGE, and as many pages
page_stays : (page : Option ℕ) (p q : PagingData) → q.page ≡ p.page → length q.modes ≡ length p.modes
    → PageAgrees page p → PageAgrees page q
page_stays None p q same count (inl within) = inl (omega (arith, same, count, within))
page_stays None p q same count (inr all) = inr (same ∙ all)
page_stays (Some page) p q same count is = is ∙ sym same

pages_stay : (start : Start) (device : DeviceParts) (p q : PagingData) → length q.modes ≡ length p.modes
    → HasPages start device p → HasPages start device q
pages_stay AllKnown device p q count is = tt
pages_stay Late device p q count is = count ∙ is
pages_stay LateFixedMode device p q count is = count ∙ is

-- all pages
everywhere : (ms : List (Option ℕ)) (ns : List ℕ) (mode : ℕ) → Agree ms ns
    → Agree (replicate (length ms) (Some mode)) (replicate (length ns) mode)
everywhere ms ns mode agree = subst (λ (k : ℕ). Agree (replicate (length ms) (Some mode)) (replicate k mode))
    (same_length ms ns agree) (agree_all (length ms) mode)

on_known : (b : Bool) (ms : List (Option ℕ)) (ns : List ℕ) (page mode : ℕ) → Agree ms ns
    → Agree (cond b (replicate (length ms) (Some mode)) (slice_set ms page (Some mode))) (set_where b ns page mode)
on_known true ms ns page mode agree = everywhere ms ns mode agree
on_known false ms ns page mode agree = agree_set ms ns page mode agree

on_unknown : (b : Bool) (ms : List (Option ℕ)) (ns : List ℕ) (page mode : ℕ) → (b ≡ false → page < length ns)
    → Agree ms ns
    → Agree (modes_after mode None ms) (set_where b ns page mode)
on_unknown true ms ns page mode within agree = somewhere_all ms ns mode agree
on_unknown false ms ns page mode within agree = somewhere_one ms ns page mode (within refl) agree

-- a PAGE that isn't all is a page
is_page : (page count : ℕ) → (page < count) ⊎ (page ≡ all_pages) → nat_eq page all_pages ≡ false → page < count
is_page page count (inl within) not_all = within
is_page page count (inr all) not_all = absurd (eqb-false page all_pages not_all all)

modes_stay : (paged : Bool) (page : Option ℕ) (p : PagingData) (ms : List (Option ℕ)) (mode : ℕ) → PageAgrees page p
    → Agree ms p.modes
    → Agree (modes_after mode (cond paged page (Some all_pages)) ms)
    (set_where (not paged || nat_eq p.page all_pages) p.modes p.page mode)
modes_stay false page p ms mode is agree = everywhere ms p.modes mode agree
modes_stay true None p ms mode is agree = on_unknown (nat_eq p.page all_pages) ms p.modes p.page mode
    (is_page p.page (length p.modes) is) agree
modes_stay true (Some page) p ms mode is agree =
    subst (λ (n : ℕ). Agree (modes_after mode (Some n) ms) (set_where (nat_eq p.page all_pages) p.modes p.page mode))
    (sym is)
    (on_known (nat_eq p.page all_pages) ms p.modes p.page mode agree)

-- where a line was dropped, PAGE stays known from the first start if it is a page or all
kept_if_own : (b : Bool) (n : ℕ) (p q : PagingData) → n ≡ p.page → (b ≡ true → q.page ≡ p.page) → HasOwnPage q
    → PageAgrees (cond b (Some n) None) q
kept_if_own true n p q is same own = is ∙ sym (same refl)
kept_if_own false n p q is same own = own

own_by : (n : ℕ) (ms : List (Option ℕ)) (p : PagingData) → n ≡ p.page → length ms ≡ length p.modes → (b c : Bool)
    → nat_lt n (length ms) ≡ b → nat_eq n all_pages ≡ c → (b || c) ≡ true → HasOwnPage p
own_by n ms p is count true c less same own = inl (omega (arith, ltb-true n (length ms) less, is, count))
own_by n ms p is count false true less same own = inr (sym is ∙ eqb-true n all_pages same)
own_by n ms p is count false false less same own = absurd (false≢true own)

is_own : (n : ℕ) (ms : List (Option ℕ)) (p : PagingData) → n ≡ p.page → length ms ≡ length p.modes
    → (nat_lt n (length ms) || nat_eq n all_pages) ≡ true → HasOwnPage p
is_own n ms p is count own =
    own_by n ms p is count (nat_lt n (length ms)) (nat_eq n all_pages) refl refl own

page_dropped : (o : Option ℕ) (ms : List (Option ℕ)) (p q : PagingData) → length ms ≡ length p.modes
    → (HasOwnPage q × (q.modes ≡ p.modes) × (HasOwnPage p → q.page ≡ p.page)) → PageAgrees o p → PageAgrees (own_page ms o) q
page_dropped None ms p q count way is = way.0
page_dropped (Some n) ms p q count way is =
    kept_if_own (nat_lt n (length ms) || nat_eq n all_pages) n p q is (λ own. way.2 (is_own n ms p is count own)) way.0

module _ (device : DeviceParts) where
  -- where VOUT_MODE is untold, what is known agrees with each value
  left : (b : Bool) (k : KnownPaging) (p q : PagingData) → MayHave b p q → Agrees Late device k p
      → Agrees Late device (cond b (forget_modes Late k) k) q
  left true k p q may is = record {
    page = page_stays k.page p q may.0 may.1 is.page;
    modes = agree_none (length k.modes) q.modes (may.1 ∙ sym (same_length k.modes p.modes is.modes));
    pages = may.1 ∙ is.pages;
  }
  left false k p q may is = subst (Agrees Late device k) (sym may) is

  forgotten : (start : Start) (k : KnownPaging) (p : PagingData) → Agrees start device k p
      → Agrees start device (forget_modes start k) p
  forgotten AllKnown k p is = is
  forgotten Late k p is = left true k p p (refl, refl) is
  forgotten LateFixedMode k p is = is

  with_page : (start : Start) (k : KnownPaging) (p : PagingData) (value : ℕ) → Agrees start device k p
      → Agrees start device (record { page = Some value; modes = k.modes }) (record { page = value; modes = p.modes })
  with_page start k p value is = record {
    page = refl;
    modes = is.modes;
    pages = pages_stay start device p (record { page = value; modes = p.modes }) refl is.pages;
  }

  with_mode_set : (start : Start) (k : KnownPaging) (p : PagingData) (value : ℕ) → Agrees start device k p
      → Agrees start device (learn_mode device value k)
      (with_modes p (set_where (sets_all device p) p.modes p.page value))
  with_mode_set start k p value is =
      let modes = set_where (sets_all device p) p.modes p.page value in
      let count : length modes ≡ length p.modes = same_count (sets_all device p) p.modes p.page value in
      record {
        page = page_stays k.page p (with_modes p modes) refl count is.page;
        modes = modes_stay (has_paged_mode device) k.page p k.modes value is.page is.modes;
        pages = pages_stay start device p (with_modes p modes) count is.pages;
      }

  said : (start : Start) (t : TransactionData) (k : KnownPaging) (p : PagingData) → Agrees start device k p
      → Agrees start device (learn_transaction start device k t) (after_transaction device p t)
  said start = by_transaction device (Agrees start device) (with_page start) (with_mode_set start) start
      (forgotten start)

  -- a page or all, by the number of pages
  own : (p : PagingData) → length p.modes ≡ device.pages → IsOwnPage device p.page → PageAgrees None p
  own p long (inl within) = inl (omega arith)
  own p long (inr all) = inr all

  -- where a line was dropped, what is known agrees with all that may be
  left_by_drop : (start : Start) (k : KnownPaging) (p q : PagingData) → CanFollowDrop start device p q
      → Agrees start device k p
      → Agrees start device (forget_paging start k) q
  left_by_drop AllKnown k p q way is = record {
    page = page_dropped k.page k.modes p q (same_length k.modes p.modes is.modes) way is.page;
    modes = subst (Agree k.modes) (sym way.1) is.modes;
    pages = tt;
  }
  left_by_drop Late k p q way is =
      let pages : length q.modes ≡ device.pages = way.1 ∙ is.pages in
      record {
        page = own q pages way.0;
        modes = agree_none (length k.modes) q.modes (way.1 ∙ sym (same_length k.modes p.modes is.modes));
        pages = pages;
      }
  left_by_drop LateFixedMode k p q way is =
      let pages : length q.modes ≡ device.pages = ap (λ (modes : List ℕ). length modes) way.1 ∙ is.pages in
      record { page = own q pages way.0; modes = subst (Agree k.modes) (sym way.1) is.modes; pages = pages }

  -- ---- on every way

  told_stays : (t : RegisterTold) (k : KnownPaging) (p : PagingData) → Agrees Late device k p
      → Agrees Late device (learn_told device k t) (after_told device p t)
  told_stays = one_told device (Agrees Late device) (with_page Late) (with_mode_set Late)

  follows_writes : (ts : List RegisterTold) (k : KnownPaging) (p q : PagingData) → CanFollowWrites device p ts q
      → Agrees Late device k p → Agrees Late device (fold (learn_written Late device) k ts) q
  follows_writes [] k p q way is = subst (Agrees Late device k) (sym way) is
  follows_writes (t ∷ ts) k p q way is = follows_writes ts (learn_written Late device k t) way.0 q way.2
      (left (untells device.address t) (learn_told device k t) (after_told device p t) way.0 way.1
      (told_stays t k p is))

  follows_said : (t : TransactionData) (k : KnownPaging) (p q : PagingData) → CanFollow device p t q
      → Agrees Late device k p
      → Agrees Late device (learn_transaction Late device k t) q
  follows_said (Write parts) k p q way is = follows_writes (map told_by_part parts) k p q way is
  follows_said (Read t) k p q way is = subst (Agrees Late device (learn_told device k (told_by_read t))) (sym way)
      (told_stays (told_by_read t) k p is)
  follows_said (Call t) k p q way is = subst (Agrees Late device k) (sym way) is
  follows_said (Refused t) k p q way is = follows_writes (map told_by_part t.parts) k p q way is
  follows_said (Alert t) k p q way is = subst (Agrees Late device k) (sym way) is
  follows_said NoAlert k p q way is = subst (Agrees Late device k) (sym way) is

  -- from another start the last value goes on
  follows : (start : Start) (x : PastData) (k : KnownPaging) (p q : PagingData) → CanFollowPast start device p x q
      → Agrees start device k p
      → Agrees start device (learn_past start device k x) q
  follows AllKnown (Said t) k p q way is = subst (Agrees AllKnown device (learn_transaction AllKnown device k t))
      (sym way) (said AllKnown t k p is)
  follows Late (Said t) k p q way is = follows_said t k p q way is
  follows LateFixedMode (Said t) k p q way is =
      subst (Agrees LateFixedMode device (learn_transaction LateFixedMode device k t)) (sym way)
      (said LateFixedMode t k p is)
  follows AllKnown Dropped k p q way is = left_by_drop AllKnown k p q way is
  follows Late Dropped k p q way is = left_by_drop Late k p q way is
  follows LateFixedMode Dropped k p q way is = left_by_drop LateFixedMode k p q way is

  reaches : (start : Start) (past : List PastData) (k : KnownPaging) (p q : PagingData)
      → CanReach start device p past q → Agrees start device k p
      → Agrees start device (fold (learn_past start device) k past) q
  reaches start [] k p q way is = subst (Agrees start device k) (sym way) is
  reaches start (x ∷ past) k p q way is = reaches start past (learn_past start device k x) way.0 q way.2
      (follows start x k p way.0 way.1 is)

  -- ---- what is known at first

  -- what is known at first agrees with what may be
  pub begins : (start : Start) (p : PagingData) → CanBegin start device p
      → Agrees start device (first_known start device) p
  begins AllKnown p is = subst (Agrees AllKnown device (first_known AllKnown device)) (sym is)
      (record { page = refl; modes = agree_known device.modes; pages = tt })
  begins Late p is = record {
    page = own p is.1 is.0;
    modes = agree_none device.pages p.modes is.1;
    pages = is.1;
  }
  begins LateFixedMode p is = record {
    page = own p is.1 is.0;
    modes = subst (Agree (map Some device.modes)) (sym is.2) (agree_known device.modes);
    pages = is.1;
  }

-- ---- what is read of it

read_by : (b : Bool) (k l : KnownMode) (m n : Option ℕ) → AgreesWith k m → AgreesWith l n
    → AgreesWith (cond b k l) (cond b m n)
read_by true k l m n here there = here
read_by false k l m n here there = there

-- any page, or all
any_by : (b : Bool) (page mode : ℕ) (ns : List ℕ) → (b ≡ false → page < length ns) → IsShared (Known mode) ns
    → cond b (common ns) (slice_get ns page) ≡ Some mode
any_by true page mode ns within is = is.0
any_by false page mode ns within is = one_of_all ns mode page is.1 (within refl)

any_is : (k : KnownMode) (p : PagingData) → PageAgrees None p → IsShared k p.modes
    → AgreesWith (any_page k) (selected_mode p)
any_is (Known mode) p page is = any_by (nat_eq p.page all_pages) p.page mode p.modes
    (is_page p.page (length p.modes) page) is
any_is Unknown p page is = tt
any_is NoPage p page is = tt

read_under : (page : Option ℕ) (ms : List (Option ℕ)) (p : PagingData) → PageAgrees page p → Agree ms p.modes
    → AgreesWith (mode_under page ms) (selected_mode p)
read_under None ms p page agree = any_is (shared_mode ms) p page (shared ms p.modes agree)
read_under (Some n) ms p page agree =
    subst (λ (i : ℕ). AgreesWith (mode_under (Some i) ms) (selected_mode p)) (sym page)
    (read_by (nat_eq p.page all_pages) (shared_mode ms) (mode_on_page (slice_get ms p.page)) (common p.modes)
    (slice_get p.modes p.page)
    (shared ms p.modes agree).0 (on_page ms p.modes p.page agree))

pub mode_is : (start : Start) (device : DeviceParts) (k : KnownPaging) (p : PagingData) → Agrees start device k p
    → AgreesWith (known_mode k) (selected_mode p)
mode_is start device k p is = read_under k.page k.modes p is.page is.modes

-- ---- what that says where something is known

pub page_is : (o : Option ℕ) (n page : ℕ) → o ≡ Some page → IsThat o n → n ≡ page
page_is o n page is that = sym (subst (λ (q : Option ℕ). IsThat q n) is that)

-- PAGE that agrees, is that one where it is known
pub page_that : (o : Option ℕ) (p : PagingData) → PageAgrees o p → IsThat o p.page
page_that None p is = tt
page_that (Some page) p is = is

-- ---- what is known after what went before is certain

module _ (start : Start) (device : DeviceParts) (past : List PastData) (p q : PagingData)
    (begin : CanBegin start device p) (reach : CanReach start device p past q) where
  pub reached : Agrees start device (known_by start device past) q
  reached = reaches device start past (first_known start device) p q reach (begins device start p begin)

  pub certain_mode : (o : Option ℕ) (k : KnownMode) → known_mode (known_by start device past) ≡ k
      → (AgreesWith k (selected_mode q) → selected_mode q ≡ o) → selected_mode q ≡ o
  certain_mode o k is says = says (subst (λ (l : KnownMode). AgreesWith l (selected_mode q)) is
      (mode_is start device (known_by start device past) q reached))

  pub certain_page : (page : ℕ) → (known_by start device past).page ≡ Some page → q.page ≡ page
  certain_page page is = page_is (known_by start device past).page q.page page is
      (page_that (known_by start device past).page q reached.page)
