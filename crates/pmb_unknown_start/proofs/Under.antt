-- Two that know PAGE and VOUT_MODE of a device, of which one knows less: of PAGE nothing or the same, where
-- the other has a page of the device, or all; and of each page the same mode, or none (`Under`). Whatever
-- goes before, that stays (`after`), for each pair of starts whose forgetting keeps it (`Lower`); and what the one that
-- knows less has for a mode, the other has (`read_of`). For the laws `pieces_say_what_the_whole_says`,
-- `what_may_be_reached_stays_known` and `what_is_not_assumed_is_so_from_each_start`.
use Rattle.std.proofs.Common.{◌≡◌, ◌≢◌, ◌⊎◌, ℕ, zero, suc, ◌<◌, cond, slice_set, Bool, true, false, not, Option, Some, None}
use Rattle.std.proofs.Common.{List, [], ◌∷◌, fold, length, map, nat_eq, nat_lt, replicate, slice_get, inl, inr, refl}
use Rattle.std.proofs.Common.{◌||◌, sym, ap, ◌∙◌, subst, arith}
use Rattle.std.specs.List.{list_all}
use Rattle.std.specs.Option.{is_some}
use Rattle.std.proofs.lemmas.Bool.{and_from, and_parts, eqb-false, eqb-true, false≢true, ltb-true}
use Rattle.std.proofs.lemmas.List.{length-map, length-replicate, length-set}
use Rattle.std.proofs.lemmas.Option.{none-some, same_Some}
use Rattle.pmb_command.specs.Parts.{DeviceParts}
use Rattle.pmb_transaction.specs.Transaction.{TransactionData, Write, Read, Call, Refused, Alert, NoAlert}
use Rattle.pmb_note.specs.Paging.{RegisterTold, all_pages, has_paged_mode, page_code, told_by_part, vout_mode_code}
use Rattle.pmb_unknown_start.specs.declared.mode.KnownMode.{KnownMode}
use Rattle.pmb_unknown_start.specs.declared.mode.KnownMode.TheVariants.{Known, Unknown, NoPage}
use Rattle.pmb_unknown_start.specs.declared.start.Start.{Start}
use Rattle.pmb_unknown_start.specs.declared.start.Start.TheVariants.{AllKnown, Late, LateFixedMode}
use Rattle.pmb_unknown_start.specs.Past.{PastData, Said, Dropped}
use Rattle.pmb_unknown_start.specs.Restores.{untells}
use Rattle.pmb_unknown_start.specs.Known.{KnownPaging, any_page, first_told, forget_modes, forget_paging}
use Rattle.pmb_unknown_start.specs.Known.{is_unknown, kept_under, known_mode, learn_bytes, learn_mode, learn_past}
use Rattle.pmb_unknown_start.specs.Known.{learn_told, learn_transaction, learn_value, learn_written, may_be}
use Rattle.pmb_unknown_start.specs.Known.{mode_on_page, mode_under, modes_after, modes_somewhere, own_page, shared_by}
use Rattle.pmb_unknown_start.specs.Known.{shared_mode, told_by_read}
use Rattle.pmb_unknown_start.specs.Certain.{StaysKnown}

-- a mode that is known is that one by more, too
abbrev pub IsWithin : Option ℕ → Option ℕ → Type 0
IsWithin None n = Unit {0}
IsWithin (Some m) n = n ≡ Some m

-- .. on each page
abbrev pub Within : List (Option ℕ) → List (Option ℕ) → Type 0
Within [] [] = Unit {0}
Within [] (n ∷ ns) = ⊥
Within (m ∷ ms) [] = ⊥
Within (m ∷ ms) (n ∷ ns) = IsWithin m n × Within ms ns

pub itself : (m : Option ℕ) → IsWithin m m
itself None = tt
itself (Some m) = refl

pub within_itself : (ms : List (Option ℕ)) → Within ms ms
within_itself [] = tt
within_itself (m ∷ ms) = (itself m, within_itself ms)

same_length : (ms ns : List (Option ℕ)) → Within ms ns → length ms ≡ length ns
same_length [] [] within = refl
same_length [] (n ∷ ns) within = absurd within
same_length (m ∷ ms) [] within = absurd within
same_length (m ∷ ms) (n ∷ ns) within = ap (λ (k : ℕ). suc k) (same_length ms ns within.1)

-- ---- where VOUT_MODE is set, or untold

within_all : (k : ℕ) (m : Option ℕ) → Within (replicate k m) (replicate k m)
within_all zero m = tt
within_all (suc k) m = (itself m, within_all k m)

pub within_none : (k : ℕ) (ns : List (Option ℕ)) → length ns ≡ k → Within (replicate k None) ns
within_none zero [] long = tt
within_none zero (n ∷ ns) long = absurd (omega arith)
within_none (suc k) [] long = absurd (omega arith)
within_none (suc k) (n ∷ ns) long = (tt, within_none k ns (omega arith))

within_set : (ms ns : List (Option ℕ)) (i : ℕ) (mode : Option ℕ) → Within ms ns
    → Within (slice_set ms i mode) (slice_set ns i mode)
within_set [] [] i mode within = tt
within_set [] (n ∷ ns) i mode within = absurd within
within_set (m ∷ ms) [] i mode within = absurd within
within_set (m ∷ ms) (n ∷ ns) zero mode within = (itself mode, within.1)
within_set (m ∷ ms) (n ∷ ns) (suc i) mode within = (within.0, within_set ms ns i mode within.1)

kept_within : (mode : ℕ) (m n : Option ℕ) → IsWithin m n → IsWithin (kept_under mode m) (kept_under mode n)
kept_within mode None n is = tt
kept_within mode (Some m) n is = subst (λ (o : Option ℕ). IsWithin (kept_under mode (Some m)) (kept_under mode o))
    (sym is) (itself (kept_under mode (Some m)))

within_kept : (ms ns : List (Option ℕ)) (mode : ℕ) → Within ms ns
    → Within (map (kept_under mode) ms) (map (kept_under mode) ns)
within_kept [] [] mode within = tt
within_kept [] (n ∷ ns) mode within = absurd within
within_kept (m ∷ ms) [] mode within = absurd within
within_kept (m ∷ ms) (n ∷ ns) mode within = (kept_within mode m n within.0, within_kept ms ns mode within.1)

within_somewhere : (ms ns : List (Option ℕ)) (mode : ℕ) → Within ms ns
    → Within (modes_somewhere mode ms) (modes_somewhere mode ns)
within_somewhere [] [] mode within = tt
within_somewhere [] (n ∷ ns) mode within = absurd within
within_somewhere (m ∷ ms) [] mode within = absurd within
within_somewhere (m ∷ []) (n ∷ []) mode within = (refl, tt)
within_somewhere (m ∷ []) (n ∷ k ∷ ns) mode within = absurd within.1
within_somewhere (m ∷ l ∷ ms) (n ∷ []) mode within = absurd within.1
within_somewhere (m ∷ l ∷ ms) (n ∷ k ∷ ns) mode within = within_kept (m ∷ l ∷ ms) (n ∷ k ∷ ns) mode within

within_page : (b : Bool) (ms ns : List (Option ℕ)) (page mode : ℕ) → Within ms ns
    → Within (cond b (replicate (length ms) (Some mode)) (slice_set ms page (Some mode)))
    (cond b (replicate (length ns) (Some mode)) (slice_set ns page (Some mode)))
within_page true ms ns page mode within =
    subst (λ (k : ℕ). Within (replicate (length ms) (Some mode)) (replicate k (Some mode))) (same_length ms ns within)
    (within_all (length ms) (Some mode))
within_page false ms ns page mode within = within_set ms ns page (Some mode) within

within_after : (page : Option ℕ) (ms ns : List (Option ℕ)) (mode : ℕ) → Within ms ns
    → Within (modes_after mode page ms) (modes_after mode page ns)
within_after None ms ns mode within = within_somewhere ms ns mode within
within_after (Some page) ms ns mode within = within_page (nat_eq page all_pages) ms ns page mode within

-- .. where one that knows no PAGE has it set somewhere, and the other on all pages, or on one of them
set_if : (b : Bool) (m mode : ℕ) → (b ≡ true → m ≡ mode) → IsWithin (cond b (Some m) None) (Some mode)
set_if true m mode same = ap Some (sym (same refl))
set_if false m mode same = tt

kept_is_set : (mode : ℕ) (m : Option ℕ) → IsWithin (kept_under mode m) (Some mode)
kept_is_set mode None = tt
kept_is_set mode (Some m) = set_if (nat_eq m mode) m mode (λ same. eqb-true m mode same)

kept_if : (b : Bool) (m : ℕ) (n : Option ℕ) → n ≡ Some m → IsWithin (cond b (Some m) None) n
kept_if true m n is = is
kept_if false m n is = tt

kept_is : (mode : ℕ) (m n : Option ℕ) → IsWithin m n → IsWithin (kept_under mode m) n
kept_is mode None n is = tt
kept_is mode (Some m) n is = kept_if (nat_eq m mode) m n is

each_kept : (ms ns : List (Option ℕ)) (mode : ℕ) → Within ms ns → Within (map (kept_under mode) ms) ns
each_kept [] [] mode within = tt
each_kept [] (n ∷ ns) mode within = absurd within
each_kept (m ∷ ms) [] mode within = absurd within
each_kept (m ∷ ms) (n ∷ ns) mode within = (kept_is mode m n within.0, each_kept ms ns mode within.1)

each_set : (ms ns : List (Option ℕ)) (mode : ℕ) → Within ms ns
    → Within (map (kept_under mode) ms) (replicate (length ns) (Some mode))
each_set [] [] mode within = tt
each_set [] (n ∷ ns) mode within = absurd within
each_set (m ∷ ms) [] mode within = absurd within
each_set (m ∷ ms) (n ∷ ns) mode within = (kept_is_set mode m, each_set ms ns mode within.1)

one_set : (ms ns : List (Option ℕ)) (i mode : ℕ) → Within ms ns
    → Within (map (kept_under mode) ms) (slice_set ns i (Some mode))
one_set [] [] i mode within = tt
one_set [] (n ∷ ns) i mode within = absurd within
one_set (m ∷ ms) [] i mode within = absurd within
one_set (m ∷ ms) (n ∷ ns) zero mode within = (kept_is_set mode m, each_kept ms ns mode within.1)
one_set (m ∷ ms) (n ∷ ns) (suc i) mode within = (kept_is mode m n within.0, one_set ms ns i mode within.1)

somewhere_all : (ms ns : List (Option ℕ)) (mode : ℕ) → Within ms ns
    → Within (modes_somewhere mode ms) (replicate (length ns) (Some mode))
somewhere_all [] [] mode within = tt
somewhere_all [] (n ∷ ns) mode within = absurd within
somewhere_all (m ∷ ms) [] mode within = absurd within
somewhere_all (m ∷ []) (n ∷ []) mode within = (refl, tt)
somewhere_all (m ∷ []) (n ∷ k ∷ ns) mode within = absurd within.1
somewhere_all (m ∷ l ∷ ms) (n ∷ ns) mode within = each_set (m ∷ l ∷ ms) (n ∷ ns) mode within

somewhere_one : (ms ns : List (Option ℕ)) (i mode : ℕ) → i < length ns → Within ms ns
    → Within (modes_somewhere mode ms) (slice_set ns i (Some mode))
somewhere_one [] [] i mode less within = tt
somewhere_one [] (n ∷ ns) i mode less within = absurd within
somewhere_one (m ∷ ms) [] i mode less within = absurd within
somewhere_one (m ∷ []) (n ∷ []) zero mode less within = (refl, tt)
somewhere_one (m ∷ []) (n ∷ []) (suc i) mode less within = absurd (omega arith)
somewhere_one (m ∷ []) (n ∷ k ∷ ns) i mode less within = absurd within.1
somewhere_one (m ∷ l ∷ ms) (n ∷ ns) i mode less within = one_set (m ∷ l ∷ ms) (n ∷ ns) i mode within

on_unknown : (b : Bool) (ms ns : List (Option ℕ)) (page mode : ℕ) → (b ≡ false → page < length ns) → Within ms ns
    → Within (modes_somewhere mode ms)
    (cond b (replicate (length ns) (Some mode)) (slice_set ns page (Some mode)))
on_unknown true ms ns page mode less within = somewhere_all ms ns mode within
on_unknown false ms ns page mode less within = somewhere_one ms ns page mode (less refl) within

-- as many modes as before
length_somewhere : (ns : List (Option ℕ)) (mode : ℕ) → length (modes_somewhere mode ns) ≡ length ns
length_somewhere [] mode = refl
length_somewhere (n ∷ []) mode = refl
length_somewhere (n ∷ k ∷ ns) mode = length-map (n ∷ k ∷ ns) (kept_under mode)

length_by : (b : Bool) (ns : List (Option ℕ)) (page mode : ℕ)
    → length (cond b (replicate (length ns) (Some mode)) (slice_set ns page (Some mode))) ≡ length ns
length_by true ns page mode = length-replicate (length ns) (Some mode)
length_by false ns page mode = length-set ns page (Some mode)

length_after : (page : Option ℕ) (ns : List (Option ℕ)) (mode : ℕ) → length (modes_after mode page ns) ≡ length ns
length_after None ns mode = length_somewhere ns mode
length_after (Some page) ns mode = length_by (nat_eq page all_pages) ns page mode

-- ---- PAGE and VOUT_MODE

-- PAGE is not known, or it is one of as many pages as there are modes, or all
abbrev pub IsOwn : Option ℕ → ℕ → Type 0
IsOwn None count = Unit {0}
IsOwn (Some page) count = (page < count) ⊎ (page ≡ all_pages)

abbrev pub StaysPage : Option ℕ → KnownPaging → Type 0
StaysPage None l = IsOwn l.page (length l.modes)
StaysPage (Some page) l = l.page ≡ Some page

pub record Under (k l : KnownPaging) : Type 0 where
  pub page : StaysPage k.page l
  pub modes : Within k.modes l.modes

-- a PAGE that isn't all is a page
is_page : (page count : ℕ) → (page < count) ⊎ (page ≡ all_pages) → nat_eq page all_pages ≡ false → page < count
is_page page count (inl less) not_all = less
is_page page count (inr all) not_all = absurd (eqb-false page all_pages not_all all)

same_own : (o p : Option ℕ) (m n : ℕ) → o ≡ p → n ≡ m → IsOwn p m → IsOwn o n
same_own o p m n is count own = subst (λ (q : Option ℕ). IsOwn q n) (sym is) (subst (IsOwn p) (sym count) own)

same_page : (page : Option ℕ) (k l : KnownPaging) → l.page ≡ k.page → length l.modes ≡ length k.modes
    → StaysPage page k → StaysPage page l
same_page None k l same count own = same_own l.page k.page (length k.modes) (length l.modes) same count own
same_page (Some page) k l same count is = same ∙ is

somewhere_own : (o : Option ℕ) (ms ns : List (Option ℕ)) (mode : ℕ) → IsOwn o (length ns) → Within ms ns
    → Within (modes_somewhere mode ms) (modes_after mode o ns)
somewhere_own None ms ns mode own within = within_somewhere ms ns mode within
somewhere_own (Some page) ms ns mode own within = on_unknown (nat_eq page all_pages) ms ns page mode
    (is_page page (length ns) own) within

modes_stay : (paged : Bool) (page : Option ℕ) (l : KnownPaging) (ms : List (Option ℕ)) (mode : ℕ) → StaysPage page l
    → Within ms l.modes
    → Within (modes_after mode (cond paged page (Some all_pages)) ms)
    (modes_after mode (cond paged l.page (Some all_pages)) l.modes)
modes_stay false page l ms mode is within = within_after (Some all_pages) ms l.modes mode within
modes_stay true (Some page) l ms mode is within =
    subst (λ (o : Option ℕ). Within (modes_after mode (Some page) ms) (modes_after mode o l.modes)) (sym is)
    (within_after (Some page) ms l.modes mode within)
modes_stay true None l ms mode is within = somewhere_own l.page ms l.modes mode is within

-- ---- after what went before

-- A relation between two that know PAGE and VOUT_MODE, which stays when PAGE is told and when VOUT_MODE is.
module _ (device : DeviceParts) (R : KnownPaging → KnownPaging → Type 0)
    (page_told : (k l : KnownPaging) (value : ℕ) → R k l
    → R (record { page = Some value; modes = k.modes }) (record { page = Some value; modes = l.modes }))
    (mode_told : (k l : KnownPaging) (value : ℕ) → R k l
    → R (learn_mode device value k) (learn_mode device value l)) where
  either : (b : Bool) (k l m n : KnownPaging) → R k l → R m n → R (cond b k m) (cond b l n)
  either true k l m n here there = here
  either false k l m n here there = there

  value_told : (code value : ℕ) (k l : KnownPaging) → R k l
      → R (learn_value device code value k) (learn_value device code value l)
  value_told code value k l is =
      either (nat_eq code page_code) (record { page = Some value; modes = k.modes })
      (record { page = Some value; modes = l.modes })
      (cond (nat_eq code vout_mode_code) (learn_mode device value k) k)
      (cond (nat_eq code vout_mode_code) (learn_mode device value l) l)
      (page_told k l value is)
      (either (nat_eq code vout_mode_code) (learn_mode device value k) (learn_mode device value l) k l
      (mode_told k l value is) is)

  bytes_told : (code : ℕ) (bytes : List ℕ) (k l : KnownPaging) → R k l
      → R (learn_bytes device code bytes k) (learn_bytes device code bytes l)
  bytes_told code [] k l is = is
  bytes_told code (value ∷ []) k l is = value_told code value k l is
  bytes_told code (a ∷ b ∷ bytes) k l is = is

  one_told : (t : RegisterTold) (k l : KnownPaging) → R k l → R (learn_told device k t) (learn_told device l t)
  one_told t k l is = either (nat_eq t.addr device.address) (learn_bytes device t.code t.bytes k)
      (learn_bytes device t.code t.bytes l) k l (bytes_told t.code t.bytes k l is) is

  -- .. and when each forgets, by its start
  module _ (s t : Start)
      (forgotten : (k l : KnownPaging) → R k l → R (forget_modes s k) (forget_modes t l))
      (dropped : (k l : KnownPaging) → R k l → R (forget_paging s k) (forget_paging t l)) where
    forgotten_if : (b : Bool) (k l : KnownPaging) → R k l → R (cond b (forget_modes s k) k) (cond b (forget_modes t l) l)
    forgotten_if true k l is = forgotten k l is
    forgotten_if false k l is = is

    all_written : (ts : List RegisterTold) (k l : KnownPaging) → R k l
        → R (fold (learn_written s device) k ts) (fold (learn_written t device) l ts)
    all_written [] k l is = is
    all_written (r ∷ ts) k l is = all_written ts (learn_written s device k r) (learn_written t device l r)
        (forgotten_if (untells device.address r) (learn_told device k r) (learn_told device l r) (one_told r k l is))

    by_transaction : (x : TransactionData) (k l : KnownPaging) → R k l
        → R (learn_transaction s device k x) (learn_transaction t device l x)
    by_transaction (Write parts) k l is = all_written (map told_by_part parts) k l is
    by_transaction (Read x) k l is = one_told (told_by_read x) k l is
    by_transaction (Call x) k l is = is
    by_transaction (Refused x) k l is = all_written (map told_by_part x.parts) k l is
    by_transaction (Alert x) k l is = is
    by_transaction NoAlert k l is = is

    pub stays : (past : List PastData) (k l : KnownPaging) → R k l
        → R (fold (learn_past s device) k past) (fold (learn_past t device) l past)
    stays [] k l is = is
    stays (Said x ∷ past) k l is = stays past (learn_transaction s device k x) (learn_transaction t device l x)
        (by_transaction x k l is)
    stays (Dropped ∷ past) k l is = stays past (forget_paging s k) (forget_paging t l) (dropped k l is)

-- ---- the starts

-- a start that knows less, or the first one
pub data Lower : Start → Start → Type 0 where
  late_all : Lower Late AllKnown
  late_fixed : Lower Late LateFixedMode
  fixed_all : Lower LateFixedMode AllKnown
  all_all : Lower AllKnown AllKnown

own_by : (b : Bool) (page count : ℕ) → (b ≡ true → (page < count) ⊎ (page ≡ all_pages))
    → IsOwn (cond b (Some page) None) count
own_by true page count own = own refl
own_by false page count own = tt

page_or_all : (page count : ℕ) (b c : Bool) → nat_lt page count ≡ b → nat_eq page all_pages ≡ c → (b || c) ≡ true
    → (page < count) ⊎ (page ≡ all_pages)
page_or_all page count true c less all own = inl (ltb-true page count less)
page_or_all page count false true less all own = inr (eqb-true page all_pages all)
page_or_all page count false false less all own = absurd (false≢true own)

is_own : (page : Option ℕ) (ns : List (Option ℕ)) → IsOwn (own_page ns page) (length ns)
is_own None ns = tt
is_own (Some page) ns = own_by (nat_lt page (length ns) || nat_eq page all_pages) page (length ns)
    (page_or_all page (length ns) (nat_lt page (length ns)) (nat_eq page all_pages) refl refl)

none_within : (k l : KnownPaging) → Under k l → Within (replicate (length k.modes) None) l.modes
none_within k l is = within_none (length k.modes) l.modes (sym (same_length k.modes l.modes is.modes))

module _ (device : DeviceParts) where
  with_page : (k l : KnownPaging) (value : ℕ) → Under k l
      → Under (record { page = Some value; modes = k.modes }) (record { page = Some value; modes = l.modes })
  with_page k l value is = record { page = refl; modes = is.modes }

  with_mode : (k l : KnownPaging) (value : ℕ) → Under k l → Under (learn_mode device value k) (learn_mode device value l)
  with_mode k l value is = record {
    page = same_page k.page l (learn_mode device value l) refl
        (length_after (cond (has_paged_mode device) l.page (Some all_pages)) l.modes value) is.page;
    modes = modes_stay (has_paged_mode device) k.page l k.modes value is.page is.modes;
  }

  forgotten : (s t : Start) → Lower s t → (k l : KnownPaging) → Under k l → Under (forget_modes s k) (forget_modes t l)
  forgotten s t late_all k l is = record { page = is.page; modes = none_within k l is }
  forgotten s t late_fixed k l is = record { page = is.page; modes = none_within k l is }
  forgotten s t fixed_all k l is = is
  forgotten s t all_all k l is = is

  -- PAGE goes on in both where it is a page or all, and else is known in none
  kept_if_own : (l : KnownPaging) (n : ℕ) (b : Bool) → (b ≡ true → own_page l.modes l.page ≡ Some n)
      → StaysPage (cond b (Some n) None) (forget_paging AllKnown l)
  kept_if_own l n true goes_on = goes_on refl
  kept_if_own l n false goes_on = is_own l.page l.modes

  kept_page : (k l : KnownPaging) → Under k l → (page : Option ℕ) → StaysPage page l
      → StaysPage (own_page k.modes page) (forget_paging AllKnown l)
  kept_page k l is None own = is_own l.page l.modes
  kept_page k l is (Some n) same =
      kept_if_own l n (nat_lt n (length k.modes) || nat_eq n all_pages) (λ yes. ap (own_page l.modes) same
      ∙ ap (λ (b : Bool). cond b (Some n) None)
      (ap (λ (count : ℕ). nat_lt n count || nat_eq n all_pages) (sym (same_length k.modes l.modes is.modes)) ∙ yes))

  dropped : (s t : Start) → Lower s t → (k l : KnownPaging) → Under k l → Under (forget_paging s k) (forget_paging t l)
  dropped s t late_all k l is = record { page = is_own l.page l.modes; modes = none_within k l is }
  dropped s t late_fixed k l is = record { page = tt; modes = none_within k l is }
  dropped s t fixed_all k l is = record { page = is_own l.page l.modes; modes = is.modes }
  dropped s t all_all k l is = record { page = kept_page k l is k.page is.page; modes = is.modes }

  pub after : (s t : Start) → Lower s t → (past : List PastData) (k l : KnownPaging) → Under k l
      → Under (fold (learn_past s device) k past) (fold (learn_past t device) l past)
  after s t lower = stays device Under with_page with_mode s t (forgotten s t lower) (dropped s t lower)

  -- PAGE alone needs nothing of what was before
  abbrev pub SamePage : KnownPaging → KnownPaging → Type 0
  SamePage k l = (page : ℕ) → k.page ≡ Some page → l.page ≡ Some page

  page_forgotten : (s t : Start) → Lower s t → (k l : KnownPaging) → SamePage k l
      → SamePage (forget_modes s k) (forget_modes t l)
  page_forgotten s t late_all k l is = is
  page_forgotten s t late_fixed k l is = is
  page_forgotten s t fixed_all k l is = is
  page_forgotten s t all_all k l is = is

  page_dropped : (s t : Start) → s ≢ AllKnown → (k l : KnownPaging) → SamePage k l
      → SamePage (forget_paging s k) (forget_paging t l)
  page_dropped AllKnown t late k l is page known = absurd (late refl)
  page_dropped Late t late k l is page known = absurd (none-some page known)
  page_dropped LateFixedMode t late k l is page known = absurd (none-some page known)

  pub page_after : (s t : Start) → Lower s t → s ≢ AllKnown → (past : List PastData) (k l : KnownPaging) → SamePage k l
      → SamePage (fold (learn_past s device) k past) (fold (learn_past t device) l past)
  page_after s t lower late = stays device SamePage (λ k l value is page known. known) (λ k l value is. is) s t
      (page_forgotten s t lower) (page_dropped s t late)

-- ---- what is read of it

-- what is not unknown is the same
abbrev pub Stays : KnownMode → KnownMode → Type 0
Stays k l = is_unknown k ≡ false → l ≡ k

on_page : (ms ns : List (Option ℕ)) (i : ℕ) → Within ms ns
    → Stays (mode_on_page (slice_get ms i)) (mode_on_page (slice_get ns i))
on_page [] [] i within sure = refl
on_page [] (n ∷ ns) i within sure = absurd within
on_page (m ∷ ms) [] i within sure = absurd within
on_page (None ∷ ms) (n ∷ ns) zero within sure = absurd (false≢true (sym sure))
on_page (Some m ∷ ms) (n ∷ ns) zero within sure = ap (λ (o : Option ℕ). mode_on_page (Some o)) within.0
on_page (m ∷ ms) (n ∷ ns) (suc i) within sure = on_page ms ns i within.1 sure

-- where each is known late
all_known : (ms ns : List (Option ℕ)) → Within ms ns → list_all is_some ms ≡ true → ns ≡ ms
all_known [] [] within complete = refl
all_known [] (n ∷ ns) within complete = absurd within
all_known (m ∷ ms) [] within complete = absurd within
all_known (None ∷ ms) (n ∷ ns) within complete = absurd (false≢true complete)
all_known (Some m ∷ ms) (n ∷ ns) within complete =
    ap (λ (o : Option ℕ). o ∷ ns) within.0
    ∙ ap (λ (os : List (Option ℕ)). Some m ∷ os) (all_known ms ns within.1 complete)

-- where none is known, none is known late
none_told : (ms ns : List (Option ℕ)) → Within ms ns → first_told ns ≡ None → first_told ms ≡ None
none_told [] ns within none = refl
none_told (m ∷ ms) [] within none = absurd within
none_told (None ∷ ms) (None ∷ ns) within none = none_told ms ns within.1 none
none_told (None ∷ ms) (Some n ∷ ns) within none = absurd (none-some n (sym none))
none_told (Some m ∷ ms) (n ∷ ns) within none =
    absurd (none-some m (sym (subst (λ (o : Option ℕ). first_told (o ∷ ns) ≡ None) within.0 none)))

-- a mode that all may be, all may be late
may_be_late : (mode : ℕ) (ms ns : List (Option ℕ)) → Within ms ns → list_all (may_be mode) ns ≡ true
    → list_all (may_be mode) ms ≡ true
may_be_late mode [] ns within all = refl
may_be_late mode (m ∷ ms) [] within all = absurd within
may_be_late mode (None ∷ ms) (n ∷ ns) within all =
    may_be_late mode ms ns within.1 (and_parts (may_be mode n) (list_all (may_be mode) ns) all).1
may_be_late mode (Some m ∷ ms) (n ∷ ns) within all =
    let parts = and_parts (may_be mode n) (list_all (may_be mode) ns) all in
    and_from (nat_eq mode m) (list_all (may_be mode) ms)
    (subst (λ (o : Option ℕ). may_be mode o ≡ true) within.0 parts.0) (may_be_late mode ms ns within.1 parts.1)

-- .. so it is the first that is known
first_is : (mode first : ℕ) (ms : List (Option ℕ)) → list_all (may_be mode) ms ≡ true → first_told ms ≡ Some first
    → mode ≡ first
first_is mode first [] all told = absurd (none-some first told)
first_is mode first (None ∷ ms) all told = first_is mode first ms all told
first_is mode first (Some m ∷ ms) all told =
    eqb-true mode m (and_parts (nat_eq mode m) (list_all (may_be mode) ms) all).0 ∙ same_Some m first told

-- where two that are known late differ, there is no mode
module _ (ms ns : List (Option ℕ)) (within : Within ms ns) (first : ℕ) (told : first_told ms ≡ Some first)
    (differs : list_all (may_be first) ms ≡ false) where
  differ_by : (b complete : Bool) (mode : ℕ) → list_all (may_be mode) ns ≡ b
      → cond (not b) NoPage (cond complete (Known mode) Unknown) ≡ NoPage
  differ_by false complete mode all = refl
  differ_by true complete mode all =
      let late = may_be_late mode ms ns within all in
      absurd (false≢true (sym differs
      ∙ subst (λ (n : ℕ). list_all (may_be n) ms ≡ true) (first_is mode first ms late told) late))

  differ : (complete : Bool) (found : Option ℕ) → first_told ns ≡ found → shared_by ns complete found ≡ NoPage
  differ complete None none = absurd (none-some first (sym (none_told ms ns within none) ∙ told))
  differ complete (Some mode) is = differ_by (list_all (may_be mode) ns) complete mode refl

module _ (ms ns : List (Option ℕ)) (within : Within ms ns) where
  shared_if : (b : Bool) (first : ℕ) → first_told ms ≡ Some first → list_all (may_be first) ms ≡ b
      → Stays (cond (not b) NoPage Unknown) (shared_mode ns)
  shared_if false first told all sure = differ ms ns within first told all (list_all is_some ns) (first_told ns) refl
  shared_if true first told all sure = absurd (false≢true (sym sure))

  shared_of : (found : Option ℕ) → first_told ms ≡ found → Stays (shared_by ms false found) (shared_mode ns)
  shared_of None told sure = absurd (false≢true (sym sure))
  shared_of (Some first) told sure = shared_if (list_all (may_be first) ms) first told refl sure

  shared_by_all : (complete : Bool) → list_all is_some ms ≡ complete
      → Stays (shared_by ms complete (first_told ms)) (shared_mode ns)
  shared_by_all true all sure = ap shared_mode (all_known ms ns within all)
      ∙ ap (λ (complete : Bool). shared_by ms complete (first_told ms)) all
  shared_by_all false all sure = shared_of (first_told ms) refl sure

  shared : Stays (shared_mode ms) (shared_mode ns)
  shared = shared_by_all (list_all is_some ms) refl

any_stays : (k l : KnownMode) → Stays k l → Stays (any_page k) (any_page l)
any_stays (Known mode) l stays sure = ap any_page (stays refl)
any_stays Unknown l stays sure = absurd (false≢true (sym sure))
any_stays NoPage l stays sure = absurd (false≢true (sym sure))

selected : (b : Bool) (j k l m : KnownMode) → Stays j k → Stays l m → Stays (cond b j l) (cond b k m)
selected true j k l m here there = here
selected false j k l m here there = there

-- where all are known to share a mode, each has it
all_same : (ms : List (Option ℕ)) (mode : ℕ) → list_all is_some ms ≡ true → list_all (may_be mode) ms ≡ true
    → (i : ℕ) → i < length ms → slice_get ms i ≡ Some (Some mode)
all_same [] mode complete same i less = absurd (omega arith)
all_same (None ∷ ms) mode complete same i less = absurd (false≢true complete)
all_same (Some m ∷ ms) mode complete same zero less =
    ap (λ (n : ℕ). Some (Some n)) (sym (eqb-true mode m (and_parts (nat_eq mode m) (list_all (may_be mode) ms) same).0))
all_same (Some m ∷ ms) mode complete same (suc i) less =
    all_same ms mode complete (and_parts (nat_eq mode m) (list_all (may_be mode) ms) same).1 i (omega arith)

-- what a mode that all share says of each page
abbrev OnEach : KnownMode → List (Option ℕ) → Type 0
OnEach (Known mode) ms = (list_all is_some ms ≡ true) × ((i : ℕ) → i < length ms → slice_get ms i ≡ Some (Some mode))
OnEach Unknown ms = Unit {0}
OnEach NoPage ms = Unit {0}

each_by : (ms : List (Option ℕ)) (b complete : Bool) (mode : ℕ) → list_all (may_be mode) ms ≡ b
    → list_all is_some ms ≡ complete
    → OnEach (cond (not b) NoPage (cond complete (Known mode) Unknown)) ms
each_by ms false complete mode same all = tt
each_by ms true true mode same all = (all, all_same ms mode all same)
each_by ms true false mode same all = tt

each_of : (ms : List (Option ℕ)) (complete : Bool) (found : Option ℕ) → list_all is_some ms ≡ complete
    → OnEach (shared_by ms complete found) ms
each_of ms true None all = tt
each_of ms false None all = tt
each_of ms complete (Some mode) all = each_by ms (list_all (may_be mode) ms) complete mode refl all

-- on a page, or on all
read_own : (b : Bool) (ms ns : List (Option ℕ)) (page mode : ℕ) → (b ≡ false → page < length ms) → Within ms ns
    → shared_mode ms ≡ Known mode → OnEach (Known mode) ms
    → cond b (shared_mode ns) (mode_on_page (slice_get ns page)) ≡ Known mode
read_own true ms ns page mode less within is each = ap shared_mode (all_known ms ns within each.0) ∙ is
read_own false ms ns page mode less within is each =
    ap (λ (os : List (Option ℕ)). mode_on_page (slice_get os page)) (all_known ms ns within each.0)
    ∙ ap mode_on_page (each.1 page (less refl))

own_of : (k : KnownMode) (ms ns : List (Option ℕ)) (page : ℕ) → (page < length ns) ⊎ (page ≡ all_pages) → Within ms ns
    → shared_mode ms ≡ k → OnEach k ms
    → Stays (any_page k) (mode_under (Some page) ns)
own_of (Known mode) ms ns page own within is each sure =
    read_own (nat_eq page all_pages) ms ns page mode
    (λ not_all. subst (λ (count : ℕ). page < count) (sym (same_length ms ns within))
    (is_page page (length ns) own not_all)) within is each
own_of Unknown ms ns page own within is each sure = absurd (false≢true (sym sure))
own_of NoPage ms ns page own within is each sure = absurd (false≢true (sym sure))

read_unknown : (page : Option ℕ) (ms ns : List (Option ℕ)) → IsOwn page (length ns) → Within ms ns
    → Stays (any_page (shared_mode ms)) (mode_under page ns)
read_unknown None ms ns own within = any_stays (shared_mode ms) (shared_mode ns) (shared ms ns within)
read_unknown (Some page) ms ns own within = own_of (shared_mode ms) ms ns page own within refl
    (each_of ms (list_all is_some ms) (first_told ms) refl)

read_known : (page : ℕ) (ms ns : List (Option ℕ)) → Within ms ns
    → Stays (mode_under (Some page) ms) (mode_under (Some page) ns)
read_known page ms ns within = selected (nat_eq page all_pages) (shared_mode ms) (shared_mode ns)
    (mode_on_page (slice_get ms page)) (mode_on_page (slice_get ns page)) (shared ms ns within)
    (on_page ms ns page within)

read_under : (page : Option ℕ) (ms : List (Option ℕ)) (l : KnownPaging) → StaysPage page l → Within ms l.modes
    → Stays (mode_under page ms) (known_mode l)
read_under None ms l own within = read_unknown l.page ms l.modes own within
read_under (Some page) ms l is within =
    subst (λ (o : Option ℕ). Stays (mode_under (Some page) ms) (mode_under o l.modes)) (sym is)
    (read_known page ms l.modes within)

known_stays : (k l : KnownMode) → Stays k l → StaysKnown k l
known_stays (Known mode) l stays = stays refl
known_stays Unknown l stays = tt
known_stays NoPage l stays = stays refl

pub read_of : (k l : KnownPaging) → Under k l → StaysKnown (known_mode k) (known_mode l)
read_of k l is = known_stays (known_mode k) (known_mode l) (read_under k.page k.modes l is.page is.modes)

-- what is known stays as it is
pub same_stays : (k l : KnownMode) → l ≡ k → StaysKnown k l
same_stays k l is = known_stays k l (λ sure. is)
