-- Where a capture may be cut: PAGE and VOUT_MODE after the first part are such as the rest may
-- begin with, so what is known in the rest is what the whole has (Under). For the law
-- `pieces_say_what_the_whole_says`. What is told before the cut keeps PAGE among the device's
-- pages, register by register, and as many VOUT_MODEs as there are pages. So all stays known in the
-- whole before the cut, over each line that was dropped (Full).
use Rattle.std.proofs.Common.{◌≡◌, ◌≢◌, ℕ, cond, Bool, true, false, Option, Some, None, List, [], ◌∷◌, ◌++◌, fold}
use Rattle.std.proofs.Common.{length, map, nat_eq, inl, inr, refl, sym, ap, ◌∙◌, subst, arith}
use Rattle.std.specs.List.{AllByRecursion, flat_map}
use Rattle.std.proofs.lemmas.Bool.{eqb-true}
use Rattle.std.proofs.lemmas.List.{length-map, map-append}
use Rattle.std.proofs.lemmas.List.Sums.{fold-append}
use Rattle.std.proofs.lemmas.Option.{none-some}
use Rattle.pmb_command.specs.Bus.{IsDevice}
use Rattle.pmb_command.specs.Parts.{DeviceParts, device_with}
use Rattle.pmb_transaction.specs.Transaction.{TransactionData}
use Rattle.pmb_note.specs.Paging.{PagingData, RegisterTold, after_bytes, after_told, after_transaction, after_value}
use Rattle.pmb_note.specs.Paging.{first_paging, page_code, paging, told, vout_mode_code, with_mode}
use Rattle.pmb_unknown_start.specs.declared.start.Start.{Start}
use Rattle.pmb_unknown_start.specs.declared.start.Start.TheVariants.{AllKnown, Late, LateFixedMode}
use Rattle.pmb_unknown_start.specs.Past.{PastData, Said, Dropped, transactions_of}
use Rattle.pmb_unknown_start.specs.Known.{KnownPaging, first_known, known_by, known_mode, learn_past, mode, mode_of, page}
use Rattle.pmb_unknown_start.specs.Known.{known, page_of}
use Rattle.pmb_unknown_start.specs.Taken.{as_taken, one_taken}
use Rattle.pmb_unknown_start.specs.Certain.{CanBeCutAfter, CanBeCutBehind, DropsOnOwnPage, HasOwnPage, IsOwnPage, IsOwnPageTold}
use Rattle.pmb_unknown_start.specs.Certain.{StaysKnown}
use Rattle.pmb_unknown_start.proofs.Full.{all_is_known, full}
use Rattle.pmb_unknown_start.proofs.Telling.{mode_set, paging_from, same_count, set_where, sets_all, with_modes}
use Rattle.pmb_unknown_start.proofs.Under.{IsOwn, Under, Within, after, fixed_all, late_all, page_after, read_of}
use Rattle.pmb_unknown_start.proofs.Under.{same_stays, within_itself, within_none}

-- what is told by transactions, one after the other
fold_told : (device : DeviceParts) (ts : List TransactionData) (p : PagingData)
    → fold (after_told device) p (flat_map told ts) ≡ paging_from device p ts
fold_told device [] p = refl
fold_told device (t ∷ ts) p = fold-append (after_told device) p (told t) (flat_map told ts)
    ∙ fold_told device ts (after_transaction device p t)

-- ---- what stays while PAGE and VOUT_MODE are told so

-- What stays where what is told is so, by what PAGE and VOUT_MODE are told to be.
module _ (device : DeviceParts) (Q : RegisterTold → Type 0) (P : PagingData → Type 0)
    (page_told : (t : RegisterTold) (p : PagingData) (value : ℕ) → Q t → t.addr ≡ device.address → t.code ≡ page_code
    → t.bytes ≡ value ∷ [] → P p
    → P (record { page = value; modes = p.modes }))
    (mode_told : (t : RegisterTold) (p : PagingData) (value : ℕ) → Q t → t.addr ≡ device.address
    → t.code ≡ vout_mode_code → t.bytes ≡ value ∷ [] → P p
    → P (with_modes p (set_where (sets_all device p) p.modes p.page value))) where
  choose : (b : Bool) (p q : PagingData) → (b ≡ true → P p) → P q → P (cond b p q)
  choose true p q here there = here refl
  choose false p q here there = there

  module _ (t : RegisterTold) (so : Q t) (p : PagingData) (is : P p) (here : t.addr ≡ device.address) where
    of_value : (value : ℕ) → t.bytes ≡ value ∷ [] → P (after_value device t.code value p)
    of_value value bytes =
        choose (nat_eq t.code page_code) (record { page = value; modes = p.modes })
        (cond (nat_eq t.code vout_mode_code) (with_mode device value p) p)
        (λ code. page_told t p value so here (eqb-true t.code page_code code) bytes is)
        (choose (nat_eq t.code vout_mode_code) (with_mode device value p) p
        (λ code. subst P (sym (mode_set device value p))
        (mode_told t p value so here (eqb-true t.code vout_mode_code code) bytes is))
        is)

    of_bytes : (bytes : List ℕ) → t.bytes ≡ bytes → P (after_bytes device t.code bytes p)
    of_bytes [] same = is
    of_bytes (value ∷ []) same = of_value value same
    of_bytes (a ∷ b ∷ bytes) same = is

  pub kept_through : (ts : List RegisterTold) (p : PagingData) → AllByRecursion Q ts → P p
      → P (fold (after_told device) p ts)
  kept_through [] p so is = is
  kept_through (t ∷ ts) p so is =
      kept_through ts (after_told device p t) so.1
      (choose (nat_eq t.addr device.address) (after_bytes device t.code t.bytes p) p
      (λ same. of_bytes t so.0 p is (eqb-true t.addr device.address same) t.bytes refl) is)

module _ (device : DeviceParts) (ts : List RegisterTold) (p : PagingData) where
  own_page : AllByRecursion (IsOwnPageTold device) ts → IsOwnPage device p.page
      → IsOwnPage device (fold (after_told device) p ts).page
  own_page = kept_through device (IsOwnPageTold device) (λ q. IsOwnPage device q.page)
      (λ t q value so here code bytes is. so here code value bytes)
      (λ t q value so here code bytes is. is)
      ts p

  own_count : AllByRecursion (IsOwnPageTold device) ts → length p.modes ≡ device.pages
      → length (fold (after_told device) p ts).modes ≡ device.pages
  own_count = kept_through device (IsOwnPageTold device) (λ q. length q.modes ≡ device.pages)
      (λ t q value so here code bytes is. is)
      (λ t q value so here code bytes is. same_count (sets_all device q) q.modes q.page value ∙ is)
      ts p

-- ---- the rest of a capture

-- what each of both is told
all_parts : (device : DeviceParts) (xs ys : List RegisterTold) → AllByRecursion (IsOwnPageTold device) (xs ++ ys)
    → AllByRecursion (IsOwnPageTold device) xs × AllByRecursion (IsOwnPageTold device) ys
all_parts device [] ys all = (tt, all)
all_parts device (x ∷ xs) ys all =
    let more = all_parts device xs ys all.1 in ((all.0, more.0), more.1)

module _ (device : DeviceParts) where
  has_own : (p : PagingData) → length p.modes ≡ device.pages → IsOwnPage device p.page → HasOwnPage p
  has_own p long (inl within) = inl (omega (arith, long, within))
  has_own p long (inr all) = inr all

  -- PAGE is a page of the device, or all, at each line that was dropped
  drops_own : (past : List PastData) (p : PagingData)
      → AllByRecursion (IsOwnPageTold device) (flat_map told (transactions_of past)) → IsOwnPage device p.page
      → length p.modes ≡ device.pages
      → DropsOnOwnPage device p past
  drops_own [] p so own long = tt
  drops_own (Said t ∷ past) p so own long =
      let parts = all_parts device (told t) (flat_map told (transactions_of past)) so in
      drops_own past (after_transaction device p t) parts.1 (own_page device (told t) p parts.0 own)
      (own_count device (told t) p parts.0 long)
  drops_own (Dropped ∷ past) p so own long = (has_own p long own, drops_own past p so own long)

module _ (device : DeviceParts) (is : IsDevice device) (before : List PastData)
    (so : AllByRecursion (IsOwnPageTold device) (flat_map told (transactions_of before))) where
  abbrev here : PagingData
  here = paging device (transactions_of before)

  first_page_is : IsOwnPage device 0
  first_page_is = inl (omega (arith, is.some_page))

  page_here : IsOwnPage device here.page
  page_here = subst (λ (q : PagingData). IsOwnPage device q.page)
      (fold_told device (transactions_of before) (first_paging device))
      (own_page device (flat_map told (transactions_of before)) (first_paging device) so first_page_is)

  count_here : length here.modes ≡ device.pages
  count_here = subst (λ (q : PagingData). length q.modes ≡ device.pages)
      (fold_told device (transactions_of before) (first_paging device))
      (own_count device (flat_map told (transactions_of before)) (first_paging device) so is.mode_of_each)

  -- all is known before the cut
  all_here : known_by AllKnown device before ≡ full here
  all_here = all_is_known device before (drops_own device before (first_paging device) so first_page_is is.mode_of_each)

  is_full : (k : KnownPaging) → Under k (full here) → Under k (known_by AllKnown device before)
  is_full k under = subst (Under k) (sym all_here) under

  own_by_count : IsOwnPage device here.page → IsOwn (Some here.page) (length (map Some here.modes))
  own_by_count (inl within) = inl (omega (arith, within, count_here, length-map here.modes Some))
  own_by_count (inr all) = inr all

  own_here : IsOwn (Some here.page) (length (map Some here.modes))
  own_here = own_by_count page_here

  begins_late : Under (first_known Late device) (known_by AllKnown device before)
  begins_late = is_full (first_known Late device) (record {
    page = own_here;
    modes = within_none device.pages (map Some here.modes) (length-map here.modes Some ∙ count_here);
  })

  begins_fixed : here.modes ≡ device.modes → Under (first_known LateFixedMode device) (known_by AllKnown device before)
  begins_fixed same = is_full (first_known LateFixedMode device) (record {
    page = own_here;
    modes = subst (λ (modes : List ℕ). Within (map Some device.modes) (map Some modes)) (sym same)
        (within_itself (map Some device.modes));
  })

-- what is known in the whole is known in what comes after the cut
after_cut : (device : DeviceParts) (before piece : List PastData)
    → known_by AllKnown device (before ++ piece) ≡ fold (learn_past AllKnown device) (known_by AllKnown device before) piece
after_cut device before piece = fold-append (learn_past AllKnown device) (first_known AllKnown device) before piece

from_all : (device : DeviceParts) (before piece : List PastData) (k : KnownPaging)
    → Under k (fold (learn_past AllKnown device) (known_by AllKnown device before) piece)
    → StaysKnown (known_mode k) (known_mode (known_by AllKnown device (before ++ piece)))
from_all device before piece k is = read_of k (known_by AllKnown device (before ++ piece))
    (subst (Under k) (sym (after_cut device before piece)) is)

mode_of_piece : (device : DeviceParts) → IsDevice device → (before piece : List PastData) (start : Start)
    → CanBeCutBehind start device before
    → StaysKnown (known_mode (known_by start device piece)) (known_mode (known_by AllKnown device (before ++ piece)))
mode_of_piece device is before piece AllKnown so =
    same_stays (known_mode (known_by AllKnown device piece)) (known_mode (known_by AllKnown device (before ++ piece)))
    (ap (λ (front : List PastData). known_mode (known_by AllKnown device (front ++ piece))) so)
mode_of_piece device is before piece Late so = from_all device before piece (known_by Late device piece)
    (after device Late AllKnown late_all piece (first_known Late device) (known_by AllKnown device before)
    (begins_late device is before so))
mode_of_piece device is before piece LateFixedMode so = from_all device before piece (known_by LateFixedMode device piece)
    (after device LateFixedMode AllKnown fixed_all piece (first_known LateFixedMode device)
    (known_by AllKnown device before) (begins_fixed device is before so.0 so.1))

-- late, PAGE is known only where the piece tells it
page_of_piece : (device : DeviceParts) (before piece : List PastData) (start : Start) (n : ℕ)
    → start ≢ AllKnown → (known_by start device piece).page ≡ Some n
    → (known_by AllKnown device (before ++ piece)).page ≡ Some n
page_of_piece device before piece AllKnown n late is = absurd (late refl)
page_of_piece device before piece Late n late is = ap (λ (k : KnownPaging). k.page) (after_cut device before piece)
    ∙ page_after device Late AllKnown late_all late piece (first_known Late device) (known_by AllKnown device before)
    (λ page told. absurd (none-some page told)) n is
page_of_piece device before piece LateFixedMode n late is =
    ap (λ (k : KnownPaging). k.page) (after_cut device before piece)
    ∙ page_after device LateFixedMode AllKnown fixed_all late piece (first_known LateFixedMode device)
    (known_by AllKnown device before)
    (λ page told. absurd (none-some page told)) n is

-- ---- .. of the device with an address

mode_found : (start : Start) (before piece : List PastData) (found : Option DeviceParts)
    → ((device : DeviceParts) → found ≡ Some device → IsDevice device)
    → ((device : DeviceParts) → found ≡ Some device → CanBeCutAfter start device before)
    → StaysKnown (mode_of (λ device. known start device piece) found)
    (mode_of (λ device. known AllKnown device (before ++ piece)) found)
mode_found start before piece None accepted so = refl
mode_found start before piece (Some device) accepted so =
    subst (λ (all : List PastData). StaysKnown (known_mode (known start device piece)) (known_mode (known_by AllKnown device all)))
    (sym (map-append (one_taken device) before piece))
    (mode_of_piece device (accepted device refl) (as_taken device before) (as_taken device piece) start (so device refl))

pub mode_at : (profile : List DeviceParts) (start : Start) (before piece : List PastData) (addr : ℕ)
    → ((device : DeviceParts) → device_with addr profile ≡ Some device → IsDevice device)
    → ((device : DeviceParts) → device_with addr profile ≡ Some device → CanBeCutAfter start device before)
    → StaysKnown (mode start profile piece addr) (mode AllKnown profile (before ++ piece) addr)
mode_at profile start before piece addr accepted so = mode_found start before piece (device_with addr profile) accepted so

page_found : (start : Start) (before piece : List PastData) (n : ℕ) (found : Option DeviceParts)
    → start ≢ AllKnown
    → page_of (λ device. known start device piece) found ≡ Some n
    → page_of (λ device. known AllKnown device (before ++ piece)) found ≡ Some n
page_found start before piece n None late is = absurd (none-some n is)
page_found start before piece n (Some device) late is =
    ap (λ (all : List PastData). (known_by AllKnown device all).page) (map-append (one_taken device) before piece)
    ∙ page_of_piece device (as_taken device before) (as_taken device piece) start n late is

pub page_at : (profile : List DeviceParts) (start : Start) (before piece : List PastData) (addr n : ℕ)
    → start ≢ AllKnown
    → page start profile piece addr ≡ Some n
    → page AllKnown profile (before ++ piece) addr ≡ Some n
page_at profile start before piece addr n late is = page_found start before piece n (device_with addr profile) late is
