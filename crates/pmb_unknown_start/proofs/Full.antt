-- Where all is known from the start, all stays known and is what the context keeps, if PAGE is a page of the
-- device, or all, at each line that was dropped. For the law
-- `all_that_is_known_is_the_context`. Each register that is told changes what is known as it
-- changes what is (Telling), and of known modes the same mode is read.
use Rattle.std.proofs.Common.{◌≡◌, ◌⊎◌, ℕ, zero, suc, ◌<◌, cond, slice_set, Bool, true, false, not, ◌||◌, ◌&&◌, Option}
use Rattle.std.proofs.Common.{Some, None, List, [], ◌∷◌, length, map, nat_eq, nat_lt, replicate, slice_get, inl, inr}
use Rattle.std.proofs.Common.{refl, sym, ap, ◌∙◌, arith}
use Rattle.std.specs.List.{list_all}
use Rattle.std.specs.Option.{is_some, option_and_then, option_map}
use Rattle.std.proofs.lemmas.Bool.{eq-eqb, lt-ltb, or_right}
use Rattle.std.proofs.lemmas.List.{length-map, map-set}
use Rattle.pmb_command.specs.Parts.{DeviceParts, device_with}
use Rattle.pmb_note.specs.Paging.{PagingData, all_pages, common, first_paging, has_paged_mode, paging, selected_mode}
use Rattle.pmb_note.specs.Paging.{mode as mode_of_whole, page as page_of_whole}
use Rattle.pmb_unknown_start.specs.declared.mode.KnownMode.TheVariants.{Known, Unknown, NoPage}
use Rattle.pmb_unknown_start.specs.declared.start.Start.TheVariants.{AllKnown}
use Rattle.pmb_unknown_start.specs.Past.{PastData, transactions_of}
use Rattle.pmb_unknown_start.specs.Known.{KnownPaging, first_known, forget_paging, known, known_by, known_mode, learn_mode, may_be, mode}
use Rattle.pmb_unknown_start.specs.Known.{mode_of, mode_on_page, modes_after, page, page_of, shared_by, shared_mode}
use Rattle.pmb_unknown_start.specs.Certain.{DropsOnOwnPage, known_as}
use Rattle.pmb_unknown_start.proofs.NoOthers.{none_other}
use Rattle.pmb_unknown_start.proofs.Telling.{along, set_where}

-- all is known
abbrev pub full : PagingData → KnownPaging
full p = record { page = Some p.page; modes = map Some p.modes }

map_all : (n value : ℕ) → map Some (replicate n value) ≡ replicate n (Some value)
map_all zero value = refl
map_all (suc n) value = ap (λ (vs : List (Option ℕ)). Some value ∷ vs) (map_all n value)

everywhere : (ns : List ℕ) (value : ℕ) → replicate (length (map Some ns)) (Some value)
    ≡ map Some (replicate (length ns) value)
everywhere ns value = ap (λ (n : ℕ). replicate n (Some value)) (length-map ns Some) ∙ sym (map_all (length ns) value)

on_known : (b : Bool) (ns : List ℕ) (i value : ℕ)
    → cond b (replicate (length (map Some ns)) (Some value)) (slice_set (map Some ns) i (Some value))
    ≡ map Some (set_where b ns i value)
on_known true ns i value = everywhere ns value
on_known false ns i value = sym (map-set Some ns i value)

modes_set : (paged : Bool) (p : PagingData) (value : ℕ)
    → modes_after value (cond paged (Some p.page) (Some all_pages)) (map Some p.modes)
    ≡ map Some (set_where (not paged || nat_eq p.page all_pages) p.modes p.page value)
modes_set false p value = everywhere p.modes value
modes_set true p value = on_known (nat_eq p.page all_pages) p.modes p.page value

abbrev IsFull : KnownPaging → PagingData → Type 0
IsFull k p = k ≡ full p

-- PAGE stays where a line was dropped
own_stays : (ns : List ℕ) (page : ℕ) → (page < length ns) ⊎ (page ≡ all_pages)
    → (nat_lt page (length (map Some ns)) || nat_eq page all_pages) ≡ true
own_stays ns page (inl less) = ap (λ (b : Bool). b || nat_eq page all_pages)
    (lt-ltb page (length (map Some ns)) (omega (arith, less, length-map ns Some)))
own_stays ns page (inr all) = or_right (nat_lt page (length (map Some ns)))
    (nat_eq page all_pages) (eq-eqb page all_pages all)

-- what is known of PAGE and VOUT_MODE after what went before, from all that they are
pub all_is_known : (device : DeviceParts) (past : List PastData) → DropsOnOwnPage device (first_paging device) past
    → known_by AllKnown device past ≡ full (paging device (transactions_of past))
all_is_known device past drops = along device IsFull
    (λ k p value is. ap (λ (l : KnownPaging). record { page = Some value; modes = l.modes }) is)
    (λ k p value is. ap (learn_mode device value) is
    ∙ ap (λ (modes : List (Option ℕ)). record { page = Some p.page; modes = modes })
    (modes_set (has_paged_mode device) p value))
    AllKnown (λ k p is. is)
    (λ k p own is. ap (forget_paging AllKnown) is
    ∙ ap (λ (b : Bool). record { page = cond b (Some p.page) None; modes = map Some p.modes })
    (own_stays p.modes p.page own))
    past (first_known AllKnown device) (first_paging device) drops refl

-- .. of a device that has no other addresses
own_is_known : (device : DeviceParts) (past : List PastData) → device.also ≡ []
    → DropsOnOwnPage device (first_paging device) past
    → known AllKnown device past ≡ full (paging device (transactions_of past))
own_is_known device past none drops =
    ap (λ (all : List PastData). known_by AllKnown device all) (none_other device none past)
    ∙ all_is_known device past drops

-- ---- what is read of it

each_some : (ns : List ℕ) → list_all is_some (map Some ns) ≡ true
each_some [] = refl
each_some (n ∷ ns) = each_some ns

may_be_is : (mode : ℕ) (ns : List ℕ) → list_all (may_be mode) (map Some ns) ≡ list_all (nat_eq mode) ns
may_be_is mode [] = refl
may_be_is mode (n ∷ ns) = ap (λ (b : Bool). nat_eq mode n && b) (may_be_is mode ns)

shared_if : (b : Bool) (n : ℕ) → cond (not b) NoPage (cond true (Known n) Unknown) ≡ known_as (cond b (Some n) None)
shared_if true n = refl
shared_if false n = refl

shared_is : (ns : List ℕ) → shared_mode (map Some ns) ≡ known_as (common ns)
shared_is [] = refl
shared_is (n ∷ ns) =
    ap (λ (complete : Bool). shared_by (map Some (n ∷ ns)) complete (Some n)) (each_some ns)
    ∙ ap (λ (b : Bool). cond (not b) NoPage (cond true (Known n) Unknown))
    (ap (λ (b : Bool). b && list_all (may_be n) (map Some ns)) (eq-eqb n n refl) ∙ may_be_is n ns)
    ∙ shared_if (list_all (nat_eq n) ns) n

on_page_is : (ns : List ℕ) (i : ℕ) → mode_on_page (slice_get (map Some ns) i) ≡ known_as (slice_get ns i)
on_page_is [] i = refl
on_page_is (n ∷ ns) zero = refl
on_page_is (n ∷ ns) (suc i) = on_page_is ns i

selected : (b : Bool) (ns : List ℕ) (i : ℕ)
    → cond b (shared_mode (map Some ns)) (mode_on_page (slice_get (map Some ns) i))
    ≡ known_as (cond b (common ns) (slice_get ns i))
selected true ns i = shared_is ns
selected false ns i = on_page_is ns i

mode_found : (past : List PastData) (found : Option DeviceParts)
    → ((device : DeviceParts) → found ≡ Some device
    → (device.also ≡ []) × DropsOnOwnPage device (first_paging device) past)
    → mode_of (λ device. known AllKnown device past) found
    ≡ known_as (option_and_then (λ device. selected_mode (paging device (transactions_of past))) found)
mode_found past None drops = refl
mode_found past (Some device) drops =
    let p : PagingData = paging device (transactions_of past) in
    ap known_mode (own_is_known device past (drops device refl).0 (drops device refl).1) ∙ selected (nat_eq p.page all_pages) p.modes p.page

pub mode_is_known : (profile : List DeviceParts) (past : List PastData) (addr : ℕ)
    → ((device : DeviceParts) → device_with addr profile ≡ Some device
    → (device.also ≡ []) × DropsOnOwnPage device (first_paging device) past)
    → mode AllKnown profile past addr ≡ known_as (mode_of_whole profile (transactions_of past) addr)
mode_is_known profile past addr drops = mode_found past (device_with addr profile) drops

page_found : (past : List PastData) (found : Option DeviceParts)
    → ((device : DeviceParts) → found ≡ Some device
    → (device.also ≡ []) × DropsOnOwnPage device (first_paging device) past)
    → page_of (λ device. known AllKnown device past) found
    ≡ option_map (λ device. (paging device (transactions_of past)).page) found
page_found past None drops = refl
page_found past (Some device) drops =
    ap (λ (k : KnownPaging). k.page) (own_is_known device past (drops device refl).0 (drops device refl).1)

pub page_is_known : (profile : List DeviceParts) (past : List PastData) (addr : ℕ)
    → ((device : DeviceParts) → device_with addr profile ≡ Some device
    → (device.also ≡ []) × DropsOnOwnPage device (first_paging device) past)
    → page AllKnown profile past addr ≡ page_of_whole profile (transactions_of past) addr
page_is_known profile past addr drops = page_found past (device_with addr profile) drops
