-- What it means that PAGE or VOUT_MODE is known: it is the same whatever they were where the
-- capture begins, and whatever a write, or a line that was dropped, may have set unseen.
use Rattle.std.specs.Prelude.{◌≡◌, ◌⊎◌, ℕ, ◌<◌, ⊤, Bool, true, false, Option, Some, None, List, [], ◌∷◌, flat_map}
use Rattle.std.specs.Prelude.{length, map}
use Rattle.std.specs.List.{AllByRecursion}
use Rattle.pmb_command.specs.Parts.{DeviceParts}
use Rattle.pmb_transaction.specs.Transaction.{TransactionData, Write, Read, Call, Refused, Alert, NoAlert}
use Rattle.pmb_note.specs.Paging.{PagingData, RegisterTold, after_told, after_transaction, all_pages, first_paging}
use Rattle.pmb_note.specs.Paging.{page_code, paging, selected_mode, told, told_by_part}
use Rattle.pmb_unknown_start.specs.declared.mode.KnownMode.{KnownMode}
use Rattle.pmb_unknown_start.specs.declared.mode.KnownMode.TheVariants.{Known, Unknown, NoPage}
use Rattle.pmb_unknown_start.specs.declared.start.Start.{Start}
use Rattle.pmb_unknown_start.specs.declared.start.Start.TheVariants.{AllKnown, Late, LateFixedMode}
use Rattle.pmb_unknown_start.specs.Past.{PastData, Said, Dropped, transactions_of}
use Rattle.pmb_unknown_start.specs.Restores.{untells}
use Rattle.pmb_unknown_start.specs.Taken.{as_taken}
use Rattle.pmb_unknown_start.specs.Known.{told_by_read}

-- a PAGE that selects a page of the device, or all
abbrev pub IsOwnPage : DeviceParts → ℕ → Type 0
IsOwnPage device page = (page < device.pages) ⊎ (page ≡ all_pages)

-- .. by the VOUT_MODEs, one for each page
abbrev pub HasOwnPage : PagingData → Type 0
HasOwnPage p = (p.page < length p.modes) ⊎ (p.page ≡ all_pages)

-- What PAGE and VOUT_MODE of a device may be where the capture begins: PAGE selects one of its
-- pages or all, and each page has any VOUT_MODE, or the one that the profile gives it where that is
-- fixed.
abbrev pub CanBegin : Start → DeviceParts → PagingData → Type 0
CanBegin AllKnown device p = p ≡ first_paging device
CanBegin Late device p = IsOwnPage device p.page × (length p.modes ≡ device.pages)
CanBegin LateFixedMode device p = IsOwnPage device p.page × (length p.modes ≡ device.pages) × (p.modes ≡ device.modes)

-- What PAGE and VOUT_MODE may be afterwards: where VOUT_MODE is untold, any VOUT_MODE on each page;
-- else those that are told.
abbrev pub MayHave : Bool → PagingData → PagingData → Type 0
MayHave true p q = (q.page ≡ p.page) × (length q.modes ≡ length p.modes)
MayHave false p q = q ≡ p

-- .. after what was written, one register after the other
abbrev pub CanFollowWrites : DeviceParts → PagingData → List RegisterTold → PagingData → Type 0
CanFollowWrites device p [] q = q ≡ p
CanFollowWrites device p (t ∷ ts) q = (r : PagingData) × MayHave (untells device.address t) (after_told device p t) r
    × CanFollowWrites device r ts q

-- .. after a transaction
abbrev pub CanFollow : DeviceParts → PagingData → TransactionData → PagingData → Type 0
CanFollow device p (Write parts) q = CanFollowWrites device p (map told_by_part parts) q
CanFollow device p (Read t) q = q ≡ after_told device p (told_by_read t)
CanFollow device p (Call t) q = q ≡ p
CanFollow device p (Refused t) q = CanFollowWrites device p (map told_by_part t.parts) q
CanFollow device p (Alert t) q = q ≡ p
CanFollow device p NoAlert q = q ≡ p

-- .. and after a line that was dropped: late PAGE selects any of its pages, or all, and VOUT_MODE is any
-- on each page, but for one that is fixed. From the first start both go on, but for a PAGE that the device
-- lacks: then it selects any of its pages, or all.
abbrev pub CanFollowDrop : Start → DeviceParts → PagingData → PagingData → Type 0
CanFollowDrop AllKnown device p q = HasOwnPage q × (q.modes ≡ p.modes) × (HasOwnPage p → q.page ≡ p.page)
CanFollowDrop Late device p q = IsOwnPage device q.page × (length q.modes ≡ length p.modes)
CanFollowDrop LateFixedMode device p q = IsOwnPage device q.page × (q.modes ≡ p.modes)

-- What PAGE and VOUT_MODE of a device may be after a transaction or a line that was dropped: late, a
-- write may have set VOUT_MODE unseen, and from another start its last value goes on.
abbrev pub CanFollowPast : Start → DeviceParts → PagingData → PastData → PagingData → Type 0
CanFollowPast AllKnown device p (Said t) q = q ≡ after_transaction device p t
CanFollowPast Late device p (Said t) q = CanFollow device p t q
CanFollowPast LateFixedMode device p (Said t) q = q ≡ after_transaction device p t
CanFollowPast start device p Dropped q = CanFollowDrop start device p q

-- .. and after all that went before
abbrev pub CanReach : Start → DeviceParts → PagingData → List PastData → PagingData → Type 0
CanReach start device p [] q = q ≡ p
CanReach start device p (x ∷ past) q = (r : PagingData) × CanFollowPast start device p x r × CanReach start device r past q

-- PAGE is certain to have a value after what went before
abbrev pub IsCertainPage : Start → DeviceParts → List PastData → ℕ → Type 0
IsCertainPage start device past page = (p q : PagingData) → CanBegin start device p → CanReach start device p past q
    → q.page ≡ page

-- the VOUT_MODE of the selected pages is certain to be one, or that there is none
abbrev pub IsCertainMode : Start → DeviceParts → List PastData → Option ℕ → Type 0
IsCertainMode start device past mode = (p q : PagingData) → CanBegin start device p → CanReach start device p past q
    → selected_mode q ≡ mode

-- what is known of a mode agrees with the one that is
abbrev pub AgreesWith : KnownMode → Option ℕ → Type 0
AgreesWith (Known known) mode = mode ≡ Some known
AgreesWith Unknown mode = ⊤
AgreesWith NoPage mode = mode ≡ None

-- .. and stays so by what more is known
abbrev pub StaysKnown : KnownMode → KnownMode → Type 0
StaysKnown (Known known) more = more ≡ Known known
StaysKnown Unknown more = ⊤
StaysKnown NoPage more = more ≡ NoPage

-- where all is known, a mode that there isn't is known not to be
abbrev pub known_as : Option ℕ → KnownMode
known_as None = NoPage
known_as (Some mode) = Known mode

-- ---- a capture that is cut

-- of what is told of a device, PAGE is a page that it has, or all
abbrev pub IsOwnPageTold : DeviceParts → RegisterTold → Type 0
IsOwnPageTold device t = t.addr ≡ device.address → t.code ≡ page_code → (page : ℕ) → t.bytes ≡ page ∷ []
    → IsOwnPage device page

-- each page of a device has the VOUT_MODE that the profile gives it, by what transactions told last
abbrev pub HasFirstModes : DeviceParts → List TransactionData → Type 0
HasFirstModes device ts = (paging device ts).modes ≡ device.modes

-- What a device may have taken before a cut, so that the rest is read as the start says: where all is known
-- nothing, and else PAGE was only ever written to, or read as, pages that the device has, or ffh, and each page
-- has the VOUT_MODE of the profile at the cut where that is fixed.
abbrev pub CanBeCutBehind : Start → DeviceParts → List PastData → Type 0
CanBeCutBehind AllKnown device before = before ≡ []
CanBeCutBehind Late device before = AllByRecursion (IsOwnPageTold device) (flat_map told (transactions_of before))
CanBeCutBehind LateFixedMode device before = AllByRecursion (IsOwnPageTold device) (flat_map told (transactions_of before))
    × HasFirstModes device (transactions_of before)

-- .. by what may stand there
abbrev pub CanBeCutAfter : Start → DeviceParts → List PastData → Type 0
CanBeCutAfter start device before = CanBeCutBehind start device (as_taken device before)

-- At each line that was dropped PAGE is a page of the device, or all, from PAGE and VOUT_MODE before all that is
-- said.
abbrev pub DropsOnOwnPage : DeviceParts → PagingData → List PastData → Type 0
DropsOnOwnPage device p [] = ⊤
DropsOnOwnPage device p (Said t ∷ past) = DropsOnOwnPage device (after_transaction device p t) past
DropsOnOwnPage device p (Dropped ∷ past) = HasOwnPage p × DropsOnOwnPage device p past
