-- What is known in a piece of a capture after lines that were dropped is so on the bus, whatever these lines
-- said: of PAGE and VOUT_MODE since it may be reached, and of PHASE since the last one was told after them. For
-- the law `damaged_pieces_say_no_more`. What was told on the bus can be reached from what the piece has
-- (`reach`), and the piece has its end (`told_end`). What the piece tells after these lines the bus has too
-- (`told_on`).
use Rattle.std.proofs.Common.{◌≡◌, ℕ, Bool, true, false, cond, Option, Some, None, List, [], ◌∷◌, ◌++◌, flat_map, fold, map}
use Rattle.std.proofs.Common.{refl, sym, ap, ◌∙◌, subst, append_assoc, append-nil}
use Rattle.std.specs.Option.{is_some, option_and_then, option_or}
use Rattle.std.proofs.lemmas.Grind.{flat_map-append}
use Rattle.std.proofs.lemmas.List.{map-append}
use Rattle.std.proofs.lemmas.List.Sums.{fold-append}
use Rattle.pmb_command.specs.Parts.{DeviceParts, device_with}
use Rattle.pmb_note.specs.Paging.{PagingData, RegisterTold, after_told, after_transaction, first_paging, paging}
use Rattle.pmb_note.specs.Paging.{told, told_by_part}
use Rattle.pmb_transaction.specs.Transaction.{TransactionData, Write, Read, Call, Refused, Alert, NoAlert}
use Rattle.pmb_unknown_start.specs.Certain.{CanBegin, CanFollow, CanFollowDrop, CanFollowPast, CanFollowWrites}
use Rattle.pmb_unknown_start.specs.Certain.{CanReach, MayHave, StaysKnown}
use Rattle.pmb_unknown_start.specs.Known.{known, known_mode, mode, mode_of, page, page_of}
use Rattle.pmb_unknown_start.specs.Past.{PastData, Said, Dropped}
use Rattle.pmb_unknown_start.specs.Phase.{last_phase, phase, phase_of, told_phase, told_since, told_then}
use Rattle.pmb_unknown_start.specs.Restores.{untells}
use Rattle.pmb_unknown_start.specs.declared.start.Start.{Start}
use Rattle.pmb_unknown_start.specs.declared.start.Start.TheVariants.{AllKnown, Late, LateFixedMode}
use Rattle.pmb_unknown_start.specs.Taken.{NoneCrosses, as_taken, one_taken, taken}
use Rattle.pmb_unknown_start.proofs.Reached.{taken_with}
use Rattle.pmb_json.specs.Mended.{CanBeMended, IsMended}

-- ---- PAGE and VOUT_MODE

module _ (device : DeviceParts) where
  as_it_is : (b : Bool) (p : PagingData) → MayHave b p p
  as_it_is true p = (refl, refl)
  as_it_is false p = refl

  writes_follow : (all : List RegisterTold) (p : PagingData)
      → CanFollowWrites device p all (fold (after_told device) p all)
  writes_follow [] p = refl
  writes_follow (t ∷ all) p = (
    after_told device p t,
    as_it_is (untells device.address t) (after_told device p t),
    writes_follow all (after_told device p t),
  )

  one_follows : (t : TransactionData) (p : PagingData) → CanFollow device p t (after_transaction device p t)
  one_follows (Write parts) p = writes_follow (map told_by_part parts) p
  one_follows (Read t) p = refl
  one_follows (Call t) p = refl
  one_follows (Refused t) p = writes_follow (map told_by_part t.parts) p
  one_follows (Alert t) p = refl
  one_follows NoAlert p = refl

  said_follows : (start : Start) (t : TransactionData) (p : PagingData)
      → CanFollowPast start device p (Said t) (after_transaction device p t)
  said_follows AllKnown t p = refl
  said_follows Late t p = one_follows t p
  said_follows LateFixedMode t p = refl

  drop_follows : (start : Start) (p q : PagingData) → CanFollowDrop start device p q
      → CanFollowPast start device p Dropped q
  drop_follows AllKnown p q is = is
  drop_follows Late p q is = is
  drop_follows LateFixedMode p q is = is

  one_more : (before : List TransactionData) (t : TransactionData)
      → paging device (before ++ t ∷ []) ≡ after_transaction device (paging device before) t
  one_more before t = fold-append (after_transaction device) (first_paging device) before (t ∷ [])

  pub reach : (start : Start) (before : List TransactionData) (past : List PastData) (ts : List TransactionData)
      → IsMended start device before past ts
      → CanReach start device (paging device before) past (paging device (before ++ ts))
  reach start before [] ts is =
      ap (λ (l : List TransactionData). paging device (before ++ l)) is ∙ ap (paging device) (append-nil before)
  reach start before (Said t ∷ past) ts is = (
    paging device (before ++ t ∷ []),
    subst (λ (r : PagingData). CanFollowPast start device (paging device before) (Said t) r) (sym (one_more before t))
        (said_follows start t (paging device before)),
    subst (λ (l : List TransactionData). CanReach start device (paging device (before ++ t ∷ [])) past (paging device l))
        (append_assoc before (t ∷ []) is.0 ∙ ap (λ (l : List TransactionData). before ++ l) (sym is.1))
        (reach start (before ++ t ∷ []) past is.0 is.2),
  )
  reach start before (Dropped ∷ past) ts is = (
    paging device (before ++ is.0),
    drop_follows start (paging device before) (paging device (before ++ is.0)) is.3,
    subst (λ (l : List TransactionData). CanReach start device (paging device (before ++ is.0)) past (paging device l))
        (append_assoc before is.0 is.1 ∙ ap (λ (l : List TransactionData). before ++ l) (sym is.2))
        (reach start (before ++ is.0) past is.1 is.4),
  )

-- what is told on, where more was told before
told_on : (front all : List RegisterTold) (more : List PastData)
    → (before : List RegisterTold) × (fold told_then (front ++ all) more ≡ before ++ fold told_then all more)
told_on front all [] = (front, refl)
told_on front all (Said t ∷ more) =
    let on = told_on front (all ++ told t) more in (
      on.0,
      ap (λ (l : List RegisterTold). fold told_then l more) (append_assoc front all (told t)) ∙ on.1,
    )
told_on front all (Dropped ∷ more) = ([], refl)

-- what is told where nothing was dropped
told_all : (all : List RegisterTold) (ts : List TransactionData)
    → fold told_then all (map Said ts) ≡ all ++ flat_map told ts
told_all all [] = sym (append-nil all)
told_all all (t ∷ ts) = told_all (all ++ told t) ts ∙ append_assoc all (told t) (flat_map told ts)

-- the piece has the end of what was told on the bus
told_end : (start : Start) (device : DeviceParts) (before : List TransactionData) (past : List PastData)
    (ts : List TransactionData) (all : List RegisterTold) → IsMended start device before past ts
    → (front : List RegisterTold) × (all ++ flat_map told ts ≡ front ++ fold told_then all past)
told_end start device before [] ts all is =
    ([], ap (λ (l : List TransactionData). all ++ flat_map told l) is ∙ append-nil all)
told_end start device before (Said t ∷ past) ts all is =
    let more = told_end start device (before ++ t ∷ []) past is.0 (all ++ told t) is.2 in (
      more.0,
      ap (λ (l : List TransactionData). all ++ flat_map told l) is.1
          ∙ sym (append_assoc all (told t) (flat_map told is.0))
          ∙ more.1,
    )
told_end start device before (Dropped ∷ past) ts all is =
    let more = told_end start device (before ++ is.0) past is.1 [] is.4 in
    let lost = flat_map told is.0 in (
      (all ++ lost) ++ more.0,
      ap (λ (l : List TransactionData). all ++ flat_map told l) is.2
          ∙ ap (λ (l : List RegisterTold). all ++ l) (flat_map-append told is.0 is.1)
          ∙ sym (append_assoc all lost (flat_map told is.1))
          ∙ ap (λ (l : List RegisterTold). (all ++ lost) ++ l) more.1
          ∙ sym (append_assoc (all ++ lost) more.0 (fold told_then [] past)),
    )

last_of_both : (addr n : ℕ) (front all : List RegisterTold) → last_phase addr all ≡ Some n
    → last_phase addr (front ++ all) ≡ Some n
last_of_both addr n [] all is = is
last_of_both addr n (t ∷ front) all is =
    ap (λ (o : Option ℕ). option_or o (told_phase addr t)) (last_of_both addr n front all is)

-- ---- the device with an address

-- .. whose PHASE was told in the piece, in lines that are mended or after them
module _ (start : Start) (before : List TransactionData) (past : List PastData) (ts : List TransactionData)
    (more : List PastData) where
  abbrev whole : List PastData
  whole = map Said (before ++ ts) ++ more

  last_stays : (device : DeviceParts) → IsMended start device before past ts → (addr n : ℕ)
      → last_phase addr (told_since (past ++ more)) ≡ Some n → last_phase addr (told_since whole) ≡ Some n
  last_stays device is addr n last =
      let end = told_end start device before past ts [] is in
      let front = flat_map told before ++ end.0 in
      let on = told_on front (told_since past) more in
      ap (last_phase addr)
      (fold-append told_then [] (map Said (before ++ ts)) more
      ∙ ap (λ (l : List RegisterTold). fold told_then l more)
      (told_all [] (before ++ ts) ∙ flat_map-append told before ts
      ∙ ap (λ (l : List RegisterTold). flat_map told before ++ l) end.1
      ∙ sym (append_assoc (flat_map told before) end.0 (told_since past)))
      ∙ on.1)
      ∙ last_of_both addr n on.0 (fold told_then (told_since past) more)
      (ap (last_phase addr) (sym (fold-append told_then [] past more)) ∙ last)

  phase_if : (has : Bool) (a b : Option ℕ) (n : ℕ) → (a ≡ Some n → b ≡ Some n) → cond has a None ≡ Some n
      → cond has b None ≡ Some n
  phase_if true a b n same is = same is
  phase_if false a b n same is = is

-- what the device took of the bus: of what stood before, of what is mended, and of what came after that
all_taken : (device : DeviceParts) (before ts : List TransactionData) (more : List PastData)
    → NoneCrosses device (before ++ ts) → as_taken device (map Said (before ++ ts) ++ more)
    ≡ map Said (map (taken device) before ++ map (taken device) ts) ++ as_taken device more
all_taken device before ts more none =
    taken_with device (before ++ ts) more none
    ∙ ap (λ (l : List TransactionData). map Said l ++ as_taken device more) (map-append (taken device) before ts)

module _ (start : Start) (before : List TransactionData) (past : List PastData) (ts : List TransactionData)
    (more : List PastData) where
  abbrev on_bus : List PastData
  on_bus = map Said (before ++ ts) ++ more

  -- by what a device took
  abbrev IsMendedOf : DeviceParts → Type 0
  IsMendedOf device = IsMended start device (map (taken device) before) (as_taken device past) (map (taken device) ts)

  phase_found : (addr n : ℕ) (found : Option DeviceParts)
      → ((device : DeviceParts) → found ≡ Some device → IsMendedOf device × NoneCrosses device (before ++ ts))
      → option_and_then (phase_of addr (past ++ more)) found ≡ Some n
      → option_and_then (phase_of addr on_bus) found ≡ Some n
  phase_found addr n None mended is = is
  phase_found addr n (Some device) mended is =
      phase_if start (map (taken device) before) (as_taken device past) (map (taken device) ts) (as_taken device more)
      (is_some device.phases) (last_phase addr (told_since (as_taken device (past ++ more))))
      (last_phase addr (told_since (as_taken device on_bus))) n
      (λ last. ap (λ (l : List PastData). last_phase addr (told_since l)) (all_taken device before ts more (mended device refl).1)
      ∙ last_stays start (map (taken device) before) (as_taken device past) (map (taken device) ts)
      (as_taken device more) device (mended device refl).0 addr n
      (ap (λ (l : List PastData). last_phase addr (told_since l)) (sym (map-append (one_taken device) past more))
      ∙ last))
      is

  pub phase_mended : (profile : List DeviceParts) → CanBeMended start profile before past ts → (addr n : ℕ)
      → phase profile (past ++ more) addr ≡ Some n → phase profile on_bus addr ≡ Some n
  phase_mended profile can addr n is =
      phase_found addr n (device_with addr profile) (λ device found. ((can addr device found).1, (can addr device found).2)) is

  -- .. and PAGE and VOUT_MODE, by the law `what_may_be_reached_stays_known`
  abbrev ReachedOf : DeviceParts → Type 0
  ReachedOf device = CanReach start device (paging device (map (taken device) before)) (as_taken device past)
      (paging device (map (taken device) (before ++ ts)))

  reach_of : (device : DeviceParts) → IsMendedOf device → ReachedOf device
  reach_of device is =
      subst (λ (l : List TransactionData). CanReach start device (paging device (map (taken device) before))
      (as_taken device past) (paging device l))
      (sym (map-append (taken device) before ts))
      (reach device start (map (taken device) before) (as_taken device past) (map (taken device) ts) is)

  module _
      (modes_stay : (device : DeviceParts) → CanBegin start device (paging device (map (taken device) before))
      → ReachedOf device → NoneCrosses device (before ++ ts)
      → StaysKnown (known_mode (known start device (past ++ more))) (known_mode (known AllKnown device on_bus))) where
    mode_found : (found : Option DeviceParts)
        → ((device : DeviceParts) → found ≡ Some device
        → CanBegin start device (paging device (map (taken device) before)) × IsMendedOf device
        × NoneCrosses device (before ++ ts))
        → StaysKnown (mode_of (λ device. known start device (past ++ more)) found)
        (mode_of (λ device. known AllKnown device on_bus) found)
    mode_found None can = refl
    mode_found (Some device) can =
        modes_stay device (can device refl).0 (reach_of device (can device refl).1) (can device refl).2

    pub mode_mended : (profile : List DeviceParts) → CanBeMended start profile before past ts → (addr : ℕ)
        → StaysKnown (mode start profile (past ++ more) addr) (mode AllKnown profile on_bus addr)
    mode_mended profile can addr = mode_found (device_with addr profile) (can addr)

  module _
      (page_stays : (device : DeviceParts) (n : ℕ)
      → CanBegin start device (paging device (map (taken device) before)) → ReachedOf device
      → NoneCrosses device (before ++ ts)
      → (known start device (past ++ more)).page ≡ Some n → (known AllKnown device on_bus).page ≡ Some n) where
    page_found : (n : ℕ) (found : Option DeviceParts)
        → ((device : DeviceParts) → found ≡ Some device
        → CanBegin start device (paging device (map (taken device) before)) × IsMendedOf device
        × NoneCrosses device (before ++ ts))
        → page_of (λ device. known start device (past ++ more)) found ≡ Some n
        → page_of (λ device. known AllKnown device on_bus) found ≡ Some n
    page_found n None can is = is
    page_found n (Some device) can is =
        page_stays device n (can device refl).0 (reach_of device (can device refl).1) (can device refl).2 is

    pub page_mended : (profile : List DeviceParts) → CanBeMended start profile before past ts → (addr n : ℕ)
        → page start profile (past ++ more) addr ≡ Some n → page AllKnown profile on_bus addr ≡ Some n
    page_mended profile can addr n is = page_found n (device_with addr profile) (can addr) is
