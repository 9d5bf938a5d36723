-- What a `Late` keeps of a device is what is known of it after what it took: register by register, and over each line
-- that was dropped. For `Late` (`page`, `mode`, `phase`).
use Rattle.std.proofs.Common.{◌≡◌, ℕ, cond, Bool, true, false, ◌&&◌, ◌||◌, Option, Some, None, List, [], ◌∷◌, ◌++◌, fold}
use Rattle.std.proofs.Common.{map, nat_eq, refl, sym, ap, ◌∙◌, append-nil, append_assoc}
use Rattle.std.specs.Option.{is_some, option_and_then, option_map, option_or}
use Rattle.std.specs.Prelude.{slice_get}
use Rattle.std.proofs.lemmas.Bool.{eq-eqb, or_right}
use Rattle.pmb_command.specs.Bus.{IsBus}
use Rattle.pmb_command.specs.Parts.{DeviceParts, device_with}
use Rattle.pmb_transaction.proofs.Known.{device_is}
use Rattle.pmb_note.specs.Paging.{RegisterTold, told, told_by_part}
use Rattle.pmb_transaction.specs.Transaction.{PartData, TransactionData, Write, Read, Call, Refused, Alert, NoAlert}
use Rattle.pmb_unknown_start.specs.declared.mode.KnownMode.{KnownMode}
use Rattle.pmb_unknown_start.specs.declared.mode.KnownMode.TheVariants.{NoPage}
use Rattle.pmb_unknown_start.specs.declared.start.Start.{Start}
use Rattle.pmb_unknown_start.specs.Known.{KnownPaging, forget_modes, known, learn_bytes, learn_past}
use Rattle.pmb_unknown_start.specs.Known.{known_mode, learn_transaction, learn_written, mode, mode_of, page, page_of}
use Rattle.pmb_unknown_start.specs.Known.{told_by_read}
use Rattle.pmb_unknown_start.specs.Past.{PastData, Said, Dropped}
use Rattle.pmb_unknown_start.specs.Phase.{last_phase, only_byte, phase, phase_code, told_phase, told_since, told_then}
use Rattle.pmb_unknown_start.specs.Phase.{phase_of as phase_of_device}
use Rattle.pmb_unknown_start.specs.Restores.{untells_mode}
use Rattle.pmb_unknown_start.specs.Taken.{are_crossed, as_taken, one_taken, taken, taken_at, taken_part, takes, takes_other}
use Rattle.pmb_unknown_start.specs.machine.Keeping.{Keeps, KeptData, first_kept, kept, kept_after, kept_at, kept_bytes}
use Rattle.pmb_unknown_start.specs.machine.Keeping.{kept_dropped, kept_part, kept_past, kept_untold}
use Rattle.pmb_unknown_start.proofs.LastPhase.{last_append}

-- ---- what is told last, with one thing more

last_one : (addr : ℕ) (ts : List RegisterTold) (t : RegisterTold)
    → last_phase addr (ts ++ t ∷ []) ≡ option_or (told_phase addr t) (last_phase addr ts)
last_one addr ts t = last_append addr ts (t ∷ [])

-- ---- a register that was written

-- what was written, as the device takes it
abbrev as_own : DeviceParts → PartData → RegisterTold
as_own device part = told_by_part (taken_part device part)

or_false : (b : Bool) → b ≡ b || false
or_false true = refl
or_false false = refl

-- it comes to its own address where it takes it
taken_is : (device : DeviceParts) (part : PartData) → nat_eq (taken_at device part) device.address ≡ takes device part
taken_is device part = by (takes_other device part)
  where
    by : (other : Bool) → nat_eq (cond other device.address part.addr) device.address
        ≡ nat_eq part.addr device.address || other
    by true = eq-eqb device.address device.address refl ∙ sym (or_right (nat_eq part.addr device.address) true refl)
    by false = or_false (nat_eq part.addr device.address)

module _ (start : Start) (device : DeviceParts) where
  module _ (t : RegisterTold) (k : KeptData) where
    abbrev after : Bool → Bool → KeptData
    after own untold = cond own (cond untold (kept_untold start (kept_bytes device t.code t.bytes k))
        (kept_bytes device t.code t.bytes k)) k

    abbrev learnt : Start → KnownPaging → Bool → Bool → KnownPaging
    learnt s l own untold = cond (own && untold) (forget_modes s (cond own (learn_bytes device t.code t.bytes l) l))
        (cond own (learn_bytes device t.code t.bytes l) l)

    known_of : (own untold : Bool) → (after own untold).known ≡ learnt start k.known own untold
    known_of true true = refl
    known_of true false = refl
    known_of false untold = refl

    abbrev phase_told : Bool → Option ℕ
    phase_told own = cond (own && nat_eq t.code phase_code) (only_byte t.bytes) None

    phase_of : (own untold : Bool) → (after own untold).phase ≡ option_or (phase_told own) k.phase
    phase_of true true = refl
    phase_of true false = refl
    phase_of false untold = refl

    -- .. or read
    read_known : (own : Bool) → (cond own (kept_bytes device t.code t.bytes k) k).known
        ≡ cond own (learn_bytes device t.code t.bytes k.known) k.known
    read_known true = refl
    read_known false = refl

    read_phase : (own : Bool) → (cond own (kept_bytes device t.code t.bytes k) k).phase
        ≡ option_or (phase_told own) k.phase
    read_phase true = refl
    read_phase false = refl

  module _ (part : PartData) (k : KeptData) where
    abbrev written : RegisterTold
    written = told_by_part part

    own_is : takes device part ≡ nat_eq (as_own device part).addr device.address
    own_is = sym (taken_is device part)

    written_known : (kept_part start device k part).known ≡ learn_written start device k.known (as_own device part)
    written_known = known_of written k (takes device part) (untells_mode part.code part.bytes)
        ∙ ap (λ (own : Bool). learnt written k start k.known own (untells_mode part.code part.bytes)) own_is

    written_phase : (kept_part start device k part).phase
        ≡ option_or (told_phase device.address (as_own device part)) k.phase
    written_phase = phase_of written k (takes device part) (untells_mode part.code part.bytes)
        ∙ ap (λ (own : Bool). option_or (phase_told written k own) k.phase) own_is

  -- ---- parts, one after the other

  abbrev own_parts : List PartData → List RegisterTold
  own_parts parts = map told_by_part (map (taken_part device) parts)

  parts_known : (parts : List PartData) (k : KeptData) → (fold (kept_part start device) k parts).known
      ≡ fold (learn_written start device) k.known (own_parts parts)
  parts_known [] k = refl
  parts_known (part ∷ parts) k =
      parts_known parts (kept_part start device k part)
      ∙ ap (λ (l : KnownPaging). fold (learn_written start device) l (own_parts parts)) (written_known part k)

  parts_phase : (parts : List PartData) (k : KeptData) (ts : List RegisterTold) → k.phase ≡ last_phase device.address ts
      → (fold (kept_part start device) k parts).phase ≡ last_phase device.address (ts ++ own_parts parts)
  parts_phase [] k ts is = is ∙ ap (last_phase device.address) (sym (append-nil ts))
  parts_phase (part ∷ parts) k ts is =
      let own = as_own device part in
      parts_phase parts (kept_part start device k part) (ts ++ own ∷ [])
      (written_phase part k
      ∙ ap (option_or (told_phase device.address own)) is
      ∙ sym (last_one device.address ts own))
      ∙ ap (last_phase device.address) (append_assoc ts (own ∷ []) (own_parts parts))

  -- ---- a packet that reached it at two of its addresses, or at one

  module _ (k after : KeptData) (t : TransactionData) where
    abbrev KnownIs : Bool → Type 0
    KnownIs crossed = (cond crossed (kept_dropped start k) after).known
        ≡ learn_past start device k.known (cond crossed Dropped (Said t))

    if_known : after.known ≡ learn_transaction start device k.known t → (crossed : Bool) → KnownIs crossed
    if_known is true = refl
    if_known is false = is

    abbrev PhaseIs : List RegisterTold → Bool → Type 0
    PhaseIs ts crossed = (cond crossed (kept_dropped start k) after).phase
        ≡ last_phase device.address (told_then ts (cond crossed Dropped (Said t)))

    if_phase : (ts : List RegisterTold) → after.phase ≡ last_phase device.address (ts ++ told t) → (crossed : Bool)
        → PhaseIs ts crossed
    if_phase ts is true = refl
    if_phase ts is false = is

  -- ---- what went before

  one_known : (k : KeptData) (t : TransactionData)
      → (kept_after start device k t).known ≡ learn_past start device k.known (one_taken device (Said t))
  one_known k (Write parts) = if_known k (fold (kept_part start device) k parts) (taken device (Write parts))
      (parts_known parts k) (are_crossed device parts)
  one_known k (Read t) = read_known (told_by_read t) k (nat_eq t.addr device.address)
  one_known k (Call t) = refl
  one_known k (Refused t) = if_known k (fold (kept_part start device) k t.parts) (taken device (Refused t))
      (parts_known t.parts k) (are_crossed device t.parts)
  one_known k (Alert t) = refl
  one_known k NoAlert = refl

  none_more : (k : KeptData) (ts : List RegisterTold) → k.phase ≡ last_phase device.address ts
      → k.phase ≡ last_phase device.address (ts ++ [])
  none_more k ts is = is ∙ ap (last_phase device.address) (sym (append-nil ts))

  one_phase : (k : KeptData) (t : TransactionData) (ts : List RegisterTold) → k.phase ≡ last_phase device.address ts
      → (kept_after start device k t).phase ≡ last_phase device.address (told_then ts (one_taken device (Said t)))
  one_phase k (Write parts) ts is = if_phase k (fold (kept_part start device) k parts) (taken device (Write parts)) ts
      (parts_phase parts k ts is) (are_crossed device parts)
  one_phase k (Read t) ts is =
      read_phase (told_by_read t) k (nat_eq t.addr device.address)
      ∙ ap (option_or (told_phase device.address (told_by_read t))) is
      ∙ sym (last_one device.address ts (told_by_read t))
  one_phase k (Call t) ts is = none_more k ts is
  one_phase k (Refused t) ts is = if_phase k (fold (kept_part start device) k t.parts) (taken device (Refused t)) ts
      (parts_phase t.parts k ts is) (are_crossed device t.parts)
  one_phase k (Alert t) ts is = none_more k ts is
  one_phase k NoAlert ts is = none_more k ts is

  known_after : (past : List PastData) (k : KeptData)
      → (fold (kept_past start device) k past).known ≡ fold (learn_past start device) k.known (as_taken device past)
  known_after [] k = refl
  known_after (Said t ∷ past) k =
      known_after past (kept_after start device k t)
      ∙ ap (λ (l : KnownPaging). fold (learn_past start device) l (as_taken device past)) (one_known k t)
  known_after (Dropped ∷ past) k = known_after past (kept_past start device k Dropped)

  phase_after : (past : List PastData) (k : KeptData) (ts : List RegisterTold) → k.phase ≡ last_phase device.address ts
      → (fold (kept_past start device) k past).phase
      ≡ last_phase device.address (fold told_then ts (as_taken device past))
  phase_after [] k ts is = is
  phase_after (Said t ∷ past) k ts is =
      phase_after past (kept_after start device k t) (told_then ts (one_taken device (Said t))) (one_phase k t ts is)
  phase_after (Dropped ∷ past) k ts is = phase_after past (kept_past start device k Dropped) [] refl

  module _ (past : List PastData) where
    pub known_is : (kept start device past).known ≡ known start device past
    known_is = known_after past (first_kept start device)

    pub phase_is : (kept start device past).phase ≡ last_phase device.address (told_since (as_taken device past))
    phase_is = phase_after past (first_kept start device) [] refl

-- ---- what is asked of a `Late`

module _ (profile : List DeviceParts) (start : Start) (past : List PastData) where
  -- what is kept at the address, if a device has it
  pub kept_there : (list : List KeptData) → Keeps list profile (λ device. kept start device past) → (addr : ℕ)
      → kept_at list profile addr ≡ option_map (λ device. kept start device past) (device_with addr profile)
  kept_there list keeps addr = at_found (device_with addr profile) refl
    where
      at_found : (found : Option DeviceParts) → device_with addr profile ≡ found
          → option_and_then (λ (d : DeviceParts). slice_get list addr) found
          ≡ option_map (λ device. kept start device past) found
      at_found None is = refl
      at_found (Some device) is = keeps.each addr device is

  module _ (addr : ℕ) where
    -- .. of a device that is found, or of none
    abbrev IsKeptOf : Option KeptData → Type 0
    IsKeptOf found = found ≡ option_map (λ device. kept start device past) (device_with addr profile)

    page_found : (found : Option DeviceParts)
        → option_and_then (λ (k : KeptData). k.known.page) (option_map (λ device. kept start device past) found)
        ≡ page_of (λ device. known start device past) found
    page_found None = refl
    page_found (Some device) = ap (λ (k : KnownPaging). k.page) (known_is start device past)

    abbrev pub mode_in : Option KeptData → KnownMode
    mode_in None = NoPage
    mode_in (Some k) = known_mode k.known

    mode_found : (found : Option DeviceParts)
        → mode_in (option_map (λ device. kept start device past) found)
        ≡ mode_of (λ device. known start device past) found
    mode_found None = refl
    mode_found (Some device) = ap known_mode (known_is start device past)

    module _ (found : Option KeptData) (is : IsKeptOf found) where
      pub page_at : option_and_then (λ (k : KeptData). k.known.page) found ≡ page start profile past addr
      page_at = ap (option_and_then (λ (k : KeptData). k.known.page)) is ∙ page_found (device_with addr profile)

      pub mode_at : mode_in found ≡ mode start profile past addr
      mode_at = ap mode_in is ∙ mode_found (device_with addr profile)

      -- PHASE of a device that has phases
      module _ (bus : IsBus profile) (device : DeviceParts) (here : device_with addr profile ≡ Some device)
          (has : is_some device.phases ≡ true) where
        pub phase_at : option_and_then (λ (k : KeptData). k.phase) found ≡ phase profile past addr
        phase_at =
            let own : device.address ≡ addr = (device_is profile addr device bus here).1 in
            ap (option_and_then (λ (k : KeptData). k.phase))
            (is ∙ ap (option_map (λ (d : DeviceParts). kept start d past)) here)
            ∙ phase_is start device past
            ∙ ap (λ (a : ℕ). last_phase a (told_since (as_taken device past))) own
            ∙ sym (ap (option_and_then (phase_of_device addr past)) here
            ∙ ap (λ (b : Bool). cond b (last_phase addr (told_since (as_taken device past))) None) has)
