-- What a command holds at first, where its table says.
use Rattle.std.proofs.Common.{◌≡◌, ◌≢◌, ℕ, Bool, true, false, not, ◌||◌, Option, Some, None, Result, Ok, Err, List}
use Rattle.std.proofs.Common.{length, refl, subst, ◌∙◌}
use Rattle.std.specs.Prelude.{IfOk, IfSome, is_some, nat_eq}
use Rattle.std.proofs.lemmas.Bool.{eqb-true}
use Rattle.toml.specs.Data.{Data, Items, as_array, as_str}
use Rattle.pmb_command.specs.Bus.{AreInitial, HasItemForEach, IsInitial}
use Rattle.pmb_command.specs.Entry.{EntryParts}
use Rattle.pmb_command.specs.Fitting.{is_length, register_form}
use Rattle.pmb_command.specs.Parts.{InitialParts}
use Rattle.pmb_keys.specs.declared.fault.FaultKind.{FaultKind}
use Rattle.pmb_keys.specs.declared.fault.FaultKind.TheVariants as faults
use Rattle.pmb_keys.specs.CommandRules.{bytes_rule, hex_bytes, initial_of, initial_rule, items_check}
use Rattle.pmb_keys.specs.CommandRules.{items_rule, register_check}
use Rattle.pmb_keys.specs.Rules.{each_of, item_count, or_fault, typed, unless}
use Rattle.pmb_keys.proofs.Steps.{AreItems, if_bind, if_each, if_steps, if_tested}

-- ---- bytes

-- The command is neither PAGE nor VOUT_MODE.
record IsOther (code : ℕ) : Type 0 where
  page : code ≢ 0x00
  vout_mode : code ≢ 0x20

is_other : (code : ℕ) → not (nat_eq code 0x00 || nat_eq code 0x20) ≡ true → IsOther code
is_other code is =
    let at : (n : ℕ) → code ≡ n → not (nat_eq n 0x00 || nat_eq n 0x20) ≡ true =
    λ n same. subst (λ c. not (nat_eq c 0x00 || nat_eq c 0x20) ≡ true) same is in
    record { page = λ same. cc (at 0x00 same); vout_mode = λ same. cc (at 0x20 same) }

if_register : (e : EntryParts) → IfOk (register_check e) (λ _. IsOther e.code)
if_register e =
    if_tested faults.BadInitial (not (nat_eq e.code 0x00 || nat_eq e.code 0x20)) _ _
    (λ other. by (is_some (register_form e.shape)) (is_other e.code other))
  where
    by : (b : Bool) → IsOther e.code → IfOk (unless faults.BadInitial b) (λ _. IsOther e.code)
    by true is = is
    by false is = tt

if_bytes : (e : EntryParts) (d : Data) → IfOk (bytes_rule e d) (IsInitial e)
if_bytes e d =
    if_bind (typed as_str d) _ _ (λ text is. if_steps (register_check e) _ (λ _. IsOther e.code) _ (if_register e)
    (λ u other. if_bind (or_fault faults.BadInitial (hex_bytes text)) _ _
    (λ bytes is. if_tested faults.BadInitial (is_length (register_form e.shape) (length bytes)) _ _
    (λ fits. record { not_page = other.page; not_vout_mode = other.vout_mode; fits = fits }))))

-- ---- an item for each page

record IsPaged (e : EntryParts) (pages many : ℕ) : Type 0 where
  paged : e.paged ≡ true
  count : many ≡ pages

if_items : (e : EntryParts) (pages : ℕ) (items : Items)
    → IfOk (items_check e pages items) (λ _. IsPaged e pages (item_count items))
if_items e pages items =
    if_tested faults.BadInitial e.paged _ _ (λ paged. by paged (nat_eq (item_count items) pages) refl)
  where
    by : e.paged ≡ true → (b : Bool) → nat_eq (item_count items) pages ≡ b
        → IfOk (unless faults.BadInitial b) (λ _. IsPaged e pages (item_count items))
    by paged true is = record { paged = paged; count = eqb-true (item_count items) pages is }
    by paged false is = tt

-- What a command holds at first, on a device with so many pages.
pub record HoldsAtFirst (e : EntryParts) (pages : ℕ) (initial : InitialParts) : Type 0 where
  pub are : AreInitial e initial
  pub items : HasItemForEach pages (Some initial)

if_value : (e : EntryParts) (pages : ℕ) (d : Data) (array : Option Items)
    → IfOk (initial_rule e pages d array) (HoldsAtFirst e pages)
if_value e pages d None =
    if_steps (bytes_rule e d) _ (IsInitial e) _ (if_bytes e d) (λ bytes is. record { are = is; items = tt })
if_value e pages d (Some items) =
    if_steps (items_rule e pages items) _
    (λ each. IsPaged e pages (item_count items) × AreItems (IsInitial e) (item_count items) each) _
    (if_steps (items_check e pages items) _ (λ _. IsPaged e pages (item_count items)) _ (if_items e pages items)
    (λ u paged. with_paged paged (each_of (bytes_rule e) items)
    (if_each (bytes_rule e) items (IsInitial e) (if_bytes e))))
    (λ each are. record { are = (are.0.paged, are.1.each); items = are.1.many ∙ are.0.count })
  where
    with_paged : IsPaged e pages (item_count items) → (r : Result (List (List ℕ)) FaultKind)
        → IfOk r (AreItems (IsInitial e) (item_count items))
        → IfOk r (λ each. IsPaged e pages (item_count items) × AreItems (IsInitial e) (item_count items) each)
    with_paged paged (Ok each) are = (paged, are)
    with_paged paged (Err what) are = tt

pub if_initial : (e : EntryParts) (pages : ℕ) (value : Option Data)
    → IfOk (initial_of e pages value) (λ o. IfSome o (HoldsAtFirst e pages))
if_initial e pages None = tt
if_initial e pages (Some d) =
    if_steps (initial_rule e pages d (as_array d)) _ (HoldsAtFirst e pages) _ (if_value e pages d (as_array d))
    (λ initial holds. holds)
