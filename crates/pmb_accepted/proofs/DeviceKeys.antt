-- What the keys of a device say.
use Rattle.std.proofs.Common.{◌≡◌, ◌≢◌, ◌<◌, ℕ, zero, suc, Bool, true, false, not, Option, Some, None, Result, Ok, Err}
use Rattle.std.proofs.Common.{List}
use Rattle.std.proofs.Common.{[], ◌∷◌, arith, length, refl, replicate, ap, ◌∙◌}
use Rattle.std.specs.Prelude.{IfOk, IfSome, codes, nat_eq}
use Rattle.std.specs.List.{AllByRecursion, list_all, list_any}
use Rattle.std.specs.Str.{bytes_eq}
use Rattle.std.proofs.lemmas.Bool.{eqb-true, eqb-false}
use Rattle.std.proofs.lemmas.List.{length-replicate}
use Rattle.toml.specs.Data.{Data, Items, no_items, Members, as_array, as_bool, as_integer, as_str, as_table}
use Rattle.pmb_command.specs.Bus.{HasTableForEach, IsDeviceAddress}
use Rattle.pmb_command.specs.Names.{IsDeviceName, is_device_name}
use Rattle.pmb_command.specs.Parts.{IsNew, VidParts, OfTypes}
use Rattle.pmb_command.specs.declared.pec_mode.PecMode.{PecMode}
use Rattle.pmb_command.proofs.NameLemmas.{device_name}
use Rattle.pmb_vid.specs.declared.table.VidTable.{VidTable}
use Rattle.pmb_keys.specs.declared.fault.FaultKind.{FaultKind}
use Rattle.pmb_keys.specs.declared.fault.FaultKind.TheVariants as faults
use Rattle.pmb_keys.specs.Addresses.{also_rule}
use Rattle.pmb_keys.specs.CommandRules.{byte_rule, coefficients, word_rule}
use Rattle.pmb_keys.specs.DeviceKeys.{DeviceKeys, address_rule, coefficients_rule, device_key_names, device_keys}
use Rattle.pmb_keys.specs.DeviceKeys.{modes_of}
use Rattle.pmb_keys.specs.DeviceKeys.{modes_rule, name_rule, other_keys, pages_rule, pec_words, phases_rule}
use Rattle.pmb_keys.specs.VidRule.{table_rule, tables_for, tables_of, types_from, types_rule, vid_rule}
use Rattle.pmb_keys.specs.Rules.{decimals, defaulted, each_of, item_count, keys_of, natural_within, only, optional}
use Rattle.pmb_keys.specs.Rules.{or_fault, required, typed}
use Rattle.pmb_keys.proofs.Steps.{AreItems, if_bind, if_defaulted, if_each, if_optional, if_required, if_steps}
use Rattle.pmb_keys.proofs.Steps.{if_tested}
use Rattle.pmb_json_objects.specs.Laws.{AreOfWords}
use Rattle.pmb_accepted.proofs.KindRanges.{of_words_sound}
use Rattle.pmb_accepted.proofs.Numbers.{IsWithin, if_byte, if_coefficients, if_natural, if_within}

-- ---- the address

-- a test that a number is another one, and none of some
not_taken : (n : ℕ) (others : List ℕ) → not (list_any (nat_eq n) others) ≡ true → IsNew n others
not_taken n others is = by (list_any (nat_eq n) others) is
  where
    by : (b : Bool) → not b ≡ true → b ≡ false
    by true is = cc
    by false is = refl

other : (n m : ℕ) → not (nat_eq n m) ≡ true → n ≢ m
other n m is = eqb-false n m (by (nat_eq n m) is)
  where
    by : (b : Bool) → not b ≡ true → b ≡ false
    by true is = cc
    by false is = refl

-- An address that a device may have, which is none of those that are taken, and none that is ignored.
pub record IsFree (taken ignored : List ℕ) (n : ℕ) : Type 0 where
  pub address : IsDeviceAddress n
  pub own : IsNew n taken
  pub apart : IsNew n ignored

if_address : (taken ignored : List ℕ) (d : Data) → IfOk (address_rule taken ignored d) (IsFree taken ignored)
if_address taken ignored d =
    if_bind (typed as_integer d) _ _ (λ z is. if_steps (or_fault faults.BadAddress (natural_within 0x08 0x77 z)) _
    (IsWithin 0x08 0x77) _ (if_within faults.BadAddress 0x08 0x77 z)
    (λ address within. if_tested faults.BadAddress (not (nat_eq address 0x0c)) _ _
    (λ no_alert. if_tested faults.AddressTwice (not (list_any (nat_eq address) taken)) _ _
    (λ own. if_tested faults.BadValue (not (list_any (nat_eq address) ignored)) _ _
    (λ apart. record {
      address = record { least = within.least; greatest = within.most; no_alert = other address 0x0c no_alert };
      own = not_taken address taken own;
      apart = not_taken address ignored apart;
    })))))

-- ---- VOUT_MODE of each page

all_same : {X : Type 0} (P : X → Type 0) (n : ℕ) (x : X) → P x → AllByRecursion P (replicate n x)
all_same P zero x is = tt
all_same P (suc n) x is = (is, all_same P n x is)

same_items : {X : Type 0} (P : X → Type 0) (n : ℕ) (x : X) → P x → AreItems P n (replicate n x)
same_items P n x is = record { many = length-replicate n x; each = all_same P n x is }

-- items of which there are as many as a test asks for
as_many : {X : Type 0} (P : X → Type 0) (count pages : ℕ) (xs : List X) → nat_eq count pages ≡ true
    → AreItems P count xs → AreItems P pages xs
as_many P count pages xs same are = record { many = are.many ∙ eqb-true count pages same; each = are.each }

abbrev AreModes : ℕ → List ℕ → Type 0
AreModes = AreItems (λ mode. mode < 256)

if_modes : (pages : ℕ) (d : Data) (array : Option Items) → IfOk (modes_of pages d array) (AreModes pages)
if_modes pages d None =
    if_steps (byte_rule d) _ (λ mode. mode < 256) _ (if_byte d)
    (λ mode byte. same_items (λ mode. mode < 256) pages mode byte)
if_modes pages d (Some items) =
    if_steps (each_of byte_rule items) _ (AreModes (item_count items)) _
    (if_each byte_rule items (λ mode. mode < 256) if_byte)
    (λ modes are. if_tested faults.BadValue (nat_eq (item_count items) pages) _ _
    (λ same. as_many (λ mode. mode < 256) (item_count items) pages modes same are))

-- ---- names, coefficients and tables

if_name : (d : Data) → IfOk (name_rule d) IsDeviceName
if_name d =
    if_bind (typed as_str d) _ _ (λ text is. if_tested faults.BadName (is_device_name text) _ _
    (λ fits. device_name text fits))

if_table_of_coefficients : (d : Data) → IfOk (coefficients_rule d) AreOfWords
if_table_of_coefficients d =
    if_bind (typed as_table d) _ _
    (λ ms is. if_bind (only (codes "m" ∷ codes "b" ∷ codes "r" ∷ codes "unsigned" ∷ []) ms) _ _
    (λ u known. if_steps (coefficients ms) _ AreOfWords _ (if_coefficients ms)
    (λ d are. if_bind (defaulted (typed as_bool) false (codes "unsigned") ms) _ _
    (λ unsigned is. of_words_sound unsigned d are))))

-- a table for each type
if_types : (names : List (List ℕ)) (ms : Members) → IfOk (types_from names ms) (λ tables. length tables ≡ length names)
if_types [] ms = refl
if_types (name ∷ names) ms =
    if_bind (optional table_rule name ms) _ _ (λ table is. if_steps (types_from names ms) _
    (λ tables. length tables ≡ length names) _ (if_types names ms) (λ tables many. ap suc many))

if_type_tables : (pages : ℕ) (ms : Members)
    → IfOk (types_rule ms) (λ tables. HasTableForEach pages (Some (OfTypes tables)))
if_type_tables pages ms =
    if_tested faults.BadValue (list_all (λ key. list_any (bytes_eq key) decimals) (keys_of ms)) _ _
    (λ known. if_types decimals ms)

if_tables : (pages : ℕ) (d : Data) (array : Option Items) (members : Option Members)
    → IfOk (tables_of pages d array members) (λ tables. HasTableForEach pages (Some tables))
if_tables pages d (Some items) members =
    if_steps (tables_for pages items) _ (λ tables. length tables ≡ pages) _
    (if_steps (each_of table_rule items) _ (AreItems (λ t. Unit {0}) (item_count items)) _
    (if_each table_rule items (λ t. Unit {0}) if_table)
    (λ tables are. if_tested faults.BadValue (nat_eq (item_count items) pages) _ _
    (λ same. (as_many (λ t. Unit {0}) (item_count items) pages tables same are).many)))
    (λ tables many. many)
  where
    if_table : (d : Data) → IfOk (table_rule d) (λ t. Unit {0})
    if_table d = by (table_rule d)
      where
        by : (r : Result VidTable FaultKind) → IfOk r (λ t. Unit {0})
        by (Ok t) = tt
        by (Err what) = tt
if_tables pages d None (Some ms) =
    if_steps (types_rule ms) _ (λ tables. HasTableForEach pages (Some (OfTypes tables))) _ (if_type_tables pages ms)
    (λ tables many. many)
if_tables pages d None None = if_bind (table_rule d) _ _ (λ table is. length-replicate pages table)

has_tables : (pages : ℕ) (o : Option VidParts) → IfSome o (λ tables. HasTableForEach pages (Some tables))
    → HasTableForEach pages o
has_tables pages None each = tt
has_tables pages (Some tables) each = each

-- ---- all keys

-- What is known of the keys of a device, where these addresses are taken, and these are ignored.
pub record AreSoundKeys (taken ignored : List ℕ) (keys : DeviceKeys) : Type 0 where
  pub free : IsFree taken ignored keys.address
  pub pages : IsWithin 1 32 keys.pages
  pub name : IfSome keys.name IsDeviceName
  pub modes : AreModes keys.pages keys.modes
  pub vout : IfSome keys.vout_direct AreOfWords
  pub tables : HasTableForEach keys.pages keys.vid
  pub phases : IfSome keys.phases (IsWithin 1 255)

if_others : (taken ignored named : List ℕ) (address : ℕ) (pec : PecMode) (ms : Members)
    → IsFree taken ignored address → IfOk (other_keys named address pec ms) (AreSoundKeys taken ignored)
if_others taken ignored named address pec ms free =
    if_steps (defaulted pages_rule 1 (codes "pages") ms) _ (IsWithin 1 32) _
    (if_defaulted pages_rule 1 (codes "pages") ms (IsWithin 1 32) (record { least = omega arith; most = omega arith })
    (if_natural faults.BadPages 1 32))
    (λ pages few. if_steps (defaulted (modes_rule pages) (replicate pages 0x17) (codes "vout_mode") ms) _
    (AreModes pages) _
    (if_defaulted (modes_rule pages) (replicate pages 0x17) (codes "vout_mode") ms (AreModes pages)
    (same_items (λ mode. mode < 256) pages 0x17 (omega arith)) (λ d. if_modes pages d (as_array d)))
    (λ modes are_modes. if_bind (defaulted (typed as_bool) true (codes "standard") ms) _ _
    (λ standard is. if_steps (optional coefficients_rule (codes "vout_direct") ms) _ (λ o. IfSome o AreOfWords) _
    (if_optional coefficients_rule (codes "vout_direct") ms AreOfWords if_table_of_coefficients)
    (λ vout_direct vout. if_bind (defaulted (typed as_array) no_items (codes "command") ms) _ _
    (λ commands is. if_steps (optional name_rule (codes "name") ms) _ (λ o. IfSome o IsDeviceName) _
    (if_optional name_rule (codes "name") ms IsDeviceName if_name)
    (λ name is_name. if_steps (optional (vid_rule pages) (codes "vid") ms) _
    (λ o. IfSome o (λ tables. HasTableForEach pages (Some tables))) _
    (if_optional (vid_rule pages) (codes "vid") ms (λ tables. HasTableForEach pages (Some tables))
    (λ d. if_tables pages d (as_array d) (as_table d)))
    (λ vid each. if_steps (optional phases_rule (codes "phases") ms) _ (λ o. IfSome o (IsWithin 1 255)) _
    (if_optional phases_rule (codes "phases") ms (IsWithin 1 255) (if_natural faults.BadValue 1 255))
    (λ phases count. if_bind (defaulted (typed as_bool) false (codes "protect") ms) _ _
    (λ protect is. if_bind (defaulted (also_rule named) [] (codes "also") ms) _ _
    (λ also is. record {
      free = free;
      pages = few;
      name = is_name;
      modes = are_modes;
      vout = vout;
      tables = has_tables pages vid each;
      phases = count;
    }))))))))))

pub if_device_keys : (taken ignored named : List ℕ) (ms : Members)
    → IfOk (device_keys taken ignored named ms) (AreSoundKeys taken ignored)
if_device_keys taken ignored named ms =
    if_bind (only device_key_names ms) _ _
    (λ u known. if_steps (required (address_rule taken ignored) (codes "address") ms) _
    (IsFree taken ignored) _
    (if_required (address_rule taken ignored) (codes "address") ms (IsFree taken ignored) (if_address taken ignored))
    (λ address free. if_bind (required (word_rule faults.BadValue pec_words) (codes "pec") ms) _ _
    (λ pec is. if_others taken ignored named address pec ms free)))
