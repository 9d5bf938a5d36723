-- The addresses of a device whose keys were read: its table names its own, and the tables of devices name each
-- other one that it has. For `read_device` of `pmb_table`, and for what a text says.
use Rattle.std.proofs.Common.{◌≡◌, ◌≤◌, ℕ, Bool, true, false, ◌&&◌, not, cond, Option, Some, None, Ok, List, []}
use Rattle.std.proofs.Common.{◌∷◌, arith, le-leb, nat_eq, refl, replicate, subst, sym, ⊎_elim}
use Rattle.std.specs.Prelude.{ℤ, pos, negsuc, IfOk, IfSome, codes, filter, if◌then◌else◌, nat_le}
use Rattle.std.specs.List.{AllByRecursion, list_any, range_with_len}
use Rattle.std.specs.Option.{option_and_then}
use Rattle.std.proofs.lemmas.Bool.{and_parts, eqb-true, false≢true, leb-true, or_cases}
use Rattle.std.proofs.lemmas.Result.{IfOk-weaker}
use Rattle.toml.specs.Data.{Data, no_items, Members, as_array, as_bool, as_integer, as_table, get_member}
use Rattle.pmb_command.specs.declared.pec_mode.PecMode.{PecMode}
use Rattle.pmb_keys.specs.declared.fault.FaultKind.TheVariants as faults
use Rattle.pmb_keys.specs.Addresses.{addresses_among, also_address, also_rule, listed_address, named_address}
use Rattle.pmb_keys.specs.CommandRules.{word_rule}
use Rattle.pmb_keys.specs.DeviceKeys.{DeviceKeys, address_rule, coefficients_rule, device_key_names, device_keys}
use Rattle.pmb_keys.specs.DeviceKeys.{modes_rule, name_rule, other_keys, pages_rule, pec_words, phases_rule}
use Rattle.pmb_keys.specs.VidRule.{vid_rule}
use Rattle.pmb_keys.specs.Rules.{bind, defaulted, each_of, item_count, natural_within, only, optional, or_fault, required}
use Rattle.pmb_keys.specs.Rules.{typed, unless}
use Rattle.pmb_keys.specs.machine.Addresses.{AreAmong}
use Rattle.pmb_keys.proofs.Steps.{AreItems, if_bind, if_defaulted, if_each, if_steps, if_tested, if_there}

-- ---- the other addresses

-- what follows from a test holds of each that a filter keeps
kept_are : (P : ℕ → Type 0) (p : ℕ → Bool) (xs : List ℕ) → ((n : ℕ) → p n ≡ true → P n)
    → AllByRecursion P (filter p xs)
kept_are P p [] follows = tt
kept_are P p (x ∷ xs) follows = by (p x) refl (kept_are P p xs follows)
  where
    by : (b : Bool) → p x ≡ b → AllByRecursion P (filter p xs)
        → AllByRecursion P (cond b (x ∷ filter p xs) (filter p xs))
    by true is rest = (follows x is, rest)
    by false is rest = rest

-- what holds of all numbers holds of one that is among them
pub holds_among : (P : ℕ → Type 0) (xs : List ℕ) → AllByRecursion P xs → (n : ℕ) → list_any (nat_eq n) xs ≡ true → P n
holds_among P [] all n any = absurd (false≢true any)
holds_among P (x ∷ xs) all n any =
    ⊎_elim (λ same. subst P (sym (eqb-true n x same)) all.0) (holds_among P xs all.1 n)
    (or_cases (nat_eq n x) (list_any (nat_eq n) xs) any)

addresses_are : (P : ℕ → Type 0) (numbers : List ℕ) → AllByRecursion P numbers
    → AllByRecursion P (addresses_among numbers)
unfolding addresses_among
addresses_are P numbers all =
    kept_are P (λ address. list_any (nat_eq address) numbers) (range_with_len 0 128) (holds_among P numbers all)

-- one that was found among numbers is one of them
pub among : (numbers : List ℕ) → AreAmong numbers (addresses_among numbers)
unfolding addresses_among
among numbers =
    kept_are (λ n. list_any (nat_eq n) numbers ≡ true) (λ address. list_any (nat_eq address) numbers)
    (range_with_len 0 128) (λ n any. any)

if_also_address : (named : List ℕ) (d : Data) → IfOk (also_address named d) (λ n. list_any (nat_eq n) named ≡ true)
if_also_address named d =
    if_bind (listed_address d) _ _ (λ address is. if_tested faults.BadValue (list_any (nat_eq address) named) _ _
    (λ any. any))

if_also : (named : List ℕ) (d : Data) → IfOk (also_rule named d) (AreAmong named)
if_also named d =
    if_bind (typed as_array d) _ _ (λ items is. if_steps (each_of (also_address named) items) _
    (AreItems (λ n. list_any (nat_eq n) named ≡ true) (item_count items)) _
    (if_each (also_address named) items (λ n. list_any (nat_eq n) named ≡ true) (if_also_address named))
    (λ addresses are. addresses_are (λ n. list_any (nat_eq n) named ≡ true) addresses are.each))

-- ---- its own

-- a number within the bounds of a device's address is of 7 bits
seven_bits : (z : ℤ) → IfSome (natural_within 0x08 0x77 z) (λ address. natural_within 0 127 z ≡ Some address)
seven_bits (negsuc n) = tt
seven_bits (pos n) = by (nat_le 0x08 n && nat_le n 0x77) refl
  where
    by : (b : Bool) → (nat_le 0x08 n && nat_le n 0x77) ≡ b
        → IfSome (if b then Some n else None) (λ address. natural_within 0 127 (pos n) ≡ Some address)
    by false is = tt
    by true is =
        let most : n ≤ 0x77 = leb-true n 0x77 (and_parts (nat_le 0x08 n) (nat_le n 0x77) is).1 in
        let small : n ≤ 127 = omega arith in
        rw (le-leb 0 n (omega arith), le-leb n 127 small) refl

-- the number that a value is, if it is of 7 bits
abbrev number_of : Data → Option ℕ
number_of d = option_and_then (natural_within 0 127) (as_integer d)

if_address : (taken ignored : List ℕ) (d : Data)
    → IfOk (address_rule taken ignored d) (λ address. number_of d ≡ Some address)
if_address taken ignored d = by (as_integer d)
  where
    by : (o : Option ℤ)
        → IfOk (bind (or_fault faults.WrongType o) (λ z.
        bind (or_fault faults.BadAddress (natural_within 0x08 0x77 z)) (λ address.
        bind (unless faults.BadAddress (not (nat_eq address 0x0c))) (λ _.
        bind (unless faults.AddressTwice (not (list_any (nat_eq address) taken))) (λ _.
        bind (unless faults.BadValue (not (list_any (nat_eq address) ignored))) (λ _. Ok address))))))
        (λ address. option_and_then (natural_within 0 127) o ≡ Some address)
    by None = tt
    by (Some z) =
        if_steps (or_fault faults.BadAddress (natural_within 0x08 0x77 z)) _
        (λ address. natural_within 0 127 z ≡ Some address) _
        (if_there faults.BadAddress (natural_within 0x08 0x77 z) (λ address. natural_within 0 127 z ≡ Some address)
        (seven_bits z))
        (λ address is. if_tested faults.BadAddress (not (nat_eq address 0x0c)) _ _
        (λ no_alert. if_tested faults.AddressTwice (not (list_any (nat_eq address) taken)) _ _
        (λ own. if_tested faults.BadValue (not (list_any (nat_eq address) ignored)) _ _ (λ apart. is))))

if_named : (taken ignored : List ℕ) (ms : Members)
    → IfOk (required (address_rule taken ignored) (codes "address") ms)
    (λ address. option_and_then number_of (get_member (codes "address") ms) ≡ Some address)
if_named taken ignored ms = by (get_member (codes "address") ms)
  where
    by : (o : Option Data)
        → IfOk (bind (or_fault faults.MissingKey o) (address_rule taken ignored))
        (λ address. option_and_then number_of o ≡ Some address)
    by None = tt
    by (Some d) = if_address taken ignored d

-- ---- all keys

-- the address of keys, and the others
record HaveAddresses (named : List ℕ) (address : ℕ) (keys : DeviceKeys) : Type 0 where
  own : keys.address ≡ address
  also : AreAmong named keys.also

if_others : (named : List ℕ) (address : ℕ) (pec : PecMode) (ms : Members)
    → IfOk (other_keys named address pec ms) (HaveAddresses named address)
if_others named address pec ms =
    if_bind (defaulted pages_rule 1 (codes "pages") ms) _ _
    (λ pages _. if_bind (defaulted (modes_rule pages) (replicate pages 0x17) (codes "vout_mode") ms) _ _
    (λ modes _. if_bind (defaulted (typed as_bool) true (codes "standard") ms) _ _
    (λ standard _. if_bind (optional coefficients_rule (codes "vout_direct") ms) _ _
    (λ vout_direct _. if_bind (defaulted (typed as_array) no_items (codes "command") ms) _ _
    (λ commands _. if_bind (optional name_rule (codes "name") ms) _ _
    (λ name _. if_bind (optional (vid_rule pages) (codes "vid") ms) _ _
    (λ vid _. if_bind (optional phases_rule (codes "phases") ms) _ _
    (λ phases _. if_bind (defaulted (typed as_bool) false (codes "protect") ms) _ _
    (λ protect _. if_steps (defaulted (also_rule named) [] (codes "also") ms) _ (AreAmong named) _
    (if_defaulted (also_rule named) [] (codes "also") ms (AreAmong named) tt (if_also named))
    (λ also are. record { own = refl; also = are }))))))))))

-- What is known of the addresses of keys that were read of a value.
pub record AreNamed (named : List ℕ) (d : Data) (keys : DeviceKeys) : Type 0 where
  -- the value's table names its own
  pub own : named_address d ≡ Some keys.address
  -- and the others are of those that tables name
  pub also : AreAmong named keys.also

-- the same of the table's keys
record AreOfTable (named : List ℕ) (address : Option ℕ) (keys : DeviceKeys) : Type 0 where
  own : address ≡ Some keys.address
  also : AreAmong named keys.also

-- the address that a table names
abbrev named_in : Members → Option ℕ
named_in ms = option_and_then number_of (get_member (codes "address") ms)

of_others : (named : List ℕ) (own : Option ℕ) (address : ℕ) (pec : PecMode) (ms : Members) → own ≡ Some address
    → IfOk (other_keys named address pec ms) (AreOfTable named own)
of_others named own address pec ms is =
    IfOk-weaker (other_keys named address pec ms) (HaveAddresses named address) (AreOfTable named own)
    (λ keys have. record { own = subst (λ n. own ≡ Some n) (sym have.own) is; also = have.also })
    (if_others named address pec ms)

if_table : (taken ignored named : List ℕ) (ms : Members)
    → IfOk (device_keys taken ignored named ms) (AreOfTable named (named_in ms))
if_table taken ignored named ms =
    if_bind (only device_key_names ms) _ _
    (λ u known. if_steps (required (address_rule taken ignored) (codes "address") ms) _
    (λ address. named_in ms ≡ Some address) _ (if_named taken ignored ms)
    (λ address is. if_bind (required (word_rule faults.BadValue pec_words) (codes "pec") ms) _ _
    (λ pec word. of_others named (named_in ms) address pec ms is)))

pub if_read : (taken ignored named : List ℕ) (d : Data)
    → IfOk (bind (typed as_table d) (device_keys taken ignored named)) (AreNamed named d)
if_read taken ignored named d =
    IfOk-weaker (bind (typed as_table d) (device_keys taken ignored named))
    (AreOfTable named (option_and_then named_in (as_table d))) (AreNamed named d)
    (λ keys are. record { own = are.own; also = are.also }) (by (as_table d))
  where
    by : (o : Option Members)
        → IfOk (bind (or_fault faults.WrongType o) (device_keys taken ignored named))
        (AreOfTable named (option_and_then named_in o))
    by None = tt
    by (Some ms) = if_table taken ignored named ms
