-- How the keys of a TOML table are ruled.
use Rattle.std.specs.Prelude.{ℕ, suc, ℤ, pos, negsuc, Bool, true, false, if◌then◌else◌, ◌&&◌, Option, Some, None}
use Rattle.std.specs.Prelude.{Result, Ok, Err, List, [], ◌∷◌, codes, nat_le}
use Rattle.std.specs.Str.{bytes_eq}
use Rattle.std.specs.List.{list_any, list_all}
use Rattle.toml.specs.Data.{Data, Items, no_items, item, Members, no_members, member, get_member}
use Rattle.pmb_keys.specs.declared.fault.FaultKind.{FaultKind}
use Rattle.pmb_keys.specs.declared.fault.FaultKind.TheVariants.{UnknownKey, MissingKey, WrongType}

-- what follows from a result; a fault stays
abbrev pub bind : {X Y E : Type 0} → Result X E → (X → Result Y E) → Result Y E
bind (Ok x) next = next x
bind (Err e) next = Err e

-- what is there, or else a fault
abbrev pub or_fault : {X E : Type 0} → E → Option X → Result X E
or_fault e (Some x) = Ok x
or_fault e None = Err e

-- a fault unless it holds
abbrev pub unless : {E : Type 0} → E → Bool → Result Unit E
unless e true = Ok tt
unless e false = Err e

-- what a text names among some words; nothing where it is none of them
abbrev pub named : {X : Type 0} → List (List ℕ × X) → List ℕ → Option X
named [] text = None
named (w ∷ ws) text = if bytes_eq text w.0 then Some w.1 else named ws text

-- the number, where it is within the two
abbrev pub natural_within : ℕ → ℕ → ℤ → Option ℕ
natural_within least most (pos n) = if nat_le least n && nat_le n most then Some n else None
natural_within least most (negsuc n) = None

-- the keys of a table
abbrev pub keys_of : Members → List (List ℕ)
keys_of no_members = []
keys_of (member k d ms) = k ∷ keys_of ms

-- the numbers from 0 to 31, as keys of a table name them: in decimal, without leading zeros
abbrev pub decimals : List (List ℕ)
decimals =
    codes "0" ∷ codes "1" ∷ codes "2" ∷ codes "3" ∷ codes "4" ∷ codes "5" ∷ codes "6" ∷ codes "7"
    ∷ codes "8" ∷ codes "9" ∷ codes "10" ∷ codes "11" ∷ codes "12" ∷ codes "13" ∷ codes "14" ∷ codes "15"
    ∷ codes "16" ∷ codes "17" ∷ codes "18" ∷ codes "19" ∷ codes "20" ∷ codes "21" ∷ codes "22" ∷ codes "23"
    ∷ codes "24" ∷ codes "25" ∷ codes "26" ∷ codes "27" ∷ codes "28" ∷ codes "29" ∷ codes "30" ∷ codes "31" ∷ []

-- UnknownKey where a table has another key than these
abbrev pub only : List (List ℕ) → Members → Result Unit FaultKind
only known ms = unless UnknownKey (list_all (λ k. list_any (bytes_eq k) known) (keys_of ms))

-- WrongType where a value has another type than the accessor's
abbrev pub typed : {X : Type 0} → (Data → Option X) → Data → Result X FaultKind
typed accessor d = or_fault WrongType (accessor d)

module _ {X : Type 0} (rule : Data → Result X FaultKind) where
  -- a key that has to be there, and its rule
  abbrev pub required : List ℕ → Members → Result X FaultKind
  required key ms = bind (or_fault MissingKey (get_member key ms)) rule

  -- a key that may be there, and its rule
  abbrev pub optional_of : Option Data → Result (Option X) FaultKind
  optional_of None = Ok None
  optional_of (Some d) = bind (rule d) (λ x. Ok (Some x))

  abbrev pub optional : List ℕ → Members → Result (Option X) FaultKind
  optional key ms = optional_of (get_member key ms)

  -- a key that may be there, what holds without it, and its rule
  abbrev pub defaulted_of : X → Option Data → Result X FaultKind
  defaulted_of x None = Ok x
  defaulted_of x (Some d) = rule d

  abbrev pub defaulted : X → List ℕ → Members → Result X FaultKind
  defaulted x key ms = defaulted_of x (get_member key ms)

  -- the items of an array, each by the rule in its turn, up to the first fault
  abbrev pub each_of : Items → Result (List X) FaultKind
  each_of no_items = Ok []
  each_of (item d ds) = bind (rule d) (λ x. bind (each_of ds) (λ xs. Ok (x ∷ xs)))

-- how many items an array has
abbrev pub item_count : Items → ℕ
item_count no_items = 0
item_count (item d ds) = suc (item_count ds)
