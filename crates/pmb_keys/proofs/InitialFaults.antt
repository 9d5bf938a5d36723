-- The faults of the key `initial` are all BadInitial: for `read_command`. Each step that reads it
-- tests one thing with that fault, so what is claimed of other faults need not speak of them.
use Rattle.std.proofs.Common.{◌≡◌, ◌≢◌, ℕ, List, ◌∷◌, Bool, true, false, Option, Some, None, Result, Ok, Err, refl, not}
use Rattle.std.proofs.Common.{nat_eq, ◌||◌, is_some, length}
use Rattle.std.specs.Prelude.{IfErr}
use Rattle.pmb_command.specs.Entry.{EntryParts}
use Rattle.pmb_command.specs.Fitting.{register_form, is_length}
use Rattle.pmb_keys.specs.declared.fault.FaultKind.{FaultKind}
use Rattle.pmb_keys.specs.declared.fault.FaultKind.TheVariants.{BadInitial}
use Rattle.pmb_keys.specs.Rules.{bind, each_of, item_count, or_fault, typed, unless}
use Rattle.pmb_keys.specs.CommandRules.{bytes_rule, hex_bytes, initial_bytes, initial_of, initial_rule, items_check}
use Rattle.pmb_keys.specs.CommandRules.{items_rule, register_check, text_type}
use Rattle.pmb_keys.specs.machine.Typed.{IsTyped}
use Rattle.toml.specs.Data.{Data, Items, no_items, item, as_array, as_str}
use Rattle.pmb_command.specs.Parts.{InitialParts, Same, Each}

-- a fault is that of `initial`
abbrev pub IsBadInitial : FaultKind → Type 0
IsBadInitial what = what ≡ BadInitial

-- what holds of the faults of two steps holds of those of both
pub bind-faults : {X Y : Type 0} (P : FaultKind → Type 0) (r : Result X FaultKind) (next : X → Result Y FaultKind)
    → IfErr r P → ((x : X) → IfErr (next x) P) → IfErr (bind r next) P
bind-faults P (Ok x) next first rest = rest x
bind-faults P (Err e) next first rest = first

-- a test's fault is the one it is given
pub unless-faults : (what : FaultKind) (b : Bool) → IfErr (unless what b) (λ e. e ≡ what)
unless-faults what true = tt
unless-faults what false = refl

pub or_fault-faults : {X : Type 0} (what : FaultKind) (o : Option X) → IfErr (or_fault what o) (λ e. e ≡ what)
or_fault-faults what (Some x) = tt
or_fault-faults what None = refl

-- two such tests
two-faults : (a b : Bool) → IfErr (bind (unless BadInitial a) (λ _. unless BadInitial b)) IsBadInitial
two-faults true b = unless-faults BadInitial b
two-faults false b = refl

-- the bytes of `initial` are refused as BadInitial alone
pub initial_bytes-faults : (e : EntryParts) (text : List ℕ) → IfErr (initial_bytes e text) (λ what. what ≡ BadInitial)
initial_bytes-faults e text =
    bind-faults IsBadInitial (register_check e)
    (λ _. bind (or_fault BadInitial (hex_bytes text))
    (λ bytes. bind (unless BadInitial (is_length (register_form e.shape) (length bytes))) (λ _. Ok bytes)))
    (two-faults (not (nat_eq e.code 0x00 || nat_eq e.code 0x20)) (is_some (register_form e.shape)))
    (λ _. bind-faults IsBadInitial (or_fault BadInitial (hex_bytes text))
    (λ bytes. bind (unless BadInitial (is_length (register_form e.shape) (length bytes))) (λ _. Ok bytes))
    (or_fault-faults BadInitial (hex_bytes text))
    (λ bytes. bind-faults IsBadInitial (unless BadInitial (is_length (register_form e.shape) (length bytes)))
    (λ _. Ok bytes) (unless-faults BadInitial (is_length (register_form e.shape) (length bytes))) (λ _. tt)))

-- a text whose type is right
bytes_rule-faults : (e : EntryParts) (d : Data) → bind {Y = Unit} (typed as_str d) (λ _. Ok tt) ≡ Ok tt
    → IfErr (bytes_rule e d) IsBadInitial
bytes_rule-faults e d is = by (typed as_str d) is
  where
    by : (r : Result (List ℕ) FaultKind) → bind {Y = Unit} r (λ _. Ok tt) ≡ Ok tt
        → IfErr (bind r (initial_bytes e)) IsBadInitial
    by (Ok text) is = initial_bytes-faults e text
    by (Err f) is = cc

-- texts whose types are right
each-faults : (e : EntryParts) (items : Items) → bind {Y = Unit} (each_of (typed as_str) items) (λ _. Ok tt) ≡ Ok tt
    → IfErr (each_of (bytes_rule e) items) IsBadInitial
each-faults e no_items are = tt
each-faults e (item d ds) are = by (typed as_str d) (each_of (typed as_str) ds) are (each-faults e ds)
  where
    by : (r : Result (List ℕ) FaultKind) (rest : Result (List (List ℕ)) FaultKind)
        → bind {Y = Unit} (bind r (λ x. bind rest (λ xs. Ok (x ∷ xs)))) (λ _. Ok tt) ≡ Ok tt
        → (bind {Y = Unit} rest (λ _. Ok tt) ≡ Ok tt → IfErr (each_of (bytes_rule e) ds) IsBadInitial)
        → IfErr (bind (bind r (initial_bytes e)) (λ x. bind (each_of (bytes_rule e) ds) (λ xs. Ok (x ∷ xs))))
        IsBadInitial
    by (Err f) rest are later = cc
    by (Ok text) (Err f) are later = cc
    by (Ok text) (Ok texts) are later =
        bind-faults IsBadInitial (initial_bytes e text) (λ x. bind (each_of (bytes_rule e) ds) (λ xs. Ok (x ∷ xs)))
        (initial_bytes-faults e text)
        (λ x. bind-faults IsBadInitial (each_of (bytes_rule e) ds) (λ xs. Ok (x ∷ xs)) (later refl) (λ _. tt))

-- items whose types are right
items-faults : (e : EntryParts) (pages : ℕ) (items : Items)
    → bind {Y = Unit} (each_of (typed as_str) items) (λ _. Ok tt) ≡ Ok tt
    → IfErr (items_rule e pages items) IsBadInitial
items-faults e pages items are =
    bind-faults IsBadInitial (items_check e pages items) (λ _. each_of (bytes_rule e) items)
    (two-faults e.paged (nat_eq (item_count items) pages)) (λ _. each-faults e items are)

-- a value whose type is right
rule-faults : (e : EntryParts) (pages : ℕ) (d : Data) (array : Option Items) → text_type d array ≡ Ok tt
    → IfErr (initial_rule e pages d array) IsBadInitial
rule-faults e pages d None is =
    bind-faults IsBadInitial (bytes_rule e d) (λ bytes. Ok (Same bytes)) (bytes_rule-faults e d is) (λ _. tt)
rule-faults e pages d (Some items) is =
    bind-faults IsBadInitial (items_rule e pages items) (λ each. Ok (Each each)) (items-faults e pages items is)
    (λ _. tt)

pub initial_of-faults : (e : EntryParts) (pages : ℕ) (value : Option Data) → IsTyped value
    → IfErr (initial_of e pages value) IsBadInitial
initial_of-faults e pages None is = tt
initial_of-faults e pages (Some d) is =
    bind-faults IsBadInitial (initial_rule e pages d (as_array d)) (λ initial. Ok (Some initial))
    (rule-faults e pages d (as_array d) is) (λ _. tt)

-- so what is claimed of other faults holds of those of `initial`
pub no_other_fault : {Y : Type 0} (Q : FaultKind → Type 0) (e : EntryParts) (pages : ℕ) (value : Option Data)
    (next : Option InitialParts → Y) → IsTyped value
    → IfErr (bind (initial_of e pages value) (λ initial. Ok (next initial))) (λ what. what ≢ BadInitial → Q what)
no_other_fault Q e pages value next is = by (initial_of e pages value) (initial_of-faults e pages value is)
  where
    by : (r : Result (Option InitialParts) FaultKind) → IfErr r IsBadInitial
        → IfErr (bind r (λ initial. Ok (next initial))) (λ what. what ≢ BadInitial → Q what)
    by (Ok x) only = tt
    by (Err f) only = λ other. absurd (other only)

-- what is read passed the test whose faults are told, so nothing is left to show of a fault
pub passed : {X : Type 0} (Q : FaultKind → Type 0) (r : Result Unit FaultKind) (x : X)
    → IfErr r (λ what. ◌≡◌ {A = Result X FaultKind} (Ok x) (Err what)) → IfErr r Q
passed Q (Ok u) x told = tt
passed Q (Err f) x told = cc

-- a fault that a step tells, the steps around it tell too
pub told_too : (X Y : Type 0) (r : Result Unit FaultKind) (fault : FaultKind)
    → IfErr r (λ what. ◌≡◌ {A = Result X FaultKind} (Err fault) (Err what))
    → IfErr r (λ what. ◌≡◌ {A = Result Y FaultKind} (Err fault) (Err what))
told_too X Y (Ok u) fault told = tt
told_too X Y (Err f) fault told = cc
