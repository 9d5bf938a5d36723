-- The time unit of a head, if it is known, is longer than nothing.
use Rattle.std.proofs.Common.{◌≡◌, ℕ, ◌+◌, ◌^◌, ◌<◌, ◌==◌, true, false, Bool, Option, Some, None, if◌then◌else◌, List}
use Rattle.std.proofs.Common.{refl, arith}
use Rattle.std.specs.Prelude.{codes, nat_lt, length}
use Rattle.std.specs.Str.{bytes_eq}
use Rattle.pmb_words.specs.Parts.{after}
use Rattle.pmb_vcd.specs.Timescale.{scale_by, scale_of, times, unit_of}
use Rattle.pmb_vcd_head.specs.Head as heads
use Rattle.pmb_vcd_head.specs.Scopes.{most_name}
use Rattle.pmb_vcd_head.specs.declared.head.Head.{Head}
use Rattle.pmb_vcd_head.specs.declared.head.Part.{Part}
use Rattle.pmb_vcd_head.specs.declared.head.Told.TheVariants.{Signal}
use Rattle.pmb_vcd_head.specs.declared.head.Part.TheVariants.{Timescale, Scope, Upscope, Var, Last, Other}

abbrev pub IsSome : Option ℕ → Type 0
IsSome (Some scale) = 0 < scale
IsSome None = Unit {0}

-- ---- units

unit_if : (is : Bool) (unit : ℕ) (other : Option ℕ) → 0 < unit → IsSome other → IsSome (if is then Some unit else other)
unit_if true unit other some rest = some
unit_if false unit other some rest = rest

unit_some : (name : List ℕ) → IsSome (unit_of name)
unit_some name =
    unit_if (bytes_eq name (codes "s")) (10 ^ 15) _ (omega arith)
    (unit_if (bytes_eq name (codes "ms")) (10 ^ 12) _ (omega arith)
    (unit_if (bytes_eq name (codes "us")) (10 ^ 9) _ (omega arith)
    (unit_if (bytes_eq name (codes "ns")) (10 ^ 6) _ (omega arith)
    (unit_if (bytes_eq name (codes "ps")) (10 ^ 3) _ (omega arith)
    (unit_if (bytes_eq name (codes "fs")) 1 None (omega arith) tt)))))

hundred : (unit : Option ℕ) → IsSome unit → IsSome (times 100 unit)
hundred (Some unit) some = omega arith
hundred None some = tt

ten : (unit : Option ℕ) → IsSome unit → IsSome (times 10 unit)
ten (Some unit) some = omega arith
ten None some = tt

one : (unit : Option ℕ) → IsSome unit → IsSome (times 1 unit)
one (Some unit) some = omega arith
one None some = tt

by_some : (hundreds tens ones : Option (List ℕ)) → IsSome (scale_by hundreds tens ones)
by_some (Some name) tens ones = hundred (unit_of name) (unit_some name)
by_some None (Some name) ones = ten (unit_of name) (unit_some name)
by_some None None (Some name) = one (unit_of name) (unit_some name)
by_some None None None = tt

scale_some : (text : List ℕ) → IsSome (scale_of text)
scale_some text = by_some (after (codes "100") text) (after (codes "10") text) (after (codes "1") text)

scale_if : (fits : Bool) (text : List ℕ) → IsSome (if fits then scale_of text else None)
scale_if true text = scale_some text
scale_if false text = tt

-- ---- words that change no unit

abbrev Same : Head → Head → Type 0
Same h now = now.scale ≡ h.scale

either_same : (b : Bool) (h one other : Head) → Same h one → Same h other → Same h (if b then one else other)
either_same true h one other first second = first
either_same false h one other first second = second

opened_same : (h : Head) (part : Option Part) → Same h (heads.opened h part)
opened_same h (Some part) = refl
opened_same h None = refl

unit_same : (h : Head) (word : List ℕ) → Same h (heads.with_unit h word)
unit_same h word = either_same (nat_lt heads.most_unit (length h.unit.items + length word)) h _ _ refl refl

joined_same : (h : Head) (word : List ℕ) → Same h (heads.joined h word)
joined_same h word = either_same (nat_lt most_name (length h.name.items + length word)) h _ _ refl refl

id_same : (h : Head) (word : List ℕ) → Same h (heads.with_id h word)
id_same h word = either_same (nat_lt heads.most_id (length h.id.items + length word)) h _ _ refl refl

signal_same : (h : Head) (word : List ℕ) → Same h (heads.keep_signal h word)
signal_same h word =
    either_same (h.count == 0) h _ _ refl
    (either_same (h.count == 1) h _ _ refl
    (either_same (h.count == 2) h _ _ (id_same h word) (joined_same h word)))

keep_same : (h : Head) (part : Part) (word : List ℕ) → Same h (heads.keep h part word)
keep_same h Timescale word = unit_same h word
keep_same h Scope word = either_same (h.count == 1) h _ _ (joined_same h word) refl
keep_same h Upscope word = refl
keep_same h Var word = signal_same h word
keep_same h Last word = refl
keep_same h Other word = refl

-- ---- the end of a section

abbrev pub HasUnit : Head → Type 0
HasUnit h = IsSome h.scale

as_before : (h now : Head) → Same h now → HasUnit h → HasUnit now
as_before h now same has = rw same has

full_same : (h : Head) (is_whole is_long : Bool)
    → Same h (if is_whole then (if is_long then heads.quiet h else
    record { now = heads.with_full h; told = Signal })
    else heads.quiet h).now
full_same h true true = refl
full_same h true false = refl
full_same h false is_long = refl

ended_has : (h : Head) (part : Part) → HasUnit h → HasUnit (heads.ended h part).now
ended_has h Timescale has = scale_if h.fits h.unit.items
ended_has h Scope has = has
ended_has h Upscope has = has
ended_has h Var has =
    let shut = record h { part = None } in
    as_before shut (heads.named shut).now
    (full_same shut (heads.is_whole shut) (nat_lt most_name (length h.scopes.text.items + length h.name.items))) has
ended_has h Last has = has
ended_has h Other has = has

-- ---- any word

within_by : (b : Bool) (h : Head) (part : Part) (word : List ℕ) → HasUnit h
    → HasUnit (if b then heads.ended h part else heads.quiet (heads.counted (heads.keep h part word))).now
within_by true h part word has = ended_has h part has
within_by false h part word has = as_before h (heads.keep h part word) (keep_same h part word) has

by_has : (h : Head) (part : Option Part) (word : List ℕ) → HasUnit h → HasUnit (heads.hear_by h part word).now
by_has h (Some part) word has = within_by (bytes_eq word (codes "$end")) h part word has
by_has h None word has = as_before h (heads.opened h (heads.part_of word)) (opened_same h (heads.part_of word)) has

pub hear_has : (h : Head) (word : List ℕ) → HasUnit h → HasUnit (heads.hear h word).now
hear_has h word has = by_has h h.part word has
