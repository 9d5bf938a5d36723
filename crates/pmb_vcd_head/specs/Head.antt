-- What the words of a head say, one after the other.
use Rattle.std.specs.Prelude.{ℕ, ◌+◌, ◌-◌, ◌^◌, ◌==◌, ◌&&◌, nat_lt, min, true, false, Bool, Option, Some, None}
use Rattle.std.specs.Prelude.{if◌then◌else◌, List, [], ◌∷◌, ◌++◌, codes, length}
use Rattle.std.specs.Str.{bytes_eq}
use Rattle.pmb_vcd.specs.Timescale.{scale_of}
use Rattle.pmb_vcd_head.specs.Scopes.{close, lose, most_name, no_scopes, with_opened}
use Rattle.pmb_vcd_head.specs.declared.head.Head.{Head}
use Rattle.pmb_vcd_head.specs.declared.head.Part.{Part}
use Rattle.pmb_vcd_head.specs.declared.head.Part.TheVariants.{Timescale, Scope, Upscope, Var, Last, Other}
use Rattle.pmb_vcd_head.specs.declared.head.Told.{Told}
use Rattle.pmb_vcd_head.specs.declared.head.Told.TheVariants.{Nothing, Signal, End}

-- what becomes of a head at a word, and what that told
pub record Step : Type 0 where
  pub now : Head
  pub told : Told

abbrev pub quiet : Head → Step
quiet h = record { now = h; told = Nothing }

-- no word came yet
abbrev pub fresh : Head
fresh = record {
  scale = None;
  scopes = no_scopes;
  part = None;
  count = 0;
  fits = true;
  unit = record { items = [] };
  is_bit = false;
  id = record { items = [] };
  name = record { items = [] };
  full = record { items = [] };
}

-- ---- sections

-- any section: a word with `$` that is not `$end`
abbrev pub begins_part : List ℕ → Option Part
begins_part [] = None
begins_part (byte ∷ word) = if byte == 36 then Some Other else None

abbrev pub other_of : List ℕ → Option Part
other_of word = if bytes_eq word (codes "$end") then None else begins_part word

abbrev pub part_of : List ℕ → Option Part
part_of word =
    if bytes_eq word (codes "$timescale") then Some Timescale else
    if bytes_eq word (codes "$scope") then Some Scope else
    if bytes_eq word (codes "$upscope") then Some Upscope else
    if bytes_eq word (codes "$var") then Some Var else
    if bytes_eq word (codes "$enddefinitions") then Some Last else other_of word

-- a section begins: nothing is kept of the one before
abbrev pub opened : Head → Option Part → Head
opened h (Some part) = record {
  scale = h.scale;
  scopes = h.scopes;
  part = Some part;
  count = 0;
  fits = true;
  unit = record { items = [] };
  is_bit = false;
  id = record { items = [] };
  name = record { items = [] };
  full = h.full;
}
opened h None = h

-- ---- words within a section

-- words of a time unit are joined, and so are those of a name, as far as there is room
abbrev pub most_unit : ℕ
most_unit = 16

abbrev pub most_id : ℕ
most_id = 64

abbrev pub with_unit : Head → List ℕ → Head
with_unit h word =
    if nat_lt most_unit (length h.unit.items + length word) then record h { fits = false } else
    record h { unit = record { items = h.unit.items ++ word } }

abbrev pub joined : Head → List ℕ → Head
joined h word =
    if nat_lt most_name (length h.name.items + length word) then record h { fits = false } else
    record h { name = record { items = h.name.items ++ word } }

abbrev pub with_id : Head → List ℕ → Head
with_id h word =
    if nat_lt most_id (length h.id.items + length word) then record h { fits = false } else
    record h { id = record { items = h.id.items ++ word } }

-- the type, the width, the ID and the name of a signal
abbrev pub keep_signal : Head → List ℕ → Head
keep_signal h word =
    if h.count == 0 then h else
    if h.count == 1 then record h { is_bit = bytes_eq word (codes "1") } else
    if h.count == 2 then with_id h word else joined h word

-- the name of a scope stands behind its type
abbrev pub keep_scope : Head → List ℕ → Head
keep_scope h word = if h.count == 1 then joined h word else h

abbrev pub keep : Head → Part → List ℕ → Head
keep h Timescale word = with_unit h word
keep h Scope word = keep_scope h word
keep h Upscope word = h
keep h Var word = keep_signal h word
keep h Last word = h
keep h Other word = h

-- ---- the end of a section

-- whether it is a signal of one bit, and all its words have room
abbrev pub is_whole : Head → Bool
is_whole h = nat_lt 3 h.count && (h.is_bit && (h.fits && h.scopes.lost == 0))

-- the name of a signal with its scopes
abbrev pub with_full : Head → Head
with_full h = record h { full = record { items = h.scopes.text.items ++ h.name.items } }

abbrev pub named : Head → Step
named h =
    if is_whole h then
    (if nat_lt most_name (length h.scopes.text.items + length h.name.items) then quiet h else
    record { now = with_full h; told = Signal })
    else quiet h

abbrev pub with_scale : Head → Head
with_scale h = record h { scale = if h.fits then scale_of h.unit.items else None }

-- a scope whose name has no room is open all the same
abbrev pub with_scope : Head → Head
with_scope h = record h { scopes = if h.fits then with_opened h.scopes h.name.items else lose h.scopes }

abbrev pub ended_part : Head → Part → Step
ended_part h Timescale = quiet (with_scale h)
ended_part h Scope = quiet (with_scope h)
ended_part h Upscope = quiet (record h { scopes = close h.scopes })
ended_part h Var = named h
ended_part h Last = record { now = h; told = End }
ended_part h Other = quiet h

abbrev pub ended : Head → Part → Step
ended h part = ended_part (record h { part = None }) part

-- ---- any word

abbrev pub counted : Head → Head
counted h = record h { count = min (h.count + 1) (2 ^ 64 - 1) }

abbrev pub within : Head → Part → List ℕ → Step
within h part word =
    if bytes_eq word (codes "$end") then ended h part else quiet (counted (keep h part word))

abbrev pub hear_by : Head → Option Part → List ℕ → Step
hear_by h (Some part) word = within h part word
hear_by h None word = quiet (opened h (part_of word))

abbrev pub hear : Head → List ℕ → Step
hear h word = hear_by h h.part word
