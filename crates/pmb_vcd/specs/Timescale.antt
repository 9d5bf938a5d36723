-- The time unit of a VCD.
use Rattle.std.specs.Prelude.{ℕ, ◌*◌, ◌^◌, Option, Some, None, if◌then◌else◌, List, codes}
use Rattle.std.specs.Str.{bytes_eq}
use Rattle.pmb_words.specs.Parts.{after}

-- femtoseconds of a unit
abbrev pub unit_of : List ℕ → Option ℕ
unit_of name =
    if bytes_eq name (codes "s") then Some (10 ^ 15) else
    if bytes_eq name (codes "ms") then Some (10 ^ 12) else
    if bytes_eq name (codes "us") then Some (10 ^ 9) else
    if bytes_eq name (codes "ns") then Some (10 ^ 6) else
    if bytes_eq name (codes "ps") then Some (10 ^ 3) else
    if bytes_eq name (codes "fs") then Some 1 else None

abbrev pub times : ℕ → Option ℕ → Option ℕ
times count (Some unit) = Some (count * unit)
times count None = None

abbrev pub scale_by : Option (List ℕ) → Option (List ℕ) → Option (List ℕ) → Option ℕ
scale_by (Some name) tens ones = times 100 (unit_of name)
scale_by None (Some name) ones = times 10 (unit_of name)
scale_by None None (Some name) = times 1 (unit_of name)
scale_by None None None = None

-- 1, 10 or 100 and a unit, in femtoseconds: `100ps` is 100,000
abbrev pub scale_of : List ℕ → Option ℕ
scale_of text = scale_by (after (codes "100") text) (after (codes "10") text) (after (codes "1") text)
