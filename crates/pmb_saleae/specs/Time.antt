-- The times of a table.
use Rattle.std.specs.Prelude.{ℕ, ◌==◌, ◌&&◌, ◌||◌, true, false, Bool, Option, Some, None, if◌then◌else◌}
use Rattle.std.specs.Prelude.{List, [], ◌∷◌}
use Rattle.std.specs.Prelude.{codes, drop, take}
use Rattle.pmb_csv.specs.Columns.{has_quote}
use Rattle.pmb_recording.specs.Recording.{with_unit}
use Rattle.pmb_saleae.specs.Exponent.{behind_sign, is_decimal, point, written_out}
use Rattle.pmb_saleae.specs.declared.time.Unit.{Unit}
use Rattle.pmb_saleae.specs.declared.time.Unit.TheVariants.{Seconds, Date}
use Rattle.pmb_words.specs.Numbers.{is_digit}
use Rattle.pmb_words.specs.Parts.{after, parted}

-- ---- seconds

-- a decimal number, with a sign or without
abbrev pub is_seconds : List ℕ → Bool
is_seconds text = is_decimal (parted point (behind_sign text))

-- ---- dates

-- a digit where a form has 0, and the form's byte elsewhere
abbrev pub fits : ℕ → ℕ → Bool
fits formed byte = if formed == 48 then is_digit byte else byte == formed

-- a text of a form
abbrev pub has_form : List ℕ → List ℕ → Bool
has_form [] [] = true
has_form [] (byte ∷ text) = false
has_form (formed ∷ form) [] = false
has_form (formed ∷ form) (byte ∷ text) = fits formed byte && has_form form text

-- `hh:mm` or `hhmm` behind a sign
abbrev pub is_offset : List ℕ → Bool
is_offset text =
    has_form (codes "+00:00") text || (has_form (codes "+0000") text || (has_form (codes "-00:00") text
    || has_form (codes "-0000") text))

-- `Z`, an offset or nothing
abbrev pub is_zone : List ℕ → Bool
is_zone text = has_form [] text || (has_form (codes "Z") text || is_offset text)

-- digits, one at least, and a zone
abbrev pub is_fraction_and_zone : Bool → List ℕ → Bool
is_fraction_and_zone some [] = some
is_fraction_and_zone some (byte ∷ text) =
    if is_digit byte then is_fraction_and_zone true text else some && is_zone (byte ∷ text)

-- behind the seconds: a point and digits or not, and the zone
abbrev pub is_rest_with : Option (List ℕ) → List ℕ → Bool
is_rest_with (Some digits) text = is_fraction_and_zone false digits
is_rest_with None text = is_zone text

abbrev pub is_rest : List ℕ → Bool
is_rest text = is_rest_with (after (codes ".") text) text

-- `YYYY-MM-DDThh:mm:ss`
abbrev pub date_form : List ℕ
date_form = codes "0000-00-00T00:00:00"

-- that, and what may stand behind it
abbrev pub is_date : List ℕ → Bool
is_date text = has_form date_form (take 19 text) && is_rest (drop 19 text)

-- ---- the time of a START

abbrev pub unit_of : List ℕ → Option Unit
unit_of text = if is_seconds text then Some Seconds else if is_date text then Some Date else None

-- as it is told: as it stands, or without its exponent
abbrev pub told : List ℕ → Option Unit → List ℕ
told text (Some Seconds) = with_unit text (codes " s")
told text (Some Date) = text
told text None = with_unit (written_out text) (codes " s")

-- What has a quote is no time.
abbrev pub time_of : List ℕ → List ℕ
time_of text = if has_quote text then [] else told text (unit_of text)
