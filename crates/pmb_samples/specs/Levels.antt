-- How the levels of a column are written, and which they are.
use Rattle.std.specs.Prelude.{ℕ, ◌||◌, Bool, Option, Some, None, if◌then◌else◌, List, codes}
use Rattle.std.specs.Str.{bytes_eq}
use Rattle.pmb_sample_fields.specs.Levels.{digital_of, usual_volts, volts_level}
use Rattle.pmb_sample_fields.specs.declared.level.Volts.{Volts}
use Rattle.pmb_samples.specs.declared.levels.Form.{Form}
use Rattle.pmb_samples.specs.declared.levels.Form.TheVariants as form
use Rattle.pmb_wires.specs.declared.level.Level.{Level}
use Rattle.pmb_wires.specs.declared.level.Level.TheVariants.{Unknown}

-- ---- how they are written

abbrev pub is_digit : List ℕ → Bool
is_digit text = bytes_eq text (codes "0") || bytes_eq text (codes "1")

abbrev pub form_said : Option (List ℕ) → Form
form_said (Some text) = if is_digit text then form.Digits else form.Volts
form_said None = form.Volts

-- as in the first row: `0` or `1`, where no volts are given
abbrev pub form_for : Option Form → Option Volts → Option (List ℕ) → Form
form_for (Some known) volts text = known
form_for None (Some v) text = form.Volts
form_for None None text = form_said text

-- ---- which they are

abbrev pub volts_or_usual : Option Volts → Volts
volts_or_usual (Some v) = v
volts_or_usual None = usual_volts

abbrev pub level_or_unknown : Option Level → Level
level_or_unknown (Some level) = level
level_or_unknown None = Unknown

-- by what a column has, and the level before
abbrev pub level_by : Form → Volts → Level → List ℕ → Option Level
level_by form.Digits volts before text = digital_of text
level_by form.Volts volts before text = volts_level volts before text

abbrev pub level_of : Form → Option Volts → Option Level → Option (List ℕ) → Option Level
level_of how volts before None = None
level_of how volts before (Some text) = level_by how (volts_or_usual volts) (level_or_unknown before) text
