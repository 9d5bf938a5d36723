-- Rows of samples: what the wires have at a time, and faults.
use Rattle.std.specs.Prelude.{ℕ, ◌+◌, ◌==◌, ◌||◌, ◌&&◌, not, true, false, Bool, nat_le, nat_lt, is_none, is_some}
use Rattle.std.specs.Prelude.{Option, Some, None, if◌then◌else◌, option_map, List, [], ◌∷◌}
use Rattle.pmb_io.specs.Count.{capped}
use Rattle.pmb_sample_fields.specs.Fields.{comma, fields_of}
use Rattle.pmb_sample_fields.specs.Row.{RowText, row_of}
use Rattle.pmb_sample_fields.specs.Times.{at_samples, time_at_rate, time_in}
use Rattle.pmb_samples.specs.Levels.{form_for, level_of}
use Rattle.pmb_samples.specs.declared.levels.Form.{Form}
use Rattle.pmb_samples.specs.declared.levels.Forms.{Forms}
use Rattle.pmb_samples.specs.declared.row.Heard.{Heard}
use Rattle.pmb_samples.specs.declared.row.Heard.TheVariants as heard
use Rattle.pmb_samples.specs.declared.row.Rows.{Rows}
use Rattle.pmb_samples.specs.declared.row.Sample.{Sample}
use Rattle.pmb_samples.specs.declared.row.Times.{Times}
use Rattle.pmb_samples.specs.declared.row.Times.TheVariants as times
use Rattle.pmb_samples.specs.declared.row.Why.{Why}
use Rattle.pmb_samples.specs.declared.row.Why.TheVariants as why
use Rattle.pmb_sigrok_line.specs.Shown.{hertz_of}
use Rattle.pmb_wires.specs.Changes.{nothing}
use Rattle.pmb_wires.specs.declared.level.Level.{Level}
use Rattle.pmb_wires.specs.declared.moment.Moment.{Moment}

-- ---- what a row has

abbrev pub form_of_scl : Option Forms → Option Form
form_of_scl (Some forms) = Some forms.scl
form_of_scl None = None

abbrev pub form_of_sda : Option Forms → Option Form
form_of_sda (Some forms) = Some forms.sda
form_of_sda None = None

-- so many rows came before it
abbrev pub time_of : Times → ℕ → Option (List ℕ) → Option ℕ
time_of (times.Rows rate) count text = Some (at_samples (hertz_of rate) false count)
time_of (times.Samples rate) count (Some text) = time_at_rate (hertz_of rate) text
time_of (times.Samples rate) count None = None
time_of (times.In unit) count (Some text) = time_in unit text
time_of (times.In unit) count None = None

abbrev pub forms_of : Rows → RowText → Forms
forms_of r row = record {
  scl = form_for (form_of_scl r.forms) r.volts row.scl;
  sda = form_for (form_of_sda r.forms) r.volts row.sda;
}

-- a time and both levels, where there are all
abbrev pub sample_with : Forms → Option ℕ → Option Level → Option Level → Option Sample
sample_with forms (Some time) (Some scl) (Some sda) = Some (record {
  time = time;
  scl = scl;
  sda = sda;
  forms = forms;
})
sample_with forms (Some time) (Some scl) None = None
sample_with forms (Some time) None sda = None
sample_with forms None scl sda = None

abbrev pub read_with : Rows → RowText → Forms → Option Sample
read_with r row forms =
    sample_with forms (time_of r.times r.count row.time) (level_of forms.scl r.volts r.levels.scl row.scl)
    (level_of forms.sda r.volts r.levels.sda row.sda)

abbrev pub read : Rows → RowText → Option Sample
read r row = read_with r row (forms_of r row)

abbrev pub sample_by : Rows → Option RowText → Option Sample
sample_by r (Some row) = read r row
sample_by r None = None

-- ---- a row that is taken

-- what becomes of the rows, and what a line gives
pub record Step : Type 0 where
  pub now : Rows
  pub heard : Heard

-- A fault: no level is known behind it.
abbrev pub failed : Rows → Why → Step
failed r w = record { now = record r { levels = nothing }; heard = heard.Fault w }

abbrev pub is_behind : Option ℕ → ℕ → Bool
is_behind (Some last) time = nat_lt last time
is_behind None time = true

-- both wires have a level, that a line says
abbrev pub moment_of : ℕ → Sample → Moment
moment_of line s = record {
  time = s.time;
  scl = Some (record { line = line; level = s.scl });
  sda = Some (record { line = line; level = s.sda });
}

abbrev pub timed : Rows → Sample → Rows
timed r s = record r { last = Some s.time; forms = Some s.forms }

abbrev pub levelled : Rows → Sample → Rows
levelled r s = record r { levels = record { scl = Some s.scl; sda = Some s.sda } }

-- Times rise from row to row. One that does not counts for the next row.
abbrev pub take : Rows → ℕ → Sample → Step
take r line s =
    if is_behind r.last s.time then record { now = levelled (timed r s) s; heard = heard.Moment (moment_of line s) } else
    failed (timed r s) why.DoesNotFollow

-- ---- any row

-- a row that has more fields than the heading
abbrev pub too_many_of : ℕ → ℕ → Option Why
too_many_of most count = if nat_lt most count then Some (why.HasColumns count most) else None

abbrev pub too_many : Option ℕ → Option RowText → Option Why
too_many (Some most) (Some row) = too_many_of most row.count
too_many (Some most) None = None
too_many None row = None

abbrev pub taken : Rows → ℕ → Option Sample → Step
taken r line (Some s) = take r line s
taken r line None = failed r why.MakesNoSense

abbrev pub judged_by : Rows → ℕ → Option Why → Option Sample → Step
judged_by r line (Some w) sample = failed r w
judged_by r line None sample = taken r line sample

abbrev pub judged : Rows → ℕ → Option RowText → Option Sample → Step
judged r line row sample = judged_by r line (too_many r.most row) sample

-- ---- any line

-- whether a text begins with a digit, a sign or a point
abbrev pub begins_number : List ℕ → Bool
begins_number [] = false
begins_number (byte ∷ text) = (nat_le 48 byte && nat_le byte 57) || (byte == 45 || (byte == 43 || byte == 46))

-- Lines in front of the first row say nothing, but one behind the heading that begins as a number does.
abbrev pub begins_row : Rows → List ℕ → Bool
begins_row r text = nat_lt 0 r.count || (is_some r.most && begins_number text)

abbrev pub counted : Rows → Rows
counted r = record r { count = capped (r.count + 1) }

abbrev pub row_at : Rows → List ℕ → Option RowText
row_at r text = option_map (row_of r.columns) (fields_of comma text)

abbrev pub hear_by : Rows → ℕ → List ℕ → Option RowText → Option Sample → Step
hear_by r line text row sample =
    if is_none sample && not (begins_row r text) then record { now = r; heard = heard.Nothing } else
    judged (counted r) line row sample

abbrev pub hear : Rows → ℕ → List ℕ → Step
hear r line text = hear_by r line text (row_at r text) (sample_by r (row_at r text))
