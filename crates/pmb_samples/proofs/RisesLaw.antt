-- Times rise between faults: each row that gives a moment is behind the last one that has a time.
use Rattle.std.proofs.Common.{◌≡◌, ◌<◌, ℕ, ◌==◌, ◌&&◌, not, true, false, Bool, Option, Some, None, List, [], ◌∷◌, ◌++◌}
use Rattle.std.proofs.Common.{if◌then◌else◌, refl, nat_lt, arith}
use Rattle.std.specs.Prelude.{is_none}
use Rattle.std.proofs.lemmas.Bool.Decides.{nat_tests}
use Rattle.pmb_io.specs.Lines.{TextLine}
use Rattle.pmb_recording.specs.Content.{content}
use Rattle.std.proofs.Common.{Result, Ok, Err, option_map, codes}
use Rattle.arrayvec.specs.ArrayVec.{ArrayVec}
use Rattle.pmb_sample_fields.specs.Fields.{comma, fields_of, mark_byte}
use Rattle.pmb_sample_fields.specs.Row.{row_of}
use Rattle.pmb_sample_fields.specs.Units.{unit_said}
use Rattle.pmb_sample_fields.specs.declared.fields.Mark.TheVariants as marks
use Rattle.pmb_samples.specs.Heading as headings
use Rattle.pmb_samples.specs.declared.heading.Found.{Found}
use Rattle.pmb_samples.specs.declared.heading.Found.TheVariants as found
use Rattle.pmb_samples.specs.declared.lines.TimesAt.{TimesAt}
use Rattle.pmb_samples.specs.Reads.{content_gives, fault_reads, heard_reads, line_gives, lines_reads, said_gives, text_gives, unread_gives}
use Rattle.pmb_samples.specs.Reads.{quiet}
use Rattle.pmb_samples.specs.Lines.{why_text}
use Rattle.pmb_samples.specs.Reads as reads
use Rattle.pmb_samples.specs.Rows as rows
use Rattle.pmb_samples.specs.Source as source
use Rattle.pmb_samples.specs.declared.lines.Place.{Place}
use Rattle.pmb_samples.specs.declared.lines.Place.TheVariants as at
use Rattle.pmb_samples.specs.declared.lines.SampleLines.{SampleLines}
use Rattle.pmb_samples.specs.declared.row.Heard.TheVariants as heard
use Rattle.pmb_samples.specs.declared.row.Rows.{Rows}
use Rattle.pmb_samples.specs.declared.row.Sample.{Sample}
use Rattle.pmb_samples.specs.declared.row.Why.{Why}
use Rattle.pmb_samples.specs.declared.row.Why.TheVariants as why
use Rattle.pmb_wire_packets.specs.Pieces.{EachRises, Fails, Gives, Read, RisesBehind, first_piece}
use Rattle.pmb_wires.specs.Changes.{Rises, RisesFrom}
use Rattle.pmb_wires.specs.declared.moment.Moment.{Moment}

-- moments behind a time, if there is one
abbrev RisesAfter : Option ℕ → List Moment → Type 0
RisesAfter (Some time) ms = RisesFrom time ms
RisesAfter None ms = Rises ms

any_rises : (last : Option ℕ) (ms : List Moment) → RisesAfter last ms → Rises ms
any_rises None ms are = are
any_rises (Some time) [] are = tt
any_rises (Some time) (m ∷ ms) are = are.1

none_rises : (last : Option ℕ) → RisesAfter last []
none_rises None = tt
none_rises (Some time) = tt

-- reads behind the last time
record After (last : Option ℕ) (given : List Read) : Type 0 where
  first : RisesAfter last (first_piece given)
  others : RisesBehind given

-- What a line gives, in front of reads behind its own last time, is behind the last time in front of it.
abbrev Leads : Option ℕ → Option ℕ → List Read → Type 0
Leads before now given = (more : List Read) → After now more → After before (given ++ more)

nothing_leads : (last : Option ℕ) → Leads last last []
nothing_leads last = λ more after. after

fault_leads : (before now : Option ℕ) (line : ℕ) (why : List ℕ) → Leads before now (Fails line why ∷ [])
fault_leads before now line why = λ more after. record {
  first = none_rises before;
  others = (any_rises now (first_piece more) after.first, after.others);
}

less : (a b : ℕ) → nat_lt a b ≡ true → a < b
less a b is = grind (arith, nat_tests)

moment_leads : (before : Option ℕ) (m : Moment) → rows.is_behind before m.time ≡ true
    → Leads before (Some m.time) (Gives m ∷ [])
moment_leads None m follows = λ more after. record { first = after.first; others = after.others }
moment_leads (Some time) m follows = λ more after. record {
  first = (less time m.time follows, after.first);
  others = after.others;
}

-- ---- rows

abbrev RowLeads : Option ℕ → ℕ → rows.Step → Type 0
RowLeads before line step = Leads before step.now.last (heard_reads line step.heard)

failed_leads : (before : Option ℕ) (r : Rows) (line : ℕ) (w : Why) → RowLeads before line (rows.failed r w)
failed_leads before r line w = fault_leads before r.last line (why_text w)

take_if : (b : Bool) (r : Rows) (line : ℕ) (s : Sample) → rows.is_behind r.last s.time ≡ b
    → RowLeads r.last line (if b then
    record { now = rows.levelled (rows.timed r s) s; heard = heard.Moment (rows.moment_of line s) } else
    rows.failed (rows.timed r s) why.DoesNotFollow)
take_if true r line s is = moment_leads r.last (rows.moment_of line s) is
take_if false r line s is = failed_leads r.last (rows.timed r s) line why.DoesNotFollow

taken_leads : (r : Rows) (line : ℕ) (sample : Option Sample) → RowLeads r.last line (rows.taken r line sample)
taken_leads r line (Some s) = take_if (rows.is_behind r.last s.time) r line s refl
taken_leads r line None = failed_leads r.last r line why.MakesNoSense

judged_leads : (r : Rows) (line : ℕ) (w : Option Why) (sample : Option Sample)
    → RowLeads r.last line (rows.judged_by r line w sample)
judged_leads r line (Some w) sample = failed_leads r.last r line w
judged_leads r line None sample = taken_leads r line sample

heard_if : (b : Bool) (r : Rows) (line : ℕ) (w : Option Why) (sample : Option Sample)
    → RowLeads r.last line (if b then record { now = r; heard = heard.Nothing } else
    rows.judged_by (rows.counted r) line w sample)
heard_if true r line w sample = nothing_leads r.last
heard_if false r line w sample = judged_leads (rows.counted r) line w sample

hear_leads : (r : Rows) (line : ℕ) (text : List ℕ) → RowLeads r.last line (rows.hear r line text)
hear_leads r line text =
    let row = rows.row_at r text in
    let sample = rows.sample_by r row in
    heard_if (is_none sample && not (rows.begins_row r text)) r line (rows.too_many r.most row) sample

-- ---- lines in front of the rows

abbrev LineLeads : SampleLines → reads.Step → Type 0
LineLeads v step = Leads v.rows.last step.now.rows.last step.reads

-- a step that keeps the last time
fault_if : (last : Option ℕ) (line : ℕ) (fault : Option (List ℕ)) → Leads last last (fault_reads line fault)
fault_if last line (Some w) = fault_leads last last line w
fault_if last line None = nothing_leads last

head_leads : (v : SampleLines) (step : source.HeadStep) → step.now.rows.last ≡ v.rows.last
    → LineLeads v (reads.head_gives step)
head_leads v step same =
    rw same (fault_if v.rows.last step.now.line step.fault)

if_same : (b : Bool) (x y : source.HeadStep) (last : Option ℕ) → x.now.rows.last ≡ last → y.now.rows.last ≡ last
    → (if b then x else y).now.rows.last ≡ last
if_same true x y last first second = first
if_same false x y last first second = second

begun_same : (v : SampleLines) (scl sda : ℕ) (found : Result TimesAt (ArrayVec ℕ)) (text : List ℕ)
    → (source.begun_by v scl sda found text).now.rows.last ≡ v.rows.last
begun_same v scl sda (Ok at) text =
    let row = option_map (row_of (source.columns_of scl sda at)) (fields_of comma text) in
    let said = unit_said (source.name_text row) in
    if_same (source.in_unit at v.rate && (v.is_sigrok && is_none said)) (source.over v (source.no_unit (source.name_text row)))
    (source.goes_on (source.begun_rows v (source.columns_of scl sda at)
    (source.times_by at v.rate (source.unit_or_seconds said)) (option_map source.columns_in row))) v.rows.last refl refl
begun_same v scl sda (Err w) text = refl

unclear_same : (v : SampleLines) (unclear : Option (List ℕ)) → (source.unless_unclear v unclear).now.rows.last ≡ v.rows.last
unclear_same v (Some w) = refl
unclear_same v None = refl

tab_same : (v : SampleLines) (unclear : Option (List ℕ)) (step : headings.Step)
    → (source.tab_heading v unclear step).now.rows.last ≡ v.rows.last
tab_same v unclear step =
    let next = source.with_headings v step.now in
    if_same (source.is_wires step.found) (record { now = next; fault = Some (codes "has TAB between its columns") })
    (source.unless_unclear next unclear) v.rows.last refl (unclear_same next unclear)

semicolon_same : (v : SampleLines) (unclear : Option (List ℕ)) (text : List ℕ) (step : headings.Step)
    → (source.semicolon_heading v unclear text step).now.rows.last ≡ v.rows.last
semicolon_same v unclear text step =
    let next = source.with_headings v step.now in
    let tab = headings.read step.now (mark_byte marks.Tab) text in
    if_same (source.is_wires step.found) (record { now = next; fault = Some (codes "has ; between its columns") })
    (source.tab_heading next unclear tab) v.rows.last refl (tab_same next unclear tab)

head_same : (v : SampleLines) (found : Found) (text : List ℕ) → (source.head_by v found text).now.rows.last ≡ v.rows.last
head_same v (found.Wires scl sda) text = begun_same v scl sda (source.times_for v scl sda) text
head_same v (found.Unclear w) text =
    semicolon_same v (Some w.items) text (headings.read v.headings (mark_byte marks.Semicolon) text)
head_same v found.Nothing text =
    semicolon_same v None text (headings.read v.headings (mark_byte marks.Semicolon) text)

-- ---- any line

text_leads : (place : Place) (v : SampleLines) (text : List ℕ) → LineLeads v (text_gives place v text)
text_leads at.Head v text =
    let step = headings.read v.headings comma text in
    head_leads v (source.head_line v text) (head_same (source.with_headings v step.now) step.found text)
text_leads at.Rows v text = hear_leads v.rows v.line text
text_leads at.Over v text = nothing_leads v.rows.last

unread_leads : (place : Place) (v : SampleLines) → LineLeads v (unread_gives place v)
unread_leads at.Head v = fault_leads v.rows.last v.rows.last v.line (why_text why.MakesNoSense)
unread_leads at.Rows v = failed_leads v.rows.last v.rows v.line why.MakesNoSense
unread_leads at.Over v = nothing_leads v.rows.last

said_leads : (says_nothing : Bool) (v : SampleLines) (text : List ℕ)
    → LineLeads v (if says_nothing then quiet v else text_gives v.place v text)
said_leads true v text = nothing_leads v.rows.last
said_leads false v text = text_leads v.place v text

content_leads : (v : SampleLines) (text : Option (List ℕ)) → LineLeads v (content_gives v text)
content_leads v (Some text) = said_leads (source.says_nothing text) (source.noticed v text) text
content_leads v None = unread_leads v.place v

lines_after : (v : SampleLines) (lines : List TextLine) → After v.rows.last (lines_reads v lines)
lines_after v [] = record { first = none_rises v.rows.last; others = tt }
lines_after v (line ∷ lines) =
    content_leads (source.next_line v) (content (v.line == 0) line) (lines_reads (line_gives v line).now lines)
    (lines_after (line_gives v line).now lines)

pub all_rise : (v : SampleLines) (lines : List TextLine) → EachRises (lines_reads v lines)
all_rise v lines =
    let after = lines_after v lines in
    (any_rises v.rows.last (first_piece (lines_reads v lines)) after.first, after.others)
