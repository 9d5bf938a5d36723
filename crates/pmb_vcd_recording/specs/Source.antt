-- What the lines of a VCD give, word by word: moments of both wires, and faults in words.
use Rattle.std.specs.Prelude.{ℕ, ◌+◌, ◌==◌, if◌then◌else◌, length, true, false, Bool, Option, Some, None, option_map, Result, Ok, Err, List, [], codes}
use Rattle.arrayvec.specs.ArrayVec.{ArrayVec}
use Rattle.pmb_io.specs.Count.{capped}
use Rattle.pmb_vcd.specs.Body as body
use Rattle.pmb_vcd.specs.declared.body.Body.{Body}
use Rattle.pmb_vcd.specs.declared.body.Why.{Why}
use Rattle.pmb_vcd.specs.declared.body.Why.TheVariants.{MakesNoSense, DoesNotFollow}
use Rattle.pmb_vcd_head.specs.Head as heads
use Rattle.pmb_vcd_head.specs.declared.head.Told.{Told}
use Rattle.pmb_vcd_head.specs.declared.head.Told.TheVariants.{Nothing, Signal, End}
use Rattle.pmb_vcd_recording.specs.declared.lines.Place.{Place}
use Rattle.pmb_vcd_recording.specs.declared.lines.Place.TheVariants as at
use Rattle.pmb_vcd_recording.specs.declared.lines.VcdLines.{VcdLines}
use Rattle.pmb_wire_names.specs.Kept as names
use Rattle.pmb_wire_names.specs.declared.found.NamedSignal.{NamedSignal}
use Rattle.pmb_wire_names.specs.declared.names.Wires.{Wires}
use Rattle.pmb_wires.specs.declared.moment.Moment.{Moment}

abbrev pub vec_of : List ℕ → ArrayVec ℕ
vec_of bytes = record { items = bytes }

abbrev pub items_of : ArrayVec ℕ → List ℕ
items_of v = v.items

-- What a word, or a line, gives: what the wires got at the last time, if that is over; then a fault. `reads_on` tells
-- whether the rest of the line is read.
pub record Step : Type 0 where
  pub now : VcdLines
  pub moment : Option Moment
  pub fault : Option (List ℕ)
  pub reads_on : Bool

abbrev pub quiet : VcdLines → Step
quiet v = record { now = v; moment = None; fault = None; reads_on = true }

-- nothing came yet
abbrev pub fresh : Option (List ℕ) → Option (List ℕ) → Bool → VcdLines
fresh scl sda is_simulated = record {
  line = 0;
  place = at.Head;
  head = heads.fresh;
  names = names.fresh scl sda;
  body = body.start (vec_of []) (vec_of []) 0 is_simulated;
  is_simulated = is_simulated;
}

-- one more line
abbrev pub next_line : VcdLines → VcdLines
next_line v = record v { line = capped (v.line + 1) }

-- ---- the head

-- what becomes of the lines at a word of the head, and why nothing more is read, where that is so
pub record HeadStep : Type 0 where
  pub now : VcdLines
  pub fault : Option (List ℕ)

abbrev pub goes_on : VcdLines → HeadStep
goes_on v = record { now = v; fault = None }

abbrev pub over : VcdLines → List ℕ → HeadStep
over v why = record { now = record v { place = at.Over }; fault = Some why }

abbrev pub no_timescale : List ℕ
no_timescale = codes "no $timescale"

abbrev pub no_signal : List ℕ
no_signal = codes "no signal has WIDTH 1"

abbrev pub begun_with : VcdLines → ℕ → Result Wires (ArrayVec ℕ) → HeadStep
begun_with v scale (Ok wires) =
    goes_on (record v { place = at.Body; body = body.start wires.scl wires.sda scale v.is_simulated })
begun_with v scale (Err why) = over v why.items

abbrev pub begun : VcdLines → ℕ → HeadStep
begun v scale = begun_with v scale (names.choose v.names)

abbrev pub begun_of : VcdLines → ℕ → HeadStep
begun_of v scale = if length v.names.all.items == 0 then over v no_signal else begun v scale

abbrev pub head_ended : VcdLines → Option ℕ → HeadStep
head_ended v (Some scale) = begun_of v scale
head_ended v None = over v no_timescale

abbrev pub signal : VcdLines → NamedSignal
signal v = record { id = v.head.id; name = v.head.full }

abbrev pub head_told : VcdLines → Told → HeadStep
head_told v Nothing = goes_on v
head_told v Signal = goes_on (record v { names = names.taken v.names (signal v) })
head_told v End = head_ended v v.head.scale

abbrev pub head_word : VcdLines → List ℕ → HeadStep
head_word v word = head_told (record v { head = (heads.hear v.head word).now }) (heads.hear v.head word).told

abbrev pub head_gives : HeadStep → Step
head_gives step = record { now = step.now; moment = None; fault = step.fault; reads_on = true }

-- ---- behind the head

abbrev pub why_text : Why → List ℕ
why_text MakesNoSense = codes "makes no sense"
why_text DoesNotFollow = codes "does not follow"

-- The rest of a line is skipped behind a word that makes no sense.
abbrev pub is_rest_read : Option Why → Bool
is_rest_read (Some MakesNoSense) = false
is_rest_read (Some DoesNotFollow) = true
is_rest_read None = true

abbrev pub with_body : VcdLines → Body → VcdLines
with_body v b = record v { body = b }

abbrev pub body_gives : VcdLines → body.Step → Step
body_gives v step = record {
  now = with_body v step.now;
  moment = step.heard.moment;
  fault = option_map why_text step.heard.fault;
  reads_on = is_rest_read step.heard.fault;
}

-- ---- any word, and a line that can't be read

abbrev pub word_at : Place → VcdLines → List ℕ → Step
word_at at.Head v word = head_gives (head_word v word)
word_at at.Body v word = body_gives v (body.hear v.body v.line word)
word_at at.Over v word = quiet v

abbrev pub take_word : VcdLines → List ℕ → Step
take_word v word = word_at v.place v word

abbrev pub unread_at : Place → VcdLines → Step
unread_at at.Head v = head_gives (record { now = v; fault = Some (why_text MakesNoSense) })
unread_at at.Body v = body_gives v (body.fails v.body MakesNoSense)
unread_at at.Over v = quiet v

abbrev pub unread : VcdLines → Step
unread v = unread_at v.place v

-- ---- the end

abbrev pub end_at : Place → VcdLines → Step
end_at at.Head v = quiet v
end_at at.Body v = body_gives v (body.end v.body)
end_at at.Over v = quiet v

abbrev pub take_end : VcdLines → Step
take_end v = end_at v.place v
