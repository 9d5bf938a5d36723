-- What the values of this crate's types hold, in the words of the definitions.
use Rattle.std.specs.Prelude.{ℕ, true, false, Bool, Option, Some, None, List, ◌++◌, codes, decimal}
use Rattle.pmb_words.specs.Left.{pieces_left}
use Rattle.pmb_trace.specs.Fields as fields
use Rattle.pmb_trace.specs.Line as line
use Rattle.pmb_trace.specs.declared.fields.Number.{Number}
use Rattle.pmb_trace.specs.declared.fields.Outcome.{Outcome}
use Rattle.pmb_trace.specs.declared.fields.OutcomeText.{OutcomeText}
use Rattle.pmb_trace.specs.declared.fields.OutcomeText.TheVariants as outcome_text
use Rattle.pmb_trace.specs.declared.line.Event.{Event}
use Rattle.pmb_trace.specs.declared.line.TraceLine.{TraceLine}
use Rattle.pmb_trace.specs.declared.line.TraceLine.TheVariants as says
use Rattle.pmb_trace.specs.declared.loss.Loss.{Loss}
use Rattle.pmb_trace.specs.declared.loss.Loss.TheVariants as loss

-- ---- fields

abbrev pub number_of : Number → fields.Number
number_of number = record { text = number.text.now; value = number.value }

abbrev pub text_of : OutcomeText → List ℕ
text_of (outcome_text.Written text) = text.now
text_of (outcome_text.Below number) = codes "-" ++ decimal number

abbrev pub outcome_of : Outcome → fields.Outcome
outcome_of outcome = record { text = text_of outcome.text; value = outcome.value }

-- the value alone
abbrev pub value_of : Option fields.Number → Option ℕ
value_of (Some number) = Some number.value
value_of None = None

-- bytes, where a word shows some
abbrev pub shown : Bool → List ℕ → Option (List ℕ)
shown true bytes = Some bytes
shown false bytes = None

-- ---- lines

abbrev pub count_of : Loss → Option (List ℕ)
count_of loss.Some = None
count_of (loss.Written count) = Some count.now
count_of (loss.Number count) = Some (decimal count)

abbrev pub loss_of : Loss → line.Loss
loss_of lost = record { count = count_of lost }

abbrev pub event_of : Event → line.Event
event_of event = record {
  name = event.name;
  front = event.front.now;
  fields = pieces_left event.fields;
  has_other = event.has_other;
}

abbrev pub line_of : TraceLine → line.TraceLine
line_of says.Nothing = line.Nothing
line_of says.Heading = line.Heading
line_of (says.Lost lost) = line.Lost (count_of lost)
line_of (says.Says event) = line.Says (event_of event)
