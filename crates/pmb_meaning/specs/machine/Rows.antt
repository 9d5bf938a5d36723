-- The rows of the code's tables, as those of the definitions.
use Rattle.std.specs.Prelude.{Option, Some, None, List, [], ◌∷◌, map}
use Rattle.pmb_meaning.specs.Field.{SaidField, field_parts, value_parts}
use Rattle.pmb_meaning.specs.declared.field.Field.{Field}
use Rattle.pmb_meaning.specs.Layout.{NamedValue, is, Sense, flag, signed, number_or, choice, command_code, mask, Condition, always}
use Rattle.pmb_meaning.specs.Layout.{among, FieldRow, CommandLayout, layout}
use Rattle.pmb_meaning.specs.declared.layout.Named.{Named}
use Rattle.pmb_meaning.specs.declared.layout.Sense.{Sense as CodeSense}
use Rattle.pmb_meaning.specs.declared.layout.Sense.TheVariants as senses
use Rattle.pmb_meaning.specs.declared.layout.Condition.{Condition as CodeCondition}
use Rattle.pmb_meaning.specs.declared.layout.Condition.TheVariants as conditions
use Rattle.pmb_meaning.specs.declared.layout.Row.{Row}
use Rattle.pmb_meaning.specs.declared.layout.Layout.{Layout}

abbrev pub named_parts : Named → NamedValue
named_parts n = is n.0 (value_parts n.1)

abbrev pub sense_parts : CodeSense → Sense
sense_parts senses.Flag = flag
sense_parts senses.Signed = signed
sense_parts (senses.NumberOr names) = number_or (map named_parts names.now)
sense_parts (senses.Choice names) = choice (map named_parts names.now)
sense_parts senses.Code = command_code
sense_parts senses.Mask = mask

abbrev pub condition_parts : CodeCondition → Condition
condition_parts conditions.Always = always
condition_parts (conditions.Among low width numbers) = among low width numbers.now

abbrev pub row_parts : Row → FieldRow
row_parts r = record {
  key = r.0.now;
  low = r.1;
  width = r.2;
  sense = sense_parts r.3;
  condition = condition_parts r.4;
}

abbrev pub layout_parts : Layout → CommandLayout
layout_parts l = layout l.0 l.1 (map row_parts l.2.now)

-- the field that was found, if one was
abbrev pub listed_field : Option Field → List SaidField
listed_field None = []
listed_field (Some f) = field_parts f ∷ []
