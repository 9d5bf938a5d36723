-- The objects of facts.
use Rattle.std.specs.Prelude.{List, map}
use Rattle.pmb_command.specs.Parts.{DeviceParts}
use Rattle.pmb_facts.specs.Fact.{FactData}
use Rattle.pmb_facts.specs.Object.{object_in}
use Rattle.pmb_json_objects.specs.Object.{Object}
use Rattle.pmb_fact_stream.specs.Choice.{ChoiceData}
use Rattle.pmb_fact_stream.specs.Lines.{seen_behind}

-- each by what is known where its packet begins
abbrev pub objects_of : ChoiceData → List DeviceParts → List FactData → List Object
objects_of choice profile facts = map (λ fact. object_in (seen_behind choice profile fact.before) fact) facts
