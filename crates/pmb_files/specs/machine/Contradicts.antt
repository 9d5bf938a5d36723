-- How words contradict each other.
use Rattle.std.specs.Prelude.{◌≡◌, true, false, codes}
use Rattle.pmb_files.specs.Contradictions.{has_two_inputs, has_two_profiles}
use Rattle.pmb_files.specs.Words.{FileWords, Text}
use Rattle.pmb_files.specs.declared.contradiction.Contradiction.{Contradiction}
use Rattle.pmb_files.specs.declared.contradiction.Contradiction.TheVariants.{TwoProfiles, TwoInputs}

-- its name in the line that says it
abbrev pub contradiction_name : Contradiction → Text
contradiction_name TwoProfiles = codes "TwoProfiles"
contradiction_name TwoInputs = codes "TwoInputs"

-- the words contradict each other so
abbrev pub Contradict : FileWords → Contradiction → Type 0
Contradict said TwoProfiles = has_two_profiles said ≡ true
Contradict said TwoInputs = (has_two_profiles said ≡ false) × (has_two_inputs said ≡ true)
