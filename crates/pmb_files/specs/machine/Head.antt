-- What is read of a profile's text, and what is wrong with it.
use Rattle.std.specs.Prelude.{◌+◌, ⊤, ℕ, List}
use Rattle.pmb_preamble.specs.Front.{most_profile}
use Rattle.pmb_files.specs.Head.{HasMarkAt, IsTooLong}
use Rattle.pmb_files.specs.declared.head.HeadFault.{HeadFault}
use Rattle.pmb_files.specs.declared.head.HeadFault.TheVariants.{TooLong, Mark, Memory}

-- with more bytes a profile is too long
abbrev pub most_text : ℕ
most_text = most_profile + 4

-- the text has this fault
abbrev pub IsFaultOf : List ℕ → HeadFault → Type 0
IsFaultOf text TooLong = IsTooLong text
IsFaultOf text (Mark line) = HasMarkAt text line
IsFaultOf text Memory = ⊤
