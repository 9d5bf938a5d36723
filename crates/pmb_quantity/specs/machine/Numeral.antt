-- A numeral without where its digits lie.
use Rattle.std.specs.Prelude.{Option, Some, None}
use Rattle.std.specs.Str.Parse.{AllDigits}
use Rattle.pmb_quantity.specs.Reading as reading
use Rattle.pmb_quantity.specs.declared.numeral.Numeral.{Numeral}
use Rattle.pmb_quantity.specs.declared.numeral.Numeral.TheVariants.{Point, Slash}

abbrev pub view : Numeral → reading.Numeral
view (Point front back) = reading.point front.now back.now
view (Slash front back) = reading.slash front.now back.now

abbrev pub views : Option Numeral → Option reading.Numeral
views None = None
views (Some n) = Some (view n)

-- both parts are digits
abbrev pub HasDigits : Numeral → Type 0
HasDigits (Point front back) = AllDigits 10 front.now × AllDigits 10 back.now
HasDigits (Slash front back) = AllDigits 10 front.now × AllDigits 10 back.now
