-- The parts of a line as slices.
use Rattle.pmb_colour.specs.declared.cut.LineParts.{LineParts}
use Rattle.pmb_colour.specs.Cut.{Parts}

abbrev pub parts_in : LineParts → Parts
parts_in parts = record { front = parts.front.now; cell = parts.cell.now; tail = parts.tail.now }
