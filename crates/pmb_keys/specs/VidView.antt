-- What contracts see of a device's VID tables.
use Rattle.pmb_command.specs.Parts.{VidParts, OfPages, OfTypes}
use Rattle.pmb_keys.specs.declared.vid.VidTables.{VidTables}
use Rattle.pmb_keys.specs.declared.vid.VidTables.TheVariants as code

abbrev pub vid_parts : VidTables → VidParts
vid_parts (code.OfPages tables) = OfPages tables.items
vid_parts (code.OfTypes tables) = OfTypes tables.items
