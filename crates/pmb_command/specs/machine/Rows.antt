-- The rows of the code's table, as the entries that they make.
use Rattle.pmb_command.specs.declared.entry.Kind.{Kind}
use Rattle.pmb_command.specs.declared.entry.Kind.TheVariants.{Raw, Number, Vout, VoutSigned, Status}
use Rattle.pmb_value.specs.declared.number_format.NumberFormat.TheVariants.{Linear11}
use Rattle.pmb_command.specs.declared.commands.Row.{Row}
use Rattle.pmb_command.specs.declared.commands.StandardKind.{StandardKind}
use Rattle.pmb_command.specs.declared.commands.StandardKind.TheVariants as standard
use Rattle.pmb_command.specs.Entry.{EntryParts}

-- a standard kind as a kind
abbrev pub standard_kind : StandardKind → Kind
standard_kind standard.Raw = Raw
standard_kind standard.Linear11 = Number Linear11
standard_kind standard.Vout = Vout
standard_kind standard.VoutSigned = VoutSigned
standard_kind standard.Status = Status

-- a row as an entry
abbrev pub row_parts : Row → EntryParts
row_parts r = record { code = r.0; name = r.1.now; shape = r.2; kind = standard_kind r.3; paged = r.4 }
