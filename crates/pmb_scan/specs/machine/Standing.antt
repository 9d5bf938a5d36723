-- Where the lexer and the reader of a scan stand.
use Rattle.std.specs.Prelude.{length}
use Rattle.pmb_bus.specs.Lexer.{LexerStandsAt}
use Rattle.pmb_reader.specs.declared.reader.Reader.{Reader}
use Rattle.pmb_reader.specs.Reader.{ReaderStandsAt}
use Rattle.pmb_scan.specs.declared.scan.Scan.{Scan}
use Rattle.pmb_scan.specs.Reached.{Reached, LeadsOn}

-- the reader was given the events
pub record ReaderReached (reader : Reader) (reached : Reached) : Type 0 where
  pub stands : ReaderStandsAt reached.profile reader reached.standing
  pub reads : LeadsOn reached

abbrev pub HasRead : Scan → Reached → Type 0
HasRead scan reached = ReaderReached scan.reader reached

-- and the lexer the bytes
pub record ScanStandsAt (scan : Scan) (reached : Reached) : Type 0 where
  pub lexer : LexerStandsAt scan.lexer (length reached.text) reached.text reached.events
  pub reader : HasRead scan reached
