-- What a whole canonical packet comes to that is taken at once.
use Rattle.std.specs.Prelude.{◌≡◌, ℕ, List, [], length, take}
use Rattle.pmb_bus.specs.declared.event.Event.{Event}
use Rattle.pmb_bus.specs.Text.{EndsBetween, Spells}
use Rattle.pmb_reader.specs.Reader.{Open, last_read}
use Rattle.pmb_scan.specs.declared.scan.Scan.{Scan}
use Rattle.pmb_scan.specs.Reached.{Reached, IsWhole, behind_whole}
use Rattle.pmb_scan.specs.machine.Standing.{ScanStandsAt}

-- A scan that stood between two packets took one at the front of a piece: `used` bytes of the
-- piece, and `count` events.
pub record TakesWhole (reached : Reached) (piece : List ℕ) (used : ℕ) (count : ℕ) (after : Scan) : Type 0 where
  pub n : ℕ
  pub events : List Event
  pub standing : reached.standing ≡ Open n []
  pub between : EndsBetween reached.text
  pub spells : Spells reached.text reached.events
  pub whole : IsWhole reached.profile (last_read after.reader) events (take used piece)
  pub counted : count ≡ length events
  pub stands : ScanStandsAt after (behind_whole reached n (take used piece) events (last_read after.reader))
