use Rattle.std.proofs.Common.{rules}
use Rattle.plain_packets.proofs.viability.is_viable.Goals as goal

-- Without events it answers so at once.
pub returns-then-is_empty : goal.returns-then-is_empty
returns-then-is_empty c = search rules
