use Rattle.pmb_json_text.proofs.Pieces.{members_in_parts}
use Rattle.pmb_json_text.proofs.laws.members_follow_members.Goals as goal

pub returns : goal.returns
returns c = members_in_parts
