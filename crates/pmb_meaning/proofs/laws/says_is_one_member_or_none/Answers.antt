use Rattle.pmb_meaning.proofs.SoundLemmas.{says_is_one_or_none}
use Rattle.pmb_meaning.proofs.laws.says_is_one_member_or_none.Goals as goal

pub returns : goal.returns
returns c = says_is_one_or_none
