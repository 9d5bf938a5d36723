use Rattle.std.proofs.Common.{refl}
use Rattle.pmb_keys.proofs.NamedBits.{few_keys, first_keys}
use Rattle.pmb_keys.proofs.bits_key.bit_keys.Goals as goal

pub returns-clause-keys : goal.returns-clause-keys
returns-clause-keys c = first_keys _ _ _ refl c.bit_count.ensures.value

pub returns-clause-few : goal.returns-clause-few
returns-clause-few c = few_keys _ _ c.bit_count.ensures.few
