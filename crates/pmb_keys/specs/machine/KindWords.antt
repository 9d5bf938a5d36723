-- What a word for a kind says.
use Rattle.pmb_value.specs.declared.vout.VoutFormat.TheVariants.{Unsigned, Signed}
use Rattle.pmb_keys.specs.declared.words.KindWord.{KindWord}
use Rattle.pmb_keys.specs.declared.words.KindWord.TheVariants.{Plain, ByCoefficients, UnsignedByExponent, SignedByExponent}
use Rattle.pmb_keys.specs.CommandRules.{KindRule, direct_kind, linear16_kind, plain_kind}

abbrev pub rule_of : KindWord → KindRule
rule_of (Plain kind) = plain_kind kind
rule_of ByCoefficients = direct_kind
rule_of UnsignedByExponent = linear16_kind Unsigned
rule_of SignedByExponent = linear16_kind Signed
