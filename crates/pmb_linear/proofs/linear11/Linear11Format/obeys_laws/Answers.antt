use Rattle.pmb_linear.specs.Linear.{linear11}
use Rattle.pmb_linear.proofs.OneLinear11.{IsSeparated-linear11}
use Rattle.pmb_format.proofs.OneNearest.{one_even_neighbour}
use Rattle.pmb_linear.proofs.linear11.Linear11Format.obeys_laws.Goals as goal

pub returns : goal.returns
returns c =
    record {
      one_code = IsSeparated-linear11.one_code;
      canonical_codes = IsSeparated-linear11.canonical_codes;
      one_even = one_even_neighbour linear11 IsSeparated-linear11;
    }
