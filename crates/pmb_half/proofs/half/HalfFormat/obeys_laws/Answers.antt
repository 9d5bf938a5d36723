use Rattle.pmb_half.specs.Half.{half}
use Rattle.pmb_half.proofs.OneHalf.{IsSeparated-half}
use Rattle.pmb_format.proofs.OneNearest.{one_even_neighbour}
use Rattle.pmb_half.proofs.half.HalfFormat.obeys_laws.Goals as goal

pub returns : goal.returns
returns c =
    record {
      one_code = IsSeparated-half.one_code;
      canonical_codes = IsSeparated-half.canonical_codes;
      one_even = one_even_neighbour half IsSeparated-half;
    }
