use Rattle.pmb_format.proofs.OneNearest.{IsSeparated, one_even_neighbour}
use Rattle.pmb_format.proofs.EvenRows.{row_separated}
use Rattle.pmb_format.proofs.evenly_spaced.obeys_laws.Goals as goal

pub returns : goal.returns
returns g c =
    let f = g.E.Codes.coding c.args.format.now in
    let separated : IsSeparated f = row_separated f (g.E.EvenlySpaced.row c.args.format.now)
    c.spacing-in_order.ensures.in_order in
    record {
      one_code = separated.one_code;
      canonical_codes = separated.canonical_codes;
      one_even =
          one_even_neighbour f separated;
    }
