-- On all pages of a register a bit counts as its reads do, and these add up.
use Rattle.std.proofs.Common.{◌≡◌, List, arith, sym, subst}
use Rattle.pmb_command.specs.Parts.{DeviceParts}
use Rattle.pmb_stats.specs.BitCounts.{IsRegister}
use Rattle.pmb_stats_laws.proofs.laws.bits_of_pieces_add_up.Goals as goal

pub returns : goal.returns
returns c ignored profile after front back firsts others whole of_first of_second of_whole addr code bit bus pieces
    first second all register =
    let add = c.counts_of_pieces_add_up.ensures ignored profile after front back firsts others whole bus pieces in
    let here = λ (p : List DeviceParts) (same : p ≡ profile).
    subst (λ (q : List DeviceParts). IsRegister q addr code) (sym same) register in
    omega (
      arith,
      c.pages_make_the_whole.ensures of_whole addr code bit whole (here of_whole.profile all),
      c.pages_make_the_whole.ensures of_first addr code bit firsts (here of_first.profile first),
      c.pages_make_the_whole.ensures of_second addr code bit others (here of_second.profile second),
      add.of_bits addr code bit,
    )
