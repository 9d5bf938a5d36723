use Rattle.std.proofs.Common.{codes}
use Rattle.std.proofs.lemmas.Bool.Decides.{Decides-eqb}
use Rattle.std.proofs.lemmas.Slice.Eq.{strip_suffix_is}
use Rattle.pmb_beagle.proofs.RowLemmas.{digits_are, no_unit_at, stripped}
use Rattle.pmb_beagle.proofs.row.digits_of.Goals as goal

pub returns-in-Some : goal.returns-in-Some
returns-in-Some c =
    let text = c.args.text.now in
    stripped text c.strip_suffix.result
    (strip_suffix_is Decides-eqb text (codes " B") c.strip_suffix.result c.strip_suffix.ensures.cases)
    c.in-Some.digits c.in-Some.is

pub returns-in-Some-strip_suffix : goal.returns-in-Some-strip_suffix
returns-in-Some-strip_suffix c =
    let text = c.args.text.now in
    digits_are text c.strip_suffix.result c.strip_suffix-2.result
    (strip_suffix_is Decides-eqb text (codes " B") c.strip_suffix.result c.strip_suffix.ensures.cases)
    (strip_suffix_is Decides-eqb text (codes "B") c.strip_suffix-2.result c.strip_suffix-2.ensures.cases)
    c.in_default.is c.in-Some-strip_suffix.digits c.in-Some-strip_suffix.is

pub returns-in-None : goal.returns-in-None
returns-in-None c =
    let text = c.args.text.now in
    no_unit_at text c.strip_suffix-2.result
    (strip_suffix_is Decides-eqb text (codes "B") c.strip_suffix-2.result c.strip_suffix-2.ensures.cases) c.in-None.is
