use Rattle.std.proofs.Common.{rules, ◌≡◌, ◌∙◌, ◌∷◌, []}
use Rattle.std.specs.Str.{bytes_eq}
use Rattle.std.proofs.lemmas.Bool.Decides.{Decides-eqb}
use Rattle.std.proofs.lemmas.Slice.Eq.{strip_suffix_is}
use Rattle.pmb_csv.specs.Fields.{quote}
use Rattle.pmb_saleae.proofs.NameLemmas.{no_quote_behind, quote_behind}
use Rattle.pmb_saleae.proofs.bus.is_before_quote.Goals as goal

pub returns-in-Some : goal.returns-in-Some
returns-in-Some c =
    let text = c.args.text.now in
    let read : c.eq.result ≡ bytes_eq c.in-Some.before.now c.args.front.now = search rules in
    read
    ∙ quote_behind text c.args.front.now c.strip_suffix.result c.in-Some.before
    (strip_suffix_is Decides-eqb text (quote ∷ []) c.strip_suffix.result c.strip_suffix.ensures.cases) c.in-Some.is

pub returns-in-None : goal.returns-in-None
returns-in-None c =
    let text = c.args.text.now in
    no_quote_behind text c.args.front.now c.strip_suffix.result
    (strip_suffix_is Decides-eqb text (quote ∷ []) c.strip_suffix.result c.strip_suffix.ensures.cases) c.in-None.is
