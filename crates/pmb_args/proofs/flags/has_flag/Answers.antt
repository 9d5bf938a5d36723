use Rattle.std.proofs.Common.{◌∙◌, ap, refl, codes, List, ℕ}
use Rattle.std.specs.Str.{bytes_eq}
use Rattle.clap.specs.Words.{first_of, found_of, rows_of}
use Rattle.clap.proofs.WalkLemmas.{first_value-rows}
use Rattle.pmb_args.proofs.AskedLemmas.{text_or}
use Rattle.pmb_args.proofs.flags.has_flag.Goals as goal

pub returns : goal.returns
returns c =
    let rows = rows_of (found_of c.args.arguments.now) in
    let flag = text_or c.get_str.result c.unwrap_or.result _ (first_of c.args.name.now rows) (codes "")
    (c.get_str.ensures ∙ first_value-rows (found_of c.args.arguments.now) c.args.name.now) c.unwrap_or.ensures
    refl in
    c.eq.ensures ∙ ap (λ (t : List ℕ). bytes_eq t (codes "true")) flag
