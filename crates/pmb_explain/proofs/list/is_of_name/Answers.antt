use Rattle.std.proofs.Common.{ap, ◌∙◌}
use Rattle.std.specs.Str.{str_eq_ignore_ascii_case}
use Rattle.pmb_explain.proofs.list.is_of_name.Goals as goal

-- the word that was compared is the fault's name
pub returns : goal.returns
returns c = c.is_same_word.ensures ∙ ap (λ word. str_eq_ignore_ascii_case word c.args.name.now) c.name.ensures
