use Rattle.std.proofs.Common.{◌≢◌, get_or, true≢false, sym, ◌∙◌, subst, arith, w16}
use Rattle.std.proofs.lemmas.Str.Pattern.{starts_char}
use Rattle.pmb_convert.specs.machine.Parts.{ReadsInteger}
use Rattle.pmb_convert.proofs.Integers.{reads_integer, plus_is_none}
use Rattle.pmb_convert.proofs.spelling.integer.Goals as goal

pub returns-then-starts_with : goal.returns-then-starts_with
returns-then-starts_with c =
    let first = starts_char 43 c.args.text.now c.starts_with.result c.starts_with.ensures.cases (omega arith)
    (omega arith) in
    plus_is_none w16 c.args.text.now (first.0 c.if-starts_with.true)

pub returns : goal.returns
returns c =
    let first = starts_char 43 c.args.text.now c.starts_with.result c.starts_with.ensures.cases (omega arith)
    (omega arith) in
    let no_plus : get_or c.args.text.now 0 0 ≢ 43 = λ plus. true≢false (sym (first.1 plus) ∙ c.if-starts_with.false) in
    subst (ReadsInteger w16 c.args.text.now) (sym c.ok.ensures.value)
    (reads_integer w16 c.args.text.now c.parse.result no_plus c.parse.ensures.value.0)
