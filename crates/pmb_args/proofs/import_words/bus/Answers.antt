use Rattle.std.proofs.Common.{◌∙◌, Some, ap, codes, option_map, sym}
use Rattle.clap.specs.Words.{Text, found_of}
use Rattle.clap.proofs.WalkLemmas.{first_value-rows}
use Rattle.pmb_args.proofs.import_words.bus.Goals as goal

-- NAME is there.
pub returns-in-Some : goal.returns-in-Some
returns-in-Some c =
    let found = c.get_str.ensures ∙ first_value-rows (found_of c.args.arguments.now) (codes "bus") in
    let some = sym (ap (option_map (λ s. s.now)) c.in-Some.is) ∙ found in
    ap (λ (name : Text). Some name) c.as_bytes.ensures.value ∙ some

-- or it is not
pub returns-in-None : goal.returns-in-None
returns-in-None c =
    let found = c.get_str.ensures ∙ first_value-rows (found_of c.args.arguments.now) (codes "bus") in
    sym (ap (option_map (λ s. s.now)) c.in-None.is) ∙ found
