use Rattle.std.proofs.Common.{◌≡◌, ◌∙◌, ℕ, Option, Some, ap, codes, option_map, sym, unwrap_or}
use Rattle.clap.specs.Words.{found_of}
use Rattle.clap.proofs.WalkLemmas.{first_value-rows}
use Rattle.pmb_args.specs.Import.{hertz_of_word}
use Rattle.pmb_args.proofs.import_words.hertz.Goals as goal

-- HZ is there.
pub returns-in-Some : goal.returns-in-Some
returns-in-Some c =
    let found = c.get_str.ensures ∙ first_value-rows (found_of c.args.arguments.now) (codes "rate") in
    let some = sym (ap (option_map (λ s. s.now)) c.in-Some.is) ∙ found in
    let number : c.unwrap_or.result ≡ hertz_of_word c.in-Some.word.now = c.unwrap_or.ensures
    ∙ ap (λ (n : Option ℕ). unwrap_or n 0) c.decimal.ensures ∙ ap hertz_of_word c.as_bytes.ensures.value in
    ap (λ (hertz : ℕ). Some hertz) number ∙ ap (option_map hertz_of_word) some

-- or it is not
pub returns-in-None : goal.returns-in-None
returns-in-None c =
    let found = c.get_str.ensures ∙ first_value-rows (found_of c.args.arguments.now) (codes "rate") in
    ap (option_map hertz_of_word) (sym (ap (option_map (λ s. s.now)) c.in-None.is) ∙ found)
