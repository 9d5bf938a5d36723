use Rattle.std.proofs.Common.{◌≡◌, Some, refl}
use Rattle.pmb_line.specs.declared.token.Token.TheVariants.{Pec}
use Rattle.pmb_line.specs.Left.{end, text_word, words_left}
use Rattle.pmb_line.specs.Token.{token_of}
use Rattle.pmb_request.specs.machine.Reading.{StandsAt, behind, ended}
use Rattle.pmb_request.proofs.Standing.{asks, no_more, pec_on, unfit_word}
use Rattle.pmb_request.proofs.command_words.take_end.Goals as goal

pub returns-then-not-is_pec : goal.returns-then-not-is_pec
returns-then-not-is_pec c all a d task stands no_bytes =
    unfit_word all (end c.args.words.now) (behind a d task) (text_word c.in-Some.word) _ _ stands c.in-Some.ensures.some
    (no_more a d task (text_word c.in-Some.word) _ _ c.in-Some.ensures.some no_bytes
    (λ is. cc (c.is_pec.ensures.1 is, c.if-not-is_pec.true)))

pub returns-in-Some-next_word : goal.returns-in-Some-next_word
returns-in-Some-next_word c all a d task stands no_bytes =
    let is_pec : token_of c.in-Some.word.text.now ≡ Some Pec = c.is_pec.ensures.0 c.if-not-is_pec.false in
    let at_end : StandsAt all (ended a d task) (words_left c.next_word.new.self) =
    pec_on all a d task (text_word c.in-Some.word) _ _ stands c.in-Some.ensures.some is_pec in
    unfit_word all (end c.args.words.now) (ended a d task) (text_word c.in-Some-next_word.extra) _ _ at_end
    c.in-Some-next_word.ensures.some refl

pub returns-in-None : goal.returns-in-None
returns-in-None c all a d task stands no_bytes =
    let is_pec : token_of c.in-Some.word.text.now ≡ Some Pec = c.is_pec.ensures.0 c.if-not-is_pec.false in
    let at_end : StandsAt all (ended a d task) (words_left c.next_word.new.self) =
    pec_on all a d task (text_word c.in-Some.word) _ _ stands c.in-Some.ensures.some is_pec in
    asks all (ended a d task) _ _ at_end (c.in-None.ensures.none refl) refl
