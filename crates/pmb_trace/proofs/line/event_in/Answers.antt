use Rattle.std.proofs.Common.{◌∙◌, [], Option, ap, sym}
use Rattle.pmb_words.specs.Parts.{blank, pieces}
use Rattle.pmb_trace.specs.Line.{event_at, event_in}
use Rattle.pmb_trace.specs.declared.event_name.EventName.{EventName}
use Rattle.pmb_trace.proofs.Events.{at_word, from_first_piece}
use Rattle.pmb_trace.proofs.line.event_in.Goals as goal

pub loop-word-init : goal.loop-word-init
loop-word-init c = from_first_piece [] (pieces blank c.args.line.now) ∙ ap (event_in []) (sym c.of-rest.ensures.pieces)

-- a word that is no name
pub loop-word-preserved : goal.loop-word-preserved
loop-word-preserved c =
    let front = c.loop-word.front.now in
    let word = c.in-Some.word.now in
    let taken = c.in-Some.ensures.takes in
    c.loop-word.invariant
    ∙ (at_word front (pieces blank c.loop-word.rest.rest.now) word taken.behind taken.whole
    ∙ (ap (λ (name : Option EventName). event_at front taken.behind name (event_in word taken.behind))
    (sym c.name_of.ensures ∙ c.in_default-name_of.is)
    ∙ (from_first_piece word taken.behind ∙ ap (event_in word) (sym taken.left))))
