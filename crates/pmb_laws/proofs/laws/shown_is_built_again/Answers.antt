use Rattle.pmb_bus.specs.Event.{canonical_text}
use Rattle.pmb_laws.proofs.BuiltAgain.{built_again}
use Rattle.pmb_laws.proofs.laws.shown_is_built_again.Goals as goal

pub returns-clause-again : goal.returns-clause-again
returns-clause-again c profile bytes shown events tally bus =
    built_again profile (λ t es comment. c.comments_say_nothing.ensures profile t es comment bus)
    c.lines_are_short.ensures.one (c.lines_are_short.ensures.short profile)
    (λ before t es. c.notes_are_short.ensures.one profile before t es bus)
    (λ before t es. c.notes_are_short.ensures.short profile before t es bus)
    c.one_spelling.ensures bytes shown events tally

pub returns-clause-alone : goal.returns-clause-alone
returns-clause-alone c profile bytes shown built events s t bus spells shows none builds =
    let again = built_again profile (λ u es comment. c.comments_say_nothing.ensures profile u es comment bus)
    c.lines_are_short.ensures.one (c.lines_are_short.ensures.short profile)
    (λ before u es. c.notes_are_short.ensures.one profile before u es bus)
    (λ before u es. c.notes_are_short.ensures.short profile before u es bus)
    c.one_spelling.ensures bytes shown events s spells shows none in
    c.one_building.ensures profile shown built (canonical_text events) t s bus builds again
