use Rattle.std.proofs.Common.{subst}
use Rattle.pmb_telling.specs.declared.engine.EngineState.{EngineState}
use Rattle.pmb_telling.specs.machine.Standing.{InBadLine, InBadWord, StandsIn, teller_bad_words, teller_choice}
use Rattle.pmb_telling.specs.machine.Standing.{teller_profile}
use Rattle.pmb_telling.proofs.Steps.{behind_as, line_at_hand, word_at_hand}
use Rattle.pmb_telling.proofs.Taking.{puts_none}
use Rattle.pmb_telling.specs.machine.Standing.{TakesLine}
use Rattle.pmb_telling.proofs.engine.Teller.take_line.Goals as goal

pub returns-in-Words-clause-takes : goal.returns-in-Words-clause-takes
returns-in-Words-clause-takes g c start given text stands =
    c.take_words.ensures.takes start given text c.in-Words.is
    (subst (λ (i : EngineState). StandsIn g.K.Keeper.Keeps i start c.args.self.now given text) c.in-Words.is stands)

pub returns-in-BadWord-clause-takes : goal.returns-in-BadWord-clause-takes
returns-in-BadWord-clause-takes g c start given text stands =
    let choice = teller_choice start in
    let profile = teller_profile start in
    let kept = c.args.self.now.kept in
    let bytes = c.args.bytes.now in
    let word = subst (λ (i : EngineState). StandsIn g.K.Keeper.Keeps i start c.args.self.now given text)
    c.in-BadWord.is stands in
    c.take_bad_word.ensures.takes start given text c.in-BadWord.is
    (record {
      made = word.made;
      behind = behind_as g.K.Keeper.Keeps choice profile (teller_bad_words start) _
          (InBadWord g.K.Keeper.Keeps choice profile _ kept)
          (InBadWord g.K.Keeper.Keeps choice profile bytes kept) given text word.behind
          (word_at_hand g.K.Keeper.Keeps choice profile bytes word.behind.keeper word.behind.b word.behind.used
          word.behind.put kept word.behind.holds);
    })

pub returns-in-BadLine-clause-takes : goal.returns-in-BadLine-clause-takes
returns-in-BadLine-clause-takes g c start given text stands =
    let choice = teller_choice start in
    let profile = teller_profile start in
    let kept = c.args.self.now.kept in
    let bytes = c.args.bytes.now in
    let line = subst (λ (i : EngineState). StandsIn g.K.Keeper.Keeps i start c.args.self.now given text)
    c.in-BadLine.is stands in
    puts_none (λ t. TakesLine g.K.Keeper.Keeps start c.drop_line.new.self given bytes c.drop_line.result t) _ _ text
    (c.drop_line.ensures.takes start given text c.in-BadLine.is (
      line.0,
      record {
        made = line.1.made;
        behind = behind_as g.K.Keeper.Keeps choice profile (teller_bad_words start) _
            (InBadLine g.K.Keeper.Keeps choice profile _ kept)
            (InBadLine g.K.Keeper.Keeps choice profile bytes kept) given text line.1.behind
            (line_at_hand g.K.Keeper.Keeps choice profile bytes line.1.behind.keeper line.1.behind.b line.1.behind.used
            line.1.behind.put kept
            line.1.behind.holds);
      },
    ))
