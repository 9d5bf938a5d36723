use Rattle.std.proofs.Common.{◌≡◌, ◌++◌, List, ℕ, ap, drop, refl, subst, sym, take, take-append-drop, ◌∙◌}
use Rattle.pmb_io.specs.Engines.{PutsOut}
use Rattle.pmb_telling.specs.declared.engine.EngineState.{EngineState}
use Rattle.pmb_telling.specs.declared.engine.EngineState.TheVariants as inside
use Rattle.pmb_telling.specs.declared.engine.Teller.{Teller}
use Rattle.pmb_telling.specs.machine.Standing.{InBadWord, StandsIn, StandsInBadWord, teller_bad_words, teller_choice}
use Rattle.pmb_telling.specs.machine.Standing.{teller_profile}
use Rattle.pmb_telling.proofs.OpenOthers.{OthersAreTold, tells_open}
use Rattle.pmb_telling.proofs.Reading.{made_told, words_on, words_to_bad}
use Rattle.pmb_telling.proofs.Steps.{behind_more}
use Rattle.pmb_telling.proofs.Taking.{line_then}
use Rattle.pmb_scan.specs.Scan.{TakesPiece, end_spans}
use Rattle.pmb_fact_stream.specs.Stream.{StreamStands, kept_by}
use Rattle.pmb_telling.proofs.engine.Teller.take_words.Goals as goal

-- all of the bytes are used
pub returns-in-All-clause-takes : goal.returns-in-All-clause-takes
returns-in-All-clause-takes g c start given text is stands =
    let choice = teller_choice start in
    let profile = teller_profile start in
    let old = c.args.self.now in
    let bytes = c.args.bytes.now in
    let behind = stands.behind in
    let words = behind.holds in
    let new : Teller g.row.K.Denot = record old { scan = c.take_words.new.self; kept = c.take_words.new.visitor } in
    let taken = subst (λ taken. PutsOut (λ more. TakesPiece
    (StreamStands g.K.Keeper.Keeps (kept_by words.begun behind.keeper) c.take_words.new.visitor)
    words.reached bytes taken c.take_words.new.self (behind.put ++ more))
    (g.W.Sink.told c.args.writer.now).held c.args.waiting.now.items (g.W.Sink.told c.take_words.new.writer).held
    c.take_words.new.waiting.items) c.in-All.is
    (c.in_ok-take_words.ensures.takes (kept_by words.begun behind.keeper) words.reached behind.put words.scans
    words.told) in record {
      text = taken.text;
      writes = taken.writes;
      holds = subst (λ (i : EngineState). StandsIn g.K.Keeper.Keeps i start new (given ++ bytes) (text ++ taken.text))
          (sym is)
          (record {
            made = made_told start old new words.begun stands.made refl refl words.same_choice words.same_profile
                (taken.holds.visited.told behind.b words.begins).same;
            behind = behind_more g.K.Keeper.Keeps choice profile (teller_bad_words start) _ _ _ given text bytes
                taken.text behind
                (words_on g.K.Keeper.Keeps choice profile behind.keeper behind.b old.scan old.kept behind.used
                behind.put words bytes taken.text
                new.scan new.kept taken.holds);
          });
    }

-- a word of them is no token
pub returns-in-Fault-clause-takes : goal.returns-in-Fault-clause-takes
returns-in-Fault-clause-takes g c start given text is stands =
    let choice = teller_choice start in
    let profile = teller_profile start in
    let old = c.args.self.now in
    let bytes = c.args.bytes.now in
    let count = c.in-Fault.used in
    let behind = stands.behind in
    let words = behind.holds in
    let laws = c.bad_words_stand_there.ensures in
    let new : Teller g.row.K.Denot = record old {
      scan = c.take_words.new.self;
      kept = c.take_words.new.visitor;
      inside =
          inside.BadWord;
    } in
    let taken = subst (λ taken. PutsOut (λ more. TakesPiece
    (StreamStands g.K.Keeper.Keeps (kept_by words.begun behind.keeper) c.take_words.new.visitor)
    words.reached bytes taken c.take_words.new.self (behind.put ++ more))
    (g.W.Sink.told c.args.writer.now).held c.args.waiting.now.items (g.W.Sink.told c.take_words.new.writer).held
    c.take_words.new.waiting.items) c.in-Fault.is
    (c.in_ok-take_words.ensures.takes (kept_by words.begun behind.keeper) words.reached behind.put words.scans
    words.told) in
    let stops = taken.holds in
    let last = end_spans stops.there.standing c.truncation.result in
    let end = c.truncation.ensures.ends stops.there stops.reads in
    let others : OthersAreTold = record {
      facts = c.others_are_told.ensures.facts;
      rest = c.others_are_told.ensures.rest;
      counts = c.others_are_told.ensures.counts;
      whole = c.others_are_told.ensures.whole;
    } in
    let tells = tells_open others choice.ignored stops.there c.truncation.result
    (λ n front. c.truncation.ensures.none stops.there n front stops.reads) end in
    let split : bytes ≡ take count bytes ++ c.behind.result.now = sym (take-append-drop count bytes)
    ∙ ap (λ (l : List ℕ). take count bytes ++ l) (sym c.behind.ensures.rest) in
    let word = words_to_bad g.K.Keeper.Keeps choice profile behind.keeper behind.b old.scan old.kept behind.used
    behind.put words bytes taken.text
    count c.in-Fault.fault new.scan new.kept last c.spans_move.ensures c.open_times_stay.ensures laws.begun
    laws.under_way stops tells end in
    let made = made_told start old new words.begun stands.made refl refl words.same_choice words.same_profile
    (stops.visited.told behind.b words.begins).same in
    let standing : StandsInBadWord g.K.Keeper.Keeps (drop count bytes) start new (given ++ take count bytes)
    (text ++ taken.text) =
    record {
      made = made;
      behind = behind_more g.K.Keeper.Keeps choice profile (teller_bad_words start) _ _
          (InBadWord g.K.Keeper.Keeps choice profile (drop count bytes) new.kept) given text (take count bytes)
          taken.text behind word;
    } in
    line_then g.K.Keeper.Keeps c.take_bad_word.result start _ given (take count bytes) c.behind.result.now bytes text
    taken.text _ _ _ _
    _ _ split taken.writes
    (c.take_bad_word.ensures.takes start (given ++ take count bytes) (text ++ taken.text) refl
    (subst (λ (l : List ℕ). StandsInBadWord g.K.Keeper.Keeps l start new (given ++ take count bytes)
    (text ++ taken.text))
    (sym c.behind.ensures.rest) standing))
