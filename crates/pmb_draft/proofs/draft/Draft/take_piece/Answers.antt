use Rattle.std.proofs.Common.{◌++◌, ◌∙◌, length, refl, subst, take}
use Rattle.pmb_bus.specs.Lexer.{Feeds}
use Rattle.pmb_bus.specs.declared.lexer.Step.{Step}
use Rattle.pmb_draft.proofs.Taking.{next_front, stops, takes_rest, takes_word}
use Rattle.pmb_draft.proofs.draft.Draft.take_piece.Goals as goal

pub returns-in-Need : goal.returns-in-Need
returns-in-Need c bytes events stands =
    let front = c.words.invariant.front in
    let rest = c.words.rest.now in
    let used = c.feed-lexed.result.used in
    let so_far = c.words.invariant.taken bytes events stands in
    let needs = subst (λ (s : Step). Feeds (length (bytes ++ front)) (bytes ++ front) so_far.after rest used s
    c.feed-lexed.new.self) c.in-Need.is
    (c.feed-lexed.ensures.stands (length (bytes ++ front)) (bytes ++ front) so_far.after so_far.stands.lexer) in
    takes_rest c.args.self.now c.words.self _ c.args.piece.now front rest bytes used c.words.invariant.whole so_far needs
    refl refl

pub words-preserved : goal.words-preserved
words-preserved c =
    let front = c.words.invariant.front in
    let rest = c.words.rest.now in
    let used = c.feed-lexed.result.used in record {
      front = front ++ take used rest;
      whole = c.words.invariant.whole ∙ next_front front rest used;
      taken = λ bytes events stands.
          let so_far = c.words.invariant.taken bytes events stands in
          let ends = subst (λ (s : Step). Feeds (length (bytes ++ front)) (bytes ++ front) so_far.after rest used s
          c.feed-lexed.new.self) c.in-Event.is
          (c.feed-lexed.ensures.stands (length (bytes ++ front)) (bytes ++ front) so_far.after so_far.stands.lexer) in
          takes_word c.args.self.now c.words.self c.take_event.new.self c.feed-lexed.new.self front rest bytes used
          c.in-Event.event so_far ends c.take_event.ensures.lexer c.take_event.ensures.bad
          (c.take_event.ensures.seen so_far.after so_far.stands.seen);
    }

pub returns-in-Fault : goal.returns-in-Fault
returns-in-Fault c bytes events stands =
    let front = c.words.invariant.front in
    let rest = c.words.rest.now in
    let used = c.feed-lexed.result.used in
    let so_far = c.words.invariant.taken bytes events stands in
    let refuses = subst (λ (s : Step). Feeds (length (bytes ++ front)) (bytes ++ front) so_far.after rest used s
    c.feed-lexed.new.self) c.in-Fault.is
    (c.feed-lexed.ensures.stands (length (bytes ++ front)) (bytes ++ front) so_far.after so_far.stands.lexer) in
    stops c.args.self.now c.words.self c.take_fault.new.self c.feed-lexed.new.self c.args.piece.now front rest bytes used
    c.in-Fault.fault c.words.invariant.whole so_far refuses c.take_fault.ensures.bad c.take_fault.ensures.seen
