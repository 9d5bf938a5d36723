use Rattle.std.proofs.Common.{◌≡◌, ℕ, refl, sym, ◌∙◌, length, subst, take, rules, arith}
use Rattle.std.proofs.lemmas.Grind.{common_steps}
use Rattle.std.proofs.lemmas.List.{take_all, length-drop}
use Rattle.pmb_bus.specs.declared.lexer.Lexer.{Lexer}
use Rattle.pmb_bus.specs.Lexer.{Feeds, LexerStandsAt}
use Rattle.pmb_scan.proofs.Blanks.{stands_before_none}
use Rattle.pmb_scan.specs.Reached.{Reached, behind_bytes}
use Rattle.pmb_scan.specs.Scan.{ScanStandsAt}
use Rattle.pmb_scan.proofs.Taking.{none_of, up_to_none, up_to_same, up_to_blank, up_to_whole, up_to_acked, up_to_word}
use Rattle.pmb_scan.proofs.Taking.{takes_all, stops_at_bad_word}
use Rattle.pmb_scan.proofs.scan.Scan.take_words.Goals as goal

pub packets-init : goal.packets-init
packets-init g c = record {
  failures = refl;
  within = omega arith;
  took = λ start reached text stands visited. up_to_none g.V.Visitor.Stands start c.args.visitor.now reached
      c.args.piece.now _ _ text c.args.self.now stands visited;
}

-- a whole packet
pub packets-preserved-in-Some : goal.packets-preserved-in-Some
packets-preserved-in-Some g c = record {
  failures = c.in_ok-visit_whole.ensures.failed ∙ c.packets.invariant.failures;
  within = search (rules, common_steps, arith, c.packets.invariant.within);
  took = λ start reached text stands visited.
      let so_far = c.packets.invariant.took start reached text stands visited in
      up_to_whole g.V.Visitor.Stands start c.packets.visitor c.visit_whole.new.visitor reached c.args.piece.now
      c.packets.rest.now _ _ c.in-Some.whole.used c.in-Some.whole.events _ _ _ _ _ _ text
      c.packets.self c.take_whole.new.self so_far (c.in-Some.ensures.takes so_far.there so_far.stands)
      c.in_ok-visit_whole.ensures.visits refl (take_all _ _
      (omega (arith, length-drop c.in-Some.whole.used c.packets.rest.now)));
}

-- bytes between two words
pub packets-preserved-then-blank-gt0 : goal.packets-preserved-then-blank-gt0
packets-preserved-then-blank-gt0 g c = record {
  failures = c.packets.invariant.failures;
  within = search (rules, common_steps, arith, c.packets.invariant.within);
  took = λ start reached text stands visited.
      let so_far = c.packets.invariant.took start reached text stands visited in
      up_to_blank g.V.Visitor.Stands start c.packets.visitor c.visit_bytes.new.self reached c.args.piece.now
      c.packets.rest.now _ _ c.pass_blank-blank.result _ _ _ _ text
      c.packets.self c.pass_blank-blank.new.self so_far
      (c.pass_blank-blank.ensures.stands so_far.there
      (c.take_whole.ensures.same so_far.there so_far.stands (none_of c.take_whole.result c.in_default.not-Some)))
      c.visit_bytes.ensures refl (take_all _ _
      (omega (arith, length-drop c.pass_blank-blank.result c.packets.rest.now)));
}

-- no packet was taken, and the scan stands where it stood
pub words-init : goal.words-init
words-init g c =
    let scan = c.pass_blank-blank.new.self in
    let none : c.pass_blank-blank.result ≡ 0 = omega (arith, c.if-blank-gt0.false) in
    let no_blank : (there : Reached) → ScanStandsAt scan
    (behind_bytes there (take c.pass_blank-blank.result c.packets.rest.now)) → ScanStandsAt scan there =
    λ there stands. stands_before_none scan there
    (subst (λ (n : ℕ). ScanStandsAt scan (behind_bytes there (take n c.packets.rest.now))) none stands) in record {
      failures = c.packets.invariant.failures;
      within = c.packets.invariant.within;
      shorter = omega arith;
      took = λ start reached text stands visited.
          up_to_same g.V.Visitor.Stands start c.packets.visitor reached c.args.piece.now c.packets.rest.now _ _ _ _ text
          c.packets.self c.pass_blank-blank.new.self
          (λ there stands. no_blank there (c.pass_blank-blank.ensures.stands there
          (c.take_whole.ensures.same there stands (none_of c.take_whole.result c.in_default.not-Some))))
          (c.packets.invariant.took start reached text stands visited);
    }

-- a byte and its ACK
pub words-preserved-in-Some-feed_acked : goal.words-preserved-in-Some-feed_acked
words-preserved-in-Some-feed_acked g c = record {
  failures = c.in_ok-take_event-in-Some-feed_acked-2.ensures.failed
      ∙ (c.in_ok-take_event-in-Some-feed_acked.ensures.failed ∙ c.words.invariant.failures);
  within = search (rules, common_steps, arith, c.words.invariant.within);
  shorter = search (rules, common_steps, arith, c.words.invariant.shorter);
  took = λ start reached text stands visited.
      let so_far = c.words.invariant.took start reached text stands visited in
      up_to_acked g.V.Visitor.Stands start c.words.visitor c.visit_bytes-in-Some-feed_acked.new.self
      c.take_event.new.visitor c.visit_bytes-in-Some-feed_acked-2.new.self
      c.take_event-in-Some-feed_acked.new.visitor reached c.args.piece.now c.words.rest.now _ _ _
      c.in-Some-feed_acked.byte _ _ _ _ _ _ _ _ text
      c.words.self c.take_event.new.self c.take_event-in-Some-feed_acked.new.self c.feed_acked.new.self so_far
      (c.in-Some-feed_acked.ensures.feeds (length so_far.there.text) so_far.there.text so_far.there.events
      so_far.stands.lexer)
      c.visit_bytes-in-Some-feed_acked.ensures c.in_ok-take_event-in-Some-feed_acked.ensures.takes
      c.visit_bytes-in-Some-feed_acked-2.ensures c.in_ok-take_event-in-Some-feed_acked-2.ensures.takes
      (c.in_ok-take_event-in-Some-feed_acked-2.ensures.lexer ∙ c.in_ok-take_event-in-Some-feed_acked.ensures.lexer) refl
      refl (take_all _ _ (omega (arith, length-drop 5 c.words.rest.now)));
}

-- another word
pub words-preserved : goal.words-preserved
words-preserved g c = record {
  failures = c.in_ok-take_event-in-Event.ensures.failed ∙ c.words.invariant.failures;
  within = search (rules, common_steps, arith, c.words.invariant.within);
  shorter = search (rules, common_steps, arith, c.words.invariant.shorter);
  took = λ start reached text stands visited.
      let so_far = c.words.invariant.took start reached text stands visited in
      let fed = subst (λ step. Feeds (length so_far.there.text) so_far.there.text so_far.there.events c.words.rest.now
      c.feed-lexed.result.used step c.feed-lexed.new.self) c.in-Event.is
      (c.feed-lexed.ensures.stands (length so_far.there.text) so_far.there.text so_far.there.events
      (subst (λ (l : Lexer). LexerStandsAt l (length so_far.there.text) so_far.there.text so_far.there.events)
      (sym (c.feed_acked.ensures.same c.in-None.is)) so_far.stands.lexer)) in
      up_to_word g.V.Visitor.Stands start c.words.visitor c.visit_bytes-in-None.new.self
      c.take_event-in-Event.new.visitor reached c.args.piece.now c.words.rest.now _ _ c.feed-lexed.result.used
      c.in-Event.event _ _ _ _ _ _ text
      c.words.self c.take_event-in-Event.new.self c.feed-lexed.new.self so_far fed
      c.visit_bytes-in-None.ensures c.in_ok-take_event-in-Event.ensures.takes c.in_ok-take_event-in-Event.ensures.lexer
      refl (search (rules, common_steps));
}

-- STOP, after which a packet may begin
pub packets-preserved : goal.packets-preserved
packets-preserved g c = record {
  failures = c.in_ok-take_event-in-Event.ensures.failed ∙ c.words.invariant.failures;
  within = search (rules, common_steps, arith, c.words.invariant.within);
  took = λ start reached text stands visited.
      let so_far = c.words.invariant.took start reached text stands visited in
      let fed = subst (λ step. Feeds (length so_far.there.text) so_far.there.text so_far.there.events c.words.rest.now
      c.feed-lexed.result.used step c.feed-lexed.new.self) c.in-Event.is
      (c.feed-lexed.ensures.stands (length so_far.there.text) so_far.there.text so_far.there.events
      (subst (λ (l : Lexer). LexerStandsAt l (length so_far.there.text) so_far.there.text so_far.there.events)
      (sym (c.feed_acked.ensures.same c.in-None.is)) so_far.stands.lexer)) in
      up_to_word g.V.Visitor.Stands start c.words.visitor c.visit_bytes-in-None.new.self
      c.take_event-in-Event.new.visitor reached c.args.piece.now c.words.rest.now _ _ c.feed-lexed.result.used
      c.in-Event.event _ _ _ _ _ _ text
      c.words.self c.take_event-in-Event.new.self c.feed-lexed.new.self so_far fed
      c.visit_bytes-in-None.ensures c.in_ok-take_event-in-Event.ensures.takes c.in_ok-take_event-in-Event.ensures.lexer
      refl (search (rules, common_steps));
}

-- no word ends any more
pub returns-in-Need-clause-takes : goal.returns-in-Need-clause-takes
returns-in-Need-clause-takes g c start reached text stands visited =
    let so_far = c.words.invariant.took start reached text stands visited in
    let fed = subst (λ step. Feeds (length so_far.there.text) so_far.there.text so_far.there.events c.words.rest.now
    c.feed-lexed.result.used step c.feed-lexed.new.self) c.in-Need.is
    (c.feed-lexed.ensures.stands (length so_far.there.text) so_far.there.text so_far.there.events
    (subst (λ (l : Lexer). LexerStandsAt l (length so_far.there.text) so_far.there.text so_far.there.events)
    (sym (c.feed_acked.ensures.same c.in-None.is)) so_far.stands.lexer)) in
    takes_all g.V.Visitor.Stands start c.words.visitor c.visit_bytes-in-None.new.self reached c.args.piece.now
    c.words.rest.now _ c.feed-lexed.result.used _ _ _ _ text c.words.self _ so_far fed c.visit_bytes-in-None.ensures
    refl refl

-- the piece is longer than what is left of it
pub overflow_sub-result : goal.overflow_sub-result
overflow_sub-result g c = c.words.invariant.within

-- a word is no token
pub returns-in-Fault-clause-takes : goal.returns-in-Fault-clause-takes
returns-in-Fault-clause-takes g c start reached text stands visited =
    let so_far = c.words.invariant.took start reached text stands visited in
    let fed = subst (λ step. Feeds (length so_far.there.text) so_far.there.text so_far.there.events c.words.rest.now
    c.feed-lexed.result.used step c.feed-lexed.new.self) c.in-Fault.is
    (c.feed-lexed.ensures.stands (length so_far.there.text) so_far.there.text so_far.there.events
    (subst (λ (l : Lexer). LexerStandsAt l (length so_far.there.text) so_far.there.text so_far.there.events)
    (sym (c.feed_acked.ensures.same c.in-None.is)) so_far.stands.lexer)) in
    stops_at_bad_word g.V.Visitor.Stands start c.words.visitor c.visit_bytes-in-None.new.self reached c.args.piece.now
    c.words.rest.now _ c.feed-lexed.result.used _ c.in-Fault.fault _ _ _ _ text c.words.self _ c.feed-lexed.new.self
    so_far fed c.visit_bytes-in-None.ensures refl refl
    (omega (arith, c.words.invariant.within))
