use Rattle.std.proofs.Common.{◌≡◌, ◌++◌, ◌+◌, ◌≤◌, ◌⊎◌, [], List, ℕ, ap, arith, drop, length, length-take-le, refl}
use Rattle.std.proofs.Common.{subst, sym, take, take-append-drop, ◌∙◌}
use Rattle.pmb_bus.specs.Text.{front_word, open_word}
use Rattle.pmb_telling.specs.declared.engine.EngineState.{EngineState}
use Rattle.pmb_telling.specs.declared.engine.Teller.{Teller}
use Rattle.pmb_telling.specs.machine.Standing.{Behind, BehindBadWord, StandsIn, behind_bytes, teller_bad_words}
use Rattle.pmb_telling.specs.machine.Standing.{teller_choice}
use Rattle.pmb_telling.specs.machine.Standing.{teller_profile}
use Rattle.pmb_fact_stream.specs.Stream.{kept_by}
use Rattle.pmb_telling.proofs.Steps.{behind_taken, goes_on, is_behind, made_on, waits}
use Rattle.pmb_telling.proofs.Taking.{line_then, puts_none}
use Rattle.pmb_io.proofs.Writing.{writes_nothing}
use Rattle.std.proofs.Common.{append-nil}
use Rattle.pmb_telling.proofs.engine.Teller.take_bad_word.Goals as goal

-- more of it may come
pub returns-then-not-is_over-clause-takes : goal.returns-then-not-is_over-clause-takes
returns-then-not-is_over-clause-takes g c start given text is stands =
    let choice = teller_choice start in
    let profile = teller_profile start in
    let old = c.args.self.now in
    let bytes = c.args.bytes.now in
    let count = c.word_bytes-count.result in
    let stream = c.take_text.new.self in
    let new : Teller g.row.K.Denot = record old { kept = kept_by stream old.kept.keeper } in
    let behind = stands.behind in
    let has = behind.holds.word in
    let laws = c.bad_words_stand_there.ensures in
    let taken = c.take_text.ensures in
    let word = take count bytes in
    let rest = c.behind-rest.result.now in
    let split : bytes ≡ word ++ rest = sym (take-append-drop count bytes)
    ∙ ap (λ (l : List ℕ). word ++ l) (sym c.behind-rest.ensures.rest) in
    let over = c.if-not-is_over.ensures in
    let later = goes_on g.K.Keeper.Keeps choice profile laws.opened behind.keeper behind.b behind.between bytes word
    rest
    behind.used behind.put old.kept stream split c.word_bytes-count.ensures.word taken.knows taken.time has in
    puts_none (λ t. StandsIn g.K.Keeper.Keeps new.inside start new (given ++ bytes) t) _ _ text
    (subst (λ (i : EngineState). StandsIn g.K.Keeper.Keeps i start new (given ++ bytes) text) (sym is)
    (record {
      made = made_on start old new stands.made refl refl taken.same;
      behind = behind_taken g.K.Keeper.Keeps choice profile (teller_bad_words start) _ _ _ given text bytes behind
          (waits g.K.Keeper.Keeps choice profile laws.opened behind.keeper behind.b behind.between bytes word rest
          behind.used behind.put old.kept stream split c.word_bytes-count.ensures.word taken.knows taken.time has over.0
          (omega (
            arith,
            over.1,
            c.word_length-2.ensures.kept (behind_bytes choice.ignored profile behind.b later.bad)
                later.knows,
          )));
    }))

-- or no more of it is told
pub returns-clause-takes : goal.returns-clause-takes
returns-clause-takes g c start given text is stands =
    let choice = teller_choice start in
    let profile = teller_profile start in
    let old = c.args.self.now in
    let bytes = c.args.bytes.now in
    let count = c.word_bytes-count.result in
    let stream = c.take_text.new.self in
    let new : Teller g.row.K.Denot = record old { kept = kept_by stream old.kept.keeper } in
    let behind = stands.behind in
    let has = behind.holds.word in
    let laws = c.bad_words_stand_there.ensures in
    let taken = c.take_text.ensures in
    let word = take count bytes in
    let rest = c.behind-rest.result.now in
    let split : bytes ≡ word ++ rest = sym (take-append-drop count bytes)
    ∙ ap (λ (l : List ℕ). word ++ l) (sym c.behind-rest.ensures.rest) in
    let solid = c.word_bytes-count.ensures.word in
    let later = goes_on g.K.Keeper.Keeps choice profile laws.opened behind.keeper behind.b behind.between bytes word
    rest
    behind.used behind.put old.kept stream split solid taken.knows taken.time has in
    let had = c.word_length.ensures.kept (behind_bytes choice.ignored profile behind.b has.bad) has.knows in
    let has_now = c.word_length-2.ensures.kept (behind_bytes choice.ignored profile behind.b later.bad) later.knows in
    let counted : count ≡ length word = sym (length-take-le count bytes c.word_bytes-count.ensures.within) in
    let stops = subst (λ (l : List ℕ). (front_word l ≡ [])
    ⊎ (32 ≤ length (take 32 (open_word (behind_bytes choice.ignored profile behind.b has.bad).read)) + length word))
    (sym c.behind-rest.ensures.rest)
    (subst (λ (n : ℕ). (front_word (drop count bytes) ≡ [])
    ⊎ (32 ≤ length (take 32 (open_word (behind_bytes choice.ignored profile behind.b has.bad).read)) + n)) counted
    (subst (λ (n : ℕ). (front_word (drop count bytes) ≡ []) ⊎ (32 ≤ n + count)) had c.word_bytes-count.ensures.over)) in
    let over = subst (λ (n : ℕ). ((rest ≡ []) → ⊥) ⊎ (32 ≤ n)) has_now c.if-not-is_over.ensures in
    line_then g.K.Keeper.Keeps c.end_bad_word.result start _ given word rest bytes text [] _ _ _ _ _ _ split
    (writes_nothing _ _)
    (c.end_bad_word.ensures.takes start (given ++ word) (text ++ [])
    (record {
      made = made_on start old new stands.made refl refl taken.same;
      behind = subst (λ (t : List ℕ). Behind g.K.Keeper.Keeps choice profile (teller_bad_words start)
          start.kept.keeper (BehindBadWord g.K.Keeper.Keeps choice profile rest new.kept) (given ++ word) t)
          (sym (append-nil text))
          (behind_taken g.K.Keeper.Keeps choice profile (teller_bad_words start) _ _ _ given text word behind
          (is_behind g.K.Keeper.Keeps choice profile laws.opened behind.keeper behind.b behind.between bytes word rest
          behind.used behind.put old.kept stream split solid taken.knows taken.time has stops over));
    }))
