use Rattle.std.proofs.Common.{◌≡◌, ℕ, ◌+◌, ◌-◌, ◌∷◌, take, drop, length, sym, ap, ◌∙◌, arith}
use Rattle.std.specs.Prelude.{option_map}
use Rattle.std.proofs.lemmas.List.{length-take, length-drop, length-take-le}
use Rattle.pmb_line.specs.Words.{bounds, word_behind, line_words, words_from}
use Rattle.pmb_line.proofs.WordLemmas.{here, next_at, passed_by, take_all}
use Rattle.pmb_line.proofs.words.word_at.Goals as goal

pub returns-then-start-from : goal.returns-then-start-from
returns-then-start-from c =
    let text = c.before_cr-text.result.now in
    let at = c.loop-at.at in
    let start : ℕ = at + c.blanks.result in
    let len = c.word_len-len.result in
    let T = take (length text - start) (drop start text) in
    let R = take (length text - at) (drop at text) in
    let next : words_from at (drop at text) ≡ record { at = start; text = take len T }
    ∷ words_from (start + len) (drop (start + len) text) =
    next_at at c.blanks.result len text R T (take_all at text) (take_all start text) (c.blanks.ensures.passed at)
    (omega arith) c.word_len-len.ensures.within c.word_len-len.ensures.each c.word_len-len.ensures.stops in
    let so_far : word_behind c.args.from (line_words c.args.line.now)
    ≡ word_behind c.args.from (record { at = start; text = take len T }
    ∷ words_from (start + len) (drop (start + len) text)) =
    c.loop-at.invariant.rest ∙ ap (word_behind c.args.from) next in
    here c.args.from start len (take len T) (words_from (start + len) (drop (start + len) text)) c.if-start-from.true
    (length-take-le len T c.word_len-len.ensures.within) ∙ ap (option_map bounds) (sym so_far)

pub loop-at-preserved : goal.loop-at-preserved
loop-at-preserved c =
    let text = c.before_cr-text.result.now in
    let at = c.loop-at.at in
    let start : ℕ = at + c.blanks.result in
    let len = c.word_len-len.result in
    let T = take (length text - start) (drop start text) in
    let R = take (length text - at) (drop at text) in
    let next : words_from at (drop at text) ≡ record { at = start; text = take len T }
    ∷ words_from (start + len) (drop (start + len) text) =
    next_at at c.blanks.result len text R T (take_all at text) (take_all start text) (c.blanks.ensures.passed at)
    (omega arith) c.word_len-len.ensures.within c.word_len-len.ensures.each c.word_len-len.ensures.stops in
    let so_far : word_behind c.args.from (line_words c.args.line.now)
    ≡ word_behind c.args.from (record { at = start; text = take len T }
    ∷ words_from (start + len) (drop (start + len) text)) =
    c.loop-at.invariant.rest ∙ ap (word_behind c.args.from) next in
    let short : length T ≡ length text - start = omega (arith, length-take {A = ℕ}, length-drop {A = ℕ}) in
    record {
      within = omega (
        arith,
        short,
        c.word_len-len.ensures.within,
        c.blanks.ensures.within,
        length-take {A = ℕ},
        length-drop {A = ℕ},
      );
      rest = so_far ∙ passed_by c.args.from start (take len T) (words_from (start + len) (drop (start + len) text))
          c.if-start-from.false;
    }
