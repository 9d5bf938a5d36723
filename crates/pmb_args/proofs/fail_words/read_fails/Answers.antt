use Rattle.std.proofs.Common.{◌≡◌, ◌++◌, ◌∙◌, Bool, List, [], ◌∷◌, ap, ap₂, length, lit<, map, sym}
use Rattle.std.specs.Borrow.{Bor}
use Rattle.std.proofs.lemmas.Iterator.Consumers.{YieldsList-end, YieldsList-turn}
use Rattle.std.proofs.lemmas.Iterator.Splits.{YieldsList-from_str_split}
use Rattle.std.proofs.lemmas.List.{map-append}
use Rattle.clap.specs.Words.{Text}
use Rattle.pmb_stats_counts.specs.declared.fail.Fail.{Fail}
use Rattle.pmb_args.specs.Fails.{fail_word, same_fail}
use Rattle.pmb_args.proofs.EachOnce.{has}
use Rattle.pmb_args.proofs.FailWords.{known_more, new_more, no_word, room_for, words_spell}
use Rattle.pmb_args.proofs.fail_words.read_fails.Goals as goal

-- one word more, which names something
one_word : (words : List (Bor Text)) (named : List Fail) (word : Bor Text) (fail : Fail)
    → map (λ w. w.now) words ≡ map fail_word named → word.now ≡ fail_word fail
    → map (λ w. w.now) (words ++ word ∷ []) ≡ map fail_word (named ++ fail ∷ [])
one_word words named word fail are is =
    map-append (λ (w : Bor Text). w.now) words (word ∷ [])
    ∙ ap₂ (λ (ws : List Text) (w : Text). ws ++ w ∷ []) are is ∙ sym (map-append fail_word named (fail ∷ []))

-- whether one is there already, as it was tested
known : (told : Bool) (seen fails : List Fail) (fail : Fail) (is : Bool) → told ≡ has same_fail fail seen
    → seen ≡ fails → told ≡ is → has same_fail fail fails ≡ is
known told seen fails fail is tells same found = ap (has same_fail fail) (sym same) ∙ sym tells ∙ found

-- A word that names nothing ends it.
pub returns-in_err-fail : goal.returns-in_err-fail
returns-in_err-fail c =
    let turn = YieldsList-turn (YieldsList-from_str_split 44 c.args.what.now (lit< tt) (cc) (cc) (cc))
    c.loop-word.yielded _ c.loop-word.yielded_by _ _ c.in-Some.word c.in-Some.is c.next.ensures.steps in
    rw c.from_residual.ensures
    (no_word c.args.what.now (length c.loop-word.yielded) c.in-Some.word.now turn.0 turn.1 c.in_err-fail.ensures)

-- There is room for one that is new.
pub push-requires : goal.push-requires
push-requires c =
    let so_far = c.loop-word.invariant in
    let new = known c.is_among.result c.as_slice.result.now c.loop-word.fails c.in_ok-fail.fail _ c.is_among.ensures
    c.as_slice.ensures.value c.if-not-is_among.true in
    record { room = room_for so_far.0 c.loop-word.fails so_far.2 c.in_ok-fail.fail new }

-- Each word adds what it names, if that is new.
pub loop-word-preserved-then-not-is_among : goal.loop-word-preserved-then-not-is_among
loop-word-preserved-then-not-is_among c =
    let so_far = c.loop-word.invariant in
    let new = known c.is_among.result c.as_slice.result.now c.loop-word.fails c.in_ok-fail.fail _ c.is_among.ensures
    c.as_slice.ensures.value c.if-not-is_among.true in (
      so_far.0 ++ c.in_ok-fail.fail ∷ [],
      one_word c.loop-word.yielded so_far.0 c.in-Some.word c.in_ok-fail.fail so_far.1 c.in_ok-fail.ensures,
      c.push.ensures ∙ new_more so_far.0 c.loop-word.fails so_far.2 c.in_ok-fail.fail new,
    )

pub loop-word-preserved : goal.loop-word-preserved
loop-word-preserved c =
    let so_far = c.loop-word.invariant in
    let there = known c.is_among.result c.as_slice.result.now c.loop-word.fails c.in_ok-fail.fail _ c.is_among.ensures
    c.as_slice.ensures.value c.if-not-is_among.false in (
      so_far.0 ++ c.in_ok-fail.fail ∷ [],
      one_word c.loop-word.yielded so_far.0 c.in-Some.word c.in_ok-fail.fail so_far.1 c.in_ok-fail.ensures,
      known_more so_far.0 c.loop-word.fails so_far.2 c.in_ok-fail.fail there,
    )

-- All words have named something.
pub returns : goal.returns
returns c =
    let so_far = c.loop-word.invariant in
    let end = YieldsList-end (YieldsList-from_str_split 44 c.args.what.now (lit< tt) (cc) (cc) (cc))
    c.loop-word.yielded _ c.loop-word.yielded_by _ _ c.in-None.is c.next.ensures.steps in
    words_spell c.args.what.now so_far.0 c.loop-word.fails (sym end.0 ∙ so_far.1) so_far.2
