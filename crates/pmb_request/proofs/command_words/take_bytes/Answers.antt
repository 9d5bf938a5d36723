use Rattle.std.proofs.Common.{ℕ, ◌≡◌, ◌<◌, ◌∷◌, List, length, refl, sym, ◌∙◌, arith}
use Rattle.std.proofs.lemmas.Bool.Decides.{nat_tests}
use Rattle.pmb_line.specs.Left.{end, text_word, words_left}
use Rattle.pmb_line.specs.Words.{Word}
use Rattle.pmb_request.proofs.Standing.{call_full, call_on}
use Rattle.pmb_request.proofs.command_words.take_bytes.Goals as goal

pub returns-then-is_full-clause-takes : goal.returns-then-is_full-clause-takes
returns-then-is_full-clause-takes c all a d stands =
    let so_far = c.loop-word.invariant in
    let comes : words_left c.loop-word.words ≡ text_word c.in-Some.word ∷ words_left c.next_word.new.self =
    sym so_far.ahead ∙ c.in-Some.ensures.some in
    let long : length c.loop-word.bytes.items ≡ 255 = grind (arith, nat_tests) in
    call_full all (end c.args.words.now) a d c.loop-word.bytes.items c.in-Some-byte_of.byte
    (text_word c.in-Some.word) _ _ (so_far.stands all a d stands) comes
    (sym c.byte_of.ensures ∙ c.in-Some-byte_of.is) long

pub loop-word-preserved : goal.loop-word-preserved
loop-word-preserved c =
    let so_far = c.loop-word.invariant in
    let comes : words_left c.loop-word.words ≡ text_word c.in-Some.word ∷ words_left c.next_word.new.self =
    sym so_far.ahead ∙ c.in-Some.ensures.some in
    let few : length c.loop-word.bytes.items < 255 = grind (arith, nat_tests) in
    record {
      stands = λ (all : List Word) (a d : ℕ) stands.
          call_on all a d c.loop-word.bytes.items c.push.new.self.items c.in-Some-byte_of.byte
          (text_word c.in-Some.word) _ _ (so_far.stands all a d stands) comes
          (sym c.byte_of.ensures ∙ c.in-Some-byte_of.is) few c.push.ensures.items;
      ahead = refl;
      ahead_end = c.in-Some.ensures.end ∙ so_far.ahead_end;
      ends = c.in-Some.ensures.end ∙ so_far.ahead_end;
    }
