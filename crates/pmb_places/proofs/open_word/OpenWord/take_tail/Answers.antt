use Rattle.std.proofs.Common.{◌≡◌, ◌==◌, ℕ, cond, List, [], ◌++◌, ap, take, ◌∙◌}
use Rattle.std.proofs.lemmas.List.{take_rest}
use Rattle.pmb_places.specs.declared.open_word.OpenWord.{OpenWord}
use Rattle.pmb_places.proofs.Tails.{ends, goes_on, taken}
use Rattle.pmb_places.proofs.open_word.OpenWord.take_tail.Goals.{then-tail-gt0, else-tail-gt0}
use Rattle.pmb_places.proofs.open_word.OpenWord.take_tail.Goals as goal

pub returns : goal.returns
returns c = λ text stands.
    let from = c.of-tail.result.from in
    let old = c.args.self.now.bytes.items in
    let tail = c.of-tail.ensures.tail text stands.comment in
    let before : c.if-tail-gt0.self.bytes.items ≡ cond (from == 0) old [] =
    elim c.if-tail-gt0.branch [
      | then-tail-gt0 w ↦ ap (λ (s : OpenWord). s.bytes.items) w.self-is ∙ w.clear.ensures
          ∙ ends from old w.if-tail-gt0.true
      | else-tail-gt0 w ↦ ap (λ (s : OpenWord). s.bytes.items) w.self-is ∙ goes_on from old w.if-tail-gt0.false
    ] in
    let comment : c.if-tail-gt0.self.in_comment ≡ c.of-tail.result.in_comment =
    elim c.if-tail-gt0.branch [
      | then-tail-gt0 w ↦ ap (λ (s : OpenWord). s.in_comment) w.self-is
      | else-tail-gt0 w ↦ ap (λ (s : OpenWord). s.in_comment) w.self-is
    ] in record {
      bytes = taken text c.args.bytes.now old c.if-tail-gt0.self.bytes.items c.keep.new.bytes.items
          c.of-tail.result.in_comment from tail stands.bytes before
          (c.keep.ensures ∙ ap (λ (piece : List ℕ). take 32 (c.if-tail-gt0.self.bytes.items ++ piece))
          (take_rest c.args.bytes.now from));
      comment = comment ∙ tail.comment;
    }
