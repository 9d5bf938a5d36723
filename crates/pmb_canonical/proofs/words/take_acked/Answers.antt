use Rattle.std.proofs.Common.{◌≡◌, ℕ, ◌-◌, ◌*◌, min, List, ◌++◌, length, take, drop, sym, ap, ◌∙◌, subst, arith}
use Rattle.std.proofs.Common.{length-take}
use Rattle.std.proofs.lemmas.List.{take-append-drop, take_rest}
use Rattle.pmb_canonical.specs.Front.{NoneAcked, TakenFront}
use Rattle.pmb_canonical.proofs.Fronts.{all_taken, left_before, none_before, taken_before}
use Rattle.pmb_canonical.proofs.words.take_acked.Goals as goal

-- what was taken of the text, of which only a part was looked at
module _ (text : List ℕ) (most : ℕ) (old : List ℕ) (new : List ℕ) (rest : List ℕ)
    (taken : TakenFront (take most text) old new rest) where
  whole : take most text ++ drop most text ≡ text
  whole = take-append-drop most text

  of_text : TakenFront text old new (rest ++ drop most text)
  of_text = subst (λ (l : List ℕ). TakenFront l old new (rest ++ drop most text)) whole
      (taken_before (take most text) (drop most text) old new rest taken)

  left : take (length text - (length (take most text) - length rest))
      (drop (length (take most text) - length rest) text) ≡ rest ++ drop most text
  left =
      take_rest text (length (take most text) - length rest)
      ∙ ap (drop (length (take most text) - length rest)) (sym whole)
      ∙ left_before (take most text) (drop most text) old new rest taken

pub returns-clause-taken : goal.returns-clause-taken
returns-clause-taken c =
    let text = c.args.text.now in
    let old = c.args.bytes.now.items in
    let new = c.push_acked-rest.new.self.items in
    let rest = c.push_acked-rest.result.now in
    let most = c.min.result in
    let taken = c.push_acked-rest.ensures.taken in
    subst (λ (l : List ℕ). TakenFront text old new l) (sym (left text most old new rest taken))
    (of_text text most old new rest taken)

pub returns-clause-all : goal.returns-clause-all
returns-clause-all c front behind small none fits same =
    let text = c.args.text.now in
    let old = c.args.bytes.now.items in
    let new = c.push_acked-rest.new.self.items in
    let rest = c.push_acked-rest.result.now in
    let most = c.min.result in
    let taken = c.push_acked-rest.ensures.taken in
    let part = take most text in
    let tail = drop most text in
    let limit : length part ≡ min (length (part ++ tail)) (5 * c.room.result) =
    omega (arith, length-take most text, c.min.ensures, ap length (whole text most old new rest taken)) in
    let ended : NoneAcked (rest ++ tail) =
    none_before part tail old new rest taken c.room.result limit c.room.ensures c.push_acked-rest.ensures.all front
    behind small none fits
    (whole text most old new rest taken ∙ same) in
    let all = all_taken text old new (rest ++ tail) front behind (of_text text most old new rest taken) ended small none
    same in
    (all.0, left text most old new rest taken ∙ all.1)
