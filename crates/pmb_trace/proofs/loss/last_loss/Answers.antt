use Rattle.std.proofs.Common.{◌≡◌, ◌∙◌, ◌+◌, ◌<◌, ◌≤◌, Option, Bor, List, ℕ, ap, arith, codes}
use Rattle.std.proofs.Common.{length, option_copied, option_map, sym}
use Rattle.pmb_words.specs.Parts.{after}
use Rattle.pmb_trace.specs.Line.{Loss, first_loss, lost_by}
use Rattle.pmb_trace.specs.Views.{loss_of}
use Rattle.pmb_trace.specs.machine.Losses.{last_from, size}
use Rattle.pmb_trace.proofs.Losses.{from_letter, from_next_letter, less, none_else}
use Rattle.pmb_trace.proofs.loss.last_loss.Goals as goal

pub loop-left-init : goal.loop-left-init
loop-left-init c = from_letter c.args.line.now
    ∙ (ap last_from (sym c.behind_letter-left.ensures) ∙ sym (none_else _))

-- what follows one more first letter
pub loop-left-preserved : goal.loop-left-preserved
loop-left-preserved c =
    let rest = c.in-Some.rest.now in
    let last = option_map loss_of c.loop-left.last in
    let told = lost_by (after (codes "ERF_RECORD_LOST lost ") rest) in
    let left = option_copied c.behind_letter-left-in-Some.result in
    c.loop-left.invariant
    ∙ (ap (λ (l : Option (Bor (List ℕ))). first_loss (last_from (option_copied l)) last) c.in-Some.is
    ∙ (from_next_letter rest last
    ∙ (ap (λ (l : Option (List ℕ)). first_loss (last_from l) (first_loss told last))
    (sym c.behind_letter-left-in-Some.ensures)
    ∙ ap (λ (l : Option Loss). first_loss (last_from left) l)
    (sym (c.later_loss-last.ensures ∙ ap (λ (l : Option Loss). first_loss l last) c.loss_behind.ensures)))))

pub loop-left-smaller : goal.loop-left-smaller
loop-left-smaller c =
    let rest = c.in-Some.rest.now in
    let now : size (option_copied c.behind_letter-left-in-Some.result) ≤ length rest =
    rw c.behind_letter-left-in-Some.ensures (less rest) in
    let was : size (option_copied c.loop-left.left) ≡ 1 + length rest =
    ap (λ (l : Option (Bor (List ℕ))). size (option_copied l)) c.in-Some.is in
    let smaller : size (option_copied c.behind_letter-left-in-Some.result) < size (option_copied c.loop-left.left) =
    omega arith in smaller
