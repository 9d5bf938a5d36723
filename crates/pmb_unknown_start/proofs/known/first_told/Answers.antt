use Rattle.std.proofs.Common.{◌≡◌, ℕ, ◌+◌, true, false, Option, Some, None, List, ◌∷◌, drop, get_or, refl, sym, ◌∙◌}
use Rattle.std.specs.Option.{is_some}
use Rattle.std.proofs.lemmas.Bool.{false≢true}
use Rattle.std.proofs.lemmas.List.{at_drop_all, at_drop_more}
use Rattle.pmb_unknown_start.specs.Known.{first_told}
use Rattle.pmb_unknown_start.proofs.known.first_told.Goals as goal

-- a mode that is known is the first
here : (mode : Option ℕ) (modes : List (Option ℕ)) → is_some mode ≡ true → mode ≡ first_told (mode ∷ modes)
here None modes known = absurd (false≢true known)
here (Some mode) modes known = refl

-- .. and one that isn't is passed over
past : (mode : Option ℕ) (modes : List (Option ℕ)) → is_some mode ≡ false → first_told modes ≡ first_told (mode ∷ modes)
past None modes unknown = refl
past (Some mode) modes unknown = absurd (false≢true (sym unknown))

pub returns-then-is_some : goal.returns-then-is_some
returns-then-is_some c =
    here (get_or c.args.modes.now c.loop-mode.mode-index None) (drop (c.loop-mode.mode-index + 1) c.args.modes.now)
    (sym c.is_some.ensures ∙ c.if-is_some.true)
    ∙ sym (at_drop_more first_told c.args.modes.now c.loop-mode.mode-index None c.loop-mode-test.true)
    ∙ c.loop-mode.invariant

pub loop-mode-preserved : goal.loop-mode-preserved
loop-mode-preserved c =
    past (get_or c.args.modes.now c.loop-mode.mode-index None) (drop (c.loop-mode.mode-index + 1) c.args.modes.now)
    (sym c.is_some.ensures ∙ c.if-is_some.false)
    ∙ sym (at_drop_more first_told c.args.modes.now c.loop-mode.mode-index None c.loop-mode-test.true)
    ∙ c.loop-mode.invariant

pub returns : goal.returns
returns c = sym (at_drop_all first_told c.args.modes.now c.loop-mode.mode-index c.loop-mode-test.false)
    ∙ c.loop-mode.invariant
