-- A run without the words of `--color`, by what these ask for. For `run_asked`.
use Rattle.std.proofs.Common.{◌≡◌, ◌∙◌, ℕ, Option, Some, List, inl, inr, ap, subst, sym}
use Rattle.std.proofs.lemmas.Option.{none-some}
use Rattle.pmb_io.specs.Told.{WriterTold}
use Rattle.pmb_args.specs.declared.exit_status.ExitStatus.{ExitStatus}
use Rattle.pmb_colour.specs.declared.choice.Choice.{Choice}
use Rattle.pmb_files.specs.Asked.{HasFault, RanAsked, ran}
use Rattle.pmb_files.specs.Color.{ColorWords, asked_choice, color_words}
use Rattle.pmb_files.specs.Known.{Known}
use Rattle.pmb_files.specs.Program.{RanFiles}
use Rattle.pmb_files.specs.Words.{Text, split_words}

module _ {F O W E : Type 0} (known : F → Text → Known) (left : O → Option (List ℕ)) (out_told : W → WriterTold)
    (err_told : E → WriterTold) (sample : List ℕ) (files : F) (words : List Text) (old new : W × E)
    (status : ExitStatus) (asked : ColorWords) (is : asked ≡ color_words words) (others : List Text)
    (same : others ≡ asked.left) where
  -- the run with these words
  abbrev Ran : List Text → Type 0
  Ran rest = RanFiles known left out_told err_told sample files (split_words rest) old new status

  -- the words that are left are those of the command line
  abbrev whole : others ≡ (color_words words).left
  whole = same ∙ ap (λ (w : ColorWords). w.left) is

  -- no word is bad
  pub none_is_bad : (choice : Choice) → Some choice ≡ asked_choice asked.colors → Ran others
      → RanAsked known left out_told err_told sample files words old new status
  none_is_bad choice names did =
      let chosen = subst (λ (w : ColorWords). Some choice ≡ asked_choice w.colors) is names in
      ran (inl (λ none. none-some choice (sym none ∙ sym chosen))) (subst Ran whole did)

  -- the words that are left have a fault
  pub others_have_fault : HasFault (split_words others) → Ran others
      → RanAsked known left out_told err_told sample files words old new status
  others_have_fault fault did =
      ran (inr (subst (λ (rest : List Text). HasFault (split_words rest)) whole fault)) (subst Ran whole did)
