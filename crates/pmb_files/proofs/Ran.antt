-- What a run over files does, by how its parts end. For `run_words` and the functions that it calls.
use Rattle.std.proofs.Common.{◌≡◌, ◌≤◌, ℕ, false, Option, List, [], ◌∷◌, length, inl, inr, ap, arith}
use Rattle.std.specs.Prelude.{nat_le}
use Rattle.std.proofs.lemmas.Bool.Decides.{nat_tests}
use Rattle.pmb_io.specs.Told.{WriterTold}
use Rattle.pmb_args.specs.Words.{faults_of}
use Rattle.pmb_args.specs.declared.exit_status.ExitStatus.{ExitStatus}
use Rattle.pmb_files.specs.Contradictions.{has_two_profiles, subcommand_name}
use Rattle.pmb_files.specs.Faults.{IsReported, IsSaid, command_line}
use Rattle.pmb_files.specs.Known.{Known}
use Rattle.pmb_files.specs.Program.{AskOver, RanFiles, Refused, too_long, has_mark, profile_unread}
use Rattle.pmb_files.specs.Program.{no_memory, two_inputs, two_profiles}
use Rattle.pmb_files.specs.Words.{FileWords, Text}
use Rattle.pmb_files.specs.declared.contradiction.Contradiction.{Contradiction}
use Rattle.pmb_files.specs.declared.contradiction.Contradiction.TheVariants.{TwoProfiles, TwoInputs}
use Rattle.pmb_files.specs.machine.Contradicts.{Contradict, contradiction_name}
use Rattle.pmb_files.specs.machine.FailsHead.{FailsHead}
use Rattle.pmb_files.specs.machine.FailsHead as failing
use Rattle.pmb_files.proofs.Lists.{first_fails}

-- there is one profile where there is one and not two
pub only_profile : (said : FileWords) (profile : Text) (others : List Text) → said.profiles ≡ profile ∷ others
    → has_two_profiles said ≡ false → said.profiles ≡ profile ∷ []
only_profile said profile [] is one = is
only_profile said profile (other ∷ others) is one =
    let long : 2 ≤ length said.profiles = omega (arith, ap length is) in
    let short = first_fails (nat_le 2 (length said.profiles)) _ one in
    absurd (grind (arith, nat_tests))

module _ {F O W E : Type 0} (known : F → Text → Known) (left : O → Option (List ℕ)) (out_told : W → WriterTold)
    (err_told : E → WriterTold) (sample : List ℕ) (files : F) (said : FileWords) (old new : W × E)
    (status : ExitStatus) where
  abbrev Ran : Type 0
  Ran = RanFiles known left out_told err_told sample files said old new status

  -- what is wrong is said, or there is no memory for it
  pub reported : (Says : WriterTold → WriterTold → Type 0) → IsReported Says (err_told old.1) (err_told new.1) status
      → new.0 ≡ old.0 → (Refused known left out_told err_told sample files Says old new status → Ran) → Ran
  reported Says ends same refused =
      elim ends.only [
        | inl bad ↦ refused (record { is = bad; unwritten = same; says = ends.says bad })
        | inr none ↦ no_memory (record { is = none; unwritten = same; told = ends.memory none })
      ]

  -- the words contradict each other
  pub contradicted : (found : Contradiction) → faults_of said.tool ≡ [] → Contradict said found
      → IsReported (IsSaid (command_line (subcommand_name said.tool) (contradiction_name found))) (err_told old.1)
      (err_told new.1) status → new.0 ≡ old.0 → Ran
  contradicted TwoProfiles sound contradict says same = reported _ says same (two_profiles sound contradict)
  contradicted TwoInputs sound contradict says same =
      reported _ says same (two_inputs sound contradict.0 contradict.1)

  -- the profile makes no head
  pub headless : AskOver said → (profile : Text) → said.profiles ≡ profile ∷ []
      → FailsHead (known files profile) profile (err_told old.1) (err_told new.1) status → new.0 ≡ old.0 → Ran
  headless asks profile one (failing.too_long bytes read long says) same =
      reported _ says same (too_long asks profile one bytes read long)
  headless asks profile one (failing.has_mark bytes read line mark says) same =
      reported _ says same (has_mark asks profile one bytes read line mark)
  headless asks profile one (failing.unread failed told) same = profile_unread asks profile one failed same told
  headless asks profile one (failing.memory none told) same =
      no_memory (record { is = none; unwritten = same; told = told })
