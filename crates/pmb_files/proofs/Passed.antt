-- What becomes of what the tool said. For `run_over`.
use Rattle.std.proofs.Common.{◌∙◌, ◌≡◌, ◌≢◌, ◌<◌, ◌≤◌, ◌⊎◌, ◌==◌, ℕ, Bool, true, false, inl, inr, ap, arith, refl}
use Rattle.std.proofs.lemmas.Bool.Decides.{nat_tests}
use Rattle.pmb_io.specs.Told.{WriterTold}
use Rattle.pmb_args.specs.ExitStatus.{IsTold, OfCode, code_of}
use Rattle.pmb_args.specs.declared.exit_status.ExitStatus.{ExitStatus}
use Rattle.pmb_args.specs.declared.exit_status.ExitStatus.TheVariants.{Done, Refusals, BadArguments, IoFailed, NoMemory}
use Rattle.pmb_files.specs.Over.{IsPassedOn}
use Rattle.pmb_files.specs.Over as over

module _ {E : Type 0} (err_told : E → WriterTold) (said : WriterTold) (old new : E) where
  -- What the tool said is passed on, by what is told of it.
  pub is_passed_on : (ended : ExitStatus) (code result : ℕ) → code ≡ code_of ended
      → (code < 2 → (new ≡ old) × (result ≡ code))
      → (2 ≤ code → IsTold (err_told old) (err_told new))
      → ((code ≢ 2) ⊎ (said.failures ≡ 0) → code ≤ 4 → result ≡ code)
      → (code ≡ 2 → said.failures ≢ 0 → result ≡ 4)
      → OfCode (IsPassedOn err_told said old new ended) result
  is_passed_on Done code result is quiet told kept none =
      let well = quiet (omega (arith, is)) in (Done, well.1 ∙ is, over.quiet Done tt well.0)
  is_passed_on Refusals code result is quiet told kept none =
      let well = quiet (omega (arith, is)) in (Refusals, well.1 ∙ is, over.quiet Refusals tt well.0)
  is_passed_on BadArguments code result is quiet told kept none = by (said.failures == 0) refl
    where
      by : (test : Bool) → (said.failures == 0) ≡ test → OfCode (IsPassedOn err_told said old new BadArguments) result
      by true found =
          let whole : said.failures ≡ 0 = grind (arith, nat_tests) in (
            BadArguments,
            kept (inr whole) (omega (arith, is)) ∙ is,
            over.told BadArguments tt (λ _. whole) (told (omega (arith, is))),
          )
      by false found =
          let lost : said.failures ≢ 0 = grind (arith, nat_tests) in
          (NoMemory, none is lost, over.no_memory lost (told (omega (arith, is))))
  is_passed_on IoFailed code result is quiet told kept none = (
    IoFailed,
    kept (inl (λ two. absurd (omega (arith, is, two)))) (omega (arith, is)) ∙ is,
    over.told IoFailed tt (λ same. absurd (omega (arith, ap code_of same))) (told (omega (arith, is))),
  )
  is_passed_on NoMemory code result is quiet told kept none = (
    NoMemory,
    kept (inl (λ two. absurd (omega (arith, is, two)))) (omega (arith, is)) ∙ is,
    over.told NoMemory tt (λ same. absurd (omega (arith, ap code_of same))) (told (omega (arith, is))),
  )
