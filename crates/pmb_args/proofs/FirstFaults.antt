-- Which fault of the flags comes first: for `read_facts`, which looks for them in their order.
use Rattle.std.proofs.Common.{◌≡◌, ◌<◌, ℕ, Some, None, List, sym, ◌∙◌, arith}
use Rattle.clap.specs.Words.{Row}
use Rattle.pmb_unknown_start.specs.declared.start.Start.{Start}
use Rattle.pmb_args.specs.Facts.{ChoosesDigits, digits_in, start_in}
use Rattle.pmb_args.specs.Faults.{AreWrong, HasFault, facts_order}
use Rattle.pmb_args.specs.declared.facts_fault.FactsFault.{FactsFault}
use Rattle.pmb_args.specs.declared.facts_fault.FactsFault.TheVariants.{NeedsLate, BadDigits, BadAddress}
use Rattle.pmb_args.proofs.FactsOnce.{none_chosen}

module _ (rows : List Row) (start : Start) (starts : start_in rows ≡ Some start) where
  knows_start : ¬ (AreWrong rows NeedsLate)
  knows_start none = let clash : Some start ≡ None = sym starts ∙ none in cc

  -- the start is known
  pub first_is_digits : AreWrong rows BadDigits → HasFault rows BadDigits
  first_is_digits wrong = record { is = wrong; first = before }
    where
      before : (other : FactsFault) → facts_order other < 1 → ¬ (AreWrong rows other)
      before NeedsLate earlier = knows_start
      before BadDigits earlier = absurd (omega (arith, earlier))
      before BadAddress earlier = absurd (omega (arith, earlier))

  -- and so are the digits
  pub first_is_address : (default n : ℕ) → ChoosesDigits default (digits_in rows) n → AreWrong rows BadAddress
      → HasFault rows BadAddress
  first_is_address default n chosen wrong = record { is = wrong; first = before }
    where
      before : (other : FactsFault) → facts_order other < 2 → ¬ (AreWrong rows other)
      before NeedsLate earlier = knows_start
      before BadDigits earlier = λ none. none_chosen default (digits_in rows) n none chosen
      before BadAddress earlier = absurd (omega (arith, earlier))
