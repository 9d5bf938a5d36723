-- What the code keeps of an answer.
use Rattle.std.specs.Prelude.{◌≡◌, ℕ, List, ◌++◌}
use Rattle.pmb_bus.specs.Pec.{pec}
use Rattle.pmb_leg.specs.Reply.{Answered}
use Rattle.pmb_leg.specs.declared.answer.Answer.TheInside.{Inside}
use Rattle.pmb_leg.specs.machine.DataLeft.{Leaves}

abbrev pub answered_so_far : Inside → Answered
answered_so_far a = record { expected = record { form = a.form; mode = a.mode; code = a.code }; bytes = a.bytes.items }

-- For what follows them bytes count by their code alone.
abbrev pub CountsAlone : List ℕ → Type 0
CountsAlone bytes = (others more : List ℕ) → pec others ≡ pec bytes → pec (others ++ more) ≡ pec (bytes ++ more)

-- Some bytes have the code of those before the answer. After them stands the code so far, and
-- what is left.
pub record IsAnswered (a : Inside) : Type 0 where
  pub before : List ℕ
  pub code : pec before ≡ a.code
  pub alike : CountsAlone before
  pub crc : pec (before ++ a.bytes.items) ≡ a.crc
  pub left : Leaves a.form a.mode before a.bytes.items a.left
