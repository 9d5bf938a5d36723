use Rattle.std.proofs.Common.{ℕ, List, Ok, inl, inr, refl, subst}
use Rattle.pmb_table.specs.Profile.{SaysBus}
use Rattle.pmb_preamble.proofs.sample.sample_profile.Goals as goal

-- What was read is the sample's text.
pub returns-in-Ok-clause-ok : goal.returns-in-Ok-clause-ok
returns-in-Ok-clause-ok c = elim c.in-Ok.ensures.says [
  | inl memory ↦ absurd (cc)
  | inr says ↦ subst (λ (text : List ℕ). SaysBus text (Ok c.in-Ok.bus)) c.as_bytes.ensures.value says
]

-- What was not read lacked memory.
pub returns-in-Err-clause-memory : goal.returns-in-Err-clause-memory
returns-in-Err-clause-memory c = refl
