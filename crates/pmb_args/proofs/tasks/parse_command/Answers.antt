use Rattle.std.proofs.Common.{inl, inr, subst}
use Rattle.clap.specs.Words.{kind_of}
use Rattle.pmb_args.specs.Asked.{SubcommandAsks, asking_of}
use Rattle.pmb_args.proofs.AskedOnce.{is_telling, memory_is_not_bad, only_memory, refused_is_no_telling}
use Rattle.pmb_args.proofs.AskedOnce.{told_is_not_bad}
use Rattle.pmb_args.proofs.tasks.parse_command.Goals as goal

-- What is kept of the words is what they ask for.
pub returns-in-Ok-task_of-clause-ok : goal.returns-in-Ok-task_of-clause-ok
returns-in-Ok-task_of-clause-ok g c = record {
  no_fault = c.in-Ok.ensures.kinds;
  asks = subst (λ s. SubcommandAsks s (asking_of c.in-Ok-task_of.task)) c.in-Ok.ensures.matches c.in-Ok-task_of.ensures;
}

-- ---- where the words have no fault, only memory is lacking

pub returns-in-Err-clause-memory : goal.returns-in-Err-clause-memory
returns-in-Err-clause-memory g c asking ask =
    c.report_words.ensures.memory (only_memory _ (kind_of c.in-Err.error) _ ask.no_fault c.in-Err.ensures.kinds)

pub returns-in-Err-clause-nothing : goal.returns-in-Err-clause-nothing
returns-in-Err-clause-nothing g c ask = inr
    (c.report_words.ensures.memory (only_memory _ (kind_of c.in-Err.error) _ ask.no_fault c.in-Err.ensures.kinds))

-- ---- what `clap` told

-- It is neither that of help nor that of memory, so the error's kind is among the faults.
pub returns-in-Err-clause-told : goal.returns-in-Err-clause-told
returns-in-Err-clause-told g c bad = inl (record {
  kind = kind_of c.in-Err.error;
  no_telling = λ telling. told_is_not_bad _ bad (c.report_words.ensures.told telling);
  among = elim c.in-Err.ensures.kinds [
    | inl memory ↦ absurd (memory_is_not_bad _ bad (c.report_words.ensures.memory memory))
    | inr among ↦ among
  ];
})

pub returns-in-Err-clause-refused : goal.returns-in-Err-clause-refused
returns-in-Err-clause-refused g c refused =
    c.report_words.ensures.refused (refused_is_no_telling _ (kind_of c.in-Err.error) refused.no_help refused.no_version
    c.in-Err.ensures.kinds)

pub returns-in-Err-clause-unwritten : goal.returns-in-Err-clause-unwritten
returns-in-Err-clause-unwritten g c refused =
    c.report_words.ensures.unwritten (refused_is_no_telling _ (kind_of c.in-Err.error) refused.no_help
    refused.no_version c.in-Err.ensures.kinds)

pub returns-in-Err-clause-helped : goal.returns-in-Err-clause-helped
returns-in-Err-clause-helped g c ask = elim (is_telling _ (kind_of c.in-Err.error) ask c.in-Err.ensures.kinds) [
  | inl memory ↦ inr (inr (c.report_words.ensures.memory memory))
  | inr telling ↦ c.report_words.ensures.told telling
]
