use Rattle.std.proofs.Common.{◌∙◌, [], ap, refl, codes, Some}
use Rattle.clap.specs.Words.{Text, first_of, found_of, rows_of}
use Rattle.clap.proofs.WalkLemmas.{first_value-rows}
use Rattle.pmb_args.proofs.AskedLemmas.{entered_rows, is_no_text, is_text, text_or}
use Rattle.pmb_args.proofs.AskedOnce.{import_nothing, nothing_named}
use Rattle.pmb_args.proofs.ImportOnce.{fault_asks_for_none}
use Rattle.pmb_args.proofs.tasks.task_of.Goals as goal

-- a recording is read
pub returns-in-Ok : goal.returns-in-Ok
returns-in-Ok c =
    let rows = rows_of (found_of c.in-Some.arguments.now) in
    let met = entered_rows _ c.in-Some.name.now rows c.in-Some.ensures.name c.in-Some.ensures.rows in
    let named = is_text c.in-Some.name.now (codes "import") c.eq.result c.eq.ensures c.if-eq.true in
    (rows, met ∙ ap (λ (n : Text). Some (n, rows)) named, c.in-Ok.ensures)

-- or the words of `import` have a fault
pub returns-in-Err : goal.returns-in-Err
returns-in-Err c =
    let rows = rows_of (found_of c.in-Some.arguments.now) in
    let met = entered_rows _ c.in-Some.name.now rows c.in-Some.ensures.name c.in-Some.ensures.rows in
    let named = is_text c.in-Some.name.now (codes "import") c.eq.result c.eq.ensures c.if-eq.true in
    import_nothing _ rows (met ∙ ap (λ (n : Text). Some (n, rows)) named)
    (fault_asks_for_none c.one_recorder.ensures.no_fault rows c.in-Err.fault c.in-Err.ensures)

-- a first profile is made
pub returns-then-eq-2 : goal.returns-then-eq-2
returns-then-eq-2 c =
    let rows = rows_of (found_of c.in-Some.arguments.now) in
    let met = entered_rows _ c.in-Some.name.now rows c.in-Some.ensures.name c.in-Some.ensures.rows in
    let named = is_text c.in-Some.name.now (codes "scan") c.eq-2.result c.eq-2.ensures c.if-eq-2.true in
    (rows, met ∙ ap (λ (n : Text). Some (n, rows)) named)

-- the subcommand converts
pub returns-in-Some-direction_of : goal.returns-in-Some-direction_of
returns-in-Some-direction_of c =
    let rows = rows_of (found_of c.in-Some.arguments.now) in
    let met = entered_rows _ c.in-Some.name.now rows c.in-Some.ensures.name c.in-Some.ensures.rows in
    let format = text_or c.get_str.result c.unwrap_or-format.result _ (first_of (codes "FORMAT") rows) []
    (c.get_str.ensures ∙ first_value-rows (found_of c.in-Some.arguments.now) (codes "FORMAT"))
    c.unwrap_or-format.ensures refl in
    (rows, met ∙ ap (λ (n : Text). Some (n, rows)) c.in-Some-direction_of.ensures, format)

-- it works under a profile
pub returns-in-Ok-work_of : goal.returns-in-Ok-work_of
returns-in-Ok-work_of c =
    let rows = rows_of (found_of c.in-Some.arguments.now) in
    let met = entered_rows _ c.in-Some.name.now rows c.in-Some.ensures.name c.in-Some.ensures.rows in (
      rows,
      met ∙ ap (λ (n : Text). Some (n, rows)) c.in-Ok-work_of.ensures.0,
      c.profile_place.ensures,
      c.in-Ok-work_of.ensures.1,
    )

-- or it asks for nothing
pub returns-in-Err-work_of : goal.returns-in-Err-work_of
returns-in-Err-work_of c =
    let rows = rows_of (found_of c.in-Some.arguments.now) in
    let other = is_no_text c.in-Some.name.now (codes "import") c.eq.result c.eq.ensures c.if-eq.false in
    nothing_named _ c.in-Some.name.now rows (entered_rows _ c.in-Some.name.now rows c.in-Some.ensures.name
    c.in-Some.ensures.rows) c.in-Err-work_of.ensures c.in_default-direction_of.ensures
    (is_no_text c.in-Some.name.now (codes "scan") c.eq-2.result c.eq-2.ensures c.if-eq-2.false)
    (λ named. absurd (other named))
