use Rattle.std.proofs.Common.{◌≡◌, ◌∙◌, ℕ, Option, Some, None, [], ap, codes, option_map, refl, subst, sym}
use Rattle.clap.specs.Words.{Text, first_of, found_of, rows_of}
use Rattle.clap.proofs.WalkLemmas.{first_value-rows}
use Rattle.pmb_recorder.specs.Recorded.{Makes, fault_of, recorded_of}
use Rattle.pmb_recorder.specs.declared.source.Source.{Source}
use Rattle.pmb_sigrok_line.specs.declared.address_form.AddressForm.{AddressForm}
use Rattle.pmb_args.specs.Import.{fault_by, source_in, source_of}
use Rattle.pmb_args.specs.declared.import_fault.ImportFault.TheVariants.{Recorder}
use Rattle.pmb_args.proofs.AskedLemmas.{text_or}
use Rattle.pmb_args.proofs.import_words.read_import.Goals as goal

-- what holds of the parts that were read holds of those among the matches
same_parts : (P : Option Text → Option ℕ → AddressForm → Type 0) {bus name : Option Text} {hertz rate : Option ℕ}
    {form written : AddressForm} → bus ≡ name → hertz ≡ rate → form ≡ written → P bus hertz form → P name rate written
same_parts P {bus} {name} {hertz} {rate} {form} same_bus same_hertz same_form holds =
    subst (λ (f : AddressForm). P name rate f) same_form
    (subst (λ (h : Option ℕ). P name h form) same_hertz (subst (λ (b : Option Text). P b hertz form) same_bus holds))

-- SOURCE is none of the five.
pub returns-in_default : goal.returns-in_default
returns-in_default c =
    let rows = rows_of (found_of c.args.arguments.now) in
    let word = text_or c.get_str.result c.unwrap_or.result _ (first_of (codes "SOURCE") rows) []
    (c.get_str.ensures ∙ first_value-rows (found_of c.args.arguments.now) (codes "SOURCE")) c.unwrap_or.ensures
    refl in
    let none : source_of (source_in rows) ≡ None = ap source_of (sym word) ∙ sym c.source.ensures ∙ c.in_default.is in
    ap (λ (s : Option Source). fault_by s rows) none

-- All is said.
pub returns-in-Ok : goal.returns-in-Ok
returns-in-Ok c =
    let rows = rows_of (found_of c.args.arguments.now) in
    let word = text_or c.get_str.result c.unwrap_or.result _ (first_of (codes "SOURCE") rows) []
    (c.get_str.ensures ∙ first_value-rows (found_of c.args.arguments.now) (codes "SOURCE")) c.unwrap_or.ensures
    refl in (
      c.in-Some.source,
      ap source_of (sym word) ∙ sym c.source.ensures ∙ c.in-Some.is,
      same_parts (λ bus hertz form. Makes c.in-Some.source bus hertz form (recorded_of c.in-Ok.recorder)) c.bus-bus.ensures
          c.hertz-hertz.ensures c.address_form.ensures c.in-Ok.ensures,
    )

-- The parts make nothing.
pub returns-in-Err : goal.returns-in-Err
returns-in-Err c =
    let rows = rows_of (found_of c.args.arguments.now) in
    let word = text_or c.get_str.result c.unwrap_or.result _ (first_of (codes "SOURCE") rows) []
    (c.get_str.ensures ∙ first_value-rows (found_of c.args.arguments.now) (codes "SOURCE")) c.unwrap_or.ensures
    refl in
    let named : source_of (source_in rows) ≡ Some c.in-Some.source =
    ap source_of (sym word) ∙ sym c.source.ensures ∙ c.in-Some.is in
    let fault = same_parts (λ bus hertz form. fault_of c.in-Some.source bus hertz form ≡ Some c.in-Err.fault)
    c.bus-bus.ensures c.hertz-hertz.ensures c.address_form.ensures c.in-Err.ensures in
    ap (λ (s : Option Source). fault_by s rows) named ∙ ap (option_map Recorder) fault
