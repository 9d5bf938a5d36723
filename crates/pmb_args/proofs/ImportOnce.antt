-- The matches of `import` ask for one thing, or have a fault and ask for nothing: for `task_of`
-- and the laws `one_asking` and `import_words_ask`. What the parts of a recording make is known
-- by the law `one_recorder` of pmb_recorder, which stands here as what is given.
use Rattle.std.proofs.Common.{◌≡◌, ℕ, Option, Some, None, List, option_map, sym, ap, ◌∙◌, subst}
use Rattle.clap.specs.Words.{Row}
use Rattle.pmb_recorder.specs.Recorded.{Makes, Recorded, fault_of}
use Rattle.pmb_recorder.specs.declared.source.Source.{Source}
use Rattle.pmb_sigrok_line.specs.declared.address_form.AddressForm.{AddressForm}
use Rattle.pmb_args.specs.Import.{ImportAsks, bus_in, fault_by, form_in, hertz_in, import_fault_in}
use Rattle.pmb_args.specs.declared.import_fault.ImportFault.{ImportFault}
use Rattle.pmb_args.specs.declared.import_fault.ImportFault.TheVariants.{Recorder}

-- parts make one thing
abbrev pub MakeOne : Type 0
MakeOne = (source : Source) (bus : Option (List ℕ)) (hertz : Option ℕ) (form : AddressForm) (a b : Recorded)
    → Makes source bus hertz form a → Makes source bus hertz form b → a ≡ b

-- and then have no fault
abbrev pub HaveNoFault : Type 0
HaveNoFault = (source : Source) (bus : Option (List ℕ)) (hertz : Option ℕ) (form : AddressForm) (a : Recorded)
    → Makes source bus hertz form a → fault_of source bus hertz form ≡ None

-- One thing is asked for.
pub one_recorded : MakeOne → (rows : List Row) (a b : Recorded) → ImportAsks rows a → ImportAsks rows b → a ≡ b
one_recorded one rows a b left right =
    let sources : Some left.0 ≡ Some right.0 = sym left.1 ∙ right.1 in
    let source : left.0 ≡ right.0 = cc in
    one right.0 (bus_in rows) (hertz_in rows) (form_in rows) a b
    (subst (λ (s : Source). Makes s (bus_in rows) (hertz_in rows) (form_in rows) a) source left.2) right.2

-- Where there is a fault, nothing is.
pub fault_asks_for_none : HaveNoFault → (rows : List Row) (fault : ImportFault) → import_fault_in rows ≡ Some fault
    → (recorded : Recorded) → ¬ (ImportAsks rows recorded)
fault_asks_for_none sound rows fault is recorded asks =
    let none = sound asks.0 (bus_in rows) (hertz_in rows) (form_in rows) recorded asks.2 in
    let faulty : fault_by (Some asks.0) rows ≡ Some fault =
    subst (λ (s : Option Source). fault_by s rows ≡ Some fault) asks.1 is in
    let clash : None ≡ Some fault = sym (ap (option_map Recorder) none) ∙ faulty in
    cc
