use Rattle.std.proofs.Common.{◌≡◌, ◌∙◌, List, Option, ℕ, ap, refl, sym}
use Rattle.pmb_recorder.specs.Recorded.{Makes, Recorded, OfSigrok, OfSaleae, OfBeagle, OfKernel, OfSmbus}
use Rattle.pmb_recorder.specs.declared.source.Source.{Source}
use Rattle.pmb_sigrok_line.specs.declared.address_form.AddressForm.{AddressForm}
use Rattle.pmb_recorder.proofs.Rates.{one_rate_if}
use Rattle.pmb_recorder.proofs.laws.one_recorder.Goals as goal

one : (source : Source) (bus : Option (List ℕ)) (hertz : Option ℕ) (form : AddressForm) (a b : Recorded)
    → Makes source bus hertz form a → Makes source bus hertz form b → a ≡ b
one source bus hertz form (OfSigrok n r f) (OfSigrok m q g) a b =
    let rates = one_rate_if r q (a.2 ∙ sym b.2) in
    let names : n ≡ m = a.1 ∙ sym b.1 in
    let forms : f ≡ g = a.3 ∙ sym b.3 in
    rw (rates, names, forms) refl
one source bus hertz form (OfSigrok n r f) (OfSaleae m) a b = cc
one source bus hertz form (OfSigrok n r f) OfBeagle a b = cc
one source bus hertz form (OfSigrok n r f) (OfKernel m) a b = cc
one source bus hertz form (OfSigrok n r f) (OfSmbus m) a b = cc
one source bus hertz form (OfSaleae n) (OfSigrok m q g) a b = cc
one source bus hertz form (OfSaleae n) (OfSaleae m) a b = ap OfSaleae (a.1 ∙ sym b.1)
one source bus hertz form (OfSaleae n) OfBeagle a b = cc
one source bus hertz form (OfSaleae n) (OfKernel m) a b = cc
one source bus hertz form (OfSaleae n) (OfSmbus m) a b = cc
one source bus hertz form OfBeagle (OfSigrok m q g) a b = cc
one source bus hertz form OfBeagle (OfSaleae m) a b = cc
one source bus hertz form OfBeagle OfBeagle a b = refl
one source bus hertz form OfBeagle (OfKernel m) a b = cc
one source bus hertz form OfBeagle (OfSmbus m) a b = cc
one source bus hertz form (OfKernel n) (OfSigrok m q g) a b = cc
one source bus hertz form (OfKernel n) (OfSaleae m) a b = cc
one source bus hertz form (OfKernel n) OfBeagle a b = cc
one source bus hertz form (OfKernel n) (OfKernel m) a b = ap OfKernel (a.1 ∙ sym b.1)
one source bus hertz form (OfKernel n) (OfSmbus m) a b = cc
one source bus hertz form (OfSmbus n) (OfSigrok m q g) a b = cc
one source bus hertz form (OfSmbus n) (OfSaleae m) a b = cc
one source bus hertz form (OfSmbus n) OfBeagle a b = cc
one source bus hertz form (OfSmbus n) (OfKernel m) a b = cc
one source bus hertz form (OfSmbus n) (OfSmbus m) a b = ap OfSmbus (a.1 ∙ sym b.1)

pub returns-clause-one : goal.returns-clause-one
returns-clause-one c = one
