use Rattle.std.proofs.Common.{◌≡◌, ◌∷◌, List, ℕ, sym, ap, subst, ◌∙◌}
use Rattle.pmb_command.specs.declared.form.Form.{Form}
use Rattle.pmb_transaction.specs.Body.{ReadBody}
use Rattle.pmb_leg.specs.declared.place.LegPlace.TheVariants.{First}
use Rattle.pmb_transaction.specs.Body.{IsRequest}
use Rattle.pmb_leg.specs.Leg.{Written}
use Rattle.pmb_leg.specs.machine.Legs.{kept, IsBehindCode}
use Rattle.pmb_leg.proofs.Sayings.{asks_nothing, behind_code, reads}
use Rattle.pmb_leg.proofs.written_leg.WrittenLeg.request.Goals as goal
use Rattle.pmb_leg.proofs.written_leg.WrittenLeg.request.Goals.{After-is_read}

-- the bytes, by their code
split : (c : After-is_read) → c.self.inside.bytes.items ≡ c.in-Some.code.now ∷ c.in-Some.behind.now
split c = sym c.as_slice.ensures.value ∙ c.in-Some.ensures.cases.0

is_kept : (c : After-is_read) → IsBehindCode (kept c.self.inside) c.in-Some.code.now c.in-Some.behind.now
is_kept c = behind_code (kept c.self.inside) c.self.inside.bytes.items c.in-Some.code.now c.in-Some.behind.now
    c.self.invariant (split c)

first : (c : After-is_read) → c.self.inside.place ≡ First
first c = ap (λ (leg : Written). leg.place) c.self.view_is ∙ c.requires

pub returns-then-is_read : goal.returns-then-is_read
returns-then-is_read c =
    let k = (goal.at.returns-then-is_read c).After-is_read in
    let w = reads (kept c.self.inside) c.in-Some.code.now c.in-Some.behind.now (is_kept k) c.in-Some.behind.now
    (sym c.is_read.ensures ∙ c.if-is_read.true) in
    let P : List ℕ → Type 0 = λ (bs : List ℕ). (form : Form)
    × ReadBody c.self.inside.device.now c.in-Some.code.now form bs in
    let here : P c.self.inside.bytes.items = subst P (sym (split k)) w in
    (c.requires, rw (← c.self.view_is) here)

pub returns-then-not-is_whole : goal.returns-then-not-is_whole
returns-then-not-is_whole c _ request =
    let k = (goal.at.returns-then-not-is_whole c).After-is_read in
    let P : Written → Type 0 = λ (leg : Written). IsRequest leg.device leg.bytes in
    let inside : P (record {
      device = c.self.inside.device.now;
      place = c.self.inside.place;
      bytes =
          c.self.inside.bytes.items;
    }) = subst P (sym c.self.view_is) request in
    asks_nothing (kept c.self.inside) c.in-Some.code.now c.in-Some.behind.now (is_kept k) (first k)
    (sym c.is_read.ensures ∙ c.if-is_read.false)
    (sym c.is_whole.ensures ∙ c.if-not-is_whole.true) (subst (IsRequest c.self.inside.device.now) (split k) inside)
