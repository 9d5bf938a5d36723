use Rattle.std.proofs.Common.{◌≡◌, ◌∷◌, List, ℕ, Bool, true, false, refl, sym, ap, subst, ◌∙◌}
use Rattle.pmb_command.specs.declared.pec_mode.PecMode.{PecMode}
use Rattle.pmb_command.specs.Wire.{wire}
use Rattle.pmb_transaction.specs.Body.{checked, IsWriteBody, WriteBody}
use Rattle.pmb_leg.specs.machine.Legs.{kept, IsBehindCode}
use Rattle.pmb_leg.specs.machine.DataLeft.{has_code, is_whole, SpellsData}
use Rattle.pmb_leg.proofs.Bodies.{in_front}
use Rattle.pmb_leg.proofs.Sayings.{behind_code, says_write, write_data, write_is_whole}
use Rattle.pmb_leg.proofs.written_leg.WrittenLeg.says.Goals as goal
use Rattle.pmb_leg.proofs.written_leg.WrittenLeg.says.Goals.{After-has_code-pec, After-is_whole}

-- the bytes, by their code
split : (c : After-is_whole) → c.self.inside.bytes.items ≡ c.in-Some.code.now ∷ c.in-Some.behind.now
split c = sym c.as_slice.ensures.value ∙ c.in-Some.ensures.cases.0

is_kept : (c : After-is_whole) → IsBehindCode (kept c.self.inside) c.in-Some.code.now c.in-Some.behind.now
is_kept c = behind_code (kept c.self.inside) c.self.inside.bytes.items c.in-Some.code.now c.in-Some.behind.now
    c.self.invariant (split c)

-- the data that are whole
whole_data : (c : After-has_code-pec) → (whole : List ℕ)
    × SpellsData c.in-Some-write.form c.self.inside.device.now.pec
    (in_front c.self.inside.device.now c.in-Some.code.now) whole
    (has_code c.self.inside.write c.self.inside.device.now.pec) c.in-Some.behind.now
whole_data c =
    let k = (goal.at.After-has_code-pec c).After-is_whole in
    let done : is_whole c.self.inside.write c.self.inside.device.now.pec ≡ true =
    ap (is_whole c.self.inside.write) (sym c.pec-mode.ensures) ∙ sym c.is_whole.ensures ∙ c.if-not-is_whole.false in
    write_data (kept c.self.inside) c.in-Some.code.now c.in-Some.behind.now
    (is_kept k) c.in-Some-write.form c.in-Some-write.is done

-- they stand after the code
stand : (c : After-has_code-pec) → c.in-Some.behind.now
    ≡ checked c.has_code-pec.result (in_front c.self.inside.device.now c.in-Some.code.now)
    (wire c.in-Some-write.form (whole_data c).0)
stand c =
    (whole_data c).1.spelled
    ∙ ap (λ (mode : PecMode). checked (has_code c.self.inside.write mode)
    (in_front c.self.inside.device.now c.in-Some.code.now) (wire c.in-Some-write.form (whole_data c).0))
    (sym c.pec-mode.ensures)
    ∙ ap (λ (b : Bool). checked b (in_front c.self.inside.device.now c.in-Some.code.now)
    (wire c.in-Some-write.form (whole_data c).0)) (sym c.has_code-pec.ensures)

-- and are what the bytes say
said : (c : After-has_code-pec) → WriteBody c.self.inside.device.now c.in-Some.code.now
    (whole_data c).0 c.has_code-pec.result c.self.inside.bytes.items
said c =
    let k = (goal.at.After-has_code-pec c).After-is_whole in
    let code : has_code c.self.inside.write c.self.inside.device.now.pec ≡ c.has_code-pec.result =
    ap (has_code c.self.inside.write) (sym c.pec-mode.ensures) ∙ sym c.has_code-pec.ensures in
    let body = says_write (kept c.self.inside) c.in-Some.code.now c.in-Some.behind.now (is_kept k) c.in-Some-write.form
    (whole_data c).0 (has_code c.self.inside.write c.self.inside.device.now.pec) c.in-Some-write.is
    (whole_data c).1 in
    let P : Bool → List ℕ → Type 0 = λ (b : Bool) (bs : List ℕ). WriteBody c.self.inside.device.now c.in-Some.code.now
    (whole_data c).0 b bs in
    let with_code : P c.has_code-pec.result (c.in-Some.code.now ∷ c.in-Some.behind.now) =
    subst (λ (b : Bool). P b (c.in-Some.code.now ∷ c.in-Some.behind.now)) code body in
    subst (P c.has_code-pec.result) (sym (split k)) with_code

pub returns-then-not-is_whole-clause-some : goal.returns-then-not-is_whole-clause-some
returns-then-not-is_whole-clause-some c =
    let k = (goal.at.returns-then-not-is_whole-clause-some c).After-is_whole in
    let none : IsWriteBody c.self.inside.device.now c.self.inside.bytes.items → false ≡ true =
    λ body. sym c.if-not-is_whole.true ∙ c.is_whole.ensures ∙ ap (is_whole c.self.inside.write) c.pec-mode.ensures
    ∙ write_is_whole (kept c.self.inside) c.in-Some.code.now c.in-Some.behind.now (is_kept k)
    (subst (IsWriteBody c.self.inside.device.now) (split k) body) in
    rw (← c.self.view_is) (λ is. absurd (cc is), none)

pub data_within-bytes-requires : goal.data_within-bytes-requires
data_within-bytes-requires c = (in_front c.self.inside.device.now c.in-Some.code.now, (whole_data c).0, stand c)

pub returns-clause-some : goal.returns-clause-some
returns-clause-some c =
    let k = (goal.at.returns-clause-some c).After-has_code-pec in
    rw (← c.self.view_is) (λ _. (c.in-Some.code.now, (whole_data k).0, c.has_code-pec.result, said k), λ _. refl)

pub returns-clause-says : goal.returns-clause-says
returns-clause-says c =
    let k = (goal.at.returns-clause-says c).After-has_code-pec in
    let found : c.data_within-bytes.result.now ≡ (whole_data k).0 =
    c.data_within-bytes.ensures (in_front c.self.inside.device.now c.in-Some.code.now) (whole_data k).0 (stand k) in
    let P : List ℕ → Type 0 = λ (bs : List ℕ). WriteBody c.self.inside.device.now c.in-Some.code.now bs
    c.has_code-pec.result c.self.inside.bytes.items in
    let here : P c.data_within-bytes.result.now = subst P (sym found) (said k) in
    rw (← c.self.view_is) here
