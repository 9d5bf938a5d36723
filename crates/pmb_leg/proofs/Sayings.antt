-- What the bytes of a written leg say, by what the code keeps of them: a whole write, a read, a
-- call, or none. For `WrittenLeg::says` and `request`. A body is whole where nothing is left, or
-- where the code is the one thing left and need not come.
use Rattle.std.proofs.Common.{◌≡◌, ℕ, inl, inr, Bool, true, false, Option, Some, None, is_some, List, [], ◌∷◌, refl}
use Rattle.std.proofs.Common.{sym, ap, subst, ◌∙◌}
use Rattle.pmb_command.specs.declared.form.Form.{Form}
use Rattle.pmb_command.specs.declared.form.Shape.{Shape}
use Rattle.pmb_command.specs.declared.pec_mode.PecMode.{PecMode}
use Rattle.pmb_command.specs.declared.pec_mode.PecMode.TheVariants.{Off}
use Rattle.pmb_command.specs.Parts.{DeviceParts}
use Rattle.pmb_command.specs.Wire.{wire}
use Rattle.pmb_transaction.specs.Body.{checked, forms, WriteBody, ReadBody, IsWriteBody, IsReadBody, IsCallBody}
use Rattle.pmb_transaction.specs.Body.{IsRequest}
use Rattle.pmb_leg.specs.declared.left.DataLeft.{DataLeft}
use Rattle.pmb_leg.specs.declared.place.LegPlace.{LegPlace}
use Rattle.pmb_leg.specs.declared.place.LegPlace.TheVariants.{First}
use Rattle.pmb_leg.specs.Leg.{call_form, is_read}
use Rattle.pmb_leg.specs.machine.Legs.{IsBehindCode, IsKeptLeg, Kept}
use Rattle.pmb_leg.specs.machine.DataLeft.{has_code, is_whole, LeavesOf, SpellsSomeData, SpellsData}
use Rattle.pmb_leg.proofs.Lefts.{whole_spells}
use Rattle.pmb_leg.proofs.Bodies.{code_in_front, in_front, spells_whole_of, write_body, SpellsOf}

-- ---- bodies with a code that is known

module _ (device : DeviceParts) where
  write_spells : (code : ℕ) (behind : List ℕ) → IsWriteBody device (code ∷ behind)
      → SpellsOf (forms device code).write device.pec (in_front device code) behind
  write_spells code behind (c, bytes, with_pec, write) =
      let spoken = checked with_pec (in_front device c) (wire write.form bytes) in
      let spelled : c ∷ spoken ≡ code ∷ behind =
      sym (write.spelled ∙ code_in_front device with_pec c (wire write.form bytes)) in
      let same : c ≡ code = cc spelled in
      let rest : spoken ≡ behind = cc spelled in
      let T : ℕ → List ℕ → Type 0 = λ (n : ℕ) (bs : List ℕ). SpellsOf (forms device n).write device.pec
      (in_front device n) bs in
      let spells : SpellsSomeData write.form device.pec (in_front device c) spoken =
      (bytes, with_pec, record { fits = write.fits; allowed = write.mode; spelled = refl }) in
      let here : T c spoken = subst (λ (o : Option Form). SpellsOf o device.pec (in_front device c) spoken)
      (sym write.written) spells in
      subst (T code) rest (subst (λ (n : ℕ). T n spoken) same here)

  call_spells : (code : ℕ) (behind : List ℕ) → IsCallBody device (code ∷ behind)
      → SpellsOf (forms device code).call Off (in_front device code) behind
  call_spells code behind (c, form, bytes, call) =
      let spelled : c ∷ wire form bytes ≡ code ∷ behind = sym call.spelled in
      let same : c ≡ code = cc spelled in
      let rest : wire form bytes ≡ behind = cc spelled in
      let T : ℕ → List ℕ → Type 0 = λ (n : ℕ) (bs : List ℕ). SpellsOf (forms device n).call Off
      (in_front device n) bs in
      let spells : SpellsSomeData form Off (in_front device c) (wire form bytes) =
      (bytes, false, record { fits = call.fits; allowed = refl; spelled = refl }) in
      let here : T c (wire form bytes) = subst
      (λ (o : Option Form). SpellsOf o Off (in_front device c) (wire form bytes)) (sym call.called) spells in
      subst (T code) rest (subst (λ (n : ℕ). T n (wire form bytes)) same here)

-- data that are whole, in a form that there is
whole_of : (before : List ℕ) (o : Option Form) (form : Form) (mode : PecMode) (bytes : List ℕ) (left : DataLeft)
    → LeavesOf o mode before bytes left → o ≡ Some form
    → is_whole left mode ≡ true → (whole : List ℕ) × SpellsData form mode before whole (has_code left mode) bytes
whole_of before o form mode bytes left leaves has done =
    let P : Option Form → Type 0 = λ (x : Option Form). LeavesOf x mode before bytes left in
    whole_spells before form mode bytes left (subst P has leaves) done

-- ---- what is kept after a code

module _ (leg : Kept) (code : ℕ) (behind : List ℕ) (is : IsBehindCode leg code behind) where
  write_shape : SpellsOf (forms leg.device code).write leg.device.pec (in_front leg.device code) behind
      → SpellsOf leg.shape.write leg.device.pec (in_front leg.device code) behind
  write_shape spells = subst (λ (s : Shape). SpellsOf s.write leg.device.pec (in_front leg.device code) behind)
      (sym is.shape_is) spells

  call_shape : SpellsOf (forms leg.device code).call Off (in_front leg.device code) behind
      → SpellsOf leg.shape.call Off (in_front leg.device code) behind
  call_shape spells = subst (λ (s : Shape). SpellsOf s.call Off (in_front leg.device code) behind)
      (sym is.shape_is) spells

  pub write_is_whole : IsWriteBody leg.device (code ∷ behind) → is_whole leg.write leg.device.pec ≡ true
  write_is_whole body =
      spells_whole_of (in_front leg.device code) leg.shape.write leg.device.pec behind leg.write is.write
      (write_shape (write_spells leg.device code behind body))

  pub write_data : (form : Form) → leg.shape.write ≡ Some form → is_whole leg.write leg.device.pec ≡ true
      → (whole : List ℕ) × SpellsData form leg.device.pec (in_front leg.device code) whole
      (has_code leg.write leg.device.pec) behind
  write_data form has done = whole_of (in_front leg.device code) leg.shape.write form leg.device.pec behind leg.write
      is.write has done

  pub says_write : (form : Form) (whole : List ℕ) (with_pec : Bool) → leg.shape.write ≡ Some form
      → SpellsData form leg.device.pec (in_front leg.device code) whole with_pec behind
      → WriteBody leg.device code whole with_pec (code ∷ behind)
  says_write form whole with_pec has spells =
      write_body leg.device code form behind whole with_pec (sym (ap (λ (s : Shape). s.write) is.shape_is) ∙ has) spells

  -- ---- what a first leg asks

  read_of : (o : Option Form) → (forms leg.device code).read ≡ o → is_some o ≡ true
      → (form : Form) × ReadBody leg.device code form (code ∷ [])
  read_of None has some = absurd (cc some)
  read_of (Some form) has some = (form, record { read = has; spelled = refl })

  pub reads : (bytes : List ℕ) → is_read leg.shape bytes ≡ true
      → (form : Form) × ReadBody leg.device code form (code ∷ bytes)
  reads [] some = read_of (forms leg.device code).read refl
      (ap (λ (s : Shape). is_some s.read) (sym is.shape_is) ∙ some)
  reads (byte ∷ bytes) some = absurd (cc some)

  reads_not : is_read leg.shape behind ≡ false → IsReadBody leg.device (code ∷ behind) → ⊥
  reads_not unread (c, form, read) =
      let same : code ≡ c = cc (read.spelled) in
      let none : behind ≡ [] = cc (read.spelled) in
      let has : (forms leg.device code).read ≡ Some form = ap (λ (n : ℕ). (forms leg.device n).read) same ∙ read.read in
      let yes : is_read leg.shape [] ≡ true = ap (λ (s : Shape). is_some s.read) is.shape_is ∙ ap is_some has in
      cc (sym unread ∙ ap (is_read leg.shape) none ∙ yes)

  module _ (first : leg.place ≡ First) where
    call_leaves : LeavesOf leg.shape.call Off (in_front leg.device code) behind leg.call
    call_leaves = subst (λ (p : LegPlace). LeavesOf (call_form p leg.shape) Off
        (in_front leg.device code) behind leg.call) first is.call

    pub call_is_whole : IsCallBody leg.device (code ∷ behind) → is_whole leg.call Off ≡ true
    call_is_whole body =
        spells_whole_of (in_front leg.device code) leg.shape.call Off behind leg.call call_leaves
        (call_shape (call_spells leg.device code behind body))

    pub asks_nothing : is_read leg.shape behind ≡ false → is_whole leg.call Off ≡ false
        → IsRequest leg.device (code ∷ behind) → ⊥
    asks_nothing unread not_whole (inl read) = reads_not unread read
    asks_nothing unread not_whole (inr call) = cc (sym not_whole ∙ call_is_whole call)

pub behind_code : (leg : Kept) (bytes : List ℕ) (code : ℕ) (behind : List ℕ) → IsKeptLeg leg bytes
    → bytes ≡ code ∷ behind → IsBehindCode leg code behind
behind_code leg bytes code behind is split = subst (IsKeptLeg leg) split is
