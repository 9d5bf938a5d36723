-- The bytes that ask a device are all taken. For `DevicePacket::outcome` and those of the read
-- address. Of the bytes of a leg only a value of PAGE may be refused; PAGE, whose code is 00h, is
-- never called and is read by its code alone, so that no request has a value after that code.
use Rattle.std.proofs.Common.{◌≡◌, ℕ, inl, inr, Bool, true, false, ◌&&◌, Option, Some, None, List, [], ◌∷◌, ◌++◌, refl}
use Rattle.std.proofs.Common.{sym, ap, subst, ◌∙◌, append_assoc, nat_eq, cond}
use Rattle.std.specs.List.{AllByRecursion}
use Rattle.std.proofs.lemmas.Bool.{eqb-true}
use Rattle.pmb_command.specs.declared.form.Form.TheVariants.{One}
use Rattle.pmb_command.specs.declared.form.Form.TheVariants as all
use Rattle.pmb_command.specs.declared.form.Form.{Form}
use Rattle.pmb_command.specs.declared.form.Shape.{Shape}
use Rattle.pmb_command.specs.Entry.{EntryParts}
use Rattle.pmb_command.specs.Commands.{standard_entries, standard_entry, standard_rows}
use Rattle.pmb_command.specs.Fitting.{are_kept, is_fixed, is_kept}
use Rattle.pmb_command.specs.Parts.{CommandParts, DeviceParts, command_with}
use Rattle.pmb_command.specs.Bus.{IsCommand, IsDevice}
use Rattle.pmb_transaction.specs.Body.{forms, shape_of}
use Rattle.pmb_leg.specs.declared.place.LegPlace.TheVariants.{First}
use Rattle.pmb_leg.specs.Leg.{IsRequest}
use Rattle.pmb_device.specs.Rules.{IsPageValue, TakesAll}

and_second : (a b : Bool) → (a && b) ≡ true → b ≡ true
and_second true b is = is
and_second false b is = cc is

none_kept : (form : Option Form) → is_kept form None ≡ true → form ≡ None
none_kept None is = refl
none_kept (Some form) is = cc is

and_first : (a b : Bool) → (a && b) ≡ true → a ≡ true
and_first true b is = refl
and_first false b is = cc is

-- PAGE is not called, and is written with one byte where it is written
abbrev IsPageShape : Shape → Type 0
IsPageShape s = (s.call ≡ None) × (is_kept s.write (Some One) ≡ true)

page_kept : (s : Shape) → are_kept s (standard_entry 0x00) ≡ true → IsPageShape s
-- 0x00 is the code of PAGE
unfolding standard_entry standard_entries standard_rows
page_kept s is =
    let behind : Bool = is_kept s.read (Some One) && is_kept s.call None in (
      none_kept s.call (and_second (is_kept s.read (Some One)) (is_kept s.call None)
          (and_second (is_kept s.write (Some One)) behind is)),
      and_first (is_kept s.write (Some One)) behind is,
    )

page_shape : (e : EntryParts) → e.code ≡ 0x00
    → (is_fixed e.code ≡ true → are_kept e.shape (standard_entry e.code) ≡ true) → IsPageShape e.shape
page_shape e page fixed =
    let P : ℕ → Type 0 = λ code. is_fixed code ≡ true → are_kept e.shape (standard_entry code) ≡ true in
    let here : P 0x00 = subst P page fixed in
    page_kept e.shape (here refl)

page_by_code : (c : CommandParts) (commands : List CommandParts) (b : Bool) → nat_eq c.entry.code 0x00 ≡ b → IsCommand c
    → IsPageShape (shape_of (command_with 0x00 commands))
    → IsPageShape (shape_of (cond b (Some c) (command_with 0x00 commands)))
page_by_code c commands true is command rest =
    page_shape c.entry (eqb-true c.entry.code 0x00 is) command.entry.fitting.fixed
page_by_code c commands false is command rest = rest

page_in : (commands : List CommandParts) → AllByRecursion IsCommand commands
    → IsPageShape (shape_of (command_with 0x00 commands))
page_in [] all = (refl, refl)
page_in (c ∷ commands) all = page_by_code c commands (nat_eq c.entry.code 0x00) refl all.0 (page_in commands all.1)

page_is_not_called : (device : DeviceParts) → IsDevice device → (forms device 0x00).call ≡ None
page_is_not_called device accepted = (page_in device.commands accepted.commands).0

one_byte : (form : Form) → is_kept (Some form) (Some One) ≡ true → form ≡ One
one_byte all.Zero is = cc is
one_byte all.One is = refl
one_byte all.Two is = cc is
one_byte all.Four is = cc is
one_byte all.Eight is = cc is
one_byte all.Block is = cc is

-- the form in which PAGE is written
pub page_form : (device : DeviceParts) (form : Form) → IsDevice device → (forms device 0x00).write ≡ Some form
    → form ≡ One
page_form device form accepted is = one_byte form
    (subst (λ (o : Option Form). is_kept o (Some One) ≡ true) is (page_in device.commands accepted.commands).1)

-- the body of a read or a call is no value of PAGE after the code of PAGE
no_page_value : (device : DeviceParts) (body : List ℕ) (byte : ℕ) (rest : List ℕ) → IsDevice device
    → IsRequest device body → body ≡ 0x00 ∷ byte ∷ rest → ⊥
no_page_value device body byte rest accepted (inl (code, form, read)) is = cc (sym read.spelled ∙ is)
no_page_value device body byte rest accepted (inr (code, form, content, call)) is =
    let same : code ≡ 0x00 = cc (sym call.spelled ∙ is) in
    let called : (forms device 0x00).call ≡ Some form =
    subst (λ (n : ℕ). (forms device n).call ≡ Some form) same call.called in
    cc (sym called ∙ page_is_not_called device accepted)

module _ (device : DeviceParts) (accepted : IsDevice device) (body : List ℕ) (request : IsRequest device body) where
  rest_is_taken : (taken rest : List ℕ) → body ≡ taken ++ rest → TakesAll device First taken rest
  rest_is_taken taken [] is = tt
  rest_is_taken taken (byte ∷ rest) is =
      let split : body ≡ (taken ++ byte ∷ []) ++ rest = is ∙ sym (append_assoc taken (byte ∷ []) rest) in
      let page : IsPageValue device taken byte =
      λ front. absurd (no_page_value device body byte rest accepted request
      (is ∙ ap (λ (bs : List ℕ). bs ++ byte ∷ rest) front)) in
      (record { begins = (body, rest, inr request, split); page = page }, rest_is_taken (taken ++ byte ∷ []) rest split)

-- all of it is taken
pub request_is_taken : (device : DeviceParts) → IsDevice device → (body : List ℕ) → IsRequest device body
    → TakesAll device First [] body
request_is_taken device accepted body request = rest_is_taken device accepted body request [] body refl
