-- The bytes of a write body: a device takes each of them, but for a value of PAGE that is neither
-- one of its pages nor ffh. For the law `runs_are_exchanges` (`Writing` uses it). The body of PAGE
-- is its code 00h, the value, and a packet error code perhaps; a body with another code, or with a
-- page for its value, is taken to its end.
use Rattle.std.proofs.Common.{◌≡◌, ◌≢◌, ℕ, ◌<◌, ◌≤◌, ◌⊎◌, inl, inr, Bool, Some, List, [], ◌∷◌, ◌++◌, length, nat_eq}
use Rattle.std.proofs.Common.{refl, sym, ap, subst, ◌∙◌, append_assoc, arith}
use Rattle.std.proofs.lemmas.Bool.{eqb-true, eqb-false}
use Rattle.std.proofs.lemmas.List.{append-nil}
use Rattle.pmb_command.specs.declared.form.Form.{Form}
use Rattle.pmb_command.specs.declared.form.Form.TheVariants.{One}
use Rattle.pmb_command.specs.Bus.{IsDevice}
use Rattle.pmb_command.specs.Parts.{DeviceParts}
use Rattle.pmb_command.specs.Wire.{Takes, wire}
use Rattle.pmb_bus.specs.Address.{write_address}
use Rattle.pmb_transaction.specs.Body.{IsWriteBody, WriteBody, forms}
use Rattle.pmb_transaction.proofs.Data.{checked_is, code_behind}
use Rattle.pmb_registers.specs.Answer.{all_pages}
use Rattle.pmb_leg.specs.declared.place.LegPlace.{LegPlace}
use Rattle.pmb_leg.specs.declared.place.LegPlace.TheVariants.{First, Later}
use Rattle.pmb_device.specs.Rules.{AllowedAt, IsPageValue, TakesAll, TakesByte}
use Rattle.pmb_device.proofs.Requests.{page_form}
use Rattle.pmb_devices.proofs.Writes.{by_test}

-- a write body is allowed in each leg
allowed_at : (device : DeviceParts) (place : LegPlace) (body : List ℕ) → IsWriteBody device body
    → AllowedAt device place body
allowed_at device First body write = inl write
allowed_at device Later body write = write

-- bytes that are taken, in two parts
pub takes_parts : (device : DeviceParts) (place : LegPlace) (taken front back : List ℕ)
    → TakesAll device place taken (front ++ back)
    → TakesAll device place taken front × TakesAll device place (taken ++ front) back
takes_parts device place taken [] back all =
    (tt, subst (λ (bs : List ℕ). TakesAll device place bs back) (sym (append-nil taken)) all)
takes_parts device place taken (b ∷ front) back all =
    let more = takes_parts device place (taken ++ b ∷ []) front back all.1 in
    ((all.0, more.0), subst (λ (bs : List ℕ). TakesAll device place bs back) (append_assoc taken (b ∷ []) front) more.1)

-- one byte
pub one_byte : (content : List ℕ) → length content ≡ 1 → (value : ℕ) × (content ≡ value ∷ [])
one_byte [] long = absurd (omega (arith, long))
one_byte (value ∷ []) long = (value, refl)
one_byte (value ∷ next ∷ more) long = absurd (omega (arith, long))

module _ (device : DeviceParts) (accepted : IsDevice device) (code : ℕ) (content : List ℕ) (with_pec : Bool)
    (body : List ℕ)
    (write : WriteBody device code content with_pec body) where
  -- The body of PAGE is its code and a value.
  -- the value that PAGE gets
  pub record PageBody : Type 0 where
    pub value : ℕ
    -- the packet error code, where there is one
    pub content_is : content ≡ value ∷ []
    -- 00h is the code of PAGE
    pub rest : List ℕ
    pub body_is : body ≡ 0x00 ∷ value ∷ rest

  -- the code comes first
  pub code_first : body ≡ code ∷ (wire write.form content ++ code_behind with_pec (write_address device.address ∷ [])
      (code ∷ wire write.form content))
  code_first = write.spelled ∙ checked_is with_pec (write_address device.address ∷ []) (code ∷ wire write.form content)

  pub page_body : code ≡ 0x00 → PageBody
  page_body page =
      let form_is : write.form ≡ One =
      page_form device write.form accepted (subst (λ (c : ℕ). (forms device c).write ≡ Some write.form) page
      write.written) in
      let one = one_byte content (subst (λ (f : Form). Takes f (length content)) form_is write.fits.taken) in
      let behind = code_behind with_pec (write_address device.address ∷ []) (code ∷ wire write.form content) in
      let wire_is : wire write.form content ≡ one.0 ∷ [] = ap (λ (f : Form). wire f content) form_is ∙ one.1 in
      record {
        value = one.0;
        content_is = one.1;
        rest = behind;
        body_is = code_first ∙ ap (λ (c : ℕ). c ∷ (wire write.form content ++ behind)) page
            ∙ ap (λ (bs : List ℕ). 0x00 ∷ (bs ++ behind)) wire_is;
      }

  -- ---- by the value

  -- It is not PAGE that is written, or the value is a page, or ffh for all.
  abbrev pub IsPage : Type 0
  IsPage = code ≡ 0x00 → (value : ℕ) → content ≡ value ∷ [] → (value < device.pages) ⊎ (value ≡ all_pages)

  -- PAGE is written, and the value is neither.
  pub record IsNoPage : Type 0 where
    pub page : code ≡ 0x00
    pub value : ℕ
    pub content_is : content ≡ value ∷ []
    pub too_large : device.pages ≤ value
    pub not_all : value ≢ all_pages

  pub data PageOrNot : Type 0 where
    is_page : IsPage → PageOrNot
    no_page : IsNoPage → PageOrNot

  same_value : (v : ℕ) → content ≡ v ∷ [] → (value : ℕ) → content ≡ value ∷ [] → v ≡ value
  same_value v is value also = cc (sym is ∙ also)

  small_or_not : (a b : ℕ) → (a < b) ⊎ (b ≤ a)
  small_or_not a b = grind arith

  value_or_not : code ≡ 0x00 → (v : ℕ) → content ≡ v ∷ [] → PageOrNot
  value_or_not page v is =
      elim (small_or_not v device.pages) [
        | inl small ↦ is_page (λ page value also. inl
            (subst (λ (n : ℕ). n < device.pages) (same_value v is value also) small))
        | inr large ↦
            by_test (nat_eq v all_pages) (nat_eq v all_pages) refl
            (λ all. is_page (λ page value also. inr (sym (same_value v is value also) ∙ eqb-true v all_pages all)))
            (λ other. no_page (record {
              page = page;
              value = v;
              content_is = is;
              too_large = large;
              not_all =
                  eqb-false v all_pages other;
            }))
      ]

  -- One of them holds.
  pub page_or_not : PageOrNot
  page_or_not =
      by_test (nat_eq code 0x00) (nat_eq code 0x00) refl
      (λ page. let is = eqb-true code 0x00 page in let b = page_body is in value_or_not is b.value b.content_is)
      (λ other. is_page (λ page value is. absurd (eqb-false code 0x00 other page)))

  -- ---- bytes that are taken

  module _ (place : LegPlace) where
    -- a byte of the body that is no value of PAGE
    pub takes_byte : (taken : List ℕ) (b : ℕ) (rest : List ℕ) → body ≡ taken ++ b ∷ rest → IsPageValue device taken b
        → TakesByte device place taken b
    takes_byte taken b rest is page = record {
      begins = (
        body,
        rest,
        allowed_at device place body (code, content, with_pec, write),
        is
            ∙ sym (append_assoc taken (b ∷ []) rest),
      );
      page = page;
    }

    -- Where the value is a page all bytes are taken.
    pub takes_rest : IsPage → (taken rest : List ℕ) → body ≡ taken ++ rest → TakesAll device place taken rest
    takes_rest page taken [] is = tt
    takes_rest page taken (b ∷ rest) is =
        let value : IsPageValue device taken b =
        λ front.
        let here : body ≡ 0x00 ∷ b ∷ rest = is ∙ ap (λ (bs : List ℕ). bs ++ b ∷ rest) front in
        let code_is : code ≡ 0x00 = cc (sym code_first ∙ here) in
        let p = page_body code_is in
        let value_is : p.value ≡ b = cc (sym p.body_is ∙ here) in
        subst (λ (n : ℕ). (n < device.pages) ⊎ (n ≡ all_pages)) value_is (page code_is p.value p.content_is) in (
          takes_byte taken b rest is value,
          takes_rest page (taken ++ b ∷ []) rest
              (is ∙ sym (append_assoc taken (b ∷ []) rest)),
        )

    -- A value that is no page is not.
    pub no_page_refused : IsNoPage → (b : ℕ) (rest : List ℕ) → body ≡ 0x00 ∷ b ∷ rest
        → TakesByte device place (0x00 ∷ []) b → ⊥
    no_page_refused bad b rest is takes =
        let p = page_body bad.page in
        let value_is : p.value ≡ b = cc (sym p.body_is ∙ is) in
        let same : bad.value ≡ b = same_value bad.value bad.content_is p.value p.content_is ∙ value_is in
        elim (takes.page refl) [
          | inl small ↦ omega (arith, small, bad.too_large, same)
          | inr all ↦ bad.not_all (same ∙ all)
        ]
