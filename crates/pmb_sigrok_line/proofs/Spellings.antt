-- A text in a spelling of a form, and what a function gives for each of its spellings.
use Rattle.std.proofs.Common.{◌≡◌, ℕ, Bool, true, false, List, [], ◌∷◌, ◌++◌, Option, Some, None, refl, sym}
use Rattle.std.proofs.Common.{◌∙◌, ap, inl, inr, ◌⊎◌}
use Rattle.std.specs.Str.{bytes_eq}
use Rattle.std.proofs.lemmas.Slice.Eq.{bytes_eq-Decides}
use Rattle.pmb_words.specs.Numbers.{byte_of}
use Rattle.pmb_sigrok_line.specs.Annotation.{ByteForm, Form, byte_event, has_byte_form, has_form, long_of}
use Rattle.pmb_sigrok_line.specs.Annotation.{or_event}
use Rattle.pmb_sigrok_line.specs.Annotation.{plain_event, quoted, two_digits, with_byte}
use Rattle.pmb_sigrok_line.specs.declared.event.Event.{Event}

-- ---- tests

pub bool_cases : (b : Bool) → (b ≡ true) ⊎ (b ≡ false)
bool_cases true = inl refl
bool_cases false = inr refl

-- two texts are one, or their test fails
pub texts : (a b : List ℕ) → ((bytes_eq a b ≡ true) × (a ≡ b)) ⊎ (bytes_eq a b ≡ false)
texts a b = elim (bool_cases (bytes_eq a b)) [
  | inl same ↦ inl (same, (bytes_eq-Decides a b).0 same)
  | inr other ↦ inr other
]

-- it holds of each of a list
abbrev pub Every : {A : Type 0} → (A → Type 0) → List A → Type 0
Every P [] = Unit {0}
Every P (x ∷ xs) = P x × Every P xs

pub every_both : {A : Type 0} (P : A → Type 0) (xs ys : List A) → Every P xs → Every P ys → Every P (xs ++ ys)
every_both P [] ys front back = back
every_both P (x ∷ xs) ys front back = (front.0, every_both P xs ys front.1 back)

pub every_so : {A : Type 0} (P Q : A → Type 0) → ((x : A) → P x → Q x) → (xs : List A) → Every P xs → Every Q xs
every_so P Q so [] every = tt
every_so P Q so (x ∷ xs) every = (so x every.0, every_so P Q so xs every.1)

-- the first event, or the other where there is no first
pub or_cases : (first other : Option Event) (e : Event) → or_event first other ≡ Some e
    → (first ≡ Some e) ⊎ ((first ≡ None) × (other ≡ Some e))
or_cases (Some event) other e is = inl is
or_cases None other e is = inr (refl, is)

-- ---- annotations without a byte

-- a function gives the event of a form for each of its spellings
pub record Reads (f : List ℕ → Option Event) (g : Form) : Type 0 where
  pub plain : f g.text ≡ Some g.event
  pub in_quotes : f (quoted g.text) ≡ Some g.event
  pub long : f g.long ≡ Some g.event

pub form_read : (f : List ℕ → Option Event) (g : Form) → Reads f g → (text : List ℕ) → has_form text g ≡ true
    → f text ≡ Some g.event
form_read f g reads text has =
    elim (texts text g.text) [
      | inl a ↦ ap f a.1 ∙ reads.plain
      | inr a ↦ elim (texts text (quoted g.text)) [
        | inl b ↦ ap f b.1 ∙ reads.in_quotes
        | inr b ↦ elim (texts text g.long) [
          | inl c ↦ ap f c.1 ∙ reads.long
          | inr c ↦ let none = simp (a, b, c) at has in cc
        ]
      ]
    ]

-- what the forms give, the function gives
pub plain_read : (f : List ℕ → Option Event) (gs : List Form) → Every (Reads f) gs → (text : List ℕ) (e : Event)
    → plain_event gs text ≡ Some e → f text ≡ Some e
plain_read f [] every text e is = cc
plain_read f (g ∷ gs) every text e is =
    elim (bool_cases (has_form text g)) [
      | inl has ↦ let first = simp has at is in form_read f g every.0 text has ∙ first
      | inr has ↦ let later = simp has at is in plain_read f gs every.1 text e later
    ]

-- ---- annotations with a byte

-- the digits of a text that give an event
pub record Given (event : ℕ → Event) (digits : List ℕ) (e : Event) : Type 0 where
  pub high : ℕ
  pub low : ℕ
  pub byte : ℕ
  pub digits_are : digits ≡ high ∷ low ∷ []
  pub byte_is : byte_of high low ≡ Some byte
  pub event_is : event byte ≡ e

value_given : (event : ℕ → Event) (high low : ℕ) (value : Option ℕ) (e : Event) → byte_of high low ≡ value
    → with_byte event value ≡ Some e → Given event (high ∷ low ∷ []) e
value_given event high low (Some byte) e byte_is is =
    record { high = high; low = low; byte = byte; digits_are = refl; byte_is = byte_is; event_is = cc }
value_given event high low None e byte_is is = absurd (cc)

pub given : (event : ℕ → Event) (digits : List ℕ) (e : Event) → with_byte event (two_digits digits) ≡ Some e
    → Given event digits e
given event [] e is = absurd (cc)
given event (a ∷ []) e is = absurd (cc)
given event (a ∷ b ∷ []) e is = value_given event a b (byte_of a b) e refl is
given event (a ∷ b ∷ c ∷ rest) e is = absurd (cc)

-- a function gives a form's event for each spelling with two digits
pub record ReadsByte (f : List ℕ → Option Event) (g : ByteForm) : Type 0 where
  pub plain : (a b v : ℕ) → byte_of a b ≡ Some v → f (g.text ++ a ∷ b ∷ []) ≡ Some (g.event v)
  pub in_quotes : (a b v : ℕ) → byte_of a b ≡ Some v → f (quoted (g.text ++ a ∷ b ∷ [])) ≡ Some (g.event v)
  pub long : (a b v : ℕ) → byte_of a b ≡ Some v → f (long_of g (a ∷ b ∷ [])) ≡ Some (g.event v)

pub byte_form_read : (f : List ℕ → Option Event) (g : ByteForm) → ReadsByte f g → (text : List ℕ) (a b v : ℕ)
    → byte_of a b ≡ Some v → has_byte_form text (a ∷ b ∷ []) g ≡ true → f text ≡ Some (g.event v)
byte_form_read f g reads text a b v byte_is has =
    elim (texts text (g.text ++ a ∷ b ∷ [])) [
      | inl h ↦ ap f h.1 ∙ reads.plain a b v byte_is
      | inr h ↦ elim (texts text (quoted (g.text ++ a ∷ b ∷ []))) [
        | inl i ↦ ap f i.1 ∙ reads.in_quotes a b v byte_is
        | inr i ↦ elim (texts text (long_of g (a ∷ b ∷ []))) [
          | inl j ↦ ap f j.1 ∙ reads.long a b v byte_is
          | inr j ↦ let none = simp (h, i, j) at has in cc
        ]
      ]
    ]

byte_first : (f : List ℕ → Option Event) (g : ByteForm) → ReadsByte f g → (text digits : List ℕ) (e : Event)
    → has_byte_form text digits g ≡ true → Given g.event digits e → f text ≡ Some e
byte_first f g reads text digits e has d =
    byte_form_read f g reads text d.high d.low d.byte d.byte_is
    (ap (λ (ds : List ℕ). has_byte_form text ds g) (sym d.digits_are) ∙ has)
    ∙ ap Some d.event_is

pub byte_read : (f : List ℕ → Option Event) (gs : List ByteForm) → Every (ReadsByte f) gs → (text digits : List ℕ)
    (e : Event) → byte_event gs text digits ≡ Some e → f text ≡ Some e
byte_read f [] every text digits e is = cc
byte_read f (g ∷ gs) every text digits e is =
    elim (bool_cases (has_byte_form text digits g)) [
      | inl has ↦
          let first = simp has at is in
          byte_first f g every.0 text digits e has (given g.event digits e first)
      | inr has ↦ let later = simp has at is in byte_read f gs every.1 text digits e later
    ]
