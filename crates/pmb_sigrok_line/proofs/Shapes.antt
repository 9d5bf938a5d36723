-- What the shapes in turn give is the event of the annotation: each gives the event of a spelling, and each spelling
-- is given its event.
use Rattle.std.proofs.Common.{◌≡◌, ◌≢◌, ℕ, ◌==◌, true, false, List, [], ◌∷◌, ◌++◌, Option, Some, None, refl, sym}
use Rattle.std.proofs.Common.{◌∙◌, ap, inl, inr, ◌⊎◌, Bor, option_copied, subst, append_assoc}
use Rattle.std.specs.Option.{MatchOption}
use Rattle.std.proofs.lemmas.Bool.{eq-eqb}
use Rattle.std.proofs.lemmas.Bool.Decides.{eqb_tells}
use Rattle.hex.specs.Hex.{hex_digit_value}
use Rattle.pmb_words.specs.Numbers.{byte_of, with_digit}
use Rattle.pmb_words.specs.Parts.{after}
use Rattle.pmb_sigrok_line.specs.Annotation.{ByteForm, Form, bit_forms, bus_forms, byte_event}
use Rattle.pmb_sigrok_line.specs.Annotation.{byte_forms}
use Rattle.pmb_sigrok_line.specs.Annotation.{digits_of, spelled_event, forms, long_of, or_event, plain_event, quote, quoted}
use Rattle.pmb_sigrok_line.specs.Annotation.{two_digits, with_byte}
use Rattle.pmb_sigrok_line.specs.declared.event.Event.{Event}
use Rattle.pmb_sigrok_line.specs.machine.Shapes.{again, among, before_quote, between, bit_word, bus_byte, bus_event}
use Rattle.pmb_sigrok_line.specs.machine.Shapes.{bus_word}
use Rattle.pmb_sigrok_line.specs.machine.Shapes.{if_again, long_byte, long_event, long_front, long_word, longer}
use Rattle.pmb_sigrok_line.specs.machine.Shapes.{of_rest}
use Rattle.pmb_sigrok_line.specs.machine.Shapes.{quoted_event, repeated_digits, shaped, short_event, spelled}
use Rattle.pmb_sigrok_line.proofs.Spellings.{Every, Reads, ReadsByte, byte_read, every_both, every_so, or_cases}
use Rattle.pmb_sigrok_line.proofs.Spellings.{plain_read, texts}

-- ---- parts of a text

-- a text that begins so
pub after_gives : (front text rest : List ℕ) → after front text ≡ Some rest → text ≡ front ++ rest
after_gives [] text rest is = cc
after_gives (b ∷ front) [] rest is = cc
after_gives (b ∷ front) (c ∷ text) rest is =
    elim (eqb_tells b c) [
      | inl same ↦
          let later = simp same.0 at is in
          ap (λ (x : ℕ). x ∷ text) (sym same.1) ∙ ap (λ (t : List ℕ). b ∷ t) (after_gives front text rest later)
      | inr other ↦ let none = simp other.0 at is in cc
    ]

longer_gives : (b : ℕ) (o : Option (List ℕ)) (front : List ℕ) → longer b o ≡ Some front
    → (later : List ℕ) × (o ≡ Some later) × (front ≡ b ∷ later)
longer_gives b (Some later) front is = (later, refl, cc)
longer_gives b None front is = absurd (cc)

-- a text that ends with a quote
pub before_quote_gives : (text front : List ℕ) → before_quote text ≡ Some front → text ≡ front ++ quote
before_quote_gives [] front is = cc
before_quote_gives (b ∷ []) front is =
    elim (texts (b ∷ []) quote) [
      | inl same ↦
          let none : Some [] ≡ Some front = simp same.0 at is in
          let empty : [] ≡ front = cc in
          same.1 ∙ ap (λ (f : List ℕ). f ++ quote) empty
      | inr other ↦ let none = simp other at is in cc
    ]
before_quote_gives (b ∷ c ∷ text) front is =
    let later = longer_gives b (before_quote (c ∷ text)) front is in
    ap (λ (t : List ℕ). b ∷ t) (before_quote_gives (c ∷ text) later.0 later.1)
    ∙ ap (λ (f : List ℕ). f ++ quote) (sym later.2)

pub before_quote_is : (front : List ℕ) → before_quote (front ++ quote) ≡ Some front
before_quote_is [] = refl
before_quote_is (b ∷ []) = refl
before_quote_is (b ∷ c ∷ front) = ap (longer b) (before_quote_is (c ∷ front))

quote_found : (text : List ℕ) (o : Option (List ℕ)) → before_quote text ≡ o → ((front : List ℕ) → text ≢ front ++ quote)
    → None ≡ before_quote text
quote_found text None is never = sym is
quote_found text (Some front) is never = absurd (never front (before_quote_gives text front is))

-- the answer of a search for a quote at the end
pub before_is : (text : List ℕ) (r : Option (Bor (List ℕ)))
    → MatchOption r ((front : List ℕ) → text ≢ front ++ quote) (λ (x : Bor (List ℕ)). text ≡ x.now ++ quote)
    → option_copied r ≡ before_quote text
before_is text None never = quote_found text (before_quote text) refl never
before_is text (Some x) split = sym (ap before_quote split ∙ before_quote_is x.now)

-- ---- a digit is no quote

no_quote_in : (o : Option ℕ) (v : ℕ) → with_digit o None ≡ Some v → ⊥
no_quote_in (Some n) v is = cc
no_quote_in None v is = cc

pub not_quote : (a b v : ℕ) → byte_of a b ≡ Some v → (b == 34) ≡ false
not_quote a b v is =
    elim (eqb_tells b 34) [
      | inl same ↦ absurd (no_quote_in (hex_digit_value a) v (ap (λ (x : ℕ). byte_of a x) (sym same.1) ∙ is))
      | inr other ↦ other.0
    ]

-- ---- each spelling is given its event

bus_shaped : Every (Reads shaped) bus_forms
unfolding shaped short_event bus_event bus_word bus_byte bit_word long_event long_word long_byte quoted_event
    repeated_digits
bus_shaped = (
  record { plain = refl; in_quotes = refl; long = refl },
  (
    record { plain = refl; in_quotes = refl; long = refl },
    (
      record { plain = refl; in_quotes = refl; long = refl },
      (
        record { plain = refl; in_quotes = refl; long = refl },
        (
          record { plain = refl; in_quotes = refl; long = refl },
          (
            record { plain = refl; in_quotes = refl; long = refl },
            (
              record { plain = refl; in_quotes = refl; long = refl },
              tt,
            ),
          ),
        ),
      ),
    ),
  ),
)

bits_shaped : Every (Reads shaped) bit_forms
unfolding shaped short_event bus_event bus_word bus_byte bit_word long_event long_word long_byte quoted_event
    repeated_digits
bits_shaped = (
  record { plain = refl; in_quotes = refl; long = refl },
  (
    record { plain = refl; in_quotes = refl; long = refl },
    tt,
  ),
)

forms_shaped : Every (Reads shaped) forms
forms_shaped = every_both (Reads shaped) bus_forms bit_forms bus_shaped bits_shaped

-- a number is itself
is_same : (a : ℕ) → (a == a) ≡ true
is_same a = eq-eqb a a refl

bytes_shaped : Every (ReadsByte shaped) byte_forms
unfolding shaped short_event bus_event bus_word bus_byte bit_word long_event long_word long_byte quoted_event
    repeated_digits
bytes_shaped = (
  record {
    plain = λ a b v byte_is. simp byte_is;
    in_quotes = λ a b v byte_is. simp byte_is;
    long = λ a b v byte_is. simp (is_same a, is_same b, byte_is);
  },
  (
    record {
      plain = λ a b v byte_is. simp byte_is;
      in_quotes = λ a b v byte_is. simp byte_is;
      long = λ a b v byte_is. simp (is_same a, is_same b, byte_is);
    },
    (
      record {
        plain = λ a b v byte_is. simp byte_is;
        in_quotes = λ a b v byte_is. simp byte_is;
        long = λ a b v byte_is. simp (is_same a, is_same b, byte_is);
      },
      (
        record {
          plain = λ a b v byte_is. simp byte_is;
          in_quotes = λ a b v byte_is. simp byte_is;
          long = λ a b v byte_is. simp (is_same a, is_same b, byte_is);
        },
        tt,
      ),
    ),
  ),
)

-- ---- each spelling has its event

bus_said : Every (Reads spelled_event) bus_forms
unfolding spelled_event
bus_said = (
  record { plain = refl; in_quotes = refl; long = refl },
  (
    record { plain = refl; in_quotes = refl; long = refl },
    (
      record { plain = refl; in_quotes = refl; long = refl },
      (
        record { plain = refl; in_quotes = refl; long = refl },
        (
          record { plain = refl; in_quotes = refl; long = refl },
          (
            record { plain = refl; in_quotes = refl; long = refl },
            (
              record { plain = refl; in_quotes = refl; long = refl },
              tt,
            ),
          ),
        ),
      ),
    ),
  ),
)

bits_said : Every (Reads spelled_event) bit_forms
unfolding spelled_event
bits_said = (
  record { plain = refl; in_quotes = refl; long = refl },
  (
    record { plain = refl; in_quotes = refl; long = refl },
    tt,
  ),
)

bytes_said : Every (ReadsByte spelled_event) byte_forms
unfolding spelled_event
bytes_said = (
  record {
    plain = λ a b v byte_is. simp (not_quote a b v byte_is, is_same a, is_same b, byte_is);
    in_quotes = λ a b v byte_is. simp (is_same a, is_same b, byte_is);
    long = λ a b v byte_is. simp (is_same a, is_same b, byte_is);
  },
  (
    record {
      plain = λ a b v byte_is. simp (not_quote a b v byte_is, is_same a, is_same b, byte_is);
      in_quotes = λ a b v byte_is. simp (is_same a, is_same b, byte_is);
      long = λ a b v byte_is. simp (is_same a, is_same b, byte_is);
    },
    (
      record {
        plain = λ a b v byte_is. simp (not_quote a b v byte_is, is_same a, is_same b, byte_is);
        in_quotes = λ a b v byte_is. simp (is_same a, is_same b, byte_is);
        long = λ a b v byte_is. simp (is_same a, is_same b, byte_is);
      },
      (
        record {
          plain = λ a b v byte_is. simp (not_quote a b v byte_is, is_same a, is_same b, byte_is);
          in_quotes = λ a b v byte_is. simp (is_same a, is_same b, byte_is);
          long = λ a b v byte_is. simp (is_same a, is_same b, byte_is);
        },
        tt,
      ),
    ),
  ),
)

forms_said : Every (Reads spelled_event) forms
forms_said = every_both (Reads spelled_event) bus_forms bit_forms bus_said bits_said

-- ---- complete: an annotation's event is given

complete : (text : List ℕ) (e : Event) → spelled_event text ≡ Some e → shaped text ≡ Some e
unfolding spelled_event
complete text e is =
    elim (or_cases (plain_event forms text) (byte_event byte_forms text (digits_of text)) e is) [
      | inl plain ↦ plain_read shaped forms forms_shaped text e plain
      | inr byte ↦ byte_read shaped byte_forms bytes_shaped text (digits_of text) e byte.1
    ]

-- ---- sound: what is given is the annotation's event

-- a text in a spelling of some forms
spelled_read : (f : List ℕ → Option Event) (spelling : Form → List ℕ) (gs : List Form)
    → Every (λ (g : Form). f (spelling g) ≡ Some g.event) gs → (text : List ℕ) (e : Event)
    → spelled spelling gs text ≡ Some e → f text ≡ Some e
spelled_read f spelling [] every text e is = cc
spelled_read f spelling (g ∷ gs) every text e is =
    elim (texts text (spelling g)) [
      | inl same ↦ let first = simp same.0 at is in ap f same.1 ∙ every.0 ∙ first
      | inr other ↦ let later = simp other at is in spelled_read f spelling gs every.1 text e later
    ]

-- a text that begins as wanted, or the other
rest_cases : (read : List ℕ → Option Event) (o : Option (List ℕ)) (other : Option Event) (e : Event)
    → of_rest read o other ≡ Some e
    → ((rest : List ℕ) × (o ≡ Some rest) × (read rest ≡ Some e)) ⊎ ((o ≡ None) × (other ≡ Some e))
rest_cases read (Some rest) other e is = inl (rest, refl, is)
rest_cases read None other e is = inr (refl, is)

value_of : (event : ℕ → Event) (o : Option ℕ) (e : Event) → with_byte event o ≡ Some e
    → (v : ℕ) × (o ≡ Some v) × (event v ≡ e)
value_of event (Some v) e is = (v, refl, cc)
value_of event None e is = absurd (cc)

among_read : (f : List ℕ → Option Event) (front : ByteForm → List ℕ) (read : ByteForm → List ℕ → Option ℕ)
    (gs : List ByteForm)
    → Every (λ (g : ByteForm). (rest : List ℕ) (v : ℕ)
    → read g rest ≡ Some v → f (front g ++ rest) ≡ Some (g.event v)) gs
    → (text : List ℕ) (e : Event) → among front read gs text ≡ Some e → f text ≡ Some e
among_read f front read [] every text e is = cc
among_read f front read (g ∷ gs) every text e is =
    elim (rest_cases (λ (rest : List ℕ). with_byte g.event (read g rest)) (after (front g) text)
    (among front read gs text) e is) [
      | inl begins ↦
          let value = value_of g.event (read g begins.0) e begins.2 in
          ap f (after_gives (front g) text begins.0 begins.1) ∙ every.0 begins.0 value.0 value.1 ∙ ap Some value.2
      | inr other ↦ among_read f front read gs every.1 text e other.1
    ]

-- two digits
two_read : (P : List ℕ → ℕ → Type 0) → ((a b v : ℕ) → byte_of a b ≡ Some v → P (a ∷ b ∷ []) v)
    → (rest : List ℕ) (v : ℕ) → two_digits rest ≡ Some v → P rest v
two_read P holds [] v is = absurd (cc)
two_read P holds (a ∷ []) v is = absurd (cc)
two_read P holds (a ∷ b ∷ []) v is = holds a b v is
two_read P holds (a ∷ b ∷ c ∷ rest) v is = absurd (cc)

-- two digits and again
again_gives : (a b v : ℕ) (o : Option (List ℕ)) → if_again a b o ≡ Some v
    → (o ≡ Some (again a b)) × (byte_of a b ≡ Some v)
again_gives a b v None is = absurd (cc)
again_gives a b v (Some rest) is =
    elim (texts rest (again a b)) [
      | inl same ↦ let byte_is = simp same.0 at is in (ap Some same.1, byte_is)
      | inr other ↦ let none : None ≡ Some v = simp other at is in absurd (cc)
    ]

repeated_read : (P : List ℕ → ℕ → Type 0) (middle : List ℕ)
    → ((a b v : ℕ) → byte_of a b ≡ Some v → P (a ∷ b ∷ (middle ++ again a b)) v)
    → (rest : List ℕ) (v : ℕ) → repeated_digits middle rest ≡ Some v → P rest v
unfolding repeated_digits
repeated_read P middle holds [] v is = absurd (cc)
repeated_read P middle holds (a ∷ []) v is = absurd (cc)
repeated_read P middle holds (a ∷ b ∷ rest) v is =
    let parts = again_gives a b v (after middle rest) is in
    subst (λ (r : List ℕ). P (a ∷ b ∷ r) v) (sym (after_gives middle rest (again a b) parts.0)) (holds a b v parts.1)

-- a function gives a form's event for its text with two digits
abbrev ReadsDigits : (List ℕ → Option Event) → ByteForm → Type 0
ReadsDigits f g = (a b v : ℕ) → byte_of a b ≡ Some v → f (g.text ++ a ∷ b ∷ []) ≡ Some (g.event v)

-- what happens on the bus, in one kind of spelling
bus_read : (f : List ℕ → Option Event) → Every (λ (g : Form). f g.text ≡ Some g.event) bus_forms
    → Every (ReadsDigits f) byte_forms
    → (text : List ℕ) (e : Event) → bus_event text ≡ Some e → f text ≡ Some e
unfolding bus_event bus_word bus_byte
bus_read f words bytes text e is =
    elim (or_cases (bus_word text) (bus_byte text) e is) [
      | inl word ↦ spelled_read f (λ (g : Form). g.text) bus_forms words text e word
      | inr byte ↦
          among_read f (λ (g : ByteForm). g.text) (λ (g : ByteForm) (digits : List ℕ). two_digits digits) byte_forms
          (every_so (ReadsDigits f) _ (λ (g : ByteForm) (holds : ReadsDigits f g).
          two_read (λ (rest : List ℕ) (v : ℕ). f (g.text ++ rest) ≡ Some (g.event v)) holds) byte_forms bytes)
          text e byte.1
    ]

bits_read : (f : List ℕ → Option Event) → Every (λ (g : Form). f g.text ≡ Some g.event) bit_forms
    → (text : List ℕ) (e : Event) → bit_word text ≡ Some e → f text ≡ Some e
unfolding bit_word
bits_read f words text e is = spelled_read f (λ (g : Form). g.text) bit_forms words text e is

short_read : (f : List ℕ → Option Event) → Every (λ (g : Form). f g.text ≡ Some g.event) bus_forms
    → Every (λ (g : Form). f g.text ≡ Some g.event) bit_forms
    → Every (ReadsDigits f) byte_forms
    → (text : List ℕ) (e : Event) → short_event text ≡ Some e → f text ≡ Some e
unfolding short_event
short_read f words bits bytes text e is =
    elim (or_cases (bus_event text) (bit_word text) e is) [
      | inl bus ↦ bus_read f words bytes text e bus
      | inr bit ↦ bits_read f bits text e bit.1
    ]

plain_said : (text : List ℕ) (e : Event) → short_event text ≡ Some e → spelled_event text ≡ Some e
plain_said =
    short_read spelled_event (every_so _ _ (λ (g : Form) (r : Reads spelled_event g). r.plain) bus_forms bus_said)
    (every_so _ _ (λ (g : Form) (r : Reads spelled_event g). r.plain) bit_forms bits_said)
    (every_so _ _ (λ (g : ByteForm) (r : ReadsByte spelled_event g). r.plain) byte_forms bytes_said)

quoted_said : (text : List ℕ) (e : Event) → short_event text ≡ Some e → spelled_event (quoted text) ≡ Some e
quoted_said =
    short_read (λ (text : List ℕ). spelled_event (quoted text))
    (every_so _ _ (λ (g : Form) (r : Reads spelled_event g). r.in_quotes) bus_forms bus_said)
    (every_so _ _ (λ (g : Form) (r : Reads spelled_event g). r.in_quotes) bit_forms bits_said)
    (every_so _ _ (λ (g : ByteForm) (r : ReadsByte spelled_event g). r.in_quotes) byte_forms bytes_said)

-- a long spelling with a byte is its front, two digits, and those again
long_is : (g : ByteForm) (a b : ℕ) → long_front g ++ a ∷ b ∷ (between g ++ again a b) ≡ long_of g (a ∷ b ∷ [])
long_is g a b = simp append_assoc

long_said : (text : List ℕ) (e : Event) → long_event text ≡ Some e → spelled_event text ≡ Some e
unfolding long_event long_word long_byte
long_said text e is =
    elim (or_cases (long_word text) (long_byte text) e is) [
      | inl word ↦ spelled_read spelled_event (λ (g : Form). g.long) forms
          (every_so _ _ (λ (g : Form) (r : Reads spelled_event g). r.long) forms forms_said) text e word
      | inr byte ↦
          among_read spelled_event long_front (λ (g : ByteForm) (rest : List ℕ). repeated_digits (between g) rest) byte_forms
          (every_so (ReadsByte spelled_event) _ (λ (g : ByteForm) (r : ReadsByte spelled_event g).
          repeated_read (λ (rest : List ℕ) (v : ℕ). spelled_event (long_front g ++ rest) ≡ Some (g.event v)) (between g)
          (λ (a b v : ℕ) (byte_is : byte_of a b ≡ Some v). ap spelled_event (long_is g a b) ∙ r.long a b v byte_is))
          byte_forms bytes_said)
          text e byte.1
    ]

in_quotes_said : (text rest : List ℕ) (e : Event) → text ≡ quote ++ rest → quoted_event rest ≡ Some e
    → spelled_event text ≡ Some e
unfolding quoted_event
in_quotes_said text rest e begins is =
    elim (rest_cases short_event (before_quote rest) None e is) [
      | inl inner ↦
          ap spelled_event (begins ∙ ap (λ (r : List ℕ). quote ++ r) (before_quote_gives rest inner.0 inner.1))
          ∙ quoted_said inner.0 e inner.2
      | inr none ↦ let no = none.1 in cc
    ]

sound : (text : List ℕ) (e : Event) → shaped text ≡ Some e → spelled_event text ≡ Some e
unfolding shaped
sound text e is =
    elim (rest_cases quoted_event (after quote text)
    (or_event (short_event text) (long_event text)) e is) [
      | inl in_quotes ↦
          in_quotes_said text in_quotes.0 e (after_gives quote text in_quotes.0 in_quotes.1) in_quotes.2
      | inr other ↦ elim (or_cases (short_event text) (long_event text) e other.1) [
        | inl short ↦ plain_said text e short
        | inr long ↦ long_said text e long.1
      ]
    ]

-- ---- so they are one

same_of : (said given : Option Event) → ((e : Event) → said ≡ Some e → given ≡ Some e)
    → ((e : Event) → given ≡ Some e → said ≡ Some e) → given ≡ said
same_of (Some e) given complete sound = complete e refl
same_of None (Some e) complete sound = sym (sound e refl)
same_of None None complete sound = refl

-- the shapes in turn give the event of the annotation
pub shaped_is : (text : List ℕ) → shaped text ≡ spelled_event text
shaped_is text = same_of (spelled_event text) (shaped text) (complete text) (sound text)
