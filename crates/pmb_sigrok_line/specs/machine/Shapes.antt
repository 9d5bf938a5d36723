-- What the functions that read an annotation return, each a spelling or some of them.
use Rattle.std.specs.Prelude.{ℕ, Option, Some, None, if◌then◌else◌, List, [], ◌∷◌, ◌++◌, codes}
use Rattle.std.specs.Str.{bytes_eq}
use Rattle.pmb_words.specs.Numbers.{byte_of}
use Rattle.pmb_words.specs.Parts.{after}
use Rattle.pmb_sigrok_line.specs.Annotation.{ByteForm, Form, bit_forms, bus_forms, byte_forms, forms}
use Rattle.pmb_sigrok_line.specs.Annotation.{or_event, quote, two_digits, with_byte}
use Rattle.pmb_sigrok_line.specs.declared.event.Event.{Event}

-- what is read of the rest of a text that begins as wanted, or else the other
abbrev pub of_rest : (List ℕ → Option Event) → Option (List ℕ) → Option Event → Option Event
of_rest read (Some rest) other = read rest
of_rest read None other = other

-- the event of a text in a spelling of some forms
abbrev pub spelled : (Form → List ℕ) → List Form → List ℕ → Option Event
spelled spelling [] text = None
spelled spelling (f ∷ fs) text = if bytes_eq text (spelling f) then Some f.event else spelled spelling fs text

-- `Start`
unfoldable pub bus_word : List ℕ → Option Event
bus_word text = spelled (λ f. f.text) bus_forms text

-- `0`
unfoldable pub bit_word : List ℕ → Option Event
bit_word text = spelled (λ f. f.text) bit_forms text

-- the event of a text that begins as one of some forms, whose digits a function reads in what follows
abbrev pub among : (ByteForm → List ℕ) → (ByteForm → List ℕ → Option ℕ) → List ByteForm → List ℕ → Option Event
among front read [] text = None
among front read (f ∷ fs) text =
    of_rest (λ rest. with_byte f.event (read f rest)) (after (front f) text) (among front read fs text)

-- `Data read: 40`
unfoldable pub bus_byte : List ℕ → Option Event
bus_byte text = among (λ f. f.text) (λ f digits. two_digits digits) byte_forms text

-- `Start` or `Data read: 40`
unfoldable pub bus_event : List ℕ → Option Event
bus_event text = or_event (bus_word text) (bus_byte text)

-- `Start`, `Data read: 40` or `0`
unfoldable pub short_event : List ℕ → Option Event
short_event text = or_event (bus_event text) (bit_word text)

-- a byte before a text, if there is one
abbrev pub longer : ℕ → Option (List ℕ) → Option (List ℕ)
longer byte (Some front) = Some (byte ∷ front)
longer byte None = None

-- what stands before a quote at the end of a text
abbrev pub before_quote : List ℕ → Option (List ℕ)
before_quote [] = None
before_quote (byte ∷ []) = if bytes_eq (byte ∷ []) quote then Some [] else None
before_quote (byte ∷ next ∷ text) = longer byte (before_quote (next ∷ text))

-- `Start"`
unfoldable pub quoted_event : List ℕ → Option Event
quoted_event text = of_rest short_event (before_quote text) None

-- `start: "Start" "S"`
unfoldable pub long_word : List ℕ → Option Event
long_word text = spelled (λ f. f.long) forms text

-- two digits, written again twice
abbrev pub again : ℕ → ℕ → List ℕ
again high low = high ∷ low ∷ (codes "\" \"" ++ (high ∷ low ∷ quote))

-- the byte of two digits, if that follows
abbrev pub if_again : ℕ → ℕ → Option (List ℕ) → Option ℕ
if_again high low (Some rest) = if bytes_eq rest (again high low) then byte_of high low else None
if_again high low None = None

-- `40" "DR: 40" "40"`
unfoldable pub repeated_digits : List ℕ → List ℕ → Option ℕ
repeated_digits middle [] = None
repeated_digits middle (high ∷ []) = None
repeated_digits middle (high ∷ low ∷ rest) = if_again high low (after middle rest)

-- `data-read: "Data read: `
abbrev pub long_front : ByteForm → List ℕ
long_front f = f.class ++ (codes ": " ++ (quote ++ f.text))

-- `" "DR: `
abbrev pub between : ByteForm → List ℕ
between f = codes "\" \"" ++ f.short

-- `data-read: "Data read: 40" "DR: 40" "40"`
unfoldable pub long_byte : List ℕ → Option Event
long_byte text = among long_front (λ f rest. repeated_digits (between f) rest) byte_forms text

-- an annotation as levels 4 and 5 write it
unfoldable pub long_event : List ℕ → Option Event
long_event text = or_event (long_word text) (long_byte text)

-- an annotation, by the shapes in turn
unfoldable pub shaped : List ℕ → Option Event
shaped text =
    of_rest quoted_event (after quote text) (or_event (short_event text) (long_event text))
