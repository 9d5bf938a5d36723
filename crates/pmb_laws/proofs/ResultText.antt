-- Results and faults are written without an LF: for the law `runs_are_captures`. They are written
-- as comments, which an LF would end; digits, hyphens and words have none (LF is byte 10).
use Rattle.std.proofs.Common.{◌≡◌, ℕ, zero, suc, ◌+◌, ◌*◌, ◌/◌, ◌%◌, ◌^◌, ◌<◌, Bool, true, false, not, ◌==◌, nat_lt}
use Rattle.std.proofs.Common.{Option, Some, None, ℤ, pos, negsuc, unsigned_abs, List, [], ◌∷◌, ◌++◌, refl, arith}
use Rattle.std.specs.Prelude.{codes, decimal, flat_map}
use Rattle.std.specs.Fmt.{digit_glyph, digits, digits_onto}
use Rattle.std.proofs.lemmas.Bool.{and_from, cond_both}
use Rattle.std.proofs.lemmas.Bool.Decides.{nat_tests}
use Rattle.hex.specs.Hex.{encode_lower, encode_with, lower_digits}
use Rattle.pmb_format.specs.declared.format.RangeFault.{RangeFault}
use Rattle.pmb_format.specs.declared.format.RangeFault.TheVariants.{Below, Above}
use Rattle.pmb_line.specs.LineFault as line_faults
use Rattle.pmb_line.specs.LineFault.{invalid_name}
use Rattle.pmb_line.specs.declared.line_fault.LineFault.{LineFault}
use Rattle.pmb_line.specs.declared.line_fault.LineFault.TheVariants as line_fault
use Rattle.pmb_note.proofs.OneLine.{no_lf, no_lf-append, no_lf-at}
use Rattle.pmb_quantity.specs.Fraction.{Fraction}
use Rattle.pmb_quantity.specs.QuantityText.{after_point, magnitude_text, minus, padded, places_of, spelling}
use Rattle.pmb_quantity.specs.declared.quantity.QuantityFault.{QuantityFault}
use Rattle.pmb_quantity.specs.declared.quantity.QuantityFault.TheVariants.{Empty, BadDigit, ZeroDenominator, TooLarge}
use Rattle.pmb_request.specs.RequestFault.{fault_text, quantity_fault_name}
use Rattle.pmb_request.specs.declared.request_fault.RequestFault.{RequestFault}
use Rattle.pmb_request.specs.declared.request_fault.RequestFault.TheVariants.{Line, Quantity}
use Rattle.pmb_host.specs.Steps.{ReplyData, AllWritten, AllBytes, OneValue, NoQuantity, reply_data}
use Rattle.pmb_host.specs.declared.step.HostFault.{HostFault}
use Rattle.pmb_host.specs.declared.step.HostFault.TheVariants as fault
use Rattle.pmb_host.specs.declared.step.HostStep.{HostStep}
use Rattle.pmb_host.specs.declared.step.HostStep.TheVariants.{Send, Done, Failed}
use Rattle.pmb_value.specs.declared.vout.ModeFault.{ModeFault}
use Rattle.pmb_value.specs.declared.vout.ModeFault.TheVariants.{Relative, Vid, Ieee, NoCoefficients}
use Rattle.pmb_writer.specs.declared.invalid.Invalid.{Invalid}
use Rattle.pmb_writer.specs.declared.invalid.Invalid.TheVariants.{NoParts, UnknownDevice, AddressTwice, UnknownCommand}
use Rattle.pmb_writer.specs.declared.invalid.Invalid.TheVariants.{NotAllowed, WrongLength, PecMode}
use Rattle.pmb_run.specs.Answer.{bytes_text, end_text, host_fault_text, mode_fault_name, place_text, range_fault_name}
use Rattle.pmb_run.specs.Answer.{reply_text}

-- ---- digits

above_lf : (b : ℕ) → 10 < b → not (b == 10) ≡ true
above_lf b more = grind (arith, nat_tests, more)

glyph_no_lf : (d : ℕ) → not (digit_glyph false d == 10) ≡ true
glyph_no_lf d = cond_both (nat_lt d 10) (48 + d) (87 + d) (λ g. not (g == 10) ≡ true)
    (λ small. above_lf (48 + d) (omega arith)) (λ large. above_lf (87 + d) (omega arith))

digits_no_lf : (count n : ℕ) (behind : List ℕ) → no_lf behind ≡ true → no_lf (digits_onto count 10 false n behind)
    ≡ true
digits_no_lf zero n behind one = one
digits_no_lf (suc count) n behind one =
    let more : no_lf (digit_glyph false (n % 10) ∷ behind) ≡ true = and_from (not (digit_glyph false (n % 10) == 10))
    (no_lf behind) (glyph_no_lf (n % 10)) one in
    cond_both (n / 10 == 0) (digit_glyph false (n % 10) ∷ behind)
    (digits_onto count 10 false (n / 10) (digit_glyph false (n % 10) ∷ behind)) (λ text. no_lf text ≡ true)
    (λ last. more) (λ others. digits_no_lf count (n / 10) (digit_glyph false (n % 10) ∷ behind) more)

pub decimal_no_lf : (n : ℕ) → no_lf (decimal n) ≡ true
unfolding digits
decimal_no_lf n = digits_no_lf 64 n [] refl

hex_no_lf : (b : ℕ) → no_lf (encode_lower (b ∷ [])) ≡ true
unfolding encode_with
hex_no_lf b = and_from _ _ (no_lf-at lower_digits (b / 16) refl)
    (and_from _ true (no_lf-at lower_digits (b % 16) refl) refl)

-- ---- quantities

minus_no_lf : (z : ℤ) → no_lf (minus z) ≡ true
minus_no_lf (pos n) = refl
minus_no_lf (negsuc n) = refl

padded_no_lf : (places n : ℕ) → no_lf (padded places n) ≡ true
padded_no_lf zero n = refl
padded_no_lf (suc places) n =
    no_lf-append (padded places (n / 10)) ((48 + n % 10) ∷ []) (padded_no_lf places (n / 10))
    (and_from (not (48 + n % 10 == 10)) true (above_lf (48 + n % 10) (omega arith)) refl)

after_point_no_lf : (places n : ℕ) → no_lf (after_point places n) ≡ true
after_point_no_lf zero n = refl
after_point_no_lf (suc places) n = no_lf-append (codes ".") (padded (suc places) n) refl (padded_no_lf (suc places) n)

magnitude_no_lf : (n d : ℕ) (places : Option ℕ) → no_lf (magnitude_text n d places) ≡ true
magnitude_no_lf n d (Some places) =
    no_lf-append (decimal (n / d)) (after_point places (n % d * (10 ^ places / d))) (decimal_no_lf (n / d))
    (after_point_no_lf places (n % d * (10 ^ places / d)))
magnitude_no_lf n d None = no_lf-append (decimal n) (codes "/" ++ decimal d) (decimal_no_lf n)
    (no_lf-append (codes "/") (decimal d) refl (decimal_no_lf d))

spelling_no_lf : (q : Fraction) → no_lf (spelling q) ≡ true
unfolding spelling
spelling_no_lf q =
    no_lf-append (minus q.numerator) (magnitude_text (unsigned_abs q.numerator) q.denominator (places_of q.denominator))
    (minus_no_lf q.numerator)
    (magnitude_no_lf (unsigned_abs q.numerator) q.denominator (places_of q.denominator))

-- ---- replies

more_bytes_no_lf : (bytes : List ℕ) → no_lf (flat_map (λ c. codes " " ++ encode_lower (c ∷ [])) bytes) ≡ true
more_bytes_no_lf [] = refl
more_bytes_no_lf (b ∷ bytes) =
    no_lf-append (codes " " ++ encode_lower (b ∷ [])) (flat_map (λ c. codes " " ++ encode_lower (c ∷ [])) bytes)
    (no_lf-append (codes " ") (encode_lower (b ∷ [])) refl (hex_no_lf b))
    (more_bytes_no_lf bytes)

bytes_no_lf : (bytes : List ℕ) → no_lf (bytes_text bytes) ≡ true
bytes_no_lf [] = refl
bytes_no_lf (b ∷ bytes) =
    no_lf-append (encode_lower (b ∷ [])) (flat_map (λ c. codes " " ++ encode_lower (c ∷ [])) bytes) (hex_no_lf b)
    (more_bytes_no_lf bytes)

reply_no_lf : (reply : ReplyData) → no_lf (reply_text reply) ≡ true
reply_no_lf AllWritten = refl
reply_no_lf (AllBytes bytes) = bytes_no_lf bytes
reply_no_lf (OneValue value) = spelling_no_lf value
reply_no_lf NoQuantity = refl

-- ---- faults

invalid_no_lf : (why : Invalid) → no_lf (invalid_name why) ≡ true
invalid_no_lf NoParts = refl
invalid_no_lf UnknownDevice = refl
invalid_no_lf AddressTwice = refl
invalid_no_lf UnknownCommand = refl
invalid_no_lf NotAllowed = refl
invalid_no_lf WrongLength = refl
invalid_no_lf PecMode = refl

mode_fault_no_lf : (why : ModeFault) → no_lf (mode_fault_name why) ≡ true
mode_fault_no_lf Relative = refl
mode_fault_no_lf Vid = refl
mode_fault_no_lf Ieee = refl
mode_fault_no_lf NoCoefficients = refl

range_fault_no_lf : (why : RangeFault) → no_lf (range_fault_name why) ≡ true
range_fault_no_lf Below = refl
range_fault_no_lf Above = refl

place_no_lf : (leg byte : ℕ) (at_read : Bool) → no_lf (place_text leg byte at_read) ≡ true
place_no_lf leg byte true = refl
place_no_lf leg byte false =
    no_lf-append (codes "refused: leg ") (decimal leg ++ (codes " byte " ++ decimal byte)) refl
    (no_lf-append (decimal leg) (codes " byte " ++ decimal byte) (decimal_no_lf leg)
    (no_lf-append (codes " byte ") (decimal byte) refl (decimal_no_lf byte)))

pub host_fault_no_lf : (why : HostFault) → no_lf (host_fault_text why) ≡ true
host_fault_no_lf (fault.Invalid invalid) = invalid_no_lf invalid
host_fault_no_lf fault.NotAQuantity = refl
host_fault_no_lf fault.ModeUnknown = refl
host_fault_no_lf (fault.Mode why) = mode_fault_no_lf why
host_fault_no_lf (fault.Range why) = range_fault_no_lf why
host_fault_no_lf (fault.Refused leg byte at_read) = place_no_lf leg byte at_read
host_fault_no_lf fault.NoByte = refl
host_fault_no_lf fault.BadPec = refl

line_fault_no_lf : (why : LineFault) → no_lf (line_faults.fault_text why) ≡ true
line_fault_no_lf line_fault.Blank = refl
line_fault_no_lf (line_fault.BadWord at) = no_lf-append (codes "BadWord at ") (decimal at) refl (decimal_no_lf at)
line_fault_no_lf (line_fault.TooLong at) = no_lf-append (codes "TooLong at ") (decimal at) refl (decimal_no_lf at)
line_fault_no_lf (line_fault.Invalid invalid) = invalid_no_lf invalid

quantity_fault_no_lf : (why : QuantityFault) → no_lf (quantity_fault_name why) ≡ true
quantity_fault_no_lf Empty = refl
quantity_fault_no_lf BadDigit = refl
quantity_fault_no_lf ZeroDenominator = refl
quantity_fault_no_lf TooLarge = refl

pub request_fault_no_lf : (why : RequestFault) → no_lf (fault_text why) ≡ true
request_fault_no_lf (Line why) = line_fault_no_lf why
request_fault_no_lf (Quantity why) = quantity_fault_no_lf why

-- ---- the end of a request

pub end_no_lf : (end : HostStep) → no_lf (end_text end) ≡ true
end_no_lf (Send signal) = refl
end_no_lf (Done reply) = reply_no_lf (reply_data reply)
end_no_lf (Failed why) = host_fault_no_lf why
