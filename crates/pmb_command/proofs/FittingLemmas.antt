-- What the test of a command's parts says of each of them: that a command that fits keeps each
-- rule. For `standard`, `by_name` and the laws on the standard commands. The test is a
-- conjunction, taken apart from the front.
use Rattle.std.proofs.Common.{◌≡◌, Bool, true, false, not, ◌&&◌, ◌||◌, nat_eq, refl, subst, sym}
use Rattle.std.proofs.lemmas.Bool.{and_parts}
use Rattle.pmb_command.specs.declared.entry.Kind.{Kind}
use Rattle.pmb_command.specs.declared.entry.Kind.TheVariants.{Raw, Number, Vout, VoutSigned, Status, Text}
use Rattle.pmb_command.specs.Bus.{IsFitting, KeepsRanges}
use Rattle.pmb_command.specs.Commands.{standard_entry}
use Rattle.pmb_command.specs.Entry.{EntryParts}
use Rattle.pmb_command.specs.Fitting.{are_kept, calls_fit, has_form, is_always_raw}
use Rattle.pmb_command.specs.Fitting.{is_fitting, is_fixed, is_raw, kind_fits, reads_data, value_form, ways_agree}

-- where a test excuses or asks, what it asks for holds wherever it doesn't excuse
asked : (excused fits : Bool) → (not excused || fits) ≡ true → excused ≡ true → fits ≡ true
asked true fits holds is = holds
asked false fits holds is = cc

-- the kind that the test takes
raw_kind : (kind : Kind) → is_raw kind ≡ true → kind ≡ Raw
raw_kind Raw is = refl
raw_kind (Number format) is = cc
raw_kind Vout is = cc
raw_kind VoutSigned is = cc
raw_kind Status is = cc
raw_kind Text is = cc

-- what is not both is not the second where it is the first
not_both : (a b : Bool) → not (a && b) ≡ true → a ≡ true → b ≡ false
not_both true true holds is = cc
not_both true false holds is = refl
not_both false b holds is = cc

pub fitting_parts : (e : EntryParts) → is_fitting e ≡ true → KeepsRanges e.kind → IsFitting e
fitting_parts e fits ranges =
    -- each part of the test
    let some_form = has_form e.shape in
    let one_form = ways_agree e.shape.write e.shape.read in
    let read_data = reads_data e.shape.read in
    let call_form = calls_fit e.shape.call in
    let fixed = not (is_fixed e.code) || are_kept e.shape (standard_entry e.code) in
    let raw = not (is_always_raw e.code) || is_raw e.kind in
    let page = not (nat_eq e.code 0x00 && e.paged) in
    let kind = kind_fits e.kind (value_form e.shape) in
    -- the conjunction, taken apart from the front
    let one = and_parts some_form (one_form &&
    (read_data && (call_form && (fixed && (raw && (page && kind)))))) fits in
    let two = and_parts one_form (read_data && (call_form && (fixed && (raw && (page && kind))))) one.1 in
    let three = and_parts read_data (call_form && (fixed && (raw && (page && kind)))) two.1 in
    let four = and_parts call_form (fixed && (raw && (page && kind))) three.1 in
    let five = and_parts fixed (raw && (page && kind)) four.1 in
    let six = and_parts raw (page && kind) five.1 in
    let seven = and_parts page kind six.1 in
    record {
      some_form = one.0;
      one_form = two.0;
      read_data = three.0;
      call_form = four.0;
      fixed = asked (is_fixed e.code) (are_kept e.shape (standard_entry e.code)) five.0;
      raw = λ is. raw_kind e.kind (asked (is_always_raw e.code) (is_raw e.kind) six.0 is);
      -- 0x00 is PAGE, which is never paged
      page = λ is. not_both (nat_eq e.code 0x00) e.paged seven.0 (subst (λ c. nat_eq c 0x00 ≡ true) (sym is) refl);
      kind = seven.1;
      ranges = ranges;
    }
