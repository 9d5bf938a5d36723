use Rattle.std.proofs.Common.{◌≡◌, ◌≢◌, Bool, true, false, length, List, ℕ, ◌∙◌, sym}
use Rattle.std.specs.Bool.{OnTrue}
use Rattle.std.specs.Char.{is_ascii_digit}
use Rattle.std.specs.List.{list_all}
use Rattle.std.specs.Str.Parse.{AllDigits}
use Rattle.pmb_quantity.proofs.DigitLemmas.{AllDigits-from_test, are_digits-some, empty_test}
use Rattle.pmb_quantity.proofs.numeral.is_number.Goals as goal

digits_of : (ds : List ℕ) (b : Bool) → b ≡ list_all is_ascii_digit ds → OnTrue b (AllDigits 10 ds)
digits_of ds true is = AllDigits-from_test ds (sym is)
digits_of ds false is = tt

pub returns-then-not-is_empty : goal.returns-then-not-is_empty
returns-then-not-is_empty c =
    let text = c.args.text.now in
    let some : length text ≢ 0 = empty_test (length text) (sym c.is_empty.ensures ∙ c.if-not-is_empty.true) in
    record {
      value = c.is_all_digits.ensures ∙ sym (are_digits-some text some);
      digits = digits_of text c.is_all_digits.result c.is_all_digits.ensures;
    }
