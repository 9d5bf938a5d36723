use Rattle.std.proofs.Common.{◌≡◌, ◌∙◌, Option, Some, None, List, ℕ, MatchOption, codes, map, refl, subst, sym}
use Rattle.clap.specs.Words.{all_of, found_of, rows_of}
use Rattle.clap.proofs.WalkLemmas.{raw_values-rows}
use Rattle.pmb_args.specs.Facts.{ChoosesDigits, SpellDevices, SpellsNone, digits_in}
use Rattle.pmb_args.proofs.AskedLemmas.{texts_or_none}
use Rattle.pmb_args.proofs.FirstFaults.{first_is_address, first_is_digits}
use Rattle.pmb_args.proofs.fact_words.read_facts.Goals as goal

at_none : {X : Type 0} (found : Option X) (P : Type 0) (Q : X → Type 0) → found ≡ None → MatchOption found P Q → P
at_none found P Q is holds = subst (λ o. MatchOption o P Q) is holds

at_some : {X : Type 0} (found : Option X) (x : X) (P : Type 0) (Q : X → Type 0) → found ≡ Some x → MatchOption found P Q
    → Q x
at_some found x P Q is holds = subst (λ o. MatchOption o P Q) is holds

-- N is no number, and nothing else comes first.
pub returns-in_default-digits : goal.returns-in_default-digits
returns-in_default-digits c =
    let rows = rows_of (found_of c.args.arguments.now) in
    let N = digits_in rows in
    first_is_digits rows c.in-Some.start (sym c.start.ensures ∙ c.in-Some.is)
    (at_none c.digits.result (SpellsNone N) (ChoosesDigits c.args.default_digits N) c.in_default-digits.is
    c.digits.ensures)

-- An HH is no address, and nothing else comes first.
pub returns-in_default-read_devices : goal.returns-in_default-read_devices
returns-in_default-read_devices c =
    let rows = rows_of (found_of c.args.arguments.now) in
    let words = texts_or_none c.get_strs.result c.unwrap_or.result _ (all_of (codes "device") rows)
    (c.get_strs.ensures ∙ raw_values-rows (found_of c.args.arguments.now) (codes "device")) c.unwrap_or.ensures
    refl in
    let chosen = at_some c.digits.result c.in-Some-digits.digits (SpellsNone (digits_in rows))
    (ChoosesDigits c.args.default_digits (digits_in rows)) c.in-Some-digits.is c.digits.ensures in
    first_is_address rows c.in-Some.start (sym c.start.ensures ∙ c.in-Some.is) c.args.default_digits
    c.in-Some-digits.digits chosen
    (subst (λ ws. (devices : List ℕ) → ¬ (SpellDevices ws devices)) words
    (at_none c.read_devices.result ((devices : List ℕ)
    → ¬ (SpellDevices (map (λ word. word.now) c.unwrap_or.result.now) devices))
    (λ devices. SpellDevices (map (λ word. word.now) c.unwrap_or.result.now) devices.items)
    c.in_default-read_devices.is c.read_devices.ensures))

-- All is said.
pub returns : goal.returns
returns c =
    let rows = rows_of (found_of c.args.arguments.now) in
    let words = texts_or_none c.get_strs.result c.unwrap_or.result _ (all_of (codes "device") rows)
    (c.get_strs.ensures ∙ raw_values-rows (found_of c.args.arguments.now) (codes "device")) c.unwrap_or.ensures
    refl in
    record {
      start = sym c.start.ensures ∙ c.in-Some.is;
      after_bad_token = c.after_bad_token.ensures;
      digits = at_some c.digits.result c.in-Some-digits.digits (SpellsNone (digits_in rows))
          (ChoosesDigits c.args.default_digits (digits_in rows)) c.in-Some-digits.is c.digits.ensures;
      devices = subst (λ ws. SpellDevices ws c.in-Some-read_devices.devices.items) words
          (at_some c.read_devices.result c.in-Some-read_devices.devices ((devices : List ℕ)
          → ¬ (SpellDevices (map (λ word. word.now) c.unwrap_or.result.now) devices))
          (λ devices. SpellDevices (map (λ word. word.now) c.unwrap_or.result.now) devices.items)
          c.in-Some-read_devices.is c.read_devices.ensures);
    }
