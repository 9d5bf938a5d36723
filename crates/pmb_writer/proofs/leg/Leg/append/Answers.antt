use Rattle.std.proofs.Common.{◌≡◌, ◌≤◌, ◌+◌, ◌*◌, ◌++◌, ◌∷◌, [], List, ℕ, length, sym, ap, ◌∙◌, rules, arith}
use Rattle.std.specs.Prelude.{bit_xor}
use Rattle.std.specs.Option.{option_to_list}
use Rattle.pmb_bus.specs.Event.{canonical_text}
use Rattle.pmb_bus.specs.Pec.{pec}
use Rattle.pmb_bus.specs.declared.event.Event.TheVariants.{Start}
use Rattle.pmb_writer.specs.machine.Legs.{answered_by, code_before, code_behind, code_on, with_code}
use Rattle.pmb_writer.proofs.LegTexts.{leg_code, leg_pieces, with_code_is}
use Rattle.pmb_writer.proofs.leg.Leg.append.Goals as goal

-- how far the text has got before the last answer
grown : (old begun t0 t1 t2 t3 t4 count : ℕ) → begun ≤ old + 3 → t0 ≤ begun + 3 → t1 ≤ t0 + 5 → t2 ≤ t1 + 5
    → t3 ≡ t2 + 5 * count → t4 ≤ t3 + 5 → count ≤ 258 → t4 ≤ old + 1311
grown old begun t0 t1 t2 t3 t4 count a b c d e f few = omega arith

there_is_room : (old before room : ℕ) → before ≤ old + 1311 → old + 1314 ≤ room → before + 3 ≤ room
there_is_room old before room a b = omega arith

pub append_event-requires-3 : goal.append_event-requires-3
append_event-requires-3 g c = (
  search rules,
  there_is_room (length c.args.text.now.items) (length c.append_code.new.text.items) _
      (grown (length c.args.text.now.items) _ _ _ _ _ _
      (length c.args.self.now.«data».now) c.append_event.ensures.longer c.append_event-2.ensures.longer
      c.append_some-with_code.ensures.longer
      c.append_some-with_count.ensures.longer c.append_each-whole.ensures.longer c.append_code.ensures.longer
      c.requires.whole.few) c.requires.room,
)

at_most : (old before new : ℕ) → before ≤ old + 1311 → new ≤ before + 3 → new ≤ old + 1314
at_most old before new a b = omega arith

pub returns-clause-longer : goal.returns-clause-longer
returns-clause-longer g c =
    at_most (length c.args.text.now.items) (length c.append_code.new.text.items) _
    (grown (length c.args.text.now.items) _ _ _ _ _ _ (length c.args.self.now.«data».now) c.append_event.ensures.longer
    c.append_event-2.ensures.longer c.append_some-with_code.ensures.longer
    c.append_some-with_count.ensures.longer c.append_each-whole.ensures.longer c.append_code.ensures.longer
    c.requires.whole.few) c.append_event-3.ensures.longer

pub returns-clause-code : goal.returns-clause-code
returns-clause-code g c =
    let leg = c.args.self.now in
    let begun = code_before leg.goes_on c.args.crc in
    let rest = option_to_list leg.code ++ (option_to_list leg.count ++ leg.«data».now) in
    leg_code begun c.unwrap-address.result c.pec_next-with_address.result c.append_some-with_code.result
    c.append_some-with_count.result c.append_each-whole.result
    (option_to_list leg.code) (option_to_list leg.count) leg.«data».now
    (c.pec_next-with_address.ensures.step ∙ ap (λ crc. pec (bit_xor crc c.unwrap-address.result ∷ []))
    c.code_before.ensures) c.append_some-with_code.ensures.code c.append_some-with_count.ensures.code
    c.append_each-whole.ensures.code
    ∙ ap (λ address. code_on begun (option_to_list address ++ rest)) (sym c.unwrap-address.ensures)

pub returns-clause-text : goal.returns-clause-text
returns-clause-text g c =
    let leg = c.args.self.now in
    let begun = code_before leg.goes_on c.args.crc in
    let address = c.unwrap-address.result in
    let rest = option_to_list leg.code ++ (option_to_list leg.count ++ leg.«data».now) in
    let whole : c.append_each-whole.result ≡ code_on begun (address ∷ rest) =
    leg_code begun address c.pec_next-with_address.result c.append_some-with_code.result c.append_some-with_count.result
    c.append_each-whole.result
    (option_to_list leg.code) (option_to_list leg.count) leg.«data».now
    (c.pec_next-with_address.ensures.step ∙ ap (λ crc. pec (bit_xor crc c.unwrap-address.result ∷ []))
    c.code_before.ensures) c.append_some-with_code.ensures.code c.append_some-with_count.ensures.code
    c.append_each-whole.ensures.code in
    let bytes : (address ∷ rest) ++ code_behind leg.pec c.append_each-whole.result
    ≡ with_code leg.pec begun (option_to_list leg.address ++ rest) =
    ap (λ code. (address ∷ rest) ++ code_behind leg.pec code) whole
    ∙ (sym (with_code_is leg.pec begun (address ∷ rest)) ∙ ap (λ a. with_code leg.pec begun (option_to_list a ++ rest))
    (sym c.unwrap-address.ensures)) in
    leg_pieces c.args.text.now.items c.append_event.new.text.items c.append_event-2.new.text.items
    c.append_some-with_code.new.text.items c.append_some-with_count.new.text.items
    c.append_each-whole.new.text.items c.append_code.new.text.items c.append_event-3.new.text.items address
    (option_to_list leg.code) (option_to_list leg.count) leg.«data».now
    (code_behind leg.pec c.append_each-whole.result) leg.last c.append_event.ensures.text c.append_event-2.ensures.text
    c.append_some-with_code.ensures.text c.append_some-with_count.ensures.text
    c.append_each-whole.ensures.text c.append_code.ensures.text c.append_event-3.ensures.text
    ∙ ap (λ (b : List ℕ). c.args.text.now.items ++ canonical_text (Start ∷ answered_by leg.last b)) bytes
