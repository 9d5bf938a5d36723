-- The fields so far, and one more.
use Rattle.std.proofs.Common.{List, ℕ, ◌++◌, ◌∙◌, ap, sym, take, get_or, rules, arith}
use Rattle.pmb_json_text.specs.declared.item_order.ItemOrder.{ItemOrder}
use Rattle.pmb_json_text.specs.declared.item_order.ItemOrder.TheVariants.{First}
use Rattle.pmb_json_text.specs.Member.{is_key, place_after}
use Rattle.pmb_meaning.specs.Field.{SaidField, all_parts, field_parts}
use Rattle.pmb_meaning.specs.Names.{names_of}
use Rattle.pmb_meaning.specs.Words.{field_words, fields_words}
use Rattle.pmb_meaning.proofs.RowLemmas.{passes_at}
use Rattle.pmb_meaning.proofs.Turns.{appended_more, no_field, fields_room_left, fields_room_more, fields_words_in_parts, one_field}
use Rattle.pmb_meaning.proofs.Turns.{place_more, text_more}
use Rattle.pmb_meaning.proofs.words.append_fields.Goals as goal

pub append_field-requires : goal.append_field-requires
append_field-requires g c = (
  search rules,
  (
    passes_at (λ (f : SaidField). is_key f.key) field_parts c.args.fields.now c.loop-field.field-index no_field
        c.requires.keys c.loop-field-test.true,
    omega (
      arith,
      fields_room_left c.args.fields.now c.loop-field.field-index no_field c.loop-field-test.true,
      c.loop-field.invariant.short,
      c.requires.room,
    ),
  ),
)

pub loop-field-preserved : goal.loop-field-preserved
loop-field-preserved g c =
    let fields = c.args.fields.now in
    let i = c.loop-field.field-index in
    let names = names_of c.args.device.now in
    let next = field_parts (get_or fields i no_field) in
    record {
      text =
          appended_more c.args.out.now.items (fields_words names First (all_parts (take i fields))) _
          c.loop-field.invariant.text
          (c.append_field.ensures.words
          ∙ ap (λ (p : ItemOrder). c.loop-field.out.items ++ field_words names p next) c.loop-field.invariant.place
          ∙ ap (λ (t : List ℕ). c.loop-field.out.items ++ t)
          (sym (one_field names (place_after First (take i fields)) next)))
          (text_more (fields_words names) (fields_words_in_parts names) field_parts fields i no_field
          c.loop-field-test.true);
      place = place_more fields i no_field c.loop-field-test.true;
      short = omega (arith, fields_room_more fields i no_field c.loop-field-test.true, c.append_field.ensures.short, c.loop-field.invariant.short);
    }
