-- The texts so far, and one more.
use Rattle.std.proofs.Common.{List, ℕ, [], ◌∷◌, ◌++◌, ◌∙◌, Bor, ap, take, get_or, length, refl, rules, arith}
use Rattle.pmb_json_text.specs.declared.item_order.ItemOrder.{ItemOrder}
use Rattle.pmb_json_text.specs.declared.item_order.ItemOrder.TheVariants.{First}
use Rattle.pmb_json_text.specs.Json.{string}
use Rattle.pmb_json_text.specs.Member.{items_text}
use Rattle.pmb_meaning.specs.Field.{texts}
use Rattle.pmb_meaning.proofs.ObjectLemmas.{no_item}
use Rattle.pmb_meaning.proofs.Turns.{appended_more, no_text, place_more, text_items, text_items_in_parts, text_more}
use Rattle.pmb_meaning.proofs.Turns.{words_room_left, words_room_more}
use Rattle.pmb_meaning.proofs.member.append_items.Goals as goal

pub loop-name-init : goal.loop-name-init
loop-name-init g c = record { text = no_item c.args.out.now.items; place = refl; short = omega arith }

pub text_item-requires : goal.text_item-requires
text_item-requires g c = (
  search rules,
  omega (
    arith,
    words_room_left c.args.names.now c.loop-name.name-index no_text c.loop-name-test.true,
    ap length c.as_bytes.ensures.value,
    c.loop-name.invariant.short,
    c.requires,
  ),
)

pub loop-name-preserved : goal.loop-name-preserved
loop-name-preserved g c =
    let names = c.args.names.now in
    let i = c.loop-name.name-index in
    let out = c.loop-name.out.items in
    record {
      text =
          appended_more c.args.out.now.items (text_items First (texts (take i names))) _ c.loop-name.invariant.text
          (c.text_item.ensures.item
          ∙ ap (λ (t : List ℕ). out ++ items_text c.loop-name.place (string t ∷ [])) c.as_bytes.ensures.value
          ∙ ap (λ (p : ItemOrder). out ++ items_text p (string (get_or names i no_text).now ∷ []))
          c.loop-name.invariant.place)
          (text_more text_items text_items_in_parts (λ (name : Bor (List ℕ)). name.now) names i no_text
          c.loop-name-test.true);
      place = place_more names i no_text c.loop-name-test.true;
      short =
          omega (
            arith,
            words_room_more names i no_text c.loop-name-test.true,
            ap length c.as_bytes.ensures.value,
            c.text_item.ensures.short,
            c.loop-name.invariant.short,
          );
    }
