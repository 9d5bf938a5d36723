-- The names so far, and one more.
use Rattle.std.proofs.Common.{List, ℕ, [], ◌∷◌, ◌++◌, ◌∙◌, Bor, ap, take, get_or, length, rules, arith}
use Rattle.pmb_json_text.specs.declared.item_order.ItemOrder.{ItemOrder}
use Rattle.pmb_json_text.specs.declared.item_order.ItemOrder.TheVariants.{First}
use Rattle.pmb_meaning.specs.Field.{texts}
use Rattle.pmb_meaning.specs.Words.{spaced}
use Rattle.pmb_meaning.proofs.Turns.{appended_more, no_text, place_more, spaced_in_parts, spaced_piece, text_more}
use Rattle.pmb_meaning.proofs.Turns.{words_room_left, words_room_more}
use Rattle.pmb_meaning.proofs.words.append_each_name.Goals as goal

pub append_between-requires : goal.append_between-requires
append_between-requires g c = (
  search rules,
  omega (
    arith,
    words_room_left c.args.names.now c.loop-name.name-index no_text c.loop-name-test.true,
    c.loop-name.invariant.short,
    c.requires,
  ),
)

pub append-requires : goal.append-requires
append-requires g c = (
  search rules,
  omega (
    arith,
    words_room_left c.args.names.now c.loop-name.name-index no_text c.loop-name-test.true,
    ap length c.as_bytes.ensures.value,
    c.append_between.ensures.short,
    c.loop-name.invariant.short,
    c.requires,
  ),
)

pub loop-name-preserved : goal.loop-name-preserved
loop-name-preserved g c =
    let names = c.args.names.now in
    let i = c.loop-name.name-index in
    let out = c.loop-name.out.items in
    let name = (get_or names i no_text).now in
    record {
      text =
          appended_more c.args.out.now.items (spaced First (texts (take i names))) _ c.loop-name.invariant.text
          (spaced_piece c.loop-name.place name out c.append_between.ensures.text
          (c.append.ensures.text
          ∙ ap (λ (t : List ℕ). c.append_between.new.out.items ++ t) c.as_bytes.ensures.value)
          ∙ ap (λ (p : ItemOrder). out ++ spaced p (name ∷ [])) c.loop-name.invariant.place)
          (text_more spaced spaced_in_parts (λ (n : Bor (List ℕ)). n.now) names i no_text c.loop-name-test.true);
      place = place_more names i no_text c.loop-name-test.true;
      short =
          omega (
            arith,
            words_room_more names i no_text c.loop-name-test.true,
            ap length c.as_bytes.ensures.value,
            c.append_between.ensures.short,
            c.append.ensures.short,
            c.loop-name.invariant.short,
          );
    }
