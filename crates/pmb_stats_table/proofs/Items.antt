-- Items of a list with commas between, with one more: for `append_sorts`.
use Rattle.std.proofs.Common.{◌≡◌, ℕ, ◌+◌, ◌<◌, List, length, get_or, take, ap, ◌∙◌}
use Rattle.std.specs.List.{flat_map}
use Rattle.pmb_json_text.specs.declared.item_order.ItemOrder.{ItemOrder}
use Rattle.pmb_json_text.specs.declared.item_order.ItemOrder.TheVariants.{First}
use Rattle.pmb_json_text.specs.Member.{place_after}
use Rattle.pmb_log_data.specs.Appends.{Appends}
use Rattle.pmb_log_data.specs.Text.{joined}
use Rattle.pmb_log_data.proofs.Joined.{after_both, then_joined}
use Rattle.pmb_log_data.proofs.Texts.{called}
use Rattle.pmb_stats_table.proofs.Texts.{texts_more}

module _ {X : Type 0} (separator : List ℕ) (words : X → List (List ℕ)) (xs : List X) (i : ℕ) (d : X)
    (within : i < length xs)
    {place : ItemOrder} {item : List (List ℕ)} (is : item ≡ words (get_or xs i d))
    (before : place ≡ place_after First (flat_map words (take i xs))) where
  -- the place after it
  pub place_more : {next : ItemOrder} → next ≡ place_after place item
      → next ≡ place_after First (flat_map words (take (i + 1) xs))
  place_more after =
      let front = flat_map words (take i xs) in
      after ∙ ap (place_after place) is
      ∙ ap (λ (p : ItemOrder). place_after p (words (get_or xs i d))) before
      ∙ after_both First front (words (get_or xs i d))
      ∙ ap (place_after First) (texts_more words xs i d within)

  -- the text with it
  pub joined_more : {m n : ℕ} {a b c : List ℕ} → Appends (joined separator First (flat_map words (take i xs))) m a b
      → Appends (joined separator place item) n b c
      → Appends (joined separator First (flat_map words (take (i + 1) xs))) (m + n) a c
  joined_more first second =
      called (ap (joined separator First) (texts_more words xs i d within))
      (then_joined separator First (flat_map words (take i xs)) (words (get_or xs i d)) before first
      (called (ap (joined separator place) is) second))
