-- Lines that go out one after the other, under their heading.
use Rattle.std.specs.Prelude.{◌≡◌, ℕ, Option, List}
use Rattle.pmb_io.specs.Outgoing.{PutsText}
use Rattle.pmb_json_text.specs.declared.item_order.ItemOrder.{ItemOrder}
use Rattle.pmb_json_text.specs.Member.{place_after}
use Rattle.pmb_observed.specs.Told.{BitData, NumbersData}
use Rattle.pmb_stats_table.specs.declared.widths.Widths.{Widths}
use Rattle.pmb_stats_table.specs.Row.{headed}
use Rattle.pmb_stats_table.specs.Rows.{bit_heading, bit_row, number_heading, number_row}

-- The lines of some values were put out, with the heading if they are the first, and `next` is the place of what
-- follows.
pub record PutsLines {A : Type 0} (heading : List ℕ) (line : A → List ℕ) (place : ItemOrder) (values : List A)
    (held_old : Option (List ℕ)) (waiting_old : List ℕ) (held_new : Option (List ℕ)) (waiting_new : List ℕ)
    (next : ItemOrder) : Type 0 where
  pub puts : PutsText held_old waiting_old held_new waiting_new (headed heading line place values)
  pub after : next ≡ place_after place values

abbrev pub PutsBits : Widths → ItemOrder → List BitData → Option (List ℕ) → List ℕ → Option (List ℕ) → List ℕ
    → ItemOrder → Type 0
PutsBits widths = PutsLines (bit_heading widths) (bit_row widths)

abbrev pub PutsNumbers : Widths → ℕ → ItemOrder → List NumbersData → Option (List ℕ) → List ℕ → Option (List ℕ)
    → List ℕ → ItemOrder → Type 0
PutsNumbers widths digits = PutsLines (number_heading widths) (number_row widths digits)
