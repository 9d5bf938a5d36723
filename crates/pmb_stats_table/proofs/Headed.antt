-- Lines that go out one after the other, under their heading: for `put_bits`, `put_numbers` and the functions that
-- they call.
use Rattle.std.proofs.Common.{◌≡◌, ℕ, Option, Result, Ok, Err, List, [], ◌∷◌, ◌++◌, refl, sym, ap, ◌∙◌}
use Rattle.std.proofs.Common.{subst, append_assoc}
use Rattle.std.specs.List.{flat_map}
use Rattle.std.specs.Prelude.{IfOk, OnOk}
use Rattle.std.proofs.lemmas.Grind.{flat_map-append}
use Rattle.pmb_io.proofs.Writing.{writes_as, writes_nothing, writes_then}
use Rattle.pmb_json_text.specs.declared.item_order.ItemOrder.{ItemOrder}
use Rattle.pmb_json_text.specs.declared.item_order.ItemOrder.TheVariants.{First, Later}
use Rattle.pmb_json_text.specs.Member.{place_after}
use Rattle.pmb_stats_table.specs.Row.{headed}
use Rattle.pmb_stats_table.specs.machine.Lines.{PutsLines}

-- what follows from the value of a call that succeeded
pub if_ok : {T F : Type 0} {P Q : T → Type 0} (r : Result T F) → ((x : T) → P x → Q x) → IfOk r P → IfOk r Q
if_ok (Ok x) next p = next x p
if_ok (Err e) next p = tt

pub on_ok : {T F P Q : Type 0} (r : Result T F) → (P → Q) → OnOk r P → OnOk r Q
on_ok (Ok x) next p = next p
on_ok (Err e) next p = tt

module _ {A : Type 0} (heading : List ℕ) (line : A → List ℕ) where
  later_after : (xs : List A) → place_after Later xs ≡ Later
  later_after [] = refl
  later_after (x ∷ xs) = refl

  -- the lines of two lists are those of the first, and then those of the second in the place after it
  in_parts : (place : ItemOrder) (xs ys : List A)
      → headed heading line place xs ++ headed heading line (place_after place xs) ys
      ≡ headed heading line place (xs ++ ys)
  in_parts First [] ys = refl
  in_parts First (x ∷ xs) ys = append_assoc heading (flat_map line (x ∷ xs)) (flat_map line ys)
      ∙ ap (λ (t : List ℕ). heading ++ t) (sym (flat_map-append line (x ∷ xs) ys))
  in_parts Later xs ys = ap (λ (p : ItemOrder). flat_map line xs ++ headed heading line p ys) (later_after xs)
      ∙ sym (flat_map-append line xs ys)

  -- and so is the place after them
  after_both : (place : ItemOrder) (xs ys : List A)
      → place_after (place_after place xs) ys ≡ place_after place (xs ++ ys)
  after_both place [] ys = refl
  after_both place (x ∷ xs) ys = later_after ys

  nothing_headed : (place : ItemOrder) → [] ≡ headed heading line place []
  nothing_headed First = refl
  nothing_headed Later = refl

  -- no lines
  pub puts_none : (place : ItemOrder) (held : Option (List ℕ)) (waiting : List ℕ)
      → PutsLines heading line place [] held waiting held waiting place
  puts_none place held waiting = record {
    puts = writes_as held held waiting waiting waiting [] _ refl (nothing_headed place) (writes_nothing held waiting);
    after = refl;
  }

  -- lines, and then others
  pub puts_both : (xs ys : List A) {place next last : ItemOrder} {h0 h1 h2 : Option (List ℕ)} {w0 w1 w2 : List ℕ}
      → PutsLines heading line place xs h0 w0 h1 w1 next → PutsLines heading line next ys h1 w1 h2 w2 last
      → PutsLines heading line place (xs ++ ys) h0 w0 h2 w2 last
  puts_both xs ys {place} {next} {last} {h0} {h1} {h2} {w0} {w1} {w2} first second = record {
    puts = writes_as h0 h2 w0 w2 w2 _ _ refl
        (ap (λ (p : ItemOrder). headed heading line place xs ++ headed heading line p ys) first.after
        ∙ in_parts place xs ys)
        (writes_then h0 h1 h2 w0 w1 w2 (headed heading line place xs) (headed heading line next ys) first.puts
        second.puts);
    after = second.after ∙ ap (λ (p : ItemOrder). place_after p ys) first.after ∙ after_both place xs ys;
  }

  -- the same of an equal list
  pub puts_lines_of : {xs ys : List A} {place next : ItemOrder} {h0 h1 : Option (List ℕ)} {w0 w1 : List ℕ} → xs ≡ ys
      → PutsLines heading line place xs h0 w0 h1 w1 next → PutsLines heading line place ys h0 w0 h1 w1 next
  puts_lines_of {xs} {ys} {place} {next} {h0} {h1} {w0} {w1} same =
      subst (λ (zs : List A). PutsLines heading line place zs h0 w0 h1 w1 next) same
