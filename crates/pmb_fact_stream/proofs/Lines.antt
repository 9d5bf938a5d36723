-- Lines of facts that go out one after the other, and what doesn't go out: a fact of a device that
-- isn't wanted has no line. For `put_fact`, `put_device`, `put_count_objects`, `put_bad_word` and
-- `put_end`. A line is appended to the text that waits, after room was made for it.
use Rattle.std.proofs.Common.{◌≡◌, ℕ, true, false, Option, None, List, [], ◌∷◌, ◌++◌, filter, flat_map, append-nil}
use Rattle.std.proofs.Common.{append_assoc, refl, sym, ap, ◌∙◌, subst}
use Rattle.std.proofs.lemmas.List.Elements.{filter-append}
use Rattle.std.proofs.lemmas.Grind.{flat_map-append}
use Rattle.pmb_command.specs.Parts.{DeviceParts}
use Rattle.pmb_facts.specs.Fact.{FactData, fact_device}
use Rattle.pmb_io.specs.Outgoing.{PutsText}
use Rattle.pmb_io.proofs.Writing.{writes_then}
use Rattle.pmb_json_text.specs.Member.{object_line}
use Rattle.pmb_json_objects.specs.Object.{Object, is_wanted, object_lines}
use Rattle.pmb_fact_stream.specs.Choice.{ChoiceData}
use Rattle.pmb_fact_stream.specs.Lines.{fact_line, fact_lines, is_wanted_fact}

-- ---- facts

module _ (choice : ChoiceData) (profile : List DeviceParts) where
  pub lines_append : (a b : List FactData) → fact_lines choice profile (a ++ b) ≡ fact_lines choice profile a
      ++ fact_lines choice profile b
  lines_append a b =
      ap (flat_map (fact_line choice profile)) (filter-append (is_wanted_fact choice profile) a b)
      ∙ flat_map-append (fact_line choice profile) (filter (is_wanted_fact choice profile) a)
      (filter (is_wanted_fact choice profile) b)

  -- one that is not wanted has none
  pub unwanted_fact : (fact : FactData) → is_wanted choice.devices (fact_device fact.what) ≡ false
      → fact_lines choice profile (fact ∷ []) ≡ []
  unwanted_fact fact unwanted = rw unwanted refl

  pub wanted_fact : (fact : FactData) → is_wanted choice.devices (fact_device fact.what) ≡ true
      → fact_lines choice profile (fact ∷ []) ≡ fact_line choice profile fact
  wanted_fact fact wanted = rw wanted (append-nil (fact_line choice profile fact))

-- ---- objects of counts

module _ (devices : List ℕ) where
  pub objects_append : (a b : List Object) → object_lines devices (a ++ b) ≡ object_lines devices a
      ++ object_lines devices b
  objects_append a b =
      ap (flat_map (λ (object : Object). object_line object.members))
      (filter-append (λ (object : Object). is_wanted devices object.device) a b)
      ∙ flat_map-append (λ (object : Object). object_line object.members)
      (filter (λ (object : Object). is_wanted devices object.device) a)
      (filter (λ (object : Object). is_wanted devices object.device) b)

  wanted_line : (object : Object) → is_wanted devices object.device ≡ true → object_lines devices (object ∷ [])
      ≡ object_line object.members
  wanted_line object wanted = rw wanted (append-nil (object_line object.members))

-- a line is appended to what waits
pub appended_line : (h0 h1 : Option (List ℕ)) (w0 w1 w2 line : List ℕ) → PutsText h0 w0 h1 w1 [] → w2 ≡ w1 ++ line
    → PutsText h0 w0 h1 w2 line
appended_line h0 h1 w0 w1 w2 line room appended = record {
  sent = room.sent;
  appended = room.appended;
  whole = ap (λ (t : List ℕ). t ++ line) (sym (append-nil w0) ∙ room.whole) ∙ append_assoc room.sent w1 line
      ∙ ap (λ (t : List ℕ). room.sent ++ t) (sym appended);
}

module _ (devices : List ℕ) where
  -- one object, whose line goes out
  pub puts_wanted_line : (object : Object) (h0 h1 : Option (List ℕ)) (w0 w1 w2 : List ℕ)
      → is_wanted devices object.device ≡ true → PutsText h0 w0 h1 w1 []
      → w2 ≡ w1 ++ object_line object.members → PutsText h0 w0 h1 w2 (object_lines devices (object ∷ []))
  puts_wanted_line object h0 h1 w0 w1 w2 wanted room appended =
      subst (λ (t : List ℕ). PutsText h0 w0 h1 w2 t) (sym (wanted_line devices object wanted))
      (appended_line h0 h1 w0 w1 w2 (object_line object.members) room appended)

  -- lines, and then others
  pub puts_lines : (a b all : List Object) (h0 h1 h2 : Option (List ℕ)) (w0 w1 w2 : List ℕ) → all ≡ a ++ b
      → PutsText h0 w0 h1 w1 (object_lines devices a)
      → PutsText h1 w1 h2 w2 (object_lines devices b) → PutsText h0 w0 h2 w2 (object_lines devices all)
  puts_lines a b all h0 h1 h2 w0 w1 w2 both first second =
      subst (λ (t : List ℕ). PutsText h0 w0 h2 w2 t) (sym (ap (object_lines devices) both ∙ objects_append devices a b))
      (writes_then h0 h1 h2 w0 w1 w2 (object_lines devices a) (object_lines devices b) first second)

-- what names no device is always wanted
pub of_none : (devices : List ℕ) → is_wanted devices None ≡ true
of_none [] = refl
of_none (first ∷ devices) = refl
