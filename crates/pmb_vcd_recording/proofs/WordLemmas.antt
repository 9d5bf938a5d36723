-- The words of a line, one after the other: for `take_words`.
use Rattle.std.proofs.Common.{◌≡◌, ◌∙◌, true, false, List, ℕ, [], ◌∷◌, ◌++◌, Option, ap, append-nil, append_assoc, refl, subst, sym}
use Rattle.pmb_io.specs.Outgoing.{PutsText}
use Rattle.pmb_recording.specs.Recording.{Step as StepOf, quietly}
use Rattle.pmb_vcd.specs.Words.{words}
use Rattle.pmb_vcd_recording.specs.Lines.{in_turn, take_word, take_words}
use Rattle.pmb_vcd_recording.specs.Source as source
use Rattle.pmb_vcd_recording.specs.declared.vcd.Vcd.{Vcd}

-- What is to come of some words of a line, behind a text that was put out: `all` of the words is the text and what is to
-- come.
pub record ToCome (first v : Vcd) (line left done : List ℕ) : Type 0 where
  pub now : (take_words first (words line)).now ≡ (take_words v (words left)).now
  pub text : (take_words first (words line)).text ≡ done ++ (take_words v (words left)).text

one_more : (v : Vcd) (text word rest : List ℕ) → words text ≡ word ∷ words rest
    → (source.take_word v.lines word).reads_on ≡ true
    → take_words v (words text) ≡ in_turn (take_word v word) (take_words (take_word v word).now (words rest))
one_more v text word rest is reads_on = rw (is, reads_on) refl

the_last : (v : Vcd) (text word rest : List ℕ) → words text ≡ word ∷ words rest
    → (source.take_word v.lines word).reads_on ≡ false
    → take_words v (words text) ≡ in_turn (take_word v word) (quietly (take_word v word).now)
the_last v text word rest is reads_on = rw (is, reads_on) refl

-- a word is taken, and others come
pub then_word : (first v new : Vcd) (line left word rest done : List ℕ) → ToCome first v line left done
    → words left ≡ word ∷ words rest → (source.take_word v.lines word).reads_on ≡ true → new ≡ (take_word v word).now
    → ToCome first new line rest (done ++ (take_word v word).text)
then_word first v new line left word rest done to_come is reads_on now =
    let more = one_more v left word rest is reads_on in
    record {
      now = to_come.now ∙ ap (λ (s : StepOf Vcd). s.now) more ∙ ap (λ (w : Vcd). (take_words w (words rest)).now) (sym now);
      text = to_come.text ∙ ap (λ (s : StepOf Vcd). done ++ s.text) more
          ∙ sym (append_assoc done (take_word v word).text (take_words (take_word v word).now (words rest)).text)
          ∙ ap (λ (w : Vcd). (done ++ (take_word v word).text) ++ (take_words w (words rest)).text) (sym now);
    }

-- a word is taken, behind which the rest of the line is skipped
pub last_now : (first v new : Vcd) (line left word rest done : List ℕ) → ToCome first v line left done
    → words left ≡ word ∷ words rest → (source.take_word v.lines word).reads_on ≡ false → new ≡ (take_word v word).now
    → new ≡ (take_words first (words line)).now
last_now first v new line left word rest done to_come is reads_on now =
    now ∙ sym (to_come.now ∙ ap (λ (s : StepOf Vcd). s.now) (the_last v left word rest is reads_on))

pub last_text : (first v : Vcd) (line left word rest done : List ℕ) → ToCome first v line left done
    → words left ≡ word ∷ words rest → (source.take_word v.lines word).reads_on ≡ false
    → done ++ (take_word v word).text ≡ (take_words first (words line)).text
last_text first v line left word rest done to_come is reads_on =
    sym (to_come.text ∙ ap (λ (s : StepOf Vcd). done ++ s.text) (the_last v left word rest is reads_on)
    ∙ ap (λ (t : List ℕ). done ++ t) (append-nil (take_word v word).text))

-- no word is left
pub none_now : (first v : Vcd) (line left done : List ℕ) → ToCome first v line left done → words left ≡ []
    → v ≡ (take_words first (words line)).now
none_now first v line left done to_come none =
    sym (to_come.now ∙ ap (λ (ws : List (List ℕ)). (take_words v ws).now) none)

pub none_text : (first v : Vcd) (line left done : List ℕ) → ToCome first v line left done → words left ≡ []
    → done ≡ (take_words first (words line)).text
none_text first v line left done to_come none =
    sym (to_come.text ∙ ap (λ (ws : List (List ℕ)). done ++ (take_words v ws).text) none ∙ append-nil done)

-- equal texts
pub puts_as : (h0 h1 : Option (List ℕ)) (w0 w1 a b : List ℕ) → PutsText h0 w0 h1 w1 a → a ≡ b → PutsText h0 w0 h1 w1 b
puts_as h0 h1 w0 w1 a b puts same = subst (λ (t : List ℕ). PutsText h0 w0 h1 w1 t) same puts
