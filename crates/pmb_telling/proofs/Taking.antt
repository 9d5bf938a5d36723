-- Text that goes out piece by piece, while a piece of the input is taken front by front. For
-- `TellerEngine::take`, `take_words`, `take_bad_word`, `take_line` and `put_last_word`. Two texts
-- that go out one after the other are one, and so are two fronts that are taken.
use Rattle.std.proofs.Common.{◌≡◌, ℕ, Option, Result, Ok, Err, IfOk, List, [], ◌++◌, refl, sym, ap, subst, ◌∙◌}
use Rattle.std.proofs.Common.{append_assoc, append-nil}
use Rattle.pmb_io.specs.Engines.{PutsOut}
use Rattle.pmb_io.specs.Outgoing.{PutsText}
use Rattle.pmb_io.proofs.Writing.{writes_nothing, writes_then}
use Rattle.pmb_facts.specs.Fact.{FactData}
use Rattle.pmb_keeper.specs.Setting.{Setting}
use Rattle.pmb_telling.specs.declared.engine.Teller.{Teller}
use Rattle.pmb_io.specs.declared.fault.RunFault.{RunFault}
use Rattle.pmb_telling.specs.declared.engine.PieceRest.{PieceRest}
use Rattle.pmb_telling.specs.declared.engine.PieceRest.TheVariants.{Bytes, Nothing, Stop}
use Rattle.pmb_telling.specs.machine.Standing.{HasPutOut, HasStopped, TakesFront, TakesLine}

-- two texts that make one
pub puts_both : (h0 h1 h2 : Option (List ℕ)) (w0 w1 w2 a b text : List ℕ) → PutsText h0 w0 h1 w1 a
    → PutsText h1 w1 h2 w2 b → a ++ b ≡ text → PutsText h0 w0 h2 w2 text
puts_both h0 h1 h2 w0 w1 w2 a b text first second is = subst (λ (l : List ℕ). PutsText h0 w0 h2 w2 l) is
    (writes_then h0 h1 h2 w0 w1 w2 a b first second)

-- no text goes out
pub puts_none : (Holds : List ℕ → Type 0) (h : Option (List ℕ)) (w text : List ℕ) → Holds text
    → PutsOut (λ more. Holds (text ++ more)) h w h w
puts_none Holds h w text holds = record {
  text = [];
  writes = writes_nothing h w;
  holds =
      subst Holds (sym (append-nil text)) holds;
}

-- and then what is left
pub took_then : (Mid Holds : List ℕ → List ℕ → Type 0) (bytes text front rest piece : List ℕ)
    (h0 h1 h2 : Option (List ℕ)) (w0 w1 w2 : List ℕ) → piece ≡ front ++ rest
    → (first : PutsOut (λ more. Mid (bytes ++ front) (text ++ more)) h0 w0 h1 w1)
    → PutsOut (λ more. Holds ((bytes ++ front) ++ rest) ((text ++ first.text) ++ more)) h1 w1 h2 w2
    → PutsOut (λ more. Holds (bytes ++ piece) (text ++ more)) h0 w0 h2 w2
took_then Mid Holds bytes text front rest piece h0 h1 h2 w0 w1 w2 split first second = record {
  text = first.text ++ second.text;
  writes = writes_then h0 h1 h2 w0 w1 w2 first.text second.text first.writes second.writes;
  holds = subst (λ (l : List ℕ). Holds (bytes ++ piece) l) (append_assoc text first.text second.text)
      (subst (λ (l : List ℕ). Holds l ((text ++ first.text) ++ second.text))
      (append_assoc bytes front rest ∙ ap (λ (l : List ℕ). bytes ++ l) (sym split)) second.holds);
}

module _ {K : Type 0} (Keeps : K → Setting → List FactData → Type 0) where
  -- of a piece a front was taken, all but the rest
  abbrev pub TookUpTo : Teller K → Teller K → List ℕ → List ℕ → Option (List ℕ) → List ℕ → Option (List ℕ) → List ℕ →
      Type 0
  TookUpTo old now piece rest h0 w0 h1 w1 = (start : Teller K) (bytes text : List ℕ) → HasPutOut Keeps start old bytes
      text
      → (front : List ℕ) × (piece ≡ front ++ rest)
      × PutsOut (λ more. HasPutOut Keeps start now (bytes ++ front) (text ++ more)) h0 w0 h1 w1

  pub took_none : (teller : Teller K) (piece : List ℕ) (h : Option (List ℕ)) (w : List ℕ)
      → TookUpTo teller teller piece piece h w h w
  took_none teller piece h w start bytes text stands = (
    [],
    refl,
    puts_none (HasPutOut Keeps start teller (bytes ++ [])) h w text
        (subst (λ (l : List ℕ). HasPutOut Keeps start teller l text) (sym (append-nil bytes)) stands),
  )

  -- and then a front of that
  pub took_more : (old mid new : Teller K) (piece rest left : List ℕ) (h0 h1 h2 : Option (List ℕ)) (w0 w1 w2 : List ℕ)
      → TookUpTo old mid piece rest h0 w0 h1 w1
      → ((start : Teller K) (bytes text : List ℕ) → HasPutOut Keeps start mid bytes text
      → PutsOut (λ more. TakesFront Keeps start new bytes rest left (text ++ more)) h1 w1 h2 w2)
      → TookUpTo old new piece left h0 w0 h2 w2
  took_more old mid new piece rest left h0 h1 h2 w0 w1 w2 took takes start bytes text stands =
      let first = took start bytes text stands in
      let out = first.2 in
      let second = takes start (bytes ++ first.0) (text ++ out.text) out.holds in (
        first.0 ++ second.holds.front,
        first.1 ∙ (ap (λ (l : List ℕ). first.0 ++ l) second.holds.split
            ∙ sym (append_assoc first.0 second.holds.front left)),
        record {
          text = out.text ++ second.text;
          writes = writes_then h0 h1 h2 w0 w1 w2 out.text second.text out.writes second.writes;
          holds = subst (λ (l : List ℕ). HasPutOut Keeps start new (bytes ++ (first.0 ++ second.holds.front)) l)
              (append_assoc text out.text second.text)
              (subst (λ (l : List ℕ). HasPutOut Keeps start new l ((text ++ out.text) ++ second.text))
              (append_assoc bytes first.0 second.holds.front) second.holds.stands);
        },
      )

-- ---- up to the end of a line

pub if_ok_weaker : {T F : Type 0} {P Q : T → Type 0} (r : Result T F) → ((x : T) → P x → Q x) → IfOk r P → IfOk r Q
if_ok_weaker (Ok x) weaker holds = weaker x holds
if_ok_weaker (Err e) weaker holds = tt

module _ {K : Type 0} (Keeps : K → Setting → List FactData → Type 0) where
  -- bytes before it count too
  takes_behind : (start now : Teller K) (given front rest bytes : List ℕ) → bytes ≡ front ++ rest
      → (left : PieceRest) (text : List ℕ) → TakesLine Keeps start now (given ++ front) rest left text
      → TakesLine Keeps start now given bytes left text
  takes_behind start now given front rest bytes split Nothing text takes =
      subst (λ (l : List ℕ). HasPutOut Keeps start now l text)
      (append_assoc given front rest ∙ ap (λ (l : List ℕ). given ++ l) (sym split)) takes
  takes_behind start now given front rest bytes split Stop text takes =
      subst (λ (l : List ℕ). HasStopped Keeps start now l text)
      (append_assoc given front rest ∙ ap (λ (l : List ℕ). given ++ l) (sym split)) takes
  takes_behind start now given front rest bytes split (Bytes left) text takes = record {
    front = front ++ takes.front;
    split = split ∙ (ap (λ (l : List ℕ). front ++ l) takes.split ∙ sym (append_assoc front takes.front left.now));
    stands = subst (λ (l : List ℕ). HasPutOut Keeps start now l text) (append_assoc given front takes.front)
        takes.stands;
  }

  -- a text, and then that of the line
  pub line_then : (r : Result PieceRest RunFault) (start now : Teller K) (given front rest bytes text a : List ℕ)
      (h0 h1 h2 : Option (List ℕ)) (w0 w1 w2 : List ℕ) → bytes ≡ front ++ rest → PutsText h0 w0 h1 w1 a
      → IfOk r (λ left. PutsOut (λ more. TakesLine Keeps start now (given ++ front) rest left ((text ++ a) ++ more))
      h1 w1 h2
      w2)
      → IfOk r (λ left. PutsOut (λ more. TakesLine Keeps start now given bytes left (text ++ more)) h0 w0 h2 w2)
  line_then r start now given front rest bytes text a h0 h1 h2 w0 w1 w2 split first second =
      if_ok_weaker r (λ left puts. record {
        text = a ++ puts.text;
        writes = writes_then h0 h1 h2 w0 w1 w2 a puts.text first puts.writes;
        holds = takes_behind start now given front rest bytes split left (text ++ (a ++ puts.text))
            (subst (λ (l : List ℕ). TakesLine Keeps start now (given ++ front) rest left l)
            (append_assoc text a puts.text) puts.holds);
      }) second
