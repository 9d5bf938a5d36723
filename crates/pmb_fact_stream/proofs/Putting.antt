-- Facts that a stream puts out, one after the other (`PutsFacts`). For `put_fact`, `put_at`,
-- `put_packet` and `put_parts`. A fact that isn't wanted puts out nothing; two lists of facts put out one
-- after the other are one.
use Rattle.std.proofs.Common.{◌≡◌, ℕ, true, false, Option, List, [], ◌∷◌, ◌++◌, sym, ap, ◌∙◌, subst}
use Rattle.std.proofs.lemmas.List.{append_cancel_left}
use Rattle.pmb_facts.specs.Fact.{FactData, fact_device}
use Rattle.pmb_io.specs.Outgoing.{PutsText}
use Rattle.pmb_io.proofs.Writing.{writes_then, writes_nothing}
use Rattle.pmb_json_objects.specs.Object.{is_wanted}
use Rattle.pmb_keeper.specs.Setting.{Setting}
use Rattle.pmb_fact_stream.specs.declared.stream.Stream.{Stream}
use Rattle.pmb_fact_stream.specs.Before.{Before}
use Rattle.pmb_fact_stream.specs.Lines.{fact_line}
use Rattle.pmb_fact_stream.specs.Stream.{KeepsFacts, StreamKnows, TellsFacts, stream_choice, stream_profile}
use Rattle.pmb_fact_stream.specs.machine.Putting.{PutsFacts}
use Rattle.pmb_fact_stream.proofs.Keeping.{tells_on, told_none}
use Rattle.pmb_fact_stream.proofs.Lines.{appended_line, unwanted_fact, wanted_fact}

module _ {K : Type 0} (Keeps : K → Setting → List FactData → Type 0) (stream : Stream) where
  -- the same ones, in other words
  pub puts_as : (k0 k1 : K) (facts others : Before → List FactData) (h0 h1 : Option (List ℕ)) (w0 w1 : List ℕ)
      → ((b : Before) → StreamKnows b stream → facts b ≡ others b)
      → PutsFacts Keeps stream k0 k1 facts h0 w0 h1 w1 → PutsFacts Keeps stream k0 k1 others h0 w0 h1 w1
  puts_as k0 k1 facts others h0 h1 w0 w1 same puts = record {
    text = puts.text;
    writes = puts.writes;
    holds = λ b knows. subst (TellsFacts Keeps stream k0 k1 puts.text) (same b knows) (puts.holds b knows);
  }

  pub puts_none : (k : K) (h : Option (List ℕ)) (w : List ℕ) → PutsFacts Keeps stream k k (λ b. []) h w h w
  puts_none k h w = record {
    text = [];
    writes = writes_nothing h w;
    holds = λ b knows. told_none (stream_choice stream) (stream_profile stream) _;
  }

  pub puts_both : (k0 k1 k2 : K) (first second : Before → List FactData) (h0 h1 h2 : Option (List ℕ))
      (w0 w1 w2 : List ℕ) → PutsFacts Keeps stream k0 k1 first h0 w0 h1 w1
      → PutsFacts Keeps stream k1 k2 second h1 w1 h2 w2
      → PutsFacts Keeps stream k0 k2 (λ b. first b ++ second b) h0 w0 h2 w2
  puts_both k0 k1 k2 first second h0 h1 h2 w0 w1 w2 a b = record {
    text = a.text ++ b.text;
    writes = writes_then h0 h1 h2 w0 w1 w2 a.text b.text a.writes b.writes;
    holds = λ c knows. tells_on (stream_choice stream) (stream_profile stream) _ _ _ a.text b.text (second c)
        (b.holds c knows) (first c) (a.holds c knows);
  }

  -- ---- one fact of a device, or of none, which was handed to the keeper

  module _ (k0 k1 : K) (fact : Before → FactData) (device : Option ℕ)
      (named : (b : Before) → fact_device (fact b).what ≡ device)
      (kept : (b : Before) → StreamKnows b stream → KeepsFacts Keeps stream k0 k1 (fact b ∷ [])) where
    pub puts_unwanted : (h : Option (List ℕ)) (w : List ℕ) → is_wanted (stream_choice stream).devices device ≡ false
        → PutsFacts Keeps stream k0 k1 (λ b. fact b ∷ []) h w h w
    puts_unwanted h w unwanted = record {
      text = [];
      writes = writes_nothing h w;
      holds = λ b knows. record {
        lines = sym (unwanted_fact (stream_choice stream) (stream_profile stream) (fact b)
            (ap (is_wanted (stream_choice stream).devices) (named b) ∙ unwanted));
        kept = kept b knows;
      };
    }

    -- its line is appended to what waits
    pub puts_wanted : (some : Before) (h0 h1 : Option (List ℕ)) (w0 w1 w2 : List ℕ) → StreamKnows some stream
        → is_wanted (stream_choice stream).devices device ≡ true → PutsText h0 w0 h1 w1 []
        → ((b : Before) → StreamKnows b stream
        → w2 ≡ w1 ++ fact_line (stream_choice stream) (stream_profile stream) (fact b))
        → PutsFacts Keeps stream k0 k1 (λ b. fact b ∷ []) h0 w0 h1 w2
    puts_wanted some h0 h1 w0 w1 w2 known wanted room appended =
        let line = λ (b : Before). fact_line (stream_choice stream) (stream_profile stream) (fact b) in record {
          text = line some;
          writes = appended_line h0 h1 w0 w1 w2 (line some) room (appended some known);
          holds = λ b knows. record {
            lines = append_cancel_left w1 (line some) (line b) (sym (appended some known) ∙ appended b knows)
                ∙ sym (wanted_fact (stream_choice stream) (stream_profile stream) (fact b)
                (ap (is_wanted (stream_choice stream).devices) (named b) ∙ wanted));
            kept = kept b knows;
          };
        }
