-- What a reader has told after a call: for `tell_piece`, `tell_end`, `feed_more`, `end_more` and `take`. What
-- was ready before a call, what the call made, and what is ready after it are joined in each state.
use Rattle.std.proofs.Common.{◌≡◌, ◌≢◌, ◌∙◌, ℕ, Some, List, [], ◌++◌, append_assoc, append-nil, ap, refl, subst, sym}
use Rattle.pmb_capture_reader.specs.Queue.{QueueData}
use Rattle.pmb_capture_reader.specs.Reader.{ReaderStands, Tells, reader_ready, reader_state, reader_tally}
use Rattle.pmb_capture_reader.specs.declared.reader.CaptureReader.{CaptureReader}
use Rattle.pmb_capture_reader.specs.declared.reader.Fed.{Fed}
use Rattle.pmb_capture_reader.specs.declared.reader.Fed.TheVariants.{More, Ended, Memory}
use Rattle.pmb_capture_reader.specs.machine.Steps.{AfterEnd, AfterPiece, Gathers}
use Rattle.pmb_command.specs.Parts.{DeviceParts}
use Rattle.pmb_fact_stream.specs.Choice.{ChoiceData}
use Rattle.pmb_io.specs.Engines.{Either, WritesOut}
use Rattle.pmb_io.specs.declared.engine.Flow.TheVariants as flow
use Rattle.pmb_scan.specs.declared.after_bad_token.AfterBadToken.{AfterBadToken}
use Rattle.pmb_telling.specs.Tell.{StopsTold, WritesToldFront}
use Rattle.pmb_telling.specs.Teller.{TellerStands, counted_by}
use Rattle.pmb_telling.specs.Text.{WritesTold}
use Rattle.pmb_telling.specs.declared.capture_teller.CaptureTeller.{CaptureTeller}

-- what was made is all that `fresh` has
made_is : (cleared made fresh : List ℕ) → cleared ≡ [] → fresh ≡ cleared ++ made → made ≡ fresh
made_is cleared made fresh none is = sym (is ∙ ap (λ (l : List ℕ). l ++ made) none)

-- what was told before a call and what the call made are what was taken and what is ready after it
all_told : (taken old fresh new : List ℕ) → new ≡ old ++ fresh → (taken ++ old) ++ fresh ≡ taken ++ new
all_told taken old fresh new is = append_assoc taken old fresh ∙ ap (λ (l : List ℕ). taken ++ l) (sym is)

module _ (choice : ChoiceData) (profile : List DeviceParts) (after : AfterBadToken) where
  -- ---- what one call makes

  module _ (teller : CaptureTeller) (given told cleared fresh : List ℕ) (none : cleared ≡ []) where
    pub piece_more : WritesOut (λ made. Either (TellerStands choice profile after teller given (told ++ made))
        (StopsTold choice profile after given (told ++ made) (counted_by teller)) flow.More) (Some cleared) (Some fresh)
        → TellerStands choice profile after teller given (told ++ fresh)
    piece_more wrote =
        subst (λ (l : List ℕ). TellerStands choice profile after teller given (told ++ l))
        (made_is cleared wrote.text fresh none wrote.appended) wrote.holds

    pub piece_stop : WritesOut (λ made. Either (TellerStands choice profile after teller given (told ++ made))
        (StopsTold choice profile after given (told ++ made) (counted_by teller)) flow.Stop) (Some cleared) (Some fresh)
        → StopsTold choice profile after given (told ++ fresh) (counted_by teller)
    piece_stop wrote =
        subst (λ (l : List ℕ). StopsTold choice profile after given (told ++ l) (counted_by teller))
        (made_is cleared wrote.text fresh none wrote.appended) wrote.holds

    pub end_made : WritesOut (λ made. WritesTold choice profile after given (told ++ made) (counted_by teller))
        (Some cleared) (Some fresh)
        → WritesTold choice profile after given (told ++ fresh) (counted_by teller)
    end_made wrote =
        subst (λ (l : List ℕ). WritesTold choice profile after given (told ++ l) (counted_by teller))
        (made_is cleared wrote.text fresh none wrote.appended) wrote.holds

  -- ---- what is ready after it

  -- what a reader that wants more has told
  pub told_before : (given taken : List ℕ) (reader : CaptureReader) → reader_state reader ≡ More
      → ReaderStands choice profile after given taken reader
      → WritesToldFront choice profile after given (taken ++ reader_ready reader)
  told_before given taken reader more stands =
      subst (λ (state : Fed). Tells choice profile after state (reader_tally reader) given
      (taken ++ reader_ready reader)) more stands.tells

  module _ (teller : CaptureTeller) (taken old fresh new : List ℕ) where
    told_all : (Holds : List ℕ → Type 0) → new ≡ old ++ fresh → Holds ((taken ++ old) ++ fresh) → Holds (taken ++ new)
    told_all Holds is holds = subst Holds (all_told taken old fresh new is) holds

    -- after a piece
    pub piece_tells : (given piece : List ℕ) (made state : Fed) → Gathers made old new fresh state
        → AfterPiece choice profile after teller (given ++ piece) ((taken ++ old) ++ fresh) made
        → WritesToldFront choice profile after given (taken ++ old)
        → ((told : List ℕ) → TellerStands choice profile after teller (given ++ piece) told
        → WritesToldFront choice profile after (given ++ piece) told)
        → Tells choice profile after state (counted_by teller) (given ++ piece) (taken ++ new)
    piece_tells given piece made More gathers stands before law =
        told_all (λ (l : List ℕ). WritesToldFront choice profile after (given ++ piece) l) gathers.1
        (law ((taken ++ old) ++ fresh) (subst (λ (f : Fed). AfterPiece choice profile after teller (given ++ piece)
        ((taken ++ old) ++ fresh) f) gathers.0 stands))
    piece_tells given piece made Ended gathers stands before law =
        let stops : StopsTold choice profile after (given ++ piece) ((taken ++ old) ++ fresh) (counted_by teller) =
        subst (λ (f : Fed). AfterPiece choice profile after teller (given ++ piece) ((taken ++ old) ++ fresh) f)
        gathers.0 stands in
        told_all (λ (l : List ℕ). WritesTold choice profile after (given ++ piece) l (counted_by teller)) gathers.1
        stops.writes
    piece_tells given piece made Memory gathers stands before law = (
      given,
      piece,
      refl,
      subst (λ (l : List ℕ). WritesToldFront choice profile after given (taken ++ l)) (sym gathers) before,
    )

    pub piece_goes_on : (given : List ℕ) (made state : Fed) → Gathers made old new fresh state
        → AfterPiece choice profile after teller given ((taken ++ old) ++ fresh) made → state ≡ More
        → TellerStands choice profile after teller given (taken ++ new)
    piece_goes_on given made More gathers stands more =
        told_all (λ (l : List ℕ). TellerStands choice profile after teller given l) gathers.1
        (subst (λ (f : Fed). AfterPiece choice profile after teller given ((taken ++ old) ++ fresh) f) gathers.0 stands)
    piece_goes_on given made Ended gathers stands more = absurd (cc more)
    piece_goes_on given made Memory gathers stands more = absurd (cc more)

    pub piece_stops : (given : List ℕ) (made state : Fed) → Gathers made old new fresh state
        → AfterPiece choice profile after teller given ((taken ++ old) ++ fresh) made → state ≡ Ended
        → StopsTold choice profile after given (taken ++ new) (counted_by teller)
    piece_stops given made More gathers stands ended = absurd (cc ended)
    piece_stops given made Ended gathers stands ended =
        told_all (λ (l : List ℕ). StopsTold choice profile after given l (counted_by teller)) gathers.1
        (subst (λ (f : Fed). AfterPiece choice profile after teller given ((taken ++ old) ++ fresh) f) gathers.0 stands)
    piece_stops given made Memory gathers stands ended = absurd (cc ended)

    -- after the end
    pub end_tells : (given : List ℕ) (made state : Fed) → Gathers made old new fresh state → made ≢ More
        → AfterEnd choice profile after teller given ((taken ++ old) ++ fresh) made
        → WritesToldFront choice profile after given (taken ++ old)
        → Tells choice profile after state (counted_by teller) given (taken ++ new)
    end_tells given made More gathers never stands before = absurd (never gathers.0)
    end_tells given made Ended gathers never stands before =
        told_all (λ (l : List ℕ). WritesTold choice profile after given l (counted_by teller)) gathers.1
        (subst (λ (f : Fed). AfterEnd choice profile after teller given ((taken ++ old) ++ fresh) f) gathers.0 stands)
    end_tells given made Memory gathers never stands before = (
      given,
      [],
      sym (append-nil given),
      subst (λ (l : List ℕ). WritesToldFront choice profile after given (taken ++ l)) (sym gathers) before,
    )

  -- ---- what was taken

  -- of what was told so much more was taken, and the rest is ready
  pub takes_some : (given taken : List ℕ) (old : CaptureReader) (moved : List ℕ) (queue : QueueData)
      → reader_ready old ≡ moved ++ queue.left → ReaderStands choice profile after given taken old
      → ReaderStands choice profile after given (taken ++ moved) (record old { queue = queue })
  takes_some given taken old moved queue is stands =
      let same : taken ++ reader_ready old ≡ (taken ++ moved) ++ queue.left =
      ap (λ (l : List ℕ). taken ++ l) is ∙ sym (append_assoc taken moved queue.left) in record {
        tells = subst (λ (l : List ℕ). Tells choice profile after (reader_state old) (reader_tally old) given l) same
            stands.tells;
        teller = λ more. subst (λ (l : List ℕ). TellerStands choice profile after old.teller given l) same
            (stands.teller more);
      }

-- a call that ends doesn't want more
pub gathers_no_more : (made state : Fed) (old new fresh : List ℕ) → Gathers made old new fresh state → made ≢ More
    → state ≢ More
gathers_no_more made More old new fresh gathers never = λ more. never gathers.0
gathers_no_more made Ended old new fresh gathers never = λ more. cc
gathers_no_more made Memory old new fresh gathers never = λ more. cc
