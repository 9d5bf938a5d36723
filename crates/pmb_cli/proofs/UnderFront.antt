-- What is done with what follows the profile that comes first: for `run_under_front`. What was
-- read is the profile, its line `%%` and what follows, or all of it is the profile; more after the
-- line leaves it the first one, so that the job's text belongs to the bytes after it.
use Rattle.std.proofs.Common.{◌≡◌, ◌∙◌, ◌⊎◌, ℕ, true, false, Option, Some, None, Ok, List, [], ◌∷◌, ◌++◌, length, inl}
use Rattle.std.proofs.Common.{inr, refl, sym, ap, subst, length-append, append-nil, append_assoc}
use Rattle.std.specs.Io.KnownBytes.{Consumes}
use Rattle.pmb_io.specs.Count.{raised}
use Rattle.pmb_io.specs.Runs.{Done, Gave, Job, OpenBefore, PartDone, Through}
use Rattle.pmb_io.specs.Told.{ReaderTold, WriterTold}
use Rattle.pmb_io.specs.declared.tally.Tally.{Tally}
use Rattle.pmb_io.proofs.Running.{gave_no_more, gave_then, open_weaker, raised_twice}
use Rattle.pmb_io.proofs.Writing.{consumes_then}
use Rattle.pmb_table.specs.Profile.{ProfileParts, SaysBus}
use Rattle.pmb_preamble.specs.Front.{EndsAtMark, EndsWithReader, FirstMark, IsFront, Parts, ReadFront, ReadUndecided}
use Rattle.pmb_preamble.specs.Front.{Undecided}
use Rattle.pmb_cli.specs.Profiles.{BeginsWithProfile, UnderFront}
use Rattle.pmb_cli.specs.Works.{DoneUnderFront, OpenUnderFront, PartDoneUnderFront, WritesRest}

-- with more after it a text keeps its first line `%%`
abbrev pub Stays : Type 0
Stays = (text before after more : List ℕ) → FirstMark text before after
    → FirstMark (text ++ more) before (after ++ more)

-- where a line `%%` was met
at_mark : (read : List ℕ) (parts : Parts) (new : ReaderTold) → EndsAtMark read parts ⊎ EndsWithReader read parts new
    → parts.marked ≡ true → FirstMark read parts.profile parts.rest
at_mark read parts new (inl mark) marked = mark.first
at_mark read parts new (inr ends) marked = absurd (let contrary : true ≡ false = sym marked ∙ ends.unmarked in cc)

-- where none was
at_end : (read : List ℕ) (parts : Parts) (new : ReaderTold) → EndsAtMark read parts ⊎ EndsWithReader read parts new
    → parts.marked ≡ false → EndsWithReader read parts new
at_end read parts new (inl mark) unmarked = absurd (let contrary : true ≡ false = sym mark.marked ∙ unmarked in cc)
at_end read parts new (inr ends) unmarked = ends

-- nothing is read of what has nothing
none_read : (new : Option (List ℕ)) (read : List ℕ) → Consumes (Some []) new read → read ≡ []
none_read (Some left) [] consumed = refl
none_read (Some left) (byte ∷ read) consumed = cc
none_read None read consumed = absurd consumed

module _ {R : Type 0} (told : R → ReaderTold) (stays : Stays) where
  -- the profile was read, and then what follows it
  abbrev begins : (IsCut : List ℕ → List ℕ → List ℕ → Type 0) (bus : ProfileParts) (old mid : R)
      (new : ReaderTold) (Ran : List ℕ → List ℕ → Type 0) (held_old held_new : WriterTold) (parts : Parts)
      → (before : ReadFront told old mid parts) → parts.marked ≡ true → SaysBus parts.profile (Ok bus)
      → (through : Through Ran parts.rest (record { reader = told mid; writer = held_old })
      (record { reader = new; writer = held_new }))
      → (FirstMark (before.read ++ through.read) parts.profile (parts.rest ++ through.read)
      → IsCut (before.read ++ through.read) parts.profile (parts.rest ++ through.read))
      → BeginsWithProfile IsCut (record { reader = told old; writer = held_old })
      (record { reader = new; writer = held_new })
  begins IsCut bus old mid new Ran held_old held_new parts before marked says through cuts = record {
    -- profile and rest: what was read of both, and what was put out
    read = before.read ++ through.read;
    text = through.text;
    profile = parts.profile;
    rest = parts.rest ++ through.read;
    bus = bus;
    consumed = consumes_then (told old).left (told mid).left new.left before.read through.read
        before.reads.gave.consumed through.consumed;
    given = through.given ∙ (ap (λ n. raised n (length through.read)) before.reads.gave.given
        ∙ (raised_twice (told old).given (length before.read) (length through.read)
        ∙ ap (raised (told old).given) (sym (length-append before.read through.read))));
    appended = through.appended;
    cut = cuts (stays before.read parts.profile parts.rest through.read
        (at_mark before.read parts _ before.ends marked));
    within = before.within;
    says = says;
  }

  -- all was profile, and nothing follows
  all_profile : (Holds : ProfileParts → List ℕ → List ℕ → List ℕ → Type 0) (bus : ProfileParts)
      (old new : R) (Ran : List ℕ → List ℕ → Type 0) (empty_old empty_new : ReaderTold) (held_old held_new : WriterTold)
      (parts : Parts)
      → (before : ReadFront told old new parts) → parts.marked ≡ false → SaysBus parts.profile (Ok bus)
      → empty_old.left ≡ Some [] → (through : Through Ran [] (record { reader = empty_old; writer = held_old })
      (record { reader = empty_new; writer = held_new }))
      → (EndsWithReader before.read parts (told new) → Ran parts.rest through.text
      → Holds bus parts.rest through.text before.read)
      → UnderFront Holds (record { reader = told old; writer = held_old })
      (record { reader = told new; writer = held_new })
  all_profile Holds bus old new Ran empty_old empty_new held_old held_new parts before unmarked says empty through
      holds =
      -- the reader ended in the profile, so the work has no bytes
      let ends = at_end before.read parts _ before.ends unmarked in
      let none = none_read empty_new.left through.read
      (subst (λ (e : Option (List ℕ)). Consumes e empty_new.left through.read) empty through.consumed) in record {
        begins = record {
          read = before.read;
          text = through.text;
          profile = parts.profile;
          rest = parts.rest;
          bus = bus;
          consumed = before.reads.gave.consumed;
          given = before.reads.gave.given;
          appended = through.appended;
          cut = inr ends.all;
          within = before.within;
          says = says;
        };
        holds = holds ends (subst (λ (b : List ℕ). Ran b through.text) (none ∙ sym ends.all.nothing) through.holds);
      }

  -- no more was wanted with the last piece of all that was read
  stopped_in_time : (IsOpen : List ℕ → Type 0) (old mid new : R) (parts : Parts) (before : ReadFront told old mid parts)
      → parts.marked ≡ true → (read : List ℕ) → Gave (told mid) (told new) read
      → OpenBefore told IsOpen parts.rest mid new read
      → OpenBefore told (OpenUnderFront IsOpen) [] old new (before.read ++ read)
  -- nothing was read after the profile: its last piece was the last
  stopped_in_time IsOpen old mid new parts before marked read gave (inl none) =
      subst (λ (t : List ℕ). OpenBefore told (OpenUnderFront IsOpen) [] old new t)
      (sym (ap (λ (t : List ℕ). before.read ++ t) none.0 ∙ append-nil before.read))
      (elim before.reads.in_time [
        | inl nothing ↦ inl (nothing.0, none.1 ∙ nothing.1)
        | inr last ↦ inr (record {
          before = last.before;
          piece = last.piece;
          whole = last.whole;
          is_open = inl last.is_open;
          middle = last.middle;
          gave_before = last.gave_before;
          gave_piece = gave_no_more (told last.middle) (told mid) (told new) last.piece last.gave_piece
              (subst (λ (t : List ℕ). Gave (told mid) (told new) t) none.0 gave);
          one_read = none.1 ∙ last.one_read;
          small = last.small;
        })
      ])
  -- the last piece came after it
  stopped_in_time IsOpen old mid new parts before marked read gave (inr last) = inr (record {
    before = before.read ++ last.before;
    piece = last.piece;
    whole = ap (λ (t : List ℕ). before.read ++ t) last.whole ∙ sym (append_assoc before.read last.before last.piece);
    is_open = inr (
      parts.profile,
      parts.rest ++ last.before,
      stays before.read parts.profile parts.rest last.before
          (at_mark before.read parts _ before.ends marked),
      last.is_open,
    );
    middle = last.middle;
    gave_before = gave_then (told old) (told mid) (told last.middle) before.read last.before before.reads.gave
        last.gave_before;
    gave_piece = last.gave_piece;
    one_read = last.one_read;
    small = last.small;
  })

  -- ---- a job under the profile that comes first

  module _ {W : Type 0} (writer_told : W → WriterTold) (job : ProfileParts → Job Tally) (bus : ProfileParts)
      (old mid : R) (out out_new : W) (parts : Parts) (before : ReadFront told old mid parts) where
    pub done_after_mark : (new : R) (tally : Tally) → parts.marked ≡ true → SaysBus parts.profile (Ok bus)
        → Done told writer_told (job bus) tally parts.rest (mid, out) (new, out_new)
        → DoneUnderFront told writer_told job tally (old, out) (new, out_new)
    -- the work took all that follows
    done_after_mark new tally marked says (inl ended) = record {
      begins = begins IsFront bus old mid (told new) ((job bus).Whole tally) (writer_told out)
          (writer_told out_new) parts before marked says ended.through (λ first. inl first);
      holds = inl (ended.through.holds, ended.ended, ended.at_end);
    }
    -- or wanted no more of it
    done_after_mark new tally marked says (inr stopped) = record {
      begins = begins IsFront bus old mid (told new) ((job bus).Stops tally) (writer_told out)
          (writer_told out_new) parts before marked says stopped.through (λ first. inl first);
      holds = inr (
        stopped.through.holds,
        stopped_in_time (job bus).IsOpen old mid new parts before marked stopped.through.read
            (record { consumed = stopped.through.consumed; given = stopped.through.given }) stopped.in_time,
      );
    }

    -- of what has nothing, nothing more was read
    pub done_without_mark : {S : Type 0} (told_empty : S → ReaderTold) (empty empty_new : S) (tally : Tally)
        → parts.marked ≡ false → SaysBus parts.profile (Ok bus) → (told_empty empty).left ≡ Some []
        → Done told_empty writer_told (job bus) tally [] (empty, out) (empty_new, out_new)
        → DoneUnderFront told writer_told job tally (old, out) (mid, out_new)
    done_without_mark told_empty empty empty_new tally unmarked says none (inl ended) =
        all_profile (WritesRest told writer_told job old mid tally) bus old mid ((job bus).Whole tally)
        (told_empty empty) (told_empty empty_new) (writer_told out) (writer_told out_new) parts before unmarked says
        none ended.through
        (λ ends holds. inl (holds, ends.ended, ends.at_end))
    done_without_mark told_empty empty empty_new tally unmarked says none (inr stopped) =
        all_profile (WritesRest told writer_told job old mid tally) bus old mid ((job bus).Stops tally)
        (told_empty empty) (told_empty empty_new) (writer_told out) (writer_told out_new) parts before unmarked says
        none stopped.through
        (λ ends holds. inr (
          holds,
          open_weaker told Undecided (OpenUnderFront (job bus).IsOpen) [] old mid
              before.read (λ bytes undecided. inl undecided) before.reads.in_time,
        ))

    -- where a read failed after it, or there were too many
    pub part_after_mark : (new : R) → parts.marked ≡ true → SaysBus parts.profile (Ok bus)
        → PartDone told writer_told (job bus) parts.rest (mid, out) (new, out_new)
        → PartDoneUnderFront told writer_told job (old, out) (new, out_new)
    part_after_mark new marked says through = inr (record {
      begins = begins FirstMark bus old mid (told new) (job bus).Front (writer_told out)
          (writer_told out_new) parts before marked says through (λ first. first);
      holds = through.holds;
    })

  -- where a read failed within the profile
  pub part_of_profile : {W : Type 0} (writer_told : W → WriterTold) (job : ProfileParts → Job Tally) (old new : R)
      (out : W) → ReadUndecided told old new
      → PartDoneUnderFront told writer_told job (old, out) (new, out)
  part_of_profile writer_told job old new out before = inl (record {
    read = before.read;
    consumed = before.gave.consumed;
    given = before.gave.given;
    unwritten = refl;
    undecided = before.undecided;
  })
