-- A text as the profile before a capture, by what was read of it: all, or its first line `%%`, or more than a profile may
-- have. For `check_text`.
use Rattle.std.proofs.Common.{◌≡◌, ◌∙◌, ◌<◌, ◌≤◌, ℕ, Option, Some, None, List, [], ◌++◌, length, refl, sym, subst, ap}
use Rattle.std.proofs.Common.{true, false, arith, append-nil, append_assoc, inl, inr}
use Rattle.std.proofs.lemmas.Bool.{false≢true}
use Rattle.std.specs.Io.KnownBytes.{Consumes, IsAtEnd}
use Rattle.pmb_io.specs.Told.{ReaderTold}
use Rattle.pmb_preamble.specs.Front.{AllProfile, FirstMark, IsFront, MayFit, NoMark, Parts, ReadFront, ReadTooMuch}
use Rattle.pmb_preamble.specs.Front.{most_profile}
use Rattle.pmb_files.specs.Head.{HasMarkAt, IsTooLong, IsWhole, line_after}

-- ---- what is read piece by piece

-- nothing was read
pub none_read : (known : Option (List ℕ)) → Consumes known known []
none_read None = tt
none_read (Some bytes) = refl

-- some bytes, and then others
pub both_read : (old middle new : Option (List ℕ)) (front back : List ℕ) → Consumes old middle front
    → Consumes middle new back → Consumes old new (front ++ back)
both_read None middle new front back first second = tt
both_read (Some old) None new front back first second = absurd first
both_read (Some old) (Some middle) None front back first second = absurd second
both_read (Some old) (Some middle) (Some new) front back first second =
    first ∙ ap (λ rest. front ++ rest) second ∙ sym (append_assoc front back new)

-- and then none
pub none_more : (old middle new : Option (List ℕ)) (read : List ℕ) → Consumes old middle read
    → Consumes middle new [] → Consumes old new read
none_more old middle new read first second =
    subst (λ (bytes : List ℕ). Consumes old new bytes) (append-nil read) (both_read old middle new read [] first second)

-- ---- what a text is as a profile

module _ (text read : List ℕ) (old left : Option (List ℕ)) (is : old ≡ Some text) (consumed : Consumes old left read) where
  -- what was read is its front
  front_read : (more : List ℕ) × (text ≡ read ++ more)
  front_read = by left (subst (λ known. Consumes known left read) is consumed)
    where
      by : (left : Option (List ℕ)) → Consumes (Some text) left read → (more : List ℕ) × (text ≡ read ++ more)
      by None consumed = absurd consumed
      by (Some more) consumed = (more, consumed)

  -- all was read
  all_read : IsAtEnd left → text ≡ read
  all_read at_end = by left at_end (subst (λ known. Consumes known left read) is consumed)
    where
      by : (left : Option (List ℕ)) → IsAtEnd left → Consumes (Some text) left read → text ≡ read
      by None at_end consumed = absurd consumed
      by (Some more) at_end consumed = consumed ∙ ap (λ rest. read ++ rest) at_end ∙ append-nil read

  -- a line `%%` was read
  pub text_has_mark : (profile rest : List ℕ) → FirstMark read profile rest
      → ((more : List ℕ) → FirstMark (read ++ more) profile (rest ++ more)) → HasMarkAt text (line_after profile)
  text_has_mark profile rest first stays =
      let more = front_read in
      record {
        before = profile;
        after = rest ++ more.0;
        first = subst (λ (whole : List ℕ). FirstMark whole profile (rest ++ more.0)) (sym more.1) (stays more.0);
        number = refl;
      }

  -- all of it is a profile
  pub text_is_whole : (profile rest : List ℕ) → IsAtEnd left → AllProfile read profile rest
      → length profile ≤ most_profile → IsWhole text
  text_is_whole profile rest at_end all within =
      let same = all_read at_end in
      let long : length read ≤ most_profile = subst (λ (bytes : List ℕ). length bytes ≤ most_profile) all.all within in
      record {
        none = subst (λ (whole : List ℕ). NoMark whole) (sym same) all.none;
        within = subst (λ (whole : List ℕ). length whole ≤ most_profile) (sym same) long;
      }

  -- it is too long, whatever follows
  pub text_cannot_fit : (MayFit read → ⊥) → IsTooLong text
  text_cannot_fit cannot profile rest front within =
      let more = front_read in
      cannot (record {
        more = more.0;
        profile = profile;
        rest = rest;
        front = subst (λ (whole : List ℕ). IsFront whole profile rest) more.1 front;
        within = within;
      })

  -- it ended past the limit
  pub text_is_long : IsAtEnd left → NoMark read → most_profile < length read → IsTooLong text
  text_is_long at_end none long profile rest front within =
      let same = all_read at_end in
      let no_mark = subst (λ (whole : List ℕ). NoMark whole) (sym same) none in
      elim front [
        | inl first ↦ no_mark profile first.line rest first.mark
        | inr all ↦ absurd (omega (arith, within, long, ap length all.all, ap length same))
      ]

-- ---- what `front` returned

module _ {R : Type 0} (told : R → ReaderTold) (old new : R) (text : List ℕ) (is : (told old).left ≡ Some text) where
  -- the profile ends at a line `%%`
  pub front_has_mark : (front : Parts) → ReadFront told old new front → front.marked ≡ true
      → ((bytes profile rest more : List ℕ) → FirstMark bytes profile rest
      → FirstMark (bytes ++ more) profile (rest ++ more)) → HasMarkAt text (line_after front.profile)
  front_has_mark front read marked stays =
      elim read.ends [
        | inl ends ↦ text_has_mark text read.read _ _ is read.reads.gave.consumed front.profile front.rest ends.first
            (λ more. stays read.read front.profile front.rest more ends.first)
        | inr ends ↦ absurd (false≢true (sym ends.unmarked ∙ marked))
      ]

  -- all is a profile
  pub front_is_whole : (front : Parts) → ReadFront told old new front → front.marked ≡ false → IsWhole text
  front_is_whole front read unmarked =
      elim read.ends [
        | inl ends ↦ absurd (false≢true (sym unmarked ∙ ends.marked))
        | inr ends ↦ text_is_whole text read.read _ _ is read.reads.gave.consumed front.profile front.rest
            ends.at_end ends.all read.within
      ]

  -- it is too long
  pub front_is_long : ReadTooMuch told old new → IsTooLong text
  front_is_long read =
      elim read.too_long [
        | inl cannot ↦ text_cannot_fit text read.read _ _ is read.reads.gave.consumed cannot
        | inr past ↦ text_is_long text read.read _ _ is read.reads.gave.consumed past.at_end past.none past.long
      ]
