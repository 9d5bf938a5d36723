use Rattle.std.proofs.Common.{◌≡◌, ◌≢◌, ◌∙◌, true, false, Bool, Ok, ◌+◌, ◌≤◌, ◌<◌, ◌++◌, List, ℕ, ap, length}
use Rattle.std.proofs.Common.{length-append, min, take, drop, inl, sym, subst, length-take-le, refl, arith}
use Rattle.std.specs.Io.KnownBytes.{IsAtEnd}
use Rattle.std.proofs.lemmas.Bool.Decides.{nat_tests}
use Rattle.pmb_io.specs.Count.{raised}
use Rattle.pmb_io.specs.Runs.{most_piece}
use Rattle.pmb_io.specs.Told.{ReaderTold}
use Rattle.pmb_io.specs.Calls.{CountsRead, TellsEnd}
use Rattle.pmb_io.specs.declared.fault.IoFault.{IoFault}
use Rattle.pmb_preamble.specs.Front.{FirstMark, MayFit, NoMark, Reads, most_profile}
use Rattle.pmb_preamble.specs.machine.Front.{NoneEndsWithin}
use Rattle.pmb_preamble.proofs.FrontReads.{FewReads, all_past_limit, all_within, cut_past_limit, cut_within}
use Rattle.pmb_preamble.proofs.FrontReads.{gave_no_bytes, gave_none, grown, marked_so, no_reads, none_more, one_more}
use Rattle.pmb_preamble.proofs.FrontReads.{reads_no_more, reads_nothing, reads_piece, same_reads, told_unfit}
use Rattle.pmb_preamble.proofs.FrontReads.{unmarked_not}
use Rattle.pmb_preamble.proofs.Limits.{fit_is_short}
use Rattle.pmb_preamble.proofs.Marks.{none_in_nothing, none_with_more}
use Rattle.pmb_preamble.proofs.front_reader.front.Given as given
use Rattle.pmb_preamble.proofs.front_reader.front.Goals as goal
use Rattle.pmb_preamble.proofs.front_reader.front.Goals.{After-as_slice-in-loop-piece, After-extend_from_slice, In-Ok}
use Rattle.pmb_preamble.proofs.front_reader.front.Goals.{In-Some}

-- ---- what a read tells

-- it counts where it gave bytes
counts_piece : (old new : ReaderTold) (count : ℕ) (buffer : List ℕ) → CountsRead {F = IoFault} old new (Ok count) buffer
    → 0 < length buffer → new.reads ≡ raised old.reads (min count 1)
counts_piece old new count buffer counted room = grind (arith, nat_tests, counted, room)

-- a read of nothing is the end
told_end : (old new : Bool) (count : ℕ) (buffer : List ℕ) → TellsEnd {F = IoFault} old new (Ok count) buffer → count ≡ 0
    → 0 < length buffer → new ≡ true
told_end old new count buffer told none room = grind (arith, nat_tests)

-- and any other is not
told_no_end : (old new : Bool) (count : ℕ) (buffer : List ℕ) → TellsEnd {F = IoFault} old new (Ok count) buffer
    → count ≢ 0 → new ≡ old
told_no_end true new count buffer told some = told
told_no_end false new count buffer told some = grind (arith, nat_tests)

-- ---- a read returned bytes, or that there are none

-- what was read before it may fit
fit : (g : given.Over) (c : In-Ok g) → MayFit c.loop-piece.bytes.items
fit g c = subst MayFit c.as_slice.ensures.value (c.may_fit.ensures.0 c.loop-piece-test.true)

short : (g : given.Over) (c : In-Ok g) → length c.loop-piece.bytes.items < most_profile + 4
short g c = fit_is_short c.loop-piece.bytes.items c.loop-piece.invariant.none (fit g c)

-- it counts where it gave bytes
counted : (g : given.Over) (c : In-Ok g) → (g.R.Source.told c.read.new.self).reads
    ≡ raised (g.R.Source.told c.loop-piece.reader).reads (min c.in-Ok.count 1)
counted g c = counts_piece (g.R.Source.told c.loop-piece.reader) (g.R.Source.told c.read.new.self) c.in-Ok.count
    c.read.new.buffer c.in-Ok.ensures.read (omega arith)

-- the reader has ended, and this is all that it gave
record GaveAll {R : Type 0} (told : R → ReaderTold) (old new : R) (read : List ℕ) : Type 0 where
  reads : Reads told old new read
  ended : (told new).ended ≡ true
  at_end : IsAtEnd (told new).left

gave_all : (g : given.Over) (c : In-Ok g) → c.in-Ok.count ≡ 0
    → GaveAll g.R.Source.told c.args.reader.now c.read.new.self c.loop-piece.bytes.items
gave_all g c none =
    let told = g.R.Source.told in
    let count = c.in-Ok.count in
    let buffer = c.read.new.buffer in
    let gave = gave_none (told c.loop-piece.reader) (told c.read.new.self) count buffer none c.in-Ok.ensures.bytes.0
    c.in-Ok.ensures.given in record {
      reads = reads_no_more c.reads_add_up.ensures.both_given told c.args.reader.now c.loop-piece.reader c.read.new.self
          c.loop-piece.bytes.items count c.loop-piece.invariant.reads gave (counted g c) none;
      ended = told_end _ _ count buffer c.in-Ok.ensures.ended none (omega arith);
      at_end = c.in-Ok.ensures.bytes.1 none (omega arith);
    }

-- ---- it returned bytes

some : (g : given.Over) (c : After-extend_from_slice g) → c.in-Ok.count ≢ 0
some g c = grind (arith, nat_tests, c.if-count-eq0.false)

-- they come after what was read before
reads_more : (g : given.Over) (c : After-extend_from_slice g)
    → Reads g.R.Source.told c.args.reader.now c.read.new.self
    (c.loop-piece.bytes.items ++ take c.in-Ok.count c.read.new.buffer)
reads_more g c =
    let before = (goal.at.After-extend_from_slice g c).In-Ok in
    let room : length c.read.new.buffer ≤ most_piece = omega arith in
    reads_piece c.reads_add_up.ensures.both_given g.R.Source.told c.args.reader.now c.loop-piece.reader c.read.new.self
    c.loop-piece.bytes.items c.in-Ok.count c.read.new.buffer
    c.loop-piece.invariant.reads c.loop-piece.invariant.none (fit g before) c.in-Ok.ensures.within room
    (some g c) c.in-Ok.ensures.bytes.0 c.in-Ok.ensures.given (counted g before)

-- one read more was made
one_read : (g : given.Over) (c : After-extend_from_slice g) (more : ℕ) → length c.loop-piece.bytes.items < more
    → FewReads more (g.R.Source.told c.args.reader.now).reads (g.R.Source.told c.read.new.self).reads
one_read g c more room =
    one_more (min (length c.loop-piece.bytes.items) (most_profile + 4)) more _ _ _ c.in-Ok.count
    c.loop-piece.invariant.few (counted g (goal.at.After-extend_from_slice g c).In-Ok) (some g c)
    (omega (arith, room))

-- so few as there may be
few_reads : (g : given.Over) (c : After-extend_from_slice g)
    → FewReads (most_profile + 4) (g.R.Source.told c.args.reader.now).reads (g.R.Source.told c.read.new.self).reads
few_reads g c = one_read g c (most_profile + 4) (short g (goal.at.After-extend_from_slice g c).In-Ok)

-- ---- they were kept

kept : (g : given.Over) (c : After-as_slice-in-loop-piece g) → c.extend_from_slice.new.self.items
    ≡ c.loop-piece.bytes.items ++ take c.in-Ok.count c.read.new.buffer
kept g c =
    grown c.extend_from_slice.result c.is_err.result c.extend_from_slice.new.self.items c.loop-piece.bytes.items
    (take c.in-Ok.count c.read.new.buffer)
    c.is_err.ensures.value c.if-is_err.false c.extend_from_slice.ensures.items

all_reads : (g : given.Over) (c : After-as_slice-in-loop-piece g)
    → Reads g.R.Source.told c.args.reader.now c.read.new.self c.extend_from_slice.new.self.items
all_reads g c =
    subst (λ (t : List ℕ). Reads g.R.Source.told c.args.reader.now c.read.new.self t) (sym (kept g c))
    (reads_more g (goal.at.After-as_slice-in-loop-piece g c).After-extend_from_slice)

longer : (g : given.Over) (c : After-as_slice-in-loop-piece g) → length c.extend_from_slice.new.self.items
    ≡ length c.loop-piece.bytes.items + c.in-Ok.count
longer g c =
    let read = c.loop-piece.bytes.items in
    ap length (kept g c) ∙ (length-append read (take c.in-Ok.count c.read.new.buffer)
    ∙ ap (λ n. length read + n) (length-take-le c.in-Ok.count c.read.new.buffer c.in-Ok.ensures.within))

-- ---- there is a line `%%` in them

first_mark : (g : given.Over) (c : In-Some g)
    → FirstMark c.extend_from_slice.new.self.items (take c.in-Some.mark.start c.extend_from_slice.new.self.items)
    (drop c.in-Some.mark.end c.extend_from_slice.new.self.items)
first_mark g c = subst (λ (t : List ℕ). FirstMark t (take c.in-Some.mark.start t) (drop c.in-Some.mark.end t))
    c.as_slice-in-loop-piece.ensures.value c.in-Some.ensures.first

inside : (g : given.Over) (c : In-Some g) → c.in-Some.mark.start ≤ length c.extend_from_slice.new.self.items
inside g c = subst (λ (t : List ℕ). c.in-Some.mark.start ≤ length t) c.as_slice-in-loop-piece.ensures.value
    c.in-Some.ensures.start

-- ---- the goals

pub loop-piece-init : goal.loop-piece-init
loop-piece-init g c =
    let empty = c.new-bytes.ensures.items in record {
      failures = refl;
      not_ended = refl;
      counted = omega (arith, ap length empty, c.new-bytes.ensures.len);
      few = no_reads _ _;
      reads = subst (λ (t : List ℕ). Reads g.R.Source.told c.args.reader.now c.args.reader.now t) (sym empty)
          (reads_nothing g.R.Source.told c.args.reader.now (c.reads_add_up.ensures.nothing_given _));
      none = subst NoMark (sym empty) none_in_nothing;
    }

-- A failed read is returned as such.
pub returns-in-Err-clause-ok : goal.returns-in-Err-clause-ok
returns-in-Err-clause-ok g c = tt

pub returns-in-Err-clause-mark_not_ended : goal.returns-in-Err-clause-mark_not_ended
returns-in-Err-clause-mark_not_ended g c = tt

pub returns-in-Err-clause-no_read : goal.returns-in-Err-clause-no_read
returns-in-Err-clause-no_read g c other = absurd (other refl)

pub returns-in-Err-clause-before_read : goal.returns-in-Err-clause-before_read
returns-in-Err-clause-before_read g c is =
    let read = c.loop-piece.bytes.items in
    let fit : MayFit read = subst MayFit c.as_slice.ensures.value (c.may_fit.ensures.0 c.loop-piece-test.true) in
    let gave = gave_no_bytes c.reads_add_up.ensures.both_given (g.R.Source.told c.args.reader.now)
    (g.R.Source.told c.loop-piece.reader) (g.R.Source.told c.read.new.self) read c.loop-piece.invariant.reads.gave
    (c.reads_add_up.ensures.kept _ _ c.in-Err.ensures.bytes) c.in-Err.ensures.given in
    record { read = read; gave = gave; undecided = record { none = c.loop-piece.invariant.none; may_fit = fit } }

pub returns-in-Err-clause-reads : goal.returns-in-Err-clause-reads
returns-in-Err-clause-reads g c =
    let read = c.loop-piece.bytes.items in
    same_reads (min (length read) (most_profile + 4)) (most_profile + 4) _ _ _ c.loop-piece.invariant.few
    c.in-Err.ensures.read (omega arith)

pub returns-then-count-eq0-clause-ok : goal.returns-then-count-eq0-clause-ok
returns-then-count-eq0-clause-ok g c =
    let all = gave_all g (goal.at.returns-then-count-eq0-clause-ok g c).In-Ok c.if-count-eq0.true in
    all_within c.all.result g.R.Source.told c.args.reader.now c.read.new.self c.loop-piece.bytes.items all.reads
    c.loop-piece.invariant.none all.ended all.at_end c.all.ensures.profile c.all.ensures.rest c.all.ensures.unmarked
    c.all.ensures.within

pub returns-then-count-eq0-clause-mark_not_ended : goal.returns-then-count-eq0-clause-mark_not_ended
returns-then-count-eq0-clause-mark_not_ended g c = unmarked_not c.all.result _ c.all.ensures.unmarked

pub returns-then-count-eq0-clause-too_long : goal.returns-then-count-eq0-clause-too_long
returns-then-count-eq0-clause-too_long g c is =
    let all = gave_all g (goal.at.returns-then-count-eq0-clause-too_long g c).In-Ok c.if-count-eq0.true in
    all_past_limit c.all.result g.R.Source.told c.args.reader.now c.read.new.self c.loop-piece.bytes.items all.reads
    c.loop-piece.invariant.none all.ended all.at_end c.all.ensures.long is

pub returns-then-count-eq0-clause-reads : goal.returns-then-count-eq0-clause-reads
returns-then-count-eq0-clause-reads g c =
    none_more (min (length c.loop-piece.bytes.items) (most_profile + 4)) (most_profile + 4) _ _ _ c.in-Ok.count
    c.loop-piece.invariant.few (counted g (goal.at.returns-then-count-eq0-clause-reads g c).In-Ok)
    c.if-count-eq0.true (omega arith)

pub returns-then-is_err-clause-before_memory : goal.returns-then-is_err-clause-before_memory
returns-then-is_err-clause-before_memory g c is =
    record {
      read = c.loop-piece.bytes.items ++ take c.in-Ok.count c.read.new.buffer;
      reads =
          reads_more g (goal.at.returns-then-is_err-clause-before_memory g c).After-extend_from_slice;
    }

pub returns-then-is_err-clause-reads : goal.returns-then-is_err-clause-reads
returns-then-is_err-clause-reads g c = few_reads g
    (goal.at.returns-then-is_err-clause-reads g c).After-extend_from_slice

pub find_mark-requires-clause-none_before : goal.find_mark-requires-clause-none_before
find_mark-requires-clause-none_before g c =
    let read = c.loop-piece.bytes.items in
    let piece = take c.in-Ok.count c.read.new.buffer in
    let items_are = kept g (goal.at.find_mark-requires-clause-none_before g c).After-as_slice-in-loop-piece in
    let from_is : c.len-from.result ≡ length read = c.len-from.ensures ∙ c.loop-piece.invariant.counted in
    subst (λ (t : List ℕ). NoneEndsWithin t c.len-from.result)
    (sym (c.as_slice-in-loop-piece.ensures.value ∙ items_are))
    (subst (λ (n : ℕ). NoneEndsWithin (read ++ piece) n) (sym from_is)
    (none_with_more read piece c.loop-piece.invariant.none))

pub returns-in-Some-clause-ok : goal.returns-in-Some-clause-ok
returns-in-Some-clause-ok g c =
    let found = (goal.at.returns-in-Some-clause-ok g c).In-Some in
    let reads = all_reads g (goal.at.returns-in-Some-clause-ok g c).After-as_slice-in-loop-piece in
    cut_within c.cut.result g.R.Source.told c.args.reader.now c.read.new.self c.extend_from_slice.new.self.items
    c.in-Some.mark.start c.in-Some.mark.end reads (first_mark g found) (inside g found) c.cut.ensures.profile
    c.cut.ensures.rest c.cut.ensures.marked c.cut.ensures.within

pub returns-in-Some-clause-mark_not_ended : goal.returns-in-Some-clause-mark_not_ended
returns-in-Some-clause-mark_not_ended g c =
    let given_some = some g (goal.at.returns-in-Some-clause-mark_not_ended g c).After-extend_from_slice in
    marked_so c.cut.result _ (told_no_end _ _ c.in-Ok.count c.read.new.buffer c.in-Ok.ensures.ended given_some
    ∙ c.loop-piece.invariant.not_ended)

pub returns-in-Some-clause-too_long : goal.returns-in-Some-clause-too_long
returns-in-Some-clause-too_long g c is =
    let found = (goal.at.returns-in-Some-clause-too_long g c).In-Some in
    let reads = all_reads g (goal.at.returns-in-Some-clause-too_long g c).After-as_slice-in-loop-piece in
    cut_past_limit c.cut.result g.R.Source.told c.args.reader.now c.read.new.self c.extend_from_slice.new.self.items
    c.in-Some.mark.start c.in-Some.mark.end reads (first_mark g found) (inside g found) c.cut.ensures.long is

pub returns-in-Some-clause-reads : goal.returns-in-Some-clause-reads
returns-in-Some-clause-reads g c = few_reads g (goal.at.returns-in-Some-clause-reads g c).After-extend_from_slice

pub loop-piece-smaller : goal.loop-piece-smaller
loop-piece-smaller g c =
    let at = goal.at.loop-piece-smaller g c in
    omega (arith, short g at.In-Ok, some g at.After-extend_from_slice, longer g at.After-as_slice-in-loop-piece)

pub loop-piece-preserved : goal.loop-piece-preserved
loop-piece-preserved g c =
    let at = goal.at.loop-piece-preserved g c in
    let given_some = some g at.After-extend_from_slice in
    let room : length c.loop-piece.bytes.items < min (length c.extend_from_slice.new.self.items) (most_profile + 4) =
    omega (arith, short g at.In-Ok, given_some, longer g at.After-as_slice-in-loop-piece) in
    record {
      failures = c.in-Ok.ensures.failed ∙ c.loop-piece.invariant.failures;
      not_ended = told_no_end _ _ c.in-Ok.count c.read.new.buffer c.in-Ok.ensures.ended given_some
          ∙ c.loop-piece.invariant.not_ended;
      counted = sym c.as_slice-in-loop-piece.ensures.len ∙ ap length c.as_slice-in-loop-piece.ensures.value;
      few = one_read g at.After-extend_from_slice (min (length c.extend_from_slice.new.self.items) (most_profile + 4))
          room;
      reads = all_reads g at.After-as_slice-in-loop-piece;
      none = subst NoMark c.as_slice-in-loop-piece.ensures.value c.in_default.ensures.none;
    }

pub returns-clause-too_long : goal.returns-clause-too_long
returns-clause-too_long g c is =
    let read = c.loop-piece.bytes.items in record {
      read = read;
      reads = c.loop-piece.invariant.reads;
      too_long = inl (told_unfit c.may_fit.result read c.as_slice.result.now c.may_fit.ensures c.as_slice.ensures.value
          c.loop-piece-test.false);
    }

pub returns-clause-reads : goal.returns-clause-reads
returns-clause-reads g c =
    let read = c.loop-piece.bytes.items in
    same_reads (min (length read) (most_profile + 4)) (most_profile + 4) _ _ _ c.loop-piece.invariant.few refl
    (omega arith)
