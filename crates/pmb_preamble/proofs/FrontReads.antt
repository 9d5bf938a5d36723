-- A run of `front` over a reader, piece by piece: for its loop. So far there is no line `%%` and
-- the text may still be within the limit; one read more is counted, and the end, a first line `%%`
-- or too much text say what it comes to.
use Rattle.std.proofs.Common.{◌≡◌, ◌≢◌, ◌↔◌, IsTrue, ℕ, ◌+◌, ◌<◌, ◌≤◌, min, Bool, true, false, Result, Ok, Err, IfOk}
use Rattle.std.proofs.Common.{OnErr, List, [], ◌++◌, length, take, drop, append-nil, inl, inr, refl, sym, ap, ◌∙◌}
use Rattle.std.proofs.Common.{subst, arith}
use Rattle.std.specs.Prelude.{if◌then◌else◌}
use Rattle.std.specs.Result.{is_ok, is_err}
use Rattle.std.specs.declared.alloc.AllocError.{AllocError}
use Rattle.std.specs.Io.KnownBytes.{Consumes, IsAtEnd}
use Rattle.std.proofs.lemmas.List.{length-take-le}
use Rattle.pmb_io.specs.Count.{raised}
use Rattle.pmb_io.specs.Runs.{Gave, OpenBefore, most_piece}
use Rattle.pmb_io.specs.Told.{ReaderTold}
use Rattle.pmb_io.specs.declared.fault.ToolFault.{ToolFault}
use Rattle.pmb_io.specs.declared.fault.ToolFault.TheVariants.{ProfileTooLong}
use Rattle.pmb_preamble.specs.Front.{FirstMark, MayFit, NoMark, Parts, ReadFront, ReadTooMuch, Reads, Undecided}
use Rattle.pmb_preamble.specs.Front.{most_profile}
use Rattle.pmb_preamble.proofs.Limits.{late_cannot_fit}

-- ---- what a reader gave

-- a read gives a piece
pub gave_piece : (old new : ReaderTold) (count : ℕ) (buffer : List ℕ) → count ≤ length buffer
    → Consumes old.left new.left (take count buffer) → new.given ≡ raised old.given count
    → Gave old new (take count buffer)
gave_piece old new count buffer within consumed given =
    record { consumed = consumed; given = given ∙ ap (raised old.given) (sym (length-take-le count buffer within)) }

-- or nothing
pub gave_none : (old new : ReaderTold) (count : ℕ) (buffer : List ℕ) → count ≡ 0
    → Consumes old.left new.left (take count buffer) → new.given ≡ raised old.given count → Gave old new []
gave_none old new count buffer none consumed given = record {
  consumed = subst (λ (n : ℕ). Consumes old.left new.left (take n buffer)) none consumed;
  given = given ∙ ap (raised old.given) none;
}

-- ---- what was read

-- nothing is read
pub reads_nothing : {R : Type 0} (told : R → ReaderTold) (reader : R) → Gave (told reader) (told reader) []
    → Reads told reader reader []
reads_nothing told reader gave = record { gave = gave; in_time = inl (refl, refl) }

raised_by_none : (count : ℕ) → raised count 0 ≡ count
raised_by_none count = omega arith

module _ (both_given : (old mid new : ReaderTold) (x y : List ℕ) → Gave old mid x → Gave mid new y
    → Gave old new (x ++ y)) where
  -- no byte more is given
  gave_no_more : (old mid new : ReaderTold) (read : List ℕ) → Gave old mid read → Gave mid new [] → Gave old new read
  gave_no_more old mid new read first second = subst (λ (t : List ℕ). Gave old new t) (append-nil read)
      (both_given old mid new read [] first second)

  -- a read fails
  pub gave_no_bytes : (old mid new : ReaderTold) (read : List ℕ) → Gave old mid read → Consumes mid.left new.left []
      → new.given ≡ mid.given → Gave old new read
  gave_no_bytes old mid new read first none same =
      gave_no_more old mid new read first (record { consumed = none; given = same ∙ sym (raised_by_none mid.given) })

  -- the bytes of one read more, where nothing was decided
  pub reads_piece : {R : Type 0} (told : R → ReaderTold) (old mid new : R) (read : List ℕ) (count : ℕ) (buffer : List ℕ)
      → Reads told old mid read → NoMark read → MayFit read
      → count ≤ length buffer → length buffer ≤ most_piece → count ≢ 0
      → Consumes (told mid).left (told new).left (take count buffer) → (told new).given ≡ raised (told mid).given count
      → (told new).reads ≡ raised (told mid).reads (min count 1)
      → Reads told old new (read ++ take count buffer)
  reads_piece told old mid new read count buffer reads none fit within small some consumed given counted =
      let gave = gave_piece (told mid) (told new) count buffer within consumed given in
      let one : min count 1 ≡ 1 = omega (arith, some) in record {
        gave = both_given (told old) (told mid) (told new) read (take count buffer) reads.gave gave;
        in_time = inr (record {
          before = read;
          piece = take count buffer;
          whole = refl;
          is_open = record { none = none; may_fit = fit };
          middle = mid;
          gave_before = reads.gave;
          gave_piece = gave;
          one_read = counted ∙ ap (raised (told mid).reads) one;
          small = omega (arith, length-take-le count buffer within, within, small);
        });
      }

  -- a read that gives nothing
  still_in_time : {R : Type 0} (told : R → ReaderTold) (old mid new : R) (read : List ℕ)
      → OpenBefore told Undecided [] old mid read → Gave (told mid) (told new) [] → (told new).reads ≡ (told mid).reads
      → OpenBefore told Undecided [] old new read
  still_in_time told old mid new read (inl nothing) gave same = inl (nothing.0, same ∙ nothing.1)
  still_in_time told old mid new read (inr last) gave same = inr (record {
    before = last.before;
    piece = last.piece;
    whole = last.whole;
    is_open = last.is_open;
    middle = last.middle;
    gave_before = last.gave_before;
    gave_piece = gave_no_more (told last.middle) (told mid) (told new) last.piece last.gave_piece gave;
    one_read = same ∙ last.one_read;
    small = last.small;
  })

  pub reads_no_more : {R : Type 0} (told : R → ReaderTold) (old mid new : R) (read : List ℕ) (count : ℕ)
      → Reads told old mid read → Gave (told mid) (told new) []
      → (told new).reads ≡ raised (told mid).reads (min count 1) → count ≡ 0 → Reads told old new read
  reads_no_more told old mid new read count reads gave counted none = record {
    gave = gave_no_more (told old) (told mid) (told new) read reads.gave gave;
    in_time = still_in_time told old mid new read reads.in_time gave
        (counted ∙ (ap (λ n. raised (told mid).reads (min n 1)) none ∙ raised_by_none (told mid).reads));
  }

-- ---- how often

-- so many reads at most neither failed nor were the end
abbrev pub FewReads : ℕ → ℕ → ℕ → Type 0
FewReads most old new = (count : ℕ) × (count ≤ most) × (new ≡ raised old count)

pub no_reads : (most told : ℕ) → FewReads most told told
no_reads most told = (0, omega arith, sym (raised_by_none told))

pub one_more : (most more old mid new n : ℕ) → FewReads most old mid → new ≡ raised mid (min n 1) → n ≢ 0 → most < more
    → FewReads more old new
one_more most more old mid new n few is some room = (few.0 + 1, omega (arith, few.1), omega (arith, few.2, is, some))

pub none_more : (most more old mid new n : ℕ) → FewReads most old mid → new ≡ raised mid (min n 1) → n ≡ 0 → most ≤ more
    → FewReads more old new
none_more most more old mid new n few is none room =
    (few.0, omega (arith, few.1), is ∙ (ap (λ n. raised mid (min n 1)) none ∙ (raised_by_none mid ∙ few.2)))

pub same_reads : (most more old mid new : ℕ) → FewReads most old mid → new ≡ mid → most ≤ more → FewReads more old new
same_reads most more old mid new few is room = (few.0, omega (arith, few.1), is ∙ few.2)

-- ---- what it comes to

-- the reader ended, and all is profile
pub all_within : {R : Type 0} (result : Result Parts ToolFault) (told : R → ReaderTold) (old new : R) (read : List ℕ)
    → Reads told old new read → NoMark read → (told new).ended ≡ true → IsAtEnd (told new).left
    → IfOk result (λ front. front.profile ≡ read) → IfOk result (λ front. front.rest ≡ [])
    → IfOk result (λ front. front.marked ≡ false) → IfOk result (λ _. length read ≤ most_profile)
    → IfOk result (ReadFront told old new)
all_within (Ok front) told old new read reads none is_ended at_end profile rest unmarked within = record {
  read = read;
  reads = reads;
  ends = inr (record {
    unmarked = unmarked;
    all = record { none = none; all = profile; nothing = rest };
    ended =
        is_ended;
    at_end = at_end;
  });
  within = omega (arith, ap length profile, within);
}
all_within (Err fault) told old new read reads none is_ended at_end profile rest unmarked within = tt

-- or is too long
pub all_past_limit : {R : Type 0} (result : Result Parts ToolFault) (told : R → ReaderTold) (old new : R)
    (read : List ℕ) → Reads told old new read → NoMark read → (told new).ended ≡ true → IsAtEnd (told new).left
    → OnErr result (most_profile < length read) → result ≡ Err ProfileTooLong → ReadTooMuch told old new
all_past_limit (Ok front) told old new read reads none is_ended at_end long is = absurd (cc)
all_past_limit (Err fault) told old new read reads none is_ended at_end long is = record {
  read = read;
  reads = reads;
  too_long = inr (record { none = none; long = long; ended = is_ended; at_end = at_end });
}

-- what `cut` leaves at `Ok`
pub cut_within : {R : Type 0} (result : Result Parts ToolFault) (told : R → ReaderTold) (old new : R) (read : List ℕ)
    (start end : ℕ) → Reads told old new read
    → FirstMark read (take start read) (drop end read) → start ≤ length read
    → IfOk result (λ front. front.profile ≡ take start read) → IfOk result (λ front. front.rest ≡ drop end read)
    → IfOk result (λ front. front.marked ≡ true) → IfOk result (λ _. start ≤ most_profile)
    → IfOk result (ReadFront told old new)
cut_within (Ok front) told old new read start end reads first inside profile rest marked within = record {
  read = read;
  reads = reads;
  ends = inl (record {
    marked = marked;
    first = subst (λ (p : List ℕ). FirstMark read p front.rest) (sym profile)
        (subst (λ (r : List ℕ). FirstMark read (take start read) r) (sym rest) first);
  });
  within = omega (arith, ap length profile, length-take-le start read inside, within);
}
cut_within (Err fault) told old new read start end reads first inside profile rest marked within = tt

-- what `cut` refuses
pub cut_past_limit : {R : Type 0} (result : Result Parts ToolFault) (told : R → ReaderTold) (old new : R)
    (read : List ℕ) (start end : ℕ) → Reads told old new read
    → FirstMark read (take start read) (drop end read) → start ≤ length read → OnErr result (most_profile < start)
    → result ≡ Err ProfileTooLong → ReadTooMuch told old new
cut_past_limit (Ok front) told old new read start end reads first inside long is = absurd (cc)
cut_past_limit (Err fault) told old new read start end reads first inside long is = record {
  read = read;
  reads = reads;
  too_long = inl (late_cannot_fit read (take start read) (drop end read) first
      (omega (arith, length-take-le start read inside, long)));
}

-- what is told not to fit does not
pub told_unfit : (fits : Bool) (text seen : List ℕ) → IsTrue fits ↔ MayFit seen → seen ≡ text → fits ≡ false
    → MayFit text → ⊥
told_unfit fits text seen told same unfit fit =
    absurd (let contrary : true ≡ false = sym (told.1 (subst MayFit (sym same) fit)) ∙ unfit in cc)

-- what a growth that was not refused leaves
pub grown : (growth : Result Unit AllocError) (refused : Bool) (items read piece : List ℕ) → refused ≡ is_err growth
    → refused ≡ false
    → items ≡ (if is_ok growth then read ++ piece else read) → items ≡ read ++ piece
grown (Ok x) refused items read piece told not_refused items_are = items_are
grown (Err e) refused items read piece told not_refused items_are =
    absurd (let contrary : true ≡ false = sym told ∙ not_refused in cc)

-- what is said of a line `%%` where there is none
pub unmarked_not : (result : Result Parts ToolFault) (P : Type 0) → IfOk result (λ front. front.marked ≡ false)
    → IfOk result (λ front. front.marked ≡ true → P)
unmarked_not (Ok front) P unmarked = λ marked. absurd (let contrary : true ≡ false = sym marked ∙ unmarked in cc)
unmarked_not (Err fault) P unmarked = tt

-- and what holds anyway
pub marked_so : (result : Result Parts ToolFault) (P : Type 0) → P → IfOk result (λ front. front.marked ≡ true → P)
marked_so (Ok front) P holds = λ _. holds
marked_so (Err fault) P holds = tt
