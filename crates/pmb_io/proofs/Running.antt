-- A run over a reader and a writer, piece by piece: for `each_piece`, `take_piece`, `next_piece`,
-- `LinesEngine::take` and the laws `counts_add_up` and `reads_add_up`. What was read and put out
-- so far grows by a piece and its text; counts of reads and bytes go along, and stay at the
-- greatest.
use Rattle.std.proofs.Common.{◌≡◌, ℕ, ◌+◌, ◌<◌, ◌≤◌, ◌≢◌, min, Option, Ok, List, [], ◌++◌, length, length-take-le, take}
use Rattle.std.proofs.Common.{inl, inr, sym, ◌∙◌, ap, subst, refl, append_assoc, append-nil, length-append, arith}
use Rattle.std.specs.Io.KnownBytes.{Consumes}
use Rattle.std.proofs.lemmas.Bool.Decides.{nat_tests}
use Rattle.pmb_io.specs.Calls.{CountsRead}
use Rattle.pmb_io.specs.Count.{raised}
use Rattle.pmb_io.specs.Engines.{PutsOut, WritesOut}
use Rattle.pmb_io.specs.Outgoing.{PutsText}
use Rattle.pmb_io.specs.Runs.{Gave, OpenBefore, Stopped, Through, most_piece}
use Rattle.pmb_io.specs.Told.{ReaderTold, Told, WriterTold, told_by}
use Rattle.pmb_io.specs.declared.fault.IoFault.{IoFault}
use Rattle.pmb_io.proofs.Writing.{appends_then, consumes_then, consumes_nothing, writes_then, writes_as, writes_all}

-- a count raised twice
pub raised_twice : (count a b : ℕ) → raised (raised count a) b ≡ raised count (a + b)
raised_twice count a b = omega arith

pub raised_by_none : (count : ℕ) → raised count 0 ≡ count
raised_by_none count = omega arith

-- what was put out where nothing waited, and sent
pub put_and_sent : (Holds : List ℕ → Type 0) (h0 h1 h2 : Option (List ℕ)) (w0 w1 w2 : List ℕ) → w0 ≡ [] → w2 ≡ []
    → PutsOut Holds h0 w0 h1 w1 → PutsText h1 w1 h2 w2 [] → WritesOut Holds h0 h2
put_and_sent Holds h0 h1 h2 w0 w1 w2 none_old none_new puts sent = record {
  text = puts.text;
  appended = writes_all h0 h2 puts.text
      (subst (λ (w : List ℕ). PutsText h0 w h2 [] puts.text) none_old
      (writes_as h0 h2 w0 w2 [] (puts.text ++ []) puts.text none_new (append-nil puts.text)
      (writes_then h0 h1 h2 w0 w1 w2 puts.text [] puts.writes sent)));
  holds = puts.holds;
}

-- what is put out for a piece, and then for the next
pub puts_then : (Mid Holds : List ℕ → List ℕ → Type 0) (bytes text piece next : List ℕ) (h0 h1 h2 : Option (List ℕ))
    (w0 w1 w2 : List ℕ)
    → (first : PutsOut (λ more. Mid (bytes ++ piece) (text ++ more)) h0 w0 h1 w1)
    → PutsOut (λ more. Holds ((bytes ++ piece) ++ next) ((text ++ first.text) ++ more)) h1 w1 h2 w2
    → PutsOut (λ more. Holds (bytes ++ (piece ++ next)) (text ++ more)) h0 w0 h2 w2
puts_then Mid Holds bytes text piece next h0 h1 h2 w0 w1 w2 first second = record {
  text = first.text ++ second.text;
  writes = writes_then h0 h1 h2 w0 w1 w2 first.text second.text first.writes second.writes;
  holds = subst (λ (b : List ℕ). Holds b (text ++ (first.text ++ second.text))) (append_assoc bytes piece next)
      (subst (λ (t : List ℕ). Holds ((bytes ++ piece) ++ next) t) (append_assoc text first.text second.text)
      second.holds);
}

-- `first` is taken
pub takes_first : (Holds : List ℕ → List ℕ → Type 0) (first : List ℕ) (reader : ReaderTold) (before after : WriterTold)
    → WritesOut (λ more. Holds first more) before.held after.held
    → Through Holds first (record { reader = reader; writer = before }) (record { reader = reader; writer = after })
takes_first Holds first reader before after written = record {
  read = [];
  text = written.text;
  consumed = consumes_nothing reader.left;
  given = sym (raised_by_none reader.given);
  appended = written.appended;
  holds = subst (λ (t : List ℕ). Holds t written.text) (sym (append-nil first)) written.holds;
}

-- a piece more is taken, or the end
unfoldable pub takes_more : (Held Holds : List ℕ → List ℕ → Type 0) (first piece : List ℕ) (old mid new : Told)
    → (so_far : Through Held first old mid)
    → Consumes mid.reader.left new.reader.left piece → new.reader.given ≡ raised mid.reader.given (length piece)
    → WritesOut (λ more. Holds ((first ++ so_far.read) ++ piece) (so_far.text ++ more)) mid.writer.held new.writer.held
    → Through Holds first old new
takes_more Held Holds first piece old mid new so_far consumed given written = record {
  read = so_far.read ++ piece;
  text = so_far.text ++ written.text;
  consumed = consumes_then old.reader.left mid.reader.left new.reader.left so_far.read piece so_far.consumed consumed;
  given = given ∙ (ap (λ n. raised n (length piece)) so_far.given
      ∙ (raised_twice old.reader.given (length so_far.read) (length piece)
      ∙ ap (raised old.reader.given) (sym (length-append so_far.read piece))));
  appended = appends_then old.writer.held mid.writer.held new.writer.held so_far.text written.text so_far.appended
      written.appended;
  holds = subst (λ (t : List ℕ). Holds t (so_far.text ++ written.text)) (append_assoc first so_far.read piece)
      written.holds;
}

-- no byte more is
pub reads_no_more : (Holds : List ℕ → List ℕ → Type 0) (first : List ℕ) (old : Told) (mid new : ReaderTold)
    (writer : WriterTold) → Through Holds first old (record { reader = mid; writer = writer })
    → Consumes mid.left new.left [] → new.given ≡ mid.given
    → Through Holds first old (record { reader = new; writer = writer })
reads_no_more Holds first old mid new writer so_far consumed given = record {
  read = so_far.read;
  text = so_far.text;
  consumed = subst (λ (t : List ℕ). Consumes old.reader.left new.left t) (append-nil so_far.read)
      (consumes_then old.reader.left mid.left new.left so_far.read [] so_far.consumed consumed);
  given = given ∙ so_far.given;
  appended = so_far.appended;
  holds = so_far.holds;
}

-- the end is taken
pub takes_end : (Held Holds : List ℕ → List ℕ → Type 0) (first : List ℕ) (old mid new : Told)
    → (so_far : Through Held first old mid)
    → Consumes mid.reader.left new.reader.left [] → new.reader.given ≡ mid.reader.given
    → WritesOut (λ more. Holds (first ++ so_far.read) (so_far.text ++ more)) mid.writer.held new.writer.held
    → Through Holds first old new
takes_end Held Holds first old mid new so_far consumed given written = record {
  read = so_far.read;
  text = so_far.text ++ written.text;
  consumed = subst (λ (t : List ℕ). Consumes old.reader.left new.reader.left t) (append-nil so_far.read)
      (consumes_then old.reader.left mid.reader.left new.reader.left so_far.read [] so_far.consumed consumed);
  given = given ∙ so_far.given;
  appended = appends_then old.writer.held mid.writer.held new.writer.held so_far.text written.text so_far.appended
      written.appended;
  holds = written.holds;
}

-- ---- what the loop has

module _ {R W : Type 0} (reader_told : R → ReaderTold) (writer_told : W → WriterTold) where
  -- nothing more is wanted of `first`
  pub stops_in_first : (Holds : List ℕ → List ℕ → Type 0) (IsOpen : List ℕ → Type 0) (first : List ℕ) (reader : R)
      (before after : W)
      → WritesOut (λ more. Holds first more) (writer_told before).held (writer_told after).held
      → Stopped reader_told writer_told Holds IsOpen first (reader, before) (reader, after)
  unfolding takes_first
  stops_in_first Holds IsOpen first reader before after written = record {
    through = takes_first Holds first (reader_told reader) (writer_told before) (writer_told after) written;
    in_time = inl (refl, refl);
  }

  -- nothing more is wanted after a piece
  pub stops_behind : (Held Holds : List ℕ → List ℕ → Type 0) (IsOpen : List ℕ → Type 0) (first piece : List ℕ)
      (old mid new : R × W)
      → (so_far : Through Held first (told_by reader_told writer_told old) (told_by reader_told writer_told mid))
      → IsOpen (first ++ so_far.read)
      → Consumes (reader_told mid.0).left (reader_told new.0).left piece
      → (reader_told new.0).given ≡ raised (reader_told mid.0).given (length piece)
      → (reader_told new.0).reads ≡ raised (reader_told mid.0).reads 1 → length piece ≤ most_piece
      → WritesOut (λ more. Holds ((first ++ so_far.read) ++ piece) (so_far.text ++ more)) (writer_told mid.1).held
      (writer_told new.1).held
      → Stopped reader_told writer_told Holds IsOpen first old new
  unfolding takes_more
  stops_behind Held Holds IsOpen first piece old mid new so_far is_open consumed given one_read small written = record {
    through = takes_more Held Holds first piece (told_by reader_told writer_told old)
        (told_by reader_told writer_told mid) (told_by reader_told writer_told new) so_far consumed given written;
    -- nothing was left open before this piece:
    in_time = inr (record {
      before = so_far.read;
      piece = piece;
      whole = refl;
      -- what was read before it, and the piece, of at most one read
      is_open = is_open;
      middle = mid.0;
      gave_before = record { consumed = so_far.consumed; given = so_far.given };
      gave_piece = record { consumed = consumed; given = given };
      one_read = one_read;
      small = small;
    });
  }

-- what was open under one name is so under another
pub open_weaker : {R : Type 0} (told : R → ReaderTold) (P Q : List ℕ → Type 0) (first : List ℕ) (old new : R)
    (read : List ℕ) → ((bytes : List ℕ) → P bytes → Q bytes)
    → OpenBefore told P first old new read → OpenBefore told Q first old new read
open_weaker told P Q first old new read weaker (inl none) = inl none
open_weaker told P Q first old new read weaker (inr last) = inr (record {
  before = last.before;
  piece = last.piece;
  whole = last.whole;
  is_open = weaker (first ++ last.before) last.is_open;
  middle = last.middle;
  gave_before = last.gave_before;
  gave_piece = last.gave_piece;
  one_read = last.one_read;
  small = last.small;
})

-- ---- what a reader gave

pub gave_nothing : (told : ReaderTold) → Gave told told []
gave_nothing told = record { consumed = consumes_nothing told.left; given = sym (raised_by_none told.given) }

pub gave_then : (old mid new : ReaderTold) (read piece : List ℕ) → Gave old mid read → Gave mid new piece
    → Gave old new (read ++ piece)
gave_then old mid new read piece first second = record {
  consumed = consumes_then old.left mid.left new.left read piece first.consumed second.consumed;
  given = second.given ∙ (ap (λ n. raised n (length piece)) first.given
      ∙ (raised_twice old.given (length read) (length piece) ∙ ap (raised old.given) (sym (length-append read piece))));
}

pub gave_no_more : (old mid new : ReaderTold) (read : List ℕ) → Gave old mid read → Gave mid new [] → Gave old new read
gave_no_more old mid new read first second = subst (λ (t : List ℕ). Gave old new t) (append-nil read)
    (gave_then old mid new read [] first second)

-- ---- how often

-- a read into a buffer with room counts where it gives bytes
pub counts_piece : (old new : ReaderTold) (count : ℕ) (buffer : List ℕ)
    → CountsRead {F = IoFault} old new (Ok count) buffer → 0 < length buffer
    → new.reads ≡ raised old.reads (min count 1)
counts_piece old new count buffer counted room = grind (arith, nat_tests, counted, room)

-- a read that gives bytes is one
pub one_read_given : (before after n : ℕ) → after ≡ raised before (min n 1) → n ≢ 0 → after ≡ raised before 1
one_read_given before after n is some = is ∙ ap (raised before) (omega (arith, some))

-- a read that gives bytes, counted
pub one_read_more : (start before after count n : ℕ) → before ≡ raised start count → after ≡ raised before (min n 1)
    → n ≢ 0 → after ≡ raised start (count + 1)
one_read_more start before after count n was is some =
    let one : min n 1 ≡ 1 = omega arith in
    is ∙ (ap (raised before) one ∙ (ap (λ r. raised r 1) was ∙ raised_twice start count 1))

-- and its bytes
pub bytes_more : (before after n : ℕ) (buffer : List ℕ) → n ≤ length buffer → after ≡ raised before n
    → after ≡ raised before (length (take n buffer))
bytes_more before after n buffer within is = is ∙ ap (raised before) (sym (length-take-le n buffer within))

-- a read gives a byte or more
pub reads_some : (read piece : List ℕ) (count : ℕ) → count ≤ length read → 0 < length piece
    → count + 1 ≤ length (read ++ piece)
reads_some read piece count many some = omega (arith, length-append read piece)

-- a read that gives nothing is not counted
pub no_read_more : (start before after count n : ℕ) → before ≡ raised start count → after ≡ raised before (min n 1)
    → n ≡ 0 → after ≡ raised start count
no_read_more start before after count n was is none =
    let no_one : min n 1 ≡ 0 = omega arith in
    is ∙ (ap (raised before) no_one ∙ (raised_by_none before ∙ was))

-- less of an input and its text
unfoldable pub through_weaker : (P Q : List ℕ → List ℕ → Type 0) (first : List ℕ) (old new : Told)
    → ((bytes text : List ℕ) → P bytes text → Q bytes text) → Through P first old new → Through Q first old new
through_weaker P Q first old new weaker through = record {
  read = through.read;
  text = through.text;
  consumed = through.consumed;
  given = through.given;
  appended = through.appended;
  holds = weaker (first ++ through.read) through.text through.holds;
}
