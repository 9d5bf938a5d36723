-- A piece of a text that is taken word by word: what was used of it, what is left, what the visitor
-- was told and what went out (`UpTo`). For `take_words` and its loop. One word more, a byte with
-- its ACK, a whole packet, a blank: each moves the place on; the piece ends all used, or at a word
-- that is no token.
use Rattle.std.proofs.Common.{◌≡◌, ℕ, ◌+◌, ◌-◌, ◌≤◌, None, Some, map, inl, inr, Option, List, [], ◌∷◌, ◌++◌, length}
use Rattle.std.proofs.Common.{get_or, take, drop, sym, ◌∙◌, ap, subst, refl, append_assoc, append-nil, length-append}
use Rattle.std.proofs.Common.{length-take-le, take-append-drop, drop-drop, arith}
use Rattle.std.proofs.Math.Seq.{take-append-add}
use Rattle.std.proofs.lemmas.Bool.{cases_Bool}
use Rattle.std.proofs.lemmas.List.{length-map, take_all, take_more}
use Rattle.pmb_bus.specs.declared.event.Event.{Event}
use Rattle.pmb_bus.specs.declared.event.Event.TheVariants.{Byte, Ack}
use Rattle.pmb_bus.specs.declared.lexer.Lexer.{Lexer}
use Rattle.pmb_bus.specs.declared.lexer.LexFault.{LexFault}
use Rattle.pmb_bus.specs.Lexer.{LexerStandsAt, NeedsMore, EndsWord, FeedsAcked, Refuses, IsFaultOf, OpenWordIsBad}
use Rattle.pmb_bus.specs.Event.{event_of}
use Rattle.pmb_bus.specs.Text.{BeginsText, EndedWordsSpell, EndsBetween, Spells, ends_in_comment, in_comment}
use Rattle.pmb_bus.specs.Text.{is_separator}
use Rattle.pmb_bus.proofs.Spelling.{spells_ended}
use Rattle.pmb_bus.proofs.Words.{blank_out, comment_cuts, cut_by, longer_by}
use Rattle.pmb_io.specs.Engines.{PutsOut}
use Rattle.pmb_io.specs.Outgoing.{PutsText}
use Rattle.pmb_io.proofs.Writing.{writes_then, writes_nothing}
use Rattle.pmb_reader.specs.declared.reader.Reader.{Reader}
use Rattle.pmb_scan.specs.declared.scan.Scan.{Scan}
use Rattle.pmb_reader.specs.Reader.{Open, last_read}
use Rattle.pmb_scan.specs.Reached.{Reached, IsWhole, behind_bytes, behind_whole}
use Rattle.pmb_scan.specs.Scan.{HasRead, ScanStandsAt, TakesAll, TakesEvent, StopsAtBadWord}
use Rattle.pmb_scan.specs.machine.Standing.{ReaderReached}
use Rattle.pmb_scan.specs.machine.Whole.{TakesWhole}
use Rattle.pmb_scan.proofs.Reporting.{reads_on}
use Rattle.pmb_transaction.specs.Transaction.{TransactionData}

-- a count of the bytes used counts those of the text
counts_text : (text rest : List ℕ) (used : ℕ) → used ≤ length rest
    → length text + used ≡ length (text ++ take used rest)
counts_text text rest used within = sym (length-append text (take used rest)
    ∙ ap (λ k. length text + k) (length-take-le used rest within))

-- a lexer that stands at a text, counted so, stands at its length
stands_counted : (lexer : Lexer) (n : ℕ) (a b : List ℕ) (events : List Event) → a ≡ b → n ≡ length a
    → LexerStandsAt lexer n a events → LexerStandsAt lexer (length b) b events
stands_counted lexer n a b events e counted stands =
    subst (λ (t : List ℕ). LexerStandsAt lexer (length t) t events) e
    (subst (λ (k : ℕ). LexerStandsAt lexer k a events) counted stands)

-- where a byte ends a word, the text spells the events with that word's
byte_spells : (text : List ℕ) (b : ℕ) (events : List Event) (event : Event) → EndedWordsSpell text events
    → EndedWordsSpell (text ++ b ∷ []) (events ++ event ∷ [])
    → Spells (text ++ b ∷ []) (events ++ event ∷ [])
byte_spells text b events event before ended =
    elim (cases_Bool (in_comment (ends_in_comment text) b)) [
      | inl inside ↦ spells_ended (text ++ b ∷ []) (events ++ event ∷ []) ended
          (cut_by text b (comment_cuts (ends_in_comment text) b inside)).opened
      | inr outside ↦
          elim (cases_Bool (is_separator b)) [
            | inl separates ↦ spells_ended (text ++ b ∷ []) (events ++ event ∷ []) ended
                (cut_by text b (ap is_separator (blank_out (ends_in_comment text) b outside) ∙ separates)).opened
            | inr keeps ↦
                let same = ap (map event_of) (longer_by text b outside keeps).ended in
                let both : map Some events ≡ map Some (events ++ event ∷ []) = sym before ∙ (sym same ∙ ended) in
                let lengths = sym (length-map events Some)
                ∙ (ap length both ∙ (length-map (events ++ event ∷ []) Some ∙ length-append events (event ∷ []))) in
                absurd (omega (arith, lengths))
          ]
    ]

-- the word that ends in a piece is the last of the text up to there
word_spells : (n : ℕ) (text : List ℕ) (events : List Event) (piece : List ℕ) (used : ℕ) (lexer : Lexer) (event : Event)
    → EndsWord n text events piece used lexer event
    → Spells (text ++ take used piece) (events ++ event ∷ [])
word_spells n text events piece used lexer event word =
    let front = take (used - 1) piece in
    let last = get_or piece (used - 1) 0 in
    let used_is : used ≡ (used - 1) + 1 = omega (arith, word.some) in
    let bytes : take used piece ≡ front ++ last ∷ [] = ap (λ k. take k piece) used_is
    ∙ take_more piece (used - 1) 0 (omega (arith, word.some, word.within)) in
    let all : text ++ take used piece ≡ (text ++ front) ++ last ∷ [] = ap (λ l. text ++ l) bytes
    ∙ sym (append_assoc text front (last ∷ [])) in
    subst (λ (t : List ℕ). Spells t (events ++ event ∷ [])) (sym all)
    (byte_spells (text ++ front) last events event word.before
    (subst (λ (t : List ℕ). EndedWordsSpell t (events ++ event ∷ [])) all word.stands.ended))

-- what was used of a piece and what is left of it, with more of it used
split_more : (piece used rest left : List ℕ) (more : ℕ) → piece ≡ used ++ rest → left ≡ drop more rest
    → piece ≡ (used ++ take more rest) ++ left
split_more piece used rest left more split left_is =
    split ∙ (ap (λ l. used ++ l) (sym (take-append-drop more rest) ∙ ap (λ l. take more rest ++ l) (sym left_is))
    ∙ sym (append_assoc used (take more rest) left))

-- what is nothing is none
pub none_of : {A : Type 0} (x : Option A) → ((a : A) → x ≡ Some a → ⊥) → x ≡ None
none_of None never = refl
none_of (Some a) never = absurd (never a refl)

module _ {V : Type 0} (Stands : V → V → Reached → List ℕ → Type 0) where
  -- a visitor is told of bytes
  abbrev pub Told : V → V → List ℕ → Type 0
  Told before after bytes = (start : V) (reached : Reached) (text : List ℕ) → Stands start before reached text
      → Stands start after (behind_bytes reached bytes) text

  -- an event is taken
  abbrev pub Took : Scan → V → Event → Scan → V → Option (List ℕ) → List ℕ → Option (List ℕ) → List ℕ → Type 0
  Took scan visitor event scan_after visitor_after h0 w0 h1 w1 = (start : V) (reached : Reached) (text : List ℕ)
      → HasRead scan reached → Stands start visitor reached text → Spells reached.text (reached.events ++ event ∷ [])
      → PutsOut (λ more. TakesEvent (Stands start visitor_after) reached event scan_after (text ++ more)) h0 w0 h1 w1

  -- a front of the piece was taken, all but the rest
  pub record UpTo (start now : V) (reached : Reached) (piece rest : List ℕ) (h0 : Option (List ℕ)) (w0 : List ℕ)
      (h1 : Option (List ℕ)) (w1 text : List ℕ) (scan : Scan) : Type 0 where
    -- what was used of the piece, what was reached then, and what went out meanwhile
    pub used : List ℕ
    pub there : Reached
    pub more : List ℕ
    pub split : piece ≡ used ++ rest
    pub profile : there.profile ≡ reached.profile
    pub is_text : there.text ≡ reached.text ++ used
    pub stands : ScanStandsAt scan there
    pub puts : PutsText h0 w0 h1 w1 more
    pub visited : Stands start now there (text ++ more)

  -- whatever was reached before it
  abbrev pub TookUpTo : Scan → V → List ℕ → List ℕ → Option (List ℕ) → List ℕ → Option (List ℕ) → List ℕ → Scan → V
      → Type 0
  TookUpTo scan_before before piece rest h0 w0 h1 w1 scan now = (start : V) (reached : Reached) (text : List ℕ)
      → ScanStandsAt scan_before reached → Stands start before reached text
      → UpTo start now reached piece rest h0 w0 h1 w1 text scan

  -- none of it is taken yet
  pub up_to_none : (start now : V) (reached : Reached) (piece : List ℕ) (h : Option (List ℕ)) (w text : List ℕ)
      (scan : Scan)
      → ScanStandsAt scan reached → Stands start now reached text → UpTo start now reached piece piece h w h w text scan
  up_to_none start now reached piece h w text scan stands visited = record {
    used = [];
    there = reached;
    more = [];
    split = refl;
    profile = refl;
    is_text = sym (append-nil reached.text);
    stands = stands;
    puts = writes_nothing h w;
    visited = subst (λ (t : List ℕ). Stands start now reached t) (sym (append-nil text)) visited;
  }

  -- by a scan that stands where another one stands
  pub up_to_same : (start now : V) (reached : Reached) (piece rest : List ℕ) (h0 : Option (List ℕ)) (w0 : List ℕ)
      (h1 : Option (List ℕ)) (w1 text : List ℕ) (a b : Scan)
      → ((there : Reached) → ScanStandsAt a there → ScanStandsAt b there)
      → UpTo start now reached piece rest h0 w0 h1 w1 text a
      → UpTo start now reached piece rest h0 w0 h1 w1 text b
  up_to_same start now reached piece rest h0 w0 h1 w1 text a b same so_far = record {
    used = so_far.used;
    there = so_far.there;
    more = so_far.more;
    split = so_far.split;
    profile = so_far.profile;
    is_text = so_far.is_text;
    stands = same so_far.there so_far.stands;
    puts = so_far.puts;
    visited = so_far.visited;
  }

  -- what an event comes to is no matter of the lexer's
  pub took_as : (a b : Scan) (before : V) (event : Event) (c d : Scan) (after : V) (h0 : Option (List ℕ)) (w0 : List ℕ)
      (h1 : Option (List ℕ)) (w1 : List ℕ)
      → a.reader ≡ b.reader → c.reader ≡ d.reader → Took a before event c after h0 w0 h1 w1
      → Took b before event d after h0 w0 h1 w1
  took_as a b before event c d after h0 w0 h1 w1 same_before same_after took start reached text read visited spells =
      let puts = took start reached text (subst (λ (r : Reader). ReaderReached r reached) (sym same_before) read)
      visited spells in record {
        text = puts.text;
        writes = puts.writes;
        holds = record {
          there = puts.holds.there;
          profile = puts.holds.profile;
          same_text = puts.holds.same_text;
          events = puts.holds.events;
          reads = subst (λ (r : Reader). ReaderReached r puts.holds.there) same_after puts.holds.reads;
          visited = puts.holds.visited;
        };
      }

  -- a word more of it is taken, and what was reached then
  word_more : (start v0 v1 v2 : V) (reached : Reached) (piece rest left bytes : List ℕ) (used : ℕ) (event : Event)
      (h0 h1 h2 : Option (List ℕ)) (w0 w1 w2 text : List ℕ) (scan after : Scan) (lexer : Lexer)
      → (so_far : UpTo start v0 reached piece rest h0 w0 h1 w1 text scan)
      → EndsWord (length so_far.there.text) so_far.there.text so_far.there.events rest used lexer event
      → Told v0 v1 bytes → Took scan v1 event after v2 h1 w1 h2 w2 → after.lexer ≡ lexer → bytes ≡ take used rest
      → left ≡ drop used rest
      → (then : UpTo start v2 reached piece left h0 w0 h2 w2 text after)
      × (so_far.there.text ++ take used rest ≡ then.there.text)
      × (so_far.there.events ++ event ∷ [] ≡ then.there.events)
  word_more start v0 v1 v2 reached piece rest left bytes used event h0 h1 h2 w0 w1 w2 text scan after lexer so_far word
      told took same_lexer bytes_are left_is =
      -- the bytes of the word were told, then its event was taken
      let there = so_far.there in
      let told_there = told start there (text ++ so_far.more) so_far.visited in
      let taken = took start (behind_bytes there bytes) (text ++ so_far.more)
      (reads_on scan.reader there bytes so_far.stands.reader) told_there
      (subst (λ (l : List ℕ). Spells (there.text ++ l) (there.events ++ event ∷ [])) (sym bytes_are)
      (word_spells _ there.text there.events rest used lexer event word)) in
      -- what was reached is the text with that word
      let text_is : there.text ++ take used rest ≡ taken.holds.there.text =
      sym (taken.holds.same_text ∙ ap (λ (l : List ℕ). there.text ++ l) bytes_are) in (
        -- it is used, and its text comes after what went out before
        record {
          used = so_far.used ++ take used rest;
          there = taken.holds.there;
          more = so_far.more ++ taken.text;
          split = split_more piece so_far.used rest left used so_far.split left_is;
          profile = taken.holds.profile ∙ so_far.profile;
          is_text = sym text_is ∙ (ap (λ l. l ++ take used rest) so_far.is_text ∙ append_assoc reached.text so_far.used
              (take used rest));
          stands = record {
            lexer = subst (λ (l : Lexer). LexerStandsAt l (length taken.holds.there.text) taken.holds.there.text
                taken.holds.there.events) (sym same_lexer)
                (subst (λ (es : List Event). LexerStandsAt lexer (length taken.holds.there.text) taken.holds.there.text
                es) (sym taken.holds.events)
                (stands_counted lexer _ _ _ _ text_is (counts_text there.text rest used word.within) word.stands));
            reader = taken.holds.reads;
          };
          puts = writes_then _ _ _ _ _ _ _ _ so_far.puts taken.writes;
          visited = subst (λ (t : List ℕ). Stands start v2 taken.holds.there t)
              (append_assoc text so_far.more taken.text) taken.holds.visited;
        },
        text_is,
        sym taken.holds.events,
      )

  pub up_to_word : (start v0 v1 v2 : V) (reached : Reached) (piece rest left bytes : List ℕ) (used : ℕ) (event : Event)
      (h0 h1 h2 : Option (List ℕ)) (w0 w1 w2 text : List ℕ) (scan after : Scan) (lexer : Lexer)
      → (so_far : UpTo start v0 reached piece rest h0 w0 h1 w1 text scan)
      → EndsWord (length so_far.there.text) so_far.there.text so_far.there.events rest used lexer event
      → Told v0 v1 bytes → Took scan v1 event after v2 h1 w1 h2 w2 → after.lexer ≡ lexer → bytes ≡ take used rest
      → left ≡ drop used rest
      → UpTo start v2 reached piece left h0 w0 h2 w2 text after
  up_to_word start v0 v1 v2 reached piece rest left bytes used event h0 h1 h2 w0 w1 w2 text scan after lexer so_far word
      told took same_lexer bytes_are left_is =
      (word_more start v0 v1 v2 reached piece rest left bytes used event h0 h1 h2 w0 w1 w2 text scan after lexer so_far
      word told took same_lexer bytes_are left_is).0

  -- the word that ends in what is left of a piece, counted by the text in front
  word_as : (n : ℕ) (a b : List ℕ) (events others : List Event) (piece : List ℕ) (used : ℕ) (lexer : Lexer)
      (event : Event) → a ≡ b → n ≡ length a → events ≡ others
      → EndsWord n a events piece used lexer event → EndsWord (length b) b others piece used lexer event
  word_as n a b events others piece used lexer event e counted same word =
      subst (λ (es : List Event). EndsWord (length b) b es piece used lexer event) same
      (subst (λ (t : List ℕ). EndsWord (length t) t events piece used lexer event) e
      (subst (λ (k : ℕ). EndsWord k a events piece used lexer event) counted word))

  -- a byte of it and the ACK after it are taken
  pub up_to_acked : (start v0 v1 v2 v3 v4 : V) (reached : Reached) (piece rest left bytes others : List ℕ) (byte : ℕ)
      (h0 h1 h2 h3 : Option (List ℕ)) (w0 w1 w2 w3 text : List ℕ) (scan middle after : Scan) (lexer : Lexer)
      → (so_far : UpTo start v0 reached piece rest h0 w0 h1 w1 text scan)
      → FeedsAcked (length so_far.there.text) so_far.there.text so_far.there.events rest byte lexer
      → Told v0 v1 bytes → Took scan v1 (Byte byte) middle v2 h1 w1 h2 w2 → Told v2 v3 others
      → Took middle v3 Ack after v4 h2 w2 h3 w3 → after.lexer ≡ lexer
      → bytes ≡ take 3 rest → others ≡ take 2 (drop 3 rest) → left ≡ drop 5 rest
      → UpTo start v4 reached piece left h0 w0 h3 w3 text after
  up_to_acked start v0 v1 v2 v3 v4 reached piece rest left bytes others byte h0 h1 h2 h3 w0 w1 w2 w3 text scan middle
      after lexer so_far fed told took_byte told_then took_ack same_lexer bytes_are others_are left_is =
      let there = so_far.there in
      let between : Scan = record middle { lexer = fed.between } in
      let first = word_more start v0 v1 v2 reached piece rest (drop 3 rest) bytes 3
      (Byte byte) h0 h1 h2 w0 w1 w2 text scan between fed.between so_far fed.ends_byte told
      (took_as scan scan v1 (Byte byte) middle between v2 h1 w1 h2 w2 refl refl took_byte) refl bytes_are refl in
      let word = word_as (length there.text + 3) (there.text ++ take 3 rest) first.0.there.text
      (there.events ++ Byte byte ∷ []) first.0.there.events (drop 3 rest) 2 lexer Ack
      first.1 (counts_text there.text rest 3 fed.ends_byte.within) first.2 fed.ends_ack in
      up_to_word start v2 v3 v4 reached piece (drop 3 rest) left others 2 Ack h0 h2 h3 w0 w2 w3 text between after lexer
      first.0 word told_then
      took_ack same_lexer others_are (left_is ∙ sym (drop-drop 2 3 rest))

  -- a visitor is told of a whole packet at once
  abbrev pub ToldWhole : V → V → List ℕ → ℕ → TransactionData → Option (List ℕ) → List ℕ → Option (List ℕ) → List ℕ
      → Type 0
  ToldWhole before after bytes count t h0 w0 h1 w1 = (start : V) (reached : Reached) (text : List ℕ) (n : ℕ)
      (events : List Event) → Stands start before reached text
      → EndsBetween reached.text → Spells reached.text reached.events → reached.standing ≡ Open n []
      → IsWhole reached.profile t events bytes → count ≡ length events
      → PutsOut (λ more. Stands start after (behind_whole reached n bytes events t) (text ++ more)) h0 w0 h1 w1

  -- a whole packet of it is taken
  pub up_to_whole : (start v0 v1 : V) (reached : Reached) (piece rest left bytes : List ℕ) (used count : ℕ)
      (h0 h1 h2 : Option (List ℕ)) (w0 w1 w2 text : List ℕ) (scan after : Scan)
      → (so_far : UpTo start v0 reached piece rest h0 w0 h1 w1 text scan)
      → TakesWhole so_far.there rest used count after
      → ToldWhole v0 v1 bytes count (last_read after.reader) h1 w1 h2 w2 → bytes ≡ take used rest
      → left ≡ drop used rest
      → UpTo start v1 reached piece left h0 w0 h2 w2 text after
  up_to_whole start v0 v1 reached piece rest left bytes used count h0 h1 h2 w0 w1 w2 text scan after so_far taken told
      bytes_are left_is =
      -- the packet is told at once
      let there = so_far.there in
      let t = last_read after.reader in
      let behind = behind_whole there taken.n bytes taken.events t in
      let puts = told start there (text ++ so_far.more) taken.n taken.events so_far.visited taken.between taken.spells
      taken.standing
      (subst (λ (l : List ℕ). IsWhole there.profile t taken.events l) (sym bytes_are) taken.whole) taken.counted in
      -- its bytes are used, and its text comes after what went out before
      record {
        used = so_far.used ++ take used rest;
        there = behind;
        more = so_far.more ++ puts.text;
        split = split_more piece so_far.used rest left used so_far.split left_is;
        profile = so_far.profile;
        is_text = ap (λ l. there.text ++ l) bytes_are
            ∙ (ap (λ l. l ++ take used rest) so_far.is_text ∙ append_assoc reached.text so_far.used (take used rest));
        stands = subst (λ (l : List ℕ). ScanStandsAt after (behind_whole there taken.n l taken.events t))
            (sym bytes_are) taken.stands;
        puts = writes_then _ _ _ _ _ _ _ _ so_far.puts puts.writes;
        visited = subst (λ (l : List ℕ). Stands start v1 behind l) (append_assoc text so_far.more puts.text) puts.holds;
      }

  -- bytes of it that spell nothing are passed over
  pub up_to_blank : (start v0 v1 : V) (reached : Reached) (piece rest left bytes : List ℕ) (used : ℕ)
      (h0 h1 : Option (List ℕ)) (w0 w1 text : List ℕ) (scan after : Scan)
      → (so_far : UpTo start v0 reached piece rest h0 w0 h1 w1 text scan)
      → ScanStandsAt after (behind_bytes so_far.there (take used rest))
      → Told v0 v1 bytes → bytes ≡ take used rest → left ≡ drop used rest
      → UpTo start v1 reached piece left h0 w0 h1 w1 text after
  up_to_blank start v0 v1 reached piece rest left bytes used h0 h1 w0 w1 text scan after so_far stands told bytes_are
      left_is =
      let there = so_far.there in record {
        used = so_far.used ++ take used rest;
        there = behind_bytes there (take used rest);
        more = so_far.more;
        split = split_more piece so_far.used rest left used so_far.split left_is;
        profile = so_far.profile;
        is_text = ap (λ l. l ++ take used rest) so_far.is_text ∙ append_assoc reached.text so_far.used (take used rest);
        stands = stands;
        puts = so_far.puts;
        visited = subst (λ (l : List ℕ). Stands start v1 (behind_bytes there l) (text ++ so_far.more)) bytes_are
            (told start there (text ++ so_far.more) so_far.visited);
      }

  -- all of it is taken
  pub takes_all : (start v0 v1 : V) (reached : Reached) (piece rest bytes : List ℕ) (used : ℕ) (h0 h1 : Option (List ℕ))
      (w0 w1 text : List ℕ) (scan after : Scan)
      → (so_far : UpTo start v0 reached piece rest h0 w0 h1 w1 text scan)
      → NeedsMore (length so_far.there.text) so_far.there.text so_far.there.events rest used after.lexer
      → Told v0 v1 bytes → scan.reader ≡ after.reader → bytes ≡ take used rest
      → PutsOut (λ more. TakesAll (Stands start v1) reached piece after (text ++ more)) h0 w0 h1 w1
  takes_all start v0 v1 reached piece rest bytes used h0 h1 w0 w1 text scan after so_far needs told same_reader
      bytes_are =
      -- all that is left was used, and no word ends in it
      let there = so_far.there in
      let whole : bytes ≡ rest = bytes_are ∙ (ap (λ k. take k rest) needs.all
      ∙ take_all (length rest) rest (omega arith)) in
      let text_is : there.text ++ rest ≡ there.text ++ bytes = ap (λ l. there.text ++ l) (sym whole) in record {
        text = so_far.more;
        writes = so_far.puts;
        -- what was told reaches to the end of the piece
        holds = record {
          there = behind_bytes there bytes;
          profile = so_far.profile;
          used = sym text_is ∙ (ap (λ l. l ++ rest) so_far.is_text
              ∙ (append_assoc reached.text so_far.used rest ∙ ap (λ l. reached.text ++ l) (sym so_far.split)));
          stands = record {
            lexer = stands_counted after.lexer _ (there.text ++ rest) _ _ text_is
                (ap (λ k. length there.text + k) needs.all ∙ sym (length-append there.text rest)) needs.stands;
            reader = reads_on after.reader there bytes
                (subst (λ (r : Reader). ReaderReached r there) same_reader so_far.stands.reader);
          };
          visited = told start there (text ++ so_far.more) so_far.visited;
        };
      }

  -- a word of it is no token
  pub stops_at_bad_word : (start v0 v1 : V) (reached : Reached) (piece rest bytes : List ℕ) (used all_used : ℕ)
      (fault : LexFault) (h0 h1 : Option (List ℕ)) (w0 w1 text : List ℕ) (scan after : Scan) (lexer : Lexer)
      → (so_far : UpTo start v0 reached piece rest h0 w0 h1 w1 text scan)
      → Refuses (length so_far.there.text) so_far.there.text so_far.there.events rest used lexer fault
      → Told v0 v1 bytes → scan.reader ≡ after.reader → bytes ≡ take used rest
      → all_used + length rest ≡ length piece + used
      → PutsOut (λ more. StopsAtBadWord (Stands start v1) reached piece all_used fault after (text ++ more)) h0 w0 h1 w1
  stops_at_bad_word start v0 v1 reached piece rest bytes used all_used fault h0 h1 w0 w1 text scan after lexer so_far
      refuses told same_reader bytes_are counted =
      -- what was used up to the bad word, in this piece and in all
      let there = so_far.there in
      let text_is : there.text ++ take used rest ≡ there.text ++ bytes = ap (λ l. there.text ++ l) (sym bytes_are) in
      let piece_length = ap length so_far.split ∙ length-append so_far.used rest in
      let used_is : all_used ≡ length so_far.used + used = omega (arith, counted, piece_length) in
      -- a front of the rest is a front of the piece, counted from its first byte
      let taken : (k m : ℕ) → k ≡ length so_far.used + m → there.text ++ take m rest ≡ reached.text ++ take k piece =
      λ k m is. ap (λ l. l ++ take m rest) so_far.is_text ∙ (append_assoc reached.text so_far.used (take m rest)
      ∙ ap (λ l. reached.text ++ l) (sym (ap (λ i. take i piece) is
      ∙ (ap (λ l. take (length so_far.used + m) l) so_far.split ∙ take-append-add so_far.used rest m)))) in
      let all_bytes : there.text ++ rest ≡ reached.text ++ piece =
      ap (λ l. l ++ rest) so_far.is_text ∙ (append_assoc reached.text so_far.used rest
      ∙ ap (λ l. reached.text ++ l) (sym so_far.split)) in record {
        text = so_far.more;
        writes = so_far.puts;
        -- so the fault has the place in the whole text
        holds = record {
          there = behind_bytes there bytes;
          profile = so_far.profile;
          within = omega (arith, refuses.within, used_is, piece_length);
          used_up_to = sym text_is ∙ taken all_used used used_is;
          ended = subst (λ (t : List ℕ). EndedWordsSpell t there.events) text_is refuses.before;
          begins = subst (λ (t : List ℕ). BeginsText t) text_is refuses.begins;
          stops = λ begins. refuses.stops (subst (λ (t : List ℕ). BeginsText t)
              (sym (taken (all_used + 1) (used + 1) (omega (arith, used_is)))) begins);
          at = subst (λ (t : List ℕ). IsFaultOf (length t) t fault) text_is
              (subst (λ (k : ℕ). IsFaultOf k (there.text ++ take used rest) fault)
              (counts_text there.text rest used (omega (arith, refuses.within))) refuses.at);
          bad = λ more. subst (λ (t : List ℕ). OpenWordIsBad t ((reached.text ++ piece) ++ more) there.events) text_is
              (subst (λ (t : List ℕ). OpenWordIsBad (there.text ++ take used rest) (t ++ more) there.events) all_bytes
              (refuses.bad more));
          reads = reads_on after.reader there bytes
              (subst (λ (r : Reader). ReaderReached r there) same_reader so_far.stands.reader);
          visited = told start there (text ++ so_far.more) so_far.visited;
        };
      }
