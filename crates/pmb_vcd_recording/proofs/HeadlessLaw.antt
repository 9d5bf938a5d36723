-- A VCD whose head does not end: its lines give only faults, and no packet is under way.
use Rattle.std.proofs.Common.{◌≡◌, ℕ, ◌+◌, ◌==◌, true, false, Bool, Option, Some, None, if◌then◌else◌, List, [], ◌∷◌, ◌++◌}
use Rattle.std.proofs.Common.{ap, refl, codes}
use Rattle.pmb_io.specs.Count.{capped}
use Rattle.pmb_io.specs.Lines.{TextLine}
use Rattle.pmb_recording.specs.Content.{content}
use Rattle.pmb_recording.specs.Recording.{nothing}
use Rattle.pmb_recording.specs.Told.{at_line, comment}
use Rattle.pmb_vcd.specs.Words.{words}
use Rattle.pmb_vcd_recording.specs.Lines.{headless, ended}
use Rattle.pmb_vcd_recording.specs.Reads.{behind_content, behind_line, behind_lines, behind_words, content_reads, fault_reads, line_reads, lines_reads, step_reads}
use Rattle.pmb_vcd_recording.specs.Reads.{words_reads}
use Rattle.pmb_vcd_recording.specs.Source as source
use Rattle.pmb_vcd_recording.specs.declared.lines.Place.{Place}
use Rattle.pmb_vcd_recording.specs.declared.lines.Place.TheVariants as at
use Rattle.pmb_vcd_recording.specs.declared.lines.VcdLines.{VcdLines}
use Rattle.pmb_vcd_recording.proofs.FedLaw.{fed_all, vcd_at}
use Rattle.pmb_wire_packets.specs.Packets.{Outside, Skipping, packets_in, told, told_texts}
use Rattle.pmb_wire_packets.specs.Pieces.{Read, Gives, Fails, items}
use Rattle.pmb_wire_packets.specs.declared.wire_reader.WireReader.{WireReader}
use Rattle.pmb_wire_packets.specs.machine.Wired as wired

-- ---- only faults

abbrev pub AllFail : List Read → Type 0
AllFail [] = Unit {0}
AllFail (Gives m ∷ reads) = ⊥
AllFail (Fails line why ∷ reads) = AllFail reads

fail_then : (a b : List Read) → AllFail a → AllFail b → AllFail (a ++ b)
fail_then [] b first second = second
fail_then (Gives m ∷ a) b first second = absurd first
fail_then (Fails line why ∷ a) b first second = fail_then a b first second

fault_fails : (line : ℕ) (why : Option (List ℕ)) → AllFail (fault_reads line why)
fault_fails line (Some why) = tt
fault_fails line None = tt

-- Where some reads bring the lines to the head, these stood in it before, and only faults were read.
pub record InHead (v : VcdLines) (reads : List Read) : Type 0 where
  pub before : v.place ≡ at.Head
  pub fail : AllFail reads

word_in : (place : Place) (v : VcdLines) (word : List ℕ) → v.place ≡ place
    → (source.word_at place v word).now.place ≡ at.Head → InHead v (step_reads (source.word_at place v word))
word_in at.Head v word is now =
    let s = source.head_word v word in
    record { before = is; fail = fault_fails s.now.line s.fault }
word_in at.Body v word is now = cc
word_in at.Over v word is now = cc

unread_in : (place : Place) (v : VcdLines) → v.place ≡ place → (source.unread_at place v).now.place ≡ at.Head
    → InHead v (step_reads (source.unread_at place v))
unread_in at.Head v is now = record { before = is; fail = tt }
unread_in at.Body v is now = cc
unread_in at.Over v is now = cc

others_in : (b : Bool) (v : VcdLines) (others : List (List ℕ))
    → ((behind_words v others).place ≡ at.Head → InHead v (words_reads v others))
    → (if b then behind_words v others else v).place ≡ at.Head → InHead v (if b then words_reads v others else [])
others_in true v others more now = more now
others_in false v others more now = record { before = now; fail = tt }

words_in : (v : VcdLines) (ws : List (List ℕ)) → (behind_words v ws).place ≡ at.Head → InHead v (words_reads v ws)
words_in v [] now = record { before = now; fail = tt }
words_in v (word ∷ others) now =
    let s = source.take_word v word in
    let more = others_in s.reads_on s.now others (words_in s.now others) now in
    let here = word_in v.place v word refl more.before in
    record {
      before = here.before;
      fail = fail_then (step_reads s) (if s.reads_on then words_reads s.now others else []) here.fail more.fail;
    }

content_in : (v : VcdLines) (text : Option (List ℕ)) → (behind_content v text).place ≡ at.Head
    → InHead v (content_reads v text)
content_in v (Some text) now = words_in v (words text) now
content_in v None now = unread_in v.place v refl now

pub lines_in : (v : VcdLines) (lines : List TextLine) → (behind_lines v lines).place ≡ at.Head
    → InHead v (lines_reads v lines)
lines_in v [] now = record { before = now; fail = tt }
lines_in v (line ∷ lines) now =
    let more = lines_in (behind_line v line) lines now in
    let here = content_in (source.next_line v) (content (v.line == 0) line) more.before in
    record {
      before = here.before;
      fail = fail_then (line_reads v line) (lines_reads (behind_line v line) lines) here.fail more.fail;
    }

-- ---- a reader that was given no moment

abbrev pub quiet_at : ℕ → ℕ → ℕ → ℕ → Bool → WireReader
quiet_at glitch timeout line troubles is_skipping = record (wired.fresh glitch timeout 0) {
  packets = record (wired.fresh glitch timeout 0).packets {
    recording = record nothing { line = line; troubles = troubles; is_skipping = is_skipping };
  };
}

abbrev pub fail_texts : List Read → List ℕ
fail_texts [] = []
fail_texts (Gives m ∷ reads) = fail_texts reads
fail_texts (Fails line why ∷ reads) = at_line line why ++ fail_texts reads

pub fails_text : (glitch timeout line troubles : ℕ) (skips : Bool) (reads : List Read) → AllFail reads
    → (fed_all (quiet_at glitch timeout line troubles skips) reads).text ≡ fail_texts reads
fails_text glitch timeout line troubles skips [] fail = refl
fails_text glitch timeout line troubles skips (Gives m ∷ reads) fail = absurd fail
fails_text glitch timeout line troubles skips (Fails at why ∷ reads) fail =
    ap (λ (t : List ℕ). at_line at why ++ t)
    (fails_text glitch timeout at (capped (troubles + 1)) true reads fail)

-- what is told at the end
pub fails_end : (glitch timeout line troubles : ℕ) (skips : Bool) (v : VcdLines) (reads : List Read) → AllFail reads
    → (ended (headless (vcd_at v (fed_all (quiet_at glitch timeout line troubles skips) reads).now)).now).text
    ≡ comment (codes "no packets")
fails_end glitch timeout line troubles skips v [] fail = refl
fails_end glitch timeout line troubles skips v (Gives m ∷ reads) fail = absurd fail
fails_end glitch timeout line troubles skips v (Fails at why ∷ reads) fail =
    fails_end glitch timeout at (capped (troubles + 1)) true v reads fail

-- ---- what the definition tells

skipped_texts : (glitch timeout : ℕ) (reads : List Read) → AllFail reads
    → told_texts 0 (told timeout Skipping (items glitch reads)) ≡ fail_texts reads
skipped_texts glitch timeout [] fail = refl
skipped_texts glitch timeout (Gives m ∷ reads) fail = absurd fail
skipped_texts glitch timeout (Fails line why ∷ reads) fail =
    ap (λ (t : List ℕ). at_line line why ++ t) (skipped_texts glitch timeout reads fail)

skipped_count : (glitch timeout : ℕ) (reads : List Read) → AllFail reads
    → packets_in (told timeout Skipping (items glitch reads)) ≡ 0
skipped_count glitch timeout [] fail = refl
skipped_count glitch timeout (Gives m ∷ reads) fail = absurd fail
skipped_count glitch timeout (Fails line why ∷ reads) fail = skipped_count glitch timeout reads fail

pub told_of_fails : (glitch timeout : ℕ) (reads : List Read) → AllFail reads
    → told_texts 0 (told timeout Outside (items glitch reads)) ≡ fail_texts reads
told_of_fails glitch timeout [] fail = refl
told_of_fails glitch timeout (Gives m ∷ reads) fail = absurd fail
told_of_fails glitch timeout (Fails line why ∷ reads) fail =
    ap (λ (t : List ℕ). at_line line why ++ t) (skipped_texts glitch timeout reads fail)

pub count_of_fails : (glitch timeout : ℕ) (reads : List Read) → AllFail reads
    → packets_in (told timeout Outside (items glitch reads)) ≡ 0
count_of_fails glitch timeout [] fail = refl
count_of_fails glitch timeout (Gives m ∷ reads) fail = absurd fail
count_of_fails glitch timeout (Fails line why ∷ reads) fail = skipped_count glitch timeout reads fail
