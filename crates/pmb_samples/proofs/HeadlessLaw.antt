-- Samples without a heading: their lines give only faults, and no packet is under way.
use Rattle.std.proofs.Common.{◌≡◌, ℕ, ◌+◌, ◌==◌, true, false, Bool, Option, Some, None, if◌then◌else◌, List, [], ◌∷◌, ◌++◌}
use Rattle.std.proofs.Common.{ap, refl, codes}
use Rattle.pmb_io.specs.Count.{capped}
use Rattle.pmb_io.specs.Lines.{TextLine}
use Rattle.pmb_recording.specs.Content.{content}
use Rattle.pmb_recording.specs.Recording.{nothing}
use Rattle.pmb_recording.specs.Told.{at_line, comment}
use Rattle.pmb_samples.specs.Lines.{ended, headless, origin}
use Rattle.pmb_samples.specs.Reads.{behind_lines, content_gives, fault_reads, line_gives, lines_reads, quiet, text_gives, unread_gives}
use Rattle.pmb_samples.specs.Reads as reads
use Rattle.pmb_samples.specs.Source as source
use Rattle.pmb_samples.specs.declared.lines.Place.{Place}
use Rattle.pmb_samples.specs.declared.lines.Place.TheVariants as at
use Rattle.pmb_samples.specs.declared.lines.SampleLines.{SampleLines}
use Rattle.pmb_samples.proofs.FedLaw.{fed_all, samples_at}
use Rattle.pmb_wire_packets.specs.Packets.{Outside, Skipping, packets_in, told, told_texts}
use Rattle.pmb_wire_packets.specs.Pieces.{Read, Gives, Fails, items}
use Rattle.pmb_wire_packets.specs.declared.wire_reader.WireReader.{WireReader}
use Rattle.pmb_wire_packets.specs.machine.Wired as wired

-- ---- only faults

abbrev pub AllFail : List Read → Type 0
AllFail [] = Unit {0}
AllFail (Gives m ∷ given) = ⊥
AllFail (Fails line why ∷ given) = AllFail given

fail_then : (a b : List Read) → AllFail a → AllFail b → AllFail (a ++ b)
fail_then [] b first second = second
fail_then (Gives m ∷ a) b first second = absurd first
fail_then (Fails line why ∷ a) b first second = fail_then a b first second

fault_fails : (line : ℕ) (why : Option (List ℕ)) → AllFail (fault_reads line why)
fault_fails line (Some why) = tt
fault_fails line None = tt

-- Where some reads bring the lines to the head, these stood in it before, and only faults were read.
pub record InHead (v : SampleLines) (given : List Read) : Type 0 where
  pub before : v.place ≡ at.Head
  pub fail : AllFail given

abbrev StaysIn : SampleLines → reads.Step → Type 0
StaysIn v step = step.now.place ≡ at.Head → InHead v step.reads

text_in : (place : Place) (v : SampleLines) (text : List ℕ) → v.place ≡ place → StaysIn v (text_gives place v text)
text_in at.Head v text is = λ now.
    let step = source.head_line v text in
    record { before = is; fail = fault_fails step.now.line step.fault }
text_in at.Rows v text is = λ now. cc
text_in at.Over v text is = λ now. record { before = now; fail = tt }

unread_in : (place : Place) (v : SampleLines) → v.place ≡ place → StaysIn v (unread_gives place v)
unread_in at.Head v is = λ now. record { before = is; fail = tt }
unread_in at.Rows v is = λ now. cc
unread_in at.Over v is = λ now. record { before = now; fail = tt }

said_in : (says_nothing : Bool) (v : SampleLines) (text : List ℕ)
    → StaysIn v (if says_nothing then quiet v else text_gives v.place v text)
said_in true v text = λ now. record { before = now; fail = tt }
said_in false v text = text_in v.place v text refl

content_in : (v : SampleLines) (text : Option (List ℕ)) → StaysIn v (content_gives v text)
content_in v (Some text) = λ now.
    let here = said_in (source.says_nothing text) (source.noticed v text) text now in
    record { before = here.before; fail = here.fail }
content_in v None = unread_in v.place v refl

pub lines_in : (v : SampleLines) (lines : List TextLine) → (behind_lines v lines).place ≡ at.Head
    → InHead v (lines_reads v lines)
lines_in v [] now = record { before = now; fail = tt }
lines_in v (line ∷ lines) now =
    let step = line_gives v line in
    let more = lines_in step.now lines now in
    let here = content_in (source.next_line v) (content (v.line == 0) line) more.before in
    record {
      before = here.before;
      fail = fail_then step.reads (lines_reads step.now lines) here.fail more.fail;
    }

-- ---- a reader that was given no moment

abbrev pub quiet_at : ℕ → ℕ → ℕ → ℕ → Bool → WireReader
quiet_at glitch timeout line troubles is_skipping = record (wired.fresh glitch timeout origin) {
  packets = record (wired.fresh glitch timeout origin).packets {
    recording = record nothing { line = line; troubles = troubles; is_skipping = is_skipping };
  };
}

abbrev pub fail_texts : List Read → List ℕ
fail_texts [] = []
fail_texts (Gives m ∷ reads) = fail_texts reads
fail_texts (Fails line why ∷ reads) = at_line line why ++ fail_texts reads

pub fails_text : (glitch timeout line troubles : ℕ) (skips : Bool) (reads : List Read) → AllFail reads
    → (fed_all (quiet_at glitch timeout line troubles skips) reads).text ≡ fail_texts reads
fails_text glitch timeout line troubles skips [] fail = refl
fails_text glitch timeout line troubles skips (Gives m ∷ reads) fail = absurd fail
fails_text glitch timeout line troubles skips (Fails at why ∷ reads) fail =
    ap (λ (t : List ℕ). at_line at why ++ t)
    (fails_text glitch timeout at (capped (troubles + 1)) true reads fail)

-- what is told at the end
pub fails_end : (glitch timeout line troubles : ℕ) (skips : Bool) (v : SampleLines) (reads : List Read) → AllFail reads
    → (ended (headless (samples_at v (fed_all (quiet_at glitch timeout line troubles skips) reads).now)).now).text
    ≡ comment (codes "no packets")
fails_end glitch timeout line troubles skips v [] fail = refl
fails_end glitch timeout line troubles skips v (Gives m ∷ reads) fail = absurd fail
fails_end glitch timeout line troubles skips v (Fails at why ∷ reads) fail =
    fails_end glitch timeout at (capped (troubles + 1)) true v reads fail

-- ---- what the definition tells

skipped_texts : (glitch timeout : ℕ) (reads : List Read) → AllFail reads
    → told_texts origin (told timeout Skipping (items glitch reads)) ≡ fail_texts reads
skipped_texts glitch timeout [] fail = refl
skipped_texts glitch timeout (Gives m ∷ reads) fail = absurd fail
skipped_texts glitch timeout (Fails line why ∷ reads) fail =
    ap (λ (t : List ℕ). at_line line why ++ t) (skipped_texts glitch timeout reads fail)

skipped_count : (glitch timeout : ℕ) (reads : List Read) → AllFail reads
    → packets_in (told timeout Skipping (items glitch reads)) ≡ 0
skipped_count glitch timeout [] fail = refl
skipped_count glitch timeout (Gives m ∷ reads) fail = absurd fail
skipped_count glitch timeout (Fails line why ∷ reads) fail = skipped_count glitch timeout reads fail

pub told_of_fails : (glitch timeout : ℕ) (reads : List Read) → AllFail reads
    → told_texts origin (told timeout Outside (items glitch reads)) ≡ fail_texts reads
told_of_fails glitch timeout [] fail = refl
told_of_fails glitch timeout (Gives m ∷ reads) fail = absurd fail
told_of_fails glitch timeout (Fails line why ∷ reads) fail =
    ap (λ (t : List ℕ). at_line line why ++ t) (skipped_texts glitch timeout reads fail)

pub count_of_fails : (glitch timeout : ℕ) (reads : List Read) → AllFail reads
    → packets_in (told timeout Outside (items glitch reads)) ≡ 0
count_of_fails glitch timeout [] fail = refl
count_of_fails glitch timeout (Gives m ∷ reads) fail = absurd fail
count_of_fails glitch timeout (Fails line why ∷ reads) fail = skipped_count glitch timeout reads fail
