-- The times of what the lines of a VCD give rise between faults.
use Rattle.std.proofs.Common.{◌≡◌, ℕ, ◌*◌, ◌<◌, ◌≤◌, ◌==◌, ◌&&◌, true, false, Bool, Option, Some, None, option_map}
use Rattle.std.proofs.Common.{if◌then◌else◌, List, [], ◌∷◌, ◌++◌, refl, arith, inl, inr, ◌⊎◌, append_assoc, Result, Ok, Err}
use Rattle.std.specs.Prelude.{is_none, length}
use Rattle.std.proofs.Math.Nat.{mul-lt-mul_of_pos_right}
use Rattle.arrayvec.specs.ArrayVec.{ArrayVec}
use Rattle.pmb_io.specs.Lines.{TextLine}
use Rattle.pmb_recording.specs.Content.{content}
use Rattle.pmb_vcd.specs.Body as body
use Rattle.pmb_vcd.specs.Words.{words}
use Rattle.pmb_vcd.specs.declared.body.Body.{Body}
use Rattle.pmb_vcd.specs.declared.body.Why.{Why}
use Rattle.pmb_vcd.specs.declared.body.Why.TheVariants.{MakesNoSense}
use Rattle.pmb_vcd_head.specs.Head as heads
use Rattle.pmb_vcd_head.specs.declared.head.Head.{Head}
use Rattle.pmb_vcd_head.specs.declared.head.Told.{Told}
use Rattle.pmb_vcd_head.specs.declared.head.Told.TheVariants.{Nothing, Signal, End}
use Rattle.pmb_vcd_recording.specs.Reads.{all_reads, behind_content, behind_line, behind_lines, behind_words, content_reads, fault_reads, line_reads}
use Rattle.pmb_vcd_recording.specs.Reads.{lines_reads, moment_reads, step_reads, words_reads}
use Rattle.pmb_vcd_recording.specs.Source as source
use Rattle.pmb_vcd_recording.specs.declared.lines.Place.{Place}
use Rattle.pmb_vcd_recording.specs.declared.lines.Place.TheVariants as at
use Rattle.pmb_vcd_recording.specs.declared.lines.VcdLines.{VcdLines}
use Rattle.pmb_vcd_recording.proofs.BodyRises.{Moves, Stays, Breaks, GoesOn, fails_moves, hear_moves}
use Rattle.pmb_vcd_recording.proofs.HeadUnits.{HasUnit, IsSome, hear_has}
use Rattle.pmb_wire_names.specs.Kept as names
use Rattle.pmb_wire_names.specs.declared.names.Wires.{Wires}
use Rattle.pmb_wire_packets.specs.Pieces.{EachRises, Read, Gives, Fails, RisesBehind, first_piece}
use Rattle.pmb_wires.specs.Changes.{Rises, RisesFrom}
use Rattle.pmb_wires.specs.declared.moment.Moment.{Moment}

-- ---- times from a time on

abbrev Since : ℕ → List Moment → Type 0
Since time [] = Unit {0}
Since time (m ∷ ms) = (time ≤ m.time) × RisesFrom m.time ms

since_earlier : (before time : ℕ) (ms : List Moment) → before ≤ time → Since time ms → Since before ms
since_earlier before time [] less since = tt
since_earlier before time (m ∷ ms) less since =
    let at : time ≤ m.time = since.0 in
    (omega (arith, at), since.1)

since_rises : (time : ℕ) (ms : List Moment) → Since time ms → Rises ms
since_rises time [] since = tt
since_rises time (m ∷ ms) since = since.1

since_behind : (before time : ℕ) (ms : List Moment) → before < time → Since time ms → RisesFrom before ms
since_behind before time [] less since = tt
since_behind before time (m ∷ ms) less since =
    let at : time ≤ m.time = since.0 in
    (omega (arith, at), since.1)

-- so it is of the first piece, and times rise in the others
record AllSince (time : ℕ) (reads : List Read) : Type 0 where
  pub first : Since time (first_piece reads)
  pub behind : RisesBehind reads

all_earlier : (before time : ℕ) (reads : List Read) → before ≤ time → AllSince time reads → AllSince before reads
all_earlier before time reads less all =
    record { first = since_earlier before time (first_piece reads) less all.first; behind = all.behind }

-- a fault in front
behind_fault : (before time line : ℕ) (why : List ℕ) (reads : List Read) → AllSince time reads
    → AllSince before (Fails line why ∷ reads)
behind_fault before time line why reads all =
    record { first = tt; behind = (since_rises time (first_piece reads) all.first, all.behind) }

-- a moment in front
behind_moment : (time : ℕ) (m : Moment) (reads : List Read) → m.time ≡ time → RisesFrom m.time (first_piece reads)
    → RisesBehind reads → AllSince time (Gives m ∷ reads)
behind_moment time m reads is from behind = record { first = (omega (arith, is), from); behind = behind }

-- ---- a word behind the head

abbrev bound : Body → ℕ
bound b = b.number * b.scale

given_by : (b : Body) (is_blank : Bool) → ((if is_blank then None else Some (body.moment_of b)) ≡ None)
    ⊎ ((if is_blank then None else Some (body.moment_of b)) ≡ Some (body.moment_of b))
given_by b true = inl refl
given_by b false = inr refl

given_is : (b : Body) → (body.given b ≡ None) ⊎ (body.given b ≡ Some (body.moment_of b))
given_is b = given_by b (is_none b.scl && is_none b.sda)

-- what a step gives, and then others
abbrev heard_reads : ℕ → Option Moment → Option Why → List Read
heard_reads line moment why = moment_reads moment (fault_reads line (option_map source.why_text why))

broken_rises : (b now : Body) (line : ℕ) (why : Why) (rest : List Read) → AllSince (bound now) rest
    → AllSince (bound b) (heard_reads line (body.given b) (Some why) ++ rest)
broken_rises b now line why rest all = elim (given_is b) [
  | inl none ↦ rw none (behind_fault (bound b) (bound now) line (source.why_text why) rest all)
  | inr some ↦
      let fault = behind_fault 0 (bound now) line (source.why_text why) rest all in
      rw some
      (behind_moment (bound b) (body.moment_of b) (Fails line (source.why_text why) ∷ rest) refl tt fault.behind)
]

later_rises : (b now : Body) (line : ℕ) (rest : List Read) → bound b < bound now → AllSince (bound now) rest
    → AllSince (bound b) (heard_reads line (body.given b) None ++ rest)
later_rises b now line rest less all = elim (given_is b) [
  | inl none ↦ rw none (all_earlier (bound b) (bound now) rest (omega arith) all)
  | inr some ↦
      rw some
      (behind_moment (bound b) (body.moment_of b) rest refl
      (since_behind (bound b) (bound now) (first_piece rest) less all.first) all.behind)
]

bound_same : (b now : Body) → now.number ≡ b.number → now.scale ≡ b.scale → bound now ≡ bound b
bound_same b now number scale = rw (number, scale) refl

bound_more : (b now : Body) → b.number < now.number → now.scale ≡ b.scale → 0 < b.scale → bound b < bound now
bound_more b now number scale some = rw scale (mul-lt-mul_of_pos_right number some)

moves_rise : (b : Body) (s : body.Step) (line : ℕ) (rest : List Read) → Moves b s → 0 < b.scale
    → AllSince (bound s.now) rest → AllSince (bound b) (heard_reads line s.heard.moment s.heard.fault ++ rest)
moves_rise b s line rest (Stays heard number scale) some all =
    rw heard (all_earlier (bound b) (bound s.now) rest (omega (arith, bound_same b s.now number scale)) all)
moves_rise b s line rest (Breaks why heard scale) some all = rw heard (broken_rises b s.now line why rest all)
moves_rise b s line rest (GoesOn heard number scale) some all =
    rw heard (later_rises b s.now line rest (bound_more b s.now number scale some) all)

moves_scale : (b : Body) (s : body.Step) → Moves b s → 0 < b.scale → 0 < s.now.scale
moves_scale b s (Stays heard number scale) some = rw scale some
moves_scale b s (Breaks why heard scale) some = rw scale some
moves_scale b s (GoesOn heard number scale) some = rw scale some

-- ---- where the lines stand

-- no moment in front of this time comes any more
abbrev from_at : Place → Body → ℕ
from_at at.Head b = 0
from_at at.Body b = bound b
from_at at.Over b = 0

abbrev from : VcdLines → ℕ
from v = from_at v.place v.body

abbrev WellAt : Place → Head → Body → Type 0
WellAt at.Head h b = HasUnit h
WellAt at.Body h b = 0 < b.scale
WellAt at.Over h b = Unit {0}

abbrev Well : VcdLines → Type 0
Well v = WellAt v.place v.head v.body

-- A step, behind which some reads rise, rises with them.
record Rising (v : VcdLines) (s : source.Step) : Type 0 where
  pub well : Well s.now
  pub rises : (rest : List Read) → AllSince (from s.now) rest → AllSince (from v) (step_reads s ++ rest)

-- ---- the head

fault_rises : (line before time : ℕ) (why : Option (List ℕ)) (rest : List Read) → before ≤ time → AllSince time rest
    → AllSince before (fault_reads line why ++ rest)
fault_rises line before time (Some why) rest less all = behind_fault before time line why rest all
fault_rises line before time None rest less all = all_earlier before time rest less all

-- what a head gives rises from 0 on
head_rises : (v : VcdLines) (s : source.HeadStep) → v.place ≡ at.Head → Well s.now → Rising v (source.head_gives s)
head_rises v s in_head well = record {
  well = well;
  rises = λ rest all. rw in_head (fault_rises s.now.line 0 (from s.now) s.fault rest (omega arith) all);
}

begun_well : (v : VcdLines) (scale : ℕ) (chosen : Result Wires (ArrayVec ℕ)) → 0 < scale
    → Well (source.begun_with v scale chosen).now
begun_well v scale (Ok wires) some = some
begun_well v scale (Err why) some = tt

begun_of_well : (none : Bool) (v : VcdLines) (scale : ℕ) → 0 < scale
    → Well (if none then source.over v source.no_signal else source.begun v scale).now
begun_of_well true v scale some = tt
begun_of_well false v scale some = begun_well v scale (names.choose v.names) some

ended_well : (v : VcdLines) (scale : Option ℕ) → IsSome scale → Well (source.head_ended v scale).now
ended_well v (Some scale) some = begun_of_well (length v.names.all.items == 0) v scale some
ended_well v None some = tt

told_well : (v : VcdLines) (told : Told) → v.place ≡ at.Head → HasUnit v.head → Well (source.head_told v told).now
told_well v Nothing in_head has = rw in_head has
told_well v Signal in_head has = rw in_head has
told_well v End in_head has = ended_well v v.head.scale has

head_word_rises : (v : VcdLines) (word : List ℕ) → v.place ≡ at.Head → HasUnit v.head
    → Rising v (source.head_gives (source.head_word v word))
head_word_rises v word in_head has =
    let h = heads.hear v.head word in
    head_rises v (source.head_word v word) in_head
    (told_well (record v { head = h.now }) h.told in_head (hear_has v.head word has))

-- ---- behind it

body_rises : (v : VcdLines) (s : body.Step) → v.place ≡ at.Body → 0 < v.body.scale → Moves v.body s
    → Rising v (source.body_gives v s)
body_rises v s in_body some moves = record {
  well = rw in_body (moves_scale v.body s moves some);
  rises = rw in_body (λ rest all. moves_rise v.body s v.line rest moves some all);
}

-- ---- any word, and a line that can't be read

quiet_rises : (v : VcdLines) → Well v → Rising v (source.quiet v)
quiet_rises v well = record { well = well; rises = λ rest all. all }

word_at : (place : Place) (v : VcdLines) (word : List ℕ) → v.place ≡ place → WellAt place v.head v.body
    → Rising v (source.word_at place v word)
word_at at.Head v word is well = head_word_rises v word is well
word_at at.Body v word is well = body_rises v (body.hear v.body v.line word) is well (hear_moves v.body v.line word)
word_at at.Over v word is well = quiet_rises v (rw is tt)

word_rises : (v : VcdLines) (word : List ℕ) → Well v → Rising v (source.take_word v word)
word_rises v word well = word_at v.place v word refl well

unread_at : (place : Place) (v : VcdLines) → v.place ≡ place → WellAt place v.head v.body → Rising v (source.unread_at place v)
unread_at at.Head v is well =
    head_rises v (record { now = v; fault = Some (source.why_text MakesNoSense) }) is (rw is well)
unread_at at.Body v is well = body_rises v (body.fails v.body MakesNoSense) is well (fails_moves v.body MakesNoSense)
unread_at at.Over v is well = quiet_rises v (rw is tt)

-- ---- lines

-- some reads that bring the lines from one place to another
record Leads (v now : VcdLines) (reads : List Read) : Type 0 where
  pub well : Well now
  pub rises : (rest : List Read) → AllSince (from now) rest → AllSince (from v) (reads ++ rest)

leads_on : (v mid now : VcdLines) (a b : List Read) → Leads v mid a → Leads mid now b → Leads v now (a ++ b)
leads_on v mid now a b first second = record {
  well = second.well;
  rises = λ rest all. rw (append_assoc a b rest) (first.rises (b ++ rest) (second.rises rest all));
}

step_leads : (v : VcdLines) (s : source.Step) → Rising v s → Leads v s.now (step_reads s)
step_leads v s rising = record { well = rising.well; rises = rising.rises }

stays : (v : VcdLines) → Well v → Leads v v []
stays v well = record { well = well; rises = λ rest all. all }

others_lead : (b : Bool) (v : VcdLines) (others : List (List ℕ)) → Well v
    → Leads v (behind_words v others) (words_reads v others)
    → Leads v (if b then behind_words v others else v) (if b then words_reads v others else [])
others_lead true v others well leads = leads
others_lead false v others well leads = stays v well

words_lead : (v : VcdLines) (ws : List (List ℕ)) → Well v → Leads v (behind_words v ws) (words_reads v ws)
words_lead v [] well = stays v well
words_lead v (word ∷ others) well =
    let s = source.take_word v word in
    let first = word_rises v word well in
    leads_on v s.now (if s.reads_on then behind_words s.now others else s.now) (step_reads s)
    (if s.reads_on then words_reads s.now others else []) (step_leads v s first)
    (others_lead s.reads_on s.now others first.well (words_lead s.now others first.well))

content_leads : (v : VcdLines) (text : Option (List ℕ)) → Well v → Leads v (behind_content v text) (content_reads v text)
content_leads v (Some text) well = words_lead v (words text) well
content_leads v None well = step_leads v (source.unread v) (unread_at v.place v refl well)

lines_lead : (v : VcdLines) (lines : List TextLine) → Well v → Leads v (behind_lines v lines) (lines_reads v lines)
lines_lead v [] well = stays v well
lines_lead v (line ∷ lines) well =
    let first = content_leads (source.next_line v) (content (v.line == 0) line) well in
    leads_on v (behind_line v line) (behind_lines (behind_line v line) lines) (line_reads v line)
    (lines_reads (behind_line v line) lines) (record { well = first.well; rises = first.rises })
    (lines_lead (behind_line v line) lines first.well)

-- ---- the end

none_since : (time : ℕ) → AllSince time []
none_since time = record { first = tt; behind = tt }

end_since : (place : Place) (v : VcdLines) → AllSince (from_at place v.body) (step_reads (source.end_at place v))
end_since at.Head v = none_since 0
end_since at.Body v = elim (given_is v.body) [
  | inl none ↦ rw none (none_since (bound v.body))
  | inr some ↦ rw some (behind_moment (bound v.body) (body.moment_of v.body) [] refl tt tt)
]
end_since at.Over v = none_since 0

pub all_rise : (v : VcdLines) (lines : List TextLine) → Well v → EachRises (all_reads v lines)
all_rise v lines well =
    let leads = lines_lead v lines well in
    let now = behind_lines v lines in
    let all = leads.rises (step_reads (source.take_end now)) (end_since now.place now) in
    (since_rises (from v) (first_piece (all_reads v lines)) all.first, all.behind)
