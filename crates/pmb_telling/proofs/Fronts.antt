-- What an engine has written so far, and where it wants more. For `TellerEngine::end` and the law
-- `fronts_are_written`. Each has a case for each state of the engine: in words, in a bad word, in
-- the rest of its line.
use Rattle.std.proofs.Common.{◌≡◌, ◌⊎◌, ℕ, inl, inr, List, [], ◌++◌, length, refl, sym, ap, subst, ◌∙◌, append-nil}
use Rattle.pmb_bus.specs.Text.{BeginsText, FirstBadWord}
use Rattle.pmb_command.specs.Parts.{DeviceParts}
use Rattle.pmb_scan.specs.declared.after_bad_token.AfterBadToken.{AfterBadToken}
use Rattle.pmb_scan.specs.declared.after_bad_token.AfterBadToken.TheVariants.{End, Continue}
use Rattle.pmb_telling.specs.declared.engine.EngineState.{EngineState}
use Rattle.pmb_telling.specs.declared.engine.EngineState.TheVariants.{BadLine as InLine, BadWord, Words}
use Rattle.pmb_telling.specs.declared.engine.Teller.{Teller}
use Rattle.pmb_telling.specs.Tell.{EndsInShortBadWord, IsOpenCapture}
use Rattle.pmb_telling.specs.SoFar.{HasTold}
use Rattle.pmb_telling.specs.Text.{BadLine, IsBadLine, bad_line_facts, front_facts}
use Rattle.pmb_telling.specs.machine.Standing.{IsBadSoFar, StandsIn, teller_bad_words, teller_choice, teller_profile}
use Rattle.pmb_telling.specs.machine.Standing.{longer_line}
use Rattle.pmb_telling.proofs.Leading.{bad_line_is, has_bad_line, has_written}
use Rattle.pmb_telling.proofs.OpenOthers.{HasEnds}
use Rattle.pmb_telling.proofs.Reading.{MovesSpans, reads_so_far, under}
use Rattle.pmb_telling.proofs.Words.{solid_no_lf}
use Rattle.pmb_io.specs.Lines.{HasNoLf}
use Rattle.pmb_facts.specs.Fact.{FactData}
use Rattle.pmb_keeper.specs.Setting.{Setting}
use Rattle.pmb_fact_stream.specs.Lines.{fact_lines}
use Rattle.pmb_scan.specs.Reached.{Reached}
use Rattle.pmb_scan.specs.Scan.{HasRead}
use Rattle.pmb_fact_stream.specs.Before.{Before}
use Rattle.pmb_fact_stream.specs.Choice.{ChoiceData}

-- no bytes more
pub same_line : (bad : BadLine) → longer_line bad [] ≡ bad
same_line bad = ap (λ (l : List ℕ). record bad { line = l }) (append-nil bad.line)

-- a bad line so far is one where nothing follows
pub bad_line_now : (choice : ChoiceData) (profile : List DeviceParts) (b : Before) (bad : BadLine)
    → IsBadSoFar choice profile b bad [] → HasNoLf bad.line → IsBadLine choice.ignored profile b (longer_line bad [])
bad_line_now choice profile b bad so_far in_line =
    bad_line_is choice profile b bad [] [] [] [] so_far refl in_line tt tt

pub so_far_in : {K : Type 0} (Keeps : K → Setting → List FactData → Type 0) (inside : EngineState)
    (start now : Teller K) (bytes text : List ℕ) → MovesSpans
    → ((reached : Reached) → reached.profile ≡ teller_profile start → HasRead now.scan reached
    → HasEnds (teller_choice start).ignored reached)
    → StandsIn Keeps inside start now bytes text → HasTold (teller_choice start) (teller_profile start)
    (teller_bad_words start) bytes text
-- in words: the spans that have ended
so_far_in Keeps Words start now bytes text move ends stands =
    let behind = stands.behind in
    let words = behind.holds in
    let told = words.told.told behind.b words.begins in
    let same = under Keeps (teller_choice start) (teller_profile start) behind.keeper behind.b now.scan now.kept
    behind.used behind.put words words.reached behind.put now.kept told in
    let end = ends words.reached same words.scans.reader in
    let reads = reads_so_far Keeps (teller_choice start) (teller_profile start) behind.keeper behind.b now.scan now.kept
    behind.used behind.put words end.last move end.tells end.ends in
    has_written (teller_choice start) (teller_profile start) Keeps (teller_bad_words start) _ _ bytes text behind []
    reads.0
    reads.1
    reads.2
-- in a bad word: the facts before it
so_far_in Keeps BadWord start now bytes text move ends stands =
    let choice = teller_choice start in
    let behind = stands.behind in
    let has = behind.holds.word in
    let is_bad = subst (λ (l : BadLine). IsBadLine choice.ignored (teller_profile start) behind.b l) (same_line has.bad)
    (bad_line_now choice (teller_profile start) behind.b has.bad has.so_far (solid_no_lf has.bad.line has.under_way)) in
    has_bad_line choice (teller_profile start) Keeps (teller_bad_words start) _ _ bytes text behind has.bad
    (front_facts choice.ignored (teller_profile start) behind.b has.bad) has.is_text is_bad (λ none. has.so_far.word)
    (inl ((refl, has.under_way, behind.holds.short refl), refl))
    ((has.told []).lines ∙ ap (λ (l : BadLine). fact_lines choice (teller_profile start)
    (front_facts choice.ignored (teller_profile start) behind.b l)) (same_line has.bad))
-- in the rest of its line: its facts too
so_far_in Keeps InLine start now bytes text move ends stands =
    let choice = teller_choice start in
    let behind = stands.1.behind in
    let has = behind.holds in
    let is_bad = subst (λ (l : BadLine). IsBadLine choice.ignored (teller_profile start) behind.b l) (same_line has.bad)
    (bad_line_now choice (teller_profile start) behind.b has.bad has.so_far has.in_line) in
    has_bad_line choice (teller_profile start) Keeps (teller_bad_words start) _ _ bytes text behind has.bad
    (bad_line_facts choice.ignored (teller_profile start) behind.b has.bad) has.is_text is_bad (λ none. has.so_far.word)
    (inr (λ under_way. has.over has.bad.line [] (sym (append-nil has.bad.line)) under_way.1 under_way.2, refl))
    ((has.told [] [] [] refl tt).lines ∙ ap (λ (l : BadLine). fact_lines choice (teller_profile start)
    (bad_line_facts choice.ignored (teller_profile start) behind.b l)) (same_line has.bad))

-- ---- where more is wanted

is_open : (after : AfterBadToken) (bytes : List ℕ) → (after ≡ End → BeginsText bytes ⊎ EndsInShortBadWord bytes)
    → IsOpenCapture after bytes
is_open End bytes opens = opens refl
is_open Continue bytes opens = tt

-- where reading ends at bad words all bytes stand after the first
from_first : (after : AfterBadToken) (read used bytes : List ℕ) → after ≡ End → (read ≡ []) ⊎ (after ≡ Continue)
    → bytes ≡ read ++ used → bytes ≡ used
from_first after read used bytes ends (inl none) is = is ∙ ap (λ (l : List ℕ). l ++ used) none
from_first after read used bytes ends (inr goes) is =
    let differ : End ≡ Continue = sym ends ∙ goes in absurd (cc differ)

pub opens_in : {K : Type 0} (Keeps : K → Setting → List FactData → Type 0) (inside : EngineState) (start now : Teller K)
    (bytes text : List ℕ) → StandsIn Keeps inside start now bytes text
    → IsOpenCapture (teller_bad_words start) bytes
-- in words: they begin a text of events
opens_in Keeps Words start now bytes text stands =
    let behind = stands.behind in
    let words = behind.holds in
    is_open (teller_bad_words start) bytes (λ ends.
    inl (subst (λ (l : List ℕ). BeginsText l)
    (words.is_text ∙ sym (from_first (teller_bad_words start) behind.b.read behind.used bytes ends behind.first
    behind.bytes_are)) words.scans.lexer.begins))
-- in a bad word: fewer than 32 of its bytes came
opens_in Keeps BadWord start now bytes text stands =
    let behind = stands.behind in
    let has = behind.holds.word in
    let bad = has.bad in
    is_open (teller_bad_words start) bytes (λ ends.
    let split : bytes ≡ bad.front ++ bad.line =
    from_first (teller_bad_words start) behind.b.read behind.used bytes ends behind.first behind.bytes_are
    ∙ has.is_text in
    inr (record {
      front = bad.front;
      word = bad.line;
      events = bad.events;
      split = split;
      bad = subst (λ (l : List ℕ). FirstBadWord l bad.events (length bad.front))
          (ap (λ (l : List ℕ). bad.front ++ l) (append-nil bad.line) ∙ sym split) (has.so_far.word []);
      under_way = has.under_way;
      short = behind.holds.short refl;
    }))
-- in the rest of a line only where reading goes on, so this isn't asked
opens_in Keeps InLine start now bytes text stands = is_open (teller_bad_words start) bytes
    (λ ends. let differ : End ≡ Continue = sym ends ∙ stands.0 in absurd (cc differ))
