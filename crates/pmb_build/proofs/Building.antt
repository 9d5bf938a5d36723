-- Lines that are built one after the other: the answers so far, the text they have, and the counts.
-- For `BuilderLineTask::take_line`. One line more adds one answer, its text and one to a count that
-- stays at the greatest u64.
use Rattle.std.proofs.Common.{◌≡◌, ℕ, ◌+◌, Bool, cond, List, [], ◌∷◌, ◌++◌, length, sym, ◌∙◌, ap, subst, arith}
use Rattle.std.proofs.Common.{count_by, length-append}
use Rattle.std.proofs.lemmas.List.Sums.{fold-append}
use Rattle.std.specs.Borrow.{Bor}
use Rattle.std.specs.Prelude.{Option}
use Rattle.pmb_io.specs.Answers.{answers_after-push}
use Rattle.pmb_io.specs.Count.{capped}
use Rattle.pmb_io.specs.Engines.{PutsOut}
use Rattle.pmb_io.specs.Lines.{TextLine}
use Rattle.pmb_io.specs.Tally.{IsTallyOf}
use Rattle.pmb_io.specs.declared.tally.Tally.{Tally}
use Rattle.pmb_command.specs.Parts.{DeviceParts}
use Rattle.pmb_build.specs.Answer.{BuildAnswer, BuildsLine, BuildsText, Built, Refused, Nothing, answer_text, is_built}
use Rattle.pmb_build.specs.Answer.{is_refused}
use Rattle.pmb_build.specs.Lines.{BuildsEach}
use Rattle.pmb_build.specs.declared.builder.Builder.{Builder}
use Rattle.pmb_build.specs.machine.Building.{BuilderStands, BuilderTakes, counted_in}

-- the answers to lines and then to others
answers-append : (profile : List DeviceParts) (given others : List TextLine) (answers more : List BuildAnswer)
    → BuildsEach profile given answers → BuildsEach profile others more
    → BuildsEach profile (given ++ others) (answers ++ more)
answers-append profile [] others [] more each next = next
answers-append profile [] others (answer ∷ answers) more each next = absurd each
answers-append profile (line ∷ given) others [] more each next = absurd each
answers-append profile (line ∷ given) others (answer ∷ answers) more each next =
    (each.0, answers-append profile given others answers more each.1 next)

-- one answer more is counted
one_more : (p : BuildAnswer → Bool) (answers : List BuildAnswer) (answer : BuildAnswer)
    → count_by p (answers ++ answer ∷ []) ≡ count_by p answers + cond (p answer) 1 0
one_more p answers answer = fold-append (λ (n : ℕ) (a : BuildAnswer). n + cond (p a) 1 0) 0 answers (answer ∷ [])

counts_more : (tally : Tally) (answers : List BuildAnswer) (answer : BuildAnswer)
    → IsTallyOf (count_by is_built answers) (count_by is_refused answers) tally
    → IsTallyOf (count_by is_built (answers ++ answer ∷ [])) (count_by is_refused (answers ++ answer ∷ []))
    (counted_in answer tally)
counts_more tally answers (Built events) counts =
    let packets = one_more is_built answers (Built events) in
    let refusals = one_more is_refused answers (Built events) in record {
      packets_counted = omega (arith, packets, counts.packets_counted);
      refusals_counted = omega (arith, refusals, counts.refusals_counted);
    }
counts_more tally answers (Refused why) counts =
    let packets = one_more is_built answers (Refused why) in
    let refusals = one_more is_refused answers (Refused why) in record {
      packets_counted = omega (arith, packets, counts.packets_counted);
      refusals_counted = omega (arith, refusals, counts.refusals_counted);
    }
counts_more tally answers Nothing counts =
    let packets = one_more is_built answers Nothing in
    let refusals = one_more is_refused answers Nothing in record {
      packets_counted = omega (arith, packets, counts.packets_counted);
      refusals_counted = omega (arith, refusals, counts.refusals_counted);
    }

-- a line more
pub answers_more : (start before after : Builder) (given : List TextLine) (text : List ℕ) (line : TextLine)
    (answer : BuildAnswer) (number : ℕ)
    → number ≡ capped (before.lines + 1) → after.profile.now ≡ before.profile.now → after.lines ≡ number
    → after.tally ≡ counted_in answer before.tally
    → BuildsLine before.profile.now line answer → BuilderStands start before given text
    → BuilderStands start after (given ++ line ∷ []) (text ++ answer_text number answer)
answers_more start before after given text line answer number number_is same lines_are tally_is answered stands =
    let was = stands.answered.given in
    let numbered : number ≡ capped (length was.answers + 1) = omega (arith, number_is, stands.number) in
    let one = subst (λ (p : List DeviceParts). BuildsLine p line answer) stands.same answered in record {
      same = same ∙ stands.same;
      answered = record {
        given = record {
          answers = was.answers ++ answer ∷ [];
          each = answers-append start.profile.now given (line ∷ []) was.answers (answer ∷ []) was.each (one, tt);
          whole = (λ i. was.whole i ++ answer_text (numbered i) answer)
              ∙ sym (answers_after-push answer_text was.answers answer);
        };
        counts = subst (λ (t : Tally). IsTallyOf (count_by is_built (was.answers ++ answer ∷ []))
            (count_by is_refused (was.answers ++ answer ∷ [])) t) (sym tally_is)
            (counts_more before.tally was.answers answer stands.answered.counts);
      };
      number = lines_are ∙ (numbered ∙ ap (λ (n : ℕ). capped n) (sym (length-append was.answers (answer ∷ []))));
    }

-- what was put out for a line that was counted
pub puts_more : (start before counting after : Builder) (given : List TextLine) (text : List ℕ) (line : TextLine)
    (said : List ℕ) (held_old : Option (List ℕ)) (waiting_old : List ℕ) (held_new : Option (List ℕ))
    (waiting_new : List ℕ)
    → counting.profile ≡ before.profile → counting.lines ≡ capped (before.lines + 1) → counting.tally ≡ before.tally
    → ((answer : BuildAnswer) → BuildsText before.profile.now said answer → BuildsLine before.profile.now line answer)
    → BuilderStands start before given text → BuilderTakes counting after said held_old waiting_old held_new waiting_new
    → PutsOut (λ more. BuilderStands start after (given ++ line ∷ []) (text ++ more)) held_old waiting_old held_new
    waiting_new
puts_more start before counting after given text line said held_old waiting_old held_new waiting_new same lines_are
    tally_is says stands takes =
    let profile_is = ap (λ (p : Bor (List DeviceParts)). p.now) same in record {
      text = answer_text counting.lines takes.answer;
      writes = takes.writes;
      holds = answers_more start before after given text line takes.answer counting.lines lines_are
          (ap (λ (p : Bor (List DeviceParts)). p.now) takes.same ∙ profile_is) takes.lines
          (takes.tally ∙ ap (counted_in takes.answer) tally_is)
          (says takes.answer (subst (λ (p : List DeviceParts). BuildsText p said takes.answer) profile_is
          takes.answers)) stands;
    }
