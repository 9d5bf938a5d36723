-- The lines of a text that goes on begin with those that had ended: the law `ended_lines_stay`.
-- More bytes make the line under way longer or end it, and leave those before it.
use Rattle.std.proofs.Common.{◌≡◌, ℕ, true, false, cond, eqb, List, [], ◌∷◌, ◌++◌, map, refl, ◌∙◌, ap, append_assoc}
use Rattle.std.proofs.lemmas.List.{map-append}
use Rattle.pmb_io.specs.Lines.{LinesGoOn, cut, ended_line, ended_lines, last_lines, line_feed, lines_of, longer}

-- the lines of a cut begin with some
abbrev CutsGoOn : List (List ℕ) → List (List ℕ) → Type 0
CutsGoOn front all = (others : List (List ℕ)) × (all ≡ front ++ others)

longer_goes_on : (byte : ℕ) (front others all : List (List ℕ)) (rest more : List ℕ) → all ≡ front ++ others
    → CutsGoOn (longer byte front rest).ended (longer byte all more).ended
longer_goes_on byte [] others all rest more is = ((longer byte all more).ended, refl)
longer_goes_on byte (line ∷ front) others all rest more is = (others, ap (λ ls. (longer byte ls more).ended) is)

cut_goes_on : (bytes more : List ℕ) → CutsGoOn (cut bytes).ended (cut (bytes ++ more)).ended
unfolding cut
cut_goes_on [] more = ((cut more).ended, refl)
cut_goes_on (byte ∷ bytes) more =
    let on = cut_goes_on bytes more in
    elim (eqb byte line_feed) as (λ v. CutsGoOn
    (cond v (record { ended = [] ∷ (cut bytes).ended; rest = (cut bytes).rest })
    (longer byte (cut bytes).ended (cut bytes).rest)).ended
    (cond v (record { ended = [] ∷ (cut (bytes ++ more)).ended; rest = (cut (bytes ++ more)).rest })
    (longer byte (cut (bytes ++ more)).ended (cut (bytes ++ more)).rest)).ended) [
      | true ↦ (on.0, ap (λ ls. [] ∷ ls) on.1)
      | false ↦ longer_goes_on byte (cut bytes).ended on.0 (cut (bytes ++ more)).ended (cut bytes).rest
          (cut (bytes ++ more)).rest on.1
    ]

-- those that have ended in some bytes stand first in these bytes and whatever follows
pub ended_lines_go_on : (most : ℕ) (bytes more : List ℕ)
    → LinesGoOn (ended_lines most bytes) (lines_of most (bytes ++ more))
ended_lines_go_on most bytes more =
    let on = cut_goes_on bytes more in
    let last = last_lines most (cut (bytes ++ more)).rest in (
      map (ended_line most) on.0 ++ last,
      ap (λ ls. map (ended_line most) ls ++ last) on.1
          ∙ ap (λ ls. ls ++ last) (map-append (ended_line most) (cut bytes).ended on.0)
          ∙ append_assoc (ended_lines most bytes) (map (ended_line most) on.0) last,
    )
