-- Lines that are handed on as their bytes come: for `Lines::new`, `take_ended` and
-- `LinesEngine::take`. What stands between calls (`StandsInLine`) is the front of the line under
-- way and whether it is longer; bytes without an LF make it longer, and an LF hands it on.
use Rattle.std.proofs.Common.{◌≡◌, ℕ, Bool, false, nat_lt, List, [], ◌∷◌, ◌++◌, length, map, take, refl, sym, ◌∙◌, ap}
use Rattle.std.proofs.Common.{subst, append_assoc, arith}
use Rattle.std.proofs.Math.Seq.{take-nil}
use Rattle.std.proofs.lemmas.Bool.Decides.{nat_tests}
use Rattle.std.proofs.lemmas.List.{length-take, map-append}
use Rattle.pmb_io.specs.Lines.{Cut, HasNoLf, TextLine, cut, ended_line, ended_lines, line_feed}
use Rattle.pmb_io.specs.machine.Lines.{StandsInLine, ended_kept}
use Rattle.pmb_io.proofs.LineLemmas.{cut-with_bytes, cut-with_lf, ended_kept_is}

none_longer : (most : ℕ) → nat_lt most 0 ≡ false
none_longer most = grind (arith, nat_tests)

-- of the line under way nothing came yet
nothing_came : (most : ℕ) (rest : List ℕ) → [] ≡ take most rest → false ≡ nat_lt most (length rest) → rest ≡ []
nothing_came most [] kept short = refl
nothing_came most (byte ∷ rest) kept short =
    absurd (grind (arith, nat_tests, ap length kept, length-take most (byte ∷ rest), short))

module _ (Given : List TextLine → List ℕ → Type 0) (most : ℕ) where
  -- nothing was given yet
  pub stands_fresh : (line : List ℕ) → line ≡ [] → Given [] [] → StandsInLine Given most line false [] []
  unfolding cut
  stands_fresh line none given = record {
    kept = none ∙ sym (take-nil most);
    longer = sym (none_longer most);
    given =
        given;
  }

  -- bytes without an LF belong to the line under way
  pub keeps_bytes : (bytes text line : List ℕ) (is_longer : Bool) (more : List ℕ) → HasNoLf more
      → line ≡ take most ((cut bytes).rest ++ more) → is_longer ≡ nat_lt most (length ((cut bytes).rest ++ more))
      → Given (ended_lines most bytes) text → StandsInLine Given most line is_longer (bytes ++ more) text
  keeps_bytes bytes text line is_longer more none kept longer given =
      let cut_is = cut-with_bytes bytes more none in record {
        kept = kept ∙ sym (ap (λ (c : Cut). take most c.rest) cut_is);
        longer = longer ∙ sym (ap (λ (c : Cut). nat_lt most (length c.rest)) cut_is);
        given = subst (λ (c : Cut). Given (map (ended_line most) c.ended) text) (sym cut_is) given;
      }

  -- the lines that an LF more ends
  pub ended_by_lf : (bytes line : List ℕ) (is_longer : Bool) → line ≡ take most (cut bytes).rest
      → is_longer ≡ nat_lt most (length (cut bytes).rest)
      → ended_lines most (bytes ++ line_feed ∷ []) ≡ ended_lines most bytes ++ ended_kept line is_longer ∷ []
  ended_by_lf bytes line is_longer kept longer =
      let line_is : ended_kept line is_longer ≡ ended_line most (cut bytes).rest =
      ap (λ (l : List ℕ). ended_kept l is_longer) kept
      ∙ (ap (ended_kept (take most (cut bytes).rest)) longer ∙ ended_kept_is most (cut bytes).rest) in
      ap (λ (c : Cut). map (ended_line most) c.ended) (cut-with_lf bytes)
      ∙ (map-append (ended_line most) (cut bytes).ended ((cut bytes).rest ∷ [])
      ∙ ap (λ (l : TextLine). ended_lines most bytes ++ l ∷ []) (sym line_is))

  -- after it nothing is kept
  pub after_lf : (bytes text line after : List ℕ) (is_longer : Bool) (byte : ℕ) → byte ≡ line_feed
      → line ≡ take most (cut bytes).rest → is_longer ≡ nat_lt most (length (cut bytes).rest)
      → after ≡ [] → Given (ended_lines most bytes ++ ended_kept line is_longer ∷ []) text
      → StandsInLine Given most after false (bytes ++ byte ∷ []) text
  after_lf bytes text line after is_longer byte lf kept longer none given =
      let cut_is = ap (λ b. cut (bytes ++ b ∷ [])) lf ∙ cut-with_lf bytes in record {
        kept = none ∙ (sym (take-nil most) ∙ sym (ap (λ (c : Cut). take most c.rest) cut_is));
        longer = sym (ap (λ (c : Cut). nat_lt most (length c.rest)) cut_is ∙ none_longer most);
        given = subst (λ (b : ℕ). Given (ended_lines most (bytes ++ b ∷ [])) text) (sym lf)
            (subst (λ (lines : List TextLine). Given lines text) (sym (ended_by_lf bytes line is_longer kept longer))
            given);
      }

  -- a line that came whole before an LF
  pub after_whole : (bytes text line more : List ℕ) (is_longer : Bool) → HasNoLf more → line ≡ [] → is_longer ≡ false
      → line ≡ take most (cut bytes).rest → is_longer ≡ nat_lt most (length (cut bytes).rest)
      → Given (ended_lines most bytes ++ ended_line most more ∷ []) text
      → StandsInLine Given most line is_longer (bytes ++ (more ++ line_feed ∷ [])) text
  after_whole bytes text line more is_longer no_lf none short kept longer given =
      let rest_none = nothing_came most (cut bytes).rest (sym none ∙ kept) (sym short ∙ longer) in
      let front_is : cut (bytes ++ more) ≡ record { ended = (cut bytes).ended; rest = more } =
      cut-with_bytes bytes more no_lf ∙ ap (λ (rest : List ℕ). record {
        ended = (cut bytes).ended;
        rest = rest
            ++ more;
      }) rest_none in
      let cut_is : cut (bytes ++ (more ++ line_feed ∷ []))
      ≡ record { ended = (cut bytes).ended ++ more ∷ []; rest = [] } =
      ap cut (sym (append_assoc bytes more (line_feed ∷ [])))
      ∙ (cut-with_lf (bytes ++ more) ∙ ap (λ (c : Cut). record { ended = c.ended ++ c.rest ∷ []; rest = [] })
      front_is) in record {
        kept = none ∙ (sym (take-nil most) ∙ sym (ap (λ (c : Cut). take most c.rest) cut_is));
        longer = short ∙ (sym (none_longer most) ∙ sym (ap (λ (c : Cut). nat_lt most (length c.rest)) cut_is));
        given = subst (λ (lines : List TextLine). Given lines text)
            (sym (ap (λ (c : Cut). map (ended_line most) c.ended) cut_is
            ∙ map-append (ended_line most) (cut bytes).ended (more ∷ []))) given;
      }
