-- The word under way at the end of a text, where other bytes stand before it that end between
-- words. For the law `bad_words_stand_there`: after what was read, a bad word is found as in the
-- text alone. Whether a comment is open is told by the bytes from left to right, and where a text
-- ends between words none is.
use Rattle.std.proofs.Common.{◌≡◌, ℕ, Bool, true, false, inl, inr, List, [], ◌∷◌, ◌++◌, refl, sym, ap, subst, ◌∙◌}
use Rattle.std.proofs.Common.{append_assoc, append-nil}
use Rattle.std.proofs.lemmas.Bool.{cases_Bool}
use Rattle.pmb_bus.specs.Text.{EndsBetween, ends_in_comment, ends_in_comment_from, in_comment, is_separator, is_word}
use Rattle.pmb_bus.specs.Text.{open_word}

comment_append : (before : Bool) (front back : List ℕ) → ends_in_comment_from before (front ++ back)
    ≡ ends_in_comment_from (ends_in_comment_from before front) back
comment_append before [] back = refl
comment_append before (b ∷ front) back = comment_append (in_comment before b) front back

comment_behind : (read text : List ℕ) → EndsBetween read → ends_in_comment (read ++ text) ≡ ends_in_comment text
comment_behind read text between = comment_append false read text
    ∙ ap (λ (v : Bool). ends_in_comment_from v text) between.1

no_word : (word : List ℕ) → is_word word ≡ false → word ≡ []
no_word [] is = refl
no_word (b ∷ word) is = absurd (cc is)

-- a text ends with its word under way, as it is where it has one
pub ends_with_word : (text : List ℕ) → (is_word (open_word text) ≡ true
    → (front : List ℕ) × (text ≡ front ++ open_word text)) → (front : List ℕ) × (text ≡ front ++ open_word text)
ends_with_word text found =
    elim (cases_Bool (is_word (open_word text))) [
      | inl some ↦ found some
      | inr none ↦ (text, sym (ap (λ (word : List ℕ). text ++ word) (no_word (open_word text) none) ∙ append-nil text))
    ]

module _ (longer : (text : List ℕ) (b : ℕ) → in_comment (ends_in_comment text) b ≡ false → is_separator b ≡ false
    → open_word (text ++ b ∷ []) ≡ open_word text ++ b ∷ [])
    (comment : (text : List ℕ) (b : ℕ) → in_comment (ends_in_comment text) b ≡ true → open_word (text ++ b ∷ []) ≡ [])
    (separator : (text : List ℕ) (b : ℕ) → is_separator b ≡ true → open_word (text ++ b ∷ []) ≡ []) where
  -- a byte more
  one_more : (read text : List ℕ) (b : ℕ) → EndsBetween read → open_word (read ++ text) ≡ open_word text
      → open_word ((read ++ text) ++ b ∷ []) ≡ open_word (text ++ b ∷ [])
  one_more read text b between same =
      let inside : in_comment (ends_in_comment (read ++ text)) b ≡ in_comment (ends_in_comment text) b =
      ap (λ (v : Bool). in_comment v b) (comment_behind read text between) in
      elim (cases_Bool (in_comment (ends_in_comment text) b)) [
        | inl is ↦ comment (read ++ text) b (inside ∙ is) ∙ sym (comment text b is)
        | inr out ↦
            elim (cases_Bool (is_separator b)) [
              | inl cuts ↦ separator (read ++ text) b cuts ∙ sym (separator text b cuts)
              | inr keeps ↦ longer (read ++ text) b (inside ∙ out) keeps
                  ∙ (ap (λ (word : List ℕ). word ++ b ∷ []) same ∙ sym (longer text b out keeps))
            ]
      ]

  onwards : (read front back : List ℕ) → EndsBetween read → open_word (read ++ front) ≡ open_word front
      → open_word (read ++ (front ++ back)) ≡ open_word (front ++ back)
  onwards read front [] between same = ap (λ (l : List ℕ). open_word (read ++ l)) (append-nil front)
      ∙ (same ∙ ap (λ (l : List ℕ). open_word l) (sym (append-nil front)))
  onwards read front (b ∷ back) between same =
      let next : open_word (read ++ (front ++ b ∷ [])) ≡ open_word (front ++ b ∷ []) =
      ap (λ (l : List ℕ). open_word l) (sym (append_assoc read front (b ∷ [])))
      ∙ one_more read front b between same in
      subst (λ (l : List ℕ). open_word (read ++ l) ≡ open_word l) (append_assoc front (b ∷ []) back)
      (onwards read (front ++ b ∷ []) back between next)

  open_behind : (read text : List ℕ) → EndsBetween read → open_word (read ++ text) ≡ open_word text
  open_behind read text between = onwards read [] text between
      (ap (λ (l : List ℕ). open_word l) (append-nil read) ∙ between.0)

  -- both end between words where the second does
  pub between_behind : (read front : List ℕ) → EndsBetween read → EndsBetween front → EndsBetween (read ++ front)
  between_behind read front first second =
      (open_behind read front first ∙ second.0, comment_behind read front first ∙ second.1)
