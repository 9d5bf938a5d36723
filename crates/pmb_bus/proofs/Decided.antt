-- Each text spells events, or has a first word that is no token: the law `each_text_is_read`. Byte
-- by byte from the front: the words that have ended are tokens or one is not, and the word under
-- way is looked at when a byte ends it, or the text does.
use Rattle.std.proofs.Common.{◌≡◌, ℕ, Bool, true, false, ◌⊎◌, inl, inr, None, List, [], ◌∷◌, ◌++◌, refl, sym, ◌∙◌, ap}
use Rattle.std.proofs.Common.{subst, append-nil, append_assoc, arith}
use Rattle.std.proofs.lemmas.Bool.{cases_Bool}
use Rattle.pmb_bus.specs.declared.event.Event.{Event}
use Rattle.pmb_bus.specs.Event.{event_of}
use Rattle.pmb_bus.specs.LexFault.{OpenWordIsBad}
use Rattle.pmb_bus.specs.Text.{AreTokens, EndedWordsSpell, FirstBadWord, Spells, ends_in_comment, in_comment}
use Rattle.pmb_bus.specs.Text.{is_separator, is_word, open_word}
use Rattle.pmb_bus.proofs.Fronts.{from_the_front, open_word_is_bad}
use Rattle.pmb_bus.proofs.Spelling.{ended_words_lead_on, no_word, one_word, outside_of_word}
use Rattle.pmb_bus.proofs.Splits.{glue}
use Rattle.pmb_bus.proofs.Stands.{ended_by}
use Rattle.pmb_bus.proofs.Tokens.{cases_Option, cases_word}
use Rattle.pmb_bus.proofs.Words.{blank, blank_out, comment_cuts, longer_by, runs_from, runs_from-cut}

-- a word that has ended is the first that is no token, whatever follows
abbrev HasBadWord : List ℕ → Type 0
HasBadWord text = (events : List Event) × (place : ℕ) × ((more : List ℕ) → FirstBadWord (text ++ more) events place)

-- the words that have ended are the tokens of events, or one is no token
abbrev IsDecided : List ℕ → Type 0
IsDecided text = ((events : List Event) × EndedWordsSpell text events) ⊎ HasBadWord text

-- the word under way ends and is no token
bad_word_ends : (text : List ℕ) (b : ℕ) (events : List Event) → is_separator (blank (ends_in_comment text) b) ≡ true
    → EndedWordsSpell text events
    → is_word (open_word text) ≡ true → event_of (open_word text) ≡ None → HasBadWord (text ++ b ∷ [])
bad_word_ends text b events cuts ended some none =
    let outside = outside_of_word text some in
    let cuts_outside : is_separator (blank false b) ≡ true =
    subst (λ (v : Bool). is_separator (blank v b) ≡ true) outside cuts in
    let bad : (more : List ℕ) → OpenWordIsBad text (text ++ b ∷ more) events = λ more.
    open_word_is_bad text events (b ∷ more) (open_word text) (runs_from (in_comment false b) more) outside ended
    (ap (glue (open_word text)) (runs_from-cut false b more cuts_outside)
    ∙ ap (λ (word : List ℕ). word ∷ runs_from (in_comment false b) more) (append-nil (open_word text))) some none in (
      events,
      (bad []).0,
      λ more.
          let here = bad more in
          let first = bad [] in
          let same : here.0 ≡ first.0 = omega (arith, here.1, first.1) in
          subst (λ (place : ℕ). FirstBadWord ((text ++ b ∷ []) ++ more) events place) same
          (subst (λ (all : List ℕ). FirstBadWord all events here.0) (sym (append_assoc text (b ∷ []) more)) here.2),
    )

-- a byte that ends the word under way
word_ends : (text : List ℕ) (b : ℕ) (events : List Event) → is_separator (blank (ends_in_comment text) b) ≡ true
    → EndedWordsSpell text events → IsDecided (text ++ b ∷ [])
word_ends text b events cuts ended =
    elim (cases_word (open_word text)) [
      | inl empty ↦ inl (events ++ [], ended_by text b events [] cuts ended (no_word text empty))
      | inr some ↦
          elim (cases_Option (event_of (open_word text))) [
            | inl none ↦ inr (bad_word_ends text b events cuts ended some none)
            | inr token ↦ inl (
              events ++ token.0 ∷ [],
              ended_by text b events (token.0 ∷ []) cuts ended
                  (one_word text token.0 token.1),
            )
          ]
    ]

one_byte_more : (text : List ℕ) (b : ℕ) → IsDecided text → IsDecided (text ++ b ∷ [])
one_byte_more text b (inr bad) =
    inr (
      bad.0,
      bad.1,
      λ more. subst (λ (all : List ℕ). FirstBadWord all bad.0 bad.1)
          (sym (append_assoc text (b ∷ []) more)) (bad.2 (b ∷ more)),
    )
one_byte_more text b (inl spelled) =
    elim (cases_Bool (in_comment (ends_in_comment text) b)) [
      | inl inside ↦ word_ends text b spelled.0 (comment_cuts (ends_in_comment text) b inside) spelled.1
      | inr outside ↦
          elim (cases_Bool (is_separator b)) [
            | inl separates ↦ word_ends text b spelled.0 (ap is_separator (blank_out (ends_in_comment text) b outside)
                ∙ separates) spelled.1
            | inr keeps ↦ inl (
              spelled.0,
              subst (λ (ws : List (List ℕ)). AreTokens ws spelled.0)
                  (sym (longer_by text b outside keeps).ended) spelled.1,
            )
          ]
    ]

decided : (text : List ℕ) → IsDecided text
decided text = from_the_front IsDecided (inl ([], refl)) one_byte_more text

-- a text spells events, or one of its words is the first that is no token
abbrev pub IsRead : List ℕ → Type 0
IsRead text = ((events : List Event) × Spells text events)
    ⊎ ((events : List Event) × (place : ℕ) × FirstBadWord text events place)

pub each_text_is_read : (text : List ℕ) → IsRead text
each_text_is_read text =
    elim (decided text) [
      | inr bad ↦ inr (
        bad.0,
        bad.1,
        subst (λ (all : List ℕ). FirstBadWord all bad.0 bad.1) (append-nil text)
            (bad.2 []),
      )
      | inl ended ↦
          elim (ended_words_lead_on text ended.0 ended.1) [
            | inl spells ↦ inl (ended.0, spells)
            | inr last ↦
                elim last [
                  | inl one ↦ inl (ended.0 ++ one.0 ∷ [], one.1)
                  | inr bad ↦ inr (ended.0, bad.0, bad.1)
                ]
          ]
    ]
