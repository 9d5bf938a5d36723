-- A list of events with one more at its end, and where a run of events in it stands.
use Rattle.std.proofs.Common.{◌≡◌, ◌∙◌, ◌⊎◌, inl, inr, List, [], ◌∷◌, ◌++◌, ap, refl, sym, append_assoc, append-nil}
use Rattle.std.proofs.lemmas.List.{same_from_push}
use Rattle.pmb_bus.specs.declared.event.Event.{Event}

-- a list is empty, or has a last event
pub last_of : (xs : List Event) → (xs ≡ []) ⊎ ((front : List Event) × (x : Event) × (xs ≡ front ++ x ∷ []))
last_of [] = inl refl
last_of (x ∷ xs) =
    elim (last_of xs) as (λ _. (x ∷ xs ≡ []) ⊎ ((front : List Event) × (y : Event) × (x ∷ xs ≡ front ++ y ∷ []))) [
      | inl none ↦ inr ([], x, ap (λ (t : List Event). x ∷ t) none)
      | inr some ↦ inr (x ∷ some.0, some.1, ap (λ (t : List Event). x ∷ t) some.2)
    ]

-- A run of events, the last of which is z, stands in front of the one more, or ends with it.
pub split_more : (events before mid back : List Event) (e z : Event)
    → events ++ e ∷ [] ≡ before ++ ((mid ++ z ∷ []) ++ back)
    → ((more : List Event) × (events ≡ before ++ ((mid ++ z ∷ []) ++ more))) ⊎ ((events ≡ before ++ mid) × (e ≡ z))
split_more events before mid back e z same =
    let Answer = ((more : List Event) × (events ≡ before ++ ((mid ++ z ∷ []) ++ more)))
    ⊎ ((events ≡ before ++ mid) × (e ≡ z)) in
    elim (last_of back) as (λ _. Answer) [
      | inl none ↦
          let whole : events ++ e ∷ [] ≡ (before ++ mid) ++ z ∷ [] =
          same ∙ ap (λ (t : List Event). before ++ ((mid ++ z ∷ []) ++ t)) none
          ∙ ap (λ (t : List Event). before ++ t) (append-nil (mid ++ z ∷ []))
          ∙ sym (append_assoc before mid (z ∷ [])) in
          inr (same_from_push events (before ++ mid) e z whole)
      | inr some ↦
          let whole : events ++ e ∷ [] ≡ (before ++ ((mid ++ z ∷ []) ++ some.0)) ++ some.1 ∷ [] =
          same ∙ ap (λ (t : List Event). before ++ ((mid ++ z ∷ []) ++ t)) some.2
          ∙ ap (λ (t : List Event). before ++ t) (sym (append_assoc (mid ++ z ∷ []) some.0 (some.1 ∷ [])))
          ∙ sym (append_assoc before ((mid ++ z ∷ []) ++ some.0) (some.1 ∷ [])) in
          inl (some.0, (same_from_push events (before ++ ((mid ++ z ∷ []) ++ some.0)) e some.1 whole).0)
    ]
