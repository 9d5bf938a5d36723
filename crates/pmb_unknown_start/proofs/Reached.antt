-- What is known of PAGE and VOUT_MODE agrees with what they are (Telling), which is all that is known from the
-- start of the transactions that were on the bus (Full); so what comes to both leaves it known in both (Under).
-- For the law `what_may_be_reached_stays_known`.
use Rattle.std.proofs.Common.{◌≡◌, ℕ, Bool, cond, Option, Some, None, List, [], ◌∷◌, ◌++◌, fold, map, inl, inr, refl}
use Rattle.std.proofs.Common.{sym, ap, ◌∙◌, subst, arith}
use Rattle.std.proofs.lemmas.List.{length-map, map-append}
use Rattle.std.proofs.lemmas.List.Sums.{fold-append}
use Rattle.pmb_command.specs.Parts.{DeviceParts}
use Rattle.pmb_transaction.specs.Transaction.{TransactionData}
use Rattle.pmb_note.specs.Paging.{PagingData, first_paging, paging}
use Rattle.pmb_unknown_start.specs.declared.start.Start.{Start}
use Rattle.pmb_unknown_start.specs.declared.start.Start.TheVariants.{AllKnown, Late, LateFixedMode}
use Rattle.pmb_unknown_start.specs.Past.{PastData, Said, Dropped}
use Rattle.pmb_unknown_start.specs.Known.{KnownPaging, first_known, known, known_by, known_mode, learn_past}
use Rattle.pmb_unknown_start.specs.Taken.{NoneCrosses, as_taken, one_taken, taken}
use Rattle.pmb_unknown_start.specs.Certain.{CanBegin, CanReach, StaysKnown}
use Rattle.pmb_unknown_start.proofs.Agreeing.{Agree, IsThat}
use Rattle.pmb_unknown_start.proofs.Drops.{all_said, none_dropped}
use Rattle.pmb_unknown_start.proofs.Full.{all_is_known, full}
use Rattle.pmb_unknown_start.proofs.Telling.{Agrees, PageAgrees, reached}
use Rattle.pmb_unknown_start.proofs.Under.{IsWithin, Lower, StaysPage, Under, Within, after, all_all, fixed_all}
use Rattle.pmb_unknown_start.proofs.Under.{late_all, read_of}

that_within : (m : Option ℕ) (n : ℕ) → IsThat m n → IsWithin m (Some n)
that_within None n is = tt
that_within (Some m) n is = ap Some (sym is)

agree_within : (ms : List (Option ℕ)) (ns : List ℕ) → Agree ms ns → Within ms (map Some ns)
agree_within [] [] agree = tt
agree_within [] (n ∷ ns) agree = absurd agree
agree_within (m ∷ ms) [] agree = absurd agree
agree_within (m ∷ ms) (n ∷ ns) agree = (that_within m n agree.0, agree_within ms ns agree.1)

page_within : (o : Option ℕ) (q : PagingData) → PageAgrees o q → StaysPage o (full q)
page_within None q (inl less) = inl (omega (arith, less, length-map q.modes Some))
page_within None q (inr all) = inr all
page_within (Some page) q is = ap Some (sym is)

module _ (start : Start) (device : DeviceParts) (p : PagingData) (past rest : List PastData) (ts : List TransactionData)
    (begin : CanBegin start device p) (reach : CanReach start device p past (paging device ts)) where
  abbrev said : List PastData
  said = map Said ts

  -- all is known of the transactions
  all_of : known_by AllKnown device said ≡ full (paging device ts)
  all_of = all_is_known device said (none_dropped device (first_paging device) ts)
      ∙ ap (λ (more : List TransactionData). full (paging device more)) (all_said ts)

  reaches : Agrees start device (known_by start device past) (paging device ts)
  reaches = reached start device past p (paging device ts) begin reach

  under : Under (known_by start device past) (known_by AllKnown device said)
  under = subst (Under (known_by start device past)) (sym all_of) (record {
    page = page_within (known_by start device past).page (paging device ts) reaches.page;
    modes = agree_within (known_by start device past).modes (paging device ts).modes reaches.modes;
  })

  then : Lower start AllKnown → Under (known_by start device (past ++ rest)) (known_by AllKnown device (said ++ rest))
  then lower =
      subst (λ (k : KnownPaging). Under k (known_by AllKnown device (said ++ rest)))
      (sym (fold-append (learn_past start device) (first_known start device) past rest))
      (subst (Under (fold (learn_past start device) (known_by start device past) rest))
      (sym (fold-append (learn_past AllKnown device) (first_known AllKnown device) said rest))
      (after device start AllKnown lower rest (known_by start device past) (known_by AllKnown device said) under))

  lower_than : (s : Start) → Lower s AllKnown
  lower_than AllKnown = all_all
  lower_than Late = late_all
  lower_than LateFixedMode = fixed_all

  all_under : Under (known_by start device (past ++ rest)) (known_by AllKnown device (said ++ rest))
  all_under = then (lower_than start)

  mode_by : StaysKnown (known_mode (known_by start device (past ++ rest)))
      (known_mode (known_by AllKnown device (said ++ rest)))
  mode_by = read_of (known_by start device (past ++ rest)) (known_by AllKnown device (said ++ rest)) all_under

  page_by : (page : ℕ) → (known_by start device (past ++ rest)).page ≡ Some page
      → (known_by AllKnown device (said ++ rest)).page ≡ Some page
  page_by page told = subst (λ (o : Option ℕ). StaysPage o (known_by AllKnown device (said ++ rest))) told all_under.page

-- what the device took of transactions that were said, and of what came behind them
pub taken_with : (device : DeviceParts) (ts : List TransactionData) (rest : List PastData) → NoneCrosses device ts
    → as_taken device (map Said ts ++ rest) ≡ map Said (map (taken device) ts) ++ as_taken device rest
taken_with device [] rest none = refl
taken_with device (t ∷ ts) rest none =
    ap (λ (crossed : Bool). cond crossed Dropped (Said (taken device t)) ∷ as_taken device (map Said ts ++ rest)) none.0
    ∙ ap (λ (more : List PastData). Said (taken device t) ∷ more) (taken_with device ts rest none.1)

module _ (start : Start) (device : DeviceParts) (p : PagingData) (past rest : List PastData) (ts : List TransactionData)
    (begin : CanBegin start device p)
    (reach : CanReach start device p (as_taken device past) (paging device (map (taken device) ts)))
    (none : NoneCrosses device ts) where
  pub mode_reached : StaysKnown (known_mode (known start device (past ++ rest)))
      (known_mode (known AllKnown device (map Said ts ++ rest)))
  mode_reached =
      subst (λ (all : List PastData). StaysKnown (known_mode (known_by start device all))
      (known_mode (known AllKnown device (map Said ts ++ rest))))
      (sym (map-append (one_taken device) past rest))
      (subst (λ (all : List PastData). StaysKnown
      (known_mode (known_by start device (as_taken device past ++ as_taken device rest)))
      (known_mode (known_by AllKnown device all)))
      (sym (taken_with device ts rest none))
      (mode_by start device p (as_taken device past) (as_taken device rest) (map (taken device) ts) begin reach))

  pub page_reached : (page : ℕ) → (known start device (past ++ rest)).page ≡ Some page
      → (known AllKnown device (map Said ts ++ rest)).page ≡ Some page
  page_reached page told =
      ap (λ (all : List PastData). (known_by AllKnown device all).page) (taken_with device ts rest none)
      ∙ page_by start device p (as_taken device past) (as_taken device rest) (map (taken device) ts) begin reach page
      (ap (λ (all : List PastData). (known_by start device all).page) (sym (map-append (one_taken device) past rest)) ∙ told)
