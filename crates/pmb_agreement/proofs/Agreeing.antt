-- A run of the program and what the library puts: the same bytes are the input of both, so both texts
-- are the one that the task's definition says. For the law `the_library_puts_what_the_program_writes`.
use Rattle.std.proofs.Common.{◌≡◌, ◌∙◌, ◌⊎◌, ℕ, Option, Some, None, Ok, List, [], ◌++◌, inl, inr, refl, sym, ap, subst, append-nil}
use Rattle.std.proofs.lemmas.Option.{same_Some}
use Rattle.std.specs.Io.KnownBytes.{Appends, Consumes, IsAtEnd}
use Rattle.pmb_agreement.proofs.Profiles.{one_bus}
use Rattle.pmb_agreement.proofs.Stopping.{Means}
use Rattle.pmb_agreement.specs.Run.{HasRun, WritesTheSame}
use Rattle.pmb_args.specs.Asked.{Wanted}
use Rattle.pmb_cli.specs.Works.{DoneUnderFront, WritesRest, working}
use Rattle.pmb_command.specs.Bus.{IsBus}
use Rattle.pmb_in_memory.specs.Put.{PutWhole}
use Rattle.pmb_in_memory.specs.declared.put.Put.{Put}
use Rattle.pmb_io.specs.Runs.{Job}
use Rattle.pmb_io.specs.Told.{ReaderTold, WriterTold}
use Rattle.pmb_io.specs.declared.tally.Tally.{Tally}
use Rattle.pmb_preamble.specs.Front.{FirstMark, IsFront}
use Rattle.pmb_table.specs.Profile.{ProfileParts, SaysBus}

-- what a reader has left after it gave bytes
abbrev Left : List ℕ → Option (List ℕ) → List ℕ → Type 0
Left bytes new read = (rest : List ℕ) × (new ≡ Some rest) × (bytes ≡ read ++ rest)

left_after : (bytes read : List ℕ) (old new : Option (List ℕ)) → old ≡ Some bytes → Consumes old new read
    → Left bytes new read
left_after bytes read (Some xs) (Some ys) is consumed = (ys, refl, sym (same_Some xs bytes is) ∙ consumed)
left_after bytes read (Some xs) None is consumed = absurd consumed
left_after bytes read None new is consumed = absurd (let no = is in cc)

nothing_left : (rest : List ℕ) (new : Option (List ℕ)) → new ≡ Some rest → IsAtEnd new → rest ≡ []
nothing_left rest (Some ys) is ended = sym (same_Some ys rest is) ∙ ended
nothing_left rest None is ended = absurd (let no = is in cc)

holds_more : (held text : List ℕ) (old new : Option (List ℕ)) → old ≡ Some held → Appends old new text
    → new ≡ Some (held ++ text)
holds_more held text (Some xs) (Some ys) is appended =
    ap Some (appended ∙ ap (λ (l : List ℕ). l ++ text) (same_Some xs held is))
holds_more held text (Some xs) None is appended = absurd appended
holds_more held text None new is appended = absurd (let no = is in cc)

module _ {R W : Type 0} (reader_told : R → ReaderTold) (out_told : W → WriterTold)
    (one_front : (text p q a b : List ℕ) → IsFront text p a → IsFront text q b → (p ≡ q) × (a ≡ b))
    (stays : (text p a more : List ℕ) → FirstMark text p a → FirstMark (text ++ more) p (a ++ more))
    (wanted : Wanted) (put_job : ProfileParts → Job Tally)
    (T : ProfileParts → List ℕ → List ℕ → Tally → Type 0)
    (program : (bus : ProfileParts) → Means (working wanted bus) (T bus))
    (library : (bus : ProfileParts) → Means (put_job bus) (T bus))
    (one : (bus : ProfileParts) (input a b : List ℕ) (s t : Tally) → IsBus bus.devices → T bus input a s → T bus input b t
    → (a ≡ b) × (s ≡ t))
    (bytes profile input held before after : List ℕ) (tally : Tally) (old new : R × W) (put : Put)
    (first : FirstMark bytes profile input)
    (run : HasRun reader_told out_told wanted bytes held tally old new)
    (whole : PutWhole put_job profile input before after put) where
  written : (rest : List ℕ) → (reader_told new.0).left ≡ Some rest
      → WritesRest reader_told out_told (working wanted) old.0 new.0 tally run.done.begins.bus run.done.begins.rest
      run.done.begins.text run.done.begins.read
      → T run.done.begins.bus (run.done.begins.rest ++ rest) run.done.begins.text tally
  written rest is (inl all) =
      subst (λ (l : List ℕ). T run.done.begins.bus l run.done.begins.text tally)
      (sym (append-nil run.done.begins.rest)
      ∙ ap (λ (l : List ℕ). run.done.begins.rest ++ l) (sym (nothing_left rest (reader_told new.0).left is all.2)))
      ((program run.done.begins.bus).whole tally run.done.begins.rest run.done.begins.text all.0)
  written rest is (inr stopped) =
      (program run.done.begins.bus).stops tally run.done.begins.rest run.done.begins.text rest stopped.0

  pub agree : WritesTheSame (out_told new.1).held held whole.text tally put
  agree =
      let left = left_after bytes run.done.begins.read (reader_told old.0).left (reader_told new.0).left run.left
      run.done.begins.consumed in
      let same : (run.done.begins.profile ≡ profile) × (run.done.begins.rest ++ left.0 ≡ input) =
      one_front bytes run.done.begins.profile profile (run.done.begins.rest ++ left.0) input
      (inl (subst (λ (l : List ℕ). FirstMark l run.done.begins.profile (run.done.begins.rest ++ left.0)) (sym left.2)
      (stays run.done.begins.read run.done.begins.profile run.done.begins.rest left.0 run.marked)))
      (inl first) in
      let bus : run.done.begins.bus ≡ whole.bus = one_bus profile run.done.begins.bus whole.bus
      (subst (λ (l : List ℕ). SaysBus l (Ok run.done.begins.bus)) same.0 run.done.begins.says) whole.of_profile.says in
      let of_program : T whole.bus input run.done.begins.text tally =
      subst (λ (b : ProfileParts). T b input run.done.begins.text tally) bus
      (subst (λ (l : List ℕ). T run.done.begins.bus l run.done.begins.text tally) same.1
      (written left.0 left.1 run.done.holds)) in
      let of_library : T whole.bus input whole.text put.tally =
      (library whole.bus).either put.tally input whole.text whole.is_text in
      let both = one whole.bus input run.done.begins.text whole.text tally put.tally whole.of_profile.accepted of_program
      of_library in (
        holds_more held run.done.begins.text (out_told old.1).held (out_told new.1).held run.held_before
            run.done.begins.appended ∙ ap (λ (l : List ℕ). Some (held ++ l)) both.0,
        both.1,
      )
