-- What a reader of joined files has left, after bytes of it, at a file's end, and when the next file is opened. For
-- `read_open`, `open_next` and `read`.
use Rattle.std.proofs.Common.{◌≡◌, ◌∙◌, ℕ, Bool, true, false, Option, Some, None, List, [], ◌∷◌, ◌++◌, map, refl, sym}
use Rattle.std.proofs.Common.{ap, append_assoc, arith, subst, length, ◌<◌, ◌≤◌, ◌-◌, ◌==◌, slice_index_or, IfSome, option_and_then, option_map}
use Rattle.std.specs.Io.KnownBytes.{Consumes, IsAtEnd, Keeps, prepend_known}
use Rattle.std.proofs.lemmas.Bool.{eqb-true}
use Rattle.std.proofs.lemmas.List.{length-map, nil_from_length}
use Rattle.pmb_files.specs.Joined.{joined, joined_left, left_of, starts_after, with_files}
use Rattle.pmb_files.specs.declared.joined.Joined.{Joined}
use Rattle.pmb_files.specs.machine.Joined.{HasEnded}
use Rattle.pmb_files.specs.Known.{Known, Opens, all_bytes, bytes_of}
use Rattle.pmb_files.specs.Words.{Text}

-- a test for an empty list
pub is_empty : {A : Type 0} (items : List A) (test : Bool) → test ≡ (length items == 0) → test ≡ true → items ≡ []
is_empty items test is holds = nil_from_length items (eqb-true (length items) 0 (sym is ∙ holds))

pub is_some : {A : Type 0} (items : List A) (test : Bool) → test ≡ (length items == 0) → test ≡ false → 0 < length items
is_some [] test is fails = cc
is_some (item ∷ items) test is fails = omega arith

-- whether a line starts after two texts
pub starts_after_both : (front back : List ℕ) (starts : Bool)
    → starts_after starts (front ++ back) ≡ starts_after (starts_after starts front) back
starts_after_both [] back starts = refl
starts_after_both (byte ∷ front) back starts = starts_after_both front back (byte == 10)

-- and after some bytes, by the last of them
last_byte : (byte : ℕ) (bytes : List ℕ) (starts : Bool)
    → starts_after starts (byte ∷ bytes) ≡ (slice_index_or (byte ∷ bytes) (length bytes) 0 == 10)
last_byte byte [] starts = refl
last_byte byte (next ∷ bytes) starts = last_byte next bytes (byte == 10)

pub starts_after_last : (bytes : List ℕ) (starts : Bool) → 1 ≤ length bytes
    → (slice_index_or bytes (length bytes - 1) 0 == 10) ≡ starts_after starts bytes
starts_after_last [] starts some = absurd (omega arith)
starts_after_last (byte ∷ bytes) starts some =
    let one_less : length (byte ∷ bytes) - 1 ≡ length bytes = omega arith in
    ap (λ n. slice_index_or (byte ∷ bytes) n 0 == 10) one_less ∙ sym (last_byte byte bytes starts)

-- some bytes of those that come before the files are given
pub with_files_after : (starts : Bool) (front back : List ℕ) (files : List (List ℕ))
    → with_files starts (front ++ back) files ≡ front ++ with_files (starts_after starts front) back files
with_files_after starts front back files =
    ap (λ s. (front ++ back) ++ joined s files) (starts_after_both front back starts)
    ∙ append_assoc front back (joined (starts_after (starts_after starts front) back) files)

-- the same where they may be unknown
pub consumes_left : (starts : Bool) (old new : Option (List ℕ)) (files : Option (List (List ℕ))) (given : List ℕ)
    → Consumes old new given
    → Consumes (left_of starts old files) (left_of (starts_after starts given) new files) given
consumes_left starts None new files given consumed = tt
consumes_left starts (Some old) None files given consumed = absurd consumed
consumes_left starts (Some old) (Some new) None given consumed = tt
consumes_left starts (Some old) (Some new) (Some files) given consumed =
    ap (λ bytes. with_files starts bytes files) consumed ∙ with_files_after starts given new files

-- bytes that come first, and then some
pub consumes_front : (front back given : List ℕ) (file : Option (List ℕ)) → front ≡ given ++ back
    → Consumes (prepend_known front file) (prepend_known back file) given
consumes_front front back given None is = tt
consumes_front front back given (Some file) is =
    ap (λ bytes. bytes ++ file) is ∙ append_assoc given back file

-- nothing comes first
pub none_first : (file : Option (List ℕ)) → prepend_known [] file ≡ file
none_first None = refl
none_first (Some file) = refl

-- bytes of the open file are given, where none come first
in_none : (old new : Option (List ℕ)) (given : List ℕ) → Consumes old new given
    → Consumes (prepend_known [] old) (prepend_known [] new) given
in_none None new given consumes = tt
in_none (Some old) None given consumes = absurd consumes
in_none (Some old) (Some new) given consumes = consumes

pub file_read : (starts : Bool) (head : List ℕ) (old new : Option (List ℕ)) (files : Option (List (List ℕ)))
    (given : List ℕ) → head ≡ [] → Consumes old new given
    → Consumes (left_of starts (prepend_known head old) files)
    (left_of (starts_after starts given) (prepend_known head new) files) given
file_read starts head old new files given empty consumes =
    consumes_left starts (prepend_known head old) (prepend_known head new) files given
    (subst (λ (front : List ℕ). Consumes (prepend_known front old) (prepend_known front new) given) (sym empty)
    (in_none old new given consumes))

-- the file has ended
pub keeps_at_end : (starts : Bool) (old new : Option (List ℕ)) (files : Option (List (List ℕ)))
    → Consumes old new [] → IsAtEnd new → Keeps (left_of starts old files) (left_of starts (Some []) files)
keeps_at_end starts None new files consumed at_end = tt
keeps_at_end starts (Some old) None files consumed at_end = absurd consumed
keeps_at_end starts (Some old) (Some new) None consumed at_end = tt
keeps_at_end starts (Some old) (Some new) (Some files) consumed at_end =
    ap (λ bytes. with_files starts bytes files) (sym (consumed ∙ at_end))

-- nothing was read, and it stays
pub keeps_left : (starts : Bool) (old new : Option (List ℕ)) (files : Option (List (List ℕ))) → Keeps old new
    → Keeps (left_of starts old files) (left_of starts new files)
keeps_left starts None new files keeps = tt
keeps_left starts (Some old) None files keeps = absurd keeps
keeps_left starts (Some old) (Some new) None keeps = tt
keeps_left starts (Some old) (Some new) (Some files) keeps = ap (λ bytes. with_files starts bytes files) keeps

-- what is kept twice is kept
pub keeps_then : (old middle new : Option (List ℕ)) → Keeps old middle → Keeps middle new → Keeps old new
keeps_then None middle new first second = tt
keeps_then (Some old) None new first second = absurd first
keeps_then (Some old) (Some middle) None first second = absurd second
keeps_then (Some old) (Some middle) (Some new) first second = second ∙ first

-- what is kept, and then consumed
pub keeps_consumes : (old middle new : Option (List ℕ)) (given : List ℕ) → Keeps old middle
    → Consumes middle new given → Consumes old new given
keeps_consumes None middle new given keeps consumes = tt
keeps_consumes (Some old) None new given keeps consumes = absurd keeps
keeps_consumes (Some old) (Some middle) None given keeps consumes = absurd consumes
keeps_consumes (Some old) (Some middle) (Some new) given keeps consumes = sym keeps ∙ consumes

-- nothing is consumed of what is kept
pub keeps_none : (old new : Option (List ℕ)) → Keeps old new → Consumes old new []
keeps_none None new keeps = tt
keeps_none (Some old) None keeps = absurd keeps
keeps_none (Some old) (Some new) keeps = sym keeps

pub none_keeps : (old new : Option (List ℕ)) → Consumes old new [] → Keeps old new
none_keeps None new consumes = tt
none_keeps (Some old) None consumes = absurd consumes
none_keeps (Some old) (Some new) consumes = sym consumes

pub keeps_same : (old : Option (List ℕ)) → Keeps old old
keeps_same None = tt
keeps_same (Some old) = refl

-- the next file is opened, where a line starts
opened : (bytes : Option (List ℕ)) (others : Option (List (List ℕ))) (file : Option (List ℕ))
    → IfSome bytes (λ known. file ≡ Some known)
    → Keeps (left_of true (Some []) (option_and_then (λ known. option_map (λ more. known ∷ more) others) bytes))
    (left_of true file others)
opened None others file opens = tt
opened (Some bytes) None file opens = tt
opened (Some bytes) (Some others) file opens = rw opens refl

pub keeps_open : (known : Text → Known) (name : Text) (names : List Text) (file : Option (List ℕ))
    → Opens (known name) file
    → Keeps (left_of true (Some []) (all_bytes known (name ∷ names))) (left_of true file (all_bytes known names))
keeps_open known name names file opens = opened (bytes_of (known name)) (all_bytes known names) file opens

-- the LF before a file
pub line_is_ended : (files : Option (List (List ℕ))) (some : IfSome files (λ all. 0 < length all))
    → Consumes (left_of false (Some []) files) (left_of true (Some []) files) (10 ∷ [])
line_is_ended None some = tt
line_is_ended (Some []) some = absurd (omega arith)
line_is_ended (Some (file ∷ files)) some = refl

-- where a name is left, so is a file
more_left : (bytes : Option (List ℕ)) (others : Option (List (List ℕ)))
    → IfSome (option_and_then (λ known. option_map (λ more. known ∷ more) others) bytes) (λ all. 0 < length all)
more_left None others = tt
more_left (Some bytes) None = tt
more_left (Some bytes) (Some others) = omega arith

pub files_left : (known : Text → Known) (names : List Text) → 0 < length names
    → IfSome (all_bytes known names) (λ all. 0 < length all)
files_left known [] some = absurd (omega arith)
files_left known (name ∷ names) some = more_left (bytes_of (known name)) (all_bytes known names)

-- The LF is given, where no file is open and a name is left.
pub reader_ends_line : {F O : Type 0} (known : F → Text → Known) (left : O → Option (List ℕ)) (reader : Joined F O)
    → HasEnded reader → reader.starts_line ≡ false → 0 < length reader.names.now
    → Consumes (joined_left known left reader) (joined_left known left (record reader { starts_line = true }))
    (10 ∷ [])
reader_ends_line known left reader ended starts some =
    let names = map (λ name. name.now) reader.names.now in
    let more : 0 < length names = simp length-map some in
    rw (ended.0, ended.1, starts) (line_is_ended (all_bytes (known reader.files.now) names)
    (files_left (known reader.files.now) names more))
