use Rattle.std.proofs.Common.{◌≡◌, ℕ, ◌<◌, List, [], ◌∷◌, length, take, slice_set, subst, ap, Ok, ◌∙◌, true, arith, rules}
use Rattle.std.specs.Io.KnownBytes.{Consumes}
use Rattle.pmb_files.specs.Joined.{joined_left}
use Rattle.pmb_files.proofs.Joining.{is_some, keeps_consumes, none_keeps, reader_ends_line}
use Rattle.pmb_files.proofs.joined.JoinedOpenedRead.read.Goals as goal

first_set : (buffer : List ℕ) (byte : ℕ) → 0 < length buffer → byte ∷ [] ≡ take 1 (slice_set buffer 0 byte)
first_set [] byte some = absurd (omega arith)
first_set (first ∷ buffer) byte some = search rules

-- The LF before the next file was given.
pub returns-then-not-self-clause-bytes : goal.returns-then-not-self-clause-bytes
returns-then-not-self-clause-bytes g c =
    let left = joined_left g.F.Opener.known g.F.Opened.Read.remaining in
    let reader = c.read_open.new.self in
    let none : c.in_ok-count.count ≡ 0 = omega arith in
    let ended = c.read_open.ensures.ended (c.in_ok-count.was ∙ ap Ok none) in
    let nothing : Consumes (left c.loop-count.self) (left reader) [] =
    subst (λ (n : ℕ). Consumes (left c.loop-count.self) (left reader) (take n c.read_open.new.buffer)) none
    c.in_ok-count.ensures.read in
    let some : 0 < length reader.names.now = is_some reader.names.now _ c.is_empty-else-count-gt0.ensures c.if-is_empty-2.false in
    let one : 0 < length c.read_open.new.buffer = omega (arith, c.loop-count.invariant.1) in (
      subst (λ (bytes : List ℕ). Consumes (left c.args.self.now) (left (record reader { starts_line = true })) bytes)
          (first_set c.read_open.new.buffer 10 one)
          (keeps_consumes (left c.args.self.now) (left c.loop-count.self) _ (10 ∷ []) c.loop-count.invariant.0
          (keeps_consumes (left c.loop-count.self) (left reader) _ (10 ∷ [])
          (none_keeps (left c.loop-count.self) (left reader) nothing)
          (reader_ends_line g.F.Opener.known g.F.Opened.Read.remaining reader ended c.if-not-self.true some))),
      λ zero room. absurd (omega arith),
    )
