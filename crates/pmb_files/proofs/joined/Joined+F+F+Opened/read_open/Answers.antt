use Rattle.std.proofs.Common.{◌≡◌, [], subst, sym, take, map}
use Rattle.std.specs.Io.KnownBytes.{Consumes}
use Rattle.pmb_files.specs.Joined.{joined_left, open_left}
use Rattle.pmb_files.specs.Known.{all_bytes}
use Rattle.pmb_files.proofs.Joining.{consumes_front, consumes_left, file_read, is_empty}
use Rattle.pmb_files.proofs.joined.Joined+F+F+Opened.read_open.Goals as goal

-- Bytes that come first were given.
pub returns-then-not-is_empty-clause-read : goal.returns-then-not-is_empty-clause-read
returns-then-not-is_empty-clause-read g c =
    let known = g.F.Opener.known in
    let left = g.F.Opened.Read.remaining in
    let old = c.args.self.now in
    let given = take c.in_ok-count.count c.read.new.buf in
    let files = all_bytes (known old.files.now) (map (λ name. name.now) old.names.now) in
    subst (λ reader. Consumes (joined_left known left old) (joined_left known left reader) given) (sym c.note.ensures)
    (consumes_left old.starts_line _ _ files given
    (consumes_front old.head.now _ given (open_left left old.open) c.in_ok-count.ensures.bytes.0))

-- Bytes of the open file were.
pub returns-in-Ok-clause-read : goal.returns-in-Ok-clause-read
returns-in-Ok-clause-read g c =
    let known = g.F.Opener.known in
    let left = g.F.Opened.Read.remaining in
    let old = c.args.self.now in
    let given = take c.in-Ok.count c.read-2.new.buf in
    let files = all_bytes (known old.files.now) (map (λ name. name.now) old.names.now) in
    let empty : old.head.now ≡ [] = is_empty old.head.now _ c.is_empty.ensures c.if-not-is_empty.false in
    subst (λ reader. Consumes (joined_left known left old) (joined_left known left reader) given)
    (sym c.note-in-Ok.ensures)
    (file_read old.starts_line old.head.now (open_left left old.open) (left c.read-2.new.self) files given empty
    (subst (λ input. Consumes (open_left left input) (left c.read-2.new.self) given) (sym c.in-Some.is)
    c.in-Ok.ensures.bytes.0))
