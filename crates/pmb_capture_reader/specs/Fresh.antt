-- What one call makes.
use Rattle.std.specs.Prelude.{ℕ, List}
use Rattle.pmb_capture_reader.specs.declared.fresh.Fresh.{Fresh}

abbrev pub fresh_bytes : Fresh → List ℕ
fresh_bytes fresh = fresh.bytes.items
