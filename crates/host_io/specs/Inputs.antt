-- An input of a host in memory.
use Rattle.std.specs.Prelude.{ℕ, List, drop}
use Rattle.host_io.specs.declared.input.Input.{Input}

-- the bytes that were not read yet
abbrev pub bytes_left : Input → List ℕ
bytes_left input = drop input.at input.bytes.items
