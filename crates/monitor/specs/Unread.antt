-- A piece of the input, of which the first bytes were taken.
use Rattle.std.specs.Prelude.{ℕ, List, [], ◌∷◌, take, drop, Option, Some, None}
use Rattle.std.specs.Io.KnownBytes.{Consumes, IsAtEnd}
use Rattle.monitor.specs.declared.reader.Reader.{Reader}

-- the bytes that were read and not taken yet
abbrev pub unread : Reader → List ℕ
unread r = drop r.from (take r.to r.piece)

-- the next byte was taken of what is left, or there is none
abbrev pub IsNext : Option ℕ → Option (List ℕ) → Option (List ℕ) → Type 0
IsNext (Some byte) before now = Consumes before now (byte ∷ [])
IsNext None before now = Consumes before now [] × IsAtEnd now
