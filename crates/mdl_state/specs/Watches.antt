-- Data breakpoints: which accesses meet them, and memory beside them. Manual, chapter 12.
-- Own: Accesses for the tables are not watched.
use Rattle.std.specs.Prelude.{ℕ, ◌+◌, ◌-◌, ◌%◌, ◌^◌, ◌&&◌, ◌||◌, nat_lt, Bool, true, false, if◌then◌else◌, List, [], ◌∷◌, bit_or}
use Rattle.mdl_state.specs.declared.Size.{Size}
use Rattle.mdl_state.specs.declared.Who.TheVariants.{Tables}
use Rattle.mdl_state.specs.declared.Access.{Access}
use Rattle.mdl_state.specs.declared.Access.TheVariants.{Read, Write}
use Rattle.mdl_state.specs.declared.Watch.{Watch}
use Rattle.mdl_state.specs.State.{Mem}
use Rattle.mdl_state.specs.Bytes.{bytes_of}

-- the first byte that is watched: the address without its bits below the size
abbrev pub watch_start : Watch → ℕ
watch_start w = w.lin - w.lin % bytes_of w.size

-- how far one linear address is from another, upward, where the last one is followed by the first
abbrev pub ahead : ℕ → ℕ → ℕ
ahead from to = (to + (2 ^ 32 - from)) % 2 ^ 32

-- so many bytes from one address on have a byte in common with so many from another on: the first of
-- one of them is among the other
abbrev pub overlaps : ℕ → ℕ → ℕ → ℕ → Bool
overlaps a count b more = nat_lt (ahead a b) count || nat_lt (ahead b a) more

-- The access is one that counts: a write, or a read where reads count. One for a descriptor, a page
-- table or a task image does not.
abbrev pub is_counted : Bool → Access → Bool
is_counted reads (Read Tables) = false
is_counted reads (Read _) = reads
is_counted reads (Write Tables) = false
is_counted reads (Write _) = true

-- an access meets a breakpoint
unfoldable pub meets : Watch → ℕ → Size → Access → Bool
meets w lin size access = is_counted w.reads access && overlaps lin (bytes_of size) (watch_start w) (bytes_of w.size)

-- the bits of DR6 with those of each breakpoint that an access meets
abbrev pub hits_after : List Watch → ℕ → Size → Access → ℕ → ℕ
hits_after [] lin size access hits = hits
hits_after (w ∷ ws) lin size access hits = hits_after ws lin size access (if meets w lin size access then bit_or hits w.bits else hits)

-- memory after an access that passed
abbrev pub noted : Mem → ℕ → Size → Access → Mem
noted m lin size access = record m { hits = hits_after m.watch lin size access m.hits }

-- memory that looks for these breakpoints, and has met these
abbrev pub watching : Mem → List Watch → ℕ → Mem
watching m watch hits = record m { watch = watch; hits = hits }

-- memory beside its breakpoints
abbrev pub unwatched : Mem → Mem
unwatched m = watching m [] 0
