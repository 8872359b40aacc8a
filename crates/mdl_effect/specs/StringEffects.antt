-- What the string instructions do, one iteration at a time. Manual, chapter 17, under MOVS, CMPS, STOS, LODS,
-- SCAS, INS, OUTS and REP, and chapter 8.
use Rattle.std.specs.Prelude.{ℕ, ◌+◌, ◌-◌, ◌%◌, ◌==◌, ◌&&◌, ◌||◌, not, Bool, true, false, if◌then◌else◌, unwrap_or}
use Rattle.mdl_state.specs.declared.Size.{Size}
use Rattle.mdl_state.specs.declared.Size.TheVariants.{B2}
use Rattle.mdl_state.specs.declared.Seg.TheVariants.{Es, Ds}
use Rattle.mdl_state.specs.declared.Access.TheVariants.{Write}
use Rattle.mdl_state.specs.declared.Regs.{Regs}
use Rattle.mdl_state.specs.declared.Next.TheVariants.{Follow, Again}
use Rattle.mdl_state.specs.Bytes.{bytes_of, bound_of}
use Rattle.mdl_state.specs.Registers.{reg_of, with_reg}
use Rattle.mdl_state.specs.Attempt.{Plan, Done, Translate, Hold, Input, then_plan, checked}
use Rattle.mdl_num.specs.declared.status.TheConstants.{ZF}
use Rattle.mdl_num.specs.Flags.{is_set}
use Rattle.mdl_num.specs.Sums.{difference_status}
use Rattle.mdl_insn.specs.declared.instruction.Insn.{Insn}
use Rattle.mdl_insn.specs.declared.instruction.Rep.{Rep}
use Rattle.mdl_insn.specs.declared.instruction.Rep.TheVariants as rep
use Rattle.mdl_insn.specs.declared.mnemonics.Op.{Op}
use Rattle.mdl_insn.specs.declared.mnemonics.Op.TheVariants as ops
use Rattle.mdl_effect.specs.Operands.{After, PortUse, Reads, Writes, follow, no_such, count_of, counted_down, address_size, DF, with_flags}
use Rattle.mdl_cpu.specs.Segments.{who_of}
use Rattle.mdl_cpu.specs.Access.{legal, load_from, store_to}
use Rattle.mdl_cpu.specs.Virtual.{port_plan}

-- the mnemonics of strings
abbrev pub runs_string : Op → Bool
runs_string ops.Movs = true
runs_string ops.Cmps = true
runs_string ops.Stos = true
runs_string ops.Lods = true
runs_string ops.Scas = true
runs_string ops.Ins = true
runs_string ops.Outs = true
runs_string _ = false

-- ---- indexes

-- SI or ESI, and DI or EDI
abbrev pub source_index : Regs → Bool → ℕ
source_index r wide = reg_of r 6 (address_size wide)

abbrev pub destination_index : Regs → Bool → ℕ
destination_index r wide = reg_of r 7 (address_size wide)

-- an index behind a number, or before it where DF is 1, modulo the address size
abbrev pub stepped : Regs → Bool → Size → ℕ → ℕ
stepped r wide size index =
    (index + (if is_set r.eflags DF then bound_of (address_size wide) - bytes_of size else bytes_of size)) % bound_of (address_size wide)

abbrev pub past_source : Regs → Insn → Regs
past_source r insn = with_reg r 6 (address_size insn.wide) (stepped r insn.wide insn.size (source_index r insn.wide))

abbrev pub past_destination : Regs → Insn → Regs
past_destination r insn = with_reg r 7 (address_size insn.wide) (stepped r insn.wide insn.size (destination_index r insn.wide))

abbrev pub past_both : Regs → Insn → Regs
past_both r insn = past_destination (past_source r insn) insn

-- ---- one iteration. The source is in DS or the segment of a prefix, the destination in ES.

abbrev pub read_source : Insn → Regs → Plan ℕ
read_source insn r = load_from r (unwrap_or insn.over Ds) (source_index r insn.wide) insn.size

abbrev pub read_destination : Insn → Regs → Plan ℕ
read_destination insn r = load_from r Es (destination_index r insn.wide) insn.size

abbrev pub write_destination : Insn → Regs → ℕ → Plan (Unit {0})
write_destination insn r value = store_to r Es (destination_index r insn.wide) insn.size value

-- the flags of a number less another
abbrev pub compared : Regs → Size → ℕ → ℕ → ℕ → Regs
compared r size a b free = with_flags r (difference_status size a b false) free

unfoldable pub move_string_plan : Insn → Regs → Plan Regs
move_string_plan insn r = then_plan (read_source insn r) (λ value. then_plan (write_destination insn r value) (λ _. Done (past_both r insn)))

unfoldable pub compare_strings_plan : Insn → Regs → ℕ → Plan Regs
compare_strings_plan insn r free = then_plan (read_source insn r) (λ a. then_plan (read_destination insn r) (λ b.
    Done (past_both (compared r insn.size a b free) insn)))

unfoldable pub store_string_plan : Insn → Regs → Plan Regs
store_string_plan insn r = then_plan (write_destination insn r (reg_of r 0 insn.size)) (λ _. Done (past_destination r insn))

unfoldable pub load_string_plan : Insn → Regs → Plan Regs
load_string_plan insn r = then_plan (read_source insn r) (λ value. Done (past_source (with_reg r 0 insn.size value) insn))

unfoldable pub scan_string_plan : Insn → Regs → ℕ → Plan Regs
scan_string_plan insn r free = then_plan (read_destination insn r) (λ b.
    Done (past_destination (compared r insn.size (reg_of r 0 insn.size) b free) insn))

-- ---- one iteration with a port, which has to be permitted first

-- the port is that of DX
abbrev pub string_port : Regs → ℕ
string_port r = reg_of r 2 B2

-- the instruction goes on behind itself, and uses a port
abbrev pub follow_with : PortUse → Regs → Plan After
follow_with access r = Done (record { regs = r; next = Follow; access = access })

-- the destination is checked and translated, then the port is read, and then what it gives is held
unfoldable pub input_string_plan : Insn → Regs → Plan After
input_string_plan insn r = then_plan (port_plan r (string_port r) insn.size) (λ _.
    checked (legal r Es (destination_index r insn.wide) insn.size true) (λ at.
    Translate at insn.size (Write (who_of r)) (λ place. Input (string_port r) insn.size (λ value.
    Hold place insn.size value (follow_with (Reads (string_port r) insn.size) (past_destination r insn))))))

-- the source is read, and then the port is written
unfoldable pub output_string_plan : Insn → Regs → Plan After
output_string_plan insn r = then_plan (port_plan r (string_port r) insn.size) (λ _.
    then_plan (read_source insn r) (λ value.
    follow_with (Writes (string_port r) insn.size value) (past_source r insn)))

-- ---- one iteration by its mnemonic

abbrev pub iterate_by : Op → Insn → Regs → ℕ → Plan After
iterate_by ops.Movs insn r free = then_plan (move_string_plan insn r) follow
iterate_by ops.Cmps insn r free = then_plan (compare_strings_plan insn r free) follow
iterate_by ops.Stos insn r free = then_plan (store_string_plan insn r) follow
iterate_by ops.Lods insn r free = then_plan (load_string_plan insn r) follow
iterate_by ops.Scas insn r free = then_plan (scan_string_plan insn r free) follow
iterate_by ops.Ins insn r free = input_string_plan insn r
iterate_by ops.Outs insn r free = output_string_plan insn r
iterate_by _ insn r free = no_such

unfoldable pub iterate_plan : Insn → Regs → ℕ → Plan After
iterate_plan insn r free = iterate_by insn.op insn r free

-- ---- repeats

abbrev pub compares : Op → Bool
compares ops.Cmps = true
compares ops.Scas = true
compares _ = false

-- REPE goes on while the numbers are equal, and REPNE while they are not
abbrev pub is_wanted : Rep → Bool → Bool
is_wanted rep.NotEqual equal = not equal
is_wanted _ equal = equal

-- more iterations follow one that left these registers
abbrev pub goes_on : Insn → Regs → Bool
goes_on insn r = not (count_of r insn.wide == 0) && (not (compares insn.op) || is_wanted insn.rep (is_set r.eflags ZF))

-- an iteration is counted, and EIP stays at the instruction while it goes on
abbrev pub counted_after : Insn → After → After
counted_after insn after = record after { regs = counted_down after.regs insn.wide; next = if goes_on insn (counted_down after.regs insn.wide) then Again else Follow }

-- one iteration, of a repeated instruction only where the count is not 0
abbrev pub repeating : Rep → Insn → Regs → ℕ → Plan After
repeating rep.Plain insn r free = iterate_plan insn r free
repeating _ insn r free = if count_of r insn.wide == 0 then follow r
    else then_plan (iterate_plan insn r free) (λ after. Done (counted_after insn after))

unfoldable pub string_plan : Insn → Regs → ℕ → Plan After
string_plan insn r free = repeating insn.rep insn r free
