-- The report of a state with its screen: seventeen lines of registers, and the 25 lines of the screen. Own: The report.
use Rattle.std.specs.Prelude.{ℕ, ◌+◌, ◌*◌, ◌%◌, ◌==◌, ◌&&◌, nat_le, if◌then◌else◌, List, ◌++◌, codes, map, slice_index}
use Rattle.std.specs.Int.{to_be_bytes, w16, w32}
use Rattle.std.specs.Fmt.{decimal}
use Rattle.std.specs.List.{flat_map, range_with_len}
use Rattle.hex.specs.Hex.{encode_lower}
use Rattle.mdl_state.specs.declared.Regs.{Regs}
use Rattle.mdl_state.specs.declared.Hidden.{Hidden}
use Rattle.mdl_state.specs.declared.Activity.{Activity}
use Rattle.mdl_state.specs.declared.Activity.TheVariants.{Running, Halted, Shutdown}
use Rattle.mdl_state.specs.declared.Seg.TheVariants.{Es, Cs, Ss, Ds, Fs, Gs}
use Rattle.mdl_state.specs.State.{Physical, State}
use Rattle.mdl_state.specs.Memory.{byte_at, screen_base}
use Rattle.mdl_state.specs.Registers.{seg_of}

-- a name, and a number in four or eight digits
abbrev pub named4 : List ℕ → ℕ → List ℕ
named4 name n = name ++ encode_lower (to_be_bytes w16 n)

abbrev pub named8 : List ℕ → ℕ → List ℕ
named8 name n = name ++ encode_lower (to_be_bytes w32 n)

abbrev pub activity_text : Activity → List ℕ
activity_text Running = codes "running"
activity_text Halted = codes "halted"
activity_text Shutdown = codes "shutdown"

unfoldable pub steps_line : ℕ → List ℕ
steps_line steps = codes "steps " ++ decimal steps ++ codes "\n"

unfoldable pub state_line : Activity → List ℕ
state_line activity = codes "state " ++ activity_text activity ++ codes "\n"

unfoldable pub accumulators_line : Regs → List ℕ
accumulators_line r = named8 (codes "eax=") (slice_index r.gpr 0) ++ named8 (codes " ecx=") (slice_index r.gpr 1)
    ++ named8 (codes " edx=") (slice_index r.gpr 2) ++ named8 (codes " ebx=") (slice_index r.gpr 3) ++ codes "\n"

unfoldable pub pointers_line : Regs → List ℕ
pointers_line r = named8 (codes "esp=") (slice_index r.gpr 4) ++ named8 (codes " ebp=") (slice_index r.gpr 5)
    ++ named8 (codes " esi=") (slice_index r.gpr 6) ++ named8 (codes " edi=") (slice_index r.gpr 7) ++ codes "\n"

unfoldable pub control_line : Regs → List ℕ
control_line r = named8 (codes "eip=") r.eip ++ named8 (codes " efl=") r.eflags
    ++ named8 (codes " cr0=") r.cr0 ++ named8 (codes " cr2=") r.cr2 ++ named8 (codes " cr3=") r.cr3 ++ codes "\n"

unfoldable pub segment_line : List ℕ → Hidden → List ℕ
segment_line name h = name ++ named4 (codes " sel=") h.sel ++ named8 (codes " base=") h.base
    ++ named8 (codes " limit=") h.limit ++ named4 (codes " rights=") h.rights ++ codes "\n"

unfoldable pub segment_lines : Regs → List ℕ
segment_lines r = segment_line (codes "es") (seg_of r Es) ++ segment_line (codes "cs") (seg_of r Cs)
    ++ segment_line (codes "ss") (seg_of r Ss) ++ segment_line (codes "ds") (seg_of r Ds)
    ++ segment_line (codes "fs") (seg_of r Fs) ++ segment_line (codes "gs") (seg_of r Gs)
    ++ segment_line (codes "ldt") r.ldtr ++ segment_line (codes "tr") r.tr

unfoldable pub table_line : List ℕ → ℕ → ℕ → List ℕ
table_line name base limit = name ++ named8 (codes " base=") base ++ named4 (codes " limit=") limit ++ codes "\n"

unfoldable pub debug_line : Regs → List ℕ
debug_line r = named8 (codes "dr0=") (slice_index r.dr 0) ++ named8 (codes " dr1=") (slice_index r.dr 1)
    ++ named8 (codes " dr2=") (slice_index r.dr 2) ++ named8 (codes " dr3=") (slice_index r.dr 3)
    ++ named8 (codes " dr6=") r.dr6 ++ named8 (codes " dr7=") r.dr7 ++ codes "\n"

unfoldable pub last_line : ℕ → ℕ → ℕ → ℕ → List ℕ
last_line cpl walks start cursor = codes "cpl=" ++ decimal cpl ++ codes " walks=" ++ decimal walks
    ++ named4 (codes " start=") start ++ named4 (codes " cursor=") cursor ++ codes "\n"

-- the lines of the registers, with the number of walks, the cell where the screen starts, and that of its cursor
unfoldable pub register_lines : State → ℕ → ℕ → ℕ → List ℕ
register_lines s walks start cursor = steps_line s.core.steps ++ state_line s.core.activity
    ++ accumulators_line s.core.regs ++ pointers_line s.core.regs ++ control_line s.core.regs ++ segment_lines s.core.regs
    ++ table_line (codes "gdt") s.core.regs.gdt_base s.core.regs.gdt_limit ++ table_line (codes "idt") s.core.regs.idt_base s.core.regs.idt_limit
    ++ debug_line s.core.regs ++ last_line s.core.regs.cpl walks start cursor

-- a character of the screen as it is printed: 0 as a space, and what is not printable as a dot
abbrev pub printed : ℕ → ℕ
printed code = if code == 0 then 0x20 else if nat_le 0x20 code && nat_le code 0x7E then code else 0x2E

-- the address of a cell's character; the cells go round in 32 KiB
abbrev pub cell_address : ℕ → ℕ → ℕ
cell_address start cell = screen_base + 2 * ((start + cell) % 0x4000)

-- the 80 cells of a row
unfoldable pub screen_line : Physical → ℕ → ℕ → List ℕ
screen_line physical start row = map (λ (column : ℕ). printed (byte_at physical (cell_address start (80 * row + column)))) (range_with_len 0 80) ++ codes "\n"

-- the 25 rows
unfoldable pub screen_lines : Physical → ℕ → List ℕ
screen_lines physical start = flat_map (screen_line physical start) (range_with_len 0 25)

-- the report
unfoldable pub report_text : State → ℕ → ℕ → ℕ → List ℕ
report_text s walks start cursor = register_lines s walks start cursor ++ screen_lines s.mem.physical start
