-- The state after a reset. Manual, chapter 10. Own: The registers after a reset.
use Rattle.std.specs.Prelude.{ℕ, ◌*◌, List, [], ◌∷◌, true, false, replicate}
use Rattle.std.specs.FinMap.{empty}
use Rattle.mdl_state.specs.declared.Regs.{Regs}
use Rattle.mdl_state.specs.declared.Hidden.{Hidden}
use Rattle.mdl_state.specs.declared.Latches.{Latches}
use Rattle.mdl_state.specs.declared.Activity.TheVariants.{Running}
use Rattle.mdl_state.specs.State.{Physical, Core, Mem, State}

-- a data segment: the first 64 KiB, present, writable, accessed
abbrev pub reset_data : Hidden
reset_data = record { sel = 0; base = 0; limit = 0xFFFF; rights = 0x93 }

-- the code segment: the last 64 KiB of the address space, present, readable, accessed
abbrev pub reset_code : Hidden
reset_code = record { sel = 0xF000; base = 0xFFFF0000; limit = 0xFFFF; rights = 0x9B }

-- a segment register that can't be used
abbrev pub unusable : Hidden
unusable = record { sel = 0; base = 0; limit = 0; rights = 0 }

-- DH is 3 and DL is 8, the processor's type and revision
abbrev pub reset_regs : Regs
reset_regs = record {
  gpr = 0 ∷ 0 ∷ 0x308 ∷ 0 ∷ 0 ∷ 0 ∷ 0 ∷ 0 ∷ [];
  eip = 0xFFF0;
  eflags = 2;
  seg = reset_data ∷ reset_code ∷ reset_data ∷ reset_data ∷ reset_data ∷ reset_data ∷ [];
  ldtr = unusable;
  tr = unusable;
  gdt_base = 0;
  gdt_limit = 0xFFFF;
  idt_base = 0;
  idt_limit = 0x3FF;
  cr0 = 0;
  cr2 = 0;
  cr3 = 0;
  dr = 0 ∷ 0 ∷ 0 ∷ 0 ∷ [];
  dr6 = 0;
  dr7 = 0;
  cpl = 0;
}

-- nothing is latched, masked, held back or pending
abbrev pub clear_latches : Latches
clear_latches = record { nmi = false; masked = false; hold = 0; pending = 0 }

abbrev pub reset_core : Core
reset_core = record { regs = reset_regs; activity = Running; latches = clear_latches; steps = 0 }

-- physical memory reached with paging off and nothing cached
abbrev pub plain_mem : Physical → Mem
plain_mem physical = record { physical = physical; paging = false; cr3 = 0; cache = empty; held = []; walks = 0; served = []; watch = []; hits = 0 }

-- the state after a reset, with these bytes of RAM and ROM; A20 is on
abbrev pub reset_state : List ℕ → List ℕ → State
reset_state ram rom = record { core = reset_core; mem = plain_mem (record { ram = ram; rom = rom; a20 = true }) }

-- RAM of so many mebibytes, all zero
unfoldable pub empty_ram : ℕ → List ℕ
empty_ram mebibytes = replicate (mebibytes * 0x100000) 0

-- the state at boot, with so many mebibytes of RAM
abbrev pub boot : ℕ → List ℕ → State
boot mebibytes rom = reset_state (empty_ram mebibytes) rom
