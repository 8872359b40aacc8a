-- The disk: its state, and how a command ends. After the ATA standard.
-- Own: A disk that answers at once. Own: What ends of commands raise.
use Rattle.std.specs.Prelude.{ℕ, ◌≤◌, ◌≡◌, ◌%◌, ◌&&◌, not, nat_lt, Bool, false, List, length, replicate}
use Rattle.mdl_state.specs.Bytes.{bit}
use Rattle.mdl_dev.specs.declared.disk.Registers.{Registers}
use Rattle.mdl_dev.specs.declared.disk.Geometry.{Geometry}
use Rattle.mdl_dev.specs.declared.disk.Transfer.{Transfer}
use Rattle.mdl_dev.specs.declared.disk.Work.TheVariants.{Nothing}
use Rattle.mdl_dev.specs.declared.disk.TheConstants.{DRIVE_ONE, NO_INTERRUPT, READY, FAILED, NO_FAULT_FOUND, SECTOR_BYTES, MOST_BYTES}

-- the disk: the register file, the block on its way to or from the guest, and the list of sectors
pub record DiskState : Type 0 where
  pub registers : Registers
  pub geometry : Geometry
  pub transfer : Transfer
  pub block : List ℕ
  pub sectors : List (List ℕ)

-- what an access leaves, and whether the disk raised its line
pub record Reaction : Type 0 where
  pub state : DiskState
  pub raised : Bool

-- a disk of no bytes is no drive, and there is no drive 1
abbrev pub answers : DiskState → Bool
answers d = nat_lt 0 (length d.sectors) && not (bit d.registers.head DRIVE_ONE)

-- the state is left without a raise
abbrev pub quietly : DiskState → Reaction
quietly d = record { state = d; raised = false }

-- the state is left with a raise, unless control holds it back
abbrev pub with_raise : DiskState → Reaction
with_raise d = record { state = d; raised = not (bit d.registers.control NO_INTERRUPT) }

-- nothing in work
abbrev pub idle : Transfer
idle = record { work = Nothing; left = 0; place = 0; lba = 0 }

abbrev pub with_status : ℕ → DiskState → DiskState
with_status status d = record d { registers = record d.registers { status = status } }

-- nothing is in work
abbrev pub dropped : DiskState → DiskState
dropped d = record d { transfer = idle }

-- a command ended well; the error register stays
abbrev pub done : DiskState → Reaction
done d = with_raise (with_status READY (dropped d))

-- a command ended in an error
abbrev pub failed : ℕ → DiskState → Reaction
failed error d = with_raise (record d {
  transfer = idle;
  registers = record d.registers { error = error; status = FAILED };
})

-- the registers after a diagnosis, with this status and this control: they tell of no fault
abbrev pub signature : ℕ → ℕ → Registers
signature status control = record {
  error = NO_FAULT_FOUND;
  count = 1;
  sector = 1;
  cylinder_low = 0;
  cylinder_high = 0;
  head = 0;
  status = status;
  control = control;
}

-- the disk when the machine is switched on, with these sectors
abbrev pub disk_at_boot : List (List ℕ) → DiskState
disk_at_boot sectors = record {
  registers = signature READY 0;
  geometry = record { heads = 16; sectors = 63 };
  transfer = idle;
  block = replicate SECTOR_BYTES 0;
  sectors = sectors;
}

-- the lengths of a disk, in bytes; 0 is no drive
pub record IsDiskLength (bytes : ℕ) : Type 0 where
  pub most : bytes ≤ MOST_BYTES
  pub whole : bytes % SECTOR_BYTES ≡ 0
