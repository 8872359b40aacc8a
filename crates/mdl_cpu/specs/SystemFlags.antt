-- The flags of EFLAGS that are no status flags, and which flags an image gives. Manual, chapters 2, 4 and 17, under
-- POPF and IRET.
use Rattle.std.specs.Prelude.{◌≡◌, ◌<◌, ℕ, ◌+◌, ◌*◌, ◌/◌, ◌%◌, ◌^◌, ◌==◌, nat_le, true, false, if◌then◌else◌, bit_and, bit_or}
use Rattle.std.specs.Int.{w32, bit_not}
use Rattle.mdl_state.specs.declared.Regs.{Regs}
use Rattle.mdl_state.specs.Bytes.{bit}
use Rattle.mdl_num.specs.declared.status.TheConstants.{CF, PF, AF, ZF, SF, OF}

-- their places; IOPL has two bits from its place on
abbrev pub TF : ℕ
TF = 8

abbrev pub IF : ℕ
IF = 9

abbrev pub DF : ℕ
DF = 10

abbrev pub IOPL : ℕ
IOPL = 12

abbrev pub NT : ℕ
NT = 14

abbrev pub RF : ℕ
RF = 16

abbrev pub VM : ℕ
VM = 17

-- the privilege level that may still use ports, and set IF
abbrev pub io_level : Regs → ℕ
io_level r = r.eflags / 2 ^ IOPL % 4

-- Bit 1 is 1, and each bit that is no flag is 0: 3, 5, 15 and those above VM.
pub record AreFlags (eflags : ℕ) : Type 0 where
  pub one : bit eflags 1 ≡ true
  pub three : bit eflags 3 ≡ false
  pub five : bit eflags 5 ≡ false
  pub fifteen : bit eflags 15 ≡ false
  pub above : eflags < 2 ^ 18

-- ---- EFLAGS from an image, as POPF and IRET take it

-- the flags that they take at every privilege level, as bits
abbrev pub common_flags : ℕ
common_flags = 2 ^ CF + 2 ^ PF + 2 ^ AF + 2 ^ ZF + 2 ^ SF + 2 ^ TF + 2 ^ DF + 2 ^ OF + 2 ^ NT

-- with those that a privilege guards: IOPL is taken at level 0 alone, IF where CPL is at most IOPL. RF and VM are not among them.
abbrev pub taken_flags : Regs → ℕ
taken_flags r = common_flags + (if r.cpl == 0 then 3 * 2 ^ IOPL else 0) + (if nat_le r.cpl (io_level r) then 2 ^ IF else 0)

-- EFLAGS with these of its flags as the image has them, and each other bit as it stands
abbrev pub with_flags_from : ℕ → ℕ → ℕ → ℕ
with_flags_from image flags eflags = bit_or (bit_and image flags) (bit_and eflags (bit_not w32 flags))
