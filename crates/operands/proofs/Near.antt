-- An access in real mode or V86 is legal where its last byte lies within the limit.
use Rattle.std.proofs.Common.{◌≡◌, ◌≤◌, ℕ, ◌+◌, ◌-◌, ◌^◌, ◌%◌, Bool, true, false, refl, ◌∙◌, arith}
use Rattle.std.specs.Prelude.{nat_le, Ok}
use Rattle.std.proofs.lemmas.Bool.Decides.{nat_tests}
use Rattle.mdl_state.specs.declared.Regs.{Regs}
use Rattle.mdl_state.specs.declared.Seg.{Seg}
use Rattle.mdl_state.specs.declared.Size.{Size}
use Rattle.mdl_state.specs.Bytes.{bytes_of}
use Rattle.mdl_state.specs.Registers.{seg_of}
use Rattle.mdl_cpu.specs.Segments.{is_protected}
use Rattle.mdl_cpu.specs.Access.{legal}
use Rattle.seg_unit.proofs.Inside.{inside_up}
use Rattle.operands.specs.Whole.{whole}
use Rattle.operands.proofs.Modes.{legal_kept}

below : (a b : ℕ) → a ≤ b → nat_le a b ≡ true
below a b h = grind (arith, nat_tests, h)

own : (r : Regs) (seg : Seg) (offset : ℕ) (size : Size) (write : Bool) → is_protected r ≡ false → offset + (bytes_of size - 1) ≤ (seg_of r seg).limit
    → legal r seg offset size write ≡ Ok (((seg_of r seg).base + offset) % 2 ^ 32)
unfolding legal
own r seg offset size write plain inside = rw plain (rw (inside_up false (seg_of r seg) offset size refl ∙ below _ _ inside) refl)

pub near_legal : (r : Regs) (F : ℕ) (seg : Seg) (offset : ℕ) (size : Size) (write : Bool) → is_protected r ≡ false → offset + (bytes_of size - 1) ≤ (seg_of r seg).limit
    → legal (whole r F) seg offset size write ≡ Ok (((seg_of r seg).base + offset) % 2 ^ 32)
near_legal r F seg offset size write plain inside = legal_kept r F seg offset size write ∙ own r seg offset size write plain inside

pub ruleset near = (near_legal)
