-- Whether a port is permitted does not go by the status flags that stand apart.
use Rattle.std.proofs.Common.{◌≡◌, ℕ, ◌+◌, ◌*◌, ◌/◌, ◌%◌, ◌^◌, refl, sym, ap, ◌∙◌, arith}
use Rattle.std.specs.Int.{bit_at}
use Rattle.mdl_state.specs.declared.Size.{Size}
use Rattle.mdl_state.specs.declared.Regs.{Regs}
use Rattle.mdl_cpu.specs.SystemFlags.{IOPL, VM, io_level}
use Rattle.mdl_state.specs.State.{Mem}
use Rattle.mdl_state.specs.Serving.{Outcome, Serve}
use Rattle.mdl_state.specs.Attempt.{tried}
use Rattle.mdl_cpu.specs.Virtual.{port_plan}
use Rattle.lazy_flags.specs.Keeper.{with_status}
use Rattle.operands.specs.Whole.{whole}
use Rattle.operands.proofs.Statuses.{kept_bit}

virtual_kept : (e F : ℕ) → bit_at (with_status e F) VM ≡ bit_at e VM
virtual_kept e F = kept_bit e F VM (omega arith) (omega arith)

-- IOPL as two bits
two_bits : (n : ℕ) → n / 2 ^ IOPL % 4 ≡ bit_at n 12 + 2 * bit_at n 13
two_bits n = omega arith

level_kept : (r : Regs) (F : ℕ) → io_level (whole r F) ≡ io_level r
level_kept r F = two_bits (with_status r.eflags F)
    ∙ (ap (λ b. b + 2 * bit_at (with_status r.eflags F) 13) (kept_bit r.eflags F 12 (omega arith) (omega arith))
    ∙ ap (λ b. bit_at r.eflags 12 + 2 * b) (kept_bit r.eflags F 13 (omega arith) (omega arith)))
    ∙ sym (two_bits r.eflags)

port_kept : (r : Regs) (F port : ℕ) (size : Size) → port_plan (whole r F) port size ≡ port_plan r port size
unfolding port_plan
port_kept r F port size = rw (virtual_kept r.eflags F, level_kept r F) refl

-- what comes of asking, with the flags in EFLAGS
pub permission_kept : (serve : Serve) (given : ℕ) (r : Regs) (F port named : ℕ) (size : Size) (m n : Mem) (answer : Outcome (Unit {0})) → port ≡ named
    → (answer, n) ≡ tried serve given (port_plan r port size) m → (answer, n) ≡ tried serve given (port_plan (whole r F) named size) m
permission_kept serve given r F port named size m n answer same h = h
    ∙ ap (λ p. tried serve given p m) (sym (port_kept r F port size))
    ∙ ap (λ k. tried serve given (port_plan (whole r F) k size) m) same
