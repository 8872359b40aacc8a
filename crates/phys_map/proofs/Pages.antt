-- Within a page the map has one kind of memory, and addresses count on behind the line A20.
use Rattle.std.specs.Prelude.{ℕ, ◌≡◌, ◌<◌, ◌+◌, ◌%◌, nat_lt, nat_le, Bool, true, false, refl}
use Rattle.std.proofs.Common.{arith}
use Rattle.mdl_state.specs.Memory.{gated, is_ram, screen_base}

pub gated_more : (a20 : Bool) (at n : ℕ) → at % 0x1000 + n < 0x1000 → gated a20 (at + n) ≡ gated a20 at + n
gated_more true at n h = refl
gated_more false at n h = omega arith

pub gated_page : (a20 : Bool) (at : ℕ) → gated a20 at % 0x1000 ≡ at % 0x1000
gated_page true at = refl
gated_page false at = omega arith

below_more : (end at n : ℕ) → end % 0x1000 ≡ 0 → at % 0x1000 + n < 0x1000 → nat_lt (at + n) end ≡ nat_lt at end
below_more end at n e h = grind arith

from_more : (end at n : ℕ) → end % 0x1000 ≡ 0 → at % 0x1000 + n < 0x1000 → nat_le end (at + n) ≡ nat_le end at
from_more end at n e h = grind arith

pub ram_more : (size at n : ℕ) → size % 0x100000 ≡ 0 → at % 0x1000 + n < 0x1000 → is_ram size (at + n) ≡ is_ram size at
ram_more size at n e h = rw (below_more 0xA0000 at n refl h) (rw (from_more screen_base at n refl h) (rw (below_more 0xC0000 at n refl h)
    (rw (from_more 0x100000 at n refl h) (rw (below_more size at n (omega arith) h) refl))))
