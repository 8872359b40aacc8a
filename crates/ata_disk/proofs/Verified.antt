-- Sectors tested one after another are tested at once.
use Rattle.std.specs.Prelude.{ℕ, zero, suc, ◌≡◌, ◌≤◌, ◌<◌, ◌+◌, ◌-◌, ◌*◌, ◌/◌, ◌%◌, ◌^◌, ◌==◌, nat_lt, Bool, true, false, if◌then◌else◌, refl, length}
use Rattle.std.proofs.Common.{arith, ap, sym, ◌∙◌}
use Rattle.mdl_state.specs.Bytes.{bit}
use Rattle.mdl_dev.specs.declared.disk.Registers.{Registers}
use Rattle.mdl_dev.specs.declared.disk.Geometry.{Geometry}
use Rattle.mdl_dev.specs.declared.disk.TheConstants.{ID_NOT_FOUND}
use Rattle.mdl_dev.specs.Disk.{DiskState, done, failed}
use Rattle.mdl_dev.specs.DiskAddresses.{shown, shown_as_lba, shown_as_chs, showing}
use Rattle.mdl_dev.specs.DiskTransfer.{counted}
use Rattle.mdl_dev.specs.DiskCommands.{verified}
use Rattle.ata_disk.specs.Counted.{counted_by}

-- another head leaves bit 6 and the high half of the register
same_mode : (head x : ℕ) → x < 16 → bit (head / 16 * 16 + x) 6 ≡ bit head 6
same_mode head x small = let e : (head / 16 * 16 + x) / 64 % 2 ≡ head / 64 % 2 = omega arith in ap (λ n. n == 1) e

same_high : (head x : ℕ) → x < 16 → (head / 16 * 16 + x) / 16 * 16 ≡ head / 16 * 16
same_high head x small = omega arith

one_less : Registers → Registers
one_less r = record r { count = (r.count + 255) % 256 }

again_by : (g : Geometry) (a b : ℕ) (r : Registers) (v : Bool) → 1 ≤ g.heads → g.heads ≤ 16 → bit r.head 6 ≡ v →
    shown g b (one_less (if v then shown_as_lba a r else shown_as_chs g a r)) ≡ one_less (if v then shown_as_lba b r else shown_as_chs g b r)
unfolding shown one_less
again_by g a b r true some few e =
    let mode : bit (r.head / 16 * 16 + a / 2 ^ 24 % 16) 6 ≡ true = same_mode r.head (a / 2 ^ 24 % 16) (omega arith) ∙ e in
    rw (mode, same_high r.head (a / 2 ^ 24 % 16) (omega arith)) refl
again_by g a b r false some few e =
    let small : a / g.sectors % g.heads < 16 = omega arith in
    let mode : bit (r.head / 16 * 16 + a / g.sectors % g.heads) 6 ≡ false = same_mode r.head (a / g.sectors % g.heads) small ∙ e in
    rw (mode, same_high r.head (a / g.sectors % g.heads) small) refl

again : (g : Geometry) (a b : ℕ) (r : Registers) → 1 ≤ g.heads → g.heads ≤ 16 → shown g b (one_less (shown g a r)) ≡ one_less (shown g b r)
unfolding shown
again g a b r some few = again_by g a b r (bit r.head 6) some few refl

-- a sector is finished and the next one shown: only the count tells of the first
next_shown : (d : DiskState) (a b : ℕ) → 1 ≤ d.geometry.heads → d.geometry.heads ≤ 16 → showing b (counted (showing a d)) ≡ counted (showing b d)
unfolding one_less
next_shown d a b some few = ap (λ (r : Registers). let e : DiskState = record d { registers = r } in e) (again d.geometry a b d.registers some few)

counted_more : (m : ℕ) (d : DiskState) → m ≤ 255 → counted_by m (counted d) ≡ counted_by (m + 1) d
counted_more m d few =
    let e : (256 + (d.registers.count + 255) % 256 - m) % 256 ≡ (256 + d.registers.count - (m + 1)) % 256 = omega arith in
    ap (λ n. let e : DiskState = record d { registers = record d.registers { count = n } } in e) e

counted_once : (d : DiskState) → counted d ≡ counted_by 1 d
counted_once d =
    let e : (d.registers.count + 255) % 256 ≡ (256 + d.registers.count - 1) % 256 = omega arith in
    ap (λ n. let e : DiskState = record d { registers = record d.registers { count = n } } in e) e

-- a sector that the disk has is passed
pass : (left lba : ℕ) (d : DiskState) → lba < length d.sectors → verified (suc left) lba d ≡ verified left (lba + 1) (counted (showing lba d))
unfolding verified
pass left lba d there = let test : nat_lt lba (length d.sectors) ≡ true = grind arith in rw test refl

-- one that the disk has not ends the command
stop : (left lba : ℕ) (d : DiskState) → length d.sectors ≤ lba → verified (suc left) lba d ≡ failed ID_NOT_FOUND (showing lba d)
unfolding verified
stop left lba d behind = let test : nat_lt lba (length d.sectors) ≡ false = grind arith in rw test refl

all_pass : (left lba : ℕ) (d : DiskState) → 1 ≤ d.geometry.heads → d.geometry.heads ≤ 16 → left ≤ 255 → lba + left < length d.sectors →
    verified (suc left) lba d ≡ done (counted_by (suc left) (showing (lba + left) d))
unfolding verified
all_pass zero lba d some few most there =
    let at : lba + 0 ≡ lba = omega arith in
    pass 0 lba d (omega arith) ∙ ap done (counted_once (showing lba d)) ∙ ap (λ n. done (counted_by 1 (showing n d))) (sym at)
all_pass (suc left) lba d some few most there =
    let next = all_pass left (lba + 1) (counted (showing lba d)) some few (omega arith) (omega arith) in
    let at : lba + 1 + left ≡ lba + suc left = omega arith in
    let shows = next_shown d lba (lba + suc left) some few in
    let counts = counted_more (suc left) (showing (lba + suc left) d) (omega arith) in
    let more : suc left + 1 ≡ suc (suc left) = omega arith in
    pass (suc left) lba d (omega arith) ∙ next
    ∙ ap (λ n. done (counted_by (suc left) (showing n (counted (showing lba d))))) at
    ∙ ap (λ (e : DiskState). done (counted_by (suc left) e)) shows
    ∙ ap done counts
    ∙ ap (λ m. done (counted_by m (showing (lba + suc left) d))) more

some_pass : (n left lba : ℕ) (d : DiskState) → 1 ≤ d.geometry.heads → d.geometry.heads ≤ 16 → n ≤ 255 → suc n < left → lba + suc n ≡ length d.sectors →
    verified left lba d ≡ failed ID_NOT_FOUND (counted_by (suc n) (showing (lba + suc n) d))
some_pass n zero lba d some few most more there = absurd (omega arith)
some_pass zero (suc zero) lba d some few most more there = absurd (omega arith)
some_pass zero (suc (suc left)) lba d some few most more there =
    pass (suc left) lba d (omega arith) ∙ stop left (lba + 1) (counted (showing lba d)) (omega arith)
    ∙ ap (λ (e : DiskState). failed ID_NOT_FOUND e) (next_shown d lba (lba + 1) some few ∙ counted_once (showing (lba + 1) d))
some_pass (suc n) (suc left) lba d some few most more there =
    let next = some_pass n left (lba + 1) (counted (showing lba d)) some few (omega arith) (omega arith) (omega arith) in
    let at : lba + 1 + suc n ≡ lba + suc (suc n) = omega arith in
    let shows = next_shown d lba (lba + suc (suc n)) some few in
    let counts = counted_more (suc n) (showing (lba + suc (suc n)) d) (omega arith) in
    let again : suc n + 1 ≡ suc (suc n) = omega arith in
    pass left lba d (omega arith) ∙ next
    ∙ ap (λ k. failed ID_NOT_FOUND (counted_by (suc n) (showing k (counted (showing lba d))))) at
    ∙ ap (λ (e : DiskState). failed ID_NOT_FOUND (counted_by (suc n) e)) shows
    ∙ ap (failed ID_NOT_FOUND) counts
    ∙ ap (λ m. failed ID_NOT_FOUND (counted_by m (showing (lba + suc (suc n)) d))) again

-- where the disk has all of them, the last is shown
pub tested_all : (left lba : ℕ) (d : DiskState) → 1 ≤ d.geometry.heads → d.geometry.heads ≤ 16 → 1 ≤ left → left ≤ 256 → lba + left ≤ length d.sectors →
    verified left lba d ≡ done (counted_by left (showing (lba + left - 1) d))
tested_all zero lba d some few one most there = absurd (omega arith)
tested_all (suc left) lba d some few one most there =
    let at : lba + suc left - 1 ≡ lba + left = omega arith in
    rw at (all_pass left lba d some few (omega arith) (omega arith))

-- where it has only some, the first that it has not
pub tested_some : (left lba : ℕ) (d : DiskState) → 1 ≤ d.geometry.heads → d.geometry.heads ≤ 16 → lba < length d.sectors → length d.sectors - lba < left → left ≤ 256 →
    verified left lba d ≡ failed ID_NOT_FOUND (counted_by (length d.sectors - lba) (showing (lba + (length d.sectors - lba)) d))
tested_some left lba d some few there more most =
    let n : suc (length d.sectors - lba - 1) ≡ length d.sectors - lba = omega arith in
    some_pass (length d.sectors - lba - 1) left lba d some few (omega arith) (omega arith) (omega arith)
    ∙ ap (λ k. failed ID_NOT_FOUND (counted_by k (showing (lba + k) d))) n
