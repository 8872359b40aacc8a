-- The first registers of a task are sound, and page as the old ones do.
use Rattle.std.proofs.lemmas.Bool.{false≢true}
use Rattle.std.proofs.Common.{true≢false, ◌≡◌, ◌≢◌, ◌<◌, ◌≤◌, ℕ, ◌^◌, ◌==◌, Bool, true, false, refl, ap, sym, ◌∙◌, arith, max, min, bit_and}
use Rattle.std.specs.Prelude.{if◌then◌else◌}
use Rattle.std.specs.Int.{bit_at}
use Rattle.std.specs.Int.Bits.{and_le_r}
use Rattle.std.proofs.lemmas.Nat.{or_lt}
use Rattle.std.proofs.lemmas.Nat.Bits.{bit_at-lt, bit_at_or, bit_at_and}
use Rattle.mdl_state.specs.declared.Regs.{Regs}
use Rattle.mdl_state.specs.declared.Seg.TheVariants.{Cs}
use Rattle.mdl_state.specs.Bytes.{bit}
use Rattle.mdl_num.specs.Flags.{with_bit}
use Rattle.mdl_num.proofs.Places.{bit_at-with_bit_other, with_bit-lt}
use Rattle.mdl_cpu.specs.declared.Reason.{Reason}
use Rattle.mdl_cpu.specs.declared.Request.{Request}
use Rattle.mdl_cpu.specs.declared.Task.{Task}
use Rattle.mdl_cpu.specs.Segments.{has_protection}
use Rattle.mdl_cpu.specs.Descriptors.{rpl}
use Rattle.mdl_cpu.specs.SystemFlags.{NT, AreFlags, with_flags_from}
use Rattle.mdl_state.specs.State.{Mem}
use Rattle.mdl_state.specs.Accesses.{Keeps}
use Rattle.mdl_cpu.specs.Steady.{has_paging, IsSound, Agree, Steady, steady_sound}
use Rattle.mdl_cpu.specs.Tasks.{image_flags, image_selector, is_linked}
use Rattle.mdl_cpu.specs.NewTask.{every_flag, new_flags, is_virtual_image, begun}

-- ---- flags of an image

least : (a b : ℕ) → b ≡ 0 → min a b ≡ 0
least a b e = omega (arith, e)

whole : (a b : ℕ) → a < 2 → b ≡ 1 → min a b ≡ a
whole a b h e = omega (arith, h, e)

second : (a b c : ℕ) → a ≡ 0 → b ≡ c → max a b ≡ c
second a b c e f = omega (arith, e, f)

first_one : (a b c : ℕ) → b ≡ 0 → a ≡ c → max a b ≡ c
first_one a b c e f = omega (arith, e, f)

-- a bit that is no flag is as always, and one that is a flag is that of the image
fixed_bit : (image j c : ℕ) → bit_at every_flag j ≡ 0 → bit_at 2 j ≡ c → bit_at (with_flags_from image every_flag 2) j ≡ c
fixed_bit image j c clear e = bit_at_or (bit_and image every_flag) 2 j ∙ second _ _ c (bit_at_and image every_flag j ∙ least _ _ clear) e

taken_bit : (image j : ℕ) → bit_at every_flag j ≡ 1 → bit_at 2 j ≡ 0 → bit_at (with_flags_from image every_flag 2) j ≡ bit_at image j
taken_bit image j set e = bit_at_or (bit_and image every_flag) 2 j ∙ first_one _ _ _ e (bit_at_and image every_flag j ∙ whole _ _ (bit_at-lt image j) set)

within : (image : ℕ) → bit_and image every_flag < 2 ^ 18
within image = omega (arith, and_le_r image every_flag)

as_bit : (n j c : ℕ) → bit_at n j ≡ c → bit n j ≡ (c == 1)
as_bit n j c e = ap (λ v. v == 1) e

-- the flags, before NT is set
plain_flags : (image : ℕ) → AreFlags (with_flags_from image every_flag 2)
plain_flags image = record {
  one = as_bit _ 1 1 (fixed_bit image 1 1 refl refl);
  three = as_bit _ 3 0 (fixed_bit image 3 0 refl refl);
  five = as_bit _ 5 0 (fixed_bit image 5 0 refl refl);
  fifteen = as_bit _ 15 0 (fixed_bit image 15 0 refl refl);
  above = or_lt 18 (bit_and image every_flag) 2 (within image) (omega arith);
}

other_bit : (n j : ℕ) → j ≢ NT → bit (with_bit n NT 1) j ≡ bit n j
other_bit n j e = ap (λ v. v == 1) (bit_at-with_bit_other n NT 1 j (omega arith) e)

nested : (n : ℕ) → AreFlags n → AreFlags (with_bit n NT 1)
nested n h = record {
  one = other_bit n 1 (omega arith) ∙ h.one;
  three = other_bit n 3 (omega arith) ∙ h.three;
  five = other_bit n 5 (omega arith) ∙ h.five;
  fifteen = other_bit n 15 (omega arith) ∙ h.fifteen;
  above = with_bit-lt n NT 1 18 h.above (omega arith) (omega arith);
}

linked_flags : (linked : Bool) (n : ℕ) → AreFlags n → AreFlags (if linked then with_bit n NT 1 else n)
linked_flags true n h = nested n h
linked_flags false n h = h

linked_bit : (linked : Bool) (n : ℕ) → bit (if linked then with_bit n NT 1 else n) 17 ≡ bit n 17
linked_bit true n = other_bit n 17 (omega arith)
linked_bit false n = refl

flags_are : (reason : Reason) (image : ℕ) → AreFlags (new_flags reason image)
flags_are reason image = linked_flags (is_linked reason) _ (plain_flags image)

-- VM is that of the image
flags_virtual : (reason : Reason) (image : ℕ) → bit (new_flags reason image) 17 ≡ bit image 17
flags_virtual reason image = linked_bit (is_linked reason) _ ∙ ap (λ v. v == 1) (taken_bit image 17 refl refl)

-- ---- the level and CR0

level_of : (virtual : Bool) (sel : ℕ) → (if virtual then 3 else rpl sel) ≤ 3
level_of true sel = omega arith
level_of false sel = omega arith

virtual_level : (virtual : Bool) (sel : ℕ) → virtual ≡ true → (if virtual then 3 else rpl sel) ≡ 3
virtual_level true sel e = refl
virtual_level false sel e = absurd (false≢true e)

control_bit : (n j : ℕ) → j ≢ 3 → bit (with_bit n 3 1) j ≡ bit n j
control_bit n j e = ap (λ v. v == 1) (bit_at-with_bit_other n 3 1 j (omega arith) e)

unreal : (b : Bool) {A : Type 0} → b ≡ true → b ≡ false → A
unreal true e f = absurd (true≢false f)
unreal false e f = absurd (false≢true e)

begun_level : (r : Regs) (q : Request) (t : Task) → (begun r q t).cpl ≤ 3
unfolding begun
begun_level r q t = level_of (is_virtual_image t.image) (image_selector t.image Cs)

begun_paging : (r : Regs) (q : Request) (t : Task) → has_paging (begun r q t) ≡ has_paging r
unfolding begun
begun_paging r q t = control_bit r.cr0 31 (omega arith)

begun_sound : (r : Regs) (q : Request) (t : Task) → has_protection r ≡ true → IsSound (begun r q t)
unfolding begun
begun_sound r q t h =
    let protected : bit (with_bit r.cr0 3 1) 0 ≡ true = control_bit r.cr0 0 (omega arith) ∙ h in
    record {
      real = λ e. unreal _ protected e;
      virtual_level = λ e. virtual_level (is_virtual_image t.image) _ (sym (flags_virtual q.reason (image_flags t.image)) ∙ e);
      virtual_mode = λ _. protected;
      paged_mode = λ _. protected;
      level = level_of (is_virtual_image t.image) _;
      flags = flags_are q.reason (image_flags t.image);
    }

-- ---- behind the loads of the segments

-- memory pages as the registers say, with the directory of the first ones
pub agree_after : (r f s : Regs) (q : Request) (t : Task) (m d l n : Mem) → Agree r m → f ≡ begun r q t → d.paging ≡ m.paging → d.cr3 ≡ f.cr3 → Keeps d l → Keeps l n → Steady f s → Agree s n
agree_after r f s q t m d l n agree first same cr3 loads ends steady = record {
  paging = ends.paging ∙ loads.paging ∙ same ∙ agree.paging ∙ sym (begun_paging r q t) ∙ ap has_paging (sym first) ∙ ap (λ c. bit c 31) (sym steady.cr0);
  cr3 = ends.cr3 ∙ loads.cr3 ∙ cr3 ∙ sym steady.cr3;
}

pub level_after : (r f s : Regs) (q : Request) (t : Task) → f ≡ begun r q t → Steady f s → s.cpl ≤ 3
level_after r f s q t first steady = rw steady.cpl (rw first (begun_level r q t))

pub sound_after : (r f s : Regs) (q : Request) (t : Task) → f ≡ begun r q t → Steady f s → has_protection r ≡ true → IsSound s
sound_after r f s q t first steady protected = steady_sound f s steady (rw first (begun_sound r q t protected))
