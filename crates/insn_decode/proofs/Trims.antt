-- Wherever a row's tree asks for a byte, some bytes complete it.
use Rattle.std.proofs.Common.{◌≡◌, ℕ, zero, suc, ◌+◌, ◌*◌, ◌<◌, Bool, true, false, cond, not, ◌&&◌, ◌||◌, List, [], ◌∷◌, ◌++◌, refl, ap, subst, ◌∙◌, arith, zero-add, nat_lt, rules, tests}
use Rattle.std.specs.Prelude.{◌==◌}
use Rattle.std.specs.List.{AllByRecursion, list_any, list_all, range_with_len}
use Rattle.std.proofs.lemmas.List.FromFn.{get_or-range_with_len}
use Rattle.mdl_insn.specs.declared.rows.Setting.{Setting}
use Rattle.mdl_insn.specs.declared.rows.Row.{Row}
use Rattle.mdl_insn.specs.declared.rows.Entry.{Entry}
use Rattle.mdl_insn.specs.declared.rows.Entry.TheVariants.{Undefined, One, Group}
use Rattle.mdl_insn.proofs.PrefixEnds.{all_in, rest_tree}
use Rattle.mdl_insn.specs.Tree.{Tree, Done, Fail, Take, ◌>>=◌, after, IsBytes, byte_tree, number_tree, guard}
use Rattle.mdl_insn.specs.Rows.{one_entry, two_entry, member_entry}
use Rattle.mdl_insn.specs.Addresses.{has_modrm, mod_of, reg_of, sib_len, disp_len}
use Rattle.mdl_insn.specs.Operands.{allows, form_allows, lockable, own_len, group_locks}
use Rattle.mdl_insn.specs.Spelling.{insn_of}
use Rattle.mdl_insn.specs.Fits.{is_entry}
use Rattle.mdl_insn.specs.RowTree.{Head, Chosen, starts, head_of, chosen_of, entry_tree, opcode_tree, member_tree, entry_modrm_tree, modrm_tree, place_of, behind_tree, row_tree}
use Rattle.mdl_insn.proofs.Tables.{one-fits, two-fits}
use Rattle.mdl_insn.proofs.Trees.{after_bind}
use Rattle.mdl_insn.proofs.Grammar.{form_zero, and_true}

-- some bytes lead to an end
pub record Live {A : Type 0} (t : Tree A) : Type 0 where
  pub bytes : List ℕ
  pub end : A
  pub fit : IsBytes bytes
  pub leads : after t bytes ≡ Done end

-- so wherever it asks
abbrev pub Trim : {A : Type 0} → Tree A → Type 0
Trim (Done a) = Unit {0}
Trim Fail = Unit {0}
Trim (Take k) = Live (Take k) × ((b : ℕ) → b < 256 → Trim (k b))

-- each end has the property
abbrev pub Ends : {A : Type 0} → (A → Type 0) → Tree A → Type 0
Ends P (Done a) = P a
Ends P Fail = Unit {0}
Ends P (Take k) = (b : ℕ) → b < 256 → Ends P (k b)

pub append_fit : (x y : List ℕ) → IsBytes x → IsBytes y → IsBytes (x ++ y)
append_fit [] y p q = q
append_fit (b ∷ x) y p q = (p.0, append_fit x y p.1 q)

ends_at : {A : Type 0} (P : A → Type 0) (t : Tree A) (x : List ℕ) (a : A) → Ends P t → IsBytes x → after t x ≡ Done a → P a
ends_at P (Done b) [] a e fit h = let P' = P in subst P' (let q : Done b ≡ Done a = h in cc) e
ends_at P (Done b) (c ∷ x) a e fit h = absurd cc
ends_at P Fail [] a e fit h = absurd cc
ends_at P Fail (c ∷ x) a e fit h = absurd cc
ends_at P (Take k) [] a e fit h = absurd cc
ends_at P (Take k) (c ∷ x) a e fit h = ends_at P (k c) x a (e c fit.0) fit.1 h

pub live_bind : {A B : Type 0} (P : A → Type 0) (t : Tree A) (f : A → Tree B) → Live t → Ends P t → ((a : A) → P a → Live (f a)) → Live (t >>= f)
live_bind P t f l e g =
    let next = g l.end (ends_at P t l.bytes l.end e l.fit l.leads) in
    record { bytes = l.bytes ++ next.bytes; end = next.end; fit = append_fit l.bytes next.bytes l.fit next.fit; leads = after_bind t f l.bytes next.bytes l.end l.leads ∙ next.leads }

pub trim_bind : {A B : Type 0} (P : A → Type 0) (t : Tree A) (f : A → Tree B) → Trim t → Ends P t → ((a : A) → P a → Trim (f a)) → ((a : A) → P a → Live (f a)) → Trim (t >>= f)
trim_bind P (Done a) f t e g h = g a e
trim_bind P Fail f t e g h = tt
trim_bind P (Take k) f t e g h = (live_bind P (Take k) f t.0 e h, λ b lt. trim_bind P (k b) f (t.1 b lt) (e b lt) g h)

ends_any : {A : Type 0} (t : Tree A) → Ends (λ _. Unit {0}) t
ends_any (Done a) = tt
ends_any Fail = tt
ends_any (Take k) = λ b _. ends_any (k b)

pub record Sound {A : Type 0} (t : Tree A) : Type 0 where
  pub trim : Trim t
  pub live : Live t

sound_bind : {A B : Type 0} (t : Tree A) (f : A → Tree B) → Sound t → ((a : A) → Sound (f a)) → Sound (t >>= f)
sound_bind t f s g = record {
  trim = trim_bind (λ _. Unit {0}) t f s.trim (ends_any t) (λ a _. (g a).trim) (λ a _. (g a).live);
  live = live_bind (λ _. Unit {0}) t f s.live (ends_any t) (λ a _. (g a).live);
}

sound_done : {A : Type 0} (a : A) → Sound (Done a)
sound_done a = record { trim = tt; live = record { bytes = []; end = a; fit = tt; leads = refl } }

sound_number : (n : ℕ) → Sound (number_tree n)
unfolding number_tree
sound_number zero = sound_done 0
sound_number (suc n) =
    let next : (b : ℕ) → Sound (number_tree n >>= λ v. Done (b + 256 * v)) = λ b. sound_bind (number_tree n) (λ v. Done (b + 256 * v)) (sound_number n) (λ v. sound_done (b + 256 * v)) in
    let l : Live (number_tree (suc n)) = record { bytes = 0 ∷ (next 0).live.bytes; end = (next 0).live.end; fit = (omega arith, (next 0).live.fit); leads = (next 0).live.leads } in
    record { trim = (l, λ b _. (next b).trim); live = l }

pub sound_behind : (s : Setting) (c : Chosen) → Sound (behind_tree s c)
unfolding behind_tree
sound_behind s c =
    sound_bind (number_tree (sib_len s c.row c.modrm)) _ (sound_number _) (λ sib.
    sound_bind (number_tree (disp_len s c.row c.modrm sib)) _ (sound_number _) (λ d.
    sound_bind (number_tree (own_len s c.row.a)) _ (sound_number _) (λ x.
    sound_bind (number_tree (own_len s c.row.b)) _ (sound_number _) (λ y.
    sound_bind (number_tree (own_len s c.row.c)) _ (sound_number _) (λ z.
    sound_done (insn_of s c.row (place_of s c sib d) x y z))))))

-- ---- the ModRM byte

abbrev test_row : Bool → Entry → ℕ → Bool
test_row lock (One r) m = form_allows r.a m && form_allows r.b m && (not lock || (lockable r && nat_lt (mod_of m) 3))
test_row lock _ m = false

abbrev any_member : Bool → ℕ → Bool
any_member lock g = list_any (λ k. test_row lock (member_entry g k) (8 * k)) (range_with_len 0 8)

abbrev test_group : ℕ → Bool
test_group g = any_member false g && (not (group_locks g) || any_member true g)

groups_tested : list_all test_group (range_with_len 0 19) ≡ true
unfolding member_entry group_locks
groups_tested = refl

any_in : (p : ℕ → Bool) (xs : List ℕ) → AllByRecursion (λ k. k < 8) xs → list_any p xs ≡ true → (k : ℕ) × (k < 8) × (p k ≡ true)
any_in p [] h e = absurd cc
any_in p (x ∷ xs) h e =
    elim (p x) as (λ v. p x ≡ v → (v || list_any p xs) ≡ true → (k : ℕ) × (k < 8) × (p k ≡ true)) [
      | true ↦ λ t _. (x, h.0, t)
      | false ↦ λ t q. any_in p xs h.1 q
    ] refl e

eight_below : AllByRecursion (λ k. k < 8) (range_with_len 0 8)
eight_below = (omega arith, (omega arith, (omega arith, (omega arith, (omega arith, (omega arith, (omega arith, (omega arith, tt))))))))

group_good : (g : ℕ) → g < 19 → test_group g ≡ true
group_good g lt =
    let h = all_in test_group (range_with_len 0 19) g groups_tested lt in
    subst (λ (k : ℕ). test_group k ≡ true) (get_or-range_with_len 0 19 g 0 lt ∙ zero-add g) h

group_member : (lock : Bool) (g : ℕ) → g < 19 → starts lock (Group g) ≡ true → any_member lock g ≡ true
group_member false g lt e = (and_true (any_member false g) (not (group_locks g) || any_member true g) (group_good g lt)).0
group_member true g lt e =
    elim (group_locks g) as (λ v. v ≡ true → (not v || any_member true g) ≡ true → any_member true g ≡ true) [ true ↦ λ _ q. q | false ↦ λ p _. absurd cc ]
    e (and_true (any_member false g) (not (group_locks g) || any_member true g) (group_good g lt)).1

reg_eight : (k : ℕ) → k < 8 → reg_of (8 * k) ≡ k
reg_eight k lt = omega arith

-- a row that a test lets through
row_tested : (s : Setting) (e : Entry) (m : ℕ) (b : ℕ) → test_row s.lock e m ≡ true → (c : Chosen) × (after (member_tree s e b m) [] ≡ Done c)
row_tested s Undefined m b h = absurd cc
row_tested s (Group g) m b h = absurd cc
row_tested s (One r) m b h = (chosen_of r b m, ap (λ v. after (guard v (Done (chosen_of r b m))) []) h)

end_trim : {A : Type 0} (g : Bool) (a : A) → Trim (guard g (Done a))
end_trim true a = tt
end_trim false a = tt

member_trim : (s : Setting) (e : Entry) (b m : ℕ) → Trim (member_tree s e b m)
member_trim s Undefined b m = tt
member_trim s (One r) b m = end_trim (allows s r m) (chosen_of r b m)
member_trim s (Group g) b m = tt

group_sound : (s : Setting) (g b : ℕ) → g < 19 → starts s.lock (Group g) ≡ true → Sound (entry_modrm_tree s (Group g) b)
group_sound s g b lt st =
    let w = any_in (λ k. test_row s.lock (member_entry g k) (8 * k)) (range_with_len 0 8) eight_below (group_member s.lock g lt st) in
    let m = 8 * w.0 in
    let t = row_tested s (member_entry g (reg_of m)) m b (ap (λ k. test_row s.lock (member_entry g k) m) (reg_eight w.0 w.1) ∙ w.2) in
    let l : Live (entry_modrm_tree s (Group g) b) = record { bytes = m ∷ []; end = t.0; fit = (omega arith, tt); leads = t.1 } in
    record { trim = (l, λ n _. member_trim s (member_entry g (reg_of n)) b n); live = l }

pub one_allows : (s : Setting) (r : Row) → starts s.lock (One r) ≡ true → allows s r 0 ≡ true
one_allows s r e = rw (form_zero r.a, form_zero r.b) (elim (s.lock) as (λ v. (not v || lockable r) ≡ true → (not v || (lockable r && true)) ≡ true) [ true ↦ λ q. rw q refl | false ↦ λ _. refl ] e)

one_sound : (s : Setting) (r : Row) (b : ℕ) → starts s.lock (One r) ≡ true → Sound (entry_modrm_tree s (One r) b)
one_sound s r b st =
    elim (has_modrm r) as (λ v. Sound (cond v (byte_tree >>= λ m. guard (allows s r m) (Done (chosen_of r b m))) (Done (chosen_of r b 0)))) [
      | true ↦
          let l : Live (byte_tree >>= λ m. guard (allows s r m) (Done (chosen_of r b m))) = record { bytes = 0 ∷ []; end = chosen_of r b 0; fit = (omega arith, tt); leads = ap (λ v. after (guard v (Done (chosen_of r b 0))) []) (one_allows s r st) } in
          record { trim = (l, λ n _. end_trim (allows s r n) (chosen_of r b n)); live = l }
      | false ↦ sound_done (chosen_of r b 0)
    ]

entry_sound : (s : Setting) (e : Entry) (b : ℕ) → is_entry e ≡ true → starts s.lock e ≡ true → Sound (entry_modrm_tree s e b)
entry_sound s Undefined b g st = absurd cc
entry_sound s (One r) b g st = one_sound s r b st
entry_sound s (Group g) b fit st = group_sound s g b (search (tests, rules)) st

-- ---- the whole row

pub record IsGood (lock : Bool) (h : Head) : Type 0 where
  pub entry : is_entry h.entry ≡ true
  pub started : starts lock h.entry ≡ true

entry_ends : (lock : Bool) (e : Entry) (b : ℕ) → is_entry e ≡ true → Ends (IsGood lock) (entry_tree lock e b)
entry_ends lock e b fit = elim (starts lock e) as (λ v. starts lock e ≡ v → Ends (IsGood lock) (guard v (Done (head_of e b)))) [ true ↦ λ t. record { entry = fit; started = t } | false ↦ λ _. tt ] refl

opcode_ends : (lock : Bool) (b : ℕ) → b < 256 → Ends (IsGood lock) (opcode_tree lock b)
unfolding opcode_tree
opcode_ends lock b lt =
    elim (b == 0x0F) as (λ v. Ends (IsGood lock) (cond v (byte_tree >>= λ c. entry_tree lock (two_entry c) c) (entry_tree lock (one_entry b) b))) [
      | true ↦ λ c h. entry_ends lock (two_entry c) c (two-fits c h)
      | false ↦ entry_ends lock (one_entry b) b (one-fits b lt)
    ]

always_starts : (lock : Bool) → starts lock (two_entry 0xBA) ≡ true
unfolding two_entry group_locks member_entry
always_starts true = refl
always_starts false = refl

opcode_trim : (lock : Bool) (b : ℕ) → Trim (opcode_tree lock b)
unfolding opcode_tree
opcode_trim lock b =
    elim (b == 0x0F) as (λ v. Trim (cond v (byte_tree >>= λ c. entry_tree lock (two_entry c) c) (entry_tree lock (one_entry b) b))) [
      | true ↦
          let l : Live (byte_tree >>= λ c. entry_tree lock (two_entry c) c) = record { bytes = 0xBA ∷ []; end = head_of (two_entry 0xBA) 0xBA; fit = (omega arith, tt); leads = ap (λ v. after (guard v (Done (head_of (two_entry 0xBA) 0xBA))) []) (always_starts lock) } in
          (l, λ c _. end_trim (starts lock (two_entry c)) (head_of (two_entry c) c))
      | false ↦ end_trim (starts lock (one_entry b)) (head_of (one_entry b) b)
    ]

behind_modrm : (s : Setting) (h : Head) → IsGood s.lock h → Sound (modrm_tree s h >>= λ c. behind_tree s c)
unfolding modrm_tree
behind_modrm s h g = sound_bind (entry_modrm_tree s h.entry h.opcode) (λ c. behind_tree s c) (entry_sound s h.entry h.opcode g.entry g.started) (λ c. sound_behind s c)

pub row_trim : (s : Setting) (b : ℕ) → b < 256 → Trim (row_tree s b)
unfolding row_tree
row_trim s b lt = trim_bind (IsGood s.lock) (opcode_tree s.lock b) (λ h. modrm_tree s h >>= λ c. behind_tree s c) (opcode_trim s.lock b) (opcode_ends s.lock b lt) (λ h g. (behind_modrm s h g).trim) (λ h g. (behind_modrm s h g).live)

some_opcode : (lock : Bool) → after (opcode_tree lock 0) [] ≡ Done (head_of (one_entry 0) 0)
unfolding opcode_tree one_entry
some_opcode true = refl
some_opcode false = refl

-- a row that LOCK may stand before: 00, ADD
some_row : (s : Setting) → Live (row_tree s 0)
unfolding row_tree
some_row s = live_bind (IsGood s.lock) (opcode_tree s.lock 0) (λ h. modrm_tree s h >>= λ c. behind_tree s c)
    (record { bytes = []; end = head_of (one_entry 0) 0; fit = tt; leads = some_opcode s.lock }) (opcode_ends s.lock 0 (omega arith)) (λ h g. (behind_modrm s h g).live)

pub rest_trim : (s : Setting) → Trim (rest_tree s)
rest_trim s =
    let l = some_row s in
    (record { bytes = 0 ∷ l.bytes; end = l.end; fit = (omega arith, l.fit); leads = l.leads }, λ b lt. row_trim s b lt)
