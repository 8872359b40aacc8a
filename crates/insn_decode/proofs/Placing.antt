-- The parts that the code reads are the trees of the grammar.
use Rattle.std.proofs.Common.{◌≡◌, ◌≢◌, ℕ, ◌+◌, ◌<◌, Bool, true, false, cond, not, ◌&&◌, ◌||◌, nat_lt, Result, Ok, Err, inl, inr, refl, sym, ap, subst, ◌∙◌, arith}
use Rattle.std.specs.Prelude.{◌==◌, IsTrue}
use Rattle.std.proofs.lemmas.Bool.Decides.{nat_tests}
use Rattle.mdl_state.specs.declared.Fault.{Fault}
use Rattle.mdl_insn.specs.declared.instruction.Insn.{Insn}
use Rattle.mdl_insn.specs.declared.instruction.Operand.{Operand}
use Rattle.mdl_state.specs.declared.Size.{Size}
use Rattle.mdl_insn.specs.declared.instruction.Operand.TheVariants.{Gpr}
use Rattle.mdl_insn.specs.declared.rows.Setting.{Setting}
use Rattle.mdl_insn.specs.declared.rows.Form.{Form}
use Rattle.mdl_insn.specs.declared.rows.Form.TheVariants.{Eb, Ev, Ew, M}
use Rattle.mdl_insn.specs.declared.rows.Row.{Row}
use Rattle.mdl_insn.specs.declared.rows.Entry.{Entry}
use Rattle.insn_decode.specs.declared.refusals.Undecoded.{Undecoded}
use Rattle.insn_decode.specs.declared.refusals.Undecoded.TheVariants as causes
use Rattle.mdl_insn.specs.Rows.{one_entry, two_entry}
use Rattle.mdl_insn.specs.Tree.{Tree, Done, Fail, Take, ◌>>=◌, byte_tree, number_tree, guard}
use Rattle.mdl_insn.specs.Addresses.{may_address, addresses, sib_len, disp_len, mod_of, rm_of}
use Rattle.mdl_insn.specs.Operands.{allows, form_allows, lockable, own_len, operand, e_operand}
use Rattle.mdl_insn.specs.Fits.{has_own, row_fits}
use Rattle.mdl_insn.specs.Spelling.{insn_of}
use Rattle.mdl_insn.specs.RowTree.{Chosen, starts, head_of, chosen_of, entry_modrm_tree, modrm_tree, opcode_tree, behind_tree, row_tree, place_of}
use Rattle.insn_decode.specs.Reading.{Runs, left, own_tree, e_tree, mem_tree, mem_at_tree, e_size, any_tree, Three, three, three_tree, insn_from, found_tree}
use Rattle.insn_decode.proofs.Running.{runs_ok, runs_err}
use Rattle.insn_decode.proofs.RowKinds.{memory_no_own, no_own_len, fits_c, one_memory, none_before}

-- what runs as the one runs as the other
abbrev pub Like : {S A : Type 0} → (S → Result ℕ Fault → S → Type 0) → Tree A → Tree A → Type 0
Like {S} {A} gives t u = (n : ℕ) (s : S) (r : Result A Undecoded) (m : ℕ) (e : S) → Runs gives t n s r m e → Runs gives u n s r m e

pub under : {S A B : Type 0} (gives : S → Result ℕ Fault → S → Type 0) (t : Tree A) (f g : A → Tree B) → ((a : A) → Like gives (f a) (g a)) → Like gives (t >>= f) (t >>= g)
unfolding Runs
under gives (Done a) f g h n s r m e q = h a n s r m e q
under gives Fail f g h n s r m e q = q
under gives (Take k) f g h n s r m e (inl q) = inl q
under gives (Take k) f g h n s r m e (inr (inl q)) = inr (inl q)
under gives (Take k) f g h n s r m e (inr (inr q)) = inr (inr (q.0, q.1, q.2, q.3, q.4, under gives (k q.0) f g h (n + 1) q.1 r m e q.5))

assoc : {S A B C : Type 0} (gives : S → Result ℕ Fault → S → Type 0) (t : Tree A) (f : A → Tree B) (g : B → Tree C) → Like gives ((t >>= f) >>= g) (t >>= λ a. f a >>= g)
unfolding Runs
assoc gives (Done a) f g n s r m e q = q
assoc gives Fail f g n s r m e q = q
assoc gives (Take k) f g n s r m e (inl q) = inl q
assoc gives (Take k) f g n s r m e (inr (inl q)) = inr (inl q)
assoc gives (Take k) f g n s r m e (inr (inr q)) = inr (inr (q.0, q.1, q.2, q.3, q.4, assoc gives (k q.0) f g (n + 1) q.1 r m e q.5))

after_like : {S A : Type 0} (gives : S → Result ℕ Fault → S → Type 0) (t u v : Tree A) → Like gives t u → Like gives u v → Like gives t v
after_like gives t u v p q n s r m e h = q n s r m e (p n s r m e h)

pub equal : {S A : Type 0} (gives : S → Result ℕ Fault → S → Type 0) (t u : Tree A) → t ≡ u → Like gives t u
equal gives t u h n s r m e q = subst (λ (v : Tree _). Runs gives v n s r m e) h q

-- ---- operands

pub own_ok : {S : Type 0} (gives : S → Result ℕ Fault → S → Type 0) (s : Setting) (c : Chosen) (f : Form) (n : ℕ) (st : S) (x m : ℕ) (e : S) (y : Operand) → may_address f ≡ false → Runs gives (number_tree (own_len s f)) n st (Ok x) m e → y ≡ operand s (place_of s c 0 0) f x → Runs gives (any_tree s c f) n st (Ok y) m e
unfolding any_tree own_tree Runs
own_ok gives s c f n st x m e y k h q = rw (k, q) (runs_ok gives (number_tree (own_len s f)) (λ y. Done (operand s (place_of s c 0 0) f y)) n st x m e (Ok (operand s (place_of s c 0 0) f x)) m e h (refl, refl, refl))

pub own_ok_at : {S : Type 0} (gives : S → Result ℕ Fault → S → Type 0) (s : Setting) (c : Chosen) (f k : Form) (l n : ℕ) (st : S) (x m : ℕ) (e : S) (y : Operand) → f ≡ k → l ≡ own_len s k → may_address f ≡ false → Runs gives (number_tree l) n st (Ok x) m e → y ≡ operand s (place_of s c 0 0) k x → Runs gives (any_tree s c f) n st (Ok y) m e
own_ok_at gives s c f k l n st x m e y same len h r q =
    own_ok gives s c f n st x m e y h
    (subst (λ (j : Form). Runs gives (number_tree (own_len s j)) n st (Ok x) m e) (sym same) (subst (λ (i : ℕ). Runs gives (number_tree i) n st (Ok x) m e) len r))
    (q ∙ ap (λ j. operand s (place_of s c 0 0) j x) (sym same))

pub own_err : {S : Type 0} (gives : S → Result ℕ Fault → S → Type 0) (s : Setting) (c : Chosen) (f : Form) (n : ℕ) (st : S) (x : Undecoded) (m : ℕ) (e : S) → may_address f ≡ false → Runs gives (number_tree (own_len s f)) n st (Err x) m e → Runs gives (any_tree s c f) n st (Err x) m e
unfolding any_tree own_tree
own_err gives s c f n st x m e k h = rw k (runs_err gives (number_tree (own_len s f)) (λ y. Done (operand s (place_of s c 0 0) f y)) n st x m e h)

pub own_fixed : {S : Type 0} (gives : S → Result ℕ Fault → S → Type 0) (s : Setting) (c : Chosen) (f : Form) (n : ℕ) (st : S) (x : Operand) → may_address f ≡ false → has_own f ≡ false → x ≡ operand s (place_of s c 0 0) f 0 → Runs gives (any_tree s c f) n st (Ok x) n st
unfolding any_tree own_tree number_tree Runs
own_fixed gives s c f n st x k h e = rw (k, no_own_len s f h, e) (refl, refl, refl)

pub e_register : {S : Type 0} (gives : S → Result ℕ Fault → S → Type 0) (s : Setting) (r : Row) (o m : ℕ) (f : Form) (n : ℕ) (st : S) → may_address f ≡ true → mod_of m ≡ 3 → Runs gives (any_tree s (chosen_of r o m) f) n st (Ok (Gpr (rm_of m) (e_size s f))) n st
unfolding any_tree e_tree number_tree Runs
e_register gives s r o m f n st k h =
    let q : nat_lt (mod_of m) 3 ≡ false = rw h refl in
    let t : (mod_of m == 3) ≡ true = rw h refl in
    rw (k, q, t) (refl, refl, refl)

pub mem_sib : {S : Type 0} (gives : S → Result ℕ Fault → S → Type 0) (s : Setting) (m : ℕ) (z : Size) (n : ℕ) (st : S) (sib k : ℕ) (mid : S) (x : Result Operand Undecoded) (l : ℕ) (e : S) → (s.wide && (rm_of m == 4)) ≡ true → Runs gives (number_tree 1) n st (Ok sib) k mid → Runs gives (mem_at_tree s m sib z) k mid x l e → Runs gives (mem_tree s m z) n st x l e
unfolding mem_tree
mem_sib gives s m z n st sib k mid x l e h p q = rw h (runs_ok gives (number_tree 1) (λ v. mem_at_tree s m v z) n st sib k mid x l e p q)

pub mem_sib_err : {S : Type 0} (gives : S → Result ℕ Fault → S → Type 0) (s : Setting) (m : ℕ) (z : Size) (n : ℕ) (st : S) (x : Undecoded) (l : ℕ) (e : S) → (s.wide && (rm_of m == 4)) ≡ true → Runs gives (number_tree 1) n st (Err x) l e → Runs gives (mem_tree s m z) n st (Err x) l e
unfolding mem_tree
mem_sib_err gives s m z n st x l e h p = rw h (runs_err gives (number_tree 1) (λ v. mem_at_tree s m v z) n st x l e p)

pub mem_none : {S : Type 0} (gives : S → Result ℕ Fault → S → Type 0) (s : Setting) (m : ℕ) (z : Size) (n : ℕ) (st : S) (x : Result Operand Undecoded) (l : ℕ) (e : S) → (s.wide && (rm_of m == 4)) ≡ false → Runs gives (mem_at_tree s m 0 z) n st x l e → Runs gives (mem_tree s m z) n st x l e
unfolding mem_tree number_tree
mem_none gives s m z n st x l e h q = rw h q

mem_is : (s : Setting) (r : Row) (o m : ℕ) (f : Form) → may_address f ≡ true → (may_address r.a || may_address r.b) ≡ true → mod_of m < 3 → mem_tree s m (e_size s f) ≡ any_tree s (chosen_of r o m) f
unfolding any_tree e_tree mem_tree mem_at_tree
mem_is s r o m f k h lt =
    let q : nat_lt (mod_of m) 3 ≡ true = grind (arith, nat_tests) in
    let t : (mod_of m == 3) ≡ false = grind (arith, nat_tests) in
    rw (k, q, t, h) refl

pub e_memory : {S : Type 0} (gives : S → Result ℕ Fault → S → Type 0) (s : Setting) (r : Row) (o m : ℕ) (f : Form) (n : ℕ) (st : S) (x : Result Operand Undecoded) (l : ℕ) (e : S) → may_address f ≡ true → (may_address r.a || may_address r.b) ≡ true → mod_of m < 3 → Runs gives (mem_tree s m (e_size s f)) n st x l e → Runs gives (any_tree s (chosen_of r o m) f) n st x l e
e_memory gives s r o m f n st x l e k h lt q = equal gives (mem_tree s m (e_size s f)) (any_tree s (chosen_of r o m) f) (mem_is s r o m f k h lt) n st x l e q

-- ---- the three operands, and what follows the ModRM byte

-- an operand's tree and what follows, in one
own_flat : {S B : Type 0} (gives : S → Result ℕ Fault → S → Type 0) (s : Setting) (c : Chosen) (f : Form) (k : Operand → Tree B) → may_address f ≡ false → Like gives (any_tree s c f >>= k) (number_tree (own_len s f) >>= λ x. k (operand s (place_of s c 0 0) f x))
unfolding any_tree own_tree
own_flat gives s c f k h =
    after_like gives (any_tree s c f >>= k) (own_tree s c f >>= k) (number_tree (own_len s f) >>= λ x. k (operand s (place_of s c 0 0) f x))
    (equal gives (any_tree s c f >>= k) (own_tree s c f >>= k) (ap (λ v. cond v (e_tree s c (e_size s f)) (own_tree s c f) >>= k) h))
    (assoc gives (number_tree (own_len s f)) (λ x. Done (operand s (place_of s c 0 0) f x)) k)

e_same : (s : Setting) (c : Chosen) (f : Form) (sib d : ℕ) → may_address f ≡ true → form_allows f c.modrm ≡ true → e_operand (place_of s c sib d) (e_size s f) ≡ operand s (place_of s c sib d) f 0
e_same s c Eb sib d h a = refl
e_same s c Ev sib d h a = refl
e_same s c Ew sib d h a = refl
e_same s c M sib d h a = let t : (mod_of c.modrm == 3) ≡ false = grind (arith, nat_tests) in rw t refl
e_same s c _ sib d h a = absurd cc

memory_flat : {S B : Type 0} (gives : S → Result ℕ Fault → S → Type 0) (s : Setting) (c : Chosen) (f : Form) (k : Operand → Tree B) → may_address f ≡ true → form_allows f c.modrm ≡ true → Like gives (any_tree s c f >>= k) (number_tree (sib_len s c.row c.modrm) >>= λ sib. number_tree (disp_len s c.row c.modrm sib) >>= λ d. k (operand s (place_of s c sib d) f 0))
unfolding any_tree e_tree
memory_flat gives s c f k h a =
    let e : Tree Operand = e_tree s c (e_size s f) in
    let one = λ (sib : ℕ). number_tree (disp_len s c.row c.modrm sib) >>= λ d. Done (e_operand (place_of s c sib d) (e_size s f)) in
    let two = λ (sib : ℕ). number_tree (disp_len s c.row c.modrm sib) >>= λ d. k (operand s (place_of s c sib d) f 0) in
    after_like gives (any_tree s c f >>= k) (e >>= k) (number_tree (sib_len s c.row c.modrm) >>= two)
    (equal gives (any_tree s c f >>= k) (e >>= k) (ap (λ v. cond v (e_tree s c (e_size s f)) (own_tree s c f) >>= k) h))
    (after_like gives (e >>= k) (number_tree (sib_len s c.row c.modrm) >>= λ sib. one sib >>= k) (number_tree (sib_len s c.row c.modrm) >>= two)
    (assoc gives (number_tree (sib_len s c.row c.modrm)) one k)
    (under gives (number_tree (sib_len s c.row c.modrm)) (λ sib. one sib >>= k) two (λ sib.
    after_like gives (one sib >>= k) (number_tree (disp_len s c.row c.modrm sib) >>= λ d. k (e_operand (place_of s c sib d) (e_size s f))) (two sib)
    (assoc gives (number_tree (disp_len s c.row c.modrm sib)) (λ d. Done (e_operand (place_of s c sib d) (e_size s f))) k)
    (under gives (number_tree (disp_len s c.row c.modrm sib)) (λ d. k (e_operand (place_of s c sib d) (e_size s f))) (λ d. k (operand s (place_of s c sib d) f 0)) (λ d. equal gives (k (e_operand (place_of s c sib d) (e_size s f))) (k (operand s (place_of s c sib d) f 0)) (ap k (e_same s c f sib d h a)))))))

-- no bytes of its own
none_own : {S B : Type 0} (gives : S → Result ℕ Fault → S → Type 0) (n : ℕ) (k : ℕ → Tree B) → n ≡ 0 → Like gives (k 0) (number_tree n >>= k)
unfolding number_tree
none_own gives n k h = equal gives (k 0) (number_tree n >>= k) (sym (ap (λ j. number_tree j >>= k) h))

own_none : {S B : Type 0} (gives : S → Result ℕ Fault → S → Type 0) (n : ℕ) (k : ℕ → Tree B) → n ≡ 0 → Like gives (number_tree n >>= k) (k 0)
unfolding number_tree
own_none gives n k h = equal gives (number_tree n >>= k) (k 0) (ap (λ j. number_tree j >>= k) h)

-- such an operand is the same with any memory
same_place : (s : Setting) (c : Chosen) (f : Form) (sib d x : ℕ) → may_address f ≡ false → operand s (place_of s c 0 0) f x ≡ operand s (place_of s c sib d) f x
same_place s c Eb sib d x h = absurd cc
same_place s c Ev sib d x h = absurd cc
same_place s c Ew sib d x h = absurd cc
same_place s c M sib d x h = absurd cc
same_place s c _ sib d x h = refl

abbrev ended : Setting → Chosen → Operand → Operand → Operand → Tree Insn
ended s c a b z = Done (insn_from s c.row (three a b z))

abbrev flat : Setting → Chosen → Tree Insn
flat s c = any_tree s c c.row.a >>= λ a. any_tree s c c.row.b >>= λ b. any_tree s c c.row.c >>= λ z. ended s c a b z

three_flat : {S : Type 0} (gives : S → Result ℕ Fault → S → Type 0) (s : Setting) (c : Chosen) → Like gives (three_tree s c >>= λ t. Done (insn_from s c.row t)) (flat s c)
unfolding three_tree
three_flat gives s c =
    let ta = any_tree s c c.row.a in
    let tb = any_tree s c c.row.b in
    let tc = any_tree s c c.row.c in
    let g = λ (t : Three). Done (insn_from s c.row t) in
    let in_c = λ (a : Operand) (b : Operand). tc >>= λ z. Done (three a b z) in
    let in_b = λ (a : Operand). tb >>= λ b. in_c a b in
    after_like gives ((ta >>= in_b) >>= g) (ta >>= λ a. in_b a >>= g) (flat s c)
    (assoc gives ta in_b g)
    (under gives ta (λ a. in_b a >>= g) (λ a. tb >>= λ b. tc >>= λ z. ended s c a b z) (λ a.
    after_like gives (in_b a >>= g) (tb >>= λ b. in_c a b >>= g) (tb >>= λ b. tc >>= λ z. ended s c a b z)
    (assoc gives tb (λ b. in_c a b) g)
    (under gives tb (λ b. in_c a b >>= g) (λ b. tc >>= λ z. ended s c a b z) (λ b. assoc gives tc (λ z. Done (three a b z)) g))))

-- what is behind the bytes of memory
abbrev own_three : Setting → Chosen → ℕ → ℕ → Tree Insn
own_three s c sib d =
    number_tree (own_len s c.row.a) >>= λ x.
    number_tree (own_len s c.row.b) >>= λ y.
    number_tree (own_len s c.row.c) >>= λ z.
    Done (insn_of s c.row (place_of s c sib d) x y z)

no_bytes : (s : Setting) (r : Row) (m : ℕ) → may_address r.a ≡ false → may_address r.b ≡ false → addresses r m ≡ false
no_bytes s r m a b = rw (a, b) (elim (nat_lt (mod_of m) 3) as (λ v. (v && false) ≡ false) [ true ↦ refl | false ↦ refl ])

no_memory : {S : Type 0} (gives : S → Result ℕ Fault → S → Type 0) (s : Setting) (c : Chosen) → addresses c.row c.modrm ≡ false → Like gives (own_three s c 0 0) (behind_tree s c)
unfolding behind_tree
no_memory gives s c h =
    let sib0 : sib_len s c.row c.modrm ≡ 0 = rw h refl in
    let disp0 : disp_len s c.row c.modrm 0 ≡ 0 = rw h refl in
    after_like gives (own_three s c 0 0) (number_tree (disp_len s c.row c.modrm 0) >>= λ d. own_three s c 0 d) (behind_tree s c)
    (none_own gives (disp_len s c.row c.modrm 0) (λ d. own_three s c 0 d) disp0)
    (none_own gives (sib_len s c.row c.modrm) (λ sib. number_tree (disp_len s c.row c.modrm sib) >>= λ d. own_three s c sib d) sib0)

flat_c : {S : Type 0} (gives : S → Result ℕ Fault → S → Type 0) (s : Setting) (c : Chosen) (sib d : ℕ) (a b : Operand) → may_address c.row.c ≡ false → Like gives (any_tree s c c.row.c >>= λ z. ended s c a b z) (number_tree (own_len s c.row.c) >>= λ z. ended s c a b (operand s (place_of s c sib d) c.row.c z))
flat_c gives s c sib d a b h =
    after_like gives (any_tree s c c.row.c >>= λ z. ended s c a b z) (number_tree (own_len s c.row.c) >>= λ z. ended s c a b (operand s (place_of s c 0 0) c.row.c z)) (number_tree (own_len s c.row.c) >>= λ z. ended s c a b (operand s (place_of s c sib d) c.row.c z))
    (own_flat gives s c c.row.c (λ z. ended s c a b z) h)
    (under gives (number_tree (own_len s c.row.c)) (λ z. ended s c a b (operand s (place_of s c 0 0) c.row.c z)) (λ z. ended s c a b (operand s (place_of s c sib d) c.row.c z)) (λ z. equal gives (ended s c a b (operand s (place_of s c 0 0) c.row.c z)) (ended s c a b (operand s (place_of s c sib d) c.row.c z)) (ap (λ o. ended s c a b o) (same_place s c c.row.c sib d z h))))

flat_b : {S : Type 0} (gives : S → Result ℕ Fault → S → Type 0) (s : Setting) (c : Chosen) (sib d : ℕ) (a : Operand) → may_address c.row.b ≡ false → may_address c.row.c ≡ false → Like gives (any_tree s c c.row.b >>= λ b. any_tree s c c.row.c >>= λ z. ended s c a b z) (number_tree (own_len s c.row.b) >>= λ y. number_tree (own_len s c.row.c) >>= λ z. ended s c a (operand s (place_of s c sib d) c.row.b y) (operand s (place_of s c sib d) c.row.c z))
flat_b gives s c sib d a hb hc =
    let k = λ (b : Operand). any_tree s c c.row.c >>= λ z. ended s c a b z in
    let last = λ (b : Operand). number_tree (own_len s c.row.c) >>= λ z. ended s c a b (operand s (place_of s c sib d) c.row.c z) in
    after_like gives (any_tree s c c.row.b >>= k) (number_tree (own_len s c.row.b) >>= λ y. k (operand s (place_of s c 0 0) c.row.b y)) (number_tree (own_len s c.row.b) >>= λ y. last (operand s (place_of s c sib d) c.row.b y))
    (own_flat gives s c c.row.b k hb)
    (under gives (number_tree (own_len s c.row.b)) (λ y. k (operand s (place_of s c 0 0) c.row.b y)) (λ y. last (operand s (place_of s c sib d) c.row.b y)) (λ y.
    after_like gives (k (operand s (place_of s c 0 0) c.row.b y)) (k (operand s (place_of s c sib d) c.row.b y)) (last (operand s (place_of s c sib d) c.row.b y))
    (equal gives (k (operand s (place_of s c 0 0) c.row.b y)) (k (operand s (place_of s c sib d) c.row.b y)) (ap k (same_place s c c.row.b sib d y hb)))
    (flat_c gives s c sib d a (operand s (place_of s c sib d) c.row.b y) hc)))

-- nothing is memory
flat_none : {S : Type 0} (gives : S → Result ℕ Fault → S → Type 0) (s : Setting) (c : Chosen) → may_address c.row.a ≡ false → may_address c.row.b ≡ false → may_address c.row.c ≡ false → Like gives (flat s c) (behind_tree s c)
flat_none gives s c ha hb hc =
    let k = λ (a : Operand). any_tree s c c.row.b >>= λ b. any_tree s c c.row.c >>= λ z. ended s c a b z in
    let last = λ (x : ℕ). number_tree (own_len s c.row.b) >>= λ y. number_tree (own_len s c.row.c) >>= λ z. ended s c (operand s (place_of s c 0 0) c.row.a x) (operand s (place_of s c 0 0) c.row.b y) (operand s (place_of s c 0 0) c.row.c z) in
    after_like gives (flat s c) (own_three s c 0 0) (behind_tree s c)
    (after_like gives (flat s c) (number_tree (own_len s c.row.a) >>= λ x. k (operand s (place_of s c 0 0) c.row.a x)) (own_three s c 0 0)
    (own_flat gives s c c.row.a k ha)
    (under gives (number_tree (own_len s c.row.a)) (λ x. k (operand s (place_of s c 0 0) c.row.a x)) last (λ x. flat_b gives s c 0 0 (operand s (place_of s c 0 0) c.row.a x) hb hc)))
    (no_memory gives s c (no_bytes s c.row c.modrm ha hb))

-- the first may be memory
flat_first : {S : Type 0} (gives : S → Result ℕ Fault → S → Type 0) (s : Setting) (c : Chosen) → form_allows c.row.a c.modrm ≡ true → may_address c.row.a ≡ true → may_address c.row.b ≡ false → may_address c.row.c ≡ false → Like gives (flat s c) (behind_tree s c)
unfolding behind_tree
flat_first gives s c al ha hb hc =
    let k = λ (a : Operand). any_tree s c c.row.b >>= λ b. any_tree s c c.row.c >>= λ z. ended s c a b z in
    let zero_len : own_len s c.row.a ≡ 0 = no_own_len s c.row.a (memory_no_own c.row.a ha) in
    let own = λ (sib d x : ℕ). number_tree (own_len s c.row.b) >>= λ y. number_tree (own_len s c.row.c) >>= λ z. ended s c (operand s (place_of s c sib d) c.row.a x) (operand s (place_of s c sib d) c.row.b y) (operand s (place_of s c sib d) c.row.c z) in
    let one = λ (sib : ℕ). number_tree (disp_len s c.row c.modrm sib) >>= λ d. k (operand s (place_of s c sib d) c.row.a 0) in
    let two = λ (sib : ℕ). number_tree (disp_len s c.row c.modrm sib) >>= λ d. own_three s c sib d in
    after_like gives (flat s c) (number_tree (sib_len s c.row c.modrm) >>= one) (number_tree (sib_len s c.row c.modrm) >>= two)
    (memory_flat gives s c c.row.a k ha al)
    (under gives (number_tree (sib_len s c.row c.modrm)) one two (λ sib.
    under gives (number_tree (disp_len s c.row c.modrm sib)) (λ d. k (operand s (place_of s c sib d) c.row.a 0)) (λ d. own_three s c sib d) (λ d.
    after_like gives (k (operand s (place_of s c sib d) c.row.a 0)) (own sib d 0) (own_three s c sib d)
    (flat_b gives s c sib d (operand s (place_of s c sib d) c.row.a 0) hb hc)
    (none_own gives (own_len s c.row.a) (own sib d) zero_len))))

-- the second may be memory
flat_second : {S : Type 0} (gives : S → Result ℕ Fault → S → Type 0) (s : Setting) (c : Chosen) → form_allows c.row.b c.modrm ≡ true → may_address c.row.a ≡ false → has_own c.row.a ≡ false → may_address c.row.b ≡ true → may_address c.row.c ≡ false → Like gives (flat s c) (behind_tree s c)
unfolding behind_tree
flat_second gives s c al ha na hb hc =
    let k = λ (a : Operand). any_tree s c c.row.b >>= λ b. any_tree s c c.row.c >>= λ z. ended s c a b z in
    let j = λ (a b : Operand). any_tree s c c.row.c >>= λ z. ended s c a b z in
    let len_a : own_len s c.row.a ≡ 0 = no_own_len s c.row.a na in
    let len_b : own_len s c.row.b ≡ 0 = no_own_len s c.row.b (memory_no_own c.row.b hb) in
    let a0 = operand s (place_of s c 0 0) c.row.a 0 in
    let own = λ (sib d x y : ℕ). number_tree (own_len s c.row.c) >>= λ z. ended s c (operand s (place_of s c sib d) c.row.a x) (operand s (place_of s c sib d) c.row.b y) (operand s (place_of s c sib d) c.row.c z) in
    let own_b = λ (sib d x : ℕ). number_tree (own_len s c.row.b) >>= λ y. own sib d x y in
    let one = λ (sib : ℕ). number_tree (disp_len s c.row c.modrm sib) >>= λ d. j a0 (operand s (place_of s c sib d) c.row.b 0) in
    let two = λ (sib : ℕ). number_tree (disp_len s c.row c.modrm sib) >>= λ d. own_three s c sib d in
    after_like gives (flat s c) (k a0) (number_tree (sib_len s c.row c.modrm) >>= two)
    (after_like gives (flat s c) (number_tree (own_len s c.row.a) >>= λ x. k (operand s (place_of s c 0 0) c.row.a x)) (k a0)
    (own_flat gives s c c.row.a k ha)
    (own_none gives (own_len s c.row.a) (λ x. k (operand s (place_of s c 0 0) c.row.a x)) len_a))
    (after_like gives (k a0) (number_tree (sib_len s c.row c.modrm) >>= one) (number_tree (sib_len s c.row c.modrm) >>= two)
    (memory_flat gives s c c.row.b (j a0) hb al)
    (under gives (number_tree (sib_len s c.row c.modrm)) one two (λ sib.
    under gives (number_tree (disp_len s c.row c.modrm sib)) (λ d. j a0 (operand s (place_of s c sib d) c.row.b 0)) (λ d. own_three s c sib d) (λ d.
    after_like gives (j a0 (operand s (place_of s c sib d) c.row.b 0)) (own sib d 0 0) (own_three s c sib d)
    (after_like gives (j a0 (operand s (place_of s c sib d) c.row.b 0)) (j (operand s (place_of s c sib d) c.row.a 0) (operand s (place_of s c sib d) c.row.b 0)) (own sib d 0 0)
    (equal gives (j a0 (operand s (place_of s c sib d) c.row.b 0)) (j (operand s (place_of s c sib d) c.row.a 0) (operand s (place_of s c sib d) c.row.b 0)) (ap (λ a. j a (operand s (place_of s c sib d) c.row.b 0)) (same_place s c c.row.a sib d 0 ha)))
    (flat_c gives s c sib d (operand s (place_of s c sib d) c.row.a 0) (operand s (place_of s c sib d) c.row.b 0) hc))
    (after_like gives (own sib d 0 0) (own_b sib d 0) (own_three s c sib d)
    (none_own gives (own_len s c.row.b) (own sib d 0) len_b)
    (none_own gives (own_len s c.row.a) (own_b sib d) len_a))))))

both_true : (a b : Bool) → (a && b) ≡ true → (a ≡ true) × (b ≡ true)
both_true true b e = (refl, e)
both_true false b e = absurd cc

both_forms : (s : Setting) (c : Chosen) → IsTrue (allows s c.row c.modrm) → (form_allows c.row.a c.modrm ≡ true) × (form_allows c.row.b c.modrm ≡ true)
both_forms s c h =
    elim (form_allows c.row.a c.modrm) as (λ v. (v && form_allows c.row.b c.modrm && (not s.lock || (lockable c.row && nat_lt (mod_of c.modrm) 3))) ≡ true → (v ≡ true) × (form_allows c.row.b c.modrm ≡ true)) [
      | true ↦ λ q. (refl, (both_true (form_allows c.row.b c.modrm) (not s.lock || (lockable c.row && nat_lt (mod_of c.modrm) 3)) q).0)
      | false ↦ λ q. absurd cc
    ] h

three_like : {S : Type 0} (gives : S → Result ℕ Fault → S → Type 0) (s : Setting) (c : Chosen) → IsTrue (row_fits c.row) → IsTrue (allows s c.row c.modrm) → Like gives (three_tree s c >>= λ t. Done (insn_from s c.row t)) (behind_tree s c)
three_like gives s c h al =
    let forms = both_forms s c al in
    let hc = fits_c c.row h in
    after_like gives (three_tree s c >>= λ t. Done (insn_from s c.row t)) (flat s c) (behind_tree s c) (three_flat gives s c)
    (elim (may_address c.row.a) as (λ v. may_address c.row.a ≡ v → Like gives (flat s c) (behind_tree s c)) [
      | true ↦ λ ha. flat_first gives s c forms.0 ha (one_memory c.row h ha) hc
      | false ↦ λ ha.
          elim (may_address c.row.b) as (λ v. may_address c.row.b ≡ v → Like gives (flat s c) (behind_tree s c)) [
            | true ↦ λ hb. flat_second gives s c forms.1 ha (none_before c.row h hb).1 hb hc
            | false ↦ λ hb. flat_none gives s c ha hb hc
          ] refl
    ] refl)

-- the operands in their places are the instruction
pub behind_left : {S A : Type 0} (gives : S → Result ℕ Fault → S → Type 0) (s : Setting) (r : Row) (o k n : ℕ) (st : S) (x : Result A Undecoded) (t : Three) (m : ℕ) (e : S) → IsTrue (row_fits r) → IsTrue (allows s r k) → Runs gives (three_tree s (chosen_of r o k)) n st (left x t) m e → Runs gives (behind_tree s (chosen_of r o k)) n st (left x (insn_from s r t)) m e
unfolding Runs
behind_left gives s r o k n st (Ok u) t m e h al q =
    three_like gives s (chosen_of r o k) h al n st (Ok (insn_from s r t)) m e
    (runs_ok gives (three_tree s (chosen_of r o k)) (λ w. Done (insn_from s r w)) n st t m e (Ok (insn_from s r t)) m e q (refl, refl, refl))
behind_left gives s r o k n st (Err y) t m e h al q =
    three_like gives s (chosen_of r o k) h al n st (Err y) m e (runs_err gives (three_tree s (chosen_of r o k)) (λ w. Done (insn_from s r w)) n st y m e q)

-- the operands read one after the other are those of the instruction
pub behind_three : {S : Type 0} (gives : S → Result ℕ Fault → S → Type 0) (s : Setting) (r : Row) (o k n : ℕ) (st : S) (a : Operand) (m : ℕ) (p : S) (b : Operand) (l : ℕ) (q : S) (c : Operand) (j : ℕ) (e : S) → IsTrue (row_fits r) → IsTrue (allows s r k) → Runs gives (any_tree s (chosen_of r o k) r.a) n st (Ok a) m p → Runs gives (any_tree s (chosen_of r o k) r.b) m p (Ok b) l q → Runs gives (any_tree s (chosen_of r o k) r.c) l q (Ok c) j e → Runs gives (behind_tree s (chosen_of r o k)) n st (Ok (insn_from s r (three a b c))) j e
unfolding three_tree Runs
behind_three gives s r o k n st a m p b l q c j e fits allowed ra rb rc =
    let tree = any_tree s (chosen_of r o k) in
    behind_left gives s r o k n st (Ok a) (three a b c) j e fits allowed
    (runs_ok gives (tree r.a) (λ x. tree r.b >>= λ y. tree r.c >>= λ z. Done (three x y z)) n st a m p (Ok (three a b c)) j e ra
    (runs_ok gives (tree r.b) (λ y. tree r.c >>= λ z. Done (three a y z)) m p b l q (Ok (three a b c)) j e rb
    (runs_ok gives (tree r.c) (λ z. Done (three a b z)) l q c j e (Ok (three a b c)) j e rc (refl, refl, refl))))

-- ---- the opcode and the ModRM byte

pub guard_bind : {S A B : Type 0} (gives : S → Result ℕ Fault → S → Type 0) (v : Bool) (a : A) (k : A → Tree B) → Like gives (guard v (k a)) (guard v (Done a) >>= k)
guard_bind gives true a k n s r m e q = q
guard_bind gives false a k n s r m e q = q

pub found_not : {S : Type 0} (gives : S → Result ℕ Fault → S → Type 0) (s : Setting) (f : Entry) (b n : ℕ) (st : S) → starts s.lock f ≡ false → Runs gives (found_tree s f b) n st (Err causes.Undefined) n st
unfolding found_tree Runs
found_not gives s f b n st h = rw h (refl, refl, refl)

pub found_with : {S : Type 0} (gives : S → Result ℕ Fault → S → Type 0) (s : Setting) (f : Entry) (b n : ℕ) (st : S) (r : Result Insn Undecoded) (m : ℕ) (e : S) → starts s.lock f ≡ true → Runs gives (entry_modrm_tree s f b >>= λ c. behind_tree s c) n st r m e → Runs gives (found_tree s f b) n st r m e
unfolding found_tree
found_with gives s f b n st r m e h q = rw h q

-- ---- the whole row

pub row_one : {S : Type 0} (gives : S → Result ℕ Fault → S → Type 0) (s : Setting) (b n : ℕ) (st : S) (x : Result Insn Undecoded) (m : ℕ) (e : S) → b ≢ 0x0F → Runs gives (found_tree s (one_entry b) b) n st x m e → Runs gives (row_tree s b) n st x m e
unfolding row_tree opcode_tree found_tree modrm_tree
row_one gives s b n st x m e ne q =
    let t : (b == 0x0F) ≡ false = grind (arith, nat_tests) in
    rw t (guard_bind gives (starts s.lock (one_entry b)) (head_of (one_entry b) b) (λ h. entry_modrm_tree s h.entry h.opcode >>= λ c. behind_tree s c) n st x m e q)

two_like : {S : Type 0} (gives : S → Result ℕ Fault → S → Type 0) (s : Setting) (b : ℕ) → b ≡ 0x0F → Like gives (byte_tree >>= λ k. found_tree s (two_entry k) k) (row_tree s b)
unfolding row_tree opcode_tree found_tree modrm_tree
two_like gives s b h n st x m e q =
    let t : (b == 0x0F) ≡ true = rw h refl in
    rw t (under gives byte_tree (λ k. found_tree s (two_entry k) k) (λ k. guard (starts s.lock (two_entry k)) (Done (head_of (two_entry k) k)) >>= λ f. entry_modrm_tree s f.entry f.opcode >>= λ c. behind_tree s c) (λ k. guard_bind gives (starts s.lock (two_entry k)) (head_of (two_entry k) k) (λ f. entry_modrm_tree s f.entry f.opcode >>= λ c. behind_tree s c)) n st x m e q)

pub row_two : {S : Type 0} (gives : S → Result ℕ Fault → S → Type 0) (s : Setting) (b n : ℕ) (st : S) (k l : ℕ) (mid : S) (x : Result Insn Undecoded) (m : ℕ) (e : S) → b ≡ 0x0F → Runs gives byte_tree n st (Ok k) l mid → Runs gives (found_tree s (two_entry k) k) l mid x m e → Runs gives (row_tree s b) n st x m e
row_two gives s b n st k l mid x m e h p q = two_like gives s b h n st x m e (runs_ok gives byte_tree (λ j. found_tree s (two_entry j) j) n st k l mid x m e p q)

pub row_two_err : {S : Type 0} (gives : S → Result ℕ Fault → S → Type 0) (s : Setting) (b n : ℕ) (st : S) (x : Undecoded) (m : ℕ) (e : S) → b ≡ 0x0F → Runs gives byte_tree n st (Err x) m e → Runs gives (row_tree s b) n st (Err x) m e
row_two_err gives s b n st x m e h p = two_like gives s b h n st (Err x) m e (runs_err gives byte_tree (λ j. found_tree s (two_entry j) j) n st x m e p)
