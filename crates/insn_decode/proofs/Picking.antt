-- The row of an entry and its ModRM byte, as the code finds them.
use Rattle.std.proofs.Common.{◌≡◌, ℕ, Bool, true, false, cond, Result, Ok, Err, refl, sym, ap, subst}
use Rattle.mdl_state.specs.declared.Fault.{Fault}
use Rattle.mdl_insn.specs.declared.instruction.Insn.{Insn}
use Rattle.mdl_insn.specs.declared.rows.Setting.{Setting}
use Rattle.mdl_insn.specs.declared.rows.Row.{Row}
use Rattle.mdl_insn.specs.declared.rows.Entry.{Entry}
use Rattle.mdl_insn.specs.declared.rows.Entry.TheVariants.{Undefined, One, Group}
use Rattle.mdl_insn.specs.Rows.{member_entry}
use Rattle.mdl_insn.specs.Tree.{Done, ◌>>=◌, byte_tree, guard}
use Rattle.mdl_insn.specs.Addresses.{has_modrm, reg_of}
use Rattle.mdl_insn.specs.Operands.{allows}
use Rattle.mdl_insn.specs.RowTree.{chosen_of, member_tree, entry_modrm_tree, behind_tree, starts}
use Rattle.insn_decode.specs.declared.refusals.Undecoded.{Undecoded}
use Rattle.insn_decode.specs.declared.refusals.Undecoded.TheVariants as causes
use Rattle.insn_decode.specs.Reading.{Runs, pick_of, pick_tree, member_pick, allowed_tree, found_tree}
use Rattle.insn_decode.proofs.Running.{runs_ok, runs_err}
use Rattle.insn_decode.proofs.Trims.{one_allows}
use Rattle.insn_decode.proofs.Placing.{Like, under, equal, guard_bind, found_with}

-- ---- picking

pub none : {S : Type 0} (gives : S → Result ℕ Fault → S → Type 0) (n : ℕ) (st : S) → Runs gives (pick_tree Undefined) n st (Err causes.Undefined) n st
unfolding Runs pick_tree
none gives n st = (refl, refl, refl)

pub bare : {S : Type 0} (gives : S → Result ℕ Fault → S → Type 0) (r : Row) (n : ℕ) (st : S) → has_modrm r ≡ false → Runs gives (pick_tree (One r)) n st (Ok (pick_of r 0)) n st
unfolding Runs pick_tree
bare gives r n st h = rw h (refl, refl, refl)

pub one : {S : Type 0} (gives : S → Result ℕ Fault → S → Type 0) (r : Row) (n : ℕ) (st : S) (k l : ℕ) (mid : S) → has_modrm r ≡ true → Runs gives byte_tree n st (Ok k) l mid → Runs gives (pick_tree (One r)) n st (Ok (pick_of r k)) l mid
unfolding Runs pick_tree
one gives r n st k l mid h p = rw h (runs_ok gives byte_tree (λ m. Done (pick_of r m)) n st k l mid (Ok (pick_of r k)) l mid p (refl, refl, refl))

pub one_err : {S : Type 0} (gives : S → Result ℕ Fault → S → Type 0) (r : Row) (n : ℕ) (st : S) (x : Undecoded) (l : ℕ) (e : S) → has_modrm r ≡ true → Runs gives byte_tree n st (Err x) l e → Runs gives (pick_tree (One r)) n st (Err x) l e
unfolding pick_tree
one_err gives r n st x l e h p = rw h (runs_err gives byte_tree (λ m. Done (pick_of r m)) n st x l e p)

pub member_err : {S : Type 0} (gives : S → Result ℕ Fault → S → Type 0) (g n : ℕ) (st : S) (x : Undecoded) (l : ℕ) (e : S) → Runs gives byte_tree n st (Err x) l e → Runs gives (pick_tree (Group g)) n st (Err x) l e
unfolding pick_tree
member_err gives g n st x l e p = runs_err gives byte_tree (λ m. member_pick (member_entry g (reg_of m)) m) n st x l e p

pub member : {S : Type 0} (gives : S → Result ℕ Fault → S → Type 0) (g : ℕ) (r : Row) (n : ℕ) (st : S) (k l : ℕ) (mid : S) → member_entry g (reg_of k) ≡ One r → Runs gives byte_tree n st (Ok k) l mid → Runs gives (pick_tree (Group g)) n st (Ok (pick_of r k)) l mid
unfolding pick_tree Runs
member gives g r n st k l mid f p =
    runs_ok gives byte_tree (λ m. member_pick (member_entry g (reg_of m)) m) n st k l mid (Ok (pick_of r k)) l mid p
    (subst (λ (f : Entry). Runs gives (member_pick f k) l mid (Ok (pick_of r k)) l mid) (sym f) (refl, refl, refl))

abbrev is_row : Entry → Bool
is_row (One r) = true
is_row _ = false

member_no : {S : Type 0} (gives : S → Result ℕ Fault → S → Type 0) (f : Entry) (k l : ℕ) (mid : S) → is_row f ≡ false → Runs gives (member_pick f k) l mid (Err causes.Undefined) l mid
unfolding Runs
member_no gives Undefined k l mid h = (refl, refl, refl)
member_no gives (One r) k l mid h = absurd cc
member_no gives (Group g) k l mid h = (refl, refl, refl)

member_not : {S : Type 0} (gives : S → Result ℕ Fault → S → Type 0) (g n : ℕ) (st : S) (k l : ℕ) (mid : S) → is_row (member_entry g (reg_of k)) ≡ false → Runs gives byte_tree n st (Ok k) l mid → Runs gives (pick_tree (Group g)) n st (Err causes.Undefined) l mid
unfolding pick_tree
member_not gives g n st k l mid h p =
    runs_ok gives byte_tree (λ m. member_pick (member_entry g (reg_of m)) m) n st k l mid (Err causes.Undefined) l mid p (member_no gives (member_entry g (reg_of k)) k l mid h)

pub member_undefined : {S : Type 0} (gives : S → Result ℕ Fault → S → Type 0) (g n : ℕ) (st : S) (k l : ℕ) (mid : S) → member_entry g (reg_of k) ≡ Undefined → Runs gives byte_tree n st (Ok k) l mid → Runs gives (pick_tree (Group g)) n st (Err causes.Undefined) l mid
member_undefined gives g n st k l mid f p = member_not gives g n st k l mid (ap is_row f) p

pub member_group : {S : Type 0} (gives : S → Result ℕ Fault → S → Type 0) (g j n : ℕ) (st : S) (k l : ℕ) (mid : S) → member_entry g (reg_of k) ≡ Group j → Runs gives byte_tree n st (Ok k) l mid → Runs gives (pick_tree (Group g)) n st (Err causes.Undefined) l mid
member_group gives g j n st k l mid f p = member_not gives g n st k l mid (ap is_row f) p

-- ---- what was picked, and what follows

member_like : {S : Type 0} (gives : S → Result ℕ Fault → S → Type 0) (s : Setting) (f : Entry) (b k : ℕ) → Like gives (member_pick f k >>= λ p. allowed_tree s b p) (member_tree s f b k >>= λ c. behind_tree s c)
unfolding allowed_tree
member_like gives s Undefined b k = λ n st r m e q. q
member_like gives s (One r) b k = guard_bind gives (allows s r k) (chosen_of r b k) (λ c. behind_tree s c)
member_like gives s (Group g) b k = λ n st r m e q. q

pick_like : {S : Type 0} (gives : S → Result ℕ Fault → S → Type 0) (s : Setting) (f : Entry) (b : ℕ) → starts s.lock f ≡ true → Like gives (pick_tree f >>= λ p. allowed_tree s b p) (entry_modrm_tree s f b >>= λ c. behind_tree s c)
unfolding pick_tree allowed_tree
pick_like gives s Undefined b h = absurd cc
pick_like gives s (One r) b h =
    elim (has_modrm r) as (λ v. Like gives (cond v (byte_tree >>= λ m. Done (pick_of r m)) (Done (pick_of r 0)) >>= λ p. guard (allows s p.row p.modrm) (behind_tree s (chosen_of p.row b p.modrm))) (cond v (byte_tree >>= λ m. guard (allows s r m) (Done (chosen_of r b m))) (Done (chosen_of r b 0)) >>= λ c. behind_tree s c)) [
      | true ↦ under gives byte_tree (λ k. guard (allows s r k) (behind_tree s (chosen_of r b k))) (λ k. guard (allows s r k) (Done (chosen_of r b k)) >>= λ c. behind_tree s c) (λ k. guard_bind gives (allows s r k) (chosen_of r b k) (λ c. behind_tree s c))
      | false ↦ equal gives (guard (allows s r 0) (behind_tree s (chosen_of r b 0))) (behind_tree s (chosen_of r b 0)) (ap (λ v. guard v (behind_tree s (chosen_of r b 0))) (one_allows s r h))
    ]
pick_like gives s (Group g) b h =
    under gives byte_tree (λ k. member_pick (member_entry g (reg_of k)) k >>= λ p. allowed_tree s b p) (λ k. member_tree s (member_entry g (reg_of k)) b k >>= λ c. behind_tree s c) (λ k. member_like gives s (member_entry g (reg_of k)) b k)

found_picked : {S : Type 0} (gives : S → Result ℕ Fault → S → Type 0) (s : Setting) (f : Entry) (b n : ℕ) (st : S) (x : Result Insn Undecoded) (m : ℕ) (e : S) → starts s.lock f ≡ true → Runs gives (pick_tree f >>= λ p. allowed_tree s b p) n st x m e → Runs gives (found_tree s f b) n st x m e
found_picked gives s f b n st x m e h q = found_with gives s f b n st x m e h (pick_like gives s f b h n st x m e q)

pub found_err : {S : Type 0} (gives : S → Result ℕ Fault → S → Type 0) (s : Setting) (f : Entry) (b n : ℕ) (st : S) (x : Undecoded) (m : ℕ) (e : S) → starts s.lock f ≡ true → Runs gives (pick_tree f) n st (Err x) m e → Runs gives (found_tree s f b) n st (Err x) m e
found_err gives s f b n st x m e h p = found_picked gives s f b n st (Err x) m e h (runs_err gives (pick_tree f) (λ p. allowed_tree s b p) n st x m e p)

pub found_refused : {S : Type 0} (gives : S → Result ℕ Fault → S → Type 0) (s : Setting) (f : Entry) (r : Row) (b n : ℕ) (st : S) (k l : ℕ) (mid : S) → starts s.lock f ≡ true → Runs gives (pick_tree f) n st (Ok (pick_of r k)) l mid → allows s r k ≡ false → Runs gives (found_tree s f b) n st (Err causes.Undefined) l mid
unfolding allowed_tree Runs
found_refused gives s f r b n st k l mid h p a =
    found_picked gives s f b n st (Err causes.Undefined) l mid h (runs_ok gives (pick_tree f) (λ p. allowed_tree s b p) n st (pick_of r k) l mid (Err causes.Undefined) l mid p (rw a (refl, refl, refl)))

pub found_allowed : {S : Type 0} (gives : S → Result ℕ Fault → S → Type 0) (s : Setting) (f : Entry) (r : Row) (b n : ℕ) (st : S) (k l : ℕ) (mid : S) (x : Result Insn Undecoded) (m : ℕ) (e : S) → starts s.lock f ≡ true → Runs gives (pick_tree f) n st (Ok (pick_of r k)) l mid → allows s r k ≡ true → Runs gives (behind_tree s (chosen_of r b k)) l mid x m e → Runs gives (found_tree s f b) n st x m e
unfolding allowed_tree
found_allowed gives s f r b n st k l mid x m e h p a q =
    found_picked gives s f b n st x m e h (runs_ok gives (pick_tree f) (λ p. allowed_tree s b p) n st (pick_of r k) l mid x m e p (rw a q))
