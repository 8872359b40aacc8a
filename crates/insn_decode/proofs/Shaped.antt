-- What is told by shape is what the rows tell.
use Rattle.std.proofs.Common.{◌≡◌, ◌≢◌, ℕ, ◌<◌, ◌≤◌, Bool, true, false, not, ◌&&◌, ◌||◌, if◌then◌else◌, [], Result, Ok, refl, sym, ap, subst, ◌∙◌}
use Rattle.std.specs.Prelude.{Some, IsTrue}
use Rattle.std.specs.Bool.{OnTrue}
use Rattle.mdl_state.specs.declared.Fault.{Fault}
use Rattle.mdl_insn.specs.declared.instruction.Insn.{Insn}
use Rattle.mdl_insn.specs.declared.rows.Setting.{Setting}
use Rattle.mdl_insn.specs.declared.rows.Row.{Row}
use Rattle.mdl_insn.specs.declared.rows.Entry.{Entry}
use Rattle.mdl_insn.specs.declared.rows.Entry.TheVariants.{Undefined, One, Group}
use Rattle.mdl_insn.specs.Rows.{one_entry, two_entry, member_entry}
use Rattle.mdl_insn.specs.Tree.{byte_tree}
use Rattle.mdl_insn.specs.Addresses.{has_modrm, reg_of}
use Rattle.mdl_insn.specs.Operands.{allows, form_allows, lockable, group_locks}
use Rattle.mdl_insn.specs.Prefixes.{setting}
use Rattle.mdl_insn.specs.RowTree.{chosen_of, behind_tree, row_tree}
use Rattle.insn_decode.specs.declared.shapes.Shape.{Shape}
use Rattle.insn_decode.specs.Decoded.{Takes}
use Rattle.insn_decode.specs.Reading.{Runs, found_tree, prefix_step}
use Rattle.insn_decode.specs.Shapes.{is_row, is_group, is_row_like, other_fits, first_fits, lead_fits, shape_row, shape_fits}
use Rattle.insn_decode.specs.declared.shapes.Shape.TheVariants as shape
use Rattle.insn_decode.proofs.Named.{named}
use Rattle.insn_decode.proofs.Picking.{bare, one, member, found_allowed}
use Rattle.insn_decode.proofs.Placing.{row_one, row_two}
use Rattle.insn_decode.proofs.Ending.{prefixed_none, prefixed_more, ends_ok}

free : (l : Bool) (x : Bool) → l ≡ false → (not l || x) ≡ true
free l x e = rw e refl

-- without LOCK the forms alone say which ModRM bytes a row allows
pub freely : (s : Setting) (r : Row) (m : ℕ) → s.lock ≡ false → (form_allows r.a m && form_allows r.b m) ≡ true → IsTrue (allows s r m)
freely s r m lock f = rw (f, lock) refl

-- a row with a ModRM byte
pub told_modrm : {S : Type 0} (gives : S → Result ℕ Fault → S → Type 0) (s : Setting) (r : Row) (b n : ℕ) (st : S) (k l : ℕ) (mid : S) (i : Insn) (m : ℕ) (e : S) (v : Bool) → s.lock ≡ false → OnTrue v (has_modrm r ≡ true) → Runs gives byte_tree n st (Ok k) l mid → OnTrue v (allows s r k ≡ true) → OnTrue v (Runs gives (behind_tree s (chosen_of r b k)) l mid (Ok i) m e) → OnTrue v (Runs gives (found_tree s (One r) b) n st (Ok i) m e)
told_modrm gives s r b n st k l mid i m e true lock has p a q = found_allowed gives s (One r) r b n st k l mid (Ok i) m e (free s.lock (lockable r) lock) (one gives r n st k l mid has p) a q
told_modrm gives s r b n st k l mid i m e false lock has p a q = tt

-- a row without one
pub told_bare : {S : Type 0} (gives : S → Result ℕ Fault → S → Type 0) (s : Setting) (r : Row) (b n : ℕ) (st : S) (i : Insn) (m : ℕ) (e : S) (v : Bool) → s.lock ≡ false → has_modrm r ≡ false → (form_allows r.a 0 && form_allows r.b 0) ≡ true → OnTrue v (Runs gives (behind_tree s (chosen_of r b 0)) n st (Ok i) m e) → OnTrue v (Runs gives (found_tree s (One r) b) n st (Ok i) m e)
told_bare gives s r b n st i m e true lock has a q = found_allowed gives s (One r) r b n st 0 n st (Ok i) m e (free s.lock (lockable r) lock) (bare gives r n st has) (freely s r 0 lock a) q
told_bare gives s r b n st i m e false lock has a q = tt

pub is_one : (v : Bool) → OnTrue v (true ≡ true)
is_one true = refl
is_one false = tt

row_like : (f : Entry) (sh : Shape) → is_row sh ≡ true → shape_fits f sh ≡ true → is_row_like f sh ≡ true
row_like f sh row fits = subst (λ (v : Bool). (if v then is_row_like f sh else other_fits f sh) ≡ true) row fits

-- a row of a shape is that of the entry
pub entered_row : {S : Type 0} (gives : S → Result ℕ Fault → S → Type 0) (s : Setting) (f : Entry) (sh : Shape) (r : Row) (b n : ℕ) (st : S) (i : Insn) (m : ℕ) (e : S) (v : Bool) → f ≡ One r → is_row sh ≡ true → shape_fits f sh ≡ true → OnTrue v (Runs gives (found_tree s (One (shape_row sh r.op)) b) n st (Ok i) m e) → OnTrue v (Runs gives (found_tree s f b) n st (Ok i) m e)
entered_row gives s f sh r b n st i m e v is row fits q = subst (λ (g : Entry). OnTrue v (Runs gives (found_tree s g b) n st (Ok i) m e)) (sym (named f sh r is row fits)) q

-- an entry of which a shape is a row is one
pub no_row_undefined : (f : Entry) (sh : Shape) → f ≡ Undefined → is_row sh ≡ true → shape_fits f sh ≡ true → ⊥
no_row_undefined f sh is row fits = let no : false ≡ true = subst (λ (g : Entry). is_row_like g sh ≡ true) is (row_like f sh row fits) in cc

pub no_row_group : (f : Entry) (sh : Shape) (g : ℕ) → f ≡ Group g → is_row sh ≡ true → shape_fits f sh ≡ true → ⊥
no_row_group f sh g is row fits = let no : false ≡ true = subst (λ (h : Entry). is_row_like h sh ≡ true) is (row_like f sh row fits) in cc

-- a member of a group
pub grouped_member : {S : Type 0} (gives : S → Result ℕ Fault → S → Type 0) (s : Setting) (f : Entry) (g b n : ℕ) (st : S) (k l : ℕ) (mid : S) (r : Row) (sh : Shape) (i : Insn) (m : ℕ) (e : S) (v : Bool) → f ≡ Group g → s.lock ≡ false → Runs gives byte_tree n st (Ok k) l mid → member_entry g (reg_of k) ≡ One r → shape_fits (member_entry g (reg_of k)) sh ≡ true → OnTrue v (is_row sh ≡ true) → OnTrue v (allows s (shape_row sh r.op) k ≡ true) → OnTrue v (Runs gives (behind_tree s (chosen_of (shape_row sh r.op) b k)) l mid (Ok i) m e) → OnTrue v (Runs gives (found_tree s f b) n st (Ok i) m e)
grouped_member gives s f g b n st k l mid r sh i m e true at lock p is fits row a q =
    subst (λ (h : Entry). Runs gives (found_tree s h b) n st (Ok i) m e) (sym at)
    (found_allowed gives s (Group g) (shape_row sh r.op) b n st k l mid (Ok i) m e (free s.lock (group_locks g) lock)
    (member gives g (shape_row sh r.op) n st k l mid (named (member_entry g (reg_of k)) sh r is row fits) p) a q)
grouped_member gives s f g b n st k l mid r sh i m e false at lock p is fits row a q = tt

-- no entry stands at 0F
two_undefined : (b : ℕ) → b ≡ 0x0F → one_entry b ≡ Undefined
unfolding one_entry
two_undefined b is = ap one_entry is ∙ refl

not_two : (b : ℕ) (sh : Shape) → is_row sh ≡ true → is_row_like (one_entry b) sh ≡ true → b ≢ 0x0F
not_two b sh row like is = let no : false ≡ true = subst (λ (g : Entry). is_row_like g sh ≡ true) (two_undefined b is) like in cc

-- the entry of a first byte
pub opened_one : {S : Type 0} (gives : S → Result ℕ Fault → S → Type 0) (s : Setting) (f : Entry) (b n : ℕ) (st : S) (i : Insn) (m : ℕ) (e : S) (v : Bool) → b ≢ 0x0F → f ≡ one_entry b → OnTrue v (Runs gives (found_tree s f b) n st (Ok i) m e) → OnTrue v (Runs gives (row_tree s b) n st (Ok i) m e)
opened_one gives s f b n st i m e true ne is q = row_one gives s b n st (Ok i) m e ne (subst (λ (g : Entry). Runs gives (found_tree s g b) n st (Ok i) m e) is q)
opened_one gives s f b n st i m e false ne is q = tt

-- and that of the second behind 0F
pub opened_two : {S : Type 0} (gives : S → Result ℕ Fault → S → Type 0) (s : Setting) (b n : ℕ) (st : S) (k l : ℕ) (mid : S) (i : Insn) (m : ℕ) (e : S) (v : Bool) → b ≡ 0x0F → Runs gives byte_tree n st (Ok k) l mid → OnTrue v (Runs gives (found_tree s (two_entry k) k) l mid (Ok i) m e) → OnTrue v (Runs gives (row_tree s b) n st (Ok i) m e)
opened_two gives s b n st k l mid i m e true is p q = row_two gives s b n st k l mid (Ok i) m e is p q
opened_two gives s b n st k l mid i m e false is p q = tt

-- what the shape of a first byte says
lead_row : (b : ℕ) (sh : Shape) → is_row sh ≡ true → lead_fits b sh ≡ true → is_row_like (one_entry b) sh ≡ true
lead_row b sh row fits = subst (λ (v : Bool). (if v then is_row_like (one_entry b) sh else first_fits b (one_entry b) sh) ≡ true) row fits

pub row_there : (f : Entry) (b : ℕ) (sh : Shape) → f ≡ one_entry b → is_row sh ≡ true → lead_fits b sh ≡ true → shape_fits f sh ≡ true
row_there f b sh is row fits = subst (λ (v : Bool). (if v then is_row_like f sh else other_fits f sh) ≡ true) (sym row) (subst (λ (h : Entry). is_row_like h sh ≡ true) (sym is) (lead_row b sh row fits))

pub row_lead : (b : ℕ) (sh : Shape) → is_row sh ≡ true → lead_fits b sh ≡ true → b ≢ 0x0F
row_lead b sh row fits = not_two b sh row (lead_row b sh row fits)

pub group_lead : (b : ℕ) (sh : Shape) → sh ≡ shape.Group → lead_fits b sh ≡ true → b ≢ 0x0F
group_lead b sh at fits is = let no : false ≡ true = subst (λ (g : Entry). is_group g ≡ true) (two_undefined b is) (subst (λ (s : Shape). lead_fits b s ≡ true) at fits) in cc

-- no prefix
pub first_takes : {S : Type 0} (gives : S → Result ℕ Fault → S → Type 0) (big : Bool) (s mid : S) (b : ℕ) (i : Insn) (m : ℕ) (e : S) (v : Bool) → v ≡ true → gives s (Ok b) mid → b < 256 → m ≤ 15 → OnTrue v (Runs gives (row_tree (setting big []) b) 1 mid (Ok i) m e) → Takes gives big s i m e
first_takes gives big s mid b i m e true is g lt le q = ends_ok gives big s s mid 0 b (setting big []) i m e (prefixed_none gives big s (setting big []) refl) g lt le q
first_takes gives big s mid b i m e false is g lt le q = absurd cc

-- one
pub second_takes : {S : Type 0} (gives : S → Result ℕ Fault → S → Type 0) (big : Bool) (one mid : S) (p b : ℕ) (st : Setting) (i : Insn) (m : ℕ) (e : S) (v : Bool) → v ≡ true → Some st ≡ prefix_step big (setting big []) p → p < 256 → gives one (Ok b) mid → b < 256 → m ≤ 15 → OnTrue v (Runs gives (row_tree st b) 2 mid (Ok i) m e) → (s : S) → gives s (Ok p) one → Takes gives big s i m e
second_takes gives big one mid p b st i m e true is step small g lt le q s h =
    ends_ok gives big s one mid 1 b st i m e (prefixed_more gives big s s one 0 p (setting big []) st (prefixed_none gives big s (setting big []) refl) h small (sym step)) g lt le q
second_takes gives big one mid p b st i m e false is step small g lt le q s h = absurd cc
