-- The bytes of a block: one of them is seen through a `&`; and a `Vec` is its bytes and the way back. Assumes `Logic`.
use Rattle.std.proofs.Common.{◌≡◌, ℕ, zero, suc, ◌+◌, ◌<◌, ◌==◌, List, [], ◌∷◌, length, get_or, Bool, true, false, refl, sym, subst, arith, eqb→eq, Vec}
use Rattle.std.proofs.lemmas.List.{with_items_is}
use native.Mathlib.Nat.{not-suc-le-zero, le_of_suc-le-suc, suc-ne-zero}
use lib.Dec.{T}
use mathlib.Core.Bool.{not}
use seplogic.Ra.Ura.{Ura}
use mir.Val.{Val}
use base.Fraction.{full_share}
use base.Logic.{ent, sep, emp, wand, never, id⊢}
use base.Fml.{Fml, Lft, fsep, feq, fall, fwand}
use types.Logic.{Logic, sem}
use types.Kit.{‵, ◌$◌, ◌∵◌, !, qed, by, move, keep, drop, frame, each, assume, show, use0, fsplit, fjoin, feq_l, feq_i, rewrite, done}
use denote.RattleType.{RattleType}
use denote.Builtin.{u8}
use denote.Array.{Array}
use denote.Memory.{shared_of}
use denote.RawPtr.{Ptr, block_ptr, null_ptr, InBlock, lies_at, in_block, in_a_block}
use denote.RawPtr.Bytes.{bytes_whole}
use denote.Slice.{elements_shared}
use denote.Steps.{nothing}
use Rattle.std.specs.declared.alloc.Allocator.{Ghosts}
use Rattle.std.specs.Allocator.{block_with_items}
use Rattle.std.specs.Vec.{with_items}
use Rattle.std_alloc.specs.Vec.Ownership.{owns_if, has_block}
use Rattle.std_alloc.specs.contracts.vec.Vec as V
use Rattle.guest_ram.specs.Block.{bytes_owned}
use Rattle.guest_ram.specs.contracts.block.Shell as Shell
use Rattle.guest_ram.proofs.Steps.{Fields, single, single_made}

module _ {M : Type 1} {𝓤 : Ura M} (𝓛 : Logic 𝓤) (b : ℕ) (κ : Lft) where
  pub byte_seen : (list : List ℕ) (i o at : ℕ) → at ≡ i + o → i < length list
      → ent 𝓤 (sem 𝓛 (elements_shared u8 list b o κ)) (sem 𝓛 (shared_of u8 (get_or list i 0) b at κ))
  byte_seen [] i o at e inside = absurd (not-suc-le-zero inside)
  byte_seen (x ∷ list) zero o at e inside =
      let here : o ≡ at = omega arith in
      qed 𝓛 (‵ (elements_shared u8 (x ∷ list) b o κ) ∷ []) ∵ fsplit ! $ keep ! (0 ∷ []) $ rewrite ! 0 (λ (k : ℕ). ‵ (shared_of u8 x b k κ)) here refl $ done !
  byte_seen (x ∷ list) (suc i) o at e inside =
      qed 𝓛 (‵ (elements_shared u8 (x ∷ list) b o κ) ∷ []) ∵ fsplit ! $ keep ! (1 ∷ []) $ by ! (byte_seen list i (o + 1) at (omega arith) (le_of_suc-le-suc inside))

no_bytes : {M : Type 1} {𝓤 : Ura M} (𝓛 : Logic 𝓤) (p : Ptr) (list : List ℕ) → InBlock p → length list ≡ 0 → ent 𝓤 (emp 𝓤) (sem 𝓛 (bytes_owned p list))
no_bytes 𝓛 (block_ptr b o) [] placed none = qed 𝓛 [] ∵ nothing ! $ feq_i ! ℕ 0 0 refl $ fjoin ! $ by ! (bytes_whole 𝓛 full_share 0 [] b o)
no_bytes 𝓛 (block_ptr b o) (x ∷ list) placed none = absurd (suc-ne-zero (length list) none)
no_bytes 𝓛 null_ptr list placed none = absurd placed

no_cap : (y : Bool) (c : ℕ) → (T y → c ≡ 0) → not y ≡ false → c ≡ 0
no_cap true c is e = is tt
no_cap false c is e = cc

module _ (P : RattleType) (g : Ghosts P.Denot) {M : Type 1} {𝓤 : Ura M} (𝓛 : Logic 𝓤) (v : Vec ℕ P.Denot) (u : Val) where
  abbrev W : RattleType
  W = V.the_row u8 P g

  abbrev Held : Ptr → List ℕ → Fml
  Held p list = block_with_items (g.dealloc_token v.alloc) u8 p v.len v.cap list

  -- what waits for the bytes
  abbrev Given : List ℕ → Fml
  Given list = fsep (feq ℕ (length list) v.len) (bytes_owned v.ptr list)

  abbrev Whole : List ℕ → Fml
  Whole list = (Fields (W ∷ [])).own_val (with_items v list, tt) (single u ∷ [])

  abbrev Apart : Type 1
  Apart = ent 𝓤 (sem 𝓛 (W.own_val v (u ∷ []))) (sep 𝓤 (sem 𝓛 (bytes_owned v.ptr v.items)) (sem 𝓛 (Shell.the_own P g (record { at = v.ptr; count = v.len }) (single u ∷ []))))

  apart : (y : Bool) → has_block v.cap ≡ y → Apart
  apart true live =
      qed 𝓛 (‵ (W.own_val v (u ∷ [])) ∷ []) ∵ fsplit ! $ move ! (1 ∷ []) $ fsplit ! $ move ! (1 ∷ []) $
      in_a_block ! v.ptr (λ p. in_block p (owns_if (has_block v.cap) (Held p v.items))) (id⊢ 𝓤 (never 𝓤)) (λ b o at.
      rewrite ! 0 (λ y. ‵ (owns_if y (Held (block_ptr b o) v.items))) live refl $ rewrite ! 0 (λ p. ‵ (Held p v.items)) (sym at) refl $ fsplit ! $
      rewrite ! 0 (λ n. ‵ (lies_at (Array u8 n) full_share v.ptr v.items)) v.ok.0 refl $ frame ! $
      -- [the rest of the block, and the right to free it; its size; the fields]
      show ! (λ i. sem 𝓛 (fsep (feq ℕ i.vec.len v.len) (fall (List ℕ) (λ list. fwand (Given list) ((Fields (W ∷ [])).own_val (with_items i.vec list, tt) (single u ∷ [])))))) (record { vec = v }) $
      feq_i ! ℕ v.len v.len refl $ frame ! $ each ! (λ list. wand 𝓤 (sem 𝓛 (Given list)) (sem 𝓛 (Whole list))) (λ list. assume ! (‵ (Given list)) $ fsplit ! $ feq_l ! (λ long.
      rewrite ! 0 (λ n. ‵ (lies_at (Array u8 n) full_share v.ptr list)) long refl $ fjoin ! $
      rewrite ! 0 (λ xs. ‵ (Held v.ptr xs)) (sym (with_items_is v list long)) refl $
      let zs = (with_items v list).items in
      rewrite ! 0 (λ p. ‵ (Held p zs)) at refl $ rewrite ! 0 (λ y. ‵ (owns_if y (Held (block_ptr b o) zs))) (sym live) refl $
      rewrite ! 0 (λ p. ‵ (in_block p (owns_if (has_block v.cap) (Held p zs)))) (sym at) refl $
      move ! (1 ∷ 0 ∷ []) $ fjoin ! $ move ! (1 ∷ 0 ∷ []) $ fjoin ! $ single_made ! W (with_items v list) u $ done !)))
  -- with no block there are no bytes, and what is given back is dropped
  apart false none =
      let flat : v.cap ≡ 0 = no_cap (v.cap == 0) v.cap (eqb→eq v.cap 0) none in
      let bare : length v.items ≡ 0 = omega (arith, v.ok.0, v.ok.1) in
      qed 𝓛 (‵ (W.own_val v (u ∷ [])) ∷ []) ∵ fsplit ! $ move ! (1 ∷ []) $ fsplit ! $ move ! (1 ∷ []) $
      in_a_block ! v.ptr (λ p. in_block p (owns_if (has_block v.cap) (Held p v.items))) (id⊢ 𝓤 (never 𝓤)) (λ b o at.
      drop ! $ use0 𝓛 (‵ (bytes_owned v.ptr v.items)) (no_bytes 𝓛 v.ptr v.items (subst InBlock (sym at) tt) bare) $ frame ! $
      -- [its size; the fields]
      show ! (λ i. sem 𝓛 (fsep (feq ℕ i.vec.len v.len) (fall (List ℕ) (λ list. fwand (Given list) ((Fields (W ∷ [])).own_val (with_items i.vec list, tt) (single u ∷ [])))))) (record { vec = v }) $
      feq_i ! ℕ v.len v.len refl $ frame ! $ each ! (λ list. wand 𝓤 (sem 𝓛 (Given list)) (sem 𝓛 (Whole list))) (λ list. assume ! (‵ (Given list)) $ drop ! $ nothing ! $
      let zs = (with_items v list).items in
      rewrite ! 0 (λ y. ‵ (owns_if y (Held (block_ptr b o) zs))) (sym none) refl $
      rewrite ! 0 (λ p. ‵ (in_block p (owns_if (has_block v.cap) (Held p zs)))) (sym at) refl $
      move ! (1 ∷ 0 ∷ []) $ fjoin ! $ move ! (1 ∷ 0 ∷ []) $ fjoin ! $ single_made ! W (with_items v list) u $ done !))

  -- a `Vec` is its bytes and the way back
  pub vec_apart : Apart
  vec_apart = apart (has_block v.cap) refl
