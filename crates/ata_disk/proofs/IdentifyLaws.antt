-- The identify block grows by a word at its end.
use Rattle.std.specs.Prelude.{ℕ, zero, suc, ◌≡◌, ◌+◌, ◌*◌, List, ◌++◌, length, take}
use Rattle.std.proofs.Common.{arith, ap, sym, ◌∙◌, append_assoc, add-one}
use Rattle.std.proofs.lemmas.List.{take_all}
use Rattle.mdl_state.specs.Bytes.{little_bytes}
use Rattle.mdl_dev.specs.declared.disk.Geometry.{Geometry}
use Rattle.mdl_dev.specs.DiskIdentify.{identify_word, identify_from, identify_block}

more : (g : Geometry) (total n count : ℕ) → identify_from g total n (suc count) ≡ identify_from g total n count ++ little_bytes 2 (identify_word g total (n + count))
more g total n zero = ap (λ k. little_bytes 2 (identify_word g total k)) (omega arith)
more g total n (suc count) =
    let e : n + 1 + count ≡ n + suc count = omega arith in
    ap (λ rest. little_bytes 2 (identify_word g total n) ++ rest) (more g total (n + 1) count ∙ ap (λ k. identify_from g total (n + 1) count ++ little_bytes 2 (identify_word g total k)) e)
    ∙ sym (append_assoc (little_bytes 2 (identify_word g total n)) (identify_from g total (n + 1) count) (little_bytes 2 (identify_word g total (n + suc count))))

pub identify_more : (g : Geometry) (total n : ℕ) → identify_from g total 0 (n + 1) ≡ identify_from g total 0 n ++ little_bytes 2 (identify_word g total n)
identify_more g total n = rw add-one (more g total 0 n ∙ ap (λ k. identify_from g total 0 n ++ little_bytes 2 (identify_word g total k)) (omega arith))

-- all words are the block
pub identified_whole : (g : Geometry) (total n : ℕ) (block : List ℕ) → length block ≡ 512 → n ≡ 256 → take (2 * n) block ≡ identify_from g total 0 n → block ≡ identify_block g total
unfolding identify_block
identified_whole g total n block full last words = sym (take_all (2 * n) block (omega arith)) ∙ words ∙ ap (identify_from g total 0) last
