-- Eight bytes of code that are at hand are those that are fetched.
use Rattle.std.proofs.Common.{◌≡◌, ◌<◌, ◌≤◌, ℕ, zero, suc, ◌+◌, ◌/◌, ◌%◌, ◌^◌, Bool, true, List, [], ◌∷◌, length, refl, sym, ap, subst, ◌∙◌, arith, inl, inr, Option, Some, None}
use Rattle.std.specs.Prelude.{nat_le, IfSome}
use Rattle.std.proofs.lemmas.Bool.Decides.{leb_tells}
use Rattle.std.proofs.lemmas.Grind.{pow_more}
use native.Mathlib.Nat.{div-div-eq-div-mul}
use Rattle.mdl_state.specs.declared.Seg.TheVariants.{Cs}
use Rattle.mdl_state.specs.declared.Size.TheVariants.{B1}
use Rattle.mdl_state.specs.declared.Regs.{Regs}
use Rattle.mdl_state.specs.declared.Who.{Who}
use Rattle.mdl_state.specs.State.{Mem}
use Rattle.mdl_state.specs.Registers.{seg_of}
use Rattle.mdl_state.specs.Bytes.{little_bytes}
use Rattle.mdl_state.specs.Accesses.{read_at}
use Rattle.mdl_state.specs.Serving.{Outcome, Pick, Passed, by_pick, on}
use Rattle.mdl_state.specs.Attempt.{Plan, Done, tried}
use Rattle.mdl_state.specs.AttemptLaws.{tried-then_plan}
use Rattle.mdl_cpu.specs.Segments.{who_of}
use Rattle.mdl_insn.specs.declared.instruction.Insn.{Insn}
use Rattle.mdl_insn.specs.Spelling.{Spelt}
use Rattle.mdl_step.specs.Fetching.{fetched_from, fetch_plan, is_wide, Instruction, Fetches}
use Rattle.insn_decode.specs.Decoded.{Came, Takes}
use Rattle.operands.specs.Whole.{whole}
use Rattle.cpu_core.specs.Window.{HasEight, Spells, gives_low}
use Rattle.cpu_core.proofs.Windows.{one_of, others, more_fetched}
use Rattle.cpu_core.proofs.Fetched.{whole_wide}

-- ---- what the decoder takes

-- the bytes that came of a number are its lowest ones
came_little : {S : Type 0} (low : S → ℕ) (s : S) (bytes : List ℕ) (e : S) → Came (λ s r t. gives_low (low s) r (low t)) s bytes e → bytes ≡ little_bytes (length bytes) (low s)
came_little low s [] e came = refl
came_little low s (b ∷ bytes) e came =
    let mid = came.0 in
    let first : b ≡ low s % 256 = cc (came.1.0) in
    ap (λ (x : ℕ). x ∷ bytes) first ∙ ap (λ (xs : List ℕ). low s % 256 ∷ xs) (came_little low mid bytes e came.2 ∙ ap (little_bytes (length bytes)) came.1.1)

-- so they spell what was taken
pub takes_spells : {S : Type 0} (low : S → ℕ) (big : Bool) (s e : S) (word count : ℕ) (insn : Insn) → low s ≡ word → count ≤ 8 → Takes (λ s r t. gives_low (low s) r (low t)) big s insn count e → Spells word big insn count
takes_spells low big s e word count insn is few takes = record {
  within = few;
  spelt = subst (λ (bytes : List ℕ). Spelt bytes big insn)
      (came_little low s takes.bytes e takes.came ∙ ap (λ (n : ℕ). little_bytes n (low s)) takes.len_is ∙ ap (little_bytes count) is) takes.spelt;
}

-- ---- what is fetched

-- the segment, the offset and the reader are not of the status flags
pub whole_eight : (pick : Pick) (r : Regs) (flags : ℕ) (m : Mem) (word : ℕ) → HasEight pick r m word → HasEight pick (whole r flags) m word
unfolding seg_of
whole_eight pick r flags m word has = record { within = has.within; bytes = has.bytes }

-- the clause of a memory, at CS:EIP
pub eight_at : (pick : Pick) (r : Regs) (m : Mem) (word base lin : ℕ) (who : Who) → base ≡ (seg_of r Cs).base → lin ≡ (base + r.eip) % 2 ^ 32 → who ≡ who_of r → r.eip + 7 ≤ (seg_of r Cs).limit
    → ((i : ℕ) → i < 8 → (Passed (word / 256 ^ i % 256), m) ≡ read_at (by_pick pick) m ((lin + i) % 2 ^ 32) B1 who) → HasEight pick r m word
eight_at pick r m word base lin who base_is lin_is who_is within bytes = record {
  within = within;
  bytes = λ i small.
      let same : (lin + i) % 2 ^ 32 ≡ ((seg_of r Cs).base + (r.eip + i)) % 2 ^ 32 = omega (arith, base_is, lin_is) in
      subst (λ (at : ℕ). (Passed (word / 256 ^ i % 256), m) ≡ read_at (by_pick pick) m at B1 (who_of r)) same
      (subst (λ (w : Who). (Passed (word / 256 ^ i % 256), m) ≡ read_at (by_pick pick) m ((lin + i) % 2 ^ 32) B1 w) who_is (bytes i small));
}

at_most : (a b : ℕ) → a ≤ b → nat_le a b ≡ true
at_most a b h = elim (leb_tells a b) as (λ _. nat_le a b ≡ true) [
  | inl q ↦ q.0
  | inr q ↦ absurd (omega (arith, h, q.1))
]

div_more : (word k : ℕ) → word / 256 ^ k / 256 ≡ word / 256 ^ (k + 1)
div_more word k = div-div-eq-div-mul word (256 ^ k) 256 ∙ ap (λ (n : ℕ). word / n) (sym (pow_more 256 k))

module _ (pick : Pick) (r : Regs) (m : Mem) (word : ℕ) (has : HasEight pick r m word) where
  byte : (k : ℕ) → k < 8 → tried (by_pick pick) 0 (one_of r k) m ≡ (Passed (word / 256 ^ k % 256), m)
  byte k small = rw (at_most (r.eip + k) (seg_of r Cs).limit (omega (arith, small, has.within))) (ap (λ (w : Outcome ℕ × Mem). on w (λ x n. (Passed x, n))) (sym (has.bytes k small)))

  bytes_fetched : (k count : ℕ) → k + count ≤ 8 → tried (by_pick pick) 0 (fetched_from r k count) m ≡ (Passed (little_bytes count (word / 256 ^ k)), m)
  bytes_fetched k zero fits = refl
  bytes_fetched k (suc count) fits =
      let serve = by_pick pick in
      let b : ℕ = word / 256 ^ k % 256 in
      ap (λ (p : Plan (List ℕ)). tried serve 0 p m) (more_fetched r k count)
      ∙ tried-then_plan serve 0 (one_of r k) (others r k count) m
      ∙ ap (λ (w : Outcome ℕ × Mem). on w (λ x n. tried serve 0 (others r k count x) n)) (byte k (omega (arith, fits)))
      ∙ tried-then_plan serve 0 (fetched_from r (k + 1) count) (λ more. Done (b ∷ more)) m
      ∙ ap (λ (w : Outcome (List ℕ) × Mem). on w (λ x n. tried serve 0 (Done (b ∷ x)) n)) (bytes_fetched (k + 1) count (omega (arith, fits)))
      ∙ ap (λ (rest : ℕ). (Passed (b ∷ little_bytes count rest), m)) (sym (div_more word k))

  pub eight_fetched : (insn : Insn) (count : ℕ) (big : Bool) → is_wide r ≡ big → Spells word big insn count → Fetches (by_pick pick) r m (Instruction insn count) m
  unfolding fetch_plan
  eight_fetched insn count big wide spells = record {
    bytes = little_bytes count word;
    within = omega (arith, spells.within);
    fetched = bytes_fetched 0 count (omega (arith, spells.within)) ∙ ap (λ (n : ℕ). (Passed (little_bytes count n), m)) (omega arith);
    spelt = subst (λ (b : Bool). Spelt (little_bytes count word) b insn) (sym wide) spells.spelt;
  }

-- so what eight bytes spell is what is fetched
pub eight_found : (pick : Pick) (r : Regs) (m : Mem) (word : ℕ) (big : Bool) (insn : Insn) (found : Option ℕ) → is_wide r ≡ big → HasEight pick r m word → IfSome found (λ count. Spells word big insn count)
    → IfSome found (λ count. (flags : ℕ) → Fetches (by_pick pick) (whole r flags) m (Instruction insn count) m)
eight_found pick r m word big insn (Some count) wide has spells = λ flags.
    eight_fetched pick (whole r flags) m word (whole_eight pick r flags m word has) insn count big (whole_wide r flags ∙ wide) spells
eight_found pick r m word big insn None wide has spells = tt
