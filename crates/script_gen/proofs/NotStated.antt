-- When a text is that of no kind of event, and a line that of no event.
use Rattle.std.proofs.Common.{◌≡◌, ◌≢◌, ℕ, ◌<◌, ◌≤◌, ◌^◌, List, [], ◌∷◌, ◌++◌, codes, refl, sym, ap, ◌∙◌, get_or, arith}
use Rattle.std.specs.Fmt.{decimal}
use Rattle.std.proofs.lemmas.Fmt.{decimal_injective}
use Rattle.std.proofs.lemmas.List.{append_cancel_left}
use Rattle.mdl_state.specs.declared.Event.{Event}
use Rattle.mdl_state.specs.declared.EventKind.{EventKind}
use Rattle.mdl_state.specs.declared.EventKind.TheVariants.{Key, Pulse, Nmi, Reset}
use Rattle.mdl_text.specs.Script.{IsByteText, IsKindText, States}
use Rattle.mdl_text.specs.ScriptLaws.{Lacks, one_cut, decimal_lacks_space}

-- no word and no number fits the text
pub none_of : (text : List ℕ) → text ≢ codes "nmi" → text ≢ codes "reset"
    → ((digits : List ℕ) → text ≡ codes "key " ++ digits → (byte : ℕ) → ¬ (IsByteText byte digits))
    → ((n : ℕ) → 1 ≤ n → n < 2 ^ 32 → text ≢ codes "pulse " ++ decimal n)
    → (kind : EventKind) → ¬ (IsKindText kind text)
none_of text nmi reset key pulse (Key byte) (digits, e, h) = key digits e byte h
none_of text nmi reset key pulse (Pulse n) h = pulse n h.1 h.2 h.0
none_of text nmi reset key pulse Nmi h = nmi h
none_of text nmi reset key pulse Reset h = reset h

apart : (text digits count : List ℕ) → text ≡ codes "key " ++ digits → text ≡ codes "pulse " ++ count → ⊥
apart text digits count e f = let k : 107 ≡ 112 = ap (λ (l : List ℕ). get_or l 0 0) (sym e ∙ f) in omega (arith, k)

-- behind `key ` stands no byte
pub no_byte : (text rest : List ℕ) → text ≢ codes "nmi" → text ≢ codes "reset" → text ≡ codes "key " ++ rest
    → ((byte : ℕ) → ¬ (IsByteText byte rest)) → (kind : EventKind) → ¬ (IsKindText kind text)
no_byte text rest nmi reset e none = none_of text nmi reset
    (λ digits f byte h. none byte (subst_digits digits f byte h))
    (λ n low high f. apart text rest (decimal n) e f)
  where
    subst_digits : (digits : List ℕ) → text ≡ codes "key " ++ digits → (byte : ℕ) → IsByteText byte digits → IsByteText byte rest
    subst_digits digits f byte h = let same : digits ≡ rest = append_cancel_left (codes "key ") digits rest (sym f ∙ e) in rw same at h

-- behind `pulse ` stands no number of pulses
pub no_count : (text rest : List ℕ) → text ≢ codes "nmi" → text ≢ codes "reset" → text ≡ codes "pulse " ++ rest
    → ((n : ℕ) → 1 ≤ n → n < 2 ^ 32 → rest ≢ decimal n) → (kind : EventKind) → ¬ (IsKindText kind text)
no_count text rest nmi reset e none = none_of text nmi reset
    (λ digits f byte h. apart text digits rest f e)
    (λ n low high f. none n low high (append_cancel_left (codes "pulse ") rest (decimal n) (sym e ∙ f)))

pub not_zero : (rest : List ℕ) (count : ℕ) → rest ≡ decimal count → count ≡ 0 → (n : ℕ) → 1 ≤ n → n < 2 ^ 32 → rest ≢ decimal n
not_zero rest count e zero n low high f = let same : count ≡ n = decimal_injective count n (omega arith) (omega arith) (sym e ∙ f) in omega arith

lacks_none : (byte : ℕ) (a x : List ℕ) → Lacks byte (a ++ byte ∷ x) → ⊥
lacks_none byte [] x h = h.0 refl
lacks_none byte (c ∷ a) x h = lacks_none byte a x h.1

-- a line without a space
pub no_space : (line : List ℕ) → Lacks 32 line → (event : Event) → ¬ (States line event)
no_space line h event s = lacks_none 32 (decimal event.at) s.kind (rw s.whole at h)

-- a line that is cut at its first space
pub parts : (line count kind : List ℕ) → line ≡ count ++ 32 ∷ kind → Lacks 32 count → (event : Event) → (s : States line event) → (decimal event.at ≡ count) × (s.kind ≡ kind)
parts line count kind e h event s = one_cut 32 (decimal event.at) count s.kind kind (decimal_lacks_space event.at s.count) h (sym s.whole ∙ e)
