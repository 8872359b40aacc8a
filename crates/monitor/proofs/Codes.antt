-- Lemmas on code: one more byte, the text of each front, and one more line of a listing.
use Rattle.std.proofs.Common.{◌≡◌, ◌≢◌, inl, inr, ℕ, zero, suc, ◌+◌, ◌-◌, ◌%◌, ◌^◌, ◌<◌, ◌≤◌, Bool, List, [], ◌∷◌, ◌++◌, length, take, Option, None, Some, IfSome, codes, refl, ap, sym, subst, ◌∙◌, arith, append_assoc, append-nil}
use Rattle.std.specs.Prelude.{slice_index}
use Rattle.std.proofs.lemmas.Bool.Decides.{eqb_tells}
use Rattle.std.proofs.lemmas.List.{get_or_at, get_or_append_left}
use Rattle.mdl_board.specs.Board.{BoardState}
use Rattle.mdl_insn.specs.declared.instruction.Insn.{Insn}
use Rattle.mdl_insn.specs.Listing.{Front, Whole, Undefined, TooLong, Short, StandsAt, covered, bytes_text}
use Rattle.mdl_insn.specs.Text.{hex, print_text}
use Rattle.mdl_state.specs.declared.Activity.TheVariants.{Running}
use Rattle.mdl_state.specs.Machine.{Machine}
use Rattle.mdl_state.specs.State.{Mem}
use Rattle.mdl_step.specs.Computer.{linear_byte}
use Rattle.mdl_step.specs.Fetching.{is_wide}
use Rattle.insn_decode.specs.Slices.{TakesFront, UndefinedAt, LongAt, ShortAt}
use Rattle.monitor.specs.Moves.{code_address}
use Rattle.monitor.specs.Places.{IsCode, code_text, Stands, IsWord, IsCodeLine, ListsAt}
use Rattle.monitor.specs.Reading.{covers, IsNamed, GrowsByListing}

-- ---- bytes

-- one more byte
pub code_more : (m : Mem) (at n b : ℕ) (code more : List ℕ) → length code ≡ n → more ≡ code ++ b ∷ [] → linear_byte m ((at + n) % 2 ^ 32) ≡ Some b
    → ((i : ℕ) → i < n → linear_byte m ((at + i) % 2 ^ 32) ≡ Some (slice_index code i))
    → (i : ℕ) → i < n + 1 → linear_byte m ((at + i) % 2 ^ 32) ≡ Some (slice_index more i)
code_more m at n b code more len is there before i lt = elim (eqb_tells i n) as (λ _. linear_byte m ((at + i) % 2 ^ 32) ≡ Some (slice_index more i)) [
  | inl q ↦ subst (λ (j : ℕ). linear_byte m ((at + j) % 2 ^ 32) ≡ Some (slice_index more j)) (sym q.1) (there ∙ ap (λ (x : ℕ). Some x) (sym (ap (λ (xs : List ℕ). slice_index xs n) is ∙ get_or_at code b [] 0 n len)))
  | inr q ↦ before i (omega (arith, lt, q.1)) ∙ ap (λ (x : ℕ). Some x) (sym (ap (λ (xs : List ℕ). slice_index xs i) is ∙ get_or_append_left code (b ∷ []) 0 i (omega (arith, lt, q.1, len))))
]

-- ---- fronts

abbrev IsNone : Option ℕ → Type 0
IsNone None = Unit {0}
IsNone (Some x) = ⊥

abbrev IsSome : Option ℕ → Type 0
IsSome None = ⊥
IsSome (Some x) = Unit {0}

abbrev or_zero : Option ℕ → ℕ
or_zero None = 0
or_zero (Some x) = x

pub whole_named : (code : List ℕ) (big : Bool) (at n k : ℕ) (insn : Insn) (name : List ℕ) (count : Option ℕ) → TakesFront code big insn n → name ≡ print_text insn ((at + k) % 2 ^ 32) → k ≡ n → count ≡ Some n → IsNamed code big at name count
whole_named code big at n k insn name count takes is same counts = record {
  front = Whole insn n;
  stands = (takes.inside, takes.within, takes.spelt);
  text = is ∙ ap (λ (i : ℕ). print_text insn ((at + i) % 2 ^ 32)) same;
  count_is = counts;
}

pub undefined_named : (code : List ℕ) (big : Bool) (at : ℕ) (name : List ℕ) (count : Option ℕ) → UndefinedAt code big → name ≡ codes "undefined" → count ≡ Some 1 → IsNamed code big at name count
undefined_named code big at name count u is counts = record {
  front = Undefined;
  stands = (u.at, u.inside, u.within, u.begun, u.not_begun, u.not_spelt);
  text = is;
  count_is = counts;
}

pub long_named : (code : List ℕ) (big : Bool) (at : ℕ) (name : List ℕ) (count : Option ℕ) → LongAt code big → name ≡ codes "too long" → count ≡ Some 1 → IsNamed code big at name count
long_named code big at name count l is counts = record { front = TooLong; stands = (l.inside, l.begun); text = is; count_is = counts }

pub short_named : (code : List ℕ) (big : Bool) (at : ℕ) (name : List ℕ) (count : Option ℕ) → ShortAt code big → name ≡ codes "no page" → count ≡ None → IsNamed code big at name count
short_named code big at name count s is counts = record { front = Short; stands = (s.within, s.begun); text = is; count_is = counts }

front_inside : (code : List ℕ) (big : Bool) (front : Front) → StandsAt code big front → IfSome (covers front) (λ n. n ≤ length code)
front_inside code big (Whole insn n) s = s.0
front_inside code big Undefined s = let lt = s.1 in omega (arith, lt)
front_inside code big TooLong s = let le = s.0 in omega (arith, le)
front_inside code big Short s = tt

-- what is found covers no more than the bytes
pub named_inside : (code : List ℕ) (big : Bool) (at : ℕ) (name : List ℕ) (count : Option ℕ) → IsNamed code big at name count → IfSome count (λ n. n ≤ length code)
named_inside code big at name count is = subst (λ (c : Option ℕ). IfSome c (λ n. n ≤ length code)) (sym is.count_is) (front_inside code big is.front is.stands)

-- the same by other names
pub named_as : (code other : List ℕ) (big wide : Bool) (at to : ℕ) (name : List ℕ) (count many : Option ℕ) → code ≡ other → big ≡ wide → at ≡ to → count ≡ many → IsNamed code big at name count → IsNamed other wide to name many
named_as code other big wide at to name count many same_code same_big same_at same_count is = record {
  front = is.front;
  stands = subst (λ (w : Bool). StandsAt other w is.front) same_big (subst (λ (xs : List ℕ). StandsAt xs big is.front) same_code is.stands);
  text = is.text ∙ ap (code_text is.front) same_at;
  count_is = sym same_count ∙ is.count_is;
}

-- ---- a place

pub word_named : (m : Machine BoardState) (code name : List ℕ) (count : Option ℕ) → IsCode m.state.mem (code_address m.state.core.regs) code → IsNamed code (is_wide m.state.core.regs) m.state.core.regs.eip name count → IsWord Running m name
word_named m code name count is named = (code, named.front, record { is_code = is; stands = named.stands }, named.text)

-- ---- lines

front_paged : (front : Front) (k : ℕ) → Some k ≡ covers front → front ≢ Short
front_paged (Whole insn n) k h = λ is. cc
front_paged Undefined k h = λ is. cc
front_paged TooLong k h = λ is. cc
front_paged Short k h = absurd (subst IsSome h tt)

front_covers : (front : Front) (k : ℕ) (code : List ℕ) → Some k ≡ covers front → k ≡ covered front code
front_covers (Whole insn n) k code h = ap or_zero h
front_covers Undefined k code h = ap or_zero h
front_covers TooLong k code h = ap or_zero h
front_covers Short k code h = absurd (subst IsSome h tt)

front_short : (front : Front) (code : List ℕ) (big : Bool) → None ≡ covers front → StandsAt code big front → StandsAt code big Short
front_short (Whole insn n) code big h s = absurd (subst IsNone h tt)
front_short Undefined code big h s = absurd (subst IsNone h tt)
front_short TooLong code big h s = absurd (subst IsNone h tt)
front_short Short code big h s = s

-- the line of what was found
line_named : (m : Machine BoardState) (at k : ℕ) (code name line : List ℕ) → IsCode m.state.mem at code → IsNamed code (is_wide m.state.core.regs) at name (Some k)
    → line ≡ hex 8 at ++ codes " " ++ bytes_text (take k code) ++ codes " " ++ name ++ 0x0A ∷ [] → IsCodeLine m at line k
line_named m at k code name line is named written =
    let covers_is = front_covers named.front k code named.count_is in
    record {
      code = code;
      front = named.front;
      stands = record { is_code = is; stands = named.stands };
      paged = front_paged named.front k named.count_is;
      written = written
          ∙ ap (λ (i : ℕ). hex 8 at ++ codes " " ++ bytes_text (take i code) ++ codes " " ++ name ++ 0x0A ∷ []) covers_is
          ∙ ap (λ (x : List ℕ). hex 8 at ++ codes " " ++ bytes_text (take (covered named.front code) code) ++ codes " " ++ x ++ 0x0A ∷ []) named.text;
      count = covers_is;
    }

listed_more : (m : Machine BoardState) (count at n : ℕ) (line rest : List ℕ) → 0 < count → IsCodeLine m at line n → ListsAt m (count - 1) ((at + n) % 2 ^ 32) rest → ListsAt m count at (line ++ rest)
listed_more m zero at n line rest some is lists = absurd (omega (arith, some))
listed_more m (suc count) at n line rest some is lists = inr (line, rest, n, is, refl, subst (λ (k : ℕ). ListsAt m k ((at + n) % 2 ^ 32) rest) (omega arith) lists)

listed_none : (m : Machine BoardState) (count at : ℕ) (code : List ℕ) → 0 < count → Stands m at code Short → ListsAt m count at (codes "no page\n")
listed_none m zero at code some stands = absurd (omega (arith, some))
listed_none m (suc count) at code some stands = inl ((code, stands), refl)

listed_end : (m : Machine BoardState) (count at : ℕ) → count ≤ 0 → ListsAt m count at []
listed_end m zero at none = refl
listed_end m (suc count) at none = absurd (omega (arith, none))

-- ---- a text that grows by a listing

pub grows_none : (m : Machine BoardState) (count at : ℕ) (before : List ℕ) → count ≤ 0 → GrowsByListing m count at before before
grows_none m count at before none = record { more = []; lists = listed_end m count at none; grown = sym (append-nil before) }

pub grows_short : (m : Machine BoardState) (count at : ℕ) (code name before now : List ℕ) → 0 < count → IsCode m.state.mem at code
    → IsNamed code (is_wide m.state.core.regs) at name None → now ≡ before ++ codes "no page\n" → GrowsByListing m count at before now
grows_short m count at code name before now some is named grown = record {
  more = codes "no page\n";
  lists = listed_none m count at code some (record { is_code = is; stands = front_short named.front code (is_wide m.state.core.regs) named.count_is named.stands });
  grown = grown;
}

pub grows_more : (m : Machine BoardState) (count at k : ℕ) (code name line before mid now : List ℕ) → 0 < count → IsCode m.state.mem at code
    → IsNamed code (is_wide m.state.core.regs) at name (Some k) → line ≡ hex 8 at ++ codes " " ++ bytes_text (take k code) ++ codes " " ++ name ++ 0x0A ∷ []
    → mid ≡ before ++ line → GrowsByListing m (count - 1) ((at + k) % 2 ^ 32) mid now → GrowsByListing m count at before now
grows_more m count at k code name line before mid now some is named written first rest = record {
  more = line ++ rest.more;
  lists = listed_more m count at k line rest.more some (line_named m at k code name line is named written) rest.lists;
  grown = rest.grown ∙ ap (λ (x : List ℕ). x ++ rest.more) first ∙ append_assoc before line rest.more;
}

-- a line by other names of its bytes and its text
pub line_as : (at k : ℕ) (slice code word name line : List ℕ) → slice ≡ code → word ≡ name → line ≡ hex 8 at ++ codes " " ++ bytes_text (take k slice) ++ codes " " ++ word ++ 0x0A ∷ []
    → line ≡ hex 8 at ++ codes " " ++ bytes_text (take k code) ++ codes " " ++ name ++ 0x0A ∷ []
line_as at k slice code word name line same_code same_name is = is
    ∙ ap (λ (x : List ℕ). hex 8 at ++ codes " " ++ bytes_text (take k x) ++ codes " " ++ word ++ 0x0A ∷ []) same_code
    ∙ ap (λ (x : List ℕ). hex 8 at ++ codes " " ++ bytes_text (take k code) ++ codes " " ++ x ++ 0x0A ∷ []) same_name
