-- The numbers that a parse that succeeds has, and how they are read.
use Rattle.std.proofs.Common.{◌≡◌, ◌∙◌, ◌<◌, ◌≤◌, ◌==◌, ◌^◌, ℕ, pos, Bool, true, false, refl, sym, ap, subst, arith, List, [], ◌∷◌, is_some, Option, Some, None, Result, Ok, Err}
use Rattle.std.specs.Prelude.{option_map, unwrap_or}
use Rattle.std.specs.Str.Parse.{IsNumeral, ParsesUnsigned, digits_value, without_leading_plus}
use Rattle.std.proofs.lemmas.Int.{ints}
use Rattle.std.proofs.lemmas.Str.Parse.{digit_at, without_leading_plus_none}
use Rattle.clap.specs.Lexer.{without_minus}
use Rattle.clap.specs.Matches.{ReadsOne, one_text}
use Rattle.clap.specs.Values.{IsSignedIn, IsUnsignedIn}
use Rattle.clap.specs.Walk.{Row, Text, rows_of}
use Rattle.clap.specs.declared.parser.matches.Found.{Found}
use Rattle.clap.proofs.WalkLemmas.{one_text-rows}
use Rattle.command_words.specs.Jobs.{number_at}
use Rattle.command_words.specs.Parses.{HasNumber}

-- a numeral has no plus
no_plus : (ds : Text) → IsNumeral 10 ds → without_leading_plus ds ≡ ds
no_plus ds h = without_leading_plus_none ds (λ e. omega (arith, digit_at ds 0 h.1 h.0, e))

-- a text that writes a number of the range
pub record Writes (least most : ℕ) (text : Text) : Type 0 where
  pub numeral : IsNumeral 10 (without_leading_plus text)
  pub above : least ≤ digits_value 10 (without_leading_plus text)
  pub below : digits_value 10 (without_leading_plus text) ≤ most

-- a text that passes a range of `i64` without negative numbers, as it is read
pub signed_writes : (least most : ℕ) (t : Text) → IsSignedIn (pos least) (pos most) t → Writes least most (without_minus t)
signed_writes least most [] passed = absurd (omega (arith, passed.0.0))
signed_writes least most (x ∷ xs) passed = go (x == 45) refl
  where
    go : (b : Bool) → (x == 45) ≡ b → Writes least most (without_minus (x ∷ xs))
    go true minus =
        let read : without_minus (x ∷ xs) ≡ xs = rw minus refl in
        let numeral : IsNumeral 10 xs = rw minus at passed.0 in
        let low = rw minus at passed.2 in
        let high = rw minus at passed.3 in
        let same = no_plus xs numeral in
        subst (Writes least most) (sym read) (record {
          numeral = rw same numeral;
          above = rw same (omega (arith, ints));
          below = rw same (omega (arith, ints));
        })
    go false minus =
        let read : without_minus (x ∷ xs) ≡ x ∷ xs = rw minus refl in
        let numeral : IsNumeral 10 (without_leading_plus (x ∷ xs)) = rw minus at passed.0 in
        let low = rw minus at passed.2 in
        let high = rw minus at passed.3 in
        subst (Writes least most) (sym read) (record { numeral = numeral; above = omega (arith, ints); below = omega (arith, ints) })

-- and one of `u64`
pub unsigned_writes : (least most : ℕ) (t : Text) → IsUnsignedIn least most t → Writes least most t
unsigned_writes least most t passed = record { numeral = passed.0; above = passed.2; below = passed.3 }

-- a type of k bits reads such a text as its number
pub reads : {E : Type 0} (G : Text → Result ℕ E → Type 0) (k least most : ℕ) (t : Text) (o : Option ℕ) → ReadsOne G t o
    → ((u : Text) (x : Result ℕ E) → G u x → ParsesUnsigned k 10 u x) → most < 2 ^ k → Writes least most t
    → o ≡ Some (digits_value 10 (without_leading_plus t))
reads G k least most t (Some n) read only fits w = ap Some (only t (Ok n) read).1
reads G k least most t None read only fits w =
    let below = w.below in
    let small : digits_value 10 (without_leading_plus t) < 2 ^ k = omega arith in
    absurd (only t (Err read.0) read.1 (w.numeral, small))

-- a typed getter reads the number that is there
pub number_read : {E : Type 0} (G : Text → Result ℕ E → Type 0) (k least most : ℕ) (id : Text) (f : Found) (o : Option ℕ) → HasNumber least most id (rows_of f)
    → ((t : Text) → one_text f id ≡ Some t → ReadsOne G t o) → ((u : Text) (x : Result ℕ E) → G u x → ParsesUnsigned k 10 u x) → most < 2 ^ k
    → (number_at id (rows_of f) ≡ o) × (is_some o ≡ true)
number_read G k least most id f o has read only fits =
    let writes : Writes least most has.text = record { numeral = has.numeral; above = has.above; below = has.below } in
    let value : o ≡ Some (digits_value 10 (without_leading_plus has.text)) = reads G k least most has.text o (read has.text (one_text-rows f id ∙ has.is)) only fits writes in
    (ap (option_map (λ text. digits_value 10 (without_leading_plus text))) has.is ∙ sym value, ap is_some value)

-- the number that is there lies in the range
pub within : (least most n : ℕ) (id : Text) (rows : List Row) → HasNumber least most id rows → number_at id rows ≡ Some n → (least ≤ n) × (n ≤ most)
within least most n id rows has is =
    let same : Some (digits_value 10 (without_leading_plus has.text)) ≡ Some n = sym (ap (option_map (λ text. digits_value 10 (without_leading_plus text))) has.is) ∙ is in
    let value : digits_value 10 (without_leading_plus has.text) ≡ n = ap (λ (o : Option ℕ). unwrap_or o n) same in
    let above = has.above in
    let below = has.below in
    (omega arith, omega arith)

-- a range holds those within it
pub widened : (least most low high : ℕ) (id : Text) (rows : List Row) → low ≤ least → most ≤ high → HasNumber least most id rows → HasNumber low high id rows
widened least most low high id rows from to has =
    let above = has.above in
    let below = has.below in
    record { text = has.text; is = has.is; numeral = has.numeral; above = omega arith; below = omega arith }
