-- Lemmas on the monitor's lines: how long one is, and what it is read as from the left.
use Rattle.std.proofs.Common.{◌≡◌, ◌≤◌, ◌<◌, ℕ, ◌==◌, false, cond, List, [], ◌∷◌, ◌++◌, length, inl, inr, ap, refl, sym, ◌∙◌, arith, codes, length-append}
use Rattle.std.specs.Char.{digit_value}
use Rattle.std.specs.Str.Parse.{AllDigits, digits_value}
use Rattle.std.proofs.lemmas.Fmt.{length-decimal-le, decimal_is_IsNumeral}
use Rattle.std.proofs.lemmas.Bool.Decides.{nat_tests}
use Rattle.mdl_text.specs.declared.command.Command.{Command}
use Rattle.mdl_text.specs.declared.command.Command.TheVariants as commands
use Rattle.mdl_text.specs.CommandLine.{most_line, most_steps, IsCount, IsAddress, IsStretch, Takes, IsCommand}

-- ---- lengths

count_length : (least most n : ℕ) (text : List ℕ) → most ≤ most_steps → IsCount least most n text → length text ≤ 16
count_length least most n text small is = rw is.written (length-decimal-le 16 n (omega arith) (let m = is.most_is in omega arith) (let m = is.most_is in omega arith))

stretch_length : (most at n : ℕ) (text : List ℕ) → most ≤ most_steps → IsStretch most at n text → length text ≤ 25
stretch_length most at n text small is =
    let whole = ap length is.written ∙ length-append is.first (codes " " ++ is.count) in
    let first = is.is_address.most_is in
    let count = count_length 1 most n is.count small is.is_count in
    omega (arith, whole, first, count)

taken_length : (name : List ℕ) (P : List ℕ → Type 0) (line : List ℕ) → length name ≡ 2 → ((text : List ℕ) → P text → length text ≤ 25) → Takes name P line → length line ≤ most_line
taken_length name P line two short is =
    let whole = ap length is.written ∙ length-append name is.operands in
    let operands = short is.operands is.is_operand in
    omega (arith, whole, two, operands)

counted_length : (name : List ℕ) (least most n : ℕ) (line : List ℕ) → length name ≡ 2 → most ≤ most_steps → Takes name (IsCount least most n) line → length line ≤ most_line
counted_length name least most n line two small is =
    taken_length name _ line two (λ text count. let short = count_length least most n text small count in omega (arith, short)) is

addressed_length : (name : List ℕ) (at : ℕ) (line : List ℕ) → length name ≡ 2 → Takes name (IsAddress at) line → length line ≤ most_line
addressed_length name at line two is =
    taken_length name _ line two (λ text address. let short = address.most_is in omega (arith, short)) is

exact_length : (name line : List ℕ) → length name ≡ 1 → line ≡ name → length line ≤ most_line
exact_length name line one is = let same = ap length is in omega (arith, same, one)

pub line_length : (line : List ℕ) (command : Command) → IsCommand line command → length line ≤ most_line
line_length line (commands.Steps n) (inl is) = exact_length _ line refl is.0
line_length line (commands.Steps n) (inr is) = counted_length _ 0 most_steps n line refl (omega arith) is
line_length line (commands.Trace n) is = counted_length _ 1 1000 n line refl (omega arith) is
line_length line (commands.Go n) is = counted_length _ 0 most_steps n line refl (omega arith) is
line_length line commands.Continue is = exact_length _ line refl is
line_length line (commands.AddStop at) is = addressed_length _ at line refl is
line_length line (commands.DropStop at) is = addressed_length _ at line refl is
line_length line commands.Registers is = exact_length _ line refl is
line_length line commands.Screen is = exact_length _ line refl is
line_length line (commands.Bytes at n) is = taken_length _ _ line refl (λ text both. stretch_length 4096 at n text (omega arith) both) is
line_length line (commands.List at n) is = taken_length _ _ line refl (λ text both. stretch_length 100 at n text (omega arith) both) is
line_length line commands.Quit is = exact_length _ line refl is

-- ---- what a line is read as

-- what stands before the first space, and what stands behind it
abbrev front : List ℕ → List ℕ
front [] = []
front (b ∷ bs) = cond (b == 32) [] (b ∷ front bs)

abbrev back : List ℕ → List ℕ
back [] = []
back (b ∷ bs) = cond (b == 32) bs (back bs)

not_space : (b : ℕ) → digit_value b < 16 → (b == 32) ≡ false
not_space b digit = grind (arith, nat_tests)

front_is : (digits rest : List ℕ) → AllDigits 16 digits → front (digits ++ 32 ∷ rest) ≡ digits
front_is [] rest all = refl
front_is (b ∷ bs) rest all = rw (not_space b all.0) (ap (λ (xs : List ℕ). b ∷ xs) (front_is bs rest all.1))

back_is : (digits rest : List ℕ) → AllDigits 16 digits → back (digits ++ 32 ∷ rest) ≡ rest
back_is [] rest all = refl
back_is (b ∷ bs) rest all = rw (not_space b all.0) (back_is bs rest all.1)

-- how many steps `s` makes
abbrev steps_read : List ℕ → ℕ
steps_read [] = 1
steps_read (_ ∷ text) = digits_value 10 text

abbrev behind : List ℕ → List ℕ
behind [] = []
behind (_ ∷ text) = text

abbrev read_as : ℕ → List ℕ → Command
read_as letter rest =
    cond (letter == 115) (commands.Steps (steps_read rest))
    (cond (letter == 116) (commands.Trace (digits_value 10 (behind rest)))
    (cond (letter == 103) (commands.Go (digits_value 10 (behind rest)))
    (cond (letter == 99) commands.Continue
    (cond (letter == 98) (commands.AddStop (digits_value 16 (behind rest)))
    (cond (letter == 100) (commands.DropStop (digits_value 16 (behind rest)))
    (cond (letter == 114) commands.Registers
    (cond (letter == 112) commands.Screen
    (cond (letter == 109) (commands.Bytes (digits_value 16 (front (behind rest))) (digits_value 10 (back (behind rest))))
    (cond (letter == 117) (commands.List (digits_value 16 (front (behind rest))) (digits_value 10 (back (behind rest))))
    commands.Quit)))))))))

abbrev read : List ℕ → Command
read [] = commands.Quit
read (letter ∷ rest) = read_as letter rest

count_is : (least most n : ℕ) (text : List ℕ) → most ≤ most_steps → IsCount least most n text → digits_value 10 text ≡ n
count_is least most n text small is =
    ap (digits_value 10) is.written ∙ (decimal_is_IsNumeral n (let m = is.most_is in omega arith)).1

first_is : (most at n : ℕ) (text : List ℕ) → IsStretch most at n text → digits_value 16 (front text) ≡ at
first_is most at n text is =
    ap (λ (xs : List ℕ). digits_value 16 (front xs)) is.written ∙ ap (digits_value 16) (front_is is.first is.count is.is_address.digits.1) ∙ sym is.is_address.value

many_is : (most at n : ℕ) (text : List ℕ) → most ≤ most_steps → IsStretch most at n text → digits_value 10 (back text) ≡ n
many_is most at n text small is =
    ap (λ (xs : List ℕ). digits_value 10 (back xs)) is.written ∙ ap (digits_value 10) (back_is is.first is.count is.is_address.digits.1) ∙ count_is 1 most n is.count small is.is_count

-- a line that asks for a command is read as it
read_is : (line : List ℕ) (command : Command) → IsCommand line command → read line ≡ command
read_is line (commands.Steps n) (inl is) = ap read is.0 ∙ ap commands.Steps (sym is.1)
read_is line (commands.Steps n) (inr is) = ap read is.written ∙ ap commands.Steps (count_is 0 most_steps n is.operands (omega arith) is.is_operand)
read_is line (commands.Trace n) is = ap read is.written ∙ ap commands.Trace (count_is 1 1000 n is.operands (omega arith) is.is_operand)
read_is line (commands.Go n) is = ap read is.written ∙ ap commands.Go (count_is 0 most_steps n is.operands (omega arith) is.is_operand)
read_is line commands.Continue is = ap read is
read_is line (commands.AddStop at) is = ap read is.written ∙ ap commands.AddStop (sym is.is_operand.value)
read_is line (commands.DropStop at) is = ap read is.written ∙ ap commands.DropStop (sym is.is_operand.value)
read_is line commands.Registers is = ap read is
read_is line commands.Screen is = ap read is
read_is line (commands.Bytes at n) is =
    ap read is.written ∙ ap (λ (k : ℕ). commands.Bytes k (digits_value 10 (back is.operands))) (first_is 4096 at n is.operands is.is_operand)
    ∙ ap (commands.Bytes at) (many_is 4096 at n is.operands (omega arith) is.is_operand)
read_is line (commands.List at n) is =
    ap read is.written ∙ ap (λ (k : ℕ). commands.List k (digits_value 10 (back is.operands))) (first_is 100 at n is.operands is.is_operand)
    ∙ ap (commands.List at) (many_is 100 at n is.operands (omega arith) is.is_operand)
read_is line commands.Quit is = ap read is

pub one_command : (line : List ℕ) (one other : Command) → IsCommand line one → IsCommand line other → one ≡ other
one_command line one other is are = sym (read_is line one is) ∙ read_is line other are
