-- The demo guest made piece by piece.
use Rattle.std.proofs.Common.{◌≡◌, ℕ, ◌+◌, ◌-◌, ◌/◌, ◌%◌, ◌<◌, ◌≤◌, List, ◌++◌, length, take, replicate, refl, ap, ◌∙◌, arith, append_assoc}
use Rattle.std.proofs.lemmas.List.{length-append, length-replicate, take_all}
use Rattle.mdl_text.specs.Demo.{after_draw, after_three, item_of_kind, items, set_up, jump_back, first_jump, code_of, rom_of, Demo}
use Rattle.mdl_text.specs.DemoLaws.{items_more, room_for_items, code_length}

-- one item more
pub item_pushed : (before behind : List ℕ) (count done x first second third a b d : ℕ) → done < count
    → first ≡ after_draw x → second ≡ after_draw first → third ≡ after_draw second
    → a ≡ first / 65536 → b ≡ second / 65536 → d ≡ third / 65536
    → behind ≡ before ++ item_of_kind (a % 8) b d
    → behind ++ items (count - (done + 1)) third ≡ before ++ items (count - done) x
item_pushed before behind count done x first second third a b d h p q r i j k e =
    let two : second ≡ after_draw (after_draw x) = q ∙ ap after_draw p in
    let three : third ≡ after_three x = r ∙ ap after_draw two in
    rw e (rw i (rw j (rw k (rw three (rw two (rw p (items_more before count done x h)))))))

-- what fills a list of m bytes up to n
filled : (before behind : List ℕ) (m n : ℕ) → m ≡ length before → m ≤ n → behind ≡ take n before ++ replicate (n - m) 0xF4 → behind ≡ before ++ replicate (n - m) 0xF4
filled before behind m n l h e = e ∙ ap (λ (bytes : List ℕ). bytes ++ replicate (n - m) 0xF4) (take_all n before (omega arith))

-- the code with what fills it up, the jump, and what fills that up
pub rom_made : (code filled_up jumped whole : List ℕ) (m k : ℕ) → m ≡ length code → k ≡ length jumped → length code ≤ 0xFFF0
    → filled_up ≡ take 0xFFF0 code ++ replicate (0xFFF0 - m) 0xF4
    → jumped ≡ filled_up ++ first_jump
    → whole ≡ take 65536 jumped ++ replicate (65536 - k) 0xF4
    → whole ≡ rom_of code
rom_made code filled_up jumped whole m k p q h e f g =
    let up : filled_up ≡ code ++ replicate (0xFFF0 - m) 0xF4 = filled code filled_up m 0xFFF0 p (omega arith) e in
    let up_length : length filled_up ≡ 0xFFF0 = ap length up ∙ simp (length-append, length-replicate {A = ℕ}) (omega arith) in
    let jumped_length : length jumped ≡ 65525 = ap length f ∙ (length-append filled_up first_jump ∙ omega arith) in
    let all : whole ≡ jumped ++ replicate (65536 - k) 0xF4 = filled jumped whole k 65536 q (omega arith) g in
    let rest : 65536 - k ≡ 11 = omega arith in
    all ∙ rw rest (rw f (rw up (rw p refl)))

-- the code, and the jump behind it
pub code_made : (number bytes : ℕ) (started drawn jumped : List ℕ) → started ≡ set_up → drawn ≡ started ++ items 8192 number
    → bytes ≡ length drawn - 14 → jumped ≡ drawn ++ jump_back bytes → jumped ≡ code_of (items 8192 number)
code_made number bytes started drawn jumped p q r s =
    let all : drawn ≡ set_up ++ items 8192 number = q ∙ ap (λ (l : List ℕ). l ++ items 8192 number) p in
    let size : bytes ≡ length (items 8192 number) = (let l = ap length all in omega (arith, length-append set_up (items 8192 number))) in
    s ∙ rw size (rw all (append_assoc set_up (items 8192 number) (jump_back (length (items 8192 number)))))

pub room_to_jump : (number bytes : ℕ) (started drawn : List ℕ) → started ≡ set_up → drawn ≡ started ++ items 8192 number → bytes ≡ length drawn → bytes - 14 + 3 < 65536
room_to_jump number bytes started drawn p q r =
    let room = room_for_items number in
    let l = ap length q in
    let k = ap length p in
    omega (arith, length-append started (items 8192 number))

pub demo_made : (number : ℕ) (code filled_up jumped whole : List ℕ) (m k : ℕ) → code ≡ code_of (items 8192 number)
    → m ≡ length code → k ≡ length jumped
    → filled_up ≡ take 0xFFF0 code ++ replicate (0xFFF0 - m) 0xF4
    → jumped ≡ filled_up ++ first_jump
    → whole ≡ take 65536 jumped ++ replicate (65536 - k) 0xF4
    → whole ≡ Demo number
unfolding Demo
demo_made number code filled_up jumped whole m k c p q e f g =
    let room = room_for_items number in
    let size = code_length (items 8192 number) in
    let l = ap length c in
    rom_made code filled_up jumped whole m k p q (omega arith) e f g ∙ ap rom_of c
