use Rattle.std.proofs.Common.{◌≡◌, ◌<◌, ◌+◌, ◌*◌, ◌/◌, ◌%◌, ◌==◌, ℕ, suc, zero, Bool, true, false, IsTrue, List, [], ◌∷◌, ◌++◌, length, drop, arith, refl, ap, sym, ◌∙◌, nat_lt, slice_index, ◌&&◌, if◌then◌else◌}
use Rattle.std.proofs.Math.Seq.{drop-cons}
use Rattle.std.proofs.lemmas.Bool.Decides.{nat_tests}
use Rattle.std.proofs.lemmas.Grind.{common_steps}
use Rattle.std.specs.Prelude.{Some, None}
use Rattle.mdl_dev.specs.declared.pit.Stage.{Stage}
use Rattle.mdl_dev.specs.declared.pit.Stage.TheVariants.{Stopped, Loading, Counting, Waiting}
use Rattle.mdl_dev.specs.declared.pit.Counter.{Counter}
use Rattle.mdl_dev.specs.declared.pit.Timer.{Timer}
use Rattle.mdl_dev.specs.Counter.{flag}
use Rattle.mdl_dev.specs.PitImage.{counter_image, counter_at, is_in_range, has_kinds, is_counter_image, number_of, stage_of, image, from_image, IsSound}

-- ---- a counter, to bytes and back

flag_back : (b : Bool) → (flag b == 1) ≡ b
flag_back false = refl
flag_back true = refl

stage_back : (s : Stage) → stage_of (number_of s) ≡ s
stage_back Stopped = refl
stage_back Loading = refl
stage_back Counting = refl
stage_back Waiting = refl

word_back : (n : ℕ) → n % 256 + 256 * (n / 256) ≡ n
word_back n = omega arith

long_back : (n : ℕ) → n % 256 + 256 * (n / 256 % 256) + 65536 * (n / 65536 % 256 + 256 * (n / 16777216)) ≡ n
long_back n = omega arith

flag_fits : (b : Bool) → nat_lt (flag b) 2 ≡ true
flag_fits false = refl
flag_fits true = refl

stage_fits : (s : Stage) → nat_lt (number_of s) 4 ≡ true
stage_fits Stopped = refl
stage_fits Loading = refl
stage_fits Counting = refl
stage_fits Waiting = refl

counter0_back : (t : Timer) → counter_at (image t) 0 ≡ t.counter0
counter0_back t = simp (flag_back, stage_back, word_back, long_back)

counter1_back : (t : Timer) → counter_at (image t) 24 ≡ t.counter1
counter1_back t = simp (flag_back, stage_back, word_back, long_back)

counter2_back : (t : Timer) → counter_at (image t) 48 ≡ t.counter2
counter2_back t = simp (flag_back, stage_back, word_back, long_back)

kinds0 : (t : Timer) → has_kinds (image t) 0 ≡ true
kinds0 t = simp (flag_fits, stage_fits)

kinds1 : (t : Timer) → has_kinds (image t) 24 ≡ true
kinds1 t = simp (flag_fits, stage_fits)

kinds2 : (t : Timer) → has_kinds (image t) 48 ≡ true
kinds2 t = simp (flag_fits, stage_fits)

both : (a b : Bool) → a ≡ true → b ≡ true → (a && b) ≡ true
both a b h i = rw h i

chosen : (a b c : Bool) (t : Timer) → a ≡ true → b ≡ true → c ≡ true → (if a && b && c then Some t else None) ≡ Some t
chosen a b c t h i j = rw (h, i, j)

image_back : (t : Timer) → IsSound t → from_image (image t) t.gate2 ≡ Some t
image_back t sound =
    let first : is_counter_image (image t) 0 ≡ true = both _ _ (kinds0 t) (ap is_in_range (counter0_back t) ∙ sound.counter0) in
    let second : is_counter_image (image t) 24 ≡ true = both _ _ (kinds1 t) (ap is_in_range (counter1_back t) ∙ sound.counter1) in
    let third : is_counter_image (image t) 48 ≡ true = both _ _ (kinds2 t) (ap is_in_range (counter2_back t) ∙ sound.counter2) in
    chosen _ _ _ (record { counter0 = counter_at (image t) 0; counter1 = counter_at (image t) 24; counter2 = counter_at (image t) 48; gate2 = t.gate2 }) first second third
    ∙ rw (counter0_back t, counter1_back t, counter2_back t)

-- the image of a timer is read back
pub bytes_back : (t : Timer) (bytes : List ℕ) → bytes ≡ image t → IsSound t → from_image bytes t.gate2 ≡ Some t
bytes_back t bytes same sound = ap (λ (xs : List ℕ). from_image xs t.gate2) same ∙ image_back t sound

-- ---- bytes, to a counter and back

flag_byte : (b : ℕ) → b < 2 → flag (b == 1) ≡ b
flag_byte b h = grind (arith, nat_tests)

stage_byte : (b : ℕ) → b < 4 → number_of (stage_of b) ≡ b
stage_byte b h = grind (arith, nat_tests)

byte_0 : (a b c d : ℕ) → a < 256 → (a + 256 * b + 65536 * (c + 256 * d)) % 256 ≡ a
byte_0 a b c d h = omega arith

byte_1 : (a b c d : ℕ) → a < 256 → b < 256 → (a + 256 * b + 65536 * (c + 256 * d)) / 256 % 256 ≡ b
byte_1 a b c d h i = omega arith

byte_2 : (a b c d : ℕ) → a < 256 → b < 256 → c < 256 → (a + 256 * b + 65536 * (c + 256 * d)) / 65536 % 256 ≡ c
byte_2 a b c d h i j = omega arith

byte_3 : (a b c d : ℕ) → a < 256 → b < 256 → c < 256 → (a + 256 * b + 65536 * (c + 256 * d)) / 16777216 ≡ d
byte_3 a b c d h i j = omega arith

low_byte : (a b : ℕ) → a < 256 → (a + 256 * b) % 256 ≡ a
low_byte a b h = omega arith

high_byte : (a b : ℕ) → a < 256 → (a + 256 * b) / 256 ≡ b
high_byte a b h = omega arith

cons : (a b : ℕ) (xs ys : List ℕ) → a ≡ b → xs ≡ ys → a ∷ xs ≡ b ∷ ys
cons a b xs ys h i = cc

abbrev long_of : ℕ → ℕ → ℕ → ℕ → ℕ
long_of a b c d = a + 256 * b + 65536 * (c + 256 * d)

long_bytes : (a b c d : ℕ) (xs ys : List ℕ) → a < 256 → b < 256 → c < 256 → xs ≡ ys →
    long_of a b c d % 256 ∷ long_of a b c d / 256 % 256 ∷ long_of a b c d / 65536 % 256 ∷ long_of a b c d / 16777216 ∷ xs ≡ a ∷ b ∷ c ∷ d ∷ ys
long_bytes a b c d xs ys h i j same = cons _ _ _ _ (byte_0 a b c d h) (cons _ _ _ _ (byte_1 a b c d h i) (cons _ _ _ _ (byte_2 a b c d h i j) (cons _ _ _ _ (byte_3 a b c d h i j) same)))

-- the items from a place on, one by one
abbrev items : ℕ → ℕ → List ℕ → List ℕ
items zero at bytes = []
items (suc n) at bytes = slice_index bytes at ∷ items n (suc at) bytes

items_all : (n at : ℕ) (bytes : List ℕ) → n + at ≡ length bytes → items n at bytes ≡ drop at bytes
items_all zero at bytes h = grind (arith, common_steps)
items_all (suc n) at bytes h =
    let inside : at < length bytes = omega arith in
    rw (drop-cons bytes at 0 inside) (ap (λ (xs : List ℕ). slice_index bytes at ∷ xs) (items_all n (suc at) bytes (omega arith)))

-- the counter that these bytes, by their place, stand for
abbrev counter_by : (ℕ → ℕ) → Counter
counter_by f = record {
  control = f 0;
  out = f 1 == 1;
  null = f 2 == 1;
  stage = stage_of (f 3);
  low_written = f 4 == 1;
  low = f 5;
  high_next = f 6 == 1;
  count_latched = f 7 == 1;
  latched_count = f 8 + 256 * f 9;
  status_latched = f 10 == 1;
  latched_status = f 11;
  written = f 12 + 256 * f 13 + 65536 * (f 14 + 256 * f 15);
  loaded = f 16 + 256 * f 17 + 65536 * (f 18 + 256 * f 19);
  value = f 20 + 256 * f 21 + 65536 * (f 22 + 256 * f 23);
}

abbrev kinds_by : (ℕ → ℕ) → Bool
kinds_by f = nat_lt (f 1) 2 && nat_lt (f 2) 2 && nat_lt (f 3) 4 && nat_lt (f 4) 2 && nat_lt (f 6) 2 && nat_lt (f 7) 2 && nat_lt (f 10) 2

bytes_by : (f : ℕ → ℕ) → ((k : ℕ) → k < 24 → f k < 256) → kinds_by f ≡ true →
    counter_image (counter_by f) ≡ f 0 ∷ f 1 ∷ f 2 ∷ f 3 ∷ f 4 ∷ f 5 ∷ f 6 ∷ f 7 ∷ f 8 ∷ f 9 ∷ f 10 ∷ f 11
    ∷ f 12 ∷ f 13 ∷ f 14 ∷ f 15 ∷ f 16 ∷ f 17 ∷ f 18 ∷ f 19 ∷ f 20 ∷ f 21 ∷ f 22 ∷ f 23 ∷ []
bytes_by f b kinds =
    let k1 : f 1 < 2 = grind (arith, nat_tests) in
    let k2 : f 2 < 2 = grind (arith, nat_tests) in
    let k3 : f 3 < 4 = grind (arith, nat_tests) in
    let k4 : f 4 < 2 = grind (arith, nat_tests) in
    let k6 : f 6 < 2 = grind (arith, nat_tests) in
    let k7 : f 7 < 2 = grind (arith, nat_tests) in
    let k10 : f 10 < 2 = grind (arith, nat_tests) in
    cons _ _ _ _ refl (cons _ _ _ _ (flag_byte (f 1) k1) (cons _ _ _ _ (flag_byte (f 2) k2) (cons _ _ _ _ (stage_byte (f 3) k3)
    (cons _ _ _ _ (flag_byte (f 4) k4) (cons _ _ _ _ refl (cons _ _ _ _ (flag_byte (f 6) k6)
    (cons _ _ _ _ (flag_byte (f 7) k7) (cons _ _ _ _ (low_byte (f 8) (f 9) (b 8 (omega arith))) (cons _ _ _ _ (high_byte (f 8) (f 9) (b 8 (omega arith)))
    (cons _ _ _ _ (flag_byte (f 10) k10) (cons _ _ _ _ refl
    (long_bytes (f 12) (f 13) (f 14) (f 15) _ _ (b 12 (omega arith)) (b 13 (omega arith)) (b 14 (omega arith))
    (long_bytes (f 16) (f 17) (f 18) (f 19) _ _ (b 16 (omega arith)) (b 17 (omega arith)) (b 18 (omega arith))
    (long_bytes (f 20) (f 21) (f 22) (f 23) _ _ (b 20 (omega arith)) (b 21 (omega arith)) (b 22 (omega arith)) refl))))))))))))))

first_of_two : (a b : Bool) → (a && b) ≡ true → a ≡ true
first_of_two false b h = h
first_of_two true b h = refl

joined : (us vs xs ys zs ws : List ℕ) → us ≡ vs → xs ≡ ys → zs ≡ ws → us ++ xs ++ zs ≡ vs ++ ys ++ ws
joined us vs xs ys zs ws h i j = cc

-- an image is that of the timer that is read from it
pub image_of_bytes : (bytes : List ℕ) (t : Timer) → length bytes ≡ 72 → ((k : ℕ) → slice_index bytes k < 256) →
    IsTrue (is_counter_image bytes 0) → IsTrue (is_counter_image bytes 24) → IsTrue (is_counter_image bytes 48) →
    t.counter0 ≡ counter_at bytes 0 → t.counter1 ≡ counter_at bytes 24 → t.counter2 ≡ counter_at bytes 48 → image t ≡ bytes
image_of_bytes bytes t long b first second third c0 c1 c2 =
    let i0 : counter_image (counter_at bytes 0) ≡ items 24 0 bytes = bytes_by (λ (k : ℕ). slice_index bytes k) (λ k h. b k) (first_of_two _ _ first) in
    let i1 : counter_image (counter_at bytes 24) ≡ items 24 24 bytes = bytes_by (λ (k : ℕ). slice_index bytes (24 + k)) (λ k h. b (24 + k)) (first_of_two _ _ second) in
    let i2 : counter_image (counter_at bytes 48) ≡ items 24 48 bytes = bytes_by (λ (k : ℕ). slice_index bytes (48 + k)) (λ k h. b (48 + k)) (first_of_two _ _ third) in
    let whole : items 72 0 bytes ≡ bytes = items_all 72 0 bytes (sym long) in
    joined _ _ _ _ _ _ (ap counter_image c0 ∙ i0) (ap counter_image c1 ∙ i1) (ap counter_image c2 ∙ i2) ∙ whole
