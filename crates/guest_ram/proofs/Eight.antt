-- Each byte of a number of eight bytes.
use Rattle.std.specs.Prelude.{ℕ, zero, suc, ◌≡◌, ◌<◌, ◌+◌, ◌/◌, ◌%◌, ◌^◌, List, slice_index}
use Rattle.std.proofs.Common.{arith, ap}
use Rattle.mdl_state.specs.Bytes.{little, bytes_at}

-- the byte at a place, counted in two ways
same : (list : List ℕ) (m n : ℕ) → m ≡ n → slice_index list m ≡ slice_index list n
same list m n e = ap (slice_index list) e

pub byte_of_eight : (list : List ℕ) (at i : ℕ) → i < 8 → ((k : ℕ) → k < 8 → slice_index list (at + k) < 256)
    → slice_index list (at + i) ≡ little (bytes_at list at 8) / 256 ^ i % 256
byte_of_eight list at zero inside small =
    let same0 : slice_index list (at) ≡ slice_index list (at + 0) = same list (at) (at + 0) (omega arith) in
    let same1 : slice_index list (at + 1) ≡ slice_index list (at + 1) = same list (at + 1) (at + 1) (omega arith) in
    let same2 : slice_index list (at + 1 + 1) ≡ slice_index list (at + 2) = same list (at + 1 + 1) (at + 2) (omega arith) in
    let same3 : slice_index list (at + 1 + 1 + 1) ≡ slice_index list (at + 3) = same list (at + 1 + 1 + 1) (at + 3) (omega arith) in
    let same4 : slice_index list (at + 1 + 1 + 1 + 1) ≡ slice_index list (at + 4) = same list (at + 1 + 1 + 1 + 1) (at + 4) (omega arith) in
    let same5 : slice_index list (at + 1 + 1 + 1 + 1 + 1) ≡ slice_index list (at + 5) = same list (at + 1 + 1 + 1 + 1 + 1) (at + 5) (omega arith) in
    let same6 : slice_index list (at + 1 + 1 + 1 + 1 + 1 + 1) ≡ slice_index list (at + 6) = same list (at + 1 + 1 + 1 + 1 + 1 + 1) (at + 6) (omega arith) in
    let same7 : slice_index list (at + 1 + 1 + 1 + 1 + 1 + 1 + 1) ≡ slice_index list (at + 7) = same list (at + 1 + 1 + 1 + 1 + 1 + 1 + 1) (at + 7) (omega arith) in
    let small0 : slice_index list (at + 0) < 256 = small 0 (omega arith) in
    omega arith
byte_of_eight list at (suc zero) inside small =
    let same0 : slice_index list (at) ≡ slice_index list (at + 0) = same list (at) (at + 0) (omega arith) in
    let same1 : slice_index list (at + 1) ≡ slice_index list (at + 1) = same list (at + 1) (at + 1) (omega arith) in
    let same2 : slice_index list (at + 1 + 1) ≡ slice_index list (at + 2) = same list (at + 1 + 1) (at + 2) (omega arith) in
    let same3 : slice_index list (at + 1 + 1 + 1) ≡ slice_index list (at + 3) = same list (at + 1 + 1 + 1) (at + 3) (omega arith) in
    let same4 : slice_index list (at + 1 + 1 + 1 + 1) ≡ slice_index list (at + 4) = same list (at + 1 + 1 + 1 + 1) (at + 4) (omega arith) in
    let same5 : slice_index list (at + 1 + 1 + 1 + 1 + 1) ≡ slice_index list (at + 5) = same list (at + 1 + 1 + 1 + 1 + 1) (at + 5) (omega arith) in
    let same6 : slice_index list (at + 1 + 1 + 1 + 1 + 1 + 1) ≡ slice_index list (at + 6) = same list (at + 1 + 1 + 1 + 1 + 1 + 1) (at + 6) (omega arith) in
    let same7 : slice_index list (at + 1 + 1 + 1 + 1 + 1 + 1 + 1) ≡ slice_index list (at + 7) = same list (at + 1 + 1 + 1 + 1 + 1 + 1 + 1) (at + 7) (omega arith) in
    let small0 : slice_index list (at + 0) < 256 = small 0 (omega arith) in
    let small1 : slice_index list (at + 1) < 256 = small 1 (omega arith) in
    omega arith
byte_of_eight list at (suc (suc zero)) inside small =
    let same0 : slice_index list (at) ≡ slice_index list (at + 0) = same list (at) (at + 0) (omega arith) in
    let same1 : slice_index list (at + 1) ≡ slice_index list (at + 1) = same list (at + 1) (at + 1) (omega arith) in
    let same2 : slice_index list (at + 1 + 1) ≡ slice_index list (at + 2) = same list (at + 1 + 1) (at + 2) (omega arith) in
    let same3 : slice_index list (at + 1 + 1 + 1) ≡ slice_index list (at + 3) = same list (at + 1 + 1 + 1) (at + 3) (omega arith) in
    let same4 : slice_index list (at + 1 + 1 + 1 + 1) ≡ slice_index list (at + 4) = same list (at + 1 + 1 + 1 + 1) (at + 4) (omega arith) in
    let same5 : slice_index list (at + 1 + 1 + 1 + 1 + 1) ≡ slice_index list (at + 5) = same list (at + 1 + 1 + 1 + 1 + 1) (at + 5) (omega arith) in
    let same6 : slice_index list (at + 1 + 1 + 1 + 1 + 1 + 1) ≡ slice_index list (at + 6) = same list (at + 1 + 1 + 1 + 1 + 1 + 1) (at + 6) (omega arith) in
    let same7 : slice_index list (at + 1 + 1 + 1 + 1 + 1 + 1 + 1) ≡ slice_index list (at + 7) = same list (at + 1 + 1 + 1 + 1 + 1 + 1 + 1) (at + 7) (omega arith) in
    let small0 : slice_index list (at + 0) < 256 = small 0 (omega arith) in
    let small1 : slice_index list (at + 1) < 256 = small 1 (omega arith) in
    let small2 : slice_index list (at + 2) < 256 = small 2 (omega arith) in
    omega arith
byte_of_eight list at (suc (suc (suc zero))) inside small =
    let same0 : slice_index list (at) ≡ slice_index list (at + 0) = same list (at) (at + 0) (omega arith) in
    let same1 : slice_index list (at + 1) ≡ slice_index list (at + 1) = same list (at + 1) (at + 1) (omega arith) in
    let same2 : slice_index list (at + 1 + 1) ≡ slice_index list (at + 2) = same list (at + 1 + 1) (at + 2) (omega arith) in
    let same3 : slice_index list (at + 1 + 1 + 1) ≡ slice_index list (at + 3) = same list (at + 1 + 1 + 1) (at + 3) (omega arith) in
    let same4 : slice_index list (at + 1 + 1 + 1 + 1) ≡ slice_index list (at + 4) = same list (at + 1 + 1 + 1 + 1) (at + 4) (omega arith) in
    let same5 : slice_index list (at + 1 + 1 + 1 + 1 + 1) ≡ slice_index list (at + 5) = same list (at + 1 + 1 + 1 + 1 + 1) (at + 5) (omega arith) in
    let same6 : slice_index list (at + 1 + 1 + 1 + 1 + 1 + 1) ≡ slice_index list (at + 6) = same list (at + 1 + 1 + 1 + 1 + 1 + 1) (at + 6) (omega arith) in
    let same7 : slice_index list (at + 1 + 1 + 1 + 1 + 1 + 1 + 1) ≡ slice_index list (at + 7) = same list (at + 1 + 1 + 1 + 1 + 1 + 1 + 1) (at + 7) (omega arith) in
    let small0 : slice_index list (at + 0) < 256 = small 0 (omega arith) in
    let small1 : slice_index list (at + 1) < 256 = small 1 (omega arith) in
    let small2 : slice_index list (at + 2) < 256 = small 2 (omega arith) in
    let small3 : slice_index list (at + 3) < 256 = small 3 (omega arith) in
    omega arith
byte_of_eight list at (suc (suc (suc (suc zero)))) inside small =
    let same0 : slice_index list (at) ≡ slice_index list (at + 0) = same list (at) (at + 0) (omega arith) in
    let same1 : slice_index list (at + 1) ≡ slice_index list (at + 1) = same list (at + 1) (at + 1) (omega arith) in
    let same2 : slice_index list (at + 1 + 1) ≡ slice_index list (at + 2) = same list (at + 1 + 1) (at + 2) (omega arith) in
    let same3 : slice_index list (at + 1 + 1 + 1) ≡ slice_index list (at + 3) = same list (at + 1 + 1 + 1) (at + 3) (omega arith) in
    let same4 : slice_index list (at + 1 + 1 + 1 + 1) ≡ slice_index list (at + 4) = same list (at + 1 + 1 + 1 + 1) (at + 4) (omega arith) in
    let same5 : slice_index list (at + 1 + 1 + 1 + 1 + 1) ≡ slice_index list (at + 5) = same list (at + 1 + 1 + 1 + 1 + 1) (at + 5) (omega arith) in
    let same6 : slice_index list (at + 1 + 1 + 1 + 1 + 1 + 1) ≡ slice_index list (at + 6) = same list (at + 1 + 1 + 1 + 1 + 1 + 1) (at + 6) (omega arith) in
    let same7 : slice_index list (at + 1 + 1 + 1 + 1 + 1 + 1 + 1) ≡ slice_index list (at + 7) = same list (at + 1 + 1 + 1 + 1 + 1 + 1 + 1) (at + 7) (omega arith) in
    let small0 : slice_index list (at + 0) < 256 = small 0 (omega arith) in
    let small1 : slice_index list (at + 1) < 256 = small 1 (omega arith) in
    let small2 : slice_index list (at + 2) < 256 = small 2 (omega arith) in
    let small3 : slice_index list (at + 3) < 256 = small 3 (omega arith) in
    let small4 : slice_index list (at + 4) < 256 = small 4 (omega arith) in
    omega arith
byte_of_eight list at (suc (suc (suc (suc (suc zero))))) inside small =
    let same0 : slice_index list (at) ≡ slice_index list (at + 0) = same list (at) (at + 0) (omega arith) in
    let same1 : slice_index list (at + 1) ≡ slice_index list (at + 1) = same list (at + 1) (at + 1) (omega arith) in
    let same2 : slice_index list (at + 1 + 1) ≡ slice_index list (at + 2) = same list (at + 1 + 1) (at + 2) (omega arith) in
    let same3 : slice_index list (at + 1 + 1 + 1) ≡ slice_index list (at + 3) = same list (at + 1 + 1 + 1) (at + 3) (omega arith) in
    let same4 : slice_index list (at + 1 + 1 + 1 + 1) ≡ slice_index list (at + 4) = same list (at + 1 + 1 + 1 + 1) (at + 4) (omega arith) in
    let same5 : slice_index list (at + 1 + 1 + 1 + 1 + 1) ≡ slice_index list (at + 5) = same list (at + 1 + 1 + 1 + 1 + 1) (at + 5) (omega arith) in
    let same6 : slice_index list (at + 1 + 1 + 1 + 1 + 1 + 1) ≡ slice_index list (at + 6) = same list (at + 1 + 1 + 1 + 1 + 1 + 1) (at + 6) (omega arith) in
    let same7 : slice_index list (at + 1 + 1 + 1 + 1 + 1 + 1 + 1) ≡ slice_index list (at + 7) = same list (at + 1 + 1 + 1 + 1 + 1 + 1 + 1) (at + 7) (omega arith) in
    let small0 : slice_index list (at + 0) < 256 = small 0 (omega arith) in
    let small1 : slice_index list (at + 1) < 256 = small 1 (omega arith) in
    let small2 : slice_index list (at + 2) < 256 = small 2 (omega arith) in
    let small3 : slice_index list (at + 3) < 256 = small 3 (omega arith) in
    let small4 : slice_index list (at + 4) < 256 = small 4 (omega arith) in
    let small5 : slice_index list (at + 5) < 256 = small 5 (omega arith) in
    omega arith
byte_of_eight list at (suc (suc (suc (suc (suc (suc zero)))))) inside small =
    let same0 : slice_index list (at) ≡ slice_index list (at + 0) = same list (at) (at + 0) (omega arith) in
    let same1 : slice_index list (at + 1) ≡ slice_index list (at + 1) = same list (at + 1) (at + 1) (omega arith) in
    let same2 : slice_index list (at + 1 + 1) ≡ slice_index list (at + 2) = same list (at + 1 + 1) (at + 2) (omega arith) in
    let same3 : slice_index list (at + 1 + 1 + 1) ≡ slice_index list (at + 3) = same list (at + 1 + 1 + 1) (at + 3) (omega arith) in
    let same4 : slice_index list (at + 1 + 1 + 1 + 1) ≡ slice_index list (at + 4) = same list (at + 1 + 1 + 1 + 1) (at + 4) (omega arith) in
    let same5 : slice_index list (at + 1 + 1 + 1 + 1 + 1) ≡ slice_index list (at + 5) = same list (at + 1 + 1 + 1 + 1 + 1) (at + 5) (omega arith) in
    let same6 : slice_index list (at + 1 + 1 + 1 + 1 + 1 + 1) ≡ slice_index list (at + 6) = same list (at + 1 + 1 + 1 + 1 + 1 + 1) (at + 6) (omega arith) in
    let same7 : slice_index list (at + 1 + 1 + 1 + 1 + 1 + 1 + 1) ≡ slice_index list (at + 7) = same list (at + 1 + 1 + 1 + 1 + 1 + 1 + 1) (at + 7) (omega arith) in
    let small0 : slice_index list (at + 0) < 256 = small 0 (omega arith) in
    let small1 : slice_index list (at + 1) < 256 = small 1 (omega arith) in
    let small2 : slice_index list (at + 2) < 256 = small 2 (omega arith) in
    let small3 : slice_index list (at + 3) < 256 = small 3 (omega arith) in
    let small4 : slice_index list (at + 4) < 256 = small 4 (omega arith) in
    let small5 : slice_index list (at + 5) < 256 = small 5 (omega arith) in
    let small6 : slice_index list (at + 6) < 256 = small 6 (omega arith) in
    omega arith
byte_of_eight list at (suc (suc (suc (suc (suc (suc (suc zero))))))) inside small =
    let same0 : slice_index list (at) ≡ slice_index list (at + 0) = same list (at) (at + 0) (omega arith) in
    let same1 : slice_index list (at + 1) ≡ slice_index list (at + 1) = same list (at + 1) (at + 1) (omega arith) in
    let same2 : slice_index list (at + 1 + 1) ≡ slice_index list (at + 2) = same list (at + 1 + 1) (at + 2) (omega arith) in
    let same3 : slice_index list (at + 1 + 1 + 1) ≡ slice_index list (at + 3) = same list (at + 1 + 1 + 1) (at + 3) (omega arith) in
    let same4 : slice_index list (at + 1 + 1 + 1 + 1) ≡ slice_index list (at + 4) = same list (at + 1 + 1 + 1 + 1) (at + 4) (omega arith) in
    let same5 : slice_index list (at + 1 + 1 + 1 + 1 + 1) ≡ slice_index list (at + 5) = same list (at + 1 + 1 + 1 + 1 + 1) (at + 5) (omega arith) in
    let same6 : slice_index list (at + 1 + 1 + 1 + 1 + 1 + 1) ≡ slice_index list (at + 6) = same list (at + 1 + 1 + 1 + 1 + 1 + 1) (at + 6) (omega arith) in
    let same7 : slice_index list (at + 1 + 1 + 1 + 1 + 1 + 1 + 1) ≡ slice_index list (at + 7) = same list (at + 1 + 1 + 1 + 1 + 1 + 1 + 1) (at + 7) (omega arith) in
    let small0 : slice_index list (at + 0) < 256 = small 0 (omega arith) in
    let small1 : slice_index list (at + 1) < 256 = small 1 (omega arith) in
    let small2 : slice_index list (at + 2) < 256 = small 2 (omega arith) in
    let small3 : slice_index list (at + 3) < 256 = small 3 (omega arith) in
    let small4 : slice_index list (at + 4) < 256 = small 4 (omega arith) in
    let small5 : slice_index list (at + 5) < 256 = small 5 (omega arith) in
    let small6 : slice_index list (at + 6) < 256 = small 6 (omega arith) in
    let small7 : slice_index list (at + 7) < 256 = small 7 (omega arith) in
    omega arith
byte_of_eight list at (suc (suc (suc (suc (suc (suc (suc (suc i)))))))) inside small = absurd (omega arith)
