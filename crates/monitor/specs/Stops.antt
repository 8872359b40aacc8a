-- The breakpoints of a session: at most sixteen linear addresses. Own: The answers of the monitor
use Rattle.std.specs.Prelude.{ℕ, Bool, not, ◌==◌, ◌||◌, nat_le, if◌then◌else◌, List, [], ◌∷◌, ◌++◌, length, Option, Some, None, is_some, codes, position}
use Rattle.std.specs.List.{remove}

-- where the first of them has this address
abbrev pub place_of : List ℕ → ℕ → Option ℕ
place_of stops at = position (λ stop. stop == at) stops

abbrev pub is_stop : List ℕ → ℕ → Bool
is_stop stops at = is_some (place_of stops at)

-- there is room for no more
abbrev pub is_full : List ℕ → Bool
is_full stops = nat_le 16 (length stops)

-- ---- one more

abbrev pub with_stop : List ℕ → ℕ → List ℕ
with_stop stops at = if is_stop stops at || is_full stops then stops else stops ++ at ∷ []

-- it is there now, or there was no room
abbrev pub add_text : List ℕ → ℕ → List ℕ
add_text stops at = if is_stop stops at || not (is_full stops) then codes "ok\n" else codes "full\n"

-- ---- one less

abbrev pub without_place : Option ℕ → List ℕ → List ℕ
without_place None stops = stops
without_place (Some place) stops = remove stops place

abbrev pub without_stop : List ℕ → ℕ → List ℕ
without_stop stops at = without_place (place_of stops at) stops

-- it was there, or it was not
abbrev pub drop_text : List ℕ → ℕ → List ℕ
drop_text stops at = if is_stop stops at then codes "ok\n" else codes "none\n"
