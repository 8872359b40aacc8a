-- Plans while paging is off: only held writes and breakpoints met change memory.
use Rattle.std.proofs.Common.{◌≡◌, ℕ, ◌+◌, ◌%◌, ◌^◌, false, [], refl, ap, ◌∙◌}
use Rattle.mdl_state.specs.declared.Size.{Size}
use Rattle.mdl_state.specs.declared.Who.{Who}
use Rattle.mdl_state.specs.declared.Access.{Access}
use Rattle.mdl_state.specs.declared.Access.TheVariants.{Read, Write}
use Rattle.mdl_state.specs.declared.Place.{Place}
use Rattle.mdl_state.specs.State.{Mem}
use Rattle.mdl_state.specs.Watches.{hits_after, noted}
use Rattle.mdl_state.specs.Serving.{Serve, Passed, on}
use Rattle.mdl_state.specs.Accesses.{translated, bytes_here, got, held_at, read_at, written_at}
use Rattle.mdl_state.specs.Attempt.{Plan, Done, Fail, Load, Store, Translate, Get, Hold, Input, tried}

-- the place of an access, which lies where its linear address is
abbrev pub plain_place : ℕ → Size → Place
plain_place lin size = record { first = lin; second = (lin + bytes_here lin size) % 2 ^ 32; cut = bytes_here lin size }

pub plain_translated : (serve : Serve) (m : Mem) (lin : ℕ) (size : Size) (access : Access) → m.paging ≡ false → translated serve m lin size access ≡ (Passed (plain_place lin size), noted m lin size access)
unfolding translated
plain_translated serve m lin size access off = rw off refl

pub plain_read : (serve : Serve) (m : Mem) (lin : ℕ) (size : Size) (who : Who) → m.paging ≡ false → read_at serve m lin size who ≡ (Passed (got m (plain_place lin size) size), noted m lin size (Read who))
unfolding read_at
plain_read serve m lin size who off = ap (λ w. on w (λ place n. (Passed (got n place size), n))) (plain_translated serve m lin size (Read who) off)

pub plain_written : (serve : Serve) (m : Mem) (lin : ℕ) (size : Size) (value : ℕ) (who : Who) → m.paging ≡ false → written_at serve m lin size value who ≡ (Passed tt, held_at (noted m lin size (Write who)) (plain_place lin size) size value)
unfolding written_at
plain_written serve m lin size value who off = ap (λ w. on w (λ place n. (Passed tt, held_at n place size value))) (plain_translated serve m lin size (Write who) off)

unmet : (m : Mem) (lin : ℕ) (size : Size) (access : Access) → m.watch ≡ [] → hits_after m.watch lin size access m.hits ≡ m.hits
unmet m lin size access none = rw none refl

pub only_held : {A : Type 0} (serve : Serve) (given : ℕ) (plan : Plan A) (m : Mem) → m.paging ≡ false
    → (tried serve given plan m).1 ≡ record m { held = (tried serve given plan m).1.held; hits = (tried serve given plan m).1.hits }
only_held serve given (Done x) m off = refl
only_held serve given (Fail fault) m off = refl
only_held serve given (Load lin size who k) m off = rw (plain_read serve m lin size who off) (only_held serve given (k (got m (plain_place lin size) size)) (noted m lin size (Read who)) off)
only_held serve given (Store lin size value who k) m off = rw (plain_written serve m lin size value who off) (only_held serve given k (held_at (noted m lin size (Write who)) (plain_place lin size) size value) off)
only_held serve given (Translate lin size access k) m off = rw (plain_translated serve m lin size access off) (only_held serve given (k (plain_place lin size)) (noted m lin size access) off)
only_held serve given (Get place size k) m off = only_held serve given (k (got m place size)) m off
only_held serve given (Hold place size value k) m off = only_held serve given k (held_at m place size value) off
only_held serve given (Input port size k) m off = only_held serve given (k given) m off

-- where nothing is watched, nothing is met
pub none_met : {A : Type 0} (serve : Serve) (given : ℕ) (plan : Plan A) (m : Mem) → m.paging ≡ false → m.watch ≡ []
    → (tried serve given plan m).1.hits ≡ m.hits
none_met serve given (Done x) m off none = refl
none_met serve given (Fail fault) m off none = refl
none_met serve given (Load lin size who k) m off none = rw (plain_read serve m lin size who off) (none_met serve given (k (got m (plain_place lin size) size)) (noted m lin size (Read who)) off none ∙ unmet m lin size (Read who) none)
none_met serve given (Store lin size value who k) m off none = rw (plain_written serve m lin size value who off) (none_met serve given k (held_at (noted m lin size (Write who)) (plain_place lin size) size value) off none ∙ unmet m lin size (Write who) none)
none_met serve given (Translate lin size access k) m off none = rw (plain_translated serve m lin size access off) (none_met serve given (k (plain_place lin size)) (noted m lin size access) off none ∙ unmet m lin size access none)
none_met serve given (Get place size k) m off none = none_met serve given (k (got m place size)) m off none
none_met serve given (Hold place size value k) m off none = none_met serve given k (held_at m place size value) off none
none_met serve given (Input port size k) m off none = none_met serve given (k given) m off none

pub ruleset unpaged = (only_held, none_met)
