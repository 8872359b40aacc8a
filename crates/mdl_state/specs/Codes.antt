-- The codes of memory's parts, by which a state can be a model's value.
use Rattle.std.specs.Prelude.{ℕ, Bool, true, false, List, Option, Some, None, refl, ◌≡◌}
use Rattle.std.specs.Coded.{Coded, code_by, coded×, coded_ℕ, coded_bool, coded_list, coded_option}
use Rattle.std.specs.FinMap.{FinMap}
use Rattle.std.specs.FinMap as finmap
use Rattle.std.specs.Ordering.{nat_cmp}
use Rattle.std.proofs.Common.{ap}
use Rattle.mdl_state.specs.declared.Entry.{Entry}
use Rattle.mdl_state.specs.declared.Size.{Size}
use Rattle.mdl_state.specs.declared.Size.TheVariants.{B1, B2, B4}
use Rattle.mdl_state.specs.declared.Watch.{Watch}
use Rattle.mdl_state.specs.State.{Physical, Mem, Item, Old, Walk}

abbrev pub entry_code : Coded Entry
entry_code = code_by (ℕ × (Bool × (Bool × Bool))) (coded× coded_ℕ (coded× coded_bool (coded× coded_bool coded_bool)))
    (λ e. (e.frame, (e.user, (e.write, e.dirty)))) (λ p. record { frame = p.0; user = p.1.0; write = p.1.1.0; dirty = p.1.1.1 }) (λ _. refl)

abbrev from_item : Item → Option (List ℕ)
from_item Old = None
from_item (Walk dropped) = Some dropped

abbrev to_item : Option (List ℕ) → Item
to_item None = Old
to_item (Some dropped) = Walk dropped

pub item_back : (i : Item) → to_item (from_item i) ≡ i
item_back Old = refl
item_back (Walk dropped) = refl

abbrev pub item_code : Coded Item
item_code = code_by (Option (List ℕ)) (coded_option (coded_list coded_ℕ)) from_item to_item item_back

abbrev pub physical_code : Coded Physical
physical_code = code_by (List ℕ × (List ℕ × Bool)) (coded× (coded_list coded_ℕ) (coded× (coded_list coded_ℕ) coded_bool))
    (λ m. (m.ram, (m.rom, m.a20))) (λ p. record { ram = p.0; rom = p.1.0; a20 = p.1.1 }) (λ _. refl)

abbrev from_size : Size → Option Bool
from_size B1 = None
from_size B2 = Some false
from_size B4 = Some true

abbrev to_size : Option Bool → Size
to_size None = B1
to_size (Some false) = B2
to_size (Some true) = B4

pub size_back : (s : Size) → to_size (from_size s) ≡ s
size_back B1 = refl
size_back B2 = refl
size_back B4 = refl

abbrev pub watch_code : Coded Watch
watch_code = code_by (ℕ × (Option Bool × (Bool × ℕ))) (coded× coded_ℕ (coded× (coded_option coded_bool) (coded× coded_bool coded_ℕ)))
    (λ w. (w.lin, (from_size w.size, (w.reads, w.bits)))) (λ p. record { lin = p.0; size = to_size p.1.0; reads = p.1.1.0; bits = p.1.1.1 })
    (λ w. ap (λ (s : Size). record w { size = s }) (size_back w.size))

abbrev pub mem_code : Coded Mem
mem_code = code_by (Physical × (Bool × (ℕ × (FinMap nat_cmp Entry × (List (ℕ × ℕ) × (ℕ × (List Item × (List Watch × ℕ))))))))
    (coded× physical_code (coded× coded_bool (coded× coded_ℕ (coded× (finmap.code coded_ℕ entry_code) (coded× (coded_list (coded× coded_ℕ coded_ℕ)) (coded× coded_ℕ (coded× (coded_list item_code) (coded× (coded_list watch_code) coded_ℕ))))))))
    (λ m. (m.physical, (m.paging, (m.cr3, (m.cache, (m.held, (m.walks, (m.served, (m.watch, m.hits)))))))))
    (λ p. record { physical = p.0; paging = p.1.0; cr3 = p.1.1.0; cache = p.1.1.1.0; held = p.1.1.1.1.0; walks = p.1.1.1.1.1.0; served = p.1.1.1.1.1.1.0; watch = p.1.1.1.1.1.1.1.0; hits = p.1.1.1.1.1.1.1.1 }) (λ _. refl)
