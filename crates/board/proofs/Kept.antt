-- A read of the keyboard controller leaves its output port.
use Rattle.std.specs.Prelude.{ℕ, ◌≡◌, ◌==◌, Bool, true, false, if◌then◌else◌, refl, drop}
use Rattle.mdl_dev.specs.declared.keyboard.TheConstants.{DATA_PORT, KEYBOARD_OFF}
use Rattle.mdl_dev.specs.Keyboard.{Keyboard, has, without_front, data_of, after_input}

front_taken : (replies off : Bool) (k : Keyboard) →
    (if replies then record k { replies = false } else if off then k else record k { queue = drop 1 k.queue }).output_port ≡ k.output_port
front_taken true off k = refl
front_taken false true k = refl
front_taken false false k = refl

read_at : (is_data : Bool) (k : Keyboard) →
    (if is_data then record (without_front k) { given = data_of k } else k).output_port ≡ k.output_port
read_at true k = front_taken k.replies (has k.command_byte KEYBOARD_OFF) k
read_at false k = refl

-- the line A20 stays as it was
pub reading_keeps_a20 : (k : Keyboard) (port : ℕ) → (after_input k port).output_port ≡ k.output_port
reading_keeps_a20 k port = read_at (port == DATA_PORT) k
