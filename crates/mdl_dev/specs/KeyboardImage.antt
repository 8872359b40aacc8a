-- The keyboard controller as 24 bytes. Own: The image of the keyboard controller.
use Rattle.std.specs.Prelude.{ℕ, ◌-◌, ◌<◌, ◌≤◌, ◌≡◌, List, ◌∷◌, ◌++◌, length, drop, replicate, slice_index}
use Rattle.std.specs.List.{All}
use Rattle.std.specs.Int.{from_bool}
use Rattle.mdl_dev.specs.declared.keyboard.Awaited.{Awaited}
use Rattle.mdl_dev.specs.declared.keyboard.Awaited.TheVariants.{Nothing, CommandByte, OutputPort}
use Rattle.mdl_dev.specs.declared.keyboard.TheConstants.{QUEUE}
use Rattle.mdl_dev.specs.Keyboard.{Keyboard}

-- a byte for what is awaited
abbrev pub awaited_code : Awaited → ℕ
awaited_code Nothing = 0
awaited_code CommandByte = 1
awaited_code OutputPort = 2

-- the bytes that wait, and zeros in the places that are free
abbrev pub places_of : List ℕ → List ℕ
places_of queue = queue ++ replicate (QUEUE - length queue) 0

-- places in which nothing waits
abbrev pub AreFree : List ℕ → Type 0
AreFree places = All (λ byte. byte ≡ 0) places

-- each part in its place
abbrev pub keyboard_image : Keyboard → List ℕ
keyboard_image k =
    k.command_byte ∷ k.output_port ∷ awaited_code k.awaited ∷ from_bool k.command_last ∷ k.given
    ∷ from_bool k.replies ∷ k.reply ∷ length k.queue ∷ places_of k.queue

-- some bytes are the image of a controller
pub record IsKeyboardImage (image : List ℕ) : Type 0 where
  pub awaited : slice_index image 2 < 3
  pub command_last : slice_index image 3 < 2
  pub replies : slice_index image 5 < 2
  pub waiting : slice_index image 7 ≤ QUEUE
  pub free : AreFree (drop (slice_index image 7) (drop 8 image))
