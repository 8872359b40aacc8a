-- An image has one controller.
use Rattle.std.proofs.Common.{ℕ, ◌≡◌, Bool, true, false, List, [], ◌∷◌, ◌++◌, length, refl}
use Rattle.std.specs.Int.{from_bool}
use Rattle.mdl_dev.specs.declared.keyboard.Awaited.{Awaited}
use Rattle.mdl_dev.specs.declared.keyboard.Awaited.TheVariants.{Nothing, CommandByte, OutputPort}
use Rattle.mdl_dev.specs.Keyboard.{Keyboard}
use Rattle.mdl_dev.specs.KeyboardImage.{awaited_code, places_of, keyboard_image}

awaited_is_one : (a b : Awaited) → awaited_code a ≡ awaited_code b → a ≡ b
awaited_is_one Nothing Nothing h = refl
awaited_is_one Nothing CommandByte h = cc
awaited_is_one Nothing OutputPort h = cc
awaited_is_one CommandByte Nothing h = cc
awaited_is_one CommandByte CommandByte h = refl
awaited_is_one CommandByte OutputPort h = cc
awaited_is_one OutputPort Nothing h = cc
awaited_is_one OutputPort CommandByte h = cc
awaited_is_one OutputPort OutputPort h = refl

flag_is_one : (a b : Bool) → from_bool a ≡ from_bool b → a ≡ b
flag_is_one true true h = refl
flag_is_one true false h = cc
flag_is_one false true h = cc
flag_is_one false false h = refl

front_is_one : (xs ys us vs : List ℕ) → length xs ≡ length ys → xs ++ us ≡ ys ++ vs → xs ≡ ys
front_is_one [] [] us vs l h = refl
front_is_one [] (y ∷ ys) us vs l h = cc
front_is_one (x ∷ xs) [] us vs l h = cc
front_is_one (x ∷ xs) (y ∷ ys) us vs l h =
    let tails : xs ++ us ≡ ys ++ vs = cc in
    let lengths : length xs ≡ length ys = cc in
    cc (front_is_one xs ys us vs lengths tails)

abbrev fields : Keyboard → Keyboard
fields k = record {
  command_byte = k.command_byte;
  output_port = k.output_port;
  awaited = k.awaited;
  command_last = k.command_last;
  given = k.given;
  replies = k.replies;
  reply = k.reply;
  queue = k.queue;
}

-- controllers with one image are one
pub image_is_one : (j k : Keyboard) → keyboard_image j ≡ keyboard_image k → j ≡ k
image_is_one j k h =
    let awaited : awaited_code j.awaited ≡ awaited_code k.awaited = cc in
    let command_last : from_bool j.command_last ≡ from_bool k.command_last = cc in
    let replies : from_bool j.replies ≡ from_bool k.replies = cc in
    let waiting : length j.queue ≡ length k.queue = cc in
    let places : places_of j.queue ≡ places_of k.queue = cc in
    let same : fields j ≡ fields k =
    cc (awaited_is_one _ _ awaited, flag_is_one _ _ command_last, flag_is_one _ _ replies, front_is_one _ _ _ _ waiting places) in
    same
