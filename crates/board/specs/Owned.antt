-- The ports that each chip takes.
use Rattle.std.specs.Prelude.{ℕ, IsTrue}
use Rattle.mdl_dev.specs.PicPair.{is_pic_port}
use Rattle.mdl_dev.specs.Keyboard.{is_keyboard_port}
use Rattle.mdl_dev.specs.Screen.{is_screen_port}
use Rattle.mdl_dev.specs.DiskPorts.{is_disk_port}
use Rattle.mdl_board.specs.declared.Device.{Device}
use Rattle.mdl_board.specs.declared.Device.TheVariants.{InterruptControllers, Timer, SystemControl, Keyboard, Screen, Disk, Nothing}

-- a port is one of a device's own; the others take every port
abbrev pub IsPortOf : Device → ℕ → Type 0
IsPortOf InterruptControllers port = IsTrue (is_pic_port port)
IsPortOf Timer port = Unit {0}
IsPortOf SystemControl port = Unit {0}
IsPortOf Keyboard port = IsTrue (is_keyboard_port port)
IsPortOf Screen port = IsTrue (is_screen_port port)
IsPortOf Disk port = IsTrue (is_disk_port port)
IsPortOf Nothing port = Unit {0}
