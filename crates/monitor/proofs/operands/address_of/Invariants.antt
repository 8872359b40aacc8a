use Rattle.std.proofs.Common.{◌≡◌, take}
use Rattle.std.specs.Str.Parse.{AllDigits, digits_value}
use Rattle.monitor.proofs.operands.address_of.Given as goal

-- the bytes so far are digits, and make the number
abbrev pub invariant-loop-byte : goal.invariant-loop-byte
invariant-loop-byte l = record {
  digits : AllDigits 16 (take l.byte-index l.text);
  value : l.at ≡ digits_value 16 (take l.byte-index l.text);
}
