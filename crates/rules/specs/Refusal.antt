-- Document 01, "Lines not taken": the refusals and their numbers. Assumes nothing.
use Rattle.std.specs.Prelude.{ℕ, Bool}
use Rattle.std.proofs.Math.Option.{Option, none, some}
use Rattle.text.specs.Pick.{pick}
use Rattle.rules.specs.declared.Refusal.{Refusal}
use Rattle.rules.specs.declared.Refusal.TheVariants.{Shape, Kind, NoDate, Form, Value, NotEntered, InUse, Name, SameName, Conditions, Unmatched, DateOrder, Room, NoPrint}

-- 1 not 100 bytes of 32..126; 2 unknown kind; 3 not a D, and no D accepted yet; 4 a field not in its form; 5 a number outside its values;
-- 6 security not entered; 7 S number in use; 8 no lawful name; 9 a name equals another security's; 10 letters repeated or excluded, J or G on the wrong network;
-- 11 days and R, previous last and G not alike; 12 date not after the last accepted D; 13 lent tape shorter than the print; 14 reader: no print there
unfoldable pub number_of : Refusal → ℕ
number_of Shape = 1
number_of Kind = 2
number_of NoDate = 3
number_of Form = 4
number_of Value = 5
number_of NotEntered = 6
number_of InUse = 7
number_of Name = 8
number_of SameName = 9
number_of Conditions = 10
number_of Unmatched = 11
number_of DateOrder = 12
number_of Room = 13
number_of NoPrint = 14

-- a line's answer by number: 0 where nothing refuses it
unfoldable pub refusal_number : Option Refusal → ℕ
refusal_number none = 0
refusal_number (some r) = number_of r

-- the refusal where the test holds, else what comes after it
unfoldable pub refuse : Bool → Refusal → Option Refusal → Option Refusal
refuse test r later = pick test (some r) later
