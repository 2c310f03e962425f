-- Laws of the texts of "Corrections and cancels", in the form of the code's needs. Assumes nothing.
use Prim.Native.Nat.{ℕ}
use mathlib.Core.Path.{◌≡◌, refl}
use mathlib.Core.Bool.{Bool, true, false}
use mathlib.Core.List.{List, []}
use lib.ListN.{length}
use Rattle.text.specs.Bytes.{bytes}
use Rattle.text.specs.Pick.{pick, opt}
use Rattle.text.specs.Put.{Written}
use Rattle.rules.specs.Names.{name_text, part_text}
use Rattle.text.specs.Reading.{span}
use Rattle.rules.specs.Columns.{is_blank, word}
use Rattle.rules.specs.Side.{side_text}
use Rattle.rules.specs.Correction.{cancel_opening, error_opening}
use Rattle.rules.specs.declared.Side.{Side}
use Rattle.rules.specs.declared.PriceForm.{PriceForm}

-- either opening has six bytes
pub opening_length : (error : Bool) → 6 ≡ length (pick error error_opening cancel_opening)
unfolding pick
opening_length true = refl
opening_length false = refl

-- the columns of no name
abbrev blank_name : List ℕ
blank_name = bytes "                   "

pub no_name : name_text false blank_name ≡ []
unfolding name_text part_text word span is_blank pick opt
no_name = refl

-- a side whose name is repeated, or left out, by what stands for the name
module _ (s t : List ℕ) (network unit : ℕ) (form : PriceForm) (shows : Bool) (x : Side) where
  pub written_again : (b a : List ℕ) (r : ℕ) → s ≡ t → Written (side_text s network unit form shows x) b a r → Written (side_text t network unit form shows x) b a r
  written_again b a r e w = rw e at w
