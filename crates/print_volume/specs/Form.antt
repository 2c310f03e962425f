-- How a volume is shown: which of its figures, and which mark. Assumes nothing.
use Rattle.std.specs.Prelude.{ℕ, ◌/◌, ◌%◌, ◌^◌, ◌≤◌, ◌≡◌, ◌&&◌, ◌||◌, not, List, [], ◌++◌, eqb, ltb, take, drop}
use Rattle.text.specs.Bytes.{bytes}
use Rattle.text.specs.Pick.{pick}
use Rattle.rules.specs.Volume.{full_volume, is_round, volume_text}
use Rattle.print_volume.specs.declared.Form.{Form}

-- the marks of volumes, each at a place that four divides
abbrev pub marks : List ℕ
marks = bytes "s   $   SHRS"

-- a volume without its last digits, then its mark
unfoldable pub marked_text : Form → ℕ → List ℕ
marked_text f v = full_volume (v / 10 ^ f.cut) ++ take f.size (drop f.mark marks)

-- the five forms: in shares; in hundreds and in tens, counted below 10,000 and in full from there up
abbrev pub shares : Form
shares = record { cut = 0; mark = 8; size = 4 }

abbrev pub hundreds : Form
hundreds = record { cut = 2; mark = 0; size = 1 }

abbrev pub tens : Form
tens = record { cut = 1; mark = 4; size = 1 }

abbrev pub full_hundreds : Form
full_hundreds = record { cut = 0; mark = 0; size = 1 }

abbrev pub full_tens : Form
full_tens = record { cut = 0; mark = 4; size = 1 }

-- the one that a volume is shown in
unfoldable pub form_of : ℕ → ℕ → ℕ → Form
form_of network unit v =
    pick (not (is_round unit v) || (eqb network 66 && ltb unit 100)) shares
    (pick (ltb v 10000) (pick (eqb unit 100) hundreds (pick (eqb (v % 10) 0) tens shares))
    (pick (eqb unit 100) full_hundreds full_tens))

-- that form, and what it writes: 100 in hundreds prints nothing
pub record Formed (network unit v : ℕ) (f : Form) : Type 0 where
  pub form_is : f ≡ form_of network unit v
  pub text_is : volume_text network unit v ≡ pick (eqb f.mark 0 && eqb v 100) [] (marked_text f v)
  pub cut_most : 1 ≤ v → 10 ^ f.cut ≤ v
  pub cut_few : f.cut ≤ 2
  pub mark_most : f.mark ≤ 8
  pub size_most : f.size ≤ 4
