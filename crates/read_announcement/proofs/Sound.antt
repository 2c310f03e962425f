-- What is found at a place is an announcement, and within the text. Assumes nothing.
use Prim.Native.Nat.{ℕ, ◌≤◌}
use native.Mathlib.Omega.{arith}
use mathlib.Core.Path.{◌≡◌, refl}
use mathlib.Core.Bool.{Bool, true, false}
use mathlib.Core.List.{List}
use lib.ListN.{length, take}
use lib.Seq.{length-take-le}
use Rattle.std.specs.Prelude.{Option, Some, None}
use lib.Dec.{leb}
use borrow.Author.Tests.{leb-true}
use Rattle.text.specs.Bytes.{bytes}
use Rattle.text.specs.Pick.{pick}
use Rattle.text.specs.Reading.{starts}
use Rattle.text.proofs.Texts.{and_left, and_right}
use Rattle.text.proofs.Parts.{starts_front, starts_within}
use Rattle.rules.specs.Columns.{between}
use Rattle.rules.specs.Announcement.{minimum_text, mode_text, level_text}
use Rattle.rules.specs.declared.Mode.{Mode}
use Rattle.rules.specs.declared.Mode.TheVariants.{Normal, Dvd, Rpo, Mpv}
use Rattle.read_announcement.proofs.Back.{announced_some}
use Rattle.read_announcement.specs.Announced.{Announced, mode, level, length_at, length_by, minimum_at, level_at, announced_in, announced_length}

-- a length is within the text, and an announcement's
record Stands (s : List ℕ) (n : ℕ) : Type 0 where
  within : n ≤ length s
  told : Announced (take n s)

abbrev Found : List ℕ → Option ℕ → Type 0
Found s r = (n : ℕ) → r ≡ Some n → Stands s n

module _ (s : List ℕ) where
  none : Found s None
  none n e = absurd (let z : ◌≡◌ {A = ℕ} 0 1 = cc in omega arith)

  there : (t : List ℕ) → Announced t → starts t s ≡ true → Found s (Some (length t))
  there t a h n e = let q : length t ≡ n = cc in rw (← q) (record { within = starts_within t s h; told = rw (starts_front t s h) a })

  chosen : (b : Bool) (x y : Option ℕ) → (b ≡ true → Found s x) → (b ≡ false → Found s y) → Found s (pick b x y)
  unfolding pick
  chosen true x y f g = f refl
  chosen false x y f g = g refl

  text_stands : (t : List ℕ) → Announced t → Found s (length_at t s)
  unfolding length_at
  text_stands t a = chosen (starts t s) (Some (length t)) None (λ h. there t a h) (λ h. none)

  by_stands : (low high : ℕ) (text : ℕ → List ℕ) → ((n : ℕ) → low ≤ n → n ≤ high → Announced (text n)) → (n : ℕ) → Found s (length_by low high text n s)
  unfolding length_by between
  by_stands low high text a n =
      chosen (between low high n) (length_at (text n) s) None
      (λ h. text_stands (text n) (a n (leb-true low n (and_left (leb low n) (leb n high) h)) (leb-true n high (and_right (leb low n) (leb n high) h))))
      (λ h. none)

  minimum_stands : Found s (minimum_at s)
  unfolding minimum_at mode_text
  minimum_stands = by_stands 1 100 minimum_text (λ n h k. mode Mpv n h k refl) _

  level_stands : Found s (level_at s)
  unfolding level_at
  level_stands = by_stands 5000 100000 level_text (λ n h k. level n h k refl) _

  mode_stands : (m : Mode) → starts (mode_text m 1) s ≡ true → Found s (Some (length (mode_text m 1)))
  mode_stands m h = there (mode_text m 1) (mode m 1 (omega arith) (omega arith) refl) h

  in_stands : Found s (announced_in s)
  unfolding announced_in mode_text
  in_stands =
      chosen (starts (mode_text Normal 1) s) (Some 23) _ (λ h. mode_stands Normal h)
      (λ h. chosen (starts (mode_text Dvd 1) s) (Some 40) _ (λ k. mode_stands Dvd k)
      (λ k. chosen (starts (mode_text Rpo 1) s) (Some 38) _ (λ j. mode_stands Rpo j)
      (λ j. chosen (starts (bytes "<<<MIN.PRICE.CHGS.OMITTED.NOW") s) (minimum_at s) (level_at s) (λ i. minimum_stands) (λ i. level_stands))))

  announced_stands : Found s (announced_length s)
  unfolding announced_length
  announced_stands = chosen (starts (bytes "<<<") s) (announced_in s) None (λ h. in_stands) (λ h. none)

  -- n is the length that a caller was answered
  module _ (n : ℕ) (e : announced_length s ≡ Some n) where
    pub announced_within : n ≤ length s
    announced_within = (announced_stands n e).within

    -- WHAT IS FOUND IS AN ANNOUNCEMENT
    pub announced_told : Announced (take n s)
    announced_told = (announced_stands n e).told

    pub announced_positive : 1 ≤ n
    announced_positive = omega (arith, announced_some (take n s) announced_told, length-take-le n s announced_within)
