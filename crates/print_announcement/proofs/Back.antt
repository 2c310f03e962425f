-- Each announcement comes back from its text, whatever follows it. Assumes nothing.
use Prim.Native.Nat.{ℕ, ◌+◌, ◌*◌, ◌/◌, ◌%◌, ◌<◌}
use native.Mathlib.Omega.{arith}
use mathlib.Core.Path.{◌≡◌, refl, ap, sym, ◌∙◌}
use mathlib.Core.List.{List, [], ◌∷◌, ◌++◌, append_assoc}
use mathlib.Core.Bool.{Bool, true, false}
use mathlib.Core.Option.{some}
use lib.Dec.{eqb}
use borrow.Author.Tests.{eqb-true}
use Rattle.text.specs.Bytes.{bytes}
use Rattle.text.specs.Pick.{pick}
use Rattle.text.specs.Decimal.{decimal, places}
use Rattle.text.specs.Reading.{found, is_digit, number, starts, past}
use Rattle.text.proofs.Reading.{number_digit, number_stop, read_decimal, past_append}
use Rattle.rules.specs.Volume.{full_volume}
use Rattle.rules.specs.Price.{whole_text}
use Rattle.rules.specs.Announcement.{minimum_dollars, minimum_text, mode_text, level_text}
use Rattle.rules.specs.declared.Mode.{Mode}
use Rattle.rules.specs.declared.Mode.TheVariants.{Normal, Dvd, Rpo, Mpv}
use Rattle.print_volume.specs.Reading.{figures}
use Rattle.text.specs.Reading.{dot_digit}
use Rattle.print_volume.proofs.VolumeBack.{figures_volume, figures_stop}
use Rattle.print_announcement.specs.Reading.{Told, normal, dvd, rpo, minimum, level, read_minimum, read_level, read_announcement}

-- what is told of a mode
unfoldable pub told : Mode → ℕ → Told
told Normal k = normal
told Dvd k = dvd
told Rpo k = rpo
told Mpv k = minimum k

whole_stop : (w : ℕ) (s : List ℕ) → number 0 (whole_text w ++ (bytes "," ++ s)) ≡ found w (bytes "," ++ s)
unfolding whole_text pick is_digit
whole_stop w s = go (eqb w 0) refl
  where
    go : (b : Bool) → eqb w 0 ≡ b → number 0 (pick b [] (decimal w) ++ (44 ∷ s)) ≡ found w (44 ∷ s)
    go true e = number_stop 0 (44 ∷ s) refl ∙ ap (λ a. found a (44 ∷ s)) (sym (eqb-true w 0 e))
    go false e = read_decimal w (44 ∷ s) refl

two : (a n : ℕ) (s : List ℕ) → number a (places 2 n ++ s) ≡ number (a * 100 + n % 100) s
unfolding places
two a n s = rw (number_digit a (n / 10 % 10) _ (omega arith), number_digit _ (n % 10) _ (omega arith)) (ap (λ m. number m s) (omega arith))

pair_stop : (a : ℕ) (s : List ℕ) → number a (bytes ">>" ++ s) ≡ found a (bytes ">>" ++ s)
unfolding is_digit
pair_stop a s = number_stop a (62 ∷ 62 ∷ s) refl

dollars_back : (k : ℕ) (s : List ℕ) → read_minimum (minimum_dollars k ++ (bytes ">>" ++ s)) ≡ found (minimum k) s
unfolding read_minimum minimum_dollars
dollars_back k s =
    let e : (5 * k / 100 * 100 + 5 * k % 100) / 5 ≡ k = omega arith in
    rw (append_assoc, append_assoc, whole_stop (5 * k / 100) (places 2 (5 * k) ++ (bytes ">>" ++ s)), past_append (bytes ",") (places 2 (5 * k) ++ (bytes ">>" ++ s)), two, pair_stop, past_append (bytes ">>") s, e)

shares_stop : (v : ℕ) (s : List ℕ) → figures v (bytes "SHRS>>" ++ s) ≡ found v (bytes "SHRS>>" ++ s)
unfolding is_digit dot_digit
shares_stop v s = figures_stop v (bytes "SHRS>>" ++ s) refl refl

shares_back : (v : ℕ) (s : List ℕ) → v < 1000000000 → read_level (full_volume v ++ (bytes "SHRS>>" ++ s)) ≡ found (level v) s
unfolding read_level
shares_back v s h = rw (figures_volume v (bytes "SHRS>>" ++ s) h ∙ shares_stop v s, past_append (bytes "SHRS>>") s)

-- THE ANNOUNCEMENT COMES BACK: M and P
pub minimum_back : (k : ℕ) (s : List ℕ) → read_announcement (minimum_text k ++ s) ≡ some (found (minimum k) s)
unfolding read_announcement minimum_text starts past pick
minimum_back k s = rw append_assoc (ap some (dollars_back k s))

pub mode_back : (m : Mode) (k : ℕ) (s : List ℕ) → read_announcement (mode_text m k ++ s) ≡ some (found (told m k) s)
unfolding read_announcement mode_text told starts past pick
mode_back Normal k s = refl
mode_back Dvd k s = refl
mode_back Rpo k s = refl
mode_back Mpv k s = minimum_back k s

-- V
pub level_back : (v : ℕ) (s : List ℕ) → v < 1000000000 → read_announcement (level_text v ++ s) ≡ some (found (level v) s)
unfolding read_announcement level_text starts past pick
level_back v s h = rw append_assoc (ap some (shares_back v s h))
