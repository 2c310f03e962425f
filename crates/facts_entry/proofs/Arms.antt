-- What each part of an entry and each case of a plan says, in the form of the code's needs. Assumes nothing.
use Prim.Native.Nat.{ℕ, suc}
use native.Mathlib.Omega.{arith}
use mathlib.Core.Path.{◌≡◌, refl}
use mathlib.Core.List.{List, [], ◌∷◌}
use lib.Dec.{eqb}
use lib.ListN.{length}
use borrow.Author.Tests.{ne_eqb}
use Rattle.text.specs.Pick.{same}
use Rattle.rules.specs.Announcement.{minimum_text, mode_text, level_text}
use Rattle.rules.specs.Shown.{announced_if}
use Rattle.rules.specs.declared.Mode.{Mode}
use Rattle.rules.specs.declared.Mode.TheVariants.{Normal, Dvd, Rpo, Mpv}
use Rattle.facts_entry.specs.Entry.{fact_in}
use Rattle.facts_entry.specs.declared.Entry.TheVariants.{Announced}

pub some_bytes : (t : List ℕ) → eqb (length t) 0 ≡ same t []
unfolding same
some_bytes [] = refl
some_bytes (c ∷ s) = ne_eqb (suc (length s)) 0 (λ e. absurd (omega (arith, e)))

-- M: every mode has a text
pub some_mode : (m : Mode) (n : ℕ) → fact_in (mode_text m n) Announced ≡ announced_if (mode_text m n)
unfolding fact_in announced_if mode_text minimum_text
some_mode Normal n = refl
some_mode Dvd n = refl
some_mode Rpo n = refl
some_mode Mpv n = refl

pub some_level : (n : ℕ) → fact_in (level_text n) Announced ≡ announced_if (level_text n)
unfolding fact_in announced_if level_text
some_level n = refl

pub ruleset announcements = (some_mode, some_level)
