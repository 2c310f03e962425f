-- The decoder carries what the tape shows: the mode from each announcement, the last printed price from each trade. Assumes nothing.
use Prim.Native.Nat.{ℕ, ◌-◌, ◌<◌}
use mathlib.Core.Path.{◌≡◌, refl, sym, ap, ◌∙◌}
use mathlib.Core.Bool.{Bool}
use mathlib.Core.List.{[], append-nil}
use mathlib.Core.Option.{Option}
use lib.ListN.{set}
use Rattle.rules.specs.Announcement.{mode_text, level_text, minimum_text}
use Rattle.rules.specs.Shown.{Conditions, announced, traded}
use Rattle.rules.specs.declared.Mode.{Mode}
use Rattle.rules.specs.declared.Mode.TheVariants.{Normal, Dvd, Rpo, Mpv}
use Rattle.print_announcement.specs.Reading.{read_announcement}
use Rattle.print_announcement.proofs.Back.{told, mode_back, minimum_back, level_back}
use Rattle.claim_decoder.specs.Carried.{Carried, mode_told, mode_after, next}

by_told : (m k : Mode) (n : ℕ) → mode_told k (told m n) ≡ m
unfolding mode_told told
by_told Normal k n = refl
by_told Dvd k n = refl
by_told Rpo k n = refl
by_told Mpv k n = refl

module _ (d : Carried) (n : ℕ) where
  -- M: the mode entered
  pub mode_carried : (m : Mode) → next d (announced (mode_text m n)) ≡ record { mode = m; printed = d.printed }
  unfolding next mode_after
  mode_carried m =
      let e : mode_after d.mode (read_announcement (mode_text m n)) ≡ m = ap (mode_after d.mode) (ap read_announcement (sym (append-nil (mode_text m n))) ∙ mode_back m n []) ∙ by_told m d.mode n in
      ap (λ (k : Mode). record { mode = k; printed = d.printed }) e

  -- P: it prints in MPV only
  pub minimum_carried : next d (announced (minimum_text n)) ≡ record { mode = Mpv; printed = d.printed }
  unfolding next mode_after mode_told
  minimum_carried =
      let e : mode_after d.mode (read_announcement (minimum_text n)) ≡ Mpv = ap (mode_after d.mode) (ap read_announcement (sym (append-nil (minimum_text n))) ∙ minimum_back n []) in
      ap (λ (k : Mode). record { mode = k; printed = d.printed }) e

  -- V: the mode stays
  pub level_carried : n < 1000000000 → next d (announced (level_text n)) ≡ d
  unfolding next mode_after mode_told
  level_carried h =
      let e : mode_after d.mode (read_announcement (level_text n)) ≡ d.mode = ap (mode_after d.mode) (ap read_announcement (sym (append-nil (level_text n))) ∙ level_back n [] h) in
      ap (λ (k : Mode). record { mode = k; printed = d.printed }) e

-- T: its security's last printed price
pub trade_carried : (d : Carried) (i : ℕ) (b : Bool) (price : ℕ) (c : Conditions) (v : Option ℕ) → next d (traded i b price c v) ≡ record { mode = d.mode; printed = set d.printed (i - 1) price }
unfolding next
trade_carried d i b price c v = refl
