-- What each case of an entry writes, in the form of the code's needs. Assumes nothing.
use Prim.Native.Nat.{ℕ}
use mathlib.Core.Path.{◌≡◌}
use mathlib.Core.List.{List, []}
use Rattle.text.specs.Bytes.{bytes}
use Rattle.facts_entry.specs.Entry.{conditions_in, part_in, volume_in, fact_in}
use Rattle.facts_entry.specs.declared.Conditions.{Conditions}
use Rattle.facts_entry.specs.declared.Part.{Part}
use Rattle.facts_entry.specs.declared.Part.TheVariants.{Full, Bare}
use Rattle.std.specs.Prelude.{Option, Some, None}
use Rattle.facts_entry.specs.declared.TradeEntry.{TradeEntry}
use Rattle.facts_entry.specs.declared.Entry.{Entry}
use Rattle.facts_entry.specs.declared.Entry.TheVariants.{Silent, Announced, Traded, Cancelled, Erred, Corrected}
use Rattle.text.specs.Decimal.{decimal}
use Rattle.facts_side.specs.Sides.{conditions_with, conditions_text, full_text, part_text, volume_text}
use Rattle.facts_line.specs.Lines.{trade_text, amended_text, correction_text, announced_text, fact_line, line_of}

-- ---- a side, a volume

module _ (x : Part) where
  pub part_full : (price : ℕ) (c : Conditions) (volume : ℕ) → x ≡ Full price c volume → part_text (part_in x) ≡ full_text price (conditions_with c.letters c.days c.previous) volume
  unfolding part_text part_in conditions_in
  part_full price c volume e = rw e

  pub part_bare : (c : Conditions) → x ≡ Bare c → part_text (part_in x) ≡ conditions_text (conditions_with c.letters c.days c.previous)
  unfolding part_text part_in conditions_in
  part_bare c e = rw e

module _ (v : Option ℕ) where
  pub volume_shown : (n : ℕ) → v ≡ Some n → volume_text (volume_in v) ≡ decimal n
  unfolding volume_text volume_in
  volume_shown n e = rw e

  pub volume_hidden : v ≡ None → volume_text (volume_in v) ≡ bytes "-"
  unfolding volume_text volume_in
  volume_hidden e = rw e

pub ruleset parts = (part_full, part_bare, volume_shown, volume_hidden)

-- ---- a line

module _ (text : List ℕ) (e : Entry) where
  pub line_silent : e ≡ Silent → line_of (fact_in text e) ≡ []
  unfolding line_of fact_in
  line_silent h = rw h

  pub line_announced : e ≡ Announced → line_of (fact_in text e) ≡ announced_text text
  unfolding line_of fact_in fact_line
  line_announced h = rw h

  pub line_traded : (t : TradeEntry) → e ≡ Traded t → line_of (fact_in text e) ≡ trade_text t.security t.temporary t.price (conditions_in t.conditions) (volume_in t.volume)
  unfolding line_of fact_in fact_line
  line_traded t h = rw h

  pub line_cancelled : (i : ℕ) (x : Part) → e ≡ Cancelled i x → line_of (fact_in text e) ≡ amended_text (bytes "X sec=") i (part_in x)
  unfolding line_of fact_in fact_line
  line_cancelled i x h = rw h

  pub line_erred : (i : ℕ) (x : Part) → e ≡ Erred i x → line_of (fact_in text e) ≡ amended_text (bytes "E sec=") i (part_in x)
  unfolding line_of fact_in fact_line
  line_erred i x h = rw h

  pub line_corrected : (i : ℕ) (x y : Part) → e ≡ Corrected i x y → line_of (fact_in text e) ≡ correction_text i (part_in x) (part_in y)
  unfolding line_of fact_in fact_line
  line_corrected i x y h = rw h

pub ruleset lines = (line_silent, line_announced, line_traded, line_cancelled, line_erred, line_corrected)
