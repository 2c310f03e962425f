-- One line that is told on standard output alone. Assumes nothing.
use Prim.Native.Nat.{ℕ, ◌+◌, ◌-◌, ◌^◌, ◌≤◌, ◌<◌}
use native.Mathlib.Omega.{arith}
use mathlib.Core.Path.{◌≡◌, ap, ◌∙◌}
use mathlib.Core.List.{List, [], ◌++◌, append-nil}
use lib.ListN.{length, take, drop, length-take, length-drop}
use mir.Val.{Fits}
use mir.Syntax.{w64}
use Rattle.text.proofs.Writing.{then, named}
use Rattle.rules.specs.Day.{Call}
use Rattle.rules.specs.declared.Settings.{Settings}
use Rattle.engine.specs.Taken.{asked}
use Rattle.feed_gather.specs.Gather.{Program, call_of, carried, line_taken, Tells, Steps}
use Rattle.feed_gather.specs.declared.Fed.{Fed}
use Rattle.feed_gather.specs.declared.Told.{Told}
use Rattle.feed_gather.proofs.Blocks.{out_length}

-- the sum of the bytes that are told fits
pub told_adds : (g : Program) (st : Settings) (table names : List ℕ) (number : ℕ) (line out table' names' ys : List ℕ) (t : Told) (at : ℕ) → Tells g st table names number line (take (length out - at) (drop at out)) table' names' ys t
    → at ≤ length out → length out < 2 ^ 64 → Fits w64 (at + t.count)
told_adds g st table names number line out table' names' ys t at w l h = record { fits = omega (arith, w.out_is.within, length-take (length out - at) (drop at out), length-drop at out) }

-- the line from where the reading stands
module _ (g : Program) (quiet : (st : Settings) (table names : List ℕ) (number : ℕ) (c : Call) → g.err st table names number c ≡ []) (f : Fed) (block table names out err table' names' ys : List ℕ) (t : Told) (end : ℕ) where
  pub line_told : Tells g f.settings table names f.number (take (end - f.at) (drop f.at block)) (take (length out - f.out) (drop f.out out)) table' names' ys t
      → f.at ≤ end → end ≤ length block
      → Steps g (take (end - f.at) (drop f.at block)) table names out err f table' names'
      (take f.out out ++ (ys ++ drop (length out - f.out) (drop f.out out)))
      err
      (record { settings = t.settings; number = f.number + 1; at = end + 1; out = f.out + t.count; err = f.err })
  unfolding line_taken carried
  line_told w l m out₀ err₀ p s =
      let line : List ℕ = take (end - f.at) (drop f.at block) in
      let e : end ≡ f.at + length line = omega (arith, length-take (end - f.at) (drop f.at block), length-drop f.at block) in
      let lent : List ℕ = take (length out - f.out) (drop f.out out) in
      let room : length lent ≡ length out₀ - length p.out = simp (length-take, length-drop) (omega (arith, s.out_is.count_is, out_length s)) in
      let c : Call = call_of g (length out₀) line p in
      let is : asked f.settings table names line (g.lent (length lent)) ≡ asked p.settings p.table p.names line (g.lent (length out₀ - length p.out)) = cc in
      let text : g.out p.settings p.table p.names p.number c ≡ g.out f.settings table names f.number (record { line = line; room = g.lent (length lent) }) = cc in
      record {
        settings_is = w.settings_is ∙ (cc);
        number_is = cc;
        at_is = cc;
        table_is = w.table_is ∙ (cc);
        names_is = w.names_is ∙ (cc);
        out_is = named (ap (λ (x : List ℕ). p.out ++ x) text) (then s.out_is w.out_is);
        err_is = named (ap (λ (x : List ℕ). p.err ++ x) (quiet p.settings p.table p.names p.number c) ∙ append-nil p.err) s.err_is;
      }
