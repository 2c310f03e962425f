-- The texts of a side and of the facts, in the form of the code's needs. Assumes nothing.
use Prim.Native.Nat.{ℕ, ◌+◌, ◌-◌, ◌^◌, ◌≤◌, ◌<◌}
use native.Mathlib.Omega.{arith}
use mathlib.Core.Path.{◌≡◌, refl, sym, ap, ◌∙◌}
use mathlib.Core.Bool.{Bool, true, false}
use mathlib.Core.List.{List, ◌++◌}
use lib.Dec.{leb}
use lib.ListN.{length, take, drop}
use borrow.Author.Tests.{leb-true, leb-false}
use Rattle.std.specs.Prelude.{Result, Ok, Err}
use Rattle.text.specs.Bytes.{bytes}
use Rattle.rules.specs.Price.{units}
use Rattle.rules.specs.Shown.{shown_letters, conditions_of}
use Rattle.rules.specs.declared.Letters.{Letters}
use Rattle.rules.specs.declared.Refusal.{Refusal}
use Rattle.rules.specs.declared.Side.{Side}
use Rattle.facts_side.specs.Sides.{conditions_with, full_text, part_text, volume_text}
use Rattle.reader.specs.declared.Print.TheVariants.{Announcement, Trade, Cancel, Error, Correction}
use Rattle.reader.specs.declared.PrintRead.{PrintRead}
use Rattle.reader.specs.declared.CorrectionRead.{CorrectionRead}
use Rattle.reader.specs.Read.{read_at}
use Rattle.reader.specs.Told.{length_of, name_at, part_in, fact_in}
use Rattle.reader.proofs.Bounds.{read_length, past_end}
use Rattle.reader.specs.declared.Print.{Print}
use Rattle.read_told.specs.Lines.{announcement_text, among_text, correction_text, fact_text, facts_text, line_text, print_line, told_line}

-- ---- a side, from its prices in units and its letters as they are shown

pub side_is : (x : Side) (p q : ℕ) (l : Letters) → p ≡ units x.price → q ≡ units x.previous → l ≡ shown_letters x.letters → part_text (part_in x) ≡ full_text p (conditions_with l x.days q) x.volume
unfolding part_text conditions_of
side_is x p q l e f g = rw (e, f, g)

-- ---- the facts

module _ (tape : List ℕ) (place : ℕ) (r : Result Print Refusal) (print : Print) (o : r ≡ Ok print) where
  pub facts_announced : (n : ℕ) → print ≡ Announcement n → facts_text (fact_in (drop place tape) r) ≡ announcement_text (take (place + n - place) (drop place tape))
  unfolding facts_text fact_in fact_text
  facts_announced n e = let m : place + n - place ≡ n = omega arith in rw (m, o, e)

  pub facts_trade : (x : PrintRead) → print ≡ Trade x → facts_text (fact_in (drop place tape) r) ≡ bytes "T " ++ part_text (part_in x.side)
  unfolding facts_text fact_in fact_text part_text full_text volume_text
  facts_trade x e = rw (o, e)

  pub facts_cancel : (x : PrintRead) → print ≡ Cancel x → facts_text (fact_in (drop place tape) r) ≡ among_text (bytes "X side(") (part_in x.side) (bytes ")")
  unfolding facts_text fact_in fact_text
  facts_cancel x e = rw (o, e)

  pub facts_error : (x : PrintRead) → print ≡ Error x → facts_text (fact_in (drop place tape) r) ≡ among_text (bytes "E side(") (part_in x.side) (bytes ")")
  unfolding facts_text fact_in fact_text
  facts_error x e = rw (o, e)

  pub facts_correction : (x : CorrectionRead) → print ≡ Correction x → facts_text (fact_in (drop place tape) r) ≡ correction_text (part_in x.original) (part_in x.correcting)
  unfolding facts_text fact_in fact_text
  facts_correction x e = rw (o, e)

pub facts_refused : (tape : List ℕ) (place : ℕ) (r : Result Print Refusal) (x : Refusal) → r ≡ Err x → facts_text (fact_in (drop place tape) r) ≡ bytes "-"
unfolding facts_text fact_in
facts_refused tape place r x e = rw e

pub ruleset told = (facts_announced, facts_trade, facts_cancel, facts_error, facts_correction, facts_refused)

-- ---- an announcement is within the tape

is_refused : Result Print Refusal → ℕ
is_refused (Ok print) = 0
is_refused (Err r) = 1

module _ (tape : List ℕ) (place : ℕ) (r : Result Print Refusal) (e : r ≡ read_at tape place) (print : Print) (o : r ≡ Ok print) (n : ℕ) (k : print ≡ Announcement n) where
  on_tape : length tape ≤ place → ⊥
  unfolding is_refused
  on_tape h = let q : ◌≡◌ {A = ℕ} 1 0 = ap is_refused (past_end tape place h ∙ sym e ∙ o) in omega (arith, q)

  pub announced_ends : place + n ≤ length tape
  unfolding length_of
  announced_ends = go (leb (length tape) place) refl
    where
      go : (b : Bool) → leb (length tape) place ≡ b → place + n ≤ length tape
      go true h = absurd (on_tape (leb-true (length tape) place h))
      go false h = read_length tape place r e n (sym (ap length_of (o ∙ ap Ok k))) (omega (arith, leb-false (length tape) place h))

  pub announced_begins : place ≤ length tape
  announced_begins = omega (arith, announced_ends)

  pub announced_fits : length tape < 2 ^ 64 → place + n < 2 ^ 64
  announced_fits h = omega (arith, announced_ends)

pub ruleset ends = (announced_ends, announced_begins, announced_fits)

-- ---- the line, from what a caller was answered

pub told_is : (part : List ℕ) (at place : ℕ) (r : Result Print Refusal) (n : ℕ) (name : List ℕ) → r ≡ read_at part at → n ≡ length_of r → name ≡ name_at part at → print_line place (drop at part) ≡ line_text place n name (facts_text (fact_in (drop at part) r))
unfolding print_line name_at read_at
told_is part at place r n name e k m = rw (k, m, e)

-- of a whole tape
pub tape_told : (tape : List ℕ) (place : ℕ) → told_line tape place ≡ print_line place (drop place tape)
unfolding told_line
tape_told tape place = refl
