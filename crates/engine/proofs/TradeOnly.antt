-- A call that prints a trade has a good T line and a date. Assumes nothing.
use Prim.Native.Nat.{ℕ, ◌-◌}
use native.Mathlib.Omega.{arith}
use mathlib.Core.Path.{◌≡◌, refl, sym, ap, ◌∙◌}
use mathlib.Core.Bool.{Bool, true, false, ◌&&◌, not}
use mathlib.Core.List.{List}
use lib.Dec.{eqb}
use borrow.Author.Tests.{eqb-true, eq-eqb, not-false}
use Rattle.text.specs.Pick.{pick}
use Rattle.text.proofs.Texts.{and_left}
use Rattle.rules.specs.Columns.{column}
use Rattle.rules.specs.Conditions.{on_network}
use Rattle.rules.specs.Line.{is_shaped, is_formed, is_ranged, line_of, name_columns, of_kind, trade_formed, trade_ranged, trade_of}
use Rattle.rules.specs.declared.Line.TheVariants.{Dated, Listed, Moded, Leveled, Stepped, Traded, Cancelled, Erred, Corrected}
use Rattle.rules.specs.declared.Mode.{Mode}
use Rattle.rules.specs.declared.Parsed.{Parsed}
use Rattle.rules.specs.declared.Trade.{Trade}
use Rattle.rules.specs.declared.Correction.{Correction}
use Rattle.rules.specs.declared.Listing.{Listing}
use Rattle.rules.specs.declared.Settings.{Settings}
use Rattle.rules.specs.declared.Security.{Security}
use Rattle.call_table.specs.Rows.{row}
use Rattle.line_trade.specs.TradeLine.{is_good}
use Rattle.rules.specs.declared.Refusal.TheVariants.{NoDate}
use Rattle.rules.proofs.ByKind.{by_kind}
use Rattle.call_plan.specs.declared.Plan.{Plan}
use Rattle.call_plan.specs.declared.Plan.TheVariants.{Stop}
use Rattle.call_plan.specs.Plan.{date_plan, listing_plan, unless_stopped, trade_plan, cancel_plan, correction_plan, line_plan, read_plan, plan_of}
use Rattle.call_print.specs.Print.{fitted_of}
use Rattle.engine.specs.Taken.{asked, is_trade}

pub of_trade : (line : List ℕ) → column 1 line ≡ 84 → of_kind (column 1 line) line ≡ record { formed = trade_formed line; ranged = trade_ranged line; line = Traded (trade_of line) }
unfolding of_kind pick
of_trade line e = ap (λ (k : ℕ). of_kind k line) e

-- ---- a choice whose first case is no trade

module _ (b : Bool) (p q : Plan) (none : is_trade p ≡ false) (h : is_trade (pick b p q) ≡ true) where
  never : b ≡ true → ⊥
  unfolding pick
  never e = let z : ◌≡◌ {A = Bool} true false = sym (rw e at h) ∙ none in let y : ◌≡◌ {A = ℕ} 0 1 = cc in omega (arith, y)

  off : b ≡ false
  off = go b refl
    where
      go : (c : Bool) → b ≡ c → b ≡ false
      go true e = absurd (never e)
      go false e = e

  other : is_trade q ≡ true
  unfolding pick
  other = rw off at h

no_case : (b : Bool) (p q : Plan) → is_trade p ≡ false → is_trade q ≡ false → is_trade (pick b p q) ≡ false
unfolding pick
no_case true p q h k = h
no_case false p q h k = k

-- ---- other kinds of line

module _ (st : Settings) (table names name : List ℕ) where
  date_none : (n : ℕ) → is_trade (date_plan st n) ≡ false
  unfolding date_plan is_trade
  date_none n = no_case _ _ _ refl refl

  listing_none : (l : Listing) → is_trade (listing_plan table names name l) ≡ false
  unfolding listing_plan is_trade
  listing_none l = no_case _ _ _ refl (no_case _ _ _ refl (no_case _ _ _ refl refl))

  cancel_none : (error : Bool) (s : Security) (t : Trade) → is_trade (cancel_plan error st s t) ≡ false
  unfolding cancel_plan unless_stopped is_trade
  cancel_none error s t = no_case _ _ _ refl (no_case _ _ _ refl (no_case _ _ _ refl refl))

  correction_none : (s : Security) (c : Correction) → is_trade (correction_plan st s c) ≡ false
  unfolding correction_plan unless_stopped is_trade
  correction_none s c = no_case _ _ _ refl (no_case _ _ _ refl (no_case _ _ _ refl refl))

  -- the kind of a line whose plan is a trade
  abbrev Only : ℕ → Parsed → Type 0
  Only k p = is_trade (line_plan st table names name p.line) ≡ true → eqb k 84 ≡ true

  not_both : (A : Type 0) (b : Bool) → b ≡ false → b ≡ true → A
  not_both A b h e = let z : ◌≡◌ {A = Bool} true false = sym e ∙ h in let y : ◌≡◌ {A = ℕ} 0 1 = cc in absurd (omega (arith, y))

  no_date : (n : ℕ) (A : Type 0) → is_trade (line_plan st table names name (Dated n)) ≡ true → A
  unfolding line_plan
  no_date n A e = not_both A _ (date_none n) e

  no_listing : (l : Listing) (A : Type 0) → is_trade (line_plan st table names name (Listed l)) ≡ true → A
  unfolding line_plan
  no_listing l A e = not_both A _ (listing_none l) e

  no_mode : (m : Mode) (A : Type 0) → is_trade (line_plan st table names name (Moded m)) ≡ true → A
  unfolding line_plan is_trade
  no_mode m A e = not_both A _ refl e

  no_level : (n : ℕ) (A : Type 0) → is_trade (line_plan st table names name (Leveled n)) ≡ true → A
  unfolding line_plan is_trade
  no_level n A e = not_both A _ refl e

  no_step : (n : ℕ) (A : Type 0) → is_trade (line_plan st table names name (Stepped n)) ≡ true → A
  unfolding line_plan is_trade
  no_step n A e = not_both A _ refl e

  no_cancel : (t : Trade) (A : Type 0) → is_trade (line_plan st table names name (Cancelled t)) ≡ true → A
  unfolding line_plan
  no_cancel t A e = not_both A _ (cancel_none false (row table (t.security - 1)) t) e

  no_error : (t : Trade) (A : Type 0) → is_trade (line_plan st table names name (Erred t)) ≡ true → A
  unfolding line_plan
  no_error t A e = not_both A _ (cancel_none true (row table (t.security - 1)) t) e

  no_correction : (c : Correction) (A : Type 0) → is_trade (line_plan st table names name (Corrected c)) ≡ true → A
  unfolding line_plan
  no_correction c A e = not_both A _ (correction_none (row table (c.security - 1)) c) e

  only_trade : (k : ℕ) (line : List ℕ) → Only k (of_kind k line)
  only_trade k line =
      by_kind (Only k) k line
      (λ b e. no_date _ _ e)
      (λ b e. no_listing _ _ e)
      (λ b e. no_mode _ _ e)
      (λ b e. no_level _ _ e)
      (λ b e. no_step _ _ e)
      (λ b e. b)
      (λ b e. no_cancel _ _ e)
      (λ b e. no_error _ _ e)
      (λ e. no_correction _ _ e)

-- ---- a line whose plan is a trade

module _ (st : Settings) (table names line : List ℕ) (h : is_trade (plan_of st table names line) ≡ true) where
  a_shape : is_shaped line ≡ true
  unfolding plan_of is_trade
  a_shape = not-false _ (off _ _ _ refl h)

  on_kind : is_trade (pick (not (eqb (column 1 line) 68) && eqb st.date 0) (Stop NoDate) (read_plan st table names line)) ≡ true
  unfolding plan_of is_trade
  on_kind = other _ _ _ refl (other _ _ _ refl h)

  on_read : is_trade (read_plan st table names line) ≡ true
  unfolding is_trade
  on_read = other _ _ _ refl on_kind

  no_early : (not (eqb (column 1 line) 68) && eqb st.date 0) ≡ false
  unfolding is_trade
  no_early = off _ _ _ refl on_kind

  a_form : is_formed line ≡ true
  unfolding read_plan is_trade
  a_form = not-false _ (off _ _ _ refl on_read)

  a_range : is_ranged line ≡ true
  unfolding read_plan is_trade
  a_range = not-false _ (off _ _ _ refl (other _ _ _ refl on_read))

  on_line : is_trade (line_plan st table names (name_columns line) (line_of line)) ≡ true
  unfolding read_plan is_trade
  on_line = other _ _ _ refl (other _ _ _ refl on_read)

  a_trade : column 1 line ≡ 84
  unfolding line_of
  a_trade = eqb-true (column 1 line) 84 (only_trade st table names (name_columns line) (column 1 line) line on_line)

  pub a_date : st.date ≡ 0 → ⊥
  a_date e =
      let k : (not (eqb (column 1 line) 68) && eqb st.date 0) ≡ true = rw (a_trade, eq-eqb st.date 0 e) in
      let z : ◌≡◌ {A = Bool} true false = sym k ∙ no_early in
      let y : ◌≡◌ {A = ℕ} 0 1 = cc in
      omega (arith, y)

  formed_is : is_formed line ≡ trade_formed line
  unfolding is_formed
  formed_is = ap (λ (q : Parsed). q.formed) (of_trade line a_trade)

  ranged_is : is_ranged line ≡ trade_ranged line
  unfolding is_ranged
  ranged_is = ap (λ (q : Parsed). q.ranged) (of_trade line a_trade)

  line_is : line_of line ≡ Traded (trade_of line)
  unfolding line_of
  line_is = ap (λ (q : Parsed). q.line) (of_trade line a_trade)

  abbrev t : Trade
  t = trade_of line

  abbrev s : Security
  s = row table (t.security - 1)

  on_trade : is_trade (trade_plan st s t) ≡ true
  unfolding line_plan
  on_trade = rw line_is at on_line

  a_law : (t.lawful && on_network s.issue.network t.side.letters) ≡ true
  unfolding trade_plan unless_stopped is_trade
  a_law = not-false _ (off _ _ _ refl (other _ _ _ refl on_trade))

  a_match : t.matched ≡ true
  unfolding trade_plan unless_stopped is_trade
  a_match = not-false _ (off _ _ _ refl (other _ _ _ refl (other _ _ _ refl on_trade)))

  pub a_good : is_good line ≡ true
  unfolding is_good
  a_good = rw (a_shape, eq-eqb (column 1 line) 84 a_trade, sym formed_is ∙ a_form, sym ranged_is ∙ a_range, and_left t.lawful _ a_law, a_match)

-- ---- and room

pub fitted_trade : (st : Settings) (table names line : List ℕ) (room : ℕ) → is_trade (asked st table names line room) ≡ true → is_trade (plan_of st table names line) ≡ true
unfolding asked fitted_of is_trade
fitted_trade st table names line room h = other _ _ _ refl h
