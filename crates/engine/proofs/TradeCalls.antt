-- The call of a T line, put together. Assumes nothing.
use Prim.Native.Nat.{ℕ, ◌-◌, ◌≤◌, ◌<◌}
use native.Mathlib.Omega.{arith}
use mathlib.Core.Path.{◌≡◌, refl, sym, ap, ◌∙◌}
use mathlib.Core.Bool.{Bool, true, false, ◌&&◌, not}
use mathlib.Core.List.{List}
use Rattle.std.specs.Prelude.{Option, Some, None, Ok, is_some, IfSome}
use Rattle.std.proofs.lemmas.Option.{IfSome_then}
use lib.Dec.{eqb, leb, ltb}
use lib.ListN.{length}
use borrow.Author.Tests.{le-ltb, lt-ltb, ne_eqb, leb-true, leb-false}
use Rattle.text.specs.Put.{put, Written}
use Rattle.text.specs.Pick.{pick, among}
use Rattle.text.proofs.Texts.{and_left}
use Rattle.text.proofs.Booleans.{and_false}
use Rattle.rules.specs.Columns.{column}
use Rattle.rules.specs.Conditions.{on_network}
use Rattle.rules.specs.Day.{is_entered}
use Rattle.rules.specs.Trade.{after_trade}
use Rattle.rules.specs.Line.{is_shaped, is_kind, is_formed, is_ranged, line_of, first_side, trade_of}
use Rattle.rules.specs.declared.Line.TheVariants.{Traded}
use Rattle.rules.specs.declared.Parsed.{Parsed}
use Rattle.rules.specs.declared.Trade.{Trade}
use Rattle.rules.specs.declared.Settings.{Settings}
use Rattle.rules.specs.declared.Security.{Security}
use Rattle.rules.specs.declared.Refusal.{Refusal}
use Rattle.rules.specs.declared.Refusal.TheVariants.{NotEntered, Conditions, Room}
use Rattle.rules.specs.Sizes.{width}
use Rattle.engine.proofs.Numbers.{taken_as}
use Rattle.call_table.specs.Rows.{row, with_row, name_of}
use Rattle.line_owed.specs.Owed.{OwedTrade, SideColumns}
use Rattle.line_owed.proofs.Owed.{long, trade_owed, trade_stands}
use Rattle.line_trade.specs.declared.TradeLine.{TradeLine}
use Rattle.line_trade.specs.TradeLine.{trade_line, side_in}
use Rattle.line_trade.proofs.Lines.{good_no, good_shaped, good_kind, good_formed, good_ranged, good_trade}
use Rattle.call_trade.specs.Traded.{trade_text, Carried}
use Rattle.call_plan.specs.declared.TradePlan.{TradePlan}
use Rattle.call_plan.specs.declared.Plan.{Plan}
use Rattle.call_plan.specs.declared.Plan.TheVariants.{Stop, Print}
use Rattle.call_plan.specs.Plan.{print_plan, unless_stopped, trade_plan, line_plan, read_plan, plan_of}
use Rattle.call_print.specs.Print.{printed_name, print_text, text_of, fitted_of, print_of}
use Rattle.call_print.proofs.Sound.{has_unit}
use Rattle.call_state.specs.After.{settings_after, table_after, names_after}
use Rattle.engine.specs.declared.Answer.{Answer}
use Rattle.engine.specs.Calls.{GoodCall}
use Rattle.engine.specs.Taken.{asked, outcome_of, is_trade, Taken, TradeTaken}
use Rattle.engine.proofs.TradeOnly.{of_trade, a_date, a_good, fitted_trade}

-- ---- a plan that may be too long

stop_either : (b : Bool) (x y : Refusal) → is_trade (pick b (Stop x) (Stop y)) ≡ false
unfolding pick is_trade
stop_either true x y = refl
stop_either false x y = refl

print_if : (n room : ℕ) (p : TradePlan) (b : Bool) → leb n room ≡ b → is_trade (pick (ltb room n) (Stop Room) (Print p)) ≡ leb n room
unfolding pick is_trade
print_if n room p true k = rw (k, le-ltb room n (leb-true n room k))
print_if n room p false k = rw (k, lt-ltb room n (leb-false n room k))

-- ---- no trade: nothing is done

module _ (st : Settings) (table names line tape : List ℕ) where
  no_trade : is_trade (asked st table names line (length tape)) ≡ false → TradeTaken st table names line tape table tape None
  no_trade h = record {
    accepts = sym h;
    shaped = λ y. absurd (let z : ◌≡◌ {A = ℕ} 0 1 = cc in omega (arith, z));
    taken_is = tt;
    table_same = λ y. refl;
    tape_same = λ y. refl;
  }

  unless : (is_trade (asked st table names line (length tape)) ≡ true → ⊥) → TradeTaken st table names line tape table tape None
  unless f = no_trade (go (is_trade (asked st table names line (length tape))) refl)
    where
      go : (b : Bool) → is_trade (asked st table names line (length tape)) ≡ b → b ≡ false
      go true e = absurd (f e)
      go false e = refl

  pub undated : st.date ≡ 0 → TradeTaken st table names line tape table tape None
  undated e = unless (λ h. a_date st table names line (fitted_trade st table names line (length tape) h) e)

  pub no_good : None ≡ trade_line line → TradeTaken st table names line tape table tape None
  no_good e = unless (λ h. let z : ◌≡◌ {A = Bool} true false = sym (a_good st table names line (fitted_trade st table names line (length tape) h)) ∙ good_no line e in let y : ◌≡◌ {A = ℕ} 0 1 = cc in omega (arith, y))

-- ---- a good T line

module _ (st : Settings) (line : List ℕ) (t : TradeLine) (h : GoodCall st line t) where
  abbrev trade : Trade
  trade = record { security = t.security; market = t.market; side = side_in t; lawful = true; matched = true }

  trade_is : trade_of line ≡ trade
  trade_is = good_trade line t h.read

  sound : OwedTrade trade
  sound = rw trade_is at (trade_owed line (good_ranged line t h.read))

  pub some_place : 1 ≤ t.security
  some_place = sound.low

  pub place_in : t.security - 1 < 512
  place_in = omega (arith, sound.low, sound.high)

  is_shaped_lem : is_shaped line ≡ true
  is_shaped_lem = good_shaped line t h.read

  pub line_length : length line ≡ width
  line_length = long line is_shaped_lem

  pub line_room : 52 ≤ length line
  line_room = omega (arith, line_length)

  pub side_stands : SideColumns (first_side line) (side_in t)
  side_stands = rw trade_is at (trade_stands line line_length (good_formed line t h.read) (good_ranged line t h.read))

  module _ (table names : List ℕ) where
    kind : column 1 line ≡ 84
    kind = good_kind line t h.read

    a_kind : is_kind (column 1 line) ≡ true
    unfolding is_kind among
    a_kind = ap is_kind kind

    not_early : (not (eqb (column 1 line) 68) && eqb st.date 0) ≡ false
    not_early = rw (ne_eqb st.date 0 h.dated) (and_false (not (eqb (column 1 line) 68)))

    formed_is : is_formed line ≡ true
    unfolding is_formed
    formed_is = ap (λ (q : Parsed). q.formed) (of_trade line kind) ∙ good_formed line t h.read

    ranged_is : is_ranged line ≡ true
    unfolding is_ranged
    ranged_is = ap (λ (q : Parsed). q.ranged) (of_trade line kind) ∙ good_ranged line t h.read

    line_is : line_of line ≡ Traded trade
    unfolding line_of
    line_is = ap (λ (q : Parsed). q.line) (of_trade line kind) ∙ ap Traded trade_is

    plan_is : plan_of st table names line ≡ trade_plan st (row table (t.security - 1)) trade
    unfolding plan_of read_plan line_plan pick
    plan_is = rw (is_shaped_lem, a_kind, not_early, formed_is, ranged_is, line_is)

    module _ (s : Security) (loaded : s ≡ row table (t.security - 1)) where
      through : plan_of st table names line ≡ trade_plan st s trade
      through = rw loaded plan_is

      stops : (x : Refusal) (room : ℕ) → plan_of st table names line ≡ Stop x → is_trade (asked st table names line room) ≡ false
      unfolding asked fitted_of
      stops x room e = rw e (stop_either (ltb room (length (text_of st (printed_name names (Stop x)) (Stop x)))) Room x)

      pub not_entered : (tape : List ℕ) (q : Bool) → q ≡ is_entered s → not q ≡ true → TradeTaken st table names line tape table tape None
      unfolding trade_plan unless_stopped pick
      not_entered tape q e n = no_trade st table names line tape (stops NotEntered (length tape) (through ∙ rw (← e, n)))

      -- ---- of an entered security

      module _ (q : Bool) (told : q ≡ is_entered s) (entered : not q ≡ false) where
        pub some_unit : 1 ≤ s.issue.unit
        some_unit = has_unit s (ap not (sym told) ∙ entered)

        on_plan : on_network s.issue.network t.letters ≡ true → plan_of st table names line ≡ Print (print_plan st s trade)
        unfolding trade_plan unless_stopped pick
        on_plan n = through ∙ rw (← told, entered, n)

        off_plan : on_network s.issue.network t.letters ≡ false → plan_of st table names line ≡ Stop Conditions
        unfolding trade_plan unless_stopped pick
        off_plan n = through ∙ rw (← told, entered, n)

        abbrev plan : TradePlan
        plan = print_plan st s trade

        abbrev text : List ℕ
        text = trade_text st s (name_of names (t.security - 1)) t.market (side_in t)

        text_is : print_of st names (Print plan) ≡ text
        unfolding print_of text_of printed_name print_text print_plan trade_text
        text_is = refl

        fits_is : (room : ℕ) → plan_of st table names line ≡ Print plan → is_trade (asked st table names line room) ≡ leb (length text) room
        unfolding asked fitted_of print_of
        fits_is room e = rw e (ap (λ (l : List ℕ). is_trade (pick (ltb room (length l)) (Stop Room) (Print plan))) text_is ∙ print_if (length text) room plan (leb (length text) room) refl)

        accepts_is : (room : ℕ) → is_trade (asked st table names line room) ≡ (on_network s.issue.network t.letters && leb (length text) room)
        accepts_is room = go (on_network s.issue.network t.letters) refl
          where
            go : (b : Bool) → on_network s.issue.network t.letters ≡ b → is_trade (asked st table names line room) ≡ (b && leb (length text) room)
            go true n = fits_is room (on_plan n)
            go false n = stops Conditions room (off_plan n)

        module _ (tape table' tape' : List ℕ) (k : ℕ) (n : on_network s.issue.network t.letters ≡ true) (e : table' ≡ with_row table (t.security - 1) (after_trade st s t.market (side_in t))) (w : Written text tape tape' k) where
          fits : length (print_of st names (Print plan)) ≤ length tape
          fits = omega (arith, ap length text_is, w.count_is, w.within)

          asked_is : asked st table names line (length tape) ≡ Print plan
          unfolding asked fitted_of print_of pick
          asked_is = rw (on_plan n, le-ltb (length tape) (length (print_of st names (Print plan))) fits)

          outcome_is : (m : ℕ) → Ok m ≡ outcome_of (Print plan) m
          unfolding outcome_of
          outcome_is m = refl

          settings_is : st ≡ settings_after st (Print plan)
          unfolding settings_after
          settings_is = refl

          table_is : with_row table (t.security - 1) (after_trade st s t.market (side_in t)) ≡ table_after table (Print plan)
          unfolding table_after print_plan
          table_is = refl

          names_is : names ≡ names_after names line (Print plan)
          unfolding names_after
          names_is = refl

          taken : Taken st table names line tape table' names tape' (record { outcome = Ok k; settings = st })
          taken =
              let is = sym asked_is in
              taken_as st table names line tape table' names tape' (record { outcome = Ok k; settings = st })
              (ap Ok (w.count_is ∙ ap length (sym text_is)) ∙ (outcome_is (length (print_of st names (Print plan))) ∙ ap (λ (q : Plan). outcome_of q (length (print_of st names q))) is))
              (settings_is ∙ ap (settings_after st) is)
              (e ∙ (table_is ∙ ap (table_after table) is))
              (names_is ∙ ap (names_after names line) is)
              (w.tape ∙ (ap (λ (z : List ℕ). put z tape) (sym text_is) ∙ ap (λ (q : Plan). put (print_of st names q) tape) is))

        done : (tape table' tape' : List ℕ) (r : Option ℕ) → Carried st s (name_of names (t.security - 1)) (t.security - 1) t.market (side_in t) table tape table' tape' r
            → is_some r ≡ true → IfSome r (λ k. Taken st table names line tape table' names tape' (record { outcome = Ok k; settings = st }))
        done tape table' tape' r c y = IfSome_then r c.printed (λ k w. taken tape table' tape' k (and_left (on_network s.issue.network t.letters) _ (sym c.taken_is ∙ y)) (c.stored y) w)

        -- what is taken, if anything is
        taken_if : (tape table' tape' : List ℕ) (r : Option ℕ) → (is_some r ≡ true → IfSome r (λ k. Taken st table names line tape table' names tape' (record { outcome = Ok k; settings = st })))
            → IfSome r (λ k. Taken st table names line tape table' names tape' (record { outcome = Ok k; settings = st }))
        taken_if tape table' tape' None f = tt
        taken_if tape table' tape' (Some k) f = f refl

        pub carried : (tape table' tape' : List ℕ) (r : Option ℕ) → Carried st s (name_of names (t.security - 1)) (t.security - 1) t.market (side_in t) table tape table' tape' r → TradeTaken st table names line tape table' tape' r
        carried tape table' tape' r c = record {
          accepts = c.taken_is ∙ sym (accepts_is (length tape));
          shaped = λ y. is_shaped_lem;
          taken_is = taken_if tape table' tape' r (done tape table' tape' r c);
          table_same = c.untouched;
          tape_same = c.unprinted;
        }

-- ---- a line that was asked for a trade

module _ (st : Settings) (table names line tape table₁ tape₁ : List ℕ) where
  -- goes on as if it had not been
  pub trade_passed : TradeTaken st table names line tape table₁ tape₁ None → (table' names' tape' : List ℕ) (a : Answer) → Taken st table₁ names line tape₁ table' names' tape' a → Taken st table names line tape table' names' tape' a
  trade_passed h table' names' tape' a t = rw (← h.table_same refl, ← h.tape_same refl) t
