-- The engine's plan and the rules agree: the same refusal, the same print, and the tables hold the day after. Assumes nothing.
use Prim.Native.Nat.{ℕ, ◌-◌}
use native.Mathlib.Omega.{arith}
use mathlib.Core.Path.{◌≡◌, refl, sym, ap, ◌∙◌}
use mathlib.Core.Bool.{Bool, true, false, not}
use mathlib.Core.List.{List, []}
use mathlib.Core.Option.{Option, none, some}
use lib.Dec.{ltb}
use lib.ListN.{length}
use borrow.Author.Tests.{le-ltb, not-false}
use Rattle.text.specs.Pick.{pick, opt}
use Rattle.rules.specs.Names.{name_text}
use Rattle.rules.specs.Side.{side_text}
use Rattle.rules.specs.Trade.{prints_trade, trade_form, trade_shows, after_trade}
use Rattle.rules.specs.Correction.{correction_text, cancel_text, cancel_opening, error_opening, prints_correction, correction_form, correction_shows, cancel_form, cancel_shows, after_correction}
use Rattle.rules.specs.Line.{is_shaped, line_of, name_columns}
use Rattle.rules.specs.Refusal.{refuse, refusal_number}
use Rattle.rules.specs.Day as rules
use Rattle.rules.specs.Day.{Day, Call, cleared, security_at, name_at, is_entered, shows_temporary, entered, trade_print, cancel_print, correction_print, state_refusal, date_refusal, listing_refusal, trade_refusal, correction_refusal, undated, refusal_of, after_line, tape_of, after}
use Rattle.rules.specs.declared.Mode.{Mode}
use Rattle.rules.specs.declared.Listing.{Listing}
use Rattle.rules.specs.declared.Trade.{Trade}
use Rattle.rules.specs.declared.Correction.{Correction}
use Rattle.rules.specs.declared.Line.{Line}
use Rattle.rules.specs.declared.Line.TheVariants.{Dated, Listed, Moded, Leveled, Stepped, Traded, Cancelled, Erred, Corrected}
use Rattle.rules.specs.declared.Refusal.{Refusal}
use Rattle.rules.specs.declared.Refusal.TheVariants.{Shape, Kind, NoDate, Form, Value, NotEntered, InUse, Name, SameName, Conditions, Unmatched, DateOrder, Room}
use Rattle.rules.specs.declared.Settings.{Settings}
use Rattle.rules.specs.declared.Security.{Security}
use Rattle.rules.proofs.Fields.{name_length}
use Rattle.call_table.specs.Sizes.{table_size, names_size}
use Rattle.call_table.specs.Rows.{row, name_of, day_of}
use Rattle.call_table.proofs.Held.{held_security, held_name, security_set, name_set, held_cleared}
use Rattle.call_plan.specs.declared.Plan.{Plan}
use Rattle.call_plan.specs.declared.Plan.TheVariants.{Stop, Open, Enter, Change, Level, Step, Print, Cancel, Correct}
use Rattle.call_plan.specs.Plan.{date_plan, listing_plan, unless_stopped, is_lawful, are_lawful, print_plan, trade_plan, cancel_of, cancel_plan, correction_of, correction_plan, line_plan, read_plan, plan_of}
use Rattle.line_owed.specs.Owed.{OwedListing, OwedTrade, OwedCorrection, OwedLine}
use Rattle.line_owed.proofs.Owed.{owed_line}
use Rattle.call_plan.proofs.Read.{shaped}
use Rattle.call_print.specs.Print.{printed_name, print_text, cancelled, corrected, text_of, fitted_of, print_of}
use Rattle.engine.specs.Taken.{asked, outcome_of, stop_number}
use Rattle.call_state.specs.After.{settings_after, table_after, names_after}
use Rattle.claim_calls.specs.Held.{stop_of, day_after, outcome_by, ByRules}

settled : (st : Settings) (table names : List ℕ) → (day_of st table names).settings ≡ st
unfolding day_of
settled st table names = refl

-- a trade's print by what the day holds of its security
by_parts : (day : Day) (t : Trade) (st : Settings) (s : Security) (n : List ℕ) → day.settings ≡ st → security_at day t.security ≡ s → name_at day t.security ≡ n
    → opt (prints_trade st s t.market t.side) (side_text (name_text (shows_temporary s) n) s.issue.network s.issue.unit (trade_form st s t.market t.side) (trade_shows st s t.market t.side) t.side) ≡ trade_print day t
unfolding trade_print
by_parts day t st s n e f g = rw (← e, ← f, ← g)

-- and of a cancel, an error, a correction
cancel_parts : (opening : List ℕ) (day : Day) (t : Trade) (st : Settings) (s : Security) (n : List ℕ) → day.settings ≡ st → security_at day t.security ≡ s → name_at day t.security ≡ n
    → cancel_text opening (name_text false n) s.issue.network s.issue.unit (cancel_form st s t.side) (cancel_shows st t.side) t.side ≡ cancel_print opening day t
unfolding cancel_print
cancel_parts opening day t st s n e f g = rw (← e, ← f, ← g)

correction_parts : (day : Day) (c : Correction) (st : Settings) (s : Security) (n : List ℕ) → day.settings ≡ st → security_at day c.security ≡ s → name_at day c.security ≡ n
    → opt (prints_correction st s c.original c.correcting) (correction_text (name_text false n) s.issue.network s.issue.unit (correction_form st s c.original c.correcting) (correction_shows st c.original c.correcting) c.original c.correcting) ≡ correction_print day c
unfolding correction_print
correction_parts day c st s n e f g = rw (← e, ← f, ← g)

-- ---- refusal, print and day of a plan, held to the rules'

-- where nothing stops
unfoldable pub unless : Option Refusal → Type 0 → Type 0
unless (some r) A = Unit {0}
unless none A = A

module _ (st : Settings) (table names line : List ℕ) (room : ℕ) where
  abbrev Done : List ℕ → Day → Plan → Type 0
  Done text day p = (print_of st names p ≡ text) × (day_after st table names line p ≡ day)

  record Agrees (text : List ℕ) (day : Day) (o : Option Refusal) (p : Plan) : Type 0 where
    refusal_is : o ≡ stop_of (fitted_of st (printed_name names p) p room)
    done : unless (stop_of p) (Done text day p)

  -- a refusal is the same on both sides
  stops : (text : List ℕ) (day : Day) (r : Refusal) → Agrees text day (some r) (Stop r)
  unfolding stop_of fitted_of text_of pick unless
  stops text day r = record { refusal_is = rw (le-ltb room 0 (omega arith)); done = tt }

  -- the same test on both sides
  asks : (text : List ℕ) (day : Day) (b c : Bool) (o u : Option Refusal) (p q : Plan) → b ≡ c → (b ≡ true → Agrees text day o p) → (b ≡ false → Agrees text day u q) → Agrees text day (pick b o u) (pick c p q)
  unfolding pick
  asks text day b c o u p q e f g = rw (← e) (go b f g)
    where
      go : (b : Bool) → (b ≡ true → Agrees text day o p) → (b ≡ false → Agrees text day u q) → Agrees text day (pick b o u) (pick b p q)
      go true f g = f refl
      go false f g = g refl

  -- what nothing stops is asked for room last
  ends : (text : List ℕ) (day : Day) (p : Plan) → stop_of p ≡ none → print_of st names p ≡ text → day_after st table names line p ≡ day → Agrees text day (refuse (ltb room (length text)) Room none) p
  unfolding refuse fitted_of print_of pick stop_of unless
  ends text day p free print held =
      record {
        refusal_is = rw (← print) (go (ltb room (length (text_of st (printed_name names p) p))));
        done = rw free (print, held);
      }
    where
      go : (b : Bool) → pick b (some Room) none ≡ stop_of (pick b (Stop Room) p)
      go true = refl
      go false = sym free

  -- ---- each kind

  module _ (name : List ℕ) (columns : name ≡ name_columns line) (rows : length table ≡ table_size) (places : length names ≡ names_size) (long : length name ≡ 19) where
    abbrev day : Day
    day = day_of st table names

    -- what the rules say of a line, and what the plan says
    abbrev Same : Line → Type 0
    Same l = Agrees (rules.print_of day l) (after_line day name l) (state_refusal day name l (refuse (ltb room (length (rules.print_of day l))) Room none)) (line_plan st table names name l)

    same_date : (n : ℕ) → Same (Dated n)
    unfolding state_refusal date_refusal refuse line_plan date_plan rules.print_of after_line day_of stop_of print_of text_of printed_name day_after settings_after table_after names_after
    same_date n = asks _ _ _ _ _ _ _ _ refl (λ e. stops _ _ DateOrder) (λ e. ends [] (cleared n) (Open n) refl refl (held_cleared n))

    same_mode : (m : Mode) → Same (Moded m)
    unfolding state_refusal line_plan rules.print_of after_line day_of stop_of print_of text_of printed_name day_after settings_after table_after names_after
    same_mode m = ends _ _ (Change m) refl refl refl

    same_level : (n : ℕ) → Same (Leveled n)
    unfolding state_refusal line_plan rules.print_of after_line day_of stop_of print_of text_of printed_name day_after settings_after table_after names_after
    same_level n = ends _ _ (Level n) refl refl refl

    same_step : (n : ℕ) → Same (Stepped n)
    unfolding state_refusal line_plan rules.print_of after_line day_of stop_of print_of text_of printed_name day_after settings_after table_after names_after
    same_step n = ends _ _ (Step n) refl refl refl

    held_listing : (l : Listing) → OwedListing l → day_after st table names line (Enter (l.number - 1) (entered l)) ≡ after_line day name (Listed l)
    unfolding after_line day_of day_after settings_after table_after names_after
    held_listing l h = rw (← columns, security_set st table names l.number h.low h.high (entered l) rows, name_set st table names l.number h.low h.high name long places)

    same_listing : (l : Listing) → OwedListing l → Same (Listed l)
    unfolding state_refusal listing_refusal refuse line_plan listing_plan rules.print_of day_of stop_of print_of text_of printed_name
    same_listing l h =
        asks _ _ _ _ _ _ _ _ (ap is_entered (held_security st table names l.number h.low h.high)) (λ e. stops _ _ InUse) (λ e.
        asks _ _ _ _ _ _ _ _ refl (λ f. stops _ _ Name) (λ f.
        asks _ _ _ _ _ _ _ _ refl (λ g. stops _ _ SameName) (λ g. ends [] _ (Enter (l.number - 1) (entered l)) refl refl (held_listing l h))))

    -- the refusals of T, X, E and C
    unless_stopped_lem : (y s : Security) → y ≡ s → (lawful : Security → Bool) (matched : Bool) (text : List ℕ) (after : Day) (later : Option Refusal) (p : Plan) → Agrees text after later p
        → Agrees text after (refuse (not (is_entered y)) NotEntered (refuse (not (lawful y)) Conditions (refuse (not matched) Unmatched later))) (unless_stopped s (lawful s) matched p)
    unfolding refuse unless_stopped
    unless_stopped_lem y s e lawful matched text after later p a =
        asks _ _ _ _ _ _ _ _ (ap (λ (x : Security). not (is_entered x)) e) (λ f. stops _ _ NotEntered) (λ f.
        asks _ _ _ _ _ _ _ _ (ap (λ (x : Security). not (lawful x)) e) (λ g. stops _ _ Conditions) (λ g.
        asks _ _ _ _ _ _ _ _ refl (λ k. stops _ _ Unmatched) (λ k. a)))

    module _ (t : Trade) (h : OwedTrade t) where
      abbrev s : Security
      s = row table (t.security - 1)

      stands : security_at day t.security ≡ s
      stands = held_security st table names t.security h.low h.high

      trade_print_lem : print_of st names (Print (print_plan st s t)) ≡ trade_print day t
      unfolding print_of text_of printed_name print_text print_plan
      trade_print_lem = by_parts day t st s (name_of names (t.security - 1)) (settled st table names) stands (held_name st table names t.security h.low h.high)

      held_trade : day_after st table names line (Print (print_plan st s t)) ≡ after_line day name (Traded t)
      unfolding after_line day_of day_after settings_after table_after names_after print_plan
      held_trade = rw (security_set st table names t.security h.low h.high (after_trade st s t.market t.side) rows, stands)

      same_trade : Same (Traded t)
      unfolding state_refusal trade_refusal line_plan trade_plan rules.print_of stop_of
      same_trade = unless_stopped_lem _ s stands (λ y. is_lawful y t) t.matched (trade_print day t) _ _ _ (ends (trade_print day t) _ (Print (print_plan st s t)) refl trade_print_lem held_trade)

      cancel_print_lem : (error : Bool) → print_of st names (Cancel (cancel_of error st s t)) ≡ cancel_print (pick error error_opening cancel_opening) day t
      unfolding print_of text_of printed_name cancelled cancel_of
      cancel_print_lem error = cancel_parts (pick error error_opening cancel_opening) day t st s (name_of names (t.security - 1)) (settled st table names) stands (held_name st table names t.security h.low h.high)

      held_cancel : (error : Bool) → day_after st table names line (Cancel (cancel_of error st s t)) ≡ day
      unfolding day_after settings_after table_after names_after
      held_cancel error = refl

      same_cancel : Same (Cancelled t)
      unfolding state_refusal trade_refusal line_plan cancel_plan rules.print_of after_line stop_of pick
      same_cancel = unless_stopped_lem _ s stands (λ y. is_lawful y t) t.matched (cancel_print cancel_opening day t) _ _ _ (ends (cancel_print cancel_opening day t) _ (Cancel (cancel_of false st s t)) refl (cancel_print_lem false) (held_cancel false))

      same_error : Same (Erred t)
      unfolding state_refusal trade_refusal line_plan cancel_plan rules.print_of after_line stop_of pick
      same_error = unless_stopped_lem _ s stands (λ y. is_lawful y t) t.matched (cancel_print error_opening day t) _ _ _ (ends (cancel_print error_opening day t) _ (Cancel (cancel_of true st s t)) refl (cancel_print_lem true) (held_cancel true))

    module _ (c : Correction) (h : OwedCorrection c) where
      abbrev x : Security
      x = row table (c.security - 1)

      stands_corrected : security_at day c.security ≡ x
      stands_corrected = held_security st table names c.security h.low h.high

      correction_print_lem : print_of st names (Correct (correction_of st x c)) ≡ correction_print day c
      unfolding print_of text_of printed_name corrected correction_of
      correction_print_lem = correction_parts day c st x (name_of names (c.security - 1)) (settled st table names) stands_corrected (held_name st table names c.security h.low h.high)

      held_correction : day_after st table names line (Correct (correction_of st x c)) ≡ after_line day name (Corrected c)
      unfolding after_line day_of day_after settings_after table_after names_after correction_of
      held_correction = rw (security_set st table names c.security h.low h.high (after_correction x c.correcting) rows, stands_corrected)

      same_correction : Same (Corrected c)
      unfolding state_refusal correction_refusal line_plan correction_plan rules.print_of stop_of
      same_correction = unless_stopped_lem _ x stands_corrected (λ y. are_lawful y c) c.matched (correction_print day c) _ _ _ (ends (correction_print day c) _ (Correct (correction_of st x c)) refl correction_print_lem held_correction)

-- ---- every kind

same_line : (st : Settings) (table names line : List ℕ) (room : ℕ) (l : Line) → length table ≡ table_size → length names ≡ names_size → length (name_columns line) ≡ 19 → OwedLine l
    → Agrees st table names line room (rules.print_of (day_of st table names) l) (after_line (day_of st table names) (name_columns line) l) (state_refusal (day_of st table names) (name_columns line) l (refuse (ltb room (length (rules.print_of (day_of st table names) l))) Room none)) (line_plan st table names (name_columns line) l)
unfolding OwedLine
same_line st table names line room (Dated n) e f g h = same_date st table names line room (name_columns line) refl e f g n
same_line st table names line room (Listed l) e f g h = same_listing st table names line room (name_columns line) refl e f g l h
same_line st table names line room (Moded m) e f g h = same_mode st table names line room (name_columns line) refl e f g m
same_line st table names line room (Leveled n) e f g h = same_level st table names line room (name_columns line) refl e f g n
same_line st table names line room (Stepped n) e f g h = same_step st table names line room (name_columns line) refl e f g n
same_line st table names line room (Traded t) e f g h = same_trade st table names line room (name_columns line) refl e f g t h
same_line st table names line room (Cancelled t) e f g h = same_cancel st table names line room (name_columns line) refl e f g t h
same_line st table names line room (Erred t) e f g h = same_error st table names line room (name_columns line) refl e f g t h
same_line st table names line room (Corrected c) e f g h = same_correction st table names line room (name_columns line) refl e f g c h

outcome_by_lem : (p : Plan) (n : ℕ) → outcome_of p n ≡ outcome_by (stop_of p) n
unfolding outcome_of outcome_by stop_of
outcome_by_lem (Stop r) n = refl
outcome_by_lem (Open d) n = refl
outcome_by_lem (Enter i s) n = refl
outcome_by_lem (Change m) n = refl
outcome_by_lem (Level l) n = refl
outcome_by_lem (Step l) n = refl
outcome_by_lem (Print t) n = refl
outcome_by_lem (Cancel t) n = refl
outcome_by_lem (Correct c) n = refl

stop_number_lem : (p : Plan) → stop_number p ≡ refusal_number (stop_of p)
unfolding stop_number refusal_number stop_of
stop_number_lem (Stop r) = refl
stop_number_lem (Open d) = refl
stop_number_lem (Enter i s) = refl
stop_number_lem (Change m) = refl
stop_number_lem (Level l) = refl
stop_number_lem (Step l) = refl
stop_number_lem (Print t) = refl
stop_number_lem (Cancel t) = refl
stop_number_lem (Correct c) = refl

-- ---- any line

module _ (st : Settings) (table names line : List ℕ) (room : ℕ) (rows : length table ≡ table_size) (places : length names ≡ names_size) where
  agrees : Agrees st table names line room (rules.print_of (day_of st table names) (line_of line)) (after_line (day_of st table names) (name_columns line) (line_of line)) (refusal_of (day_of st table names) line room) (plan_of st table names line)
  unfolding refusal_of refuse undated plan_of read_plan day_of
  agrees =
      asks st table names line room _ _ _ _ _ _ _ _ refl (λ e. stops st table names line room _ _ Shape) (λ e.
      asks st table names line room _ _ _ _ _ _ _ _ refl (λ f. stops st table names line room _ _ Kind) (λ f.
      asks st table names line room _ _ _ _ _ _ _ _ refl (λ g. stops st table names line room _ _ NoDate) (λ g.
      asks st table names line room _ _ _ _ _ _ _ _ refl (λ h. stops st table names line room _ _ Form) (λ h.
      asks st table names line room _ _ _ _ _ _ _ _ refl (λ i. stops st table names line room _ _ Value) (λ i.
      same_line st table names line room (line_of line) rows places (name_length line (shaped line (is_shaped line) refl e)) (owed_line line (not-false _ i)))))))

  abbrev call : Call
  call = record { line = line; room = room }

  -- what the call prints and leaves, by its refusal
  abbrev Ended : Plan → Option Refusal → Type 0
  Ended q o =
      (elim o [ some r ↦ [] | none ↦ rules.print_of (day_of st table names) (line_of line) ] ≡ print_of st names q)
      × (elim o [ some r ↦ day_of st table names | none ↦ after_line (day_of st table names) (name_columns line) (line_of line) ] ≡ day_after st table names line q)

  ended : (p : Plan) → unless (stop_of p) (Done st table names line room (rules.print_of (day_of st table names) (line_of line)) (after_line (day_of st table names) (name_columns line) (line_of line)) p) → Ended p (stop_of p)
  unfolding stop_of unless print_of text_of printed_name day_after settings_after table_after names_after
  ended (Stop r) h = (refl, refl)
  ended (Open n) h = (sym h.0, sym h.1)
  ended (Enter i s) h = (sym h.0, sym h.1)
  ended (Change m) h = (sym h.0, sym h.1)
  ended (Level n) h = (sym h.0, sym h.1)
  ended (Step n) h = (sym h.0, sym h.1)
  ended (Print t) h = (sym h.0, sym h.1)
  ended (Cancel t) h = (sym h.0, sym h.1)
  ended (Correct c) h = (sym h.0, sym h.1)

  -- room or not
  fitted_ended : (p : Plan) → Ended p (stop_of p) → Ended (fitted_of st (printed_name names p) p room) (stop_of (fitted_of st (printed_name names p) p room))
  unfolding fitted_of pick stop_of print_of text_of printed_name day_after settings_after table_after names_after
  fitted_ended p h = go (ltb room (length (text_of st (printed_name names p) p)))
    where
      go : (b : Bool) → Ended (pick b (Stop Room) p) (stop_of (pick b (Stop Room) p))
      go true = (refl, refl)
      go false = h

  pub by_rules : ByRules st table names line room
  unfolding asked tape_of after
  by_rules =
      let p = plan_of st table names line in
      let e = fitted_ended p (ended p agrees.done) in
      let printed = ap (λ (o : Option Refusal). elim o [ some r ↦ [] | none ↦ rules.print_of (day_of st table names) (line_of line) ]) agrees.refusal_is ∙ e.0 in
      record {
        outcome_is = outcome_by_lem (asked st table names line room) _ ∙ (ap (outcome_by (stop_of (asked st table names line room))) (ap length (sym printed)) ∙ ap (λ (o : Option Refusal). outcome_by o (length (tape_of (day_of st table names) call))) (sym agrees.refusal_is));
        refusal_is = agrees.refusal_is;
        number_is = stop_number_lem (asked st table names line room) ∙ ap refusal_number (sym agrees.refusal_is);
        print_is = printed;
        day_is = ap (λ (o : Option Refusal). elim o [ some r ↦ day_of st table names | none ↦ after_line (day_of st table names) (name_columns line) (line_of line) ]) agrees.refusal_is ∙ e.1;
      }
