-- The fact of a line's plan is the one that the rules show. Assumes nothing.
use Prim.Native.Nat.{ℕ, ◌+◌, ◌-◌, ◌≤◌}
use native.Mathlib.Omega.{arith}
use mathlib.Core.Path.{◌≡◌, refl, sym, ap, ◌∙◌}
use mathlib.Core.Bool.{Bool, true, false, ◌&&◌, ◌||◌, not}
use mathlib.Core.List.{List, [], ◌∷◌}
use mathlib.Core.Option.{Option, none, some}
use lib.ListN.{length}
use borrow.Author.Tests.{not-false}
use Rattle.text.specs.Pick.{pick, same}
use Rattle.text.proofs.Texts.{and_left, and_right}
use Rattle.rules.specs.Names.{has_temporary}
use Rattle.rules.specs.Volume.{volume_text}
use Rattle.rules.specs.Price.{units}
use Rattle.rules.specs.Conditions.{on_network}
use Rattle.rules.specs.Line.{line_of, name_columns}
use Rattle.rules.specs.Trade.{is_normal, prints_trade, trade_shows}
use Rattle.rules.specs.Announcement.{mode_text, level_text, step_text}
use Rattle.rules.specs.Correction.{prints_correction}
use Rattle.rules.specs.Day as rules
use Rattle.rules.specs.Day.{Day, security_at, name_at, shows_temporary, tape_of}
use Rattle.rules.specs.Shown.{Fact, traded, corrected, conditions_of, part_of, shown_volume, trade_fact, announced_if, fact_of, shown_by}
use Rattle.rules.specs.declared.Listing.{Listing}
use Rattle.rules.specs.declared.Trade.{Trade}
use Rattle.rules.specs.declared.Correction.{Correction}
use Rattle.rules.specs.declared.Line.{Line}
use Rattle.rules.specs.declared.Line.TheVariants.{Dated, Listed, Moded, Leveled, Stepped, Traded, Cancelled, Erred, Corrected}
use Rattle.rules.specs.declared.Refusal.{Refusal}
use Rattle.rules.specs.declared.Settings.{Settings}
use Rattle.rules.specs.declared.Side.{Side}
use Rattle.rules.specs.declared.Security.{Security}
use Rattle.facts_entry.proofs.Back.{entry_back}
use Rattle.call_table.specs.Sizes.{table_size, names_size}
use Rattle.print_price.proofs.Texts.{units_small}
use Rattle.call_table.specs.Rows.{row, name_of, day_of}
use Rattle.call_table.proofs.Held.{held_security, held_name}
use Rattle.call_plan.specs.declared.Plan.{Plan}
use Rattle.call_plan.specs.declared.Plan.TheVariants.{Stop, Open, Enter, Change, Level, Step, Print, Cancel, Correct}
use Rattle.call_plan.specs.Plan.{date_plan, listing_plan, unless_stopped, is_lawful, print_plan, trade_plan, cancel_of, cancel_plan, correction_of, correction_plan, line_plan, read_plan, plan_of}
use Rattle.line_owed.specs.Shown.{Showable, shown_side}
use Rattle.line_owed.specs.Owed.{OwedTrade, OwedCorrection, OwedLine}
use Rattle.line_owed.proofs.Shown.{previous_sound, shown_owed}
use Rattle.line_owed.proofs.Owed.{owed_line}
use Rattle.call_print.specs.Print.{fitted_of, print_of}
use Rattle.call_print.proofs.Sound.{has_unit}
use Rattle.engine.specs.Taken.{asked}
use Rattle.claim_calls.specs.Held.{stop_of}
use Rattle.claim_calls.proofs.Agree.{by_rules, unless}
use Rattle.facts_side.specs.Sound.{SoundSide}
use Rattle.facts_entry.specs.Entry.{fact_in, shows_shares, volume_of, plan_fact, SoundFact, entry_of}
use Rattle.facts_entry.specs.Short.{ShortConditions, ShortPart, ShortVolume, ShortFact, ShortShown}
use Rattle.facts_entry.specs.declared.Entry.{Entry}

-- a side that nothing stops has numbers within their values
side_sound : (network : ℕ) (x : Side) → Showable network (shown_side x) → SoundSide x
unfolding shown_side
side_sound network x s = let o = shown_owed network (shown_side x) s in record { price_is = o.price; previous_is = previous_sound network (shown_side x) s; volume_is = o.volume; days_is = o.days }

-- ---- facts by what the day holds of the security

trade_parts : (day : Day) (t : Trade) (st : Settings) (s : Security) (name : List ℕ) (i : ℕ) → day.settings ≡ st → security_at day t.security ≡ s → name_at day t.security ≡ name → i ≡ t.security
    → pick (prints_trade st s t.market t.side)
    (some (traded i (shows_temporary s && has_temporary name) (units t.side.price) (conditions_of t.side)
    (pick (is_normal st.mode || (trade_shows st s t.market t.side && not (same (volume_text s.issue.network s.issue.unit t.side.volume) []))) (some t.side.volume) none))) none
    ≡ fact_of day (Traded t)
unfolding fact_of trade_fact shown_volume
trade_parts day t st s name i e f g h = rw (← e, ← f, ← g, h)

correction_parts : (day : Day) (c : Correction) (st : Settings) (s : Security) (i : ℕ) → day.settings ≡ st → security_at day c.security ≡ s → i ≡ c.security
    → pick (prints_correction st s c.original c.correcting)
    (some (corrected i (part_of (is_normal st.mode) c.original) (part_of (is_normal st.mode) c.correcting))) none
    ≡ fact_of day (Corrected c)
unfolding fact_of
correction_parts day c st s i e f h = rw (← e, ← f, h)

-- ---- the numbers of a plan's fact are within their columns

conditions_short : (x : Side) → SoundSide x → ShortConditions (conditions_of x)
unfolding conditions_of
conditions_short x h = record { days_is = h.days_is; previous_is = units_small x.previous h.previous_is }

part_short : (normal : Bool) (x : Side) → SoundSide x → ShortPart (part_of normal x)
unfolding part_of pick ShortPart
part_short true x h = (units_small x.price h.price_is, (conditions_short x h, h.volume_is))
part_short false x h = conditions_short x h

volume_short : (b : Bool) (x : Side) → SoundSide x → ShortVolume (pick b (some x.volume) none)
unfolding pick ShortVolume
volume_short true x h = h.volume_is
volume_short false x h = tt

announced_short : (t : List ℕ) → ShortShown (announced_if t)
unfolding announced_if ShortShown ShortFact
announced_short [] = tt
announced_short (c ∷ s) = tt

-- shown or not
either_short : (b : Bool) (o u : Option Fact) → ShortShown o → ShortShown u → ShortShown (pick b o u)
unfolding pick
either_short true o u h k = h
either_short false o u h k = k

plan_short : (st : Settings) (names : List ℕ) (p : Plan) → SoundFact p → ShortShown (plan_fact st names p)
unfolding plan_fact SoundFact ShortShown ShortFact volume_of
plan_short st names (Stop r) h = tt
plan_short st names (Open n) h = tt
plan_short st names (Enter i s) h = tt
plan_short st names (Change m) h = announced_short (mode_text m st.minimum)
plan_short st names (Level n) h = announced_short (level_text n)
plan_short st names (Step n) h = announced_short (step_text st.mode n)
plan_short st names (Print t) h =
    either_short t.prints _ none (omega (arith, h.place_is), (units_small t.side.price h.side_is.price_is, (conditions_short t.side h.side_is, volume_short (shows_shares st t) t.side h.side_is))) tt
plan_short st names (Cancel t) h =
    let x = part_short (is_normal st.mode) t.side h.side_is in
    either_short t.error _ _ (omega (arith, h.place_is), x) (omega (arith, h.place_is), x)
plan_short st names (Correct c) h =
    either_short c.prints _ none (omega (arith, h.place_is), (part_short (is_normal st.mode) c.original h.original_is, part_short (is_normal st.mode) c.correcting h.correcting_is)) tt

-- ---- each kind

module _ (st : Settings) (table names : List ℕ) where
  abbrev day : Day
  day = day_of st table names

  settled : day.settings ≡ st
  unfolding day_of
  settled = refl

  -- what the line's plan owes, and that its fact is the rules'
  record Fits (l : Line) (p : Plan) : Type 0 where
    sound : SoundFact p
    fact : unless (stop_of p) (plan_fact st names p ≡ fact_of day l)

  stops : (l : Line) (r : Refusal) → Fits l (Stop r)
  unfolding SoundFact stop_of unless
  stops l r = record { sound = tt; fact = tt }

  asks : (l : Line) (b : Bool) (r : Refusal) (p : Plan) → (b ≡ false → Fits l p) → Fits l (pick b (Stop r) p)
  unfolding pick
  asks l true r p h = stops l r
  asks l false r p h = h refl

  fits_date : (n : ℕ) → Fits (Dated n) (date_plan st n)
  unfolding date_plan SoundFact stop_of unless plan_fact fact_of
  fits_date n = asks _ _ _ _ (λ e. record { sound = tt; fact = refl })

  fits_listing : (name : List ℕ) (l : Listing) → Fits (Listed l) (listing_plan table names name l)
  unfolding listing_plan SoundFact stop_of unless plan_fact fact_of
  fits_listing name l = asks _ _ _ _ (λ e. asks _ _ _ _ (λ f. asks _ _ _ _ (λ g. record { sound = tt; fact = refl })))

  unless_stopped_lem : (l : Line) (s : Security) (lawful matched : Bool) (p : Plan) → (1 ≤ s.issue.unit → lawful ≡ true → matched ≡ true → Fits l p) → Fits l (unless_stopped s lawful matched p)
  unfolding unless_stopped
  unless_stopped_lem l s lawful matched p f = asks _ _ _ _ (λ e. asks _ _ _ _ (λ g. asks _ _ _ _ (λ m. f (has_unit s e) (not-false lawful g) (not-false matched m))))

  module _ (t : Trade) (h : OwedTrade t) where
    abbrev s : Security
    s = row table (t.security - 1)

    number : t.security - 1 + 1 ≡ t.security
    number = omega (arith, h.low)

    stands : security_at day t.security ≡ s
    stands = held_security st table names t.security h.low h.high

    unless_unsound : (l : Line) (p : Plan) → (1 ≤ s.issue.unit → SoundSide t.side → Fits l p) → Fits l (unless_stopped s (is_lawful s t) t.matched p)
    unless_unsound l p f = unless_stopped_lem l s _ _ p (λ u k m. f u (side_sound s.issue.network t.side (h.shows s.issue.network (and_left t.lawful _ k) (and_right t.lawful _ k) m)))

    trade_fact_lem : plan_fact st names (Print (print_plan st s t)) ≡ fact_of day (Traded t)
    unfolding plan_fact print_plan volume_of shows_shares
    trade_fact_lem = trade_parts day t st s (name_of names (t.security - 1)) (t.security - 1 + 1) settled stands (held_name st table names t.security h.low h.high) number

    fits_trade : Fits (Traded t) (trade_plan st s t)
    unfolding trade_plan SoundFact print_plan stop_of unless
    fits_trade = unless_unsound (Traded t) _ (λ u m. record { sound = record { place_is = omega (arith, h.low, h.high); unit_is = u; side_is = m }; fact = trade_fact_lem })

    cancel_fact : plan_fact st names (Cancel (cancel_of false st s t)) ≡ fact_of day (Cancelled t)
    unfolding plan_fact cancel_of fact_of pick
    cancel_fact = rw (number, settled)

    fits_cancel : Fits (Cancelled t) (cancel_plan false st s t)
    unfolding cancel_plan SoundFact cancel_of stop_of unless
    fits_cancel = unless_unsound (Cancelled t) _ (λ u m. record { sound = record { place_is = omega (arith, h.low, h.high); side_is = m }; fact = cancel_fact })

    error_fact : plan_fact st names (Cancel (cancel_of true st s t)) ≡ fact_of day (Erred t)
    unfolding plan_fact cancel_of fact_of pick
    error_fact = rw (number, settled)

    fits_error : Fits (Erred t) (cancel_plan true st s t)
    unfolding cancel_plan SoundFact cancel_of stop_of unless
    fits_error = unless_unsound (Erred t) _ (λ u m. record { sound = record { place_is = omega (arith, h.low, h.high); side_is = m }; fact = error_fact })

  module _ (c : Correction) (h : OwedCorrection c) where
    abbrev x : Security
    x = row table (c.security - 1)

    correction_fact : plan_fact st names (Correct (correction_of st x c)) ≡ fact_of day (Corrected c)
    unfolding plan_fact correction_of
    correction_fact = correction_parts day c st x (c.security - 1 + 1) settled (held_security st table names c.security h.low h.high) (omega (arith, h.low))

    abbrev on : Bool
    on = on_network x.issue.network c.original.letters && on_network x.issue.network c.correcting.letters

    correction_sound : (c.lawful && on) ≡ true → c.matched ≡ true → SoundFact (Correct (correction_of st x c))
    unfolding SoundFact correction_of
    correction_sound k m =
        let l = and_left c.lawful on k in
        let o = and_right c.lawful on k in
        record {
          place_is = omega (arith, h.low, h.high);
          original_is = side_sound x.issue.network c.original (h.shows_original x.issue.network l (and_left (on_network x.issue.network c.original.letters) _ o) m);
          correcting_is = side_sound x.issue.network c.correcting (h.shows_correcting x.issue.network l (and_right (on_network x.issue.network c.original.letters) _ o) m);
        }

    fits_correction : Fits (Corrected c) (correction_plan st x c)
    unfolding correction_plan stop_of unless
    fits_correction = unless_stopped_lem (Corrected c) x _ _ _ (λ u k m. record { sound = correction_sound k m; fact = correction_fact })

  -- ---- every kind

  fits_line : (name : List ℕ) (l : Line) → OwedLine l → Fits l (line_plan st table names name l)
  unfolding line_plan OwedLine SoundFact stop_of unless plan_fact fact_of rules.print_of day_of
  fits_line name (Dated n) h = fits_date n
  fits_line name (Listed l) h = fits_listing name l
  fits_line name (Moded m) h = record { sound = tt; fact = refl }
  fits_line name (Leveled n) h = record { sound = tt; fact = refl }
  fits_line name (Stepped n) h = record { sound = tt; fact = refl }
  fits_line name (Traded t) h = fits_trade t h
  fits_line name (Cancelled t) h = fits_cancel t h
  fits_line name (Erred t) h = fits_error t h
  fits_line name (Corrected c) h = fits_correction c h

  -- ---- any line

  module _ (line : List ℕ) (room : ℕ) where
    fits : Fits (line_of line) (plan_of st table names line)
    unfolding plan_of read_plan
    fits =
        asks _ _ _ _ (λ e. asks _ _ _ _ (λ f. asks _ _ _ _ (λ g. asks _ _ _ _ (λ h. asks _ _ _ _ (λ i.
        fits_line (name_columns line) (line_of line) (owed_line line (not-false _ i)))))))

    fits_asked : Fits (line_of line) (asked st table names line room)
    unfolding asked fitted_of
    fits_asked = asks _ _ _ _ (λ e. fits)

    pub sound_asked : (p : Plan) → p ≡ asked st table names line room → SoundFact p
    sound_asked p e = rw e fits_asked.sound

    -- a call that stops shows nothing
    ended : (f : Option Fact) (p : Plan) → unless (stop_of p) (plan_fact st names p ≡ f) → plan_fact st names p ≡ elim (stop_of p) [ some r ↦ none | none ↦ f ]
    unfolding stop_of unless plan_fact
    ended f (Stop r) h = refl
    ended f (Open n) h = h
    ended f (Enter i s) h = h
    ended f (Change m) h = h
    ended f (Level n) h = h
    ended f (Step n) h = h
    ended f (Print t) h = h
    ended f (Cancel t) h = h
    ended f (Correct c) h = h

    module _ (rows : length table ≡ table_size) (places : length names ≡ names_size) where
      asked_fact : plan_fact st names (asked st table names line room) ≡ shown_by day (record { line = line; room = room })
      unfolding shown_by
      asked_fact =
          ended (fact_of day (line_of line)) (asked st table names line room) fits_asked.fact
          ∙ ap (λ (o : Option Refusal). elim o [ some r ↦ none | none ↦ fact_of day (line_of line) ]) (sym (by_rules st table names line room rows places).refusal_is)

      -- an entry that says what the plan asks for says what the rules show
      pub told : (p : Plan) (r : Entry) → p ≡ asked st table names line room → fact_in (print_of st names p) r ≡ plan_fact st names p
          → fact_in (tape_of day (record { line = line; room = room })) r ≡ shown_by day (record { line = line; room = room })
      told p r e h =
          ap (λ (t : List ℕ). fact_in t r) (by_rules st table names line room rows places).print_is
          ∙ (ap (λ (q : Plan). fact_in (print_of st names q) r) (sym e) ∙ (h ∙ (ap (plan_fact st names) e ∙ asked_fact)))

      -- and is the entry of what they show
      pub entry_told : (p : Plan) (r : Entry) → p ≡ asked st table names line room → fact_in (print_of st names p) r ≡ plan_fact st names p
          → r ≡ entry_of (shown_by day (record { line = line; room = room }))
      entry_told p r e h = sym (entry_back (tape_of day (record { line = line; room = room })) r) ∙ ap entry_of (told p r e h)

      -- and its numbers are within their columns
      pub short_shown : ShortShown (shown_by day (record { line = line; room = room }))
      short_shown = rw (← asked_fact) (plan_short st names (asked st table names line room) fits_asked.sound)
