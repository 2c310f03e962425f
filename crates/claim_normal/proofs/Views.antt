-- What an accepted line prints in normal mode, on any day that can be reached, is what one line can show. Assumes nothing.
use Prim.Native.Nat.{ℕ, ◌-◌, ◌≤◌}
use native.Mathlib.Omega.{arith}
use mathlib.Core.Path.{◌≡◌, refl, sym, ap, ◌∙◌}
use mathlib.Core.Bool.{Bool, true, false}
use mathlib.Core.List.{List, [], ◌∷◌}
use mathlib.Core.Option.{Option, none, some}
use Rattle.text.specs.Pick.{pick, opt}
use Rattle.text.proofs.Booleans.{false_true}
use Rattle.rules.specs.Columns.{between}
use Rattle.rules.specs.Names.{name_text}
use Rattle.rules.specs.Price.{units, form_by}
use Rattle.rules.specs.Side.{side_text}
use Rattle.rules.specs.Announcement.{mode_text, level_text, step_text}
use Rattle.rules.specs.Correction.{cancel_text, correction_text, cancel_opening, error_opening, cancel_full, cancel_form, cancel_shows, prints_correction, correction_full, correction_form, correction_shows}
use Rattle.rules.specs.Line.{line_of, name_columns}
use Rattle.rules.specs.Day.{Day, is_entered, security_at, name_at, refusal_of, print_of, trade_print, cancel_print, correction_print, shows_temporary}
use Rattle.rules.specs.Trade.{prints_trade, trade_full, trade_form, trade_shows, is_normal}
use Rattle.rules.specs.Shown.{Fact, announced, corrected, conditions_of, part_of, fact_of, trade_fact, shown_volume, announced_if}
use Rattle.rules.specs.NormalPrint.{ReadFact, read_announcement, read_trade, read_cancel, read_error, read_correction, read_fact, name_of}
use Rattle.rules.specs.declared.Mode.{Mode}
use Rattle.rules.specs.declared.Mode.TheVariants.{Normal}
use Rattle.rules.specs.declared.Side.{Side}
use Rattle.rules.specs.declared.Listing.{Listing}
use Rattle.rules.specs.declared.Trade.{Trade}
use Rattle.rules.specs.declared.Correction.{Correction}
use Rattle.rules.specs.declared.Line.{Line}
use Rattle.rules.specs.declared.Line.TheVariants.{Dated, Listed, Moded, Leveled, Stepped, Traded, Cancelled, Erred, Corrected}
use Rattle.rules.specs.declared.Security.{Security}
use Rattle.line_owed.specs.Shown.{Enterable, shown_side}
use Rattle.line_owed.specs.Accepted.{AcceptedTrade, AcceptedCorrection, AcceptedLine}
use Rattle.line_owed.specs.Reached.{Reached}
use Rattle.line_owed.proofs.Accepted.{accepted}
use Rattle.claim_compose.specs.Printable.{part_in, Printable, by_mode, by_level, by_trade, by_cancel, by_error, by_correction}
use Rattle.claim_normal.proofs.Unsuffixed.{printed_name, printed_text, printed_enterable}
use Rattle.claim_normal.proofs.Sides.{same_conditions, same_side, same_cancel, same_correction}
use Rattle.rules.specs.declared.PriceForm.TheVariants.{Full}

-- ---- equal texts, names and facts

pub printable_as : {t t' n n' : List ℕ} {f f' : ReadFact} → Printable t n f → t ≡ t' → n ≡ n' → f ≡ f' → Printable t' n' f'
printable_as p a b c = rw (← a, ← b, ← c) p

fact_in : Option Fact → Fact
fact_in (some f) = f
fact_in none = announced []

some_same : {f g : Fact} → some f ≡ some g → f ≡ g
unfolding fact_in
some_same e = ap fact_in e

is_some : Option Fact → Bool
is_some none = false
is_some (some f) = true

shows_nothing : {f : Fact} → none ≡ some f → ⊥
unfolding is_some
shows_nothing e = false_true (ap is_some e)

announced_told : (t : List ℕ) (shown : Fact) (fact : ReadFact) → announced_if t ≡ some shown → read_fact shown ≡ fact → read_announcement t ≡ fact
unfolding announced_if read_fact
announced_told [] shown fact e k = absurd (shows_nothing e)
announced_told (c ∷ t) shown fact e k = ap read_fact (some_same e) ∙ k

-- ---- a day that holds such securities, in normal mode

module _ (day : Day) (held : Reached day) (normal : day.settings.mode ≡ Normal) where
  -- all in full

  is_normal_lem : is_normal day.settings.mode ≡ true
  unfolding is_normal
  is_normal_lem = rw normal

  prints_trade_lem : (s : Security) (market : ℕ) (x : Side) → prints_trade day.settings s market x ≡ true
  unfolding prints_trade
  prints_trade_lem s market x = rw normal

  trade_form_lem : (s : Security) (market : ℕ) (x : Side) → trade_form day.settings s market x ≡ Full
  unfolding trade_form trade_full form_by pick
  trade_form_lem s market x = rw is_normal_lem

  trade_shows_lem : (s : Security) (market : ℕ) (x : Side) → trade_shows day.settings s market x ≡ true
  unfolding trade_shows
  trade_shows_lem s market x = rw is_normal_lem

  cancel_form_lem : (s : Security) (x : Side) → cancel_form day.settings s x ≡ Full
  unfolding cancel_form cancel_full form_by pick
  cancel_form_lem s x = rw is_normal_lem

  cancel_shows_lem : (x : Side) → cancel_shows day.settings x ≡ true
  unfolding cancel_shows
  cancel_shows_lem x = rw is_normal_lem

  prints_correction_lem : (s : Security) (x y : Side) → prints_correction day.settings s x y ≡ true
  unfolding prints_correction
  prints_correction_lem s x y = rw normal

  correction_form_lem : (s : Security) (x y : Side) → correction_form day.settings s x y ≡ Full
  unfolding correction_form correction_full form_by pick
  correction_form_lem s x y = rw is_normal_lem

  correction_shows_lem : (x y : Side) → correction_shows day.settings x y ≡ true
  unfolding correction_shows
  correction_shows_lem x y = rw is_normal_lem

  module _ (t : Trade) where
    abbrev s : Security
    s = security_at day t.security

    trade_text : print_of day (Traded t) ≡ side_text (name_text (shows_temporary s) (name_at day t.security)) s.issue.network s.issue.unit Full true t.side
    unfolding print_of trade_print opt
    trade_text = rw (prints_trade_lem, trade_form_lem, trade_shows_lem)

    trade_name : name_of day (Traded t) ≡ name_text (shows_temporary s) (name_at day t.security)
    unfolding name_of
    trade_name = refl

    trade_fact_lem : fact_of day (Traded t) ≡ some (trade_fact day t)
    unfolding fact_of pick
    trade_fact_lem = rw prints_trade_lem

    trade_told_lem : read_fact (trade_fact day t) ≡ read_trade (units t.side.price) (conditions_of t.side) (some t.side.volume)
    unfolding trade_fact read_fact shown_volume pick
    trade_told_lem = rw is_normal_lem

    cancel_text_lem : (opening : List ℕ) → cancel_print opening day t ≡ cancel_text opening (name_text false (name_at day t.security)) s.issue.network s.issue.unit Full true t.side
    unfolding cancel_print
    cancel_text_lem opening = rw (cancel_form_lem, cancel_shows_lem)

  part_told_lem : (x : Side) → part_of (is_normal day.settings.mode) x ≡ part_in x
  unfolding part_of pick
  part_told_lem x = rw is_normal_lem

  module _ (c : Correction) where
    abbrev z : Security
    z = security_at day c.security

    correction_text_lem : print_of day (Corrected c) ≡ correction_text (name_text false (name_at day c.security)) z.issue.network z.issue.unit Full true c.original c.correcting
    unfolding print_of correction_print opt
    correction_text_lem = rw (prints_correction_lem, correction_form_lem, correction_shows_lem)

    correction_name : name_of day (Corrected c) ≡ name_text false (name_at day c.security)
    unfolding name_of
    correction_name = refl

    correction_fact : fact_of day (Corrected c) ≡ some (corrected c.security (part_in c.original) (part_in c.correcting))
    unfolding fact_of pick
    correction_fact = rw (prints_correction_lem, part_told_lem c.original, part_told_lem c.correcting)

  -- ---- the security of an accepted line

  there : (i : ℕ) → 1 ≤ i → i ≤ 512 → is_entered (security_at day i) ≡ true → Enterable (security_at day i).issue.network (security_at day i).issue.unit (name_at day i)
  there i low high e = held.enterable (i - 1) (omega (low, high, arith)) e

  same_part : (x : Side) → part_in (shown_side x) ≡ part_in x
  unfolding shown_side
  same_part x = rw (same_conditions x)

  same_trade : (x : Side) → read_trade (units (shown_side x).price) (conditions_of (shown_side x)) (some (shown_side x).volume) ≡ read_trade (units x.price) (conditions_of x) (some x.volume)
  unfolding shown_side
  same_trade x = rw (same_conditions x)

  same_parts : (x y : Side) → read_correction (part_in (shown_side x)) (part_in (shown_side y)) ≡ read_correction (part_in x) (part_in y)
  same_parts x y = rw (same_part x, same_part y)

  -- ---- each kind

  module _ (text name : List ℕ) (shown : Fact) (fact : ReadFact) (told : read_fact shown ≡ fact) where
    mode_view : (m : Mode) → print_of day (Moded m) ≡ text → name_of day (Moded m) ≡ name → fact_of day (Moded m) ≡ some shown → Printable text name fact
    unfolding print_of name_of fact_of
    mode_view m p q f = printable_as (by_mode m day.settings.minimum held.minimum_set) p q (announced_told (mode_text m day.settings.minimum) shown fact f told)

    level_view : (n : ℕ) → between 5000 100000 n ≡ true → print_of day (Leveled n) ≡ text → name_of day (Leveled n) ≡ name → fact_of day (Leveled n) ≡ some shown → Printable text name fact
    unfolding print_of name_of fact_of
    level_view n r p q f = printable_as (by_level n r) p q (announced_told (level_text n) shown fact f told)

    trade_view : (t : Trade) → AcceptedTrade (security_at day t.security) t → print_of day (Traded t) ≡ text → name_of day (Traded t) ≡ name → fact_of day (Traded t) ≡ some shown → Printable text name fact
    trade_view t o p q f =
        let e = there t.security o.owed.low o.owed.high o.entered_there in
        let y = security_at day t.security in
        let b = shows_temporary y in
        let n = name_at day t.security in
        let z = printed_text b n e.sized in
        printable_as (by_trade y.issue.network y.issue.unit (printed_name b n) (shown_side t.side) (printed_enterable b n e) o.shows)
        (ap (λ m. side_text m y.issue.network y.issue.unit Full true (shown_side t.side)) z ∙ same_side (name_text b n) y.issue.network y.issue.unit t.side ∙ sym (trade_text t) ∙ p)
        (z ∙ sym (trade_name t) ∙ q)
        (same_trade t.side ∙ sym (trade_told_lem t) ∙ ap read_fact (some_same (sym (trade_fact_lem t) ∙ f)) ∙ told)

    cancel_view : (t : Trade) → AcceptedTrade (security_at day t.security) t → print_of day (Cancelled t) ≡ text → name_of day (Cancelled t) ≡ name → fact_of day (Cancelled t) ≡ some shown → Printable text name fact
    unfolding print_of name_of fact_of read_fact
    cancel_view t o p q f =
        let e = there t.security o.owed.low o.owed.high o.entered_there in
        let y = security_at day t.security in
        let n = name_at day t.security in
        printable_as (by_cancel y.issue.network y.issue.unit n (shown_side t.side) e o.shows)
        (same_cancel cancel_opening (name_text false n) y.issue.network y.issue.unit t.side ∙ sym (cancel_text_lem t cancel_opening) ∙ p)
        q
        (ap read_cancel (same_part t.side ∙ sym (part_told_lem t.side)) ∙ ap read_fact (some_same f) ∙ told)

    error_view : (t : Trade) → AcceptedTrade (security_at day t.security) t → print_of day (Erred t) ≡ text → name_of day (Erred t) ≡ name → fact_of day (Erred t) ≡ some shown → Printable text name fact
    unfolding print_of name_of fact_of read_fact
    error_view t o p q f =
        let e = there t.security o.owed.low o.owed.high o.entered_there in
        let y = security_at day t.security in
        let n = name_at day t.security in
        printable_as (by_error y.issue.network y.issue.unit n (shown_side t.side) e o.shows)
        (same_cancel error_opening (name_text false n) y.issue.network y.issue.unit t.side ∙ sym (cancel_text_lem t error_opening) ∙ p)
        q
        (ap read_error (same_part t.side ∙ sym (part_told_lem t.side)) ∙ ap read_fact (some_same f) ∙ told)

    correction_view : (c : Correction) → AcceptedCorrection (security_at day c.security) c → print_of day (Corrected c) ≡ text → name_of day (Corrected c) ≡ name → fact_of day (Corrected c) ≡ some shown → Printable text name fact
    unfolding read_fact
    correction_view c o p q f =
        let e = there c.security o.owed.low o.owed.high o.entered_there in
        let y = security_at day c.security in
        let n = name_at day c.security in
        printable_as (by_correction y.issue.network y.issue.unit n (shown_side c.original) (shown_side c.correcting) e o.shows_original o.shows_correcting)
        (same_correction (name_text false n) y.issue.network y.issue.unit c.original c.correcting ∙ sym (correction_text_lem c) ∙ p)
        (sym (correction_name c) ∙ q)
        (same_parts c.original c.correcting ∙ ap read_fact (some_same (sym (correction_fact c) ∙ f)) ∙ told)

    step_empty : (n : ℕ) → step_text day.settings.mode n ≡ []
    unfolding step_text
    step_empty n = rw normal

    step_nothing : (n : ℕ) → fact_of day (Stepped n) ≡ none
    unfolding fact_of print_of announced_if
    step_nothing n = ap announced_if (step_empty n)

    date_nothing : (n : ℕ) → fact_of day (Dated n) ≡ none
    unfolding fact_of
    date_nothing n = refl

    listing_nothing : (l : Listing) → fact_of day (Listed l) ≡ none
    unfolding fact_of
    listing_nothing l = refl

    by_view : (columns : List ℕ) (l : Line) → AcceptedLine day columns l → print_of day l ≡ text → name_of day l ≡ name → fact_of day l ≡ some shown → Printable text name fact
    unfolding AcceptedLine
    by_view columns (Dated n) o p q f = absurd (shows_nothing (sym (date_nothing n) ∙ f))
    by_view columns (Listed l) o p q f = absurd (shows_nothing (sym (listing_nothing l) ∙ f))
    by_view columns (Moded m) o p q f = mode_view m p q f
    by_view columns (Leveled n) o p q f = level_view n o p q f
    by_view columns (Stepped n) o p q f = absurd (shows_nothing (sym (step_nothing n) ∙ f))
    by_view columns (Traded t) o p q f = trade_view t o p q f
    by_view columns (Cancelled t) o p q f = cancel_view t o p q f
    by_view columns (Erred t) o p q f = error_view t o p q f
    by_view columns (Corrected c) o p q f = correction_view c o p q f

  -- EVERY PRINT OF SUCH A DAY IN NORMAL MODE is what one line can show
  pub day_printable : (line : List ℕ) (room : ℕ) (shown : Fact) → refusal_of day line room ≡ none → fact_of day (line_of line) ≡ some shown → Printable (print_of day (line_of line)) (name_of day (line_of line)) (read_fact shown)
  day_printable line room shown h f = by_view (print_of day (line_of line)) (name_of day (line_of line)) shown (read_fact shown) refl (name_columns line) (line_of line) (accepted day line room h).owes refl refl f
