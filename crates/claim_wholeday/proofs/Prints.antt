-- Each accepted line but a D owes what the decoder asks for. Assumes nothing.
use Prim.Native.Nat.{ℕ, zero, suc, ◌-◌, ◌≤◌, ◌<◌}
use native.Mathlib.Omega.{arith}
use mathlib.Core.Path.{◌≡◌, refl, sym, ap, ◌∙◌}
use mathlib.Core.Bool.{Bool, true, false, ◌&&◌, not}
use mathlib.Core.List.{List, [], ◌∷◌, ◌++◌, map, append_assoc}
use mathlib.Core.Option.{none, some}
use lib.Dec.{leb}
use lib.ListN.{length, get_or, set, get_or-map}
use lib.Seq.{map-set_same}
use Rattle.text.specs.Bytes.{bytes}
use Rattle.text.specs.Pick.{pick, opt}
use Rattle.text.specs.Reading.{heads, starts}
use Rattle.text.proofs.Parts.{heads_append}
use Rattle.rules.specs.Tape.{is_letter}
use Rattle.rules.specs.Columns.{between}
use Rattle.rules.specs.Names.{name_text, has_temporary}
use Rattle.rules.specs.Price.{whole_part, units}
use Rattle.rules.specs.Side.{head_text, side_text}
use Rattle.rules.specs.Trade.{dollars, is_normal, shows_volume, prints_trade, trade_form, trade_shows, printed_after, after_trade}
use Rattle.rules.specs.Announcement.{mode_text, level_text, minimum_text, step_text}
use Rattle.rules.specs.Correction.{correction_text, cancel_text, cancel_opening, error_opening, prints_correction, correction_full, correction_form, correction_shows, cancel_full, cancel_form, cancel_shows, after_correction}
use Rattle.rules.specs.Day.{Day, vacant, no_name, security_at, name_at, is_entered, shows_temporary, entered, with_settings, with_security, print_of, trade_print, cancel_print, correction_print, after_line}
use Rattle.rules.specs.Shown.{conditions_of, part_of, Fact, announced, traded, cancelled, erred, corrected, shown_volume, trade_fact, announced_if, fact_of}
use Rattle.rules.specs.Premise.{trade_falls, falls}
use Rattle.rules.specs.declared.Mode.{Mode}
use Rattle.rules.specs.declared.Mode.TheVariants.{Normal, Dvd, Rpo, Mpv}
use Rattle.rules.specs.declared.Side.{Side}
use Rattle.rules.specs.declared.Listing.{Listing}
use Rattle.rules.specs.declared.Trade.{Trade}
use Rattle.rules.specs.declared.Correction.{Correction}
use Rattle.rules.specs.declared.Line.{Line}
use Rattle.rules.specs.declared.Line.TheVariants.{Dated, Listed, Moded, Leveled, Stepped, Traded, Cancelled, Erred, Corrected}
use Rattle.rules.specs.declared.Settings.{Settings}
use Rattle.rules.specs.declared.Security.{Security}
use Rattle.text.proofs.Booleans.{false_true}
use Rattle.rules.proofs.Fields.{level_below}
use Rattle.print_volume.specs.Reading.{unsaid, shown_of}
use Rattle.print_price.specs.Reading.{shown_price}
use Rattle.name_back.specs.Plain.{NamePlain}
use Rattle.name_back.proofs.Back.{name_head}
use Rattle.claim_decoder.specs.Carried.{printed_of, carried_of, next}
use Rattle.claim_decoder.specs.Decode.{Names, is_name_of, name_in, price_by, volume_by, there, decode}
use Rattle.claim_decoder.proofs.Lawful.{lawful_shown}
use Rattle.claim_decoder.proofs.Sides.{price_by_lem, volume_by_lem}
use Rattle.claim_decoder.proofs.Lookup.{no_name_lem, unlike_name}
use Rattle.claim_decoder.proofs.Fresh.{Fresh, fresh_pair, side_fresh}
use Rattle.claim_decoder.proofs.Carries.{mode_carried, minimum_carried, level_carried}
use Rattle.claim_decoder.proofs.Undone.{Known, trade_undone, cancel_undone, error_undone, correction_undone, minimum_undone, mode_undone, level_undone}
use Rattle.line_owed.specs.Owed.{kind_of}
use Rattle.line_owed.specs.Accepted.{AcceptedListing, AcceptedTrade, AcceptedCorrection, AcceptedLine}
use Rattle.line_owed.specs.Reached.{at_place, named, Reached, Later}
use Rattle.claim_wholeday.specs.Decodes as decoding
use Rattle.claim_wholeday.specs.Decodes.{Silent}
use Rattle.rules.specs.declared.PriceForm.{PriceForm}

-- ---- a security is known by its name

module _ (day e : Day) (k : Reached e) (l : Later day e) (i : ℕ) (low : 1 ≤ i) (high : i ≤ 512) (entered_there : is_entered (security_at day i) ≡ true) where
  abbrev p : ℕ
  p = i - 1

  inside : p < 512
  inside = omega arith

  stays_there : is_entered (at_place e p) ≡ true
  stays_there = l.stays p inside entered_there

  name_kept : name_in e.names i ≡ name_at day i
  name_kept = l.name_kept p inside entered_there

  plain_there : NamePlain (security_at day i).issue.network (name_in e.names i)
  plain_there = rw (← l.same_network p inside entered_there) (k.enterable p inside stays_there).plain

  alone_there : (b : Bool) (m : ℕ) → m < p → is_name_of (name_text b (name_in e.names i)) (get_or e.names m no_name) ≡ false
  alone_there b m h = go (is_entered (at_place e m)) refl
    where
      go : (q : Bool) → is_entered (at_place e m) ≡ q → is_name_of (name_text b (name_in e.names i)) (get_or e.names m no_name) ≡ false
      go true q = unlike_name b (named e p) (named e m) (k.distinct p m inside (omega (arith, inside, h)) (omega (arith, h)) stays_there q)
      go false q = rw (k.unnamed m (omega (arith, inside, h)) q) (no_name_lem (name_text b (name_in e.names i)) (name_head (security_at day i).issue.network (name_in e.names i) plain_there b))

  known : Known e.names (security_at day i).issue.network i
  known = record { low = low; high = omega (arith, k.lines); is_plain = plain_there; alone = alone_there }

-- ---- what is carried

map_set : (f : Security → ℕ) (l : List Security) (i : ℕ) (s : Security) → map f (set l i s) ≡ set (map f l) i (f s)
map_set f [] i s = refl
map_set f (x ∷ l) zero s = refl
map_set f (x ∷ l) (suc i) s = ap (λ (r : List ℕ). f x ∷ r) (map_set f l i s)

none_printed : printed_of vacant ≡ 0
unfolding printed_of vacant is_entered pick
none_printed = refl

printed_there : (s : Security) → is_entered s ≡ true → printed_of s ≡ s.printed.price
unfolding printed_of pick
printed_there s h = rw h

printed_none : (s : Security) → is_entered s ≡ false → printed_of s ≡ 0
unfolding printed_of pick
printed_none s h = rw h

carried_price : (day : Day) (i : ℕ) → is_entered (security_at day i) ≡ true → get_or (carried_of day).printed (i - 1) 0 ≡ (security_at day i).printed.price
unfolding carried_of
carried_price day i h =
    ap (λ (d : ℕ). get_or (map printed_of day.securities) (i - 1) d) (sym none_printed)
    ∙ (get_or-map printed_of day.securities (i - 1) vacant ∙ printed_there (security_at day i) h)

-- a security changed, its last printed price as it was
carried_same : (day : Day) (i : ℕ) (s : Security) → printed_of s ≡ printed_of (security_at day i) → carried_of (with_security day i s) ≡ carried_of day
unfolding carried_of
carried_same day i s h = rw (map-set_same printed_of day.securities (i - 1) s vacant h)

-- a security changed, with its last printed price
carried_set : (day : Day) (i price : ℕ) (s : Security) → printed_of s ≡ price → carried_of (with_security day i s) ≡ record { mode = (carried_of day).mode; printed = set (carried_of day).printed (i - 1) price }
unfolding carried_of
carried_set day i price s h = rw (map_set printed_of day.securities (i - 1) s, h)

-- ---- a trade

entered_as : (s t : Security) → s.issue ≡ t.issue → is_entered t ≡ true → is_entered s ≡ true
unfolding is_entered
entered_as s t e h = rw e h

heads_some : (p : ℕ → Bool) (t : List ℕ) → heads p t ≡ true → 0 < length t
heads_some p [] h = absurd (false_true h)
heads_some p (c ∷ t) h = omega arith

module _ (network : ℕ) (n : List ℕ) (plain : NamePlain network n) (b : Bool) (unit : ℕ) (form : PriceForm) (shows : Bool) (x : Side) where
  side_some : 0 < length (side_text (name_text b n) network unit form shows x)
  unfolding side_text head_text
  side_some = heads_some is_letter (side_text (name_text b n) network unit form shows x) (simp append_assoc (heads_append is_letter (name_text b n) _ (name_head network n plain b)))

module _ (day e : Day) (k : Reached e) (l : Later day e) (t : Trade) (f : AcceptedTrade (security_at day t.security) t) where
  abbrev st : Settings
  st = day.settings

  abbrev s : Security
  s = security_at day t.security

  abbrev x : Side
  x = t.side

  abbrev i : ℕ
  i = t.security

  known_trade : Known e.names s.issue.network i
  known_trade = known day e k l i f.owed.low f.owed.high f.entered_there

  same_trade_name : name_in e.names i ≡ name_at day i
  same_trade_name = name_kept day e k l i f.owed.low f.owed.high f.entered_there

  abbrev after_trade_lem : Security
  after_trade_lem = after_trade st s t.market x

  after_entered : is_entered after_trade_lem ≡ true
  unfolding after_trade
  after_entered = entered_as after_trade_lem s refl f.entered_there

  -- left off: nothing is printed, and the last printed price stays
  price_stays : prints_trade st s t.market x ≡ false → after_trade_lem.printed.price ≡ s.printed.price
  unfolding after_trade printed_after pick
  price_stays q = rw q

  price_moves : prints_trade st s t.market x ≡ true → after_trade_lem.printed.price ≡ units x.price
  unfolding after_trade printed_after pick
  price_moves q = rw q

  no_print : prints_trade st s t.market x ≡ false → trade_print day t ≡ []
  unfolding trade_print opt
  no_print q = rw q

  left_off : prints_trade st s t.market x ≡ false → Silent day (with_security day i after_trade_lem) (trade_print day t)
  left_off q = record { no_text = no_print q; stays = carried_same day i after_trade_lem (printed_there after_trade_lem after_entered ∙ (price_stays q ∙ sym (printed_there s f.entered_there))) }

  -- printed: the text under the name that is known
  abbrev text : List ℕ
  text = side_text (name_text (shows_temporary s) (name_in e.names i)) s.issue.network s.issue.unit (trade_form st s t.market x) (trade_shows st s t.market x) x

  the_print : prints_trade st s t.market x ≡ true → trade_print day t ≡ text
  unfolding trade_print opt
  the_print q = rw (q, same_trade_name)

  -- what is found is the fact
  premise : trade_falls day t ≡ false → prints_trade st s t.market x ≡ true → (not (is_normal st.mode) && (between 1 9 (whole_part x.price) && leb 10 (dollars s.printed.price))) ≡ false
  unfolding trade_falls
  premise w q = rw q at w

  mode_is : (carried_of day).mode ≡ st.mode
  unfolding carried_of
  mode_is = refl

  found_fact : trade_falls day t ≡ false → prints_trade st s t.market x ≡ true
      → traded i (shows_temporary s && has_temporary (name_in e.names i)) (price_by (carried_of day).mode (get_or (carried_of day).printed (i - 1) 0) (shown_price (trade_form st s t.market x) x.price)) (conditions_of x) (volume_by (carried_of day).mode (pick (trade_shows st s t.market x) (shown_of s.issue.network s.issue.unit x.volume) unsaid)) ≡ trade_fact day t
  unfolding trade_fact shown_volume trade_shows
  found_fact w q =
      rw (carried_price day i f.entered_there, mode_is, price_by_lem st s t.market x (lawful_shown _ t.side f.owed.side f.shows) (premise w q), same_trade_name, volume_by_lem st.mode (shows_volume st s t.market x) s.issue.network s.issue.unit x.volume)

  printed : trade_falls day t ≡ false → prints_trade st s t.market x ≡ true → decoding.Told e.names day (with_security day i after_trade_lem) (trade_print day t) (trade_fact day t)
  unfolding next trade_fact
  printed w q = record {
    follows = carried_set day i (units x.price) after_trade_lem (printed_there after_trade_lem after_entered ∙ price_moves q);
    some_text = rw (the_print q) (side_some s.issue.network (name_in e.names i) known_trade.is_plain (shows_temporary s) s.issue.unit (trade_form st s t.market x) (trade_shows st s t.market x) x);
    starts = λ r. rw (the_print q) (side_fresh s.issue.network (name_in e.names i) known_trade.is_plain (shows_temporary s) s.issue.unit (trade_form st s t.market x) (trade_shows st s t.market x) x f.owed.side.priced r);
    undone = λ r u. rw (the_print q) (trade_undone e.names s.issue.network i known_trade (carried_of day) (shows_temporary s) s.issue.unit (trade_form st s t.market x) (trade_shows st s t.market x) x r (lawful_shown _ t.side f.owed.side f.shows) u ∙ ap (λ (g : Fact). there g r) (found_fact w q));
  }

  trade_owed : trade_falls day t ≡ false → decoding.Decodes e.names day (with_security day i after_trade_lem) (trade_print day t) (pick (prints_trade st s t.market x) (some (trade_fact day t)) none)
  unfolding pick
  trade_owed w = go (prints_trade st s t.market x) refl
    where
      go : (b : Bool) → prints_trade st s t.market x ≡ b → decoding.Decodes e.names day (with_security day i after_trade_lem) (trade_print day t) (pick b (some (trade_fact day t)) none)
      go true q = printed w q
      go false q = left_off q

-- ---- a cancel, an error

module _ (day e : Day) (k : Reached e) (l : Later day e) (t : Trade) (f : AcceptedTrade (security_at day t.security) t) where
  abbrev sc : Security
  sc = security_at day t.security

  known_cancel : Known e.names sc.issue.network t.security
  known_cancel = known day e k l t.security f.owed.low f.owed.high f.entered_there

  abbrev cancel_text_lem : List ℕ → List ℕ
  cancel_text_lem opening = cancel_text opening (name_text false (name_in e.names t.security)) sc.issue.network sc.issue.unit (cancel_form day.settings sc t.side) (cancel_shows day.settings t.side) t.side

  the_cancel : (opening : List ℕ) → cancel_print opening day t ≡ cancel_text_lem opening
  unfolding cancel_print
  the_cancel opening = rw (name_kept day e k l t.security f.owed.low f.owed.high f.entered_there)

  cancel_mode : (carried_of day).mode ≡ day.settings.mode
  unfolding carried_of
  cancel_mode = refl

  cancel_owed : decoding.Told e.names day day (cancel_print cancel_opening day t) (cancelled t.security (part_of (is_normal day.settings.mode) t.side))
  unfolding next cancel_text cancel_form cancel_full cancel_shows carried_of
  cancel_owed = record {
    follows = refl;
    some_text = rw (the_cancel cancel_opening) (omega arith);
    starts = λ r. rw (the_cancel cancel_opening) (fresh_pair _);
    undone = λ r u. rw (the_cancel cancel_opening) (cancel_undone e.names sc.issue.network t.security known_cancel (carried_of day) sc.issue.unit _ _ t.side r (lawful_shown _ t.side f.owed.side f.shows) u);
  }

  error_owed : decoding.Told e.names day day (cancel_print error_opening day t) (erred t.security (part_of (is_normal day.settings.mode) t.side))
  unfolding next cancel_text cancel_form cancel_full cancel_shows carried_of
  error_owed = record {
    follows = refl;
    some_text = rw (the_cancel error_opening) (omega arith);
    starts = λ r. rw (the_cancel error_opening) (fresh_pair _);
    undone = λ r u. rw (the_cancel error_opening) (error_undone e.names sc.issue.network t.security known_cancel (carried_of day) sc.issue.unit _ _ t.side r (lawful_shown _ t.side f.owed.side f.shows) u);
  }

-- ---- a correction

module _ (day e : Day) (k : Reached e) (l : Later day e) (c : Correction) (f : AcceptedCorrection (security_at day c.security) c) where
  abbrev sx : Security
  sx = security_at day c.security

  known_correction : Known e.names sx.issue.network c.security
  known_correction = known day e k l c.security f.owed.low f.owed.high f.entered_there

  abbrev after_correction_lem : Security
  after_correction_lem = after_correction sx c.correcting

  -- corrections move no last printed price
  correction_stays : carried_of (with_security day c.security after_correction_lem) ≡ carried_of day
  unfolding after_correction printed_of is_entered
  correction_stays = carried_same day c.security after_correction_lem refl

  abbrev correction_text_lem : List ℕ
  correction_text_lem = correction_text (name_text false (name_in e.names c.security)) sx.issue.network sx.issue.unit (correction_form day.settings sx c.original c.correcting) (correction_shows day.settings c.original c.correcting) c.original c.correcting

  the_correction : prints_correction day.settings sx c.original c.correcting ≡ true → correction_print day c ≡ correction_text_lem
  unfolding correction_print opt
  the_correction q = rw (q, name_kept day e k l c.security f.owed.low f.owed.high f.entered_there)

  no_correction : prints_correction day.settings sx c.original c.correcting ≡ false → correction_print day c ≡ []
  unfolding correction_print opt
  no_correction q = rw q

  correction_printed : prints_correction day.settings sx c.original c.correcting ≡ true → decoding.Told e.names day (with_security day c.security after_correction_lem) (correction_print day c) (corrected c.security (part_of (is_normal day.settings.mode) c.original) (part_of (is_normal day.settings.mode) c.correcting))
  unfolding next correction_text correction_form correction_full correction_shows carried_of
  correction_printed q = record {
    follows = correction_stays;
    some_text = rw (the_correction q) (omega arith);
    starts = λ r. rw (the_correction q) (fresh_pair _);
    undone = λ r u. rw (the_correction q) (correction_undone e.names sx.issue.network c.security known_correction (carried_of day) sx.issue.unit _ _ c.original c.correcting r (lawful_shown _ c.original f.owed.original f.shows_original) (lawful_shown _ c.correcting f.owed.correcting f.shows_correcting) u);
  }

  correction_owed : decoding.Decodes e.names day (with_security day c.security after_correction_lem) (correction_print day c) (pick (prints_correction day.settings sx c.original c.correcting) (some (corrected c.security (part_of (is_normal day.settings.mode) c.original) (part_of (is_normal day.settings.mode) c.correcting))) none)
  unfolding pick
  correction_owed = go (prints_correction day.settings sx c.original c.correcting) refl
    where
      go : (b : Bool) → prints_correction day.settings sx c.original c.correcting ≡ b → decoding.Decodes e.names day (with_security day c.security after_correction_lem) (correction_print day c) (pick b (some (corrected c.security (part_of (is_normal day.settings.mode) c.original) (part_of (is_normal day.settings.mode) c.correcting))) none)
      go true q = correction_printed q
      go false q = record { no_text = no_correction q; stays = correction_stays }

-- ---- announcements

-- an announcement is some text
module _ (names : Names) (day e : Day) where
  announced_owed : (text : List ℕ) → starts (bytes "<<<") text ≡ true → carried_of e ≡ next (carried_of day) (announced text) → ((s : List ℕ) → Fresh (text ++ s)) → ((s : List ℕ) → decode names (carried_of day) (text ++ s) ≡ there (announced text) s) → decoding.Decodes names day e text (announced_if text)
  unfolding announced_if
  announced_owed [] h w g u = absurd (false_true (sym no_start ∙ h))
    where
      no_start : starts (bytes "<<<") [] ≡ false
      no_start = unfold starts in refl
  announced_owed (a ∷ t) h w g u = record { follows = w; some_text = omega arith; starts = g; undone = λ s f. u s }

minimum_first : (n : ℕ) (s : List ℕ) → (starts (bytes "<<<") (minimum_text n) ≡ true) × Fresh (minimum_text n ++ s)
unfolding minimum_text starts
minimum_first n s = (refl, fresh_pair _)

level_first : (n : ℕ) (s : List ℕ) → (starts (bytes "<<<") (level_text n) ≡ true) × Fresh (level_text n ++ s)
unfolding level_text starts
level_first n s = (refl, fresh_pair _)

mode_first : (m : Mode) (n : ℕ) (s : List ℕ) → (starts (bytes "<<<") (mode_text m n) ≡ true) × Fresh (mode_text m n ++ s)
unfolding mode_text starts
mode_first Normal n s = (refl, fresh_pair _)
mode_first Dvd n s = (refl, fresh_pair _)
mode_first Rpo n s = (refl, fresh_pair _)
mode_first Mpv n s = minimum_first n s

module _ (names : Names) (day : Day) where
  mode_owed : (m : Mode) (st : Settings) → st.mode ≡ m → decoding.Decodes names day (with_settings day st) (mode_text m day.settings.minimum) (announced_if (mode_text m day.settings.minimum))
  unfolding next carried_of
  mode_owed m st e =
      let n = day.settings.minimum in
      announced_owed names day (with_settings day st) (mode_text m n) (mode_first m n []).0 (sym (mode_carried (carried_of day) n m ∙ ap (λ (k : Mode). record { mode = k; printed = (carried_of day).printed }) (sym e))) (λ s. (mode_first m n s).1) (λ s. mode_undone names (carried_of day) m n s)

  level_owed : (n : ℕ) (st : Settings) → n < 1000000000 → st.mode ≡ day.settings.mode → decoding.Decodes names day (with_settings day st) (level_text n) (announced_if (level_text n))
  unfolding next carried_of
  level_owed n st h e =
      announced_owed names day (with_settings day st) (level_text n) (level_first n []).0 (ap (λ (k : Mode). record { mode = k; printed = (carried_of day).printed }) e ∙ sym (level_carried (carried_of day) n h)) (λ s. (level_first n s).1) (λ s. level_undone names (carried_of day) n s h)

  -- P prints in MPV only
  step_owed : (n : ℕ) (st : Settings) (m : Mode) → day.settings.mode ≡ m → st.mode ≡ m → decoding.Decodes names day (with_settings day st) (step_text m n) (announced_if (step_text m n))
  unfolding next carried_of step_text announced_if
  step_owed n st Normal d e = record { no_text = refl; stays = rw (e, d) }
  step_owed n st Dvd d e = record { no_text = refl; stays = rw (e, d) }
  step_owed n st Rpo d e = record { no_text = refl; stays = rw (e, d) }
  step_owed n st Mpv d e = announced_owed names day (with_settings day st) (minimum_text n) (minimum_first n []).0 (sym (minimum_carried (carried_of day) n ∙ ap (λ (k : Mode). record { mode = k; printed = (carried_of day).printed }) (sym e))) (λ s. (minimum_first n s).1) (λ s. minimum_undone names (carried_of day) n s)

-- ---- a security entered: none printed yet

entered_none : (l : Listing) → printed_of (entered l) ≡ 0
unfolding printed_of entered pick
entered_none l = go (is_entered (entered l))
  where
    go : (b : Bool) → ◌≡◌ {A = ℕ} (pick b 0 0) 0
    go true = refl
    go false = refl

listing_stays : (day : Day) (name : List ℕ) (l : Listing) → AcceptedListing day name l → carried_of (record { settings = day.settings; securities = set day.securities (l.number - 1) (entered l); names = set day.names (l.number - 1) name }) ≡ carried_of day
unfolding carried_of
listing_stays day name l f = rw (map-set_same printed_of day.securities (l.number - 1) (entered l) vacant (entered_none l ∙ sym (printed_none (security_at day l.number) f.vacant_place)))

-- ---- any accepted line but a D

pub line_owed : (day e : Day) (name : List ℕ) (l : Line) → Reached e → Later day e → AcceptedLine day name l → (kind_of l ≡ 68 → ⊥) → falls day l ≡ false → decoding.Decodes e.names day (after_line day name l) (print_of day l) (fact_of day l)
unfolding after_line print_of fact_of AcceptedLine kind_of falls
line_owed day e name (Dated n) k l f z w = absurd (z refl)
line_owed day e name (Listed x) k l f z w = record { no_text = refl; stays = listing_stays day name x f }
line_owed day e name (Moded m) k l f z w = mode_owed e.names day m _ refl
line_owed day e name (Leveled n) k l f z w = level_owed e.names day n _ (level_below n f) refl
line_owed day e name (Stepped n) k l f z w = step_owed e.names day n _ day.settings.mode refl refl
line_owed day e name (Traded t) k l f z w = trade_owed day e k l t f w
line_owed day e name (Cancelled t) k l f z w = cancel_owed day e k l t f
line_owed day e name (Erred t) k l f z w = error_owed day e k l t f
line_owed day e name (Corrected c) k l f z w = correction_owed day e k l c f
