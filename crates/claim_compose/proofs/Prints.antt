-- Whatever one line can show is a normal print: its S line and its own line are accepted and print it. Assumes nothing.
use Prim.Native.Nat.{ℕ, ◌^◌, ◌≤◌, ◌<◌}
use native.Mathlib.Omega.{arith}
use mathlib.Core.Path.{◌≡◌, refl, sym, ap, ◌∙◌}
use mathlib.Core.Bool.{Bool, true, false, ◌&&◌, not}
use mathlib.Core.List.{List, [], ◌∷◌}
use mathlib.Core.Option.{Option, none, some}
use lib.Dec.{leb, ltb, eqb}
use lib.ListN.{length}
use borrow.Author.Tests.{leb-true}
use Rattle.text.proofs.Texts.{and_right}
use Rattle.text.specs.Pick.{pick, opt, all, among, same, member}
use Rattle.text.proofs.Tests.{is_nlt}
use Rattle.rules.specs.Columns.{column, columns, between, is_root, filled, blank, is_blank, left_justified, word, number_in, is_number, value_of}
use Rattle.rules.specs.Tape.{is_letter}
use Rattle.text.specs.Reading.{span}
use Rattle.rules.specs.Announcement.{mode_text, level_text}
use Rattle.rules.specs.declared.Number.TheVariants.{Is}
use Rattle.rules.specs.Names.{name_text, has_temporary, lawful_name, lawful_field, is_reserved, is_suffix, is_temporary, is_appendage}
use Rattle.rules.specs.Price.{units, form_by}
use Rattle.rules.specs.Side.{side_text}
use Rattle.text.specs.Bytes.{bytes}
use Rattle.text.proofs.Parts.{all_append}
use Rattle.rules.specs.Trade.{prints_trade, trade_full, trade_form, trade_shows, is_normal}
use Rattle.rules.specs.Correction.{cancel_text, correction_text, cancel_opening, error_opening, cancel_full, cancel_form, cancel_shows, prints_correction, correction_full, correction_form, correction_shows}
use Rattle.rules.specs.Line.{is_printable, is_shaped, is_kind, is_formed, is_ranged, line_of, of_kind, name_columns, is_unit, is_network, is_mode, mode_of, mode_formed, level_formed, level_ranged, trade_formed, trade_ranged, trade_of}
use Rattle.rules.specs.Refusal.{refuse}
use Rattle.rules.specs.Day.{Day, cleared, is_entered, security_at, trade_refusal, correction_refusal, state_refusal, undated, refusal_of, print_of, trade_print, cancel_print, correction_print, shows_temporary, entered, after_line}
use Rattle.rules.specs.Shown.{conditions_of, in_full, part_of, Fact, announced, announced_if, traded, cancelled, erred, corrected, fact_of, trade_fact, shown_volume}
use Rattle.rules.specs.NormalPrint.{ReadFact, read_announcement, read_trade, read_cancel, read_error, read_correction, read_fact, name_of, level_day, listed_day, NormalPrint}
use Rattle.rules.specs.declared.Mode.{Mode}
use Rattle.rules.specs.declared.Mode.TheVariants.{Normal, Dvd, Rpo, Mpv}
use Rattle.rules.specs.declared.Side.{Side}
use Rattle.rules.specs.declared.Trade.{Trade}
use Rattle.rules.specs.declared.Line.{Line}
use Rattle.rules.specs.declared.Line.TheVariants.{Listed, Moded, Leveled, Traded, Cancelled, Erred, Corrected}
use Rattle.rules.specs.declared.Refusal.{Refusal}
use Rattle.rules.specs.declared.Refusal.TheVariants.{NoDate}
use Rattle.rules.proofs.Some.{some_named, some_cancel, some_correction, some_mode, some_level}
use Rattle.rules.specs.Sizes.{width}
use Rattle.name_back.proofs.Back.{name_some}
use Rattle.name_back.specs.Plain.{NamePlain}
use Rattle.claim_compose.specs.Columns.{digits_before, number_field, first_or, later, text_field, blanks}
use Rattle.claim_compose.proofs.Fields.{number_back, printable_number}
use Rattle.claim_compose.specs.Lines.{listing_line, trade_line, correction_line, mode_letter, mode_line, level_line}
use Rattle.line_owed.specs.Shown.{Enterable, Showable}
use Rattle.claim_compose.specs.Printable.{Printable, by_mode, by_level, by_trade, by_cancel, by_error, by_correction}
use Rattle.line_owed.proofs.Owed.{unit_some}
use Rattle.claim_compose.proofs.ByKind.{line_by, formed_by, ranged_by}
use Rattle.claim_compose.proofs.Sides.{SideSaid, side_said}
use Rattle.claim_compose.proofs.Listing.{listed_as, listed_line, listing_accepted, kind_there, name_is, shape, not_zero, blanks_printable, blanks_blank}
use Rattle.claim_compose.proofs.Sided.{trade_as, correction_as, trade_kind, trade_shaped, trade_formed_lem, trade_ranged_lem, trade_said, correction_kind, correction_shaped, correction_formed_lem, correction_ranged_lem, correction_said}
use Rattle.rules.specs.declared.PriceForm.TheVariants.{Full}

opening_level : between 5000 100000 5000 ≡ true
unfolding between
opening_level = refl

opening_minimum : between 1 100 1 ≡ true
unfolding between
opening_minimum = refl

fits : (n : ℕ) → ltb n n ≡ false
fits n = sym (is_nlt n n (omega arith))

-- a line that nothing stops, with the room that its print takes
accepted_line : (day : Day) (line : List ℕ) (kind : ℕ) (l : Line)
    → is_shaped line ≡ true → column 1 line ≡ kind → is_kind kind ≡ true → undated day ≡ false → is_formed line ≡ true → is_ranged line ≡ true → line_of line ≡ l
    → ((later : Option Refusal) → state_refusal day (name_columns line) l later ≡ later)
    → refusal_of day line (length (print_of day l)) ≡ none
unfolding refusal_of refuse pick
accepted_line day line kind l a b c d e f g h = rw (a, b, c, d, e, f, g, h, fits) (stopped (eqb kind 68))
  where
    stopped : (t : Bool) → pick (not t && false) (some NoDate) none ≡ none
    stopped true = refl
    stopped false = refl

-- the day with the levels set and the security entered
day_with : ℕ → ℕ → ℕ → ℕ → List ℕ → Day
day_with level minimum network unit name = after_line (level_day 1 level minimum) name (Listed (listed_as network unit))

module _ (level minimum network unit : ℕ) (name : List ℕ) where
  the_security : security_at (day_with level minimum network unit name) 1 ≡ entered (listed_as network unit)
  unfolding day_with after_line level_day cleared listed_as
  the_security = refl

  dated : undated (day_with level minimum network unit name) ≡ false
  unfolding undated day_with after_line level_day
  dated = refl

  module _ (h : Enterable network unit name) where
    the_day : listed_day 1 level minimum (listing_line network unit name) ≡ day_with level minimum network unit name
    unfolding listed_day day_with
    the_day = rw (name_is network unit name h, listed_line network unit name h)

    -- the text, the name and the fact of an accepted line are a normal print
    normal : between 5000 100000 level ≡ true → between 1 100 minimum ≡ true → (line text name' : List ℕ) (l : Line) (shown : Fact) (fact : ReadFact)
        → refusal_of (day_with level minimum network unit name) line (length (print_of (day_with level minimum network unit name) l)) ≡ none → line_of line ≡ l
        → print_of (day_with level minimum network unit name) l ≡ text → 1 ≤ length text → name_of (day_with level minimum network unit name) l ≡ name' → fact_of (day_with level minimum network unit name) l ≡ some shown → read_fact shown ≡ fact
        → NormalPrint text name' fact
    normal u v line text name' l shown fact a b c d e f g = record {
      date = 1;
      level = level;
      minimum = minimum;
      listing = listing_line network unit name;
      line = line;
      shown = shown;
      dated = omega arith;
      level_in_range = u;
      minimum_ranged = v;
      lists = kind_there network unit name;
      listed = listing_accepted network unit name h 1 level minimum (omega arith);
      accepted = ap (λ t. refusal_of (listed_day 1 level minimum (listing_line network unit name)) line (length t)) (sym c) ∙ ap (λ day. refusal_of day line (length (print_of (day_with level minimum network unit name) l))) the_day ∙ a;
      prints = ap (λ day. print_of day (line_of line)) the_day ∙ ap (print_of (day_with level minimum network unit name)) b ∙ c;
      some_text = d;
      named = ap (λ day. name_of day (line_of line)) the_day ∙ ap (name_of (day_with level minimum network unit name)) b ∙ e;
      shows = ap (λ day. fact_of day (line_of line)) the_day ∙ ap (fact_of (day_with level minimum network unit name)) b ∙ f;
      told = g;
    }

module _ (network unit : ℕ) (name : List ℕ) (h : Enterable network unit name) where
  -- ---- T, X, E

  module _ (x : Side) (w : Showable network x) where
    said : SideSaid x
    said = side_said network x w

    trade_passes : (later : Option Refusal) → trade_refusal (security_at (day_with 5000 1 network unit name) 1) (trade_as x) later ≡ later
    unfolding trade_refusal trade_as entered listed_as is_entered refuse pick
    trade_passes later = rw (the_security 5000 1 network unit name, not_zero unit (unit_some unit h.trades_in), w.on)

    -- of the kind with the letter k
    module _ (k : ℕ) (on : Trade → Line) (p : all is_printable (k ∷ []) ≡ true) (q : is_kind k ≡ true)
        (reads : (line : List ℕ) → of_kind k line ≡ record { formed = trade_formed line; ranged = trade_ranged line; line = on (trade_of line) })
        (asks : (day : Day) (name' : List ℕ) (t : Trade) (later : Option Refusal) → state_refusal day name' (on t) later ≡ trade_refusal (security_at day t.security) t later) where
      sided_line : line_of (trade_line k x) ≡ on (trade_as x)
      sided_line = rw (line_by k (trade_line k x) (trade_kind k x), reads, trade_said k x said)

      sided_accepted : refusal_of (day_with 5000 1 network unit name) (trade_line k x) (length (print_of (day_with 5000 1 network unit name) (on (trade_as x)))) ≡ none
      unfolding trade_as
      sided_accepted =
          accepted_line (day_with 5000 1 network unit name) (trade_line k x) k (on (trade_as x))
          (trade_shaped k x said p) (trade_kind k x) q (dated 5000 1 network unit name)
          (rw (formed_by k (trade_line k x) (trade_kind k x), reads) (trade_formed_lem k x said))
          (rw (ranged_by k (trade_line k x) (trade_kind k x), reads) (trade_ranged_lem k x said))
          sided_line (λ later. asks _ _ (trade_as x) later ∙ trade_passes later)

      sided_normal : (text name' : List ℕ) (shown : Fact) (fact : ReadFact) → print_of (day_with 5000 1 network unit name) (on (trade_as x)) ≡ text → 1 ≤ length text → name_of (day_with 5000 1 network unit name) (on (trade_as x)) ≡ name'
          → fact_of (day_with 5000 1 network unit name) (on (trade_as x)) ≡ some shown → read_fact shown ≡ fact → NormalPrint text name' fact
      sided_normal text name' shown fact c d e f g = normal 5000 1 network unit name h opening_level opening_minimum (trade_line k x) text name' (on (trade_as x)) shown fact sided_accepted sided_line c d e f g

    -- a trade
    pub trade_normal : NormalPrint (side_text (name_text true name) network unit Full true x) (name_text true name) (read_trade (units x.price) (conditions_of x) (some x.volume))
    unfolding all is_printable between is_kind among of_kind state_refusal print_of trade_print day_with after_line level_day cleared listed_as entered trade_as prints_trade trade_full trade_form form_by pick trade_shows is_normal shows_temporary opt name_of fact_of trade_fact shown_volume read_fact
    trade_normal = sided_normal 84 Traded refl refl (λ line. refl) (λ day name' t later. refl) _ _ (traded 1 (has_temporary name) (units x.price) (conditions_of x) (some x.volume)) _ refl (some_named (name_text true name) (name_some network name h.plain true) network unit Full true x) refl refl refl

    -- a cancel
    pub cancel_normal : NormalPrint (cancel_text cancel_opening (name_text false name) network unit Full true x) (name_text false name) (read_cancel (in_full (units x.price) (conditions_of x) x.volume))
    unfolding all is_printable between is_kind among of_kind state_refusal print_of cancel_print day_with after_line level_day cleared listed_as entered trade_as cancel_full cancel_form form_by pick cancel_shows is_normal name_of fact_of part_of read_fact
    cancel_normal = sided_normal 88 Cancelled refl refl (λ line. refl) (λ day name' t later. refl) _ _ (cancelled 1 (in_full (units x.price) (conditions_of x) x.volume)) _ refl (some_cancel cancel_opening (name_text false name) network unit Full true x (omega arith)) refl refl refl

    -- an error
    pub error_normal : NormalPrint (cancel_text error_opening (name_text false name) network unit Full true x) (name_text false name) (read_error (in_full (units x.price) (conditions_of x) x.volume))
    unfolding all is_printable between is_kind among of_kind state_refusal print_of cancel_print day_with after_line level_day cleared listed_as entered trade_as cancel_full cancel_form form_by pick cancel_shows is_normal name_of fact_of part_of read_fact
    error_normal = sided_normal 69 Erred refl refl (λ line. refl) (λ day name' t later. refl) _ _ (erred 1 (in_full (units x.price) (conditions_of x) x.volume)) _ refl (some_cancel error_opening (name_text false name) network unit Full true x (omega arith)) refl refl refl

  -- ---- C

  module _ (x y : Side) (w : Showable network x) (v : Showable network y) where
    correction_passes : (later : Option Refusal) → correction_refusal (security_at (day_with 5000 1 network unit name) 1) (correction_as x y) later ≡ later
    unfolding correction_refusal correction_as entered listed_as is_entered refuse pick
    correction_passes later = rw (the_security 5000 1 network unit name, not_zero unit (unit_some unit h.trades_in), w.on, v.on)

    corrected_line : line_of (correction_line x y) ≡ Corrected (correction_as x y)
    unfolding of_kind pick
    corrected_line = line_by 67 (correction_line x y) (correction_kind x y) ∙ ap Corrected (correction_said x y (side_said network x w) (side_said network y v))

    corrected_accepted : refusal_of (day_with 5000 1 network unit name) (correction_line x y) (length (print_of (day_with 5000 1 network unit name) (Corrected (correction_as x y)))) ≡ none
    unfolding of_kind pick state_refusal is_kind among correction_as
    corrected_accepted =
        accepted_line (day_with 5000 1 network unit name) (correction_line x y) 67 (Corrected (correction_as x y))
        (correction_shaped x y (side_said network x w) (side_said network y v)) (correction_kind x y) refl (dated 5000 1 network unit name)
        (formed_by 67 (correction_line x y) (correction_kind x y) ∙ correction_formed_lem x y (side_said network x w) (side_said network y v))
        (ranged_by 67 (correction_line x y) (correction_kind x y) ∙ correction_ranged_lem x y (side_said network x w) (side_said network y v))
        corrected_line correction_passes

    corrected_print : print_of (day_with 5000 1 network unit name) (Corrected (correction_as x y)) ≡ correction_text (name_text false name) network unit Full true x y
    unfolding print_of correction_print day_with after_line level_day cleared listed_as entered correction_as prints_correction correction_full correction_form form_by pick correction_shows is_normal opt
    corrected_print = refl

    corrected_name : name_of (day_with 5000 1 network unit name) (Corrected (correction_as x y)) ≡ name_text false name
    unfolding name_of day_with after_line level_day cleared listed_as correction_as
    corrected_name = refl

    corrected_fact : fact_of (day_with 5000 1 network unit name) (Corrected (correction_as x y)) ≡ some (corrected 1 (in_full (units x.price) (conditions_of x) x.volume) (in_full (units y.price) (conditions_of y) y.volume))
    unfolding fact_of part_of prints_correction day_with after_line level_day correction_as is_normal pick
    corrected_fact = refl

    -- a correction
    pub correction_normal : NormalPrint (correction_text (name_text false name) network unit Full true x y) (name_text false name) (read_correction (in_full (units x.price) (conditions_of x) x.volume) (in_full (units y.price) (conditions_of y) y.volume))
    unfolding read_fact
    correction_normal = normal 5000 1 network unit name h opening_level opening_minimum (correction_line x y) _ _ (Corrected (correction_as x y)) _ _ corrected_accepted corrected_line corrected_print (some_correction (name_text false name) network unit Full true x y) corrected_name corrected_fact refl

-- ---- announcements, with any security entered

any_name : List ℕ
any_name = text_field 19 (bytes "A")

any_plain : NamePlain 65 any_name
unfolding any_name text_field first_or later is_root filled blank is_blank is_letter lawful_name lawful_field left_justified is_reserved is_suffix is_temporary is_appendage member same all span word pick
any_plain = record { root = refl; lawful = refl }

any_printable : all is_printable any_name ≡ true
unfolding any_name text_field first_or later all is_printable between
any_printable = refl

any_security : Enterable 65 100 any_name
unfolding any_name text_field first_or later is_network is_unit among
any_security = record { on = refl; trades_in = refl; plain = any_plain; sized = refl; printable = any_printable }

mode_shaped : (m : Mode) → is_shaped (mode_line m) ≡ true
unfolding is_shaped mode_line mode_letter blanks all is_printable between
mode_shaped Normal = refl
mode_shaped Dvd = refl
mode_shaped Rpo = refl
mode_shaped Mpv = refl

mode_kind : (m : Mode) → column 1 (mode_line m) ≡ 77
unfolding mode_line
mode_kind m = refl

mode_formed_lem : (m : Mode) → mode_formed (mode_line m) ≡ true
unfolding mode_formed mode_line mode_letter is_mode among blank blanks all is_blank
mode_formed_lem Normal = refl
mode_formed_lem Dvd = refl
mode_formed_lem Rpo = refl
mode_formed_lem Mpv = refl

mode_read_lem : (m : Mode) → mode_of (column 2 (mode_line m)) ≡ m
unfolding mode_line mode_letter mode_of pick
mode_read_lem Normal = refl
mode_read_lem Dvd = refl
mode_read_lem Rpo = refl
mode_read_lem Mpv = refl

moded_line : (m : Mode) → line_of (mode_line m) ≡ Moded m
unfolding of_kind pick
moded_line m = line_by 77 (mode_line m) (mode_kind m) ∙ ap Moded (mode_read_lem m)

announced_text_lem : (s : List ℕ) → 1 ≤ length s → announced_if s ≡ some (announced s)
unfolding announced_if
announced_text_lem [] h = absurd (omega (h, arith))
announced_text_lem (c ∷ s) h = refl

-- the mode entered, with the MPV level set before it
pub mode_normal : (m : Mode) (n : ℕ) → between 1 100 n ≡ true → NormalPrint (mode_text m n) [] (read_announcement (mode_text m n))
unfolding of_kind pick state_refusal is_kind among print_of name_of fact_of read_fact day_with after_line level_day
mode_normal m n h =
    normal 5000 n 65 100 any_name any_security opening_level h (mode_line m) (mode_text m n) [] (Moded m) (announced (mode_text m n)) _
    (accepted_line (day_with 5000 n 65 100 any_name) (mode_line m) 77 (Moded m) (mode_shaped m) (mode_kind m) refl (dated 5000 n 65 100 any_name)
    (formed_by 77 (mode_line m) (mode_kind m) ∙ mode_formed_lem m) (ranged_by 77 (mode_line m) (mode_kind m)) (moded_line m) (λ later. refl))
    (moded_line m) refl (some_mode m n) refl (announced_text_lem (mode_text m n) (some_mode m n)) refl

level_kind : (n : ℕ) → column 1 (level_line n) ≡ 86
unfolding level_line number_field digits_before
level_kind n = refl

level_long : (n : ℕ) → length (level_line n) ≡ width
unfolding level_line number_field digits_before blanks
level_long n = refl

level_number : (n : ℕ) → n < 10 ^ 6 → number_in (columns 2 7 (level_line n)) ≡ Is n
unfolding level_line number_field digits_before blanks
level_number n h = number_back 5 n h

level_rest : (n : ℕ) → columns 8 width (level_line n) ≡ blanks 93
unfolding level_line number_field digits_before blanks
level_rest n = refl

v_printable : all is_printable (86 ∷ []) ≡ true
unfolding all is_printable between
v_printable = refl

level_shaped : (n : ℕ) → is_shaped (level_line n) ≡ true
unfolding is_shaped level_line
level_shaped n = shape (level_line n) (level_long n) (all_append is_printable _ (blanks 93) (all_append is_printable (86 ∷ []) (number_field 6 n) v_printable (printable_number 6 n)) (blanks_printable 93))

module _ (n : ℕ) (h : between 5000 100000 n ≡ true) where
  level_small : n < 10 ^ 6
  unfolding between
  level_small = omega (leb-true n 100000 (and_right (leb 5000 n) _ h), arith)

  level_formed_lem : level_formed (level_line n) ≡ true
  unfolding level_formed is_number
  level_formed_lem = rw (level_number n level_small, level_rest n, blanks_blank 93)

  level_in_range : level_ranged (level_line n) ≡ true
  unfolding level_ranged value_of
  level_in_range = rw (level_number n level_small) h

  leveled_line : line_of (level_line n) ≡ Leveled n
  unfolding of_kind pick value_of
  leveled_line = line_by 86 (level_line n) (level_kind n) ∙ ap (λ x. Leveled (value_of x)) (level_number n level_small)

  -- the volume delete level
  pub level_normal : NormalPrint (level_text n) [] (read_announcement (level_text n))
  unfolding of_kind pick state_refusal is_kind among print_of name_of fact_of read_fact
  level_normal =
      normal 5000 1 65 100 any_name any_security opening_level opening_minimum (level_line n) (level_text n) [] (Leveled n) (announced (level_text n)) _
      (accepted_line (day_with 5000 1 65 100 any_name) (level_line n) 86 (Leveled n) (level_shaped n) (level_kind n) refl (dated 5000 1 65 100 any_name)
      (formed_by 86 (level_line n) (level_kind n) ∙ level_formed_lem) (ranged_by 86 (level_line n) (level_kind n) ∙ level_in_range) leveled_line (λ later. refl))
      leveled_line refl (some_level n) refl (announced_text_lem (level_text n) (some_level n)) refl

-- WHAT ONE LINE CAN SHOW IS A NORMAL PRINT
pub printable_normal : {text name : List ℕ} {fact : ReadFact} → Printable text name fact → NormalPrint text name fact
printable_normal (by_mode m n h) = mode_normal m n h
printable_normal (by_level n h) = level_normal n h
printable_normal (by_trade network unit name x h w) = trade_normal network unit name h x w
printable_normal (by_cancel network unit name x h w) = cancel_normal network unit name h x w
printable_normal (by_error network unit name x h w) = error_normal network unit name h x w
printable_normal (by_correction network unit name x y h w v) = correction_normal network unit name h x y w v
