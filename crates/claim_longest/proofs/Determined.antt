-- The name and the facts of a normal print are determined by its text. Assumes nothing.
use Prim.Native.Nat.{ℕ}
use mathlib.Core.Path.{◌≡◌, refl, sym, ap, ◌∙◌}
use mathlib.Core.Bool.{Bool, true, false, not}
use mathlib.Core.List.{List, [], ◌++◌, append_assoc, append-nil}
use mathlib.Core.Option.{none, some}
use lib.ListN.{drop}
use Rattle.text.specs.Bytes.{bytes}
use Rattle.text.specs.Pick.{pick, opt, all}
use Rattle.text.specs.Reading.{found, heads, starts, past}
use Rattle.text.proofs.Reading.{past_append}
use Rattle.text.proofs.Parts.{heads_append, all_append}
use Rattle.rules.specs.Tape.{is_letter, is_upper}
use Rattle.rules.specs.Names.{name_text}
use Rattle.rules.specs.Price.{units}
use Rattle.rules.specs.Conditions.{after_name}
use Rattle.rules.specs.Side.{head_text, side_text}
use Rattle.rules.specs.Announcement.{mode_text, level_text}
use Rattle.rules.specs.Correction.{repeats_name, end_pair, cancel_text, correction_text, cancel_opening, error_opening}
use Rattle.rules.specs.Shown.{conditions_of, Part, in_full}
use Rattle.rules.specs.NormalPrint.{ReadFact, read_announcement, read_trade, read_cancel, read_error, read_correction, NormalPrint}
use Rattle.rules.specs.declared.Letters.{Letters}
use Rattle.rules.specs.declared.Side.{Side}
use Rattle.print_price.proofs.PriceBack.{full_price_lem}
use Rattle.print_volume.specs.Reading.{shares_of}
use Rattle.print_volume.proofs.VolumeBack.{shares_back}
use Rattle.print_conditions.proofs.TailBack.{Ends}
use Rattle.print_side.specs.Reading.{SideRead, read_side, side_shown}
use Rattle.print_side.proofs.SideBack.{SideOk, side_back}
use Rattle.name_back.specs.Plain.{NamePlain}
use Rattle.name_back.specs.Cut.{After, after, plain, after_of, one_sold, Divided, divide}
use Rattle.name_back.proofs.Back.{name_upper, name_head, name_back, conditions_upper}
use Rattle.line_owed.specs.Shown.{Enterable, Showable}
use Rattle.line_owed.proofs.Shown.{sound_price, shown_owed, shown_sold}
use Rattle.claim_compose.specs.Printable.{part_in, Printable, by_mode, by_level, by_trade, by_cancel, by_error, by_correction}
use Rattle.claim_normal.proofs.Normal.{normal_printable}
use Rattle.claim_decoder.specs.Decode.{conditions_by, after_by}
use Rattle.claim_decoder.proofs.Lawful.{lawful}
use Rattle.claim_decoder.proofs.Sides.{conditions_by_lem}
use Rattle.claim_decoder.proofs.Fresh.{fresh_end, fresh_was}
use Rattle.claim_decoder.proofs.Undone.{unrepeated, after_run, mode_starts, level_starts}
use Rattle.claim_longest.proofs.Longest.{not_mark, trade_letter}
use Rattle.rules.specs.declared.PriceForm.TheVariants.{Full}

-- ---- a side that a line can have

module _ (network : ℕ) (x : Side) (h : Showable network x) where
  side_ok : (text : List ℕ) → all is_upper text ≡ true → SideOk text x
  unfolding head_text
  side_ok text u = record {
    upper = all_append is_upper text (after_name x.letters) u (conditions_upper x.letters);
    owed = shown_owed network x h;
  }

-- ---- what a text tells

-- the part that a side read in full is, with the conditions after its name
part_told : After → SideRead → Part
part_told a r = in_full r.price (conditions_by a r.tail) (shares_of r.volume)

module _ (network unit : ℕ) (x : Side) (h : Showable network x) (text : List ℕ) where
  part_told_lem : part_told (after_of x.letters) (side_shown text network unit Full true x) ≡ part_in x
  unfolding part_told side_shown pick
  part_told_lem = rw (conditions_by_lem x (lawful network x h), full_price_lem x.price (sound_price x.price h.price_fits).decimals, shares_back network unit x.volume)

-- the conditions after the first name
after_head : List ℕ → After
after_head run = elim (divide run).conditions [ none ↦ after false plain | some a ↦ a ]

record Told : Type 0 where
  name : List ℕ
  fact : ReadFact

-- a trade
trade_told : List ℕ → Told
trade_told t =
    let r = read_side t in
    record { name = (divide r.got.head).name; fact = read_trade r.got.price (conditions_by (after_head r.got.head) r.got.tail) (some (shares_of r.got.volume)) }

-- a cancel or an error, behind its opening
cancel_told : (Part → ReadFact) → List ℕ → Told
cancel_told kind t = let r = read_side t in record { name = (divide r.got.head).name; fact = kind (part_told (after_head r.got.head) r.got) }

-- a correction, behind its opening
correction_told : List ℕ → Told
correction_told t =
    let r = read_side t in
    let q = read_side (past (bytes "WAS.") r.rest) in
    record { name = (divide r.got.head).name; fact = read_correction (part_told (after_head r.got.head) r.got) (part_told (after_by q.got.head) q.got) }

told : List ℕ → Told
told t =
    pick (starts (bytes "<<<") t) (record { name = []; fact = read_announcement t })
    (pick (starts (bytes "<<CORR.") t) (correction_told (drop 7 t))
    (pick (starts (bytes "<<CXL.") t) (cancel_told read_cancel (drop 6 t))
    (pick (starts (bytes "<<ERR.") t) (cancel_told read_error (drop 6 t))
    (trade_told t))))

abbrev told_as : List ℕ → ReadFact → Told
told_as name fact = record { name = name; fact = fact }

trade_shown : (text : List ℕ) (network unit : ℕ) (x : Side) → Showable network x → told_as text (read_trade (side_shown text network unit Full true x).price (conditions_by (after_of x.letters) (side_shown text network unit Full true x).tail) (some (shares_of (side_shown text network unit Full true x).volume))) ≡ told_as text (read_trade (units x.price) (conditions_of x) (some x.volume))
unfolding side_shown pick
trade_shown text network unit x h = rw (conditions_by_lem x (lawful network x h), full_price_lem x.price (sound_price x.price h.price_fits).decimals, shares_back network unit x.volume)

after_by_lem : (d : Divided) {n : List ℕ} {a : After} → d ≡ record { name = n; conditions = some a } → elim d.conditions [ none ↦ after false plain | some b ↦ b ] ≡ a
after_by_lem d e = rw e

pair_ends : (x : Side) → Ends (end_pair x)
unfolding end_pair opt
pair_ends x = go x.letters.g
  where
    go : (g : Bool) → Ends (opt (not g) (bytes ">>"))
    go true = fresh_end.ends
    go false = fresh_end.pair

upper_if : (b : Bool) (t : List ℕ) → all is_upper t ≡ true → all is_upper (opt b t) ≡ true
unfolding opt all
upper_if true t h = h
upper_if false t h = refl

again_after : (network : ℕ) (name : List ℕ) → NamePlain network name → (x : Letters) → one_sold x ≡ true → (b : Bool) → repeats_name x ≡ b → after_by (opt b (name_text false name) ++ after_name x) ≡ after_of x
unfolding opt after_by
again_after network name e x o true r = after_run (name_text false name ++ after_name x) (after_of x) (heads_append is_letter (name_text false name) (after_name x) (name_head network name e false)) (ap (λ d. d.conditions) (name_back network name e false x o))
again_after network name e x o false r = let u = unrepeated x r in ap after_by u.0 ∙ sym u.1

-- ---- the text of a print tells its name and its facts

module _ (network : ℕ) (name : List ℕ) (e : NamePlain network name) where
  name_told : (b : Bool) (x : Letters) → one_sold x ≡ true → (divide (name_text b name ++ after_name x)).name ≡ name_text b name
  name_told b x o = ap (λ d. d.name) (name_back network name e b x o)

  after_told : (b : Bool) (x : Letters) → one_sold x ≡ true → after_head (name_text b name ++ after_name x) ≡ after_of x
  unfolding after_head
  after_told b x o = after_by_lem (divide (name_text b name ++ after_name x)) (name_back network name e b x o)

  module _ (unit : ℕ) (x : Side) (h : Showable network x) where
    pub read_side_lem : (b : Bool) (s : List ℕ) → Ends s → read_side (side_text (name_text b name) network unit Full true x ++ s) ≡ found (side_shown (name_text b name) network unit Full true x) s
    read_side_lem b s z = side_back (name_text b name) network unit Full true x s (side_ok network x h (name_text b name) (name_upper network name e b)) z

    head_name : (b : Bool) → (divide (side_shown (name_text b name) network unit Full true x).head).name ≡ name_text b name
    unfolding side_shown head_text
    head_name b = name_told b x.letters (shown_sold network x h)

    head_after : (b : Bool) → after_head (side_shown (name_text b name) network unit Full true x).head ≡ after_of x.letters
    unfolding side_shown head_text
    head_after b = after_told b x.letters (shown_sold network x h)

    trade_told_lem : trade_told (side_text (name_text true name) network unit Full true x) ≡ told_as (name_text true name) (read_trade (units x.price) (conditions_of x) (some x.volume))
    unfolding trade_told
    trade_told_lem =
        let t = side_text (name_text true name) network unit Full true x in
        let r : read_side t ≡ found (side_shown (name_text true name) network unit Full true x) [] = ap read_side (sym (append-nil t)) ∙ read_side_lem true [] fresh_end.ends in
        rw (r, head_name true, head_after true) (trade_shown (name_text true name) network unit x h)

    cancel_told_lem : (kind : Part → ReadFact) → cancel_told kind (side_text (name_text false name) network unit Full true x ++ end_pair x) ≡ told_as (name_text false name) (kind (part_in x))
    unfolding cancel_told
    cancel_told_lem kind = rw (read_side_lem false (end_pair x) (pair_ends x), head_name false, head_after false, part_told_lem network unit x h (name_text false name))

    module _ (y : Side) (i : Showable network y) where
      abbrev pub again : List ℕ
      again = opt (repeats_name y.letters) (name_text false name)

      abbrev second : List ℕ
      second = side_text again network unit Full true y ++ end_pair y

      again_upper : all is_upper again ≡ true
      again_upper = upper_if (repeats_name y.letters) (name_text false name) (name_upper network name e false)

      pub read_second : (s : List ℕ) → Ends s → read_side (side_text again network unit Full true y ++ s) ≡ found (side_shown again network unit Full true y) s
      read_second s z = side_back again network unit Full true y s (side_ok network y i again again_upper) z

      second_after : after_by (side_shown again network unit Full true y).head ≡ after_of y.letters
      unfolding side_shown head_text
      second_after = again_after network name e y.letters (shown_sold network y i) (repeats_name y.letters) refl

      correction_told_lem : correction_told (side_text (name_text false name) network unit Full true x ++ (bytes "WAS." ++ second)) ≡ told_as (name_text false name) (read_correction (part_in x) (part_in y))
      unfolding correction_told
      correction_told_lem = rw (read_side_lem false (bytes "WAS." ++ second) (fresh_was second), past_append (bytes "WAS.") second, read_second (end_pair y) (pair_ends y), head_name false, head_after false, part_told_lem network unit x h (name_text false name), second_after, part_told_lem network unit y i again)

-- ---- of any print

pub parts : (a b c : List ℕ) → a ++ bytes "WAS." ++ b ++ c ≡ a ++ (bytes "WAS." ++ (b ++ c))
parts a b c = append_assoc (a ++ bytes "WAS.") b c ∙ append_assoc a (bytes "WAS.") (b ++ c)

module _ (network unit : ℕ) (name : List ℕ) (e : Enterable network unit name) where
  tells_trade : (x : Side) → Showable network x → told (side_text (name_text true name) network unit Full true x) ≡ told_as (name_text true name) (read_trade (units x.price) (conditions_of x) (some x.volume))
  unfolding told pick
  tells_trade x h =
      let t = side_text (name_text true name) network unit Full true x in
      let l : heads is_letter t ≡ true = ap (heads is_letter) (sym (append-nil t)) ∙ trade_letter network unit name e x [] in
      rw (not_mark _ t l, not_mark _ t l, not_mark _ t l, not_mark _ t l) (trade_told_lem network name e.plain unit x h)

  tells_cancel : (x : Side) → Showable network x → told (cancel_text cancel_opening (name_text false name) network unit Full true x) ≡ told_as (name_text false name) (read_cancel (part_in x))
  unfolding told pick cancel_text starts
  tells_cancel x h = cancel_told_lem network name e.plain unit x h read_cancel

  tells_error : (x : Side) → Showable network x → told (cancel_text error_opening (name_text false name) network unit Full true x) ≡ told_as (name_text false name) (read_error (part_in x))
  unfolding told pick cancel_text starts
  tells_error x h = cancel_told_lem network name e.plain unit x h read_error

  tells_correction : (x y : Side) → Showable network x → Showable network y → told (correction_text (name_text false name) network unit Full true x y) ≡ told_as (name_text false name) (read_correction (part_in x) (part_in y))
  unfolding told pick correction_text starts
  tells_correction x y h i = ap correction_told (parts (side_text (name_text false name) network unit Full true x) (side_text (opt (repeats_name y.letters) (name_text false name)) network unit Full true y) (end_pair y)) ∙ correction_told_lem network name e.plain unit x h y i

tells_announcement : (t : List ℕ) → starts (bytes "<<<") t ≡ true → told t ≡ told_as [] (read_announcement t)
unfolding told pick
tells_announcement t h = rw h

tells : {t n : List ℕ} {f : ReadFact} → Printable t n f → told t ≡ told_as n f
tells (by_mode m n h) = tells_announcement (mode_text m n) (ap (starts (bytes "<<<")) (sym (append-nil (mode_text m n))) ∙ mode_starts m n [])
tells (by_level n h) = tells_announcement (level_text n) (ap (starts (bytes "<<<")) (sym (append-nil (level_text n))) ∙ level_starts n [])
tells (by_trade network unit name x e h) = tells_trade network unit name e x h
tells (by_cancel network unit name x e h) = tells_cancel network unit name e x h
tells (by_error network unit name x e h) = tells_error network unit name e x h
tells (by_correction network unit name x y e h i) = tells_correction network unit name e x y h i

-- THE TEXT DETERMINES NAME AND FACTS
pub determined : {text name other : List ℕ} {fact found : ReadFact} → NormalPrint text name fact → NormalPrint text other found → (name ≡ other) × (fact ≡ found)
determined p q =
    let e = sym (tells (normal_printable p)) ∙ tells (normal_printable q) in
    (ap (λ t. t.name) e, ap (λ t. t.fact) e)
