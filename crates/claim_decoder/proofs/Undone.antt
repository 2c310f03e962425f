-- The decoder undoes every print, before whatever may follow it. Assumes nothing.
use Prim.Native.Nat.{ℕ, ◌-◌, ◌≤◌, ◌<◌}
use mathlib.Core.Path.{◌≡◌, refl, sym, ap, ◌∙◌}
use mathlib.Core.Bool.{Bool, true, false, ◌&&◌, ◌||◌, not}
use mathlib.Core.List.{List, [], ◌∷◌, ◌++◌, append_assoc}
use mathlib.Core.Option.{some}
use lib.ListN.{length, get_or}
use Rattle.text.specs.Bytes.{bytes}
use Rattle.text.specs.Pick.{pick, opt}
use Rattle.text.specs.Reading.{found, heads, starts, past}
use Rattle.text.proofs.Reading.{past_append}
use Rattle.text.proofs.Parts.{heads_append, all_opt, all_append}
use Rattle.rules.specs.Tape.{is_letter, is_upper}
use Rattle.rules.specs.Names.{name_text, has_temporary}
use Rattle.rules.specs.Conditions.{after_name}
use Rattle.rules.specs.Price.{units, form_by}
use Rattle.rules.specs.Side.{head_text, side_text}
use Rattle.rules.specs.Trade.{is_normal}
use Rattle.rules.specs.Announcement.{mode_text, level_text, minimum_text}
use Rattle.rules.specs.Correction.{repeats_name, end_pair, correction_text, cancel_text, cancel_opening, error_opening}
use Rattle.rules.specs.Day.{no_name}
use Rattle.rules.specs.Shown.{conditions_of, Part, in_full, bare, part_of, Fact, announced, traded, cancelled, erred, corrected}
use Rattle.rules.specs.declared.Mode.{Mode}
use Rattle.rules.specs.declared.Mode.TheVariants.{Normal, Dvd, Rpo, Mpv}
use Rattle.rules.specs.declared.Letters.{Letters}
use Rattle.rules.specs.declared.Side.{Side}
use Rattle.text.proofs.Booleans.{false_true}
use Rattle.print_volume.specs.Reading.{unsaid, shares_of, shown_of}
use Rattle.print_volume.proofs.VolumeBack.{shares_back}
use Rattle.print_price.specs.Reading.{shown_price}
use Rattle.print_price.proofs.PriceBack.{full_price_lem}
use Rattle.print_conditions.specs.Reading.{tail_of}
use Rattle.print_conditions.proofs.TailBack.{Ends}
use Rattle.print_side.specs.Reading.{read_side, side_shown}
use Rattle.print_side.proofs.SideBack.{SideOk, side_back}
use Rattle.print_announcement.specs.Reading.{read_announcement}
use Rattle.print_announcement.proofs.Back.{told, mode_back, minimum_back, level_back}
use Rattle.name_back.specs.Plain.{NamePlain}
use Rattle.name_back.specs.Cut.{plain, opened, sold, last, After, after, sold_of, after_of, divide}
use Rattle.name_back.proofs.Back.{conditions_upper, name_upper, name_head, name_back}
use Rattle.claim_decoder.specs.Carried.{Carried}
use Rattle.claim_decoder.specs.Decode.{Names, is_name_of, name_in, price_by, volume_by, part_by, there, told_text, announcement_by, headed_by, head_of, trade_by, ended, cancel_by, after_by, correction_by, decode_correction, decode_cancel, decode_trade, decode}
use Rattle.claim_decoder.specs.Lawful.{LawfulSide}
use Rattle.claim_decoder.proofs.Sides.{conditions_by_lem, given_is}
use Rattle.claim_decoder.proofs.Lookup.{number_back, suffix_back}
use Rattle.claim_decoder.proofs.Fresh.{Fresh, fresh_was, letter_unlike}
use Rattle.rules.specs.declared.PriceForm.{PriceForm}

-- a security that is known by its name
pub record Known (names : Names) (network i : ℕ) : Type 0 where
  pub low : 1 ≤ i
  pub high : i ≤ length names
  pub is_plain : NamePlain network (name_in names i)
  pub alone : (b : Bool) (m : ℕ) → m < i - 1 → is_name_of (name_text b (name_in names i)) (get_or names m no_name) ≡ false

-- ---- a head

head_back : (names : Names) (network i : ℕ) → Known names network i → (b : Bool) (x : Side) → LawfulSide x → head_of names (head_text (name_text b (name_in names i)) x.letters) ≡ some (record { number = i; name = name_text b (name_in names i); after = after_of x.letters })
unfolding head_of head_text headed_by
head_back names network i k b x h =
    rw (name_back network (name_in names i) k.is_plain b x.letters h.sold, number_back names i b k.low k.high (k.alone b))

-- with its name or, as the correcting trade may be, without
side_ok : (network : ℕ) (n : List ℕ) → NamePlain network n → (a b : Bool) (x : Side) → LawfulSide x → SideOk (opt a (name_text b n)) x
unfolding head_text
side_ok network n k a b x h = record {
  upper = all_append is_upper (opt a (name_text b n)) (after_name x.letters) (all_opt is_upper a (name_text b n) (name_upper network n k b)) (conditions_upper x.letters);
  owed = h.owed;
}

-- ---- a trade

decode_trade_lem : (names : Names) (d : Carried) (t : List ℕ) → heads is_letter t ≡ true → decode names d t ≡ decode_trade names d t
unfolding decode starts pick is_letter
decode_trade_lem names d [] h = absurd (false_true h)
decode_trade_lem names d (c ∷ t) h = rw (letter_unlike 60 c h refl)

side_head : (name : List ℕ) (network unit : ℕ) (form : PriceForm) (shows : Bool) (x : Side) (s : List ℕ) → heads is_letter name ≡ true → heads is_letter (side_text name network unit form shows x ++ s) ≡ true
unfolding side_text head_text
side_head name network unit form shows x s h =
    simp append_assoc (heads_append is_letter name _ h)

-- what the decoder finds of a trade's print
pub trade_undone : (names : Names) (network i : ℕ) → Known names network i → (d : Carried) (b : Bool) (unit : ℕ) (form : PriceForm) (shows : Bool) (x : Side) (s : List ℕ) → LawfulSide x → Fresh s
    → decode names d (side_text (name_text b (name_in names i)) network unit form shows x ++ s)
    ≡ there (traded i (b && has_temporary (name_in names i)) (price_by d.mode (get_or d.printed (i - 1) 0) (shown_price form x.price)) (conditions_of x) (volume_by d.mode (pick shows (shown_of network unit x.volume) unsaid))) s
unfolding decode_trade trade_by side_shown opt
trade_undone names network i k d b unit form shows x s h f =
    let n = name_in names i in
    decode_trade_lem names d (side_text (name_text b n) network unit form shows x ++ s) (side_head (name_text b n) network unit form shows x s (name_head network n k.is_plain b))
    ∙ rw (side_back (name_text b n) network unit form shows x s (side_ok network n k.is_plain true b x h) f.ends, head_back names network i k b x h, conditions_by_lem x h, suffix_back b n)

-- ---- a side of a correction, cancel or error

part_by_lem : (mode : Mode) (name : List ℕ) (network unit : ℕ) (full shows : Bool) (x : Side) → LawfulSide x → part_by mode (after_of x.letters) (side_shown name network unit (form_by (is_normal mode || full)) (is_normal mode || shows) x) ≡ part_of (is_normal mode) x
unfolding part_by part_of side_shown form_by pick
part_by_lem mode name network unit full shows x h = rw (conditions_by_lem x h) (go (is_normal mode))
  where
    go : (m : Bool) → pick m (in_full (shown_price (form_by (m || full)) x.price) (conditions_of x) (shares_of (pick (m || shows) (shown_of network unit x.volume) unsaid))) (bare (conditions_of x)) ≡ pick m (in_full (units x.price) (conditions_of x) x.volume) (bare (conditions_of x))
    go true = rw (full_price_lem x.price h.owed.price.decimals, shares_back network unit x.volume)
    go false = refl

-- the end pair is there unless a closing G pair served
end_back : (x : Side) (s : List ℕ) → ended (tail_of x) (end_pair x ++ s) ≡ s
unfolding ended tail_of end_pair opt pick
end_back x s = rw (given_is x.letters.g (units x.previous)) (go x.letters.g)
  where
    go : (g : Bool) → pick g (opt (not g) (bytes ">>") ++ s) (past (bytes ">>") (opt (not g) (bytes ">>") ++ s)) ≡ s
    go true = refl
    go false = past_append (bytes ">>") s

pub end_ends : (x : Side) (s : List ℕ) → Fresh s → Ends (end_pair x ++ s)
unfolding end_pair opt
end_ends x s f = go x.letters.g
  where
    go : (g : Bool) → Ends (opt (not g) (bytes ">>") ++ s)
    go true = f.ends
    go false = f.pair

head_of_lem : (names : Names) (network i : ℕ) → Known names network i → (unit : ℕ) (form : PriceForm) (shows : Bool) (x : Side) → LawfulSide x → head_of names (side_shown (name_text false (name_in names i)) network unit form shows x).head ≡ some (record { number = i; name = name_text false (name_in names i); after = after_of x.letters })
unfolding side_shown
head_of_lem names network i k unit form shows x h = head_back names network i k false x h

pub end_of : (name : List ℕ) (network unit : ℕ) (form : PriceForm) (shows : Bool) (x : Side) (s : List ℕ) → ended (side_shown name network unit form shows x).tail (end_pair x ++ s) ≡ s
unfolding side_shown
end_of name network unit form shows x s = end_back x s

-- ---- a cancel, an error

pub cancel_back : (kind : ℕ → Part → Fact) (names : Names) (network i : ℕ) → Known names network i → (mode : Mode) (unit : ℕ) (full shows : Bool) (x : Side) (s : List ℕ) → LawfulSide x → Fresh s
    → decode_cancel kind names mode (side_text (name_text false (name_in names i)) network unit (form_by (is_normal mode || full)) (is_normal mode || shows) x ++ (end_pair x ++ s)) ≡ there (kind i (part_of (is_normal mode) x)) s
unfolding decode_cancel cancel_by opt
cancel_back kind names network i k mode unit full shows x s h f =
    let n = name_in names i in
    rw (side_back (name_text false n) network unit (form_by (is_normal mode || full)) (is_normal mode || shows) x (end_pair x ++ s) (side_ok network n k.is_plain true false x h) (end_ends x s f), head_of_lem names network i k unit (form_by (is_normal mode || full)) (is_normal mode || shows) x h, part_by_lem mode (name_text false n) network unit full shows x h, end_of (name_text false n) network unit (form_by (is_normal mode || full)) (is_normal mode || shows) x s)

decode_cancel_lem : (names : Names) (d : Carried) (t : List ℕ) → decode names d (bytes "<<CXL." ++ t) ≡ decode_cancel cancelled names d.mode t
unfolding decode starts past pick
decode_cancel_lem names d t = refl

decode_error : (names : Names) (d : Carried) (t : List ℕ) → decode names d (bytes "<<ERR." ++ t) ≡ decode_cancel erred names d.mode t
unfolding decode starts past pick
decode_error names d t = refl

decode_correction_lem : (names : Names) (d : Carried) (t : List ℕ) → decode names d (bytes "<<CORR." ++ t) ≡ decode_correction names d.mode t
unfolding decode starts past pick
decode_correction_lem names d t = refl

module _ (names : Names) (network i : ℕ) (k : Known names network i) (d : Carried) (unit : ℕ) (full shows : Bool) (x : Side) (s : List ℕ) (h : LawfulSide x) (f : Fresh s) where
  pub cancel_undone : decode names d (cancel_text cancel_opening (name_text false (name_in names i)) network unit (form_by (is_normal d.mode || full)) (is_normal d.mode || shows) x ++ s) ≡ there (cancelled i (part_of (is_normal d.mode) x)) s
  unfolding cancel_text
  cancel_undone = rw (append_assoc, append_assoc) (decode_cancel_lem names d _ ∙ cancel_back cancelled names network i k d.mode unit full shows x s h f)

  pub error_undone : decode names d (cancel_text error_opening (name_text false (name_in names i)) network unit (form_by (is_normal d.mode || full)) (is_normal d.mode || shows) x ++ s) ≡ there (erred i (part_of (is_normal d.mode) x)) s
  unfolding cancel_text
  error_undone = rw (append_assoc, append_assoc) (decode_error names d _ ∙ cancel_back erred names network i k d.mode unit full shows x s h f)

-- ---- a correction

-- the conditions after the repeated name, or none
pub unrepeated : (x : Letters) → repeats_name x ≡ false → (after_name x ≡ []) × (after_of x ≡ after false plain)
unfolding repeats_name after_name after_of sold_of opt pick
unrepeated x h = go x.s x.l x.o x.c x.k x.n x.m x.b h
  where
    go : (s l o c k n m b : Bool) → (s || (l || (o || (c || (k || (n || (m || b))))))) ≡ false
        → (opt (n || m) (bytes ".ND") ++ opt o (bytes ".OPD") ++ opt s (bytes ".SLD") ++ opt l (bytes ".SLD.LAST") ≡ []) × (after (n || m) (pick o opened (pick s sold (pick l last plain))) ≡ after false plain)
    go true l o c k n m b h = absurd (false_true (sym h))
    go false true o c k n m b h = absurd (false_true (sym h))
    go false false true c k n m b h = absurd (false_true (sym h))
    go false false false true k n m b h = absurd (false_true (sym h))
    go false false false false true n m b h = absurd (false_true (sym h))
    go false false false false false true m b h = absurd (false_true (sym h))
    go false false false false false false true b h = absurd (false_true (sym h))
    go false false false false false false false b h = (refl, refl)

pub after_run : (t : List ℕ) (a : After) → heads is_letter t ≡ true → (divide t).conditions ≡ some a → after_by t ≡ a
unfolding after_by
after_run [] a h e = absurd (false_true h)
after_run (c ∷ t) a h e = rw (e, after_by)

correcting_after : (network : ℕ) (n : List ℕ) → NamePlain network n → (y : Side) → LawfulSide y → after_by (head_text (opt (repeats_name y.letters) (name_text false n)) y.letters) ≡ after_of y.letters
unfolding head_text opt after_by
correcting_after network n k y h = go (repeats_name y.letters) refl
  where
    go : (b : Bool) → repeats_name y.letters ≡ b → after_by (opt b (name_text false n) ++ after_name y.letters) ≡ after_of y.letters
    go true e = after_run (name_text false n ++ after_name y.letters) (after_of y.letters) (heads_append is_letter (name_text false n) _ (name_head network n k false)) (ap (λ v. v.conditions) (name_back network n k false y.letters h.sold))
    go false e = let u = unrepeated y.letters e in ap after_by u.0 ∙ sym u.1

module _ (names : Names) (network i : ℕ) (k : Known names network i) (mode : Mode) (unit : ℕ) (full shows : Bool) (x y : Side) (s : List ℕ) (h : LawfulSide x) (l : LawfulSide y) (f : Fresh s) where
  abbrev n : List ℕ
  n = name_text false (name_in names i)

  abbrev m : List ℕ
  m = opt (repeats_name y.letters) n

  abbrev first : List ℕ
  first = side_text n network unit (form_by (is_normal mode || full)) (is_normal mode || shows) x

  abbrev second : List ℕ
  second = side_text m network unit (form_by (is_normal mode || full)) (is_normal mode || shows) y

  read_first : read_side (first ++ (bytes "WAS." ++ (second ++ (end_pair y ++ s)))) ≡ found (side_shown n network unit (form_by (is_normal mode || full)) (is_normal mode || shows) x) (bytes "WAS." ++ (second ++ (end_pair y ++ s)))
  unfolding opt
  read_first = side_back n network unit (form_by (is_normal mode || full)) (is_normal mode || shows) x _ (side_ok network (name_in names i) k.is_plain true false x h) (fresh_was (second ++ (end_pair y ++ s)))

  read_second : read_side (second ++ (end_pair y ++ s)) ≡ found (side_shown m network unit (form_by (is_normal mode || full)) (is_normal mode || shows) y) (end_pair y ++ s)
  read_second = side_back m network unit (form_by (is_normal mode || full)) (is_normal mode || shows) y (end_pair y ++ s) (side_ok network (name_in names i) k.is_plain (repeats_name y.letters) false y l) (end_ends y s f)

  after_of_lem : after_by (side_shown m network unit (form_by (is_normal mode || full)) (is_normal mode || shows) y).head ≡ after_of y.letters
  unfolding side_shown
  after_of_lem = correcting_after network (name_in names i) k.is_plain y l

  correction_back : decode_correction names mode (first ++ (bytes "WAS." ++ (second ++ (end_pair y ++ s)))) ≡ there (corrected i (part_of (is_normal mode) x) (part_of (is_normal mode) y)) s
  unfolding decode_correction correction_by
  correction_back =
      rw (read_first, past_append (bytes "WAS.") (second ++ (end_pair y ++ s)), read_second, head_of_lem names network i k unit (form_by (is_normal mode || full)) (is_normal mode || shows) x h, after_of_lem, part_by_lem mode n network unit full shows x h, part_by_lem mode m network unit full shows y l, end_of m network unit (form_by (is_normal mode || full)) (is_normal mode || shows) y s)

pub correction_undone : (names : Names) (network i : ℕ) → Known names network i → (d : Carried) (unit : ℕ) (full shows : Bool) (x y : Side) (s : List ℕ) → LawfulSide x → LawfulSide y → Fresh s
    → decode names d (correction_text (name_text false (name_in names i)) network unit (form_by (is_normal d.mode || full)) (is_normal d.mode || shows) x y ++ s) ≡ there (corrected i (part_of (is_normal d.mode) x) (part_of (is_normal d.mode) y)) s
unfolding correction_text
correction_undone names network i k d unit full shows x y s h l f =
    rw (append_assoc, append_assoc, append_assoc, append_assoc) (decode_correction_lem names d _ ∙ correction_back names network i k d.mode unit full shows x y s h l f)

-- ---- announcements

decode_announcement : (names : Names) (d : Carried) (t : List ℕ) → starts (bytes "<<<") t ≡ true → decode names d t ≡ announcement_by (read_announcement t)
unfolding decode pick
decode_announcement names d [] h = absurd (false_true (sym no_start ∙ h))
  where
    no_start : starts (bytes "<<<") [] ≡ false
    no_start = unfold starts in refl
decode_announcement names d (c ∷ t) h = rw h

minimum_starts : (n : ℕ) (s : List ℕ) → starts (bytes "<<<") (minimum_text n ++ s) ≡ true
unfolding minimum_text starts
minimum_starts n s = refl

pub mode_starts : (m : Mode) (n : ℕ) (s : List ℕ) → starts (bytes "<<<") (mode_text m n ++ s) ≡ true
unfolding mode_text starts
mode_starts Normal n s = refl
mode_starts Dvd n s = refl
mode_starts Rpo n s = refl
mode_starts Mpv n s = minimum_starts n s

pub level_starts : (n : ℕ) (s : List ℕ) → starts (bytes "<<<") (level_text n ++ s) ≡ true
unfolding level_text starts
level_starts n s = refl

told_text_lem : (m : Mode) (n : ℕ) → told_text (told m n) ≡ mode_text m n
unfolding told_text told mode_text
told_text_lem Normal n = refl
told_text_lem Dvd n = refl
told_text_lem Rpo n = refl
told_text_lem Mpv n = refl

module _ (names : Names) (d : Carried) where
  pub minimum_undone : (n : ℕ) (s : List ℕ) → decode names d (minimum_text n ++ s) ≡ there (announced (minimum_text n)) s
  unfolding announcement_by told_text
  minimum_undone n s = decode_announcement names d (minimum_text n ++ s) (minimum_starts n s) ∙ ap announcement_by (minimum_back n s)

  pub mode_undone : (m : Mode) (n : ℕ) (s : List ℕ) → decode names d (mode_text m n ++ s) ≡ there (announced (mode_text m n)) s
  unfolding announcement_by
  mode_undone m n s = decode_announcement names d (mode_text m n ++ s) (mode_starts m n s) ∙ (ap announcement_by (mode_back m n s) ∙ ap (λ (t : List ℕ). there (announced t) s) (told_text_lem m n))

  pub level_undone : (n : ℕ) (s : List ℕ) → n < 1000000000 → decode names d (level_text n ++ s) ≡ there (announced (level_text n)) s
  unfolding announcement_by told_text
  level_undone n s h = decode_announcement names d (level_text n ++ s) (level_starts n s) ∙ ap announcement_by (level_back n s h)
