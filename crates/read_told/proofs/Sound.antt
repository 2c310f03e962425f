-- Every side of a print has its numbers within their columns; an announcement is within the tape. Assumes nothing.
use Prim.Native.Nat.{ℕ, ◌+◌, ◌^◌, ◌<◌}
use native.Mathlib.Omega.{arith}
use mathlib.Core.Path.{◌≡◌, refl, sym, ap, subst, ◌∙◌}
use mathlib.Core.Bool.{Bool, true, false}
use mathlib.Core.List.{List}
use lib.ListN.{drop}
use Rattle.std.specs.Prelude.{Option, Some, None, Result, Ok, Err}
use Rattle.text.specs.Pick.{pick}
use Rattle.rules.specs.declared.Letters.{Letters}
use Rattle.rules.specs.declared.Refusal.TheVariants.{NoPrint}
use Rattle.rules.specs.declared.Side.{Side}
use Rattle.rules.specs.declared.Refusal.{Refusal}
use Rattle.print_price.specs.Sound.{Sound}
use Rattle.read_volume.specs.declared.Volume.{Volume}
use Rattle.read_volume.specs.declared.Volume.TheVariants.{Unsaid}
use Rattle.read_price.specs.Price.{price_at}
use Rattle.read_volume.specs.Volume.{volume_at, shares_in}
use Rattle.read_price.proofs.Text.{price_found}
use Rattle.read_price.specs.declared.PriceRead.{PriceRead}
use Rattle.read_volume.proofs.Shown.{volume_found, shares_small}
use Rattle.read_volume.specs.declared.VolumeRead.{VolumeRead}
use Rattle.read_conditions.specs.declared.Taken.{Taken}
use Rattle.read_conditions.proofs.Kept.{tail_volume, tail_price}
use Rattle.read_side.specs.declared.SideRead.{SideRead}
use Rattle.read_side.specs.Side.{head_count, sided_by, side_with, said_side, or_else, side_at}
use Rattle.read_name.specs.declared.NameRead.{NameRead}
use Rattle.read_name.specs.Head.{head_at}
use Rattle.read_name.specs.declared.AgainRead.{AgainRead}
use Rattle.read_announcement.specs.Announced.{announced_length}
use Rattle.reader.specs.declared.Print.TheVariants.{Announcement, Trade, Cancel, Error, Correction}
use Rattle.reader.specs.declared.PrintRead.{PrintRead}
use Rattle.reader.specs.declared.CorrectionRead.{CorrectionRead}
use Rattle.reader.specs.Read.{trade_side, trade_head, trade_at, ended_by, cancel_side, cancel_head, cancel_at, amended, corrected_by, second_side, second_head, second_at, correction_side, correction_head, correction_at, announced_by, print_at, read_at}
use Rattle.reader.specs.declared.Print.{Print}
use Rattle.facts_side.specs.Sound.{SoundSide}
use Rattle.read_told.proofs.Tails.{tail_days, tail_previous}

-- ---- a side

unfoldable SoundRead : Result SideRead Refusal → Type 0
SoundRead (Err r) = Unit {0}
SoundRead (Ok x) = SoundSide x.taken.side

read_chosen : (b : Bool) (x y : Result SideRead Refusal) → SoundRead x → SoundRead y → SoundRead (pick b x y)
unfolding pick
read_chosen true x y h k = h
read_chosen false x y h k = k

sided_sound : (part : List ℕ) (letters : Letters) (v : Volume) (used : ℕ) (a b : Bool) (price : Option PriceRead) → price_at (drop used part) ≡ price → shares_in v < 10 ^ 9 → SoundRead (sided_by part letters v used a b price)
unfolding sided_by SoundRead
sided_sound part letters v used a b None e h = tt
sided_sound part letters v used a b (Some p) e h =
    let st : Taken = record { side = record { volume = shares_in v; price = p.price; letters = letters; days = 0; previous = record { n = 0; d = 0 } }; used = used + p.used; count = head_count letters; a = a; b = b } in
    record {
      price_is = subst Sound (sym (tail_price part st)) (price_found (drop used part) p e).sound;
      previous_is = tail_previous part st (record { decimals = omega arith; small = omega arith });
      volume_is = omega (arith, tail_volume part st, h);
      days_is = tail_days part st (omega arith);
    }

module _ (first : Option Volume) (letters : Letters) (a b : Bool) (part : List ℕ) where
  with_sound : (v : Volume) (used : ℕ) → shares_in v < 10 ^ 9 → SoundRead (side_with first letters a b part v used)
  unfolding side_with SoundRead
  with_sound v used h = read_chosen _ _ (Err NoPrint) (sided_sound part letters v used _ _ (price_at (drop used part)) refl h) tt

  said_sound : (y : Option VolumeRead) → volume_at part ≡ y → SoundRead (said_side first letters a b part y)
  unfolding said_side SoundRead
  said_sound None e = tt
  said_sound (Some v) e = with_sound v.volume v.used (shares_small v.volume (volume_found part v e).small)

  else_sound : (x y : Result SideRead Refusal) → SoundRead x → SoundRead y → SoundRead (or_else x y)
  unfolding or_else
  else_sound (Ok x) y h k = h
  else_sound (Err r) y h k = k

  side_sound : SoundRead (side_at first letters a b part)
  unfolding side_at shares_in
  side_sound = else_sound _ _ (said_sound (volume_at part) refl) (with_sound Unsaid 0 (omega arith))

-- ---- an answer

unfoldable pub SoundAnswer : Result Print Refusal → Type 0
SoundAnswer (Ok (Announcement n)) = Unit {0}
SoundAnswer (Ok (Trade x)) = SoundSide x.side
SoundAnswer (Ok (Cancel x)) = SoundSide x.side
SoundAnswer (Ok (Error x)) = SoundSide x.side
SoundAnswer (Ok (Correction x)) = SoundSide x.original × SoundSide x.correcting
SoundAnswer (Err r) = Unit {0}

chosen : (b : Bool) (x y : Result Print Refusal) → SoundAnswer x → SoundAnswer y → SoundAnswer (pick b x y)
unfolding pick
chosen true x y h k = h
chosen false x y h k = k

refused : SoundAnswer (Err NoPrint)
unfolding SoundAnswer
refused = tt

trade_side_lem : (h : NameRead) (x : Result SideRead Refusal) → SoundRead x → SoundAnswer (trade_side h x)
unfolding trade_side SoundAnswer SoundRead
trade_side_lem h (Err r) k = tt
trade_side_lem h (Ok x) k = k

trade_sound : (s : List ℕ) (head : Option NameRead) → SoundAnswer (trade_head s head)
unfolding trade_head
trade_sound s None = refused
trade_sound s (Some h) = trade_side_lem h _ (side_sound None h.letters h.a h.b (drop h.used s))

amended_sound : (error : Bool) (x : PrintRead) → SoundSide x.side → SoundAnswer (amended error x)
unfolding amended SoundAnswer
amended_sound true x k = k
amended_sound false x k = k

ended_sound : (error : Bool) (h : NameRead) (x : Side) (end : Option ℕ) → SoundSide x → SoundAnswer (ended_by error h x end)
unfolding ended_by
ended_sound error h x None k = refused
ended_sound error h x (Some n) k = amended_sound error _ k

cancel_side_lem : (s : List ℕ) (error : Bool) (h : NameRead) (x : Result SideRead Refusal) → SoundRead x → SoundAnswer (cancel_side s error h x)
unfolding cancel_side SoundRead
cancel_side_lem s error h (Err r) k = refused
cancel_side_lem s error h (Ok x) k = ended_sound error h x.taken.side _ k

cancel_head_lem : (s : List ℕ) (error : Bool) (head : Option NameRead) → SoundAnswer (cancel_head s error head)
unfolding cancel_head
cancel_head_lem s error None = refused
cancel_head_lem s error (Some h) = cancel_side_lem s error h _ (side_sound None h.letters h.a h.b (drop (6 + h.used) s))

corrected_sound : (h : NameRead) (x y : Side) (end : Option ℕ) → SoundSide x → SoundSide y → SoundAnswer (corrected_by h x y end)
unfolding corrected_by SoundAnswer
corrected_sound h x y None k l = tt
corrected_sound h x y (Some n) k l = (k, l)

second_side_lem : (s : List ℕ) (h : NameRead) (x : Side) (n u : ℕ) (side : Result SideRead Refusal) → SoundSide x → SoundRead side → SoundAnswer (second_side s h x n u side)
unfolding second_side SoundRead
second_side_lem s h x n u (Err r) k l = refused
second_side_lem s h x n u (Ok y) k l = chosen _ _ (Err NoPrint) (corrected_sound h x y.taken.side _ k l) refused

second_head_lem : (s : List ℕ) (h : NameRead) (x : SideRead) (n : ℕ) (again : Option AgainRead) → SoundSide x.taken.side → SoundAnswer (second_head s h x n again)
unfolding second_head
second_head_lem s h x n None k = refused
second_head_lem s h x n (Some g) k = second_side_lem s h x.taken.side (n + g.used) g.used _ k (side_sound (Some x.volume) g.letters x.taken.a x.taken.b (drop (n + g.used) s))

second_at_lem : (s : List ℕ) (h : NameRead) (x : SideRead) (n : ℕ) → SoundSide x.taken.side → SoundAnswer (second_at s h x n)
unfolding second_at
second_at_lem s h x n k = chosen _ _ (Err NoPrint) (second_head_lem s h x (n + 4) _ k) refused

correction_side_lem : (s : List ℕ) (h : NameRead) (x : Result SideRead Refusal) → SoundRead x → SoundAnswer (correction_side s h x)
unfolding correction_side SoundRead
correction_side_lem s h (Err r) k = refused
correction_side_lem s h (Ok x) k = second_at_lem s h x (7 + h.used + x.taken.used) k

correction_head_lem : (s : List ℕ) (head : Option NameRead) → SoundAnswer (correction_head s head)
unfolding correction_head
correction_head_lem s None = refused
correction_head_lem s (Some h) = correction_side_lem s h _ (side_sound None h.letters h.a h.b (drop (7 + h.used) s))

announced_sound : (r : Option ℕ) → SoundAnswer (announced_by r)
unfolding announced_by SoundAnswer
announced_sound None = tt
announced_sound (Some n) = tt

pub answer_sound : (s : List ℕ) → SoundAnswer (print_at s)
unfolding print_at correction_at cancel_at trade_at
answer_sound s =
    chosen _ _ _ (announced_sound (announced_length s))
    (chosen _ _ _ (correction_head_lem s (head_at false (drop 7 s)))
    (chosen _ _ _ (cancel_head_lem s false (head_at false (drop 6 s)))
    (chosen _ _ _ (cancel_head_lem s true (head_at false (drop 6 s)))
    (trade_sound s (head_at true s)))))

-- ---- what a caller was answered

module _ (tape : List ℕ) (place : ℕ) (r : Result Print Refusal) (e : r ≡ read_at tape place) where
  told_sound : SoundAnswer r
  unfolding read_at
  told_sound = rw e (answer_sound (drop place tape))

  module _ (print : Print) (o : r ≡ Ok print) where
    pub trade_told_lem : (x : PrintRead) → print ≡ Trade x → SoundSide x.side
    unfolding SoundAnswer
    trade_told_lem x k = subst SoundAnswer (o ∙ ap Ok k) told_sound

    pub cancel_told_lem : (x : PrintRead) → print ≡ Cancel x → SoundSide x.side
    unfolding SoundAnswer
    cancel_told_lem x k = subst SoundAnswer (o ∙ ap Ok k) told_sound

    pub error_told : (x : PrintRead) → print ≡ Error x → SoundSide x.side
    unfolding SoundAnswer
    error_told x k = subst SoundAnswer (o ∙ ap Ok k) told_sound

    pub original_told : (x : CorrectionRead) → print ≡ Correction x → SoundSide x.original
    unfolding SoundAnswer
    original_told x k = (subst SoundAnswer (o ∙ ap Ok k) told_sound).0

    pub correcting_told : (x : CorrectionRead) → print ≡ Correction x → SoundSide x.correcting
    unfolding SoundAnswer
    correcting_told x k = (subst SoundAnswer (o ∙ ap Ok k) told_sound).1

pub ruleset sounds = (trade_told_lem, cancel_told_lem, error_told, original_told, correcting_told)
