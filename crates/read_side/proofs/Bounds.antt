-- Laws for callers: an answer's bytes are within the part. Assumes nothing.
use Prim.Native.Nat.{ℕ, ◌+◌, ◌≤◌}
use native.Mathlib.Omega.{arith}
use mathlib.Core.Path.{◌≡◌, refl, sym, ap, ◌∙◌}
use mathlib.Core.Bool.{Bool, true, false, ◌&&◌, ◌||◌, not}
use mathlib.Core.List.{List}
use lib.ListN.{length, drop}
use lib.Dec.{eqb, ltb}
use borrow.Author.Tests.{eqb-false}
use Rattle.std.specs.Prelude.{Option, Some, None, Result, Ok, Err}
use Rattle.text.specs.Bytes.{bytes}
use Rattle.text.specs.Pick.{pick}
use Rattle.text.proofs.Texts.{and_right}
use Rattle.rules.specs.declared.Letters.{Letters}
use Rattle.rules.specs.declared.Side.{Side}
use Rattle.read_price.specs.declared.Digits.{Digits}
use Rattle.read_volume.specs.declared.Volume.{Volume}
use Rattle.read_volume.specs.declared.Volume.TheVariants.{Unsaid}
use Rattle.read_price.specs.Price.{price_at}
use Rattle.read_price.specs.declared.PriceRead.{PriceRead}
use Rattle.read_volume.specs.Volume.{volume_at, explained}
use Rattle.read_volume.specs.declared.VolumeRead.{VolumeRead}
use Rattle.read_conditions.specs.declared.Taken.{Taken}
use Rattle.read_conditions.specs.Tail.{further, takes_cash, cash_at, takes_average, average_at, takes_stopped, stopped_at, seller_days, seller_by, seller_at, takes_rule, rule_at, previous_in, previous_by, previous_at, after_price_at, at_end_at, tail_at}
use Rattle.read_conditions.proofs.Steps.{room, days_room, last_room}
use Rattle.read_side.specs.declared.SideRead.{SideRead}
use Rattle.rules.specs.declared.Refusal.TheVariants.{NoPrint}
use Rattle.rules.specs.declared.Refusal.{Refusal}
use Rattle.read_side.specs.Side.{beside, sided_by, side_with, said_side, or_else, side_at}
use Rattle.read_side.proofs.Sides.{priced_room, said_room}

-- ---- the conditions, from any state

module _ (s : List ℕ) (st : Taken) (k : st.used ≤ length s) where
  step : (t : Bool) (y : Taken) → (t ≡ true → y.used ≤ length s) → (pick t y st).used ≤ length s
  unfolding pick
  step true y h = h refl
  step false y h = k

  cash_within : (cash_at s st).used ≤ length s
  unfolding cash_at takes_cash further
  cash_within = step (takes_cash s st) _ (λ h. room (bytes ",c") s st.used (and_right (not st.side.letters.m) _ (and_right (ltb st.count 4) _ h)) (omega arith))

  average_within : (average_at s st).used ≤ length s
  unfolding average_at takes_average further
  average_within = step (takes_average s st) _ (λ h. room (bytes ",b") s st.used (and_right (ltb st.count 4) _ h) (omega arith))

  stopped_within : (stopped_at s st).used ≤ length s
  unfolding stopped_at takes_stopped further
  stopped_within = step (takes_stopped s st) _ (λ h. room (bytes "t") s st.used (and_right (ltb st.count 4) _ h) (omega arith))

  by_seller_within : (d : Digits) → d ≡ seller_days (drop st.used s) → (seller_by st d).used ≤ length s
  unfolding seller_by further pick
  by_seller_within d e = go _ (eqb d.count 0) refl
    where
      go : (z : Side) (b : Bool) → eqb d.count 0 ≡ b → (pick b st (further st z (6 + d.count) st.a st.b)).used ≤ length s
      go z true q = k
      go z false q = days_room s st.used d e (eqb-false d.count 0 q)

  seller_within : (seller_at s st).used ≤ length s
  unfolding seller_at
  seller_within = step _ _ (λ h. by_seller_within (seller_days (drop st.used s)) refl)

  rule_within : (rule_at s st).used ≤ length s
  unfolding rule_at takes_rule further
  rule_within = step (takes_rule s st) _ (λ h. room (bytes "RULE127") s st.used (and_right st.a _ (and_right (ltb st.count 4) _ h)) (omega arith))

  by_previous_within : (x : Option PriceRead) → x ≡ previous_in (drop st.used s) → (previous_by st x).used ≤ length s
  unfolding previous_by further
  by_previous_within None e = k
  by_previous_within (Some p) e = last_room s st.used (Some p) p e refl

  previous_within : (previous_at s st).used ≤ length s
  unfolding previous_at
  previous_within = step _ _ (λ h. by_previous_within (previous_in (drop st.used s)) refl)

pub tail_room : (s : List ℕ) (st : Taken) → st.used ≤ length s → (tail_at s st).used ≤ length s
unfolding tail_at at_end_at after_price_at
tail_room s st k = previous_within s _ (rule_within s _ (seller_within s _ (stopped_within s _ (average_within s _ (cash_within s st k)))))

-- ---- the side

never : ◌≡◌ {A = ℕ} 0 1 → ⊥
never z = omega arith

abbrev used_of : Result SideRead Refusal → ℕ
used_of (Ok x) = x.taken.used
used_of (Err r) = 0

module _ (part : List ℕ) (letters : Letters) (x : SideRead) where
  used_is : (q : Taken) (v : Volume) → q.used ≤ length part → ◌≡◌ {A = Result SideRead Refusal} (Ok (record { volume = v; taken = q })) (Ok x) → x.taken.used ≤ length part
  used_is q v h e = let y : q.used ≡ x.taken.used = ap used_of e in omega arith

  sided_within : (v : Volume) (used : ℕ) (a b : Bool) (price : Option PriceRead) → used ≤ length part → price ≡ price_at (drop used part) → sided_by part letters v used a b price ≡ Ok x → x.taken.used ≤ length part
  unfolding sided_by
  sided_within v used a b None h e k = absurd (never (cc))
  sided_within v used a b (Some p) h e k = used_is _ v (tail_room part _ (priced_room part used p h (sym e))) k

  module _ (first : Option Volume) (a b : Bool) where
    with_within : (v : Volume) (used : ℕ) → used ≤ length part → side_with first letters a b part v used ≡ Ok x → x.taken.used ≤ length part
    unfolding side_with pick
    with_within v used h e = go (a && explained 65 (beside first v) v) (b && explained 66 (beside first v) v) e
      where
        go : (c d : Bool) → pick (c || d) (sided_by part letters v used c d (price_at (drop used part))) (Err NoPrint) ≡ Ok x → x.taken.used ≤ length part
        go true d k = sided_within v used true d (price_at (drop used part)) h refl k
        go false true k = sided_within v used false true (price_at (drop used part)) h refl k
        go false false k = absurd (never (cc))

    said_within : (volume : Option VolumeRead) → volume ≡ volume_at part → said_side first letters a b part volume ≡ Ok x → x.taken.used ≤ length part
    unfolding said_side
    said_within None e k = absurd (never (cc))
    said_within (Some v) e k = with_within v.volume v.used (said_room part (Some v) v refl e) k

    or_within : (y : Result SideRead Refusal) → (y ≡ Ok x → x.taken.used ≤ length part) → or_else y (side_with first letters a b part Unsaid 0) ≡ Ok x → x.taken.used ≤ length part
    unfolding or_else
    or_within (Ok z) h k = h k
    or_within (Err r) h k = with_within Unsaid 0 (omega arith) k

    -- r is what a caller was answered
    pub side_within : (r : Result SideRead Refusal) → r ≡ side_at first letters a b part → r ≡ Ok x → x.taken.used ≤ length part
    unfolding side_at
    side_within r e k = or_within (said_side first letters a b part (volume_at part)) (said_within (volume_at part) refl) (sym e ∙ k)
