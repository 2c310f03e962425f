-- A side that is read stands on the tape: its text, and what one line must satisfy. Assumes nothing.
use Prim.Native.Nat.{ℕ, zero, suc, ◌+◌, ◌-◌, ◌≤◌, ◌<◌}
use native.Mathlib.Nat.{zero-add}
use native.Mathlib.Omega.{arith}
use mathlib.Core.Path.{◌≡◌, refl, sym, ap, ◌∙◌, subst}
use mathlib.Core.Logic.{⊎_elim}
use mathlib.Core.Bool.{Bool, true, false, ◌&&◌, ◌||◌}
use mathlib.Core.List.{List, [], ◌∷◌, ◌++◌, append_assoc}
use lib.ListN.{length, take, drop, length-drop}
use Rattle.std.specs.Prelude.{Option, Some, None, Result, Ok, Err}
use Rattle.text.specs.Pick.{pick, among}
use Rattle.text.proofs.Texts.{and_left, and_right}
use Rattle.rules.specs.Price.{price_text}
use Rattle.rules.specs.Side.{tail_text}
use Rattle.rules.specs.Line.{is_unit}
use Rattle.rules.specs.declared.Letters.{Letters}
use Rattle.rules.specs.declared.Side.{Side}
use Rattle.print_price.specs.Sound.{Sound}
use Rattle.name_back.specs.Cut.{one_sold}
use Rattle.read_price.specs.declared.PriceRead.{PriceRead}
use Rattle.read_volume.specs.declared.Volume.{Volume}
use Rattle.read_volume.specs.declared.Volume.TheVariants.{Unsaid}
use Rattle.read_price.specs.Price.{price_at}
use Rattle.read_volume.specs.Volume.{volume_at, shares_in, figures_of, said_text, explains, explains_both, explained}
use Rattle.read_price.proofs.Text.{price_found}
use Rattle.read_volume.proofs.Shown.{volume_found}
use Rattle.read_volume.specs.declared.VolumeRead.{VolumeRead}
use Rattle.read_name.specs.Head.{letters_after}
use Rattle.read_conditions.specs.declared.Taken.{Taken}
use Rattle.read_conditions.specs.Tail.{plus_cash, plus_average, plus_stopped, plus_seller, plus_rule, plus_previous, side_with as tails·sideWith, cash_at, average_at, seller_at, rule_at, after_price_at, at_end_at, tail_at}
use Rattle.read_conditions.proofs.Standing.{cash_keeps, average_keeps, stopped_keeps, seller_keeps, rule_keeps, Bare, tail_text_lem, tail_from, tail_within}
use Rattle.read_conditions.proofs.Lawful.{one as tails·one, letter_count as tails·letterCount, Lawful, bare_lawful, tail_lawful}
use Rattle.read_conditions.proofs.Kept.{previous_keeps, tail_explained, tail_volume, tail_price, tail_o, tail_s, tail_l, tail_n, tail_m, tail_c}
use Rattle.read_side.specs.declared.SideRead.{SideRead}
use Rattle.rules.specs.declared.Refusal.{Refusal}
use Rattle.rules.specs.declared.Refusal.TheVariants.{NoPrint}
use Rattle.text.proofs.Booleans.{false_true, or_cases}
use Rattle.read_side.specs.Side.{head_count, beside, sided_by, side_with, said_side, or_else, side_at}
use Rattle.rules.specs.declared.PriceForm.TheVariants.{Full}

-- ---- one unit of trading explains

pub record Unit (network : ℕ) (x y : Volume) : Type 0 where
  pub unit : ℕ
  pub lawful : is_unit unit ≡ true
  pub first : explains network unit x ≡ true
  pub second : explains network unit y ≡ true

unit_of : (network unit : ℕ) (x y : Volume) → is_unit unit ≡ true → explains_both network unit x y ≡ true → Unit network x y
unfolding explains_both
unit_of network unit x y u h = record { unit = unit; lawful = u; first = and_left (explains network unit x) _ h; second = and_right (explains network unit x) _ h }

explaining : (network : ℕ) (x y : Volume) → explained network x y ≡ true → Unit network x y
unfolding explained is_unit among
explaining network x y h =
    ⊎_elim (λ q. unit_of network 100 x y refl q)
    (λ h₂. ⊎_elim (λ q. unit_of network 50 x y refl q)
    (λ h₃. ⊎_elim (λ q. unit_of network 25 x y refl q)
    (λ h₄. ⊎_elim (λ q. unit_of network 10 x y refl q)
    (λ q. unit_of network 1 x y refl q)
    (or_cases (explains_both network 10 x y) (explains_both network 1 x y) h₄))
    (or_cases (explains_both network 25 x y) (explains_both network 10 x y || explains_both network 1 x y) h₃))
    (or_cases (explains_both network 50 x y) (explains_both network 25 x y || (explains_both network 10 x y || explains_both network 1 x y)) h₂))
    (or_cases (explains_both network 100 x y) (explains_both network 50 x y || (explains_both network 25 x y || (explains_both network 10 x y || explains_both network 1 x y))) h)

-- ---- days and previous last stand only with their letters

-- what is kept by each step: days are 0 where there is no R
unfoldable pub days_here : Side → ℕ
days_here y = pick y.letters.r 0 y.days

unfoldable pub number_here : Side → ℕ
number_here y = pick y.letters.g 0 y.previous.n

unfoldable pub decimals_here : Side → ℕ
decimals_here y = pick y.letters.g 0 y.previous.d

module _ (s : List ℕ) (st : Taken) where
  before_seller : (f : Side → ℕ) → ((y : Side) → f (tails·sideWith y (plus_cash y.letters) y.days y.previous) ≡ f y) → ((y : Side) → f (tails·sideWith y (plus_average y.letters) y.days y.previous) ≡ f y) → ((y : Side) → f (tails·sideWith y (plus_stopped y.letters) y.days y.previous) ≡ f y) → f (after_price_at s st).side ≡ f st.side
  unfolding after_price_at
  before_seller f a b c = stopped_keeps f s (average_at s (cash_at s st)) (c _) ∙ (average_keeps f s (cash_at s st) (b _) ∙ cash_keeps f s st (a _))

  days_kept : days_here st.side ≡ 0 → days_here (tail_at s st).side ≡ 0
  unfolding tail_at at_end_at days_here tails·sideWith plus_cash plus_average plus_stopped plus_seller plus_rule plus_previous pick
  days_kept h =
      let x = after_price_at s st in
      let e : days_here x.side ≡ 0 = before_seller days_here (λ y. refl) (λ y. refl) (λ y. refl) ∙ h in
      let y = seller_at s x in
      let z = rule_at s y in
      previous_keeps days_here s z (λ p. refl) ∙ (rule_keeps days_here s y refl ∙ (seller_keeps days_here s x (λ n. sym e) ∙ e))

  number_kept : number_here st.side ≡ 0 → st.side.letters.g ≡ false → number_here (tail_at s st).side ≡ 0
  unfolding tail_at at_end_at number_here tails·sideWith plus_cash plus_average plus_stopped plus_seller plus_rule plus_previous pick
  number_kept h g =
      let x = after_price_at s st in
      let y = seller_at s x in
      let z = rule_at s y in
      let e : number_here z.side ≡ 0 = rule_keeps number_here s y refl ∙ (seller_keeps number_here s x (λ n. refl) ∙ (before_seller number_here (λ y. refl) (λ y. refl) (λ y. refl) ∙ h)) in
      previous_keeps number_here s z (λ p. sym e) ∙ e

  decimals_kept : decimals_here st.side ≡ 0 → st.side.letters.g ≡ false → decimals_here (tail_at s st).side ≡ 0
  unfolding tail_at at_end_at decimals_here tails·sideWith plus_cash plus_average plus_stopped plus_seller plus_rule plus_previous pick
  decimals_kept h g =
      let x = after_price_at s st in
      let y = seller_at s x in
      let z = rule_at s y in
      let e : decimals_here z.side ≡ 0 = rule_keeps decimals_here s y refl ∙ (seller_keeps decimals_here s x (λ n. refl) ∙ (before_seller decimals_here (λ y. refl) (λ y. refl) (λ y. refl) ∙ h)) in
      previous_keeps decimals_here s z (λ p. sym e) ∙ e

-- ---- a side behind its volume and price

-- the letters of a head: those after the name, at most one of O, S and L
pub record Headed (x : Letters) : Type 0 where
  pub bare : Bare x
  pub no_n : x.n ≡ false
  pub sold : one_sold x ≡ true

-- the state before the conditions
abbrev pub beginning : Letters → Volume → ℕ → Bool → Bool → PriceRead → Taken
beginning letters v used a b p = record {
  side = record { volume = shares_in v; price = p.price; letters = letters; days = 0; previous = record { n = 0; d = 0 } };
  used = used + p.used;
  count = head_count letters;
  a = a;
  b = b;
}

bit : (b : Bool) → pick b 1 0 ≤ 1
unfolding pick
bit true = omega arith
bit false = omega arith

head_few : (x : Letters) → one_sold x ≡ true → head_count x ≤ 4
unfolding one_sold head_count pick
head_few x h = omega (bit x.o, bit x.s, bit x.l, bit x.m, arith)

-- what is counted after the name is all that is counted
pub same_bit : (b : Bool) → pick b 1 0 ≡ tails·one b
unfolding pick tails·one
same_bit true = refl
same_bit false = refl

none_there : tails·one false ≡ 0
unfolding tails·one
none_there = refl

all_same : (o s l m : Bool) → pick o 1 0 + (pick s 1 0 + (pick l 1 0 + pick m 1 0)) ≡ tails·one o + tails·one s + tails·one l + tails·one false + tails·one m + tails·one false + tails·one false + tails·one false + tails·one false + tails·one false + tails·one false + tails·one false
all_same o s l m = omega (same_bit o, same_bit s, same_bit l, same_bit m, none_there, arith)

head_all : (x : Letters) → Headed x → head_count x ≡ tails·letterCount x
unfolding head_count tails·letterCount
head_all x h = rw (h.no_n, h.bare.no_c, h.bare.no_k, h.bare.no_b, h.bare.no_t, h.bare.no_r, h.bare.no_j, h.bare.no_g) (all_same x.o x.s x.l x.m)

-- what a side that is read tells
pub record SideTold (first : Option Volume) (letters : Letters) (a b : Bool) (part : List ℕ) (x : SideRead) : Type 0 where
  pub within : x.taken.used ≤ length part
  pub shares : x.taken.side.volume ≡ shares_in x.volume
  pub small : figures_of x.volume < 1000000000
  pub lawful : Lawful x.taken
  pub o_kept : x.taken.side.letters.o ≡ letters.o
  pub s_kept : x.taken.side.letters.s ≡ letters.s
  pub l_kept : x.taken.side.letters.l ≡ letters.l
  pub m_kept : x.taken.side.letters.m ≡ letters.m
  pub no_n : x.taken.side.letters.n ≡ false
  pub no_c : x.taken.side.letters.c ≡ false
  pub price_sound : Sound x.taken.side.price
  pub price_some : 1 ≤ x.taken.side.price.n
  pub days_none : days_here x.taken.side ≡ 0
  pub number_none : number_here x.taken.side ≡ 0
  pub decimals_none : decimals_here x.taken.side ≡ 0
  pub on_a : x.taken.a ≡ true → (a ≡ true) × Unit 65 (beside first x.volume) x.volume
  pub on_b : x.taken.b ≡ true → (b ≡ true) × Unit 66 (beside first x.volume) x.volume
  pub one : (x.taken.a || x.taken.b) ≡ true
  pub text : take x.taken.used part ≡ said_text x.volume ++ (price_text Full x.taken.side.price ++ tail_text x.taken.side)

take_none : (n : ℕ) → ◌≡◌ {A = List ℕ} [] (take n [])
take_none zero = refl
take_none (suc n) = refl

more : (m n : ℕ) → suc m + n ≡ suc (m + n)
more m n = omega arith

is_side : Result SideRead Refusal → Bool
is_side (Ok x) = true
is_side (Err q) = false

pub no_side : {q : Refusal} (x : SideRead) → Err q ≡ Ok x → ⊥
unfolding is_side
no_side x e = false_true (ap is_side e)

abbrev pub any_side : SideRead
any_side = record { volume = Unsaid; taken = record { side = record { volume = 0; price = record { n = 0; d = 0 }; letters = letters_after false false false false; days = 0; previous = record { n = 0; d = 0 } }; used = 0; count = 0; a = false; b = false } }

unfoldable pub side_in : Result SideRead Refusal → SideRead
side_in (Ok x) = x
side_in (Err q) = any_side

-- a front of a list in two steps
pub two_fronts : (s : List ℕ) (m n : ℕ) → take (m + n) s ≡ take m s ++ take n (drop m s)
two_fronts s zero n = ap (λ k. take k s) (zero-add n)
two_fronts [] (suc m) n = ap (λ k. take k []) (more m n) ∙ take_none n
two_fronts (c ∷ s) (suc m) n = ap (λ k. take k (c ∷ s)) (more m n) ∙ ap (λ z. c ∷ z) (two_fronts s m n)

whole : (part v p tail : List ℕ) (used more end : ℕ) → take used part ≡ v → take more (drop used part) ≡ p → take (end - (used + more)) (drop (used + more) part) ≡ tail → used + more ≤ end → take end part ≡ v ++ (p ++ tail)
whole part v p tail used more end e f g l =
    let k : end ≡ used + more + (end - (used + more)) = omega (l, arith) in
    ap (λ n. take n part) k ∙ two_fronts part (used + more) (end - (used + more)) ∙ ap (λ z. z ++ take (end - (used + more)) (drop (used + more) part)) (two_fronts part used more ∙ ap (λ z. z ++ take more (drop used part)) e ∙ ap (λ z. v ++ z) f) ∙ ap (λ z. (v ++ p) ++ z) g ∙ append_assoc v p tail

module _ (first : Option Volume) (letters : Letters) (a b : Bool) (part : List ℕ) (h : Headed letters) (v : Volume) (used : ℕ) (w : used ≤ length part) (t : take used part ≡ said_text v) (f : figures_of v < 1000000000) where
  yes_a : Bool
  yes_a = a && explained 65 (beside first v) v

  yes_b : Bool
  yes_b = b && explained 66 (beside first v) v

  told_priced : (p : PriceRead) → price_at (drop used part) ≡ Some p → (yes_a || yes_b) ≡ true → SideTold first letters a b part (record { volume = v; taken = tail_at part (beginning letters v used yes_a yes_b p) })
  unfolding yes_a yes_b days_here number_here decimals_here pick
  told_priced p e o =
      let st = beginning letters v used (a && explained 65 (beside first v) v) (b && explained 66 (beside first v) v) p in
      let q = price_found (drop used part) p e in
      let n : used + p.used ≤ length part = omega (q.within, length-drop used part, w, arith) in
      let l = tail_lawful part st h.bare (bare_lawful st h.bare (head_all letters h) (head_few letters h.sold)) in
      let x = tail_explained part st in
      let r = tail_from part st h.bare n in
      record {
        within = tail_within part st h.bare n;
        shares = tail_volume part st;
        small = f;
        lawful = l;
        o_kept = tail_o part st;
        s_kept = tail_s part st;
        l_kept = tail_l part st;
        m_kept = tail_m part st;
        no_n = tail_n part st ∙ h.no_n;
        no_c = tail_c part st ∙ h.bare.no_c;
        price_sound = subst Sound (sym (tail_price part st)) q.sound;
        price_some = subst (λ z. 1 ≤ z.n) (sym (tail_price part st)) q.some;
        days_none = days_kept part st (rw h.bare.no_r);
        number_none = number_kept part st (rw h.bare.no_g) h.bare.no_g;
        decimals_none = decimals_kept part st (rw h.bare.no_g) h.bare.no_g;
        on_a = λ z. (and_left a _ (x.a_was z), explaining 65 (beside first v) v (and_right a _ (x.a_was z)));
        on_b = λ z. (and_left b _ (x.b_was z), explaining 66 (beside first v) v (and_right b _ (x.b_was z)));
        one = x.some o;
        text = whole part (said_text v) (price_text Full (tail_at part st).side.price) (tail_text (tail_at part st).side) used p.used (tail_at part st).used t (q.text ∙ ap (price_text Full) (sym (tail_price part st))) (tail_text_lem part st h.bare n) r;
      }

  told_by : (y : Option PriceRead) → price_at (drop used part) ≡ y → (yes_a || yes_b) ≡ true → (x : SideRead) → sided_by part letters v used yes_a yes_b y ≡ Ok x → SideTold first letters a b part x
  unfolding sided_by side_in
  told_by None e o x k = absurd (no_side x k)
  told_by (Some p) e o x k = subst (SideTold first letters a b part) (ap side_in k) (told_priced p e o)

  told_pick : (t : Bool) → (yes_a || yes_b) ≡ t → (x : SideRead) → pick t (sided_by part letters v used yes_a yes_b (price_at (drop used part))) (Err NoPrint) ≡ Ok x → SideTold first letters a b part x
  unfolding pick
  told_pick true o x k = told_by (price_at (drop used part)) refl o x k
  told_pick false o x k = absurd (no_side x k)

  with_told : (x : SideRead) → side_with first letters a b part v used ≡ Ok x → SideTold first letters a b part x
  unfolding side_with yes_a yes_b
  with_told x k = told_pick (yes_a || yes_b) refl x k

module _ (first : Option Volume) (letters : Letters) (a b : Bool) (part : List ℕ) (h : Headed letters) where
  unsaid_told : (x : SideRead) → side_with first letters a b part Unsaid 0 ≡ Ok x → SideTold first letters a b part x
  unfolding said_text figures_of
  unsaid_told x k = with_told first letters a b part h Unsaid 0 (omega arith) refl (omega arith) x k

  said_told : (y : Option VolumeRead) → volume_at part ≡ y → (x : SideRead) → said_side first letters a b part y ≡ Ok x → SideTold first letters a b part x
  unfolding said_side
  said_told None e x k = absurd (no_side x k)
  said_told (Some v) e x k = let f = volume_found part v e in with_told first letters a b part h v.volume v.used f.within f.text f.small x k

  either_told : (y : Result SideRead Refusal) → said_side first letters a b part (volume_at part) ≡ y → (x : SideRead) → or_else y (side_with first letters a b part Unsaid 0) ≡ Ok x → SideTold first letters a b part x
  unfolding or_else side_in
  either_told (Err q) e x k = unsaid_told x k
  either_told (Ok z) e x k = said_told (volume_at part) refl x (e ∙ k)

  -- WHAT IS READ STANDS THERE
  pub side_told : (x : SideRead) → side_at first letters a b part ≡ Ok x → SideTold first letters a b part x
  unfolding side_at
  side_told x k = either_told (said_side first letters a b part (volume_at part)) refl x k
