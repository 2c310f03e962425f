-- A whole side comes back from its text: head, volume, price and tail. Assumes nothing.
use Prim.Native.Nat.{ℕ, suc, zero, ◌+◌, ◌*◌, ◌-◌, ◌/◌, ◌%◌, ◌^◌, ◌≤◌, ◌<◌}
use native.Mathlib.Nat.{mod-lt, one-le-pow, div-add-mod', zero-mul}
use native.Mathlib.Omega.{arith}
use mathlib.Core.Path.{◌≡◌, refl, ap, sym, ◌∙◌}
use mathlib.Core.List.{List, [], ◌∷◌, ◌++◌, append_assoc}
use mathlib.Core.Bool.{Bool, true, false}
use mathlib.Core.Option.{none}
use lib.Dec.{ltb, eqb}
use borrow.Author.Tests.{eqb-true, eqb-false, lt-leb, ne_eqb}
use Rattle.text.specs.Pick.{pick, opt, all, among}
use Rattle.text.specs.Decimal.{decimal, places}
use Rattle.text.specs.Reading.{found, heads, is_digit, span}
use Rattle.text.proofs.Decimal.{decimal_small, decimal_big, ten_ind}
use Rattle.text.proofs.Reading.{span_all}
use Rattle.rules.specs.Tape.{is_letter, is_upper}
use Rattle.rules.specs.Volume.{group, full_volume, volume_text}
use Rattle.rules.specs.Price.{whole_part, fraction, whole_text, fraction_text, short_whole, dollars_text, price_text}
use Rattle.rules.specs.Side.{head_text, tail_text, side_text}
use Rattle.rules.specs.declared.Price.{Price}
use Rattle.rules.specs.declared.Side.{Side}
use Rattle.line_owed.specs.Owed.{OwedSide}
use Rattle.print_volume.specs.Reading.{Figure, digit, dot, stop, figure, figures, mark_at, mark_text, Shown, unsaid, said, shown_of, shown_text, read_volume}
use Rattle.text.specs.Reading.{dot_digit}
use Rattle.print_volume.proofs.VolumeBack.{figures_digit, figures_dot, figures_stop, volume_shown, shown_back, shown_within, Within, unsaid_within}
use Rattle.print_price.proofs.PriceBack.{NoMore, price_back, places_dot}
use Rattle.print_side.specs.Reading.{read_side, side_shown}
use Rattle.print_conditions.proofs.TailBack.{Ends, tail_back, tail_digit, tail_dot, tail_mark}
use Rattle.rules.specs.declared.PriceForm.{PriceForm}
use Rattle.rules.specs.declared.PriceForm.TheVariants.{Full, Short}

-- ---- where the figures of a price end

-- that does not hang on what they come to
run : List ℕ → List ℕ
run s = (figures 0 s).rest

run_any : (a b : ℕ) (s : List ℕ) → (figures a s).rest ≡ (figures b s).rest
unfolding figures
run_any a b [] = refl
run_any a b (c ∷ s) = go (figure c s) refl (λ x y. run_any x y s)
  where
    go : (k : Figure) → figure c s ≡ k → ((x y : ℕ) → (figures x s).rest ≡ (figures y s).rest) → (figures a (c ∷ s)).rest ≡ (figures b (c ∷ s)).rest
    go digit e ih = rw (e, figures) (ih (10 * a + (c - 48)) (10 * b + (c - 48)))
    go dot e ih = rw (e, figures) (ih a b)
    go stop e ih = rw (e, figures)

run_digit : (q : ℕ) (s : List ℕ) → q < 10 → run ((48 + q) ∷ s) ≡ run s
unfolding run
run_digit q s h = ap (λ r. r.rest) (figures_digit 0 q s h) ∙ run_any _ 0 s

run_decimal : (n : ℕ) (s : List ℕ) → run (decimal n ++ s) ≡ run s
run_decimal = ten_ind (λ n. (s : List ℕ) → run (decimal n ++ s) ≡ run s)
    (λ n h s. rw (decimal_small n h) (run_digit n s h))
    (λ n h ih s. rw (decimal_big n h, append_assoc, ih ((48 + n % 10) ∷ s)) (run_digit (n % 10) s (omega arith)))

run_places : (d n : ℕ) (s : List ℕ) → run (places d n ++ s) ≡ run s
unfolding places
run_places zero n s = refl
run_places (suc d) n s = rw (append_assoc, run_places d (n / 10) ((48 + n % 10) ∷ s)) (run_digit (n % 10) s (omega arith))

run_stop : (s : List ℕ) → NoMore s → run s ≡ s
unfolding run
run_stop s m = ap (λ r. r.rest) (figures_stop 0 s m.digit m.dot)

places_first : (d f : ℕ) (s : List ℕ) → f < 10 ^ d → (f ≡ 0 → ⊥) → heads is_digit (places d f ++ s) ≡ true
unfolding dot_digit
places_first d f s h z = places_dot d f s h z

run_fraction : (d f : ℕ) (s : List ℕ) → f < 10 ^ d → NoMore s → run (fraction_text d f ++ s) ≡ s
unfolding fraction_text run pick
run_fraction d f s h m = go (eqb f 0) refl
  where
    go : (b : Bool) → eqb f 0 ≡ b → run (pick b [] (44 ∷ places d f) ++ s) ≡ s
    go true e = run_stop s m
    go false e = ap (λ r. r.rest) (figures_dot 0 (places d f ++ s) (places_first d f s h (eqb-false f 0 e))) ∙ run_places d f s ∙ run_stop s m

run_front : (form : PriceForm) (w : ℕ) (s : List ℕ) → run (dollars_text form w ++ s) ≡ run s
unfolding dollars_text whole_text short_whole pick
run_front Full w s = go (eqb w 0)
  where
    go : (a : Bool) → run (pick a [] (decimal w) ++ s) ≡ run s
    go true = refl
    go false = run_decimal w s
run_front Short w s = run_digit (w % 10) s (omega arith)

run_price : (form : PriceForm) (p : Price) (s : List ℕ) → NoMore s → run (price_text form p ++ s) ≡ s
unfolding price_text fraction
run_price form p s m =
    rw append_assoc (run_front form (whole_part p) (fraction_text p.d (p.n % 10 ^ p.d) ++ s)
    ∙ run_fraction p.d (p.n % 10 ^ p.d) s (mod-lt p.n (one-le-pow p.d 10 (omega arith))) m)

run_is : (form : PriceForm) (p : Price) (s : List ℕ) → NoMore s → (figures 0 (price_text form p ++ s)).rest ≡ s
unfolding run
run_is form p s m = run_price form p s m

-- ---- figures stand in the lower row

upper_no : (c : ℕ) → 47 ≤ c → c ≤ 64 → is_upper c ≡ false
unfolding is_upper is_letter among
upper_no c h k = rw (lt-leb 65 c (omega arith), ne_eqb c 38 (omega arith), ne_eqb c 46 (omega arith), ne_eqb c 112 (omega arith), ne_eqb c 114 (omega arith), ne_eqb c 119 (omega arith))

lower_decimal : (n : ℕ) (s : List ℕ) → heads is_upper (decimal n ++ s) ≡ false
lower_decimal = ten_ind (λ n. (s : List ℕ) → heads is_upper (decimal n ++ s) ≡ false)
    (λ n h s. rw (decimal_small n h) (upper_no (48 + n) (omega arith) (omega arith)))
    (λ n h ih s. rw (decimal_big n h, append_assoc) (ih ((48 + n % 10) ∷ s)))

lower_full : (n : ℕ) (s : List ℕ) → heads is_upper (full_volume n ++ s) ≡ false
unfolding full_volume pick
lower_full n s = go (ltb n 10000) (ltb n 1000000)
  where
    go : (a b : Bool) → heads is_upper (pick a (decimal n) (pick b (decimal (n / 1000) ++ group n) (decimal (n / 1000000) ++ group (n / 1000) ++ group n)) ++ s) ≡ false
    go true b = lower_decimal n s
    go false true = rw append_assoc (lower_decimal (n / 1000) (group n ++ s))
    go false false = rw (append_assoc, append_assoc) (lower_decimal (n / 1000000) (group (n / 1000) ++ (group n ++ s)))

lower_shown : (x : Shown) (s : List ℕ) → heads is_upper s ≡ false → heads is_upper (shown_text x ++ s) ≡ false
unfolding shown_text
lower_shown unsaid s h = h
lower_shown (said n m) s h = rw append_assoc (lower_full n (mark_text m ++ s))

comma : is_upper 44 ≡ false
unfolding is_upper is_letter among
comma = refl

no_price : (p : Price) → 1 ≤ p.n → whole_part p ≡ 0 → fraction p ≡ 0 → ⊥
unfolding whole_part fraction
no_price p h w f =
    let e : p.n / 10 ^ p.d * 10 ^ p.d + p.n % 10 ^ p.d ≡ p.n = div-add-mod' p.n (10 ^ p.d) in
    let z : p.n ≡ 0 = sym e ∙ rw (w, f, zero-mul) in
    omega arith

-- a price is some text: figures or a figure dot
pub lower_price : (form : PriceForm) (p : Price) (s : List ℕ) → 1 ≤ p.n → heads is_upper (price_text form p ++ s) ≡ false
unfolding price_text dollars_text whole_text short_whole fraction_text pick
lower_price Short p s h = upper_no (48 + whole_part p % 10) (omega arith) (omega arith)
lower_price Full p s h = go (eqb (whole_part p) 0) (eqb (fraction p) 0) refl refl
  where
    go : (a b : Bool) → eqb (whole_part p) 0 ≡ a → eqb (fraction p) 0 ≡ b → heads is_upper ((pick a [] (decimal (whole_part p)) ++ pick b [] (44 ∷ places p.d (fraction p))) ++ s) ≡ false
    go false b e f = rw append_assoc (lower_decimal (whole_part p) _)
    go true false e f = comma
    go true true e f = absurd (no_price p h (eqb-true (whole_part p) 0 e) (eqb-true (fraction p) 0 f))

-- ---- the whole side

shown_if : (shows : Bool) (network unit v : ℕ) → opt shows (volume_text network unit v) ≡ shown_text (pick shows (shown_of network unit v) unsaid)
unfolding opt pick shown_text
shown_if true network unit v = volume_shown network unit v
shown_if false network unit v = refl

within_if : (shows : Bool) (x : Shown) → Within x → Within (pick shows x unsaid)
unfolding pick
within_if true x h = h
within_if false x h = unsaid_within

-- what a line's side owes: values within document 01's, a head in the upper row
pub record SideOk (name : List ℕ) (x : Side) : Type 0 where
  pub upper : all is_upper (head_text name x.letters) ≡ true
  pub owed : OwedSide x

-- THE SIDE COMES BACK, whatever the unit and the network, in full or short, the volume shown or not
pub side_back : (name : List ℕ) (network unit : ℕ) (form : PriceForm) (shows : Bool) (x : Side) (s : List ℕ) → SideOk name x → Ends s → read_side (side_text name network unit form shows x ++ s) ≡ found (side_shown name network unit form shows x) s
unfolding read_side side_text side_shown
side_back name network unit form shows x s o e =
    let t = tail_text x ++ s in
    let p = price_text form x.price ++ t in
    let v : Shown = pick shows (shown_of network unit x.volume) unsaid in
    let m : NoMore t = record { digit = tail_digit x s e.digit; dot = tail_dot x s e.dot } in
    let k : mark_at (figures 0 p).rest ≡ none = rw (run_is form x.price t m) (tail_mark x s e.mark) in
    let w : read_volume (shown_text v ++ p) ≡ found v p = shown_back v p (within_if shows _ (shown_within network unit x.volume o.owed.volume)) (lower_price form x.price t o.owed.priced) k in
    let u : span is_upper (head_text name x.letters ++ (shown_text v ++ p)) ≡ found (head_text name x.letters) (shown_text v ++ p) = span_all is_upper _ _ o.upper (lower_shown v p (lower_price form x.price t o.owed.priced)) in
    rw (append_assoc, append_assoc, append_assoc, shown_if shows network unit x.volume, u, w, price_back form x.price t o.owed.price.decimals m, tail_back x s o.owed.decimals e)

-- what follows a head is in the lower row
pub side_lower : (network unit v : ℕ) (form : PriceForm) (shows : Bool) (p : Price) (s : List ℕ) → 1 ≤ p.n → heads is_upper (opt shows (volume_text network unit v) ++ (price_text form p ++ s)) ≡ false
side_lower network unit v form shows p s h = rw (shown_if shows network unit v) (lower_shown (pick shows (shown_of network unit v) unsaid) (price_text form p ++ s) (lower_price form p s h))
