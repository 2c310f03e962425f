-- The conditions after a price and at the end come back from their text. Assumes nothing.
use Prim.Native.Nat.{ℕ, ◌≤◌}
use mathlib.Core.Path.{◌≡◌, refl}
use mathlib.Core.List.{List, ◌++◌, append_assoc}
use mathlib.Core.Bool.{Bool, true, false}
use mathlib.Core.Option.{none, some}
use Rattle.text.specs.Bytes.{bytes}
use Rattle.text.specs.Pick.{pick, opt}
use Rattle.text.specs.Reading.{found, heads, is_digit, starts, past}
use Rattle.text.proofs.Reading.{read_decimal, taken_opt, not_opt}
use Rattle.rules.specs.Price.{units}
use Rattle.rules.specs.Conditions.{after_price, seller_text, previous_text, at_end}
use Rattle.rules.specs.Side.{tail_text}
use Rattle.rules.specs.declared.Price.{Price}
use Rattle.rules.specs.declared.Side.{Side}
use Rattle.print_volume.specs.Reading.{mark_at}
use Rattle.text.specs.Reading.{dot_digit}
use Rattle.print_price.proofs.PriceBack.{NoMore, price_back, full_price_lem}
use Rattle.print_conditions.specs.Reading.{read_days, read_previous, read_tail, if_there, tail_of}
use Rattle.rules.specs.declared.PriceForm.TheVariants.{Full}

-- what may follow a side: nothing that goes on with any part of its tail
pub record Ends (s : List ℕ) : Type 0 where
  pub digit : heads is_digit s ≡ false
  pub cash : starts (bytes ",c") s ≡ false
  pub average : starts (bytes ",b") s ≡ false
  pub stopped : starts (bytes "t") s ≡ false
  pub seller : starts (bytes "SELLER") s ≡ false
  pub rule : starts (bytes "RULE127") s ≡ false
  pub previous : starts (bytes ">>PREV.LAST") s ≡ false
  pub dot : dot_digit s ≡ false
  pub mark : mark_at s ≡ none

days_no : (s : List ℕ) → starts (bytes "SELLER") s ≡ false → read_days s ≡ found none s
unfolding read_days
days_no s e = rw (e, read_days)

days_yes : (n : ℕ) (s : List ℕ) → heads is_digit s ≡ false → read_days (seller_text n ++ s) ≡ found (some n) s
unfolding read_days seller_text starts past
days_yes n s h = rw (read_decimal n s h)

pub days_back : (r : Bool) (n : ℕ) (s : List ℕ) → heads is_digit s ≡ false → starts (bytes "SELLER") s ≡ false → read_days (opt r (seller_text n) ++ s) ≡ found (if_there r n) s
unfolding opt pick
days_back true n s h k = days_yes n s h
days_back false n s h k = days_no s k

previous_no : (s : List ℕ) → starts (bytes ">>PREV.LAST") s ≡ false → read_previous s ≡ found none s
unfolding read_previous
previous_no s e = rw (e, read_previous)

pub pair_ends : (s : List ℕ) → NoMore (bytes ">>" ++ s)
unfolding is_digit dot_digit
pair_ends s = record { digit = refl; dot = refl }

previous_yes : (p : Price) (s : List ℕ) → p.d ≤ 8 → read_previous (previous_text p ++ s) ≡ found (some (units p)) s
unfolding read_previous previous_text starts past
previous_yes p s l = rw (append_assoc, price_back Full p (bytes ">>" ++ s) l (pair_ends s), full_price_lem p l)

pub previous_back : (g : Bool) (p : Price) (s : List ℕ) → p.d ≤ 8 → starts (bytes ">>PREV.LAST") s ≡ false → read_previous (opt g (previous_text p) ++ s) ≡ found (if_there g (units p)) s
unfolding opt pick
previous_back true p s l k = previous_yes p s l
previous_back false p s l k = previous_no s k

-- what a part that may be left out does not start
opt_head : (p : ℕ → Bool) (b : Bool) (q s : List ℕ) → heads p (q ++ s) ≡ false → heads p s ≡ false → heads p (opt b q ++ s) ≡ false
unfolding opt
opt_head p true q s h k = h
opt_head p false q s h k = k

seller_starts : (n : ℕ) (s : List ℕ) → (starts (bytes ",c") (seller_text n ++ s) ≡ false) × (starts (bytes ",b") (seller_text n ++ s) ≡ false) × (starts (bytes "t") (seller_text n ++ s) ≡ false)
unfolding seller_text starts
seller_starts n s = (refl, refl, refl)

previous_starts : (p : Price) (s : List ℕ) → (starts (bytes ",c") (previous_text p ++ s) ≡ false) × (starts (bytes ",b") (previous_text p ++ s) ≡ false) × (starts (bytes "t") (previous_text p ++ s) ≡ false) × (starts (bytes "SELLER") (previous_text p ++ s) ≡ false) × (starts (bytes "RULE127") (previous_text p ++ s) ≡ false) × (heads is_digit (previous_text p ++ s) ≡ false)
unfolding previous_text starts is_digit
previous_starts p s = (refl, refl, refl, refl, refl, refl)

-- THE TAIL COMES BACK
pub tail_back : (x : Side) (s : List ℕ) → x.previous.d ≤ 8 → Ends s → read_tail (tail_text x ++ s) ≡ found (tail_of x) s
unfolding read_tail tail_text after_price at_end tail_of
tail_back x s l e =
    let g = x.letters.g in
    let j = x.letters.j in
    let r = x.letters.r in
    let pt = previous_text x.previous in
    let st = seller_text x.days in
    let s3 = opt g pt ++ s in
    let s2 = opt j (bytes "RULE127") ++ s3 in
    let s1 = opt r st ++ s2 in
    let ps = previous_starts x.previous s in
    let ss = seller_starts x.days s2 in
    let rule3 : starts (bytes "RULE127") s3 ≡ false = not_opt g (bytes "RULE127") pt s ps.4 e.rule in
    let seller2 : starts (bytes "SELLER") s2 ≡ false = not_opt j (bytes "SELLER") (bytes "RULE127") s3 (unfold starts in refl) (not_opt g (bytes "SELLER") pt s ps.3 e.seller) in
    let digit2 : heads is_digit s2 ≡ false = opt_head is_digit j (bytes "RULE127") s3 (unfold is_digit in refl) (opt_head is_digit g pt s ps.5 e.digit) in
    let t2 : starts (bytes "t") s2 ≡ false = not_opt j (bytes "t") (bytes "RULE127") s3 (unfold starts in refl) (not_opt g (bytes "t") pt s ps.2 e.stopped) in
    let b2 : starts (bytes ",b") s2 ≡ false = not_opt j (bytes ",b") (bytes "RULE127") s3 (unfold starts in refl) (not_opt g (bytes ",b") pt s ps.1 e.average) in
    let c2 : starts (bytes ",c") s2 ≡ false = not_opt j (bytes ",c") (bytes "RULE127") s3 (unfold starts in refl) (not_opt g (bytes ",c") pt s ps.0 e.cash) in
    let t1 : starts (bytes "t") s1 ≡ false = not_opt r (bytes "t") st s2 ss.2 t2 in
    let b1 : starts (bytes ",b") s1 ≡ false = not_opt r (bytes ",b") st s2 ss.1 b2 in
    let c1 : starts (bytes ",c") s1 ≡ false = not_opt r (bytes ",c") st s2 ss.0 c2 in
    let bt : starts (bytes ",b") (opt x.letters.t (bytes "t") ++ s1) ≡ false = not_opt x.letters.t (bytes ",b") (bytes "t") s1 (unfold starts in refl) b1 in
    let ct : starts (bytes ",c") (opt x.letters.t (bytes "t") ++ s1) ≡ false = not_opt x.letters.t (bytes ",c") (bytes "t") s1 (unfold starts in refl) c1 in
    let cb : starts (bytes ",c") (opt x.letters.b (bytes ",b") ++ (opt x.letters.t (bytes "t") ++ s1)) ≡ false = not_opt x.letters.b (bytes ",c") (bytes ",b") _ (unfold starts in refl) ct in
    simp (append_assoc, taken_opt, days_back, previous_back, cb, bt, t1, digit2, seller2, rule3, e.previous, l)

-- whatever is so of each part of a tail, and of what follows, is so of a tail
module _ {A : Type 0} (f : List ℕ → A) (v : A) where
  opt_any : (b : Bool) (q s : List ℕ) → f (q ++ s) ≡ v → f s ≡ v → f (opt b q ++ s) ≡ v
  unfolding opt
  opt_any true q s h k = h
  opt_any false q s h k = k

  pub tail_any : (x : Side) (s : List ℕ) → ((t : List ℕ) → f (bytes ",c" ++ t) ≡ v) → ((t : List ℕ) → f (bytes ",b" ++ t) ≡ v) → ((t : List ℕ) → f (bytes "t" ++ t) ≡ v)
      → ((n : ℕ) (t : List ℕ) → f (seller_text n ++ t) ≡ v) → ((t : List ℕ) → f (bytes "RULE127" ++ t) ≡ v) → ((p : Price) (t : List ℕ) → f (previous_text p ++ t) ≡ v) → f s ≡ v → f (tail_text x ++ s) ≡ v
  unfolding tail_text after_price at_end
  tail_any x s c b t r j g e =
      simp append_assoc
      (opt_any _ _ _ (c _) (opt_any _ _ _ (b _) (opt_any _ _ _ (t _) (opt_any _ _ _ (r _ _) (opt_any _ _ _ (j _) (opt_any _ _ _ (g _ _) e))))))

pub tail_digit : (x : Side) (s : List ℕ) → heads is_digit s ≡ false → heads is_digit (tail_text x ++ s) ≡ false
unfolding seller_text previous_text is_digit
tail_digit x s h = tail_any (heads is_digit) false x s (λ t. refl) (λ t. refl) (λ t. refl) (λ n t. refl) (λ t. refl) (λ p t. refl) h

pub tail_dot : (x : Side) (s : List ℕ) → dot_digit s ≡ false → dot_digit (tail_text x ++ s) ≡ false
unfolding seller_text previous_text is_digit dot_digit
tail_dot x s h = tail_any dot_digit false x s (λ t. refl) (λ t. refl) (λ t. refl) (λ n t. refl) (λ t. refl) (λ p t. refl) h

pub tail_mark : (x : Side) (s : List ℕ) → mark_at s ≡ none → mark_at (tail_text x ++ s) ≡ none
unfolding seller_text previous_text mark_at starts pick
tail_mark x s h = tail_any mark_at none x s (λ t. refl) (λ t. refl) (λ t. refl) (λ n t. refl) (λ t. refl) (λ p t. refl) h
