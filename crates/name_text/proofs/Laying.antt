-- Laws of a field's text and of the letter dot before it. Assumes nothing.
use Prim.Native.Nat.{ℕ, suc, ◌+◌, ◌-◌, ◌*◌, ◌≤◌, ◌<◌}
use native.Mathlib.Nat.{not-suc-le-zero, zero-mul, mul-le-mul}
use native.Mathlib.Omega.{arith}
use mathlib.Core.Path.{◌≡◌, refl, ap, ◌∙◌}
use mathlib.Core.Bool.{Bool, true, false, ◌||◌, not}
use mathlib.Core.List.{List, [], ◌∷◌, ◌++◌}
use lib.ListN.{length, get_or, take, drop, set, length-drop, length-set, take-append-drop, drop_of_length-le}
use lib.Seq.{length-take-le, drop-cons}
use lib.Dec.{eqb}
use borrow.Author.Tests.{eqb-true, eqb-false, not-true, not-false}
use mir.Syntax.{w64}
use mir.Val.{Fits}
use Rattle.text.specs.Bytes.{bytes}
use Rattle.text.specs.Pick.{pick, opt, among}
use Rattle.text.specs.Put.{Written}
use Rattle.text.proofs.Parts.{front}
use Rattle.rules.specs.declared.Security.{Security}
use Rattle.rules.specs.Tape.{is_raised}
use Rattle.rules.specs.Columns.{word}
use Rattle.rules.specs.Names.{part_text, name_text}
use Rattle.rules.specs.Day.{shows_temporary}
use Rattle.name_words.specs.Word.{WordOf}
use Rattle.rules.proofs.Fields.{word_blank, word_byte}
use Rattle.name_words.proofs.Fields.{word_nothing}
use Rattle.name_text.specs.Laid.{Laid}
use Rattle.name_text.specs.Laid.{dot_text}
use Rattle.name_text.proofs.Layers.{laid_written, laid_nothing, laid_named, laid_front, laid_then}

-- ---- the text at a field's left

-- the columns from i on are looked at, and their text ends before column n
module _ (s : List ℕ) where
  pub from_end : WordOf (drop (length s) s) (length s - length s)
  from_end =
      let q : length s - length s ≡ 0 = omega arith in
      rw (q, drop_of_length-le s {i = length s} (omega arith)) (record { count_is = rw word_nothing; within = omega arith; text_is = word_nothing })

  module _ (i n : ℕ) (k : 0 < i) (l : i ≤ n) (h : n ≤ length s) where
    one_more : drop (i - 1) s ≡ get_or s (i - 1) 0 ∷ drop i s
    one_more = let q : suc (i - 1) ≡ i = omega arith in drop-cons s (i - 1) 0 (omega arith) ∙ rw q

    pub from_blank : get_or s (i - 1) 0 ≡ 32 → WordOf (drop (i - 1) s) (i - 1 - (i - 1))
    from_blank b =
        let q : i - 1 - (i - 1) ≡ 0 = omega arith in
        let e = word_blank (get_or s (i - 1) 0) (drop i s) b in
        rw (q, one_more) (record { count_is = rw e; within = omega arith; text_is = e })

    pub from_byte : WordOf (drop i s) (n - i) → (get_or s (i - 1) 0 ≡ 32 → ⊥) → WordOf (drop (i - 1) s) (n - (i - 1))
    from_byte w b =
        let q : n - (i - 1) ≡ suc (n - i) = omega arith in
        let e = word_byte (get_or s (i - 1) 0) (drop i s) b in
        rw (q, one_more) (record { count_is = rw e (ap suc w.count_is); within = omega (arith, w.within); text_is = e ∙ ap (λ (t : List ℕ). get_or s (i - 1) 0 ∷ t) w.text_is })

  pub from_start : (i n : ℕ) → WordOf (drop i s) (n - i) → i ≤ 0 → WordOf s n
  from_start i n w h = let q : i ≡ 0 = omega arith in let m : n - 0 ≡ n = omega arith in rw (q, m) at w

pub laid_word : {s b a : List ℕ} {m n : ℕ} → Written s b a m → WordOf s n → Laid (word s) b a n
laid_word {s} {b} {a} {m} {n} w h =
    let e : word s ++ drop n s ≡ s = rw h.text_is (take-append-drop n s) in
    laid_front (word s) (drop n s) n (laid_named e (laid_written w)) h.count_is

-- written from bytes of its own
pub own_word : {s z own b a : List ℕ} {k m n : ℕ} → Written s z own k → Written (take k own) b a m → WordOf s n → Laid (word s) b a n
own_word v w h = laid_word (rw (front v) at w) h

pub own_room : {s z own : List ℕ} {k : ℕ} (m : ℕ) → Written s z own k → length s ≤ m → length (take k own) ≤ m
own_room m v h = rw (front v) h

-- ---- the letter dot

-- 0 where either test holds
pub flags : (x y : ℕ) (p q : Bool) → x ≡ pick p 0 1 → y ≡ pick q 0 1 → x * y ≡ pick (p || q) 0 1
unfolding pick
flags x y p q e f = rw (e, f) (go p q)
  where
    go : (p q : Bool) → pick p 0 1 * pick q 0 1 ≡ pick (p || q) 0 1
    go true q = zero-mul (pick q 0 1)
    go false true = refl
    go false false = refl

pub flags_most : (x y : ℕ) → x ≤ 1 → y ≤ 1 → x * y ≤ 1
flags_most x y h k = mul-le-mul h k

pub flags_fit : (x y : ℕ) → x ≤ 1 → y ≤ 1 → Fits w64 (x * y)
flags_fit x y h k = let l = flags_most x y h k in omega arith

pub dot_length : (b : ℕ) (r : ℕ) → r ≡ pick (((eqb b 32 || eqb b 112) || eqb b 114) || eqb b 119) 0 1 → r ≡ length (dot_text b)
unfolding dot_text pick opt is_raised among
dot_length b r e = e ∙ go (eqb b 32) (eqb b 112) (eqb b 114) (eqb b 119)
  where
    go : (x p r w : Bool) → pick (((x || p) || r) || w) 0 1 ≡ length (pick x [] (opt (not (p || (r || (w || false)))) (bytes ".")))
    go true p r w = refl
    go false true r w = refl
    go false false true w = refl
    go false false false true = refl
    go false false false false = refl

-- the dot and the text are the part
part_dot : (s : List ℕ) → 1 ≤ length s → part_text (word s) ≡ dot_text (get_or s 0 0) ++ word s
unfolding part_text dot_text pick
part_dot [] h = absurd (not-suc-le-zero h)
part_dot (c ∷ s) h = go (eqb c 32) refl
  where
    go : (b : Bool) → eqb c 32 ≡ b → part_text (word (c ∷ s)) ≡ dot_text c ++ word (c ∷ s)
    go true e = rw (word_blank c s (eqb-true c 32 e), e)
    go false e = rw (word_byte c s (eqb-false c 32 e), e)

dot_front : (b : ℕ) (xs : List ℕ) → 1 ≤ length xs → take (length (dot_text b)) (set xs 0 46) ≡ dot_text b
unfolding dot_text pick opt
dot_front b [] h = absurd (not-suc-le-zero h)
dot_front b (x ∷ xs) h = go (eqb b 32) (is_raised b)
  where
    go : (p q : Bool) → take (length (pick p [] (opt (not q) (bytes ".")))) (46 ∷ xs) ≡ pick p [] (opt (not q) (bytes "."))
    go true q = refl
    go false true = refl
    go false false = refl

laid_dot : {b : List ℕ} {k : ℕ} (c : ℕ) → k ≡ length (dot_text c) → k ≤ 1 → 1 ≤ length b → Laid (dot_text c) b (set b 0 46) k
laid_dot {b} {k} c e l h = record { front = dot_front c b h; count_is = e; size = length-set b 0 46; within = omega arith }

pub laid_dotted : {b ys : List ℕ} {k n : ℕ} (s : List ℕ) → k ≡ length (dot_text (get_or s 0 0)) → k ≤ 1 → 1 ≤ length s → length s + 1 ≤ length b
    → Laid (word s) (take (length (set b 0 46) - k) (drop k (set b 0 46))) ys n
    → Laid (part_text (word s)) b (take k (set b 0 46) ++ (ys ++ drop (length (set b 0 46) - k) (drop k (set b 0 46)))) (k + n)
laid_dotted {b} {ys} {k} {n} s e l h i w = laid_named (part_dot s h) (laid_then (laid_dot (get_or s 0 0) e l (omega arith)) w)

-- ---- a part that may be left out

module _ (shown : Bool) (t b : List ℕ) where
  pub laid_hidden : not shown ≡ true → Laid (opt shown t) b b 0
  unfolding opt
  laid_hidden h = rw (not-true shown h) (laid_nothing b)

  pub laid_shown : (a : List ℕ) (r : ℕ) → not shown ≡ false → Laid t b a r → Laid (opt shown t) b a r
  unfolding opt
  laid_shown a r h w = rw (not-false shown h) w

blank_part : (s : List ℕ) → 1 ≤ length s → get_or s 0 0 ≡ 32 → part_text (word s) ≡ []
unfolding part_text
blank_part [] h e = absurd (not-suc-le-zero h)
blank_part (c ∷ s) h e = rw (word_blank c s e)

opt_nothing : (b : Bool) → opt b [] ≡ []
unfolding opt
opt_nothing true = refl
opt_nothing false = refl

pub laid_blank : (shown : Bool) (s b : List ℕ) → 1 ≤ length s → get_or s 0 0 ≡ 32 → Laid (opt shown (part_text (word s))) b b 0
laid_blank shown s b h e = rw (blank_part s h e, opt_nothing shown) (laid_nothing b)

-- ---- the name's parts

pub record Parts (name : List ℕ) : Type 0 where
  pub root : length (take 6 name) ≡ 6
  pub suffix : length (take 7 (drop 6 name)) ≡ 7
  pub temporary : length (take 4 (drop 13 name)) ≡ 4
  pub appendage : length (take 2 (drop 17 name)) ≡ 2

pub parts : (name : List ℕ) → length name ≡ 19 → Parts name
parts name h = record {
  root = length-take-le 6 name (omega arith);
  suffix = length-take-le 7 (drop 6 name) (omega (arith, length-drop 6 name));
  temporary = length-take-le 4 (drop 13 name) (omega (arith, length-drop 13 name));
  appendage = length-take-le 2 (drop 17 name) (omega (arith, length-drop 17 name));
}

pub told_name : (s : Security) (t : Bool) (name b a : List ℕ) (r : ℕ) → t ≡ shows_temporary s → Laid (name_text t name) b a r → Laid (name_text (shows_temporary s) name) b a r
told_name s t name b a r e w = rw e at w
